-- The text of a trail stays within a limit that each line fitted when it was admitted.
use Rattle.std.proofs.Common.{◌≡◌, ℕ, zero, suc, ◌≤◌, ◌<◌, ◌+◌, Bool, true, false, cond, List, [], ◌∷◌, ◌++◌, length, refl, ap, sym, ◌∙◌, inl, inr, arith, ◌⊎◌, subst, length-append, codes, decimal}
use Rattle.std.specs.Prelude.{sum_by}
use Rattle.std.specs.List.{range_with_len}
use Rattle.std.proofs.lemmas.Fmt.{length-decimal-le}
use Rattle.std.proofs.lemmas.List.Concat.{length-flat_map}
use Rattle.std.proofs.lemmas.List.Sums.{sum_by-append, sum_by-cons}
use Rattle.bl_work.specs.Names.{AreNames}
use Rattle.bl_work.specs.declared.work.Work.{Work}
use Rattle.bl_setup.specs.Setup.{Setup, by_version}
use Rattle.bl_setup.specs.declared.version.Version.{Version}
use Rattle.bl_setup.specs.declared.version.Version.TheVariants.{One, Two}
use Rattle.bl_order.specs.Headline.{IsReached}
use Rattle.bl_order.specs.Machine.{State, Event, Opens, Admits, Starts, Ends, Loses, IsTrail, change, has_ended, most_sessions, past_at, start, state_after}
use Rattle.bl_order.proofs.PlaceSums.{sum-less}
use Rattle.bl_order.proofs.Reached.{reached-first, reached-next, sound-reached}
use Rattle.bl_order.proofs.RoomProof.{LinesAskScripts, roomy-reached}
use Rattle.bl_trail.specs.EventText.{event_text}
use Rattle.bl_trail.specs.TrueText.{event_texts, head_lines, joined, trail_lines, version_line}
use Rattle.bl_sizes.specs.Sizes.{EachFits, FitsAlone, FitsIn, HoldsDocuments, coming_of, frame_size, full_size, head_most, size_at, written_at, written_size}
use Rattle.bl_sizes.proofs.Stepping.{full-next, limit-stays, setup-stays}
use Rattle.bl_sizes.proofs.Texts.{begun, begun_at, begun-within, sessions-step, text-step, told}

module _ (all : LinesAskScripts) where
  -- ---- what may come

  module _ (most : ℕ) where
    full-trail : (x : State) (es : List Event) → IsReached x → HoldsDocuments x.setup → IsTrail x es → EachFits most x es → full_size x ≤ most
        → full_size (state_after x es) ≤ most
    full-trail x [] r short t fits le = le
    full-trail x (Opens s ∷ es) r short t fits le =
        full-trail (change x (Opens s)) es (reached-next x (Opens s) r t.0) short t.1 fits (omega (arith, le, full-next all x (Opens s) r short t.0))
    full-trail x (Admits i o w ∷ es) r short t fits le =
        full-trail (change x (Admits i o w)) es (reached-next x (Admits i o w) r t.0) short t.1 fits.1 (omega (arith, fits.0, full-next all x (Admits i o w) r short t.0))
    full-trail x (Starts n ∷ es) r short t fits le =
        full-trail (change x (Starts n)) es (reached-next x (Starts n) r t.0) short t.1 fits (omega (arith, le, full-next all x (Starts n) r short t.0))
    full-trail x (Ends n ∷ es) r short t fits le =
        full-trail (change x (Ends n)) es (reached-next x (Ends n) r t.0) short t.1 fits (omega (arith, le, full-next all x (Ends n) r short t.0))
    full-trail x (Loses n ∷ es) r short t fits le =
        full-trail (change x (Loses n)) es (reached-next x (Loses n) r t.0) short t.1 fits (omega (arith, le, full-next all x (Loses n) r short t.0))

  -- ---- what is written

  -- the bytes of a line with its LF
  abbrev line_size : List ℕ → ℕ
  line_size line = length (line ++ 10 ∷ [])

  joined-size : (lines : List (List ℕ)) → length (joined lines) ≡ sum_by line_size lines
  joined-size lines = length-flat_map (λ line. line ++ 10 ∷ []) lines

  text-trail : (x : State) (es : List Event) → IsReached x → AreNames x.setup.names → x.limit ≤ 100000 → length x.sessions ≤ most_sessions → IsTrail x es
      → (told x + sum_by line_size (event_texts x es) ≤ told (state_after x es)) × (length (state_after x es).sessions ≤ most_sessions)
  text-trail x [] r are limited sessions t = (omega arith, sessions)
  text-trail x (e ∷ es) r are limited sessions t =
      let sound = sound-reached x r in
      let roomy = roomy-reached x all r in
      let later = text-trail (change x e) es (reached-next x e r t.0) (subst (λ (s : Setup). AreNames s.names) (sym (setup-stays x e)) are)
      (omega (arith, limited, limit-stays x e)) (sessions-step x sound roomy are limited sessions e t.0) t.1 in (
        omega (
          arith,
          later.0,
          text-step x sound roomy are limited sessions e t.0,
          sum_by-cons line_size (event_text x e) (event_texts (change x e) es),
          length-append (event_text x e) (10 ∷ []),
        ),
        later.1,
      )

  version-size : (version : Version) → line_size (version_line version) ≡ 8
  version-size One = refl
  version-size Two = refl

  head-size : (version : Version) (limit : ℕ) → limit ≤ 100000 → sum_by line_size (head_lines version limit) ≤ head_most
  head-size version limit few =
      omega (
        arith,
        sum_by-cons line_size (version_line version) ((codes "limit " ++ decimal limit) ∷ []),
        sum_by-cons line_size (codes "limit " ++ decimal limit) [],
        version-size version,
        length-append (codes "limit " ++ decimal limit) (10 ∷ []),
        length-append (codes "limit ") (decimal limit),
        length-decimal-le 6 limit (omega arith) (omega (arith, few)) (omega (arith, few)),
      )

  begun-written : (x : State) → begun x ≤ sum_by (written_at x) (range_with_len 0 (length x.order))
  begun-written x = sum-less (written_at x) (begun_at x) 0 (length x.order) (λ m above below. begun-within x m)

  -- the text of a trail is no longer than what is counted as written in the state that it leads to
  pub text-counted : (version : Version) (setup : Setup) (limit : ℕ) (es : List Event) → AreNames setup.names → limit ≤ 100000 → IsTrail (start (by_version version setup) limit) es
      → length (joined (trail_lines version setup limit es)) ≤ written_size (state_after (start (by_version version setup) limit) es)
  text-counted version setup limit es are limited t =
      let first = start (by_version version setup) limit in
      let texts = event_texts first es in
      let trail = text-trail first es (reached-first (by_version version setup) limit) are limited (omega arith) t in
      omega (
        arith,
        joined-size (trail_lines version setup limit es),
        sum_by-append line_size (head_lines version limit) (texts ++ codes "stop" ∷ []),
        sum_by-append line_size texts (codes "stop" ∷ []),
        sum_by-cons line_size (codes "stop") [],
        head-size version limit limited,
        trail.0,
        trail.1,
        begun-written (state_after first es),
      )

  written-full : (x : State) → written_size x ≤ full_size x
  written-full x =
      let less = sum-less (size_at x) (written_at x) 0 (length x.order) (λ m above below. omega arith) in
      omega (arith, less)

  pub text-within : (version : Version) (setup : Setup) (limit most : ℕ) (es : List Event) → AreNames setup.names → HoldsDocuments setup → limit ≤ 100000
      → IsTrail (start (by_version version setup) limit) es → frame_size ≤ most → EachFits most (start (by_version version setup) limit) es
      → length (joined (trail_lines version setup limit es)) ≤ most
  text-within version setup limit most es are short limited t room fits =
      let first = start (by_version version setup) limit in
      omega (
        arith,
        text-counted version setup limit es are limited t,
        written-full (state_after first es),
        full-trail most first es (reached-first (by_version version setup) limit) short t fits (omega (arith, room)),
      )

-- ---- waiting

-- one of the first so many places has not ended, or all of them have
unended : (x : State) (n : ℕ) → ((m : ℕ) × (m < n) × (has_ended x m ≡ false)) ⊎ ((m : ℕ) → m < n → has_ended x m ≡ true)
unended x zero = inr (λ m lt. absurd (omega (arith, lt)))
unended x (suc n) = go (has_ended x n) refl (unended x n)
  where
    go : (b : Bool) → has_ended x n ≡ b → ((m : ℕ) × (m < n) × (has_ended x m ≡ false)) ⊎ ((m : ℕ) → m < n → has_ended x m ≡ true)
        → ((m : ℕ) × (m < suc n) × (has_ended x m ≡ false)) ⊎ ((m : ℕ) → m < suc n → has_ended x m ≡ true)
    go false e before = inl (n, omega arith, e)
    go true e (inl found) = inl (found.0, omega (arith, found.1), found.2)
    go true e (inr all) = inr (λ m lt. last m (same_or_below m n lt) all)
      where
        same_or_below : (m n : ℕ) → m < suc n → (m ≡ n) ⊎ (m < n)
        same_or_below m n lt = grind arith

        last : (m : ℕ) → (m ≡ n) ⊎ (m < n) → ((m : ℕ) → m < n → has_ended x m ≡ true) → has_ended x m ≡ true
        last m (inl same) all = ap (has_ended x) same ∙ e
        last m (inr below) all = all m below

-- where all places have ended nothing more comes
full-written : (x : State) → ((m : ℕ) → m < length x.order → has_ended x m ≡ true) → full_size x ≤ written_size x
full-written x all =
    let less = sum-less (written_at x) (size_at x) 0 (length x.order) (λ m above below. ended m (all m (omega (arith, below)))) in
    omega (arith, less)
  where
    ended : (m : ℕ) → has_ended x m ≡ true → size_at x m ≤ written_at x m
    ended m e = omega (arith, ap (λ b. cond b 0 (coming_of (past_at x m).task)) e)

pub waits-for : (most : ℕ) (x : State) (w : Work) → FitsAlone most x w → ¬ FitsIn most x w → (n : ℕ) × (n < length x.order) × (has_ended x n ≡ false)
waits-for most x w alone not_in = go (unended x (length x.order))
  where
    go : ((m : ℕ) × (m < length x.order) × (has_ended x m ≡ false)) ⊎ ((m : ℕ) → m < length x.order → has_ended x m ≡ true)
        → (n : ℕ) × (n < length x.order) × (has_ended x n ≡ false)
    go (inl found) = found
    go (inr all) = absurd (not_in (omega (arith, alone, full-written x all)))
