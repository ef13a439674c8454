-- The tallies of sessions after each event.
use Rattle.std.proofs.Common.{◌≡◌, ◌≢◌, ℕ, zero, suc, ◌+◌, ◌-◌, ◌<◌, ◌≤◌, Bool, true, false, cond, ◌&&◌, ◌==◌, not, List, [], ◌∷◌, ◌++◌, length, get_or, set, refl, sym, ap, subst, ◌∙◌, arith, true≢false, inl, inr, ◌⊎◌, length-append, length-set, eqb-true, eq-eqb, ne_eqb, get_or-set_same, get_or-set_other}
use Rattle.std.specs.Prelude.{Some, None, slice_set, Option}
use Rattle.std.proofs.Math.ListN.{get_or-append}
use Rattle.std.proofs.lemmas.Bool.Decides.{eqb_tells}
use Rattle.bl_work.specs.declared.work.Work.{Work}
use Rattle.bl_order.specs.Headline.{IsReached}
use Rattle.bl_order.specs.Labels.{Tag, tag}
use Rattle.bl_order.specs.Machine.{State, Phase, Waiting, Ended, Session, Opens, Admits, Ends, change, children_at, has_ended, is_over, phase_at, session_at, runs, with_phase}
use Rattle.bl_order.specs.Order.{Entry, Line, Child}
use Rattle.bl_order.specs.Past.{no_entry}
use Rattle.bl_order.proofs.Reached.{sound-reached}
use Rattle.bl_order.proofs.Steps.{phases-set, running_is_not_over}
use Rattle.bl_order.proofs.Trails.{phases-admitted, phases-ended}
use Rattle.bl_hall.specs.declared.link.Link.{Link}
use Rattle.bl_hall.specs.declared.link.Tally.{Tally}
use Rattle.bl_hall.specs.Awaited.{awaited, awaited_below}
use Rattle.bl_hall.specs.Keeps.{AreTallies}
use Rattle.bl_hall.specs.Linked.{HaveEntered, Leads, earlier_in, is_line_of, lines_below, no_link, no_tally, tally_at}
use Rattle.bl_hall.proofs.Tags.{tag-grown, get-some, IsTagOf, tag-known, lawful}
use Rattle.bl_hall.proofs.Entering.{both, tag-new, length-longer, there, length-grown, tag-kid, no-line, spawned}
use Rattle.bl_hall.proofs.Ordered.{Each, each-as}
use Rattle.bl_hall.proofs.Leading.{leads-same}

-- ---- how many are awaited

-- whether the place is of the session and has not ended
abbrev pub is_awaited : State → ℕ → ℕ → Bool
is_awaited x s m = ((tag x.order m).session == s) && not (has_ended x m)

-- states that agree on the places below b
pub awaited-same : (x y : State) (s b : ℕ) → ((m : ℕ) → m < b → is_awaited y s m ≡ is_awaited x s m) → awaited_below y s b ≡ awaited_below x s b
awaited-same x y s zero same = refl
awaited-same x y s (suc b) same =
    ap (λ t. cond t (suc (awaited_below y s b)) (awaited_below y s b)) (same b (omega arith))
    ∙ ap (λ k. cond (is_awaited x s b) (suc k) k) (awaited-same x y s b (λ m lt. same m (omega (arith, lt))))

-- one place has ended
pub awaited-less : (x y : State) (s n b : ℕ) → n < b → ((m : ℕ) → m < b → m ≢ n → is_awaited y s m ≡ is_awaited x s m)
    → is_awaited x s n ≡ ((tag x.order n).session == s) → is_awaited y s n ≡ false
    → awaited_below x s b ≡ cond ((tag x.order n).session == s) (suc (awaited_below y s b)) (awaited_below y s b)
awaited-less x y s n zero lt same here gone = absurd (omega arith)
awaited-less x y s n (suc b) lt same here gone = go (last n b lt) (λ less. awaited-less x y s n b less (λ m l. same m (omega (arith, l))) here gone)
  where
    last : (n b : ℕ) → n < suc b → (n ≡ b) ⊎ (n < b)
    last n b lt = grind arith

    inner : (t u : Bool) (k j : ℕ) → j ≡ cond u (suc k) k → cond t (suc j) j ≡ cond u (suc (cond t (suc k) k)) (cond t (suc k) k)
    inner true true k j e = ap suc e
    inner true false k j e = ap suc e
    inner false true k j e = e
    inner false false k j e = e

    go : (n ≡ b) ⊎ (n < b) → (n < b → awaited_below x s b ≡ cond ((tag x.order n).session == s) (suc (awaited_below y s b)) (awaited_below y s b))
        → cond (is_awaited x s b) (suc (awaited_below x s b)) (awaited_below x s b)
        ≡ cond ((tag x.order n).session == s) (suc (cond (is_awaited y s b) (suc (awaited_below y s b)) (awaited_below y s b))) (cond (is_awaited y s b) (suc (awaited_below y s b)) (awaited_below y s b))
    go (inl e) deeper =
        ap (λ t. cond t (suc (awaited_below x s b)) (awaited_below x s b)) (ap (is_awaited x s) (sym e) ∙ here)
        ∙ ap (λ k. cond ((tag x.order n).session == s) (suc k) k) (sym (awaited-same x y s b (λ m l. same m (omega (arith, l)) (λ f. omega (arith, f, e, l)))))
        ∙ ap (λ t. cond ((tag x.order n).session == s) (suc (cond t (suc (awaited_below y s b)) (awaited_below y s b))) (cond t (suc (awaited_below y s b)) (awaited_below y s b)))
        (sym (ap (is_awaited y s) (sym e) ∙ gone))
    go (inr less) deeper =
        ap (λ t. cond t (suc (awaited_below x s b)) (awaited_below x s b)) (sym (same b (omega arith) (λ f. omega (arith, f, less))))
        ∙ inner (is_awaited y s b) ((tag x.order n).session == s) (awaited_below y s b) (awaited_below x s b) (deeper less)

-- so many places more, all of one session
pub awaited-more : (y : State) (s t from k : ℕ) → ((i : ℕ) → i < k → is_awaited y s (from + i) ≡ (t == s))
    → awaited_below y s (from + k) ≡ cond (t == s) (k + awaited_below y s from) (awaited_below y s from)
awaited-more y s t from zero more = ap (awaited_below y s) (plus_zero from) ∙ either (t == s) (awaited_below y s from)
  where
    plus_zero : (a : ℕ) → a + 0 ≡ a
    plus_zero a = omega arith

    either : (b : Bool) (a : ℕ) → a ≡ cond b (0 + a) a
    either true a = omega arith
    either false a = refl
awaited-more y s t from (suc k) more =
    ap (awaited_below y s) (plus_suc from k)
    ∙ ap (λ b. cond b (suc (awaited_below y s (from + k))) (awaited_below y s (from + k))) (more k (omega arith))
    ∙ inner (t == s) (awaited_below y s (from + k)) (awaited_below y s from) k (awaited-more y s t from k (λ i lt. more i (omega (arith, lt))))
  where
    plus_suc : (a b : ℕ) → a + suc b ≡ suc (a + b)
    plus_suc a b = omega arith

    inner : (b : Bool) (j a k : ℕ) → j ≡ cond b (k + a) a → cond b (suc j) j ≡ cond b (suc k + a) a
    inner true j a k e = omega (arith, e)
    inner false j a k e = e

-- no more than there are places
pub awaited-most : (y : State) (s b : ℕ) → awaited_below y s b ≤ b
awaited-most y s zero = omega arith
awaited-most y s (suc b) = go (is_awaited y s b) (awaited-most y s b)
  where
    go : (t : Bool) → awaited_below y s b ≤ b → cond t (suc (awaited_below y s b)) (awaited_below y s b) ≤ suc b
    go true h = omega (arith, h)
    go false h = omega (arith, h)

-- no place is of the session
pub awaited-none : (y : State) (s b : ℕ) → ((m : ℕ) → m < b → (tag y.order m).session ≢ s) → awaited_below y s b ≡ 0
awaited-none y s zero none = refl
awaited-none y s (suc b) none =
    ap (λ t. cond (t && not (has_ended y b)) (suc (awaited_below y s b)) (awaited_below y s b)) (ne_eqb (tag y.order b).session s (none b (omega arith)))
    ∙ awaited-none y s b (λ m lt. none m (omega (arith, lt)))

-- where none is awaited each place of the session has ended, and where some is one has not
pub none-awaited : (y : State) (s b : ℕ) → awaited_below y s b ≡ 0 → (m : ℕ) → m < b → (tag y.order m).session ≡ s → has_ended y m ≡ true
none-awaited y s zero e m lt of = absurd (omega arith)
none-awaited y s (suc b) e m lt of = go (is_awaited y s b) refl (last m b lt) (λ f less. none-awaited y s b f m less of)
  where
    last : (n b : ℕ) → n < suc b → (n ≡ b) ⊎ (n < b)
    last n b lt = grind arith

    ended : (t u : Bool) → t ≡ true → (t && not u) ≡ false → u ≡ true
    ended true true h k = refl
    ended true false h k = absurd (true≢false k)
    ended false u h k = absurd (true≢false (sym h))

    go : (t : Bool) → is_awaited y s b ≡ t → (m ≡ b) ⊎ (m < b) → (awaited_below y s b ≡ 0 → m < b → has_ended y m ≡ true) → has_ended y m ≡ true
    go true is way deeper = absurd (no_suc (awaited_below y s b) (sym (ap (λ t. cond t (suc (awaited_below y s b)) (awaited_below y s b)) is) ∙ e))
      where
        no_suc : (k : ℕ) → suc k ≡ 0 → ⊥
        no_suc k f = omega (arith, f)
    go false is (inl same) deeper =
        ap (has_ended y) same ∙ ended ((tag y.order b).session == s) (has_ended y b) (eq-eqb (tag y.order b).session s (ap (λ k. (tag y.order k).session) (sym same) ∙ of)) is
    go false is (inr less) deeper = deeper (sym (ap (λ t. cond t (suc (awaited_below y s b)) (awaited_below y s b)) is) ∙ e) less

pub some-awaited : (y : State) (s b : ℕ) → 0 < awaited_below y s b → (m : ℕ) × (m < b) × ((tag y.order m).session ≡ s) × (has_ended y m ≡ false)
some-awaited y s zero some = absurd (omega arith)
some-awaited y s (suc b) some = go (is_awaited y s b) refl (λ f. some-awaited y s b f)
  where
    unended : (u : Bool) → not u ≡ true → u ≡ false
    unended true h = absurd (true≢false (sym h))
    unended false h = refl

    go : (t : Bool) → is_awaited y s b ≡ t → (0 < awaited_below y s b → (m : ℕ) × (m < b) × ((tag y.order m).session ≡ s) × (has_ended y m ≡ false))
        → (m : ℕ) × (m < suc b) × ((tag y.order m).session ≡ s) × (has_ended y m ≡ false)
    go true is deeper =
        let parts = both ((tag y.order b).session == s) (not (has_ended y b)) is in
        (b, omega arith, eqb-true (tag y.order b).session s parts.0, unended (has_ended y b) parts.1)
    go false is deeper =
        let h = deeper (subst (λ k. 0 < k) (ap (λ t. cond t (suc (awaited_below y s b)) (awaited_below y s b)) is) some) in
        (h.0, omega (arith, h.1), h.2, h.3)

-- ---- the lines of a session

pub lines-members : (A : List Entry) (s b : ℕ) → Each (λ m. m < b) (lines_below A s b)
lines-members A s zero = tt
lines-members A s (suc b) = go (is_line_of s (get_or A b no_entry)) (each-as (λ m. m < b) (λ m. m < suc b) (lines_below A s b) (λ m h. omega (arith, h)) (lines-members A s b))
  where
    go : (t : Bool) → Each (λ m. m < suc b) (lines_below A s b) → Each (λ m. m < suc b) (cond t (b ∷ lines_below A s b) (lines_below A s b))
    go true h = (omega arith, h)
    go false h = h

pub lines-grown : (A more : List Entry) (s b : ℕ) → b ≤ length A → lines_below (A ++ more) s b ≡ lines_below A s b
lines-grown A more s zero le = refl
lines-grown A more s (suc b) le =
    ap (λ e. cond (is_line_of s e) (b ∷ lines_below (A ++ more) s b) (lines_below (A ++ more) s b)) (get_or-append A more no_entry b le)
    ∙ ap (λ l. cond (is_line_of s (get_or A b no_entry)) (b ∷ l) l) (lines-grown A more s b (omega arith))

pub lines-skip : (A : List Entry) (s from k : ℕ) → ((i : ℕ) → i < k → is_line_of s (get_or A (from + i) no_entry) ≡ false) → lines_below A s (from + k) ≡ lines_below A s from
lines-skip A s from zero none = ap (lines_below A s) (omega arith)
lines-skip A s from (suc k) none =
    let e : from + suc k ≡ suc (from + k) = omega arith in
    ap (lines_below A s) e
    ∙ ap (λ b. cond b ((from + k) ∷ lines_below A s (from + k)) (lines_below A s (from + k))) (none k (omega arith))
    ∙ lines-skip A s from k (λ i lt. none i (omega (arith, lt)))

pub tally-set : (ts : List Tally) (s j : ℕ) (t : Tally) → s < length ts → tally_at (slice_set ts s t) j ≡ cond (j == s) t (tally_at ts j)
tally-set ts s j t lt = go (eqb_tells j s)
  where
    go : (((j == s) ≡ true) × (j ≡ s)) ⊎ (((j == s) ≡ false) × (j ≡ s → ⊥)) → get_or (set ts s t) j no_tally ≡ cond (j == s) t (get_or ts j no_tally)
    go (inl e) =
        ap (λ k. get_or (set ts s t) k no_tally) e.1 ∙ get_or-set_same ts s t no_tally lt ∙ ap (λ b. cond b t (get_or ts j no_tally)) (sym e.0)
    go (inr e) = get_or-set_other ts s j t no_tally e.1 ∙ ap (λ b. cond b t (get_or ts j no_tally)) (sym e.0)

module _ (x : State) (r : IsReached x) (links : List Link) (tallies : List Tally) (are : AreTallies x links tallies) where
  -- ---- a session is opened

  pub tallies-opened : (u : ℕ) → AreTallies (change x (Opens u)) links (tallies ++ record { awaited = 0; line = None } ∷ [])
  tallies-opened u = record {
    as_many = omega (arith, length-append tallies (new ∷ []), length-append x.sessions (born ∷ []), are.as_many);
    awaited = λ s lt. go s lt (last s (length x.sessions) (omega (arith, lt, length-append x.sessions (born ∷ []))));
    lines = λ s lt. back s lt (last s (length x.sessions) (omega (arith, lt, length-append x.sessions (born ∷ []))));
  }
    where
      new : Tally
      new = record { awaited = 0; line = None }

      born : Session
      born = record { subject = u; last = 0 }

      last : (n b : ℕ) → n < suc b → (n ≡ b) ⊎ (n < b)
      last n b lt = grind arith

      at_end : (ts : List Tally) (t : Tally) → get_or (ts ++ t ∷ []) (length ts) no_tally ≡ t
      at_end [] t = refl
      at_end (y ∷ ts) t = at_end ts t

      newest : (s : ℕ) → s ≡ length x.sessions → tally_at (tallies ++ new ∷ []) s ≡ new
      newest s e = ap (tally_at (tallies ++ new ∷ [])) (e ∙ sym are.as_many) ∙ at_end tallies new

      older : (s : ℕ) → s < length x.sessions → tally_at (tallies ++ new ∷ []) s ≡ tally_at tallies s
      older s lt = get_or-append tallies (new ∷ []) no_tally s (omega (arith, lt, are.as_many))

      stays : (s : ℕ) → awaited (change x (Opens u)) s ≡ awaited x s
      stays s = awaited-same x (change x (Opens u)) s (length x.order) (λ m lt. refl)

      no-lines : (s b : ℕ) → s ≡ length x.sessions → b ≤ length x.order → lines_below x.order s b ≡ []
      no-lines s b e le =
          ap (lines_below x.order s) (zero_plus b) ∙ lines-skip x.order s 0 b (λ i lt. go_entry i (omega (arith, lt, le)) (get_or x.order (0 + i) no_entry) refl)
        where
          zero_plus : (a : ℕ) → a ≡ 0 + a
          zero_plus a = omega arith

          go_entry : (i : ℕ) → 0 + i < length x.order → (f : Entry) → get_or x.order (0 + i) no_entry ≡ f → is_line_of s (get_or x.order (0 + i) no_entry) ≡ false
          go_entry i lt (Line t k v w) f =
              let known : (t < length x.sessions) × (k ≤ (session_at x t).last) = (lawful x r).numbered (0 + i) t k v w (get-some x.order (0 + i) lt ∙ ap Some f) in
              ap (is_line_of s) f ∙ ne_eqb t s (λ h. omega (arith, known.0, h, e))
          go_entry i lt (Child p w) f = ap (is_line_of s) f

      go : (s : ℕ) → s < length (change x (Opens u)).sessions → (s ≡ length x.sessions) ⊎ (s < length x.sessions) → (tally_at (tallies ++ new ∷ []) s).awaited ≡ awaited (change x (Opens u)) s
      go s lt (inl e) =
          ap (λ (t : Tally). t.awaited) (newest s e)
          ∙ sym (stays s ∙ awaited-none x s (length x.order) (λ m l f. let h : IsTagOf x (tag x.order m) = tag-known x r m l in omega (arith, h.opened, f, e)))
      go s lt (inr old) = ap (λ (t : Tally). t.awaited) (older s old) ∙ are.awaited s old ∙ sym (stays s)

      back : (s : ℕ) → s < length (change x (Opens u)).sessions → (s ≡ length x.sessions) ⊎ (s < length x.sessions)
          → Leads (earlier_in links) (tally_at (tallies ++ new ∷ []) s).line (lines_below x.order s (length x.order))
      back s lt (inl e) =
          subst (Leads (earlier_in links) (tally_at (tallies ++ new ∷ []) s).line) (sym (no-lines s (length x.order) e (omega arith))) (ap (λ (t : Tally). t.line) (newest s e))
      back s lt (inr old) = subst (λ (t : Tally). Leads (earlier_in links) t.line (lines_below x.order s (length x.order))) (sym (older s old)) (are.lines s old)

  -- ---- a line is admitted

  module _ (s o : ℕ) (w : Work) (open_ : s < length x.sessions) (above : (session_at x s).last < o) (few : length links ≡ length x.order) where
    abbrev u : ℕ
    u = (session_at x s).subject

    abbrev new : Tally
    new = record { awaited = (tally_at tallies s).awaited + 1; line = Some (length x.order) }

    abbrev link : Link
    link = record { session = s; next = None; earlier = (tally_at tallies s).line }

    abbrev y : State
    y = change x (Admits s o w)

    old-link : (m : ℕ) → m < length x.order → earlier_in (links ++ link ∷ []) m ≡ earlier_in links m
    old-link m lt = ap (λ (l : Link). l.earlier) (get_or-append links (link ∷ []) no_link m (omega (arith, lt, few)))

    new-link : earlier_in (links ++ link ∷ []) (length x.order) ≡ (tally_at tallies s).line
    new-link = ap (earlier_in (links ++ link ∷ [])) (sym few) ∙ ap (λ (l : Link). l.earlier) (at_end links link)
      where
        at_end : (ls : List Link) (l : Link) → get_or (ls ++ l ∷ []) (length ls) no_link ≡ l
        at_end [] l = refl
        at_end (k ∷ ls) l = at_end ls l

    count : (j : ℕ) → awaited y j ≡ cond (s == j) (1 + awaited x j) (awaited x j)
    count j =
        ap (awaited_below y j) (length-longer x r s o u w above ∙ omega arith)
        ∙ awaited-more y j s (length x.order) 1 (λ i lt. fresh i (omega (arith, lt)))
        ∙ ap (λ k. cond (s == j) (1 + k) k) (awaited-same x y j (length x.order) (λ m lt. same m lt))
      where
        with_true : (b : Bool) → (b && true) ≡ b
        with_true true = refl
        with_true false = refl

        waits : (m : ℕ) → length x.order ≤ m → has_ended y m ≡ false
        waits m le = ap is_over (phases-admitted x (sound-reached x r) s o w m) ∙ ap is_over (past_end x.phases m (subst (λ k. k ≤ m) (sym (sound-reached x r).as_many) le))
          where
            past_end : (ps : List Phase) (m : ℕ) → length ps ≤ m → get_or ps m Waiting ≡ Waiting
            past_end [] m le = refl
            past_end (p ∷ ps) zero le = absurd (omega arith)
            past_end (p ∷ ps) (suc m) le = past_end ps m (omega arith)

        fresh : (i : ℕ) → i ≡ 0 → is_awaited y j (length x.order + i) ≡ (s == j)
        fresh i e =
            ap (λ k. is_awaited y j (length x.order + k)) e ∙ ap (is_awaited y j) (omega arith)
            ∙ ap (λ (t : Tag). (t.session == j) && not (has_ended y (length x.order))) (tag-new x r s o u w above)
            ∙ ap (λ b. (s == j) && not b) (waits (length x.order) (omega arith)) ∙ with_true (s == j)

        same : (m : ℕ) → m < length x.order → is_awaited y j m ≡ is_awaited x j m
        same m lt =
            ap (λ (t : Tag). (t.session == j) && not (has_ended y m)) (tag-grown x.order (Line s o u w ∷ []) m lt)
            ∙ ap (λ p. ((tag x.order m).session == j) && not (is_over p)) (phases-admitted x (sound-reached x r) s o w m)

    lines-are : (j : ℕ) → lines_below y.order j (length y.order) ≡ cond (s == j) (length x.order ∷ lines_below x.order j (length x.order)) (lines_below x.order j (length x.order))
    lines-are j =
        ap (lines_below y.order j) (length-longer x r s o u w above)
        ∙ ap (λ e. cond (is_line_of j e) (length x.order ∷ lines_below y.order j (length x.order)) (lines_below y.order j (length x.order))) (last-entry x.order (Line s o u w))
        ∙ ap (λ l. cond (s == j) (length x.order ∷ l) l) (lines-grown x.order (Line s o u w ∷ []) j (length x.order) (omega arith))
      where
        last-entry : (A : List Entry) (e : Entry) → get_or (A ++ e ∷ []) (length A) no_entry ≡ e
        last-entry [] e = refl
        last-entry (f ∷ A) e = last-entry A e

    leads-still : (j : ℕ) (at : Option ℕ) → Leads (earlier_in links) at (lines_below x.order j (length x.order)) → Leads (earlier_in (links ++ link ∷ [])) at (lines_below x.order j (length x.order))
    leads-still j at l =
        leads-same (earlier_in links) (earlier_in (links ++ link ∷ [])) at (lines_below x.order j (length x.order))
        (each-as (λ m. m < length x.order) (λ m. earlier_in (links ++ link ∷ []) m ≡ earlier_in links m) (lines_below x.order j (length x.order)) (λ m lt. old-link m lt) (lines-members x.order j (length x.order)))
        l

    pub tallies-admitted : AreTallies y (links ++ link ∷ []) (slice_set tallies s new)
    tallies-admitted = record {
      as_many = length-set tallies s new ∙ are.as_many ∙ sym (length-set x.sessions s (record (session_at x s) { last = o }));
      awaited = λ j lt. counts j (omega (arith, lt, length-set x.sessions s (record (session_at x s) { last = o }))) (eqb_tells s j);
      lines = λ j lt. leads j (omega (arith, lt, length-set x.sessions s (record (session_at x s) { last = o }))) (eqb_tells s j);
    }
      where
        swap : (s j : ℕ) → (((s == j) ≡ true) × (s ≡ j)) ⊎ (((s == j) ≡ false) × (s ≡ j → ⊥)) → (j == s) ≡ (s == j)
        swap s j (inl e) = eq-eqb j s (sym e.1) ∙ sym e.0
        swap s j (inr e) = ne_eqb j s (λ f. e.1 (sym f)) ∙ sym e.0

        at_j : (j : ℕ) → j < length x.sessions → (b : Bool) → (s == j) ≡ b → tally_at (slice_set tallies s new) j ≡ cond b new (tally_at tallies j)
        at_j j lt b e =
            tally-set tallies s j new (omega (arith, open_, are.as_many)) ∙ ap (λ t. cond t new (tally_at tallies j)) (swap s j (eqb_tells s j) ∙ e)

        counts : (j : ℕ) → j < length x.sessions → (((s == j) ≡ true) × (s ≡ j)) ⊎ (((s == j) ≡ false) × (s ≡ j → ⊥)) → (tally_at (slice_set tallies s new) j).awaited ≡ awaited y j
        counts j lt (inl e) =
            let old : (tally_at tallies j).awaited ≡ awaited x j = are.awaited j lt in
            let now : awaited y j ≡ 1 + awaited x j = count j ∙ ap (λ t. cond t (1 + awaited x j) (awaited x j)) e.0 in
            ap (λ (t : Tally). t.awaited) (at_j j lt true e.0) ∙ ap (λ k. (tally_at tallies k).awaited + 1) e.1 ∙ omega (arith, old, now)
        counts j lt (inr e) =
            ap (λ (t : Tally). t.awaited) (at_j j lt false e.0) ∙ are.awaited j lt ∙ sym (count j ∙ ap (λ t. cond t (1 + awaited x j) (awaited x j)) e.0)

        leads : (j : ℕ) → j < length x.sessions → (((s == j) ≡ true) × (s ≡ j)) ⊎ (((s == j) ≡ false) × (s ≡ j → ⊥))
            → Leads (earlier_in (links ++ link ∷ [])) (tally_at (slice_set tallies s new) j).line (lines_below y.order j (length y.order))
        leads j lt (inl e) =
            subst (λ l. Leads (earlier_in (links ++ link ∷ [])) (tally_at (slice_set tallies s new) j).line l)
            (sym (lines-are j ∙ ap (λ t. cond t (length x.order ∷ lines_below x.order j (length x.order)) (lines_below x.order j (length x.order))) e.0)) (
              ap (λ (t : Tally). t.line) (at_j j lt true e.0),
              subst (λ a. Leads (earlier_in (links ++ link ∷ [])) a (lines_below x.order j (length x.order))) (sym (new-link ∙ ap (λ k. (tally_at tallies k).line) e.1)) (leads-still j (tally_at tallies j).line (are.lines j lt)),
            )
        leads j lt (inr e) =
            subst (λ l. Leads (earlier_in (links ++ link ∷ [])) (tally_at (slice_set tallies s new) j).line l)
            (sym (lines-are j ∙ ap (λ t. cond t (length x.order ∷ lines_below x.order j (length x.order)) (lines_below x.order j (length x.order))) e.0))
            (subst (λ (t : Tally). Leads (earlier_in (links ++ link ∷ [])) t.line (lines_below x.order j (length x.order))) (sym (at_j j lt false e.0)) (leads-still j (tally_at tallies j).line (are.lines j lt)))

  -- ---- a place gets a phase

  module _ (n : ℕ) (inside : n < length x.order) (unended : has_ended x n ≡ false) (p : Phase) where
    abbrev z : State
    z = with_phase x n p

    pub ends : (m : ℕ) → has_ended z m ≡ cond (m == n) (is_over p) (has_ended x m)
    ends m = ap is_over (phases-set x.phases n m p (subst (λ k. n < k) (sym (sound-reached x r).as_many) inside)) ∙ under (m == n)
      where
        under : (b : Bool) → is_over (cond b p (phase_at x m)) ≡ cond b (is_over p) (has_ended x m)
        under true = refl
        under false = refl

    other : (j m : ℕ) → m ≢ n → is_awaited z j m ≡ is_awaited x j m
    other j m ne = ap (λ e. ((tag x.order m).session == j) && not e) (ends m ∙ ap (λ b. cond b (is_over p) (has_ended x m)) (ne_eqb m n ne))

    itself : (j : ℕ) → is_awaited z j n ≡ (((tag x.order n).session == j) && not (is_over p))
    itself j = ap (λ e. ((tag x.order n).session == j) && not e) (ends n ∙ ap (λ b. cond b (is_over p) (has_ended x n)) (eq-eqb n n refl))

    with_true : (b : Bool) → (b && true) ≡ b
    with_true true = refl
    with_true false = refl

    with_false : (b : Bool) → (b && false) ≡ false
    with_false true = refl
    with_false false = refl

    here : (j : ℕ) → is_awaited x j n ≡ ((tag x.order n).session == j)
    here j = ap (λ e. ((tag x.order n).session == j) && not e) unended ∙ with_true ((tag x.order n).session == j)

    -- it has not ended: nothing is counted
    pub tallies-run : is_over p ≡ false → AreTallies z links tallies
    tallies-run open_ = record {
      as_many = are.as_many;
      awaited = λ j lt. are.awaited j lt ∙ sym (awaited-same x z j (length x.order) (λ m l. go j m (eqb_tells m n)));
      lines = are.lines;
    }
      where
        go : (j m : ℕ) → (((m == n) ≡ true) × (m ≡ n)) ⊎ (((m == n) ≡ false) × (m ≡ n → ⊥)) → is_awaited z j m ≡ is_awaited x j m
        go j m (inl e) = ap (is_awaited z j) e.1 ∙ itself j ∙ ap (λ t. ((tag x.order n).session == j) && not t) open_ ∙ with_true ((tag x.order n).session == j) ∙ sym (here j) ∙ ap (is_awaited x j) (sym e.1)
        go j m (inr e) = other j m e.1

    -- it has ended: one less is awaited
    pub less-awaited : is_over p ≡ true → (j : ℕ) → awaited x j ≡ cond ((tag x.order n).session == j) (suc (awaited z j)) (awaited z j)
    less-awaited over j =
        awaited-less x z j n (length x.order) inside (λ m l ne. other j m ne) (here j)
        (itself j ∙ ap (λ t. ((tag x.order n).session == j) && not t) over ∙ with_false ((tag x.order n).session == j))

    pub some-here : is_over p ≡ true → 0 < awaited x (tag x.order n).session
    some-here over =
        subst (λ k. 0 < k)
        (sym (less-awaited over (tag x.order n).session ∙ ap (λ b. cond b (suc (awaited z (tag x.order n).session)) (awaited z (tag x.order n).session)) (eq-eqb (tag x.order n).session (tag x.order n).session refl)))
        (omega arith)

    pub tallies-ended : is_over p ≡ true → (s : ℕ) → s ≡ (tag x.order n).session
        → AreTallies z links (slice_set tallies s (record { awaited = (tally_at tallies s).awaited - 1; line = (tally_at tallies s).line }))
    tallies-ended over s of = record {
      as_many = length-set tallies s new ∙ are.as_many;
      awaited = λ j lt. go j lt (eqb_tells j s);
      lines = λ j lt. back j lt (eqb_tells j s);
    }
      where
        new : Tally
        new = record { awaited = (tally_at tallies s).awaited - 1; line = (tally_at tallies s).line }

        open_ : s < length tallies
        open_ = let h : IsTagOf x (tag x.order n) = tag-known x r n inside in omega (arith, h.opened, of, are.as_many)

        at_j : (j : ℕ) (b : Bool) → (j == s) ≡ b → tally_at (slice_set tallies s new) j ≡ cond b new (tally_at tallies j)
        at_j j b e = tally-set tallies s j new open_ ∙ ap (λ t. cond t new (tally_at tallies j)) e

        go : (j : ℕ) → j < length x.sessions → (((j == s) ≡ true) × (j ≡ s)) ⊎ (((j == s) ≡ false) × (j ≡ s → ⊥)) → (tally_at (slice_set tallies s new) j).awaited ≡ awaited z j
        go j lt (inl e) =
            let old : (tally_at tallies j).awaited ≡ awaited x j = are.awaited j lt in
            let now : awaited x j ≡ suc (awaited z j) = less-awaited over j ∙ ap (λ b. cond b (suc (awaited z j)) (awaited z j)) (eq-eqb (tag x.order n).session j (sym (e.1 ∙ of))) in
            ap (λ (t : Tally). t.awaited) (at_j j true e.0) ∙ ap (λ k. (tally_at tallies k).awaited - 1) (sym e.1) ∙ omega (arith, old, now)
        go j lt (inr e) =
            ap (λ (t : Tally). t.awaited) (at_j j false e.0) ∙ are.awaited j lt ∙ less-awaited over j
            ∙ ap (λ b. cond b (suc (awaited z j)) (awaited z j)) (ne_eqb (tag x.order n).session j (λ f. e.1 (sym f ∙ sym of)))

        back : (j : ℕ) → j < length x.sessions → (((j == s) ≡ true) × (j ≡ s)) ⊎ (((j == s) ≡ false) × (j ≡ s → ⊥))
            → Leads (earlier_in links) (tally_at (slice_set tallies s new) j).line (lines_below x.order j (length x.order))
        back j lt (inl e) =
            subst (λ (t : Tally). Leads (earlier_in links) t.line (lines_below x.order j (length x.order))) (sym (at_j j true e.0))
            (subst (λ k. Leads (earlier_in links) (tally_at tallies k).line (lines_below x.order j (length x.order))) e.1 (are.lines j lt))
        back j lt (inr e) = subst (λ (t : Tally). Leads (earlier_in links) t.line (lines_below x.order j (length x.order))) (sym (at_j j false e.0)) (are.lines j lt)

  -- ---- a place ends, and its children enter

  module _ (n : ℕ) (running : runs x n ≡ true) (after : List Link) (few : length links ≡ length x.order) (has : HaveEntered links n (length (spawned x r n running)) after) where
    abbrev v : State
    v = change x (Ends n)

    abbrev c : ℕ
    c = length (spawned x r n running)

    inside : n < length x.order
    inside = there x r n running

    unended : has_ended x n ≡ false
    unended = running_is_not_over (phase_at x n) running

    ends-v : (m : ℕ) → has_ended v m ≡ cond (m == n) true (has_ended x m)
    ends-v m = ap is_over (phases-ended x (sound-reached x r) n running m) ∙ under (m == n)
      where
        under : (b : Bool) → is_over (cond b Ended (phase_at x m)) ≡ cond b true (has_ended x m)
        under true = refl
        under false = refl

    old-tag : (m : ℕ) → m < length x.order → tag v.order m ≡ tag x.order m
    old-tag m lt = tag-grown x.order (children_at x n) m lt

    other-v : (j m : ℕ) → m < length x.order → m ≢ n → is_awaited v j m ≡ is_awaited x j m
    other-v j m lt ne =
        ap (λ (t : Tag). (t.session == j) && not (has_ended v m)) (old-tag m lt)
        ∙ ap (λ e. ((tag x.order m).session == j) && not e) (ends-v m ∙ ap (λ b. cond b true (has_ended x m)) (ne_eqb m n ne))

    gone : (j : ℕ) → is_awaited v j n ≡ false
    gone j =
        ap (λ e. ((tag v.order n).session == j) && not e) (ends-v n ∙ ap (λ b. cond b true (has_ended x n)) (eq-eqb n n refl))
        ∙ with_false' ((tag v.order n).session == j)
      where
        with_false' : (b : Bool) → (b && false) ≡ false
        with_false' true = refl
        with_false' false = refl

    kid : (j i : ℕ) → i < c → is_awaited v j (length x.order + i) ≡ ((tag x.order n).session == j)
    kid j i lt =
        ap (λ (t : Tag). (t.session == j) && not (has_ended v (length x.order + i))) (tag-kid x r n running i lt)
        ∙ ap (λ e. ((tag x.order n).session == j) && not e) (ends-v (length x.order + i) ∙ ap (λ b. cond b true (has_ended x (length x.order + i))) (ne_eqb (length x.order + i) n (λ e. omega (arith, e, inside))) ∙ waits)
        ∙ with_true' ((tag x.order n).session == j)
      where
        with_true' : (b : Bool) → (b && true) ≡ b
        with_true' true = refl
        with_true' false = refl

        past_end : (ps : List Phase) (m : ℕ) → length ps ≤ m → get_or ps m Waiting ≡ Waiting
        past_end [] m le = refl
        past_end (p ∷ ps) zero le = absurd (omega arith)
        past_end (p ∷ ps) (suc m) le = past_end ps m (omega arith)

        waits : has_ended x (length x.order + i) ≡ false
        waits = ap is_over (past_end x.phases (length x.order + i) (omega (arith, (sound-reached x r).as_many)))

    -- one less is awaited, and the children more
    pub awaited-ended : (j : ℕ) → (j ≡ (tag x.order n).session → awaited v j + 1 ≡ awaited x j + c) × ((tag x.order n).session ≢ j → awaited v j ≡ awaited x j)
    awaited-ended j = (λ e. same (eq-eqb (tag x.order n).session j (sym e)), λ ne. differ (ne_eqb (tag x.order n).session j ne))
      where
        t : Bool
        t = (tag x.order n).session == j

        below : ℕ
        below = awaited_below v j (length x.order)

        was : awaited x j ≡ cond t (suc below) below
        was =
            awaited-less x v j n (length x.order) inside (λ m lt ne. other-v j m lt ne)
            (ap (λ e. ((tag x.order n).session == j) && not e) unended ∙ with_true' ((tag x.order n).session == j)) (gone j)
          where
            with_true' : (b : Bool) → (b && true) ≡ b
            with_true' true = refl
            with_true' false = refl

        now : awaited v j ≡ cond t (c + below) below
        now = ap (awaited_below v j) (length-grown x r n running) ∙ awaited-more v j (tag x.order n).session (length x.order) c (λ i lt. kid j i lt)

        same : t ≡ true → awaited v j + 1 ≡ awaited x j + c
        same e =
            let a : awaited v j ≡ c + below = now ∙ ap (λ b. cond b (c + below) below) e in
            let b : awaited x j ≡ suc below = was ∙ ap (λ b. cond b (suc below) below) e in
            omega (arith, a, b)

        differ : t ≡ false → awaited v j ≡ awaited x j
        differ e = now ∙ ap (λ b. cond b (c + below) below) e ∙ sym (was ∙ ap (λ b. cond b (suc below) below) e)

    same-earlier : (m : ℕ) → m < length x.order → earlier_in after m ≡ earlier_in links m
    same-earlier m lt = go (eqb_tells m n)
      where
        go : (((m == n) ≡ true) × (m ≡ n)) ⊎ (((m == n) ≡ false) × (m ≡ n → ⊥)) → earlier_in after m ≡ earlier_in links m
        go (inl e) = ap (earlier_in after) e.1 ∙ ap (λ (l : Link). l.earlier) has.parent ∙ ap (earlier_in links) (sym e.1)
        go (inr e) = ap (λ (l : Link). l.earlier) (has.others m (omega (arith, lt, few)) e.1)

    lines-stay : (j : ℕ) → lines_below v.order j (length v.order) ≡ lines_below x.order j (length x.order)
    lines-stay j =
        ap (lines_below v.order j) (length-grown x r n running)
        ∙ lines-skip v.order j (length x.order) c (λ i lt. go i lt (get_or v.order (length x.order + i) no_entry) refl)
        ∙ lines-grown x.order (children_at x n) j (length x.order) (omega arith)
      where
        go : (i : ℕ) → i < c → (f : Entry) → get_or v.order (length x.order + i) no_entry ≡ f → is_line_of j (get_or v.order (length x.order + i) no_entry) ≡ false
        go i lt (Line t k q w) f = absurd (no-line x r n running i t k q w lt f)
        go i lt (Child p w) f = ap (is_line_of j) f

    pub tallies-grown : (end : List Tally) → length end ≡ length tallies
        → ((j : ℕ) → (tally_at end j).line ≡ (tally_at tallies j).line)
        → (tally_at end (tag x.order n).session).awaited + 1 ≡ (tally_at tallies (tag x.order n).session).awaited + c
        → ((j : ℕ) → j ≢ (tag x.order n).session → (tally_at end j).awaited ≡ (tally_at tallies j).awaited)
        → AreTallies v after end
    tallies-grown end long line own others = record {
      as_many = long ∙ are.as_many;
      awaited = λ j lt. go j lt (eqb_tells j (tag x.order n).session);
      lines = λ j lt.
          subst (Leads (earlier_in after) (tally_at end j).line) (sym (lines-stay j))
          (subst (λ o. Leads (earlier_in after) o (lines_below x.order j (length x.order))) (sym (line j))
          (leads-same (earlier_in links) (earlier_in after) (tally_at tallies j).line (lines_below x.order j (length x.order))
          (each-as (λ m. m < length x.order) (λ m. earlier_in after m ≡ earlier_in links m) (lines_below x.order j (length x.order)) (λ m l. same-earlier m l) (lines-members x.order j (length x.order)))
          (are.lines j lt)));
    }
      where
        go : (j : ℕ) → j < length x.sessions → (((j == (tag x.order n).session) ≡ true) × (j ≡ (tag x.order n).session)) ⊎ (((j == (tag x.order n).session) ≡ false) × (j ≡ (tag x.order n).session → ⊥))
            → (tally_at end j).awaited ≡ awaited v j
        go j lt (inl e) =
            let old : (tally_at tallies j).awaited ≡ awaited x j = are.awaited j lt in
            let now : awaited v j + 1 ≡ awaited x j + c = (awaited-ended j).0 e.1 in
            let mine : (tally_at end j).awaited + 1 ≡ (tally_at tallies j).awaited + c =
            subst (λ k. (tally_at end k).awaited + 1 ≡ (tally_at tallies k).awaited + c) (sym e.1) own
            in
            omega (arith, old, now, mine)
        go j lt (inr e) = others j e.1 ∙ are.awaited j lt ∙ sym ((awaited-ended j).1 (λ f. e.1 (sym f)))
