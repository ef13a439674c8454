-- Which of the works that were asked were admitted.
use Rattle.std.proofs.Common.{◌≡◌, ℕ, ◌+◌, ◌<◌, ◌≤◌, Bool, true, false, cond, ◌||◌, List, [], ◌∷◌, ◌++◌, refl, sym, ap, ◌∙◌, arith, filter, true≢false, append-nil}
use Rattle.std.specs.Prelude.{All, ◌==◌}
use Rattle.std.proofs.lemmas.Bool.Decides.{nat_tests}
use Rattle.std.proofs.lemmas.List.Elements.{All-head, All-tail, All-cons, All-nil, All-append, All-weaker, filter-append}
use Rattle.std.proofs.lemmas.List.Folds.{list_any-append}
use Rattle.bl_work.specs.declared.work.Work.{Work}
use Rattle.bl_order.specs.Machine.{State, weight_of}
use Rattle.bl_order.specs.Room.{admitted_weight}
use Rattle.bl_engine.specs.declared.request.Request.TheVariants as request
use Rattle.bl_engine.specs.declared.request.Request.{Request}
use Rattle.bl_session.specs.Transcripts.{has_ordinal}
use Rattle.bl_session.proofs.TranscriptLaws.{equal_self, filter_same}
use Rattle.bl_serve.specs.Courses.{AreAdmitted, asked_in}

abbrev Low : ℕ → ℕ × Work → Type 0
Low last a = a.0 ≤ last

-- what the state has no room for, where it is not among these works
abbrev IsFull : State → List (ℕ × Work) → ℕ × Work → Type 0
IsFull x works a = has_ordinal works a.0 ≡ false → x.limit < admitted_weight x + weight_of a.1

pub asked_more : (told more : List Request) → asked_in (told ++ more) ≡ asked_in told ++ asked_in more
asked_more [] more = refl
asked_more (request.Opens u ∷ told) more = asked_more told more
asked_more (request.Admits k w ∷ told) more = ap (λ l. (k, w) ∷ l) (asked_more told more)
asked_more (request.Settles ∷ told) more = asked_more told more

apart : (m n : ℕ) → m < n → (n == m) ≡ false
apart m n lt = grind (arith, nat_tests)

or_false : (b : Bool) → (b || false) ≡ b
or_false true = refl
or_false false = refl

or_true : (b : Bool) → (b || true) ≡ true
or_true true = refl
or_true false = refl

or_left : (a b : Bool) → (a || b) ≡ false → a ≡ false
or_left true b none = absurd (true≢false none)
or_left false b none = refl

-- none of what is up to an ordinal has a greater one
none_has : (last k : ℕ) (l : List (ℕ × Work)) → last < k → All (Low last) l → has_ordinal l k ≡ false
none_has last k [] lt all = refl
none_has last k (a ∷ l) lt all =
    let le : a.0 ≤ last = All-head (Low last) a l all in
    let other : (a.0 == k) ≡ false = grind (arith, nat_tests) in
    ap (λ b. b || has_ordinal l k) other ∙ none_has last k l lt (All-tail (Low last) a l all)

has_more : (works : List (ℕ × Work)) (k : ℕ) (w : Work) (n : ℕ) → has_ordinal (works ++ (k, w) ∷ []) n ≡ (has_ordinal works n || ((k == n) || false))
has_more works k w n = list_any-append (λ (a : ℕ × Work). a.0 == n) works ((k, w) ∷ [])

-- nothing was asked
pub admitted_none : (x : State) (last : ℕ) → AreAdmitted x last [] []
admitted_none x last = record {
  are = refl;
  full = All-nil (IsFull x []);
  asked_low = All-nil (Low last);
  works_low = All-nil (Low last);
}

module _ (x y : State) (last : ℕ) (asked works : List (ℕ × Work)) (limit : y.limit ≡ x.limit) (weight : admitted_weight x ≤ admitted_weight y) (a : AreAdmitted x last asked works) where
  full_later : All (IsFull y works) asked
  full_later = All-weaker (IsFull x works) (IsFull y works) (λ b over none. (let o = over none in omega (arith, o, limit, weight))) asked a.full

  -- time went on
  pub admitted_later : AreAdmitted y last asked works
  admitted_later = record { are = a.are; full = full_later; asked_low = a.asked_low; works_low = a.works_low }

  -- up to a greater ordinal
  pub admitted_upto : (k : ℕ) → last ≤ k → AreAdmitted y k asked works
  admitted_upto k le = record {
    are = a.are;
    full = full_later;
    asked_low = All-weaker (Low last) (Low k) (λ b low. omega (arith, low, le)) asked a.asked_low;
    works_low = All-weaker (Low last) (Low k) (λ b low. omega (arith, low, le)) works a.works_low;
  }

  module _ (k : ℕ) (w : Work) (lt : last < k) where
    abbrev pub one : ℕ × Work
    one = (k, w)

    low_more : (l : List (ℕ × Work)) → All (Low last) l → All (Low k) (l ++ one ∷ [])
    low_more l low = All-append (Low k) l (one ∷ []) (All-weaker (Low last) (Low k) (λ b le. omega (arith, le, lt)) l low) (All-cons (Low k) one [] (omega arith) (All-nil (Low k)))

    -- another work was admitted
    pub admitted_one : AreAdmitted y k (asked ++ one ∷ []) (works ++ one ∷ [])
    admitted_one = record {
      are =
          ap (λ l. l ++ one ∷ []) (a.are ∙ filter_same (λ (b : ℕ × Work). has_ordinal works b.0) (λ (b : ℕ × Work). has_ordinal (works ++ one ∷ []) b.0) asked
          (All-weaker (Low last) (λ (b : ℕ × Work). has_ordinal works b.0 ≡ has_ordinal (works ++ one ∷ []) b.0)
          (λ b low. sym (has_more works k w b.0 ∙ ap (λ t. has_ordinal works b.0 || (t || false)) (apart b.0 k (omega (arith, low, lt))) ∙ or_false (has_ordinal works b.0))) asked a.asked_low))
          ∙ ap (λ t. filter (λ (b : ℕ × Work). has_ordinal (works ++ one ∷ []) b.0) asked ++ cond t (one ∷ []) [])
          (sym (has_more works k w k ∙ ap (λ t. has_ordinal works k || (t || false)) (equal_self k) ∙ or_true (has_ordinal works k)))
          ∙ sym (filter-append (λ (b : ℕ × Work). has_ordinal (works ++ one ∷ []) b.0) asked (one ∷ []));
      full = All-append (IsFull y (works ++ one ∷ [])) asked (one ∷ [])
          (All-weaker (IsFull y works) (IsFull y (works ++ one ∷ [])) (λ b over none. over (or_left (has_ordinal works b.0) ((k == b.0) || false) (sym (has_more works k w b.0) ∙ none))) asked full_later)
          (All-cons (IsFull y (works ++ one ∷ [])) one []
          (λ none. absurd (true≢false (sym (has_more works k w k ∙ ap (λ t. has_ordinal works k || (t || false)) (equal_self k) ∙ or_true (has_ordinal works k)) ∙ none)))
          (All-nil (IsFull y (works ++ one ∷ []))));
      asked_low = low_more asked a.asked_low;
      works_low = low_more works a.works_low;
    }

    -- another work was refused, since there was no room
    pub admitted_full : y.limit < admitted_weight y + weight_of w → AreAdmitted y k (asked ++ one ∷ []) works
    admitted_full over = record {
      are = a.are
          ∙ (sym (append-nil (filter (λ (b : ℕ × Work). has_ordinal works b.0) asked))
          ∙ ap (λ t. filter (λ (b : ℕ × Work). has_ordinal works b.0) asked ++ cond t (one ∷ []) []) (sym (none_has last k works lt a.works_low))
          ∙ sym (filter-append (λ (b : ℕ × Work). has_ordinal works b.0) asked (one ∷ [])));
      full = All-append (IsFull y works) asked (one ∷ []) full_later (All-cons (IsFull y works) one [] (λ none. over) (All-nil (IsFull y works)));
      asked_low = low_more asked a.asked_low;
      works_low = All-weaker (Low last) (Low k) (λ b le. omega (arith, le, lt)) works a.works_low;
    }
