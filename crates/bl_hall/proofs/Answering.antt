-- What is answered to a session.
use Rattle.std.proofs.Common.{◌≡◌, ℕ, zero, suc, ◌<◌, true, ◌==◌, nat_lt, List, [], ◌∷◌, length, map, get_or, sym, ap, subst, ◌∙◌, arith, true≢false, eqb-true}
use Rattle.std.specs.Prelude.{All, IsTrue, Some, None, option_map, slice_get}
use Rattle.std.proofs.lemmas.List.{get_or_read}
use Rattle.bl_work.specs.declared.work.Work.{Work}
use Rattle.bl_order.specs.Headline.{IsReached}
use Rattle.bl_order.specs.Labels.{tag}
use Rattle.bl_order.specs.Machine.{State, Phase, Waiting, has_ended, is_over}
use Rattle.bl_order.specs.Order.{Entry, Line, Child}
use Rattle.bl_order.specs.Past.{no_entry}
use Rattle.bl_order.proofs.Reached.{sound-reached}
use Rattle.bl_core.specs.Origins.{origin_of}
use Rattle.bl_core.specs.declared.origin.Origin.TheVariants as origin
use Rattle.bl_hall.specs.declared.hall.Hall.TheInside.{Inside}
use Rattle.bl_hall.specs.declared.link.Tally.{Tally}
use Rattle.bl_hall.specs.Awaited.{awaited}
use Rattle.bl_hall.specs.Keeps.{Keeps}
use Rattle.bl_hall.specs.Linked.{no_tally, places_with, tally_at}
use Rattle.bl_hall.specs.Told.{AreAnswers, Waits, is_above, reply_in}
use Rattle.bl_hall.proofs.Entering.{both}
use Rattle.bl_hall.proofs.Ordered.{each-all, each-as, IsMember, are-members, replies-over}
use Rattle.bl_hall.proofs.Tallying.{none-awaited, some-awaited}

-- a session with an entry that is awaited waits
pub waits-where-some : (x : State) (s : ℕ) → 0 < awaited x s → Waits x s
waits-where-some x s some = some-awaited x s (length x.order) some

pub waits-for-none : (x : State) (s : ℕ) → awaited x s ≡ 0 → Waits x s → ⊥
waits-for-none x s none w = true≢false (sym (none-awaited x s (length x.order) none w.0 w.1 w.2) ∙ w.3)

-- its places above an ordinal give its answers, and have ended
pub answers-are : (x : State) (s after : ℕ) (places : List ℕ) → awaited x s ≡ 0 → places ≡ places_with x.order (is_above s after) (length x.order) → AreAnswers x s after (map (reply_in x) places)
answers-are x s after places none is = record {
  waits = waits-for-none x s none;
  are = ap (map (reply_in x)) is ∙ sym (replies-over x s after (length x.order));
}

pub places-ended : (x : State) (s after : ℕ) (places : List ℕ) → awaited x s ≡ 0 → places ≡ places_with x.order (is_above s after) (length x.order) → All (λ n. IsTrue (has_ended x n)) places
places-ended x s after places none is =
    subst (All (λ n. IsTrue (has_ended x n))) (sym is)
    (each-all (λ n. IsTrue (has_ended x n)) (places_with x.order (is_above s after) (length x.order))
    (each-as (IsMember x.order (is_above s after) (length x.order)) (λ n. IsTrue (has_ended x n)) (places_with x.order (is_above s after) (length x.order))
    (λ n member. none-awaited x s (length x.order) none n member.0 (of n member.1)) (are-members x.order (is_above s after) (length x.order))))
  where
    of : (n : ℕ) → is_above s after (tag x.order n) ≡ true → (tag x.order n).session ≡ s
    of n h = eqb-true (tag x.order n).session s (both ((tag x.order n).session == s) (nat_lt after (get_or (tag x.order n).label 0 0)) h).0

-- a place that has ended is there
pub ended-there : (x : State) → IsReached x → (n : ℕ) → has_ended x n ≡ true → n < length x.order
ended-there x r n ended = omega (arith, within x.phases n ended, (sound-reached x r).as_many)
  where
    within : (ps : List Phase) (n : ℕ) → is_over (get_or ps n Waiting) ≡ true → n < length ps
    within [] n h = absurd (true≢false (sym h))
    within (p ∷ ps) zero h = omega arith
    within (p ∷ ps) (suc n) h = omega (arith, within ps n h)

-- what an origin tells of an entry
pub child-there : (xs : List Entry) (n p w : ℕ) → Some (origin.Child p w) ≡ option_map origin_of (slice_get xs n) → (n < length xs) × (get_or xs n no_entry ≡ Child p w)
child-there [] n p w h = absurd (cc)
child-there (Line s k u v ∷ xs) zero p w h = let e : origin.Child p w ≡ origin.Line s k = cc in absurd (cc)
child-there (Child q v ∷ xs) zero p w h =
    let e : origin.Child p w ≡ origin.Child q v = cc in
    let one : q ≡ p = cc in
    let two : v ≡ w = cc in
    (omega arith, ap (λ j. Child j v) one ∙ ap (Child p) two)
child-there (x ∷ xs) (suc n) p w h = let deeper = child-there xs n p w h in (omega (arith, deeper.0), deeper.1)

pub line-there : (xs : List Entry) (n s k : ℕ) → Some (origin.Line s k) ≡ option_map origin_of (slice_get xs n) → (n < length xs) × ((u : ℕ) × (w : Work) × (get_or xs n no_entry ≡ Line s k u w))
line-there [] n s k h = absurd (cc)
line-there (Child q v ∷ xs) zero s k h = let e : origin.Line s k ≡ origin.Child q v = cc in absurd (cc)
line-there (Line t j u w ∷ xs) zero s k h =
    let e : origin.Line s k ≡ origin.Line t j = cc in
    let one : t ≡ s = cc in
    let two : j ≡ k = cc in
    (omega arith, (u, w, ap (λ i. Line i j u w) one ∙ ap (λ i. Line s i u w) two))
line-there (x ∷ xs) (suc n) s k h = let deeper = line-there xs n s k h in (omega (arith, deeper.0), deeper.1)

pub origin-there : (xs : List Entry) (n : ℕ) → n < length xs → None ≡ option_map origin_of (slice_get xs n) → ⊥
origin-there [] n lt h = omega (arith, lt)
origin-there (x ∷ xs) zero lt h = absurd (cc)
origin-there (x ∷ xs) (suc n) lt h = origin-there xs n (omega (arith, lt)) h

-- what is kept of a session, by its number
pub counted-is : (h : Inside) → Keeps h → (s number : ℕ) (tally : Tally) → number ≡ s → number < length h.tallies.items → tally ≡ get_or h.tallies.items number tally → tally.awaited ≡ awaited h.core s
counted-is h k s number tally same inside read =
    ap (λ (t : Tally). t.awaited) (get_or_read h.tallies.items number tally inside read no_tally)
    ∙ ap (λ j. (tally_at h.tallies.items j).awaited) same
    ∙ k.tallies.awaited s (omega (arith, inside, same, k.tallies.as_many))
