-- The entries that run, as members of a set.
use Rattle.std.proofs.Common.{◌≡◌, ◌≢◌, ℕ, zero, suc, ◌/◌, ◌<◌, ◌≤◌, true, false, Option, Some, None, MatchOption, List, [], ◌∷◌, length, inl, inr, refl, sym, ap, ◌∙◌, arith, get_or-set_same, get_or-set_other}
use Rattle.std.proofs.lemmas.Bool.{both_ways, cases_eq, cases_lt}
use Rattle.std.proofs.lemmas.List.{get_or_past}
use Rattle.bl_queue.specs.declared.claim.Claim.{Claim}
use Rattle.bl_queue.specs.declared.entry.Stand.{Stand}
use Rattle.bl_queue.specs.declared.entry.Stand.TheVariants.{Waiting, Started, Ended}
use Rattle.bl_queue.specs.Entries.{Entry, entry_at, no_entry, standing, is_started, Runs, IsFirstRunning}
use Rattle.bl_queue.specs.Numbers.{mark, IsMarked, IsUnmarked, IsFirst}
use Rattle.bl_queue.specs.Queued.{moved, longer}
use Rattle.bl_queue.specs.Rooms.{mark_of, AreRunning}

one_started : (s : Stand) → mark_of s ≡ 1 → is_started s ≡ true
one_started Waiting e = absurd (omega (arith, e))
one_started Started e = refl
one_started Ended e = absurd (omega (arith, e))

started_one : (s : Stand) → is_started s ≡ true → mark_of s ≡ 1
started_one Waiting e = absurd (both_ways false refl e)
started_one Started e = refl
started_one Ended e = absurd (both_ways false refl e)

-- a member runs, and what runs is a member
member_runs : (entries : List Entry) (limit : ℕ) (words : List ℕ) (n : ℕ) → AreRunning entries limit words → mark words n ≡ 1 → Runs entries n
member_runs entries limit words n are e =
    let one : mark_of (entry_at entries n).stand ≡ 1 = sym (are.each n) ∙ e in
    elim (cases_lt n (length entries)) [
      | inl lt ↦ record { there = lt; started = one_started (entry_at entries n).stand one }
      | inr le ↦ absurd (omega (arith, sym one ∙ ap (λ (x : Entry). mark_of x.stand) (get_or_past entries n no_entry le)))
    ]

runs_member : (entries : List Entry) (limit : ℕ) (words : List ℕ) (n : ℕ) → AreRunning entries limit words → Runs entries n → mark words n ≡ 1
runs_member entries limit words n are runs = are.each n ∙ started_one (entry_at entries n).stand runs.started

no_member : (entries : List Entry) (limit : ℕ) (words : List ℕ) (n : ℕ) → AreRunning entries limit words → mark words n ≡ 0 → ¬ Runs entries n
no_member entries limit words n are e runs = omega (arith, e, runs_member entries limit words n are runs)

-- the first member is the first that runs
pub first_running : (entries : List Entry) (limit : ℕ) (words : List ℕ) (from : ℕ) (o : Option ℕ) → AreRunning entries limit words → IsFirst words from o
    → MatchOption o ((n : ℕ) → from ≤ n → ¬ Runs entries n) (IsFirstRunning entries from)
first_running entries limit words from None are first = λ n le. no_member entries limit words n are (first n le)
first_running entries limit words from (Some n) are first = record {
  behind = first.behind;
  runs = member_runs entries limit words n are first.there;
  least = λ m le lt. no_member entries limit words m are (first.least m le lt);
}

-- ---- the set stays right

pub fresh_running : (limit : ℕ) (words : List ℕ) → limit / 64 < length words → ((n : ℕ) → mark words n ≡ 0) → AreRunning [] limit words
fresh_running limit words room none = record { room = room; each = none }

entered_mark : (entries : List Entry) (claims : List Claim) (n : ℕ) → mark_of (entry_at (longer entries claims) n).stand ≡ mark_of (entry_at entries n).stand
entered_mark [] claims zero = refl
entered_mark [] claims (suc n) = refl
entered_mark (e ∷ entries) claims zero = refl
entered_mark (e ∷ entries) claims (suc n) = entered_mark entries claims n

pub entered_running : (entries : List Entry) (limit : ℕ) (words : List ℕ) (claims : List Claim) → AreRunning entries limit words → AreRunning (longer entries claims) limit words
entered_running entries limit words claims are =
    record { room = are.room; each = λ n. are.each n ∙ sym (entered_mark entries claims n) }

moved_same : (entries : List Entry) (n : ℕ) (stand : Stand) → n < length entries → mark_of (entry_at (moved entries n stand) n).stand ≡ mark_of stand
moved_same entries n stand lt = ap (λ (x : Entry). mark_of x.stand) (get_or-set_same entries n (standing (entry_at entries n) stand) no_entry lt)

moved_other : (entries : List Entry) (n m : ℕ) (stand : Stand) → m ≢ n → mark_of (entry_at (moved entries n stand) m).stand ≡ mark_of (entry_at entries m).stand
moved_other entries n m stand ne = ap (λ (x : Entry). mark_of x.stand) (get_or-set_other entries n m (standing (entry_at entries n) stand) no_entry ne)

moved_each : (entries : List Entry) (n : ℕ) (stand : Stand) (words words' : List ℕ) → n < length entries → ((m : ℕ) → mark words m ≡ mark_of (entry_at entries m).stand)
    → mark words' n ≡ mark_of stand → ((m : ℕ) → m ≢ n → mark words' m ≡ mark words m) → (m : ℕ) → mark words' m ≡ mark_of (entry_at (moved entries n stand) m).stand
moved_each entries n stand words words' lt each here others m =
    elim (cases_eq m n) [
      | inl is ↦ ap (mark words') is ∙ here ∙ sym (moved_same entries n stand lt) ∙ ap (λ j. mark_of (entry_at (moved entries n stand) j).stand) (sym is)
      | inr ne ↦ others m ne ∙ each m ∙ sym (moved_other entries n m stand ne)
    ]

pub started_running : (entries : List Entry) (limit n : ℕ) (words words' : List ℕ) → n < length entries → AreRunning entries limit words → IsMarked words n words'
    → AreRunning (moved entries n Started) limit words'
started_running entries limit n words words' lt are put =
    record { room = omega (arith, are.room, put.size); each = moved_each entries n Started words words' lt are.each put.there put.others }

pub ended_running : (entries : List Entry) (limit n : ℕ) (words words' : List ℕ) → n < length entries → AreRunning entries limit words → IsUnmarked words n words'
    → AreRunning (moved entries n Ended) limit words'
ended_running entries limit n words words' lt are taken =
    record { room = omega (arith, are.room, taken.size); each = moved_each entries n Ended words words' lt are.each taken.gone taken.others }

-- there is room for the number of an entry
pub has_room : (limit n count size : ℕ) → limit / 64 < size → count ≤ limit → n < count → n / 64 < size
has_room limit n count size room few lt = omega (arith, room, few, lt)
