-- Where an entry has not ended, the first such entry runs or may start.
use Rattle.std.proofs.Common.{◌≡◌, ℕ, zero, suc, ◌+◌, ◌<◌, ◌≤◌, ◌⊎◌, IsTrue, List, length, refl, sym, subst, inl, inr, arith, below_more}
use Rattle.bl_queue.specs.declared.entry.Stand.{Stand}
use Rattle.bl_queue.specs.declared.entry.Stand.TheVariants.{Waiting, Started, Ended}
use Rattle.bl_queue.specs.Entries.{Entry, entry_at, is_waiting, is_started, is_ended, GoesOn}

abbrev HasEnded : List Entry → ℕ → Type 0
HasEnded entries m = IsTrue (is_ended (entry_at entries m).stand)

step : (entries : List Entry) (n : ℕ) (s : Stand) → (entry_at entries n).stand ≡ s → n < length entries
    → ((m : ℕ) → m < n → HasEnded entries m) → ((m : ℕ) → m < suc n → HasEnded entries m) ⊎ GoesOn entries
step entries n Waiting e lt all =
    inr (n, inl (record { there = lt; waits = subst (λ (s : Stand). IsTrue (is_waiting s)) (sym e) refl; clear = λ m below h. all m below }))
step entries n Started e lt all = inr (n, inr (record { there = lt; started = subst (λ (s : Stand). IsTrue (is_started s)) (sym e) refl }))
step entries n Ended e lt all =
    inl (λ m lt'. below_more (λ (m : ℕ). HasEnded entries m) n all (subst (λ (s : Stand). IsTrue (is_ended s)) (sym e) refl) m (omega (arith, lt')))

all_or_on : (entries : List Entry) (n : ℕ) → n ≤ length entries → ((m : ℕ) → m < n → HasEnded entries m) ⊎ GoesOn entries
all_or_on entries zero le = inl (λ m lt. absurd (omega (arith, lt)))
all_or_on entries (suc n) le =
    elim (all_or_on entries n (omega arith)) [
      | inl all ↦ step entries n (entry_at entries n).stand refl (omega arith) all
      | inr on ↦ inr on
    ]

pub goes-on : (entries : List Entry) (n : ℕ) → n < length entries → ¬ HasEnded entries n → GoesOn entries
goes-on entries n lt not_ended =
    elim (all_or_on entries (n + 1) (omega arith)) [
      | inl all ↦ absurd (not_ended (all n (omega arith)))
      | inr on ↦ on
    ]
