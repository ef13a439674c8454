-- The queues tell which places run, and so what is held.
use Rattle.std.proofs.Common.{◌≡◌, ℕ, zero, suc, ◌+◌, ◌-◌, ◌<◌, ◌≤◌, Bool, true, false, List, [], length, refl, ap, sym, ◌∙◌, arith}
use Rattle.bl_order.specs.Machine.{is_running}
use Rattle.bl_queue.specs.Entries.{Entry, entry_at, is_started, Runs, IsFirstRunning}
use Rattle.bl_queue.specs.Queues.{Queue}
use Rattle.bl_core.specs.HeldItems.{items_from}
use Rattle.bl_place.specs.Places.{place_in, phase_of}
use Rattle.bl_place.specs.Queueing.{QueuesTell}
use Rattle.bl_place.specs.declared.place.Place.{Place}
use Rattle.bl_core.proofs.HeldLaws.{items_pass, items_none}
use Rattle.bl_core.proofs.Queueing.{runs-for}

module _ (cowns limit : ℕ) (places : List Place) (q : Queue) (told : QueuesTell cowns limit places (length places) q) where
  pub there-running : (n : ℕ) → Runs q.entries n → n < length places
  there-running n runs = omega (arith, runs.there, told.as_many)

  stands-same : (n : ℕ) → n < length places → is_started (entry_at q.entries n).stand ≡ is_running (phase_of (place_in places n).stand)
  stands-same n lt = ap (λ (e : Entry). is_started e.stand) (told.each n lt) ∙ runs-for (place_in places n).stand

  pub place-running : (n : ℕ) → Runs q.entries n → is_running (phase_of (place_in places n).stand) ≡ true
  place-running n runs = sym (stands-same n (there-running n runs)) ∙ runs.started

  idle : (n : ℕ) → n < length places → ¬ Runs q.entries n → is_running (phase_of (place_in places n).stand) ≡ false
  idle n lt never = go (is_running (phase_of (place_in places n).stand)) refl
    where
      go : (b : Bool) → is_running (phase_of (place_in places n).stand) ≡ b → b ≡ false
      go false e = refl
      go true e = absurd (never (record { there = omega (arith, lt, told.as_many); started = stands-same n lt ∙ e }))

  -- so many places that do not run are passed
  passed : (count from : ℕ) → from + count ≤ length places → ((m : ℕ) → from ≤ m → m < from + count → ¬ Runs q.entries m)
      → items_from places from (length places - from) ≡ items_from places (from + count) (length places - (from + count))
  passed zero from le none = ap (λ m. items_from places m (length places - m)) (plus_zero from)
    where
      plus_zero : (a : ℕ) → a ≡ a + 0
      plus_zero a = omega arith
  passed (suc count) from le none =
      items_pass places from (omega (arith, le)) (idle from (omega (arith, le)) (none from (omega arith) (omega arith)))
      ∙ passed count (from + 1) (omega (arith, le)) (λ m low high. none m (omega (arith, low)) (omega (arith, high)))
      ∙ ap (λ m. items_from places m (length places - m)) (plus_suc from count)
    where
      plus_suc : (a b : ℕ) → (a + 1) + b ≡ a + suc b
      plus_suc a b = omega arith

  -- up to the first that runs
  pub passed-to : (from n : ℕ) → IsFirstRunning q.entries from n → items_from places from (length places - from) ≡ items_from places n (length places - n)
  passed-to from n first =
      passed (n - from) from (omega (arith, first.behind, there-running n first.runs)) (λ m low high. first.least m low (omega (arith, high, first.behind)))
      ∙ ap (λ m. items_from places m (length places - m)) (back from n first.behind)
    where
      back : (a b : ℕ) → a ≤ b → a + (b - a) ≡ b
      back a b le = omega (arith, le)

  -- where none runs, nothing is left
  pub passed-all : (from : ℕ) → from ≤ length places → ((n : ℕ) → from ≤ n → ¬ Runs q.entries n) → items_from places from (length places - from) ≡ []
  passed-all from le none =
      passed (length places - from) from (omega (arith, le)) (λ m low high. none m low)
      ∙ items_none places (from + (length places - from)) (omega (arith, le))
