-- Codes of entries, phases and states, by which a proof tells two of them apart.
use Rattle.std.specs.Prelude.{◌≡◌, ℕ, zero, suc, refl}
use Rattle.std.specs.Coded.{Coded, coded_ℕ, coded×, code_by}
use Rattle.std.proofs.Common.{◌⊎◌, inl, inr}
use base.Stored.{coded⊎}
use Rattle.bl_work.specs.WorkCodes.{coded_work}
use Rattle.bl_work.specs.declared.work.Work.{Work}
use Rattle.bl_order.specs.Machine.{Phase, Waiting, Running, Ended, Gone}
use Rattle.bl_order.specs.Order.{Entry, Line, Child}

-- an entry: a line's session, ordinal, subject and work, or a child's parent and number
abbrev StoredEntry : Type 0
StoredEntry = (ℕ × (ℕ × (ℕ × Work))) ⊎ (ℕ × ℕ)

abbrev stored_entry : Entry → StoredEntry
stored_entry (Line session ordinal subject work) = inl (session, (ordinal, (subject, work)))
stored_entry (Child parent which) = inr (parent, which)

abbrev entry_from : StoredEntry → Entry
entry_from (inl t) = Line t.0 t.1.0 t.1.1.0 t.1.1.1
entry_from (inr t) = Child t.0 t.1

pub entry_again : (entry : Entry) → entry_from (stored_entry entry) ≡ entry
entry_again (Line session ordinal subject work) = refl
entry_again (Child parent which) = refl

abbrev pub coded_entry : Coded Entry
coded_entry =
    code_by StoredEntry (coded⊎ (coded× coded_ℕ (coded× coded_ℕ (coded× coded_ℕ coded_work))) (coded× coded_ℕ coded_ℕ)) stored_entry entry_from entry_again

-- a phase, by its number
abbrev stored_phase : Phase → ℕ
stored_phase Waiting = 0
stored_phase Running = 1
stored_phase Ended = 2
stored_phase Gone = 3

abbrev phase_from : ℕ → Phase
phase_from zero = Waiting
phase_from (suc zero) = Running
phase_from (suc (suc zero)) = Ended
phase_from (suc (suc (suc n))) = Gone

pub phase_again : (phase : Phase) → phase_from (stored_phase phase) ≡ phase
phase_again Waiting = refl
phase_again Running = refl
phase_again Ended = refl
phase_again Gone = refl

abbrev pub coded_phase : Coded Phase
coded_phase = code_by ℕ coded_ℕ stored_phase phase_from phase_again
