-- A stream, and what it gave and was not given on yet.
use Rattle.std.specs.Prelude.{◌≡◌, ◌+◌, ◌-◌, ◌⊎◌, ℕ, List, [], Option, Result, Ok, Err, cond, length, true}
use Rattle.std.specs.Io.KnownBytes.{IsAtEnd, Keeps, prepend_known}
use Rattle.bl_connection.specs.declared.stream.Answer.{Answer}
use Rattle.bl_connection.specs.declared.stream.Answer.TheVariants.{WouldBlock}
use Rattle.bl_allowance.specs.Buffers.{due_of, pending}
use Rattle.bl_allowance.specs.Lines.{HasNoMore, lines_in}
use Rattle.bl_allowance.specs.declared.intake.Intake.{Intake}
use Rattle.bl_allowance.specs.declared.intake.Stop.{Stop}
use Rattle.bl_allowance.specs.declared.intake.Stop.TheVariants.{Blocks, Fails}

-- what is still to come: what is held, and then what the stream in it gives
abbrev pub to_come : {S : Type 0} → (S → Option (List ℕ)) → Intake S → Option (List ℕ)
to_come remaining intake = prepend_known (pending intake.buffer) (remaining intake.inner)

-- where it did not fail, this holds
abbrev pub OrFails : {T : Type 0} → Result T Stop → Type 0 → Type 0
OrFails (Ok found) holds = holds
OrFails (Err Blocks) holds = holds
OrFails (Err Fails) holds = Unit {0}

-- what is still to come is the same, and what is due
pub record StaysInOrder {S : Type 0} (remaining : S → Option (List ℕ)) (old new : Intake S) : Type 0 where
  pub order : Keeps (to_come remaining old) (to_come remaining new)
  pub due : due_of new.buffer ≡ due_of old.buffer
  pub long : new.long ≡ old.long

-- where it is at its end now, it was before, or the stream in it is
abbrev pub EndsWithStream : {S : Type 0} → (S → Option (List ℕ)) → (old new : Intake S) → Type 0
EndsWithStream remaining old new = new.ended ≡ true → (old.ended ≡ true) ⊎ IsAtEnd (remaining new.inner)

-- the last that the stream in it answered is that it would block, and no line ends in what is held
pub record WaitsForMore {S : Type 0} (reads : S → Answer → S → Type 0) (intake : Intake S) : Type 0 where
  pub before : S
  pub blocked : reads before WouldBlock intake.inner
  pub none : lines_in (pending intake.buffer) ≡ 0

-- where nothing of what is held may be given, nothing is held, and the stream is at its end
abbrev pub GivesOrEnds : {S : Type 0} → Intake S → Type 0
GivesOrEnds intake =
    HasNoMore intake.ended intake.long (pending intake.buffer)
    → (intake.ended ≡ true) × (pending intake.buffer ≡ [])

-- how many bytes may still be read until something may be given, at most
abbrev pub waits_left : {S : Type 0} → Intake S → ℕ
waits_left intake = cond intake.part 1 0 + (8193 - length (pending intake.buffer))

-- all but what is held is the same
abbrev pub GoesOnAlike : {S : Type 0} → (old new : Intake S) → Type 0
GoesOnAlike old new = (new.inner ≡ old.inner) × (new.ended ≡ old.ended) × (new.long ≡ old.long)
