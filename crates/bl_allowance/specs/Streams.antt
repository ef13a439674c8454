-- What a stream gives that gives whole lines alone, as many as a run has room for.
use Rattle.std.specs.Prelude.{◌≡◌, ◌<◌, ◌⊎◌, ℕ, List, [], ◌++◌, Option, Some, None, length, take, true}
use Rattle.std.specs.Io.KnownBytes.{Consumes, Keeps}
use Rattle.bl_connection.specs.declared.stream.Answer.{Answer}
use Rattle.bl_connection.specs.declared.stream.Answer.TheVariants.{Moved, WouldBlock, Failed}
use Rattle.bl_allowance.specs.Buffers.{due_of, pending}
use Rattle.bl_allowance.specs.Intakes.{WaitsForMore, to_come}
use Rattle.bl_allowance.specs.Lines.{MayGive}
use Rattle.bl_allowance.specs.declared.lines.LineStream.{LineStream}

-- the stream in it
abbrev pub inner_of : {S : Type 0} → LineStream S → S
inner_of stream = stream.intake.inner

-- what is due
abbrev pub due : {S : Type 0} → LineStream S → List ℕ
due stream = due_of stream.intake.buffer

-- what is held and was not given
abbrev pub held : {S : Type 0} → LineStream S → List ℕ
held stream = pending stream.intake.buffer

-- nobody knows when a run takes no more, so of a run that another follows it is not known what is to come
abbrev pub known_alone : {A : Type 0} → Option A → Option (List ℕ) → Option (List ℕ)
known_alone None known = known
known_alone (Some allowance) known = None

abbrev pub remaining_of : {S : Type 0} → (S → Option (List ℕ)) → LineStream S → Option (List ℕ)
remaining_of remaining stream = known_alone stream.allowance (remaining (inner_of stream))

-- ---- a run that another follows

-- These bytes were given: a front of what was due. Or, where nothing was: a front of what is due now, which may be
-- given at once, with room set aside for its lines.
abbrev pub GivesNext : {S : Type 0} → (old : LineStream S) → List ℕ → (new : LineStream S) → Type 0
GivesNext old given new =
    ((due old ≡ given ++ due new) × (new.lines ≡ old.lines) × (inner_of new ≡ inner_of old))
    ⊎ ((due old ≡ []) × MayGive new.intake.ended old.intake.long new.intake.long new.lines (given ++ due new))

-- Nothing is held, and it is at its end: the run takes no more, or the stream in it has ended.
abbrev pub IsOver : {S : Type 0} → LineStream S → Type 0
IsOver stream = (held stream ≡ []) × ((stream.over ≡ true) ⊎ (stream.intake.ended ≡ true))

-- A read into this room was answered so. It is told that it would block only where the stream in it does and no line is
-- held.
abbrev pub ReadsLines : {S : Type 0} → (S → Answer → S → Type 0) → LineStream S → Answer → List ℕ → LineStream S
    → Type 0
ReadsLines reads old (Moved n) room new =
    GivesNext old (take n room) new ⊎ ((n ≡ 0) × (0 < length room → IsOver new))
ReadsLines reads old WouldBlock room new = WaitsForMore reads new.intake
ReadsLines reads old Failed room new = Unit {0}

-- what is still to come is the same, as long as the run takes more
abbrev pub StaysOrOver : {S : Type 0} → (S → Option (List ℕ)) → (old new : LineStream S) → Type 0
StaysOrOver remaining old new =
    (new.over ≡ true) ⊎ Keeps (to_come remaining old.intake) (to_come remaining new.intake)

-- What was given into this room is the front of what was to come, and the rest is still to come, as long as the run
-- takes more.
abbrev pub InOrder : {S : Type 0} → (S → Option (List ℕ)) → LineStream S → Answer → List ℕ → LineStream S → Type 0
InOrder remaining old (Moved n) room new =
    (new.over ≡ true) ⊎ Consumes (to_come remaining old.intake) (to_come remaining new.intake) (take n room)
InOrder remaining old WouldBlock room new = Keeps (to_come remaining old.intake) (to_come remaining new.intake)
InOrder remaining old Failed room new = Unit {0}

-- ---- any run

-- where none follows a read goes through
abbrev pub ReadsBy : {A S : Type 0} → Option A → (S → Answer → S → Type 0) → LineStream S → Answer → List ℕ
    → LineStream S → Type 0
ReadsBy None reads old answer room new = reads (inner_of old) answer (inner_of new)
ReadsBy (Some allowance) reads old answer room new = ReadsLines reads old answer room new

-- a read into some room was answered so, and the run goes on to be followed or not
abbrev pub Reads : {S : Type 0} → (S → Answer → S → Type 0) → LineStream S → Answer → LineStream S → Type 0
Reads reads old answer new =
    (new.allowance ≡ old.allowance) × ((room : List ℕ) × ReadsBy old.allowance reads old answer room new)

-- a write goes through, and leaves all else alone
abbrev pub WritesThrough : {S : Type 0} → (S → List ℕ → Answer → S → Type 0)
    → LineStream S → List ℕ → Answer → LineStream S → Type 0
WritesThrough writes old bytes answer new =
    writes (inner_of old) bytes answer (inner_of new)
    × (new ≡ record old { intake = record old.intake { inner = inner_of new } })
