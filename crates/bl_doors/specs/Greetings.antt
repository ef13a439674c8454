-- What is heard first of a client who comes by a door.
use Rattle.std.specs.Prelude.{◌≡◌, ◌⊎◌, ℕ, List, [], ◌∷◌, ◌++◌, drop, codes, Option}
use Rattle.std.specs.Io.KnownBytes.{prepend_known}
use Rattle.bl_work.specs.Names.{KnownNames}
use Rattle.bl_wire.specs.Lines.{AreLines}
use Rattle.bl_wire.specs.Turns.{IsTurn}
use Rattle.bl_wire.specs.declared.turn.Turn.{Turn}
use Rattle.bl_wire.specs.declared.turn.Turn.TheVariants.{Greets}
use Rattle.bl_connection.specs.declared.stream.Answer.{Answer}
use Rattle.bl_connection.specs.declared.stream.Answer.TheVariants.{Moved}
use Rattle.bl_doors.specs.declared.greeted.Greeted.{Greeted}

-- the line that opens a session for the subject of this name
abbrev pub hello_line : List ℕ → List ℕ
hello_line name = codes "hello " ++ name

-- its bytes, with the end of the line
abbrev pub greeting_of : List ℕ → List ℕ
greeting_of name = hello_line name ++ 10 ∷ []

-- Whatever comes after the greeting of this name, the first line is a `hello` of this subject, and can be read as
-- nothing else.
pub record SpeaksFor (names : KnownNames) (name : List ℕ) (subject : ℕ) : Type 0 where
  pub first : AreLines (greeting_of name) (hello_line name ∷ [])
  pub hello : IsTurn names (hello_line name) (Greets subject)
  pub only : (turn : Turn) → IsTurn names (hello_line name) turn → turn ≡ Greets subject

-- ---- a stream that gives a greeting first

-- what is still to be given of the greeting
abbrev pub ungiven : {S : Type 0} → Greeted S → List ℕ
ungiven stream = drop stream.given stream.greeting.items

-- what is still to come: the rest of the greeting, and then what the stream in it gives
abbrev pub yet_to_come : {S : Type 0} → (S → Option (List ℕ)) → Greeted S → Option (List ℕ)
yet_to_come remaining stream = prepend_known (ungiven stream) (remaining stream.inner)

-- while something of the greeting is left, a read gives the next part of it and leaves the stream in it alone
pub record HasGreeted {S : Type 0} (old : Greeted S) (answer : Answer) (new : Greeted S) : Type 0 where
  pub more : ungiven old ≡ [] → ⊥
  pub moved : ℕ
  pub answer_is : answer ≡ Moved moved
  pub rest : ungiven new ≡ drop moved (ungiven old)
  pub inner : new.inner ≡ old.inner

-- after the greeting a read is answered as the stream in it answers
pub record HasReadOn {S : Type 0} (reads : S → Answer → S → Type 0) (old : Greeted S) (answer : Answer)
    (new : Greeted S) : Type 0 where
  pub none : ungiven old ≡ []
  pub still : ungiven new ≡ []
  pub inner : reads old.inner answer new.inner

abbrev pub GivesFirst : {S : Type 0} → (S → Answer → S → Type 0) → Greeted S → Answer → Greeted S → Type 0
GivesFirst reads old answer new = HasGreeted old answer new ⊎ HasReadOn reads old answer new

-- a write goes through to the stream in it, and leaves the greeting alone
abbrev pub WritesThrough : {S : Type 0} → (S → List ℕ → Answer → S → Type 0)
    → Greeted S → List ℕ → Answer → Greeted S → Type 0
WritesThrough writes old bytes answer new = writes old.inner bytes answer new.inner × (ungiven new ≡ ungiven old)
