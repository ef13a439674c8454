-- That a line of a trail is the text of one event at most.
use Rattle.std.specs.Prelude.{◌≡◌, ℕ, ◌≤◌, List, [], ◌∷◌, length}
use Rattle.bl_write.specs.CanonicalLine.{canonical_line}
use Rattle.bl_work.specs.LineGrammar.{LineOf}
use Rattle.bl_work.specs.Names.{KnownNames, AreNames}
use Rattle.bl_work.specs.declared.asked.Line.{Line}
use Rattle.bl_work.specs.declared.asked.Line.TheVariants as line
use Rattle.bl_work.specs.declared.work.Work.{Work}
use Rattle.bl_order.specs.Machine.{State, Event, change}
use Rattle.bl_work.specs.Readable.{IsReadable}

-- what bl_script says of lines: the canonical text of a readable work reads as it, and no bytes ask two things
pub record Reads (names : KnownNames) : Type 0 where
  pub names_are : AreNames names
  pub again : (work : Work) → IsReadable names work
      → LineOf names (canonical_line names (line.Work work)) (line.Work work)
  pub one : (bytes : List ℕ) (l m : Line) → LineOf names bytes l → LineOf names bytes m → l ≡ m

-- the numbers of a state are small, so that they have one text each
pub record IsSmall (x : State) : Type 0 where
  pub sessions : length x.sessions ≤ 1000
  pub phases : length x.phases ≤ 100000
  pub order : length x.order ≤ 100000

-- so have those of each state that events lead through
abbrev pub AreSmall : State → List Event → Type 0
AreSmall x [] = IsSmall x
AreSmall x (event ∷ events) = IsSmall x × AreSmall (change x event) events
