-- What a line of a session is: the relation between the names of the server, the bytes of a line and what it asks.
use Rattle.std.specs.Prelude.{◌≡◌, ℕ, ◌≤◌, List, length, Some}
use Rattle.bl_level.specs.Table.{place_of}
use Rattle.bl_work.specs.declared.asked.Line.{Line}
use Rattle.bl_work.specs.declared.asked.Line.TheVariants as line
use Rattle.bl_work.specs.declared.work.Work.TheVariants.{Behaviour, Rule}
use Rattle.bl_work.specs.Names.{KnownNames}
use Rattle.bl_work.specs.Grammar.{SpelledLine, hello, wait, when, rule}
use Rattle.bl_work.specs.Fault.{ReadsAs}
use Rattle.bl_work.specs.Meaning.{script_of}
use Rattle.bl_work.specs.RuleMeaning.{MeansRule}
use Rattle.bl_work.specs.WhenFaults.{IsFaultless}

-- own choice: a line has at most so many bytes
abbrev pub most_line_bytes : ℕ
most_line_bytes = 8192

-- What a line as it is spelled asks, by these names: a subject goes by its place, a `when` without fault asks its script, and a rule
-- what it means.
abbrev pub Means : KnownNames → SpelledLine → Line → Type 0
Means names (hello name) (line.Hello subject) = place_of name names.subjects ≡ Some subject
Means names wait line.Wait = Unit {0}
Means names (when first more body) (line.Work (Behaviour script)) =
    IsFaultless names first more body × (script ≡ script_of names first more body)
Means names (rule spelled) (line.Work (Rule asked)) = MeansRule names spelled asked
Means names _ _ = ⊥

-- the bytes are a line that asks this, by these names
pub record LineOf (names : KnownNames) (bytes : List ℕ) (asked : Line) : Type 0 where
  pub short : length bytes ≤ most_line_bytes
  pub spelled : SpelledLine
  pub reads : ReadsAs bytes spelled
  pub means : Means names spelled asked
