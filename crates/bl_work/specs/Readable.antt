-- Which works the lines of a session may ask.
use Rattle.std.specs.Prelude.{ℕ, List}
use Rattle.bl_work.specs.LineGrammar.{LineOf}
use Rattle.bl_work.specs.Names.{KnownNames}
use Rattle.bl_work.specs.declared.asked.Line.TheVariants as line
use Rattle.bl_work.specs.declared.work.Work.{Work}

-- some bytes are a line that asks this work, by these names
abbrev pub IsReadable : KnownNames → Work → Type 0
IsReadable names work = (bytes : List ℕ) × LineOf names bytes (line.Work work)
