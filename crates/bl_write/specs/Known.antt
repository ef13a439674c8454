-- Which works some text reads as, by given names: scripts and rules.
use Rattle.std.specs.Prelude.{ℕ, ◌≤◌, List, length}
use Rattle.bl_level.specs.Canonical.{canonical}
use Rattle.bl_policy.specs.declared.rule.Rule as asked_rule
use Rattle.bl_work.specs.declared.asked.Line.TheVariants as line
use Rattle.bl_work.specs.declared.work.Work.{Work}
use Rattle.bl_work.specs.declared.work.Work.TheVariants.{Behaviour, Rule}
use Rattle.bl_work.specs.Grammar.{spell}
use Rattle.bl_work.specs.LineGrammar.{most_line_bytes}
use Rattle.bl_work.specs.Names.{KnownNames}
use Rattle.bl_work.specs.Statements.{Part}
use Rattle.bl_write.specs.CanonicalLine.{canonical_line}
use Rattle.bl_write.specs.There.{AreThere, IsRuleThere, IsWorkThere}
use Rattle.bl_write.specs.Unread.{unread_line}

-- own choice: the canonical text of a script, by these names, is that of the line that it is read back as
abbrev pub canonical_script : KnownNames → List Part → List ℕ
canonical_script names script = canonical (spell (unread_line names (line.Work (Behaviour script))))

-- each document that the script declares is among the names, and its canonical text is no longer than a line
pub record IsKnownScript (names : KnownNames) (script : List Part) : Type 0 where
  pub there : AreThere names script
  pub short : length (canonical_script names script) ≤ most_line_bytes

-- the canonical text of a rule
abbrev pub canonical_rule : KnownNames → asked_rule.Rule → List ℕ
canonical_rule names rule = canonical (spell (unread_line names (line.Work (Rule rule))))

-- what the rule names is there, and its canonical text is no longer than a line
pub record IsKnownRule (names : KnownNames) (rule : asked_rule.Rule) : Type 0 where
  pub there : IsRuleThere names rule
  pub short : length (canonical_rule names rule) ≤ most_line_bytes

-- what the work names is there, and its canonical text is no longer than a line
pub record IsKnownWork (names : KnownNames) (work : Work) : Type 0 where
  pub there : IsWorkThere names work
  pub short : length (canonical_line names (line.Work work)) ≤ most_line_bytes
