-- The lines that speak of known subjects and documents alone.
use Rattle.std.specs.Prelude.{ℕ, ◌<◌, List, All, length}
use Rattle.bl_policy.specs.declared.access.Access.{Access}
use Rattle.bl_policy.specs.RuleEffect.{HasIdsBelow}
use Rattle.bl_work.specs.declared.asked.Line.{Line}
use Rattle.bl_work.specs.declared.asked.Line.TheVariants as line
use Rattle.bl_work.specs.declared.work.Work.TheVariants.{Behaviour, Rule}
use Rattle.bl_work.specs.Names.{KnownNames}
use Rattle.bl_work.specs.Statements.{Part}

-- some name is this document's
abbrev pub IsKnownDocument : KnownNames → ℕ → Type 0
IsKnownDocument names doc = doc < length names.documents

-- a behaviour declares known documents alone
abbrev pub DeclaresKnown : KnownNames → Part → Type 0
DeclaresKnown names part = All (λ (access : Access). IsKnownDocument names access.doc) part.accesses

abbrev pub AreKnown : KnownNames → List Part → Type 0
AreKnown names script = All (DeclaresKnown names) script

-- the subject is known, or the documents that the script declares are, or what the rule names
abbrev pub IsKnownLine : KnownNames → Line → Type 0
IsKnownLine names (line.Hello subject) = subject < length names.subjects
IsKnownLine names line.Wait = Unit {0}
IsKnownLine names (line.Work (Behaviour script)) = AreKnown names script
IsKnownLine names (line.Work (Rule rule)) = HasIdsBelow (length names.subjects) (length names.documents) rule
