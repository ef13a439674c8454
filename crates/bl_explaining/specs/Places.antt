-- What made it so: the line of the setup file, or the event that changed it last.
use Rattle.std.specs.Prelude.{◌≡◌, ℕ, List, [], ◌∷◌, MatchOption, Option, Some, None, codes, decimal}
use Rattle.std.specs.Borrow.{Bor}
use Rattle.bl_policy.specs.declared.access.Access.{Access}
use Rattle.bl_policy.specs.declared.access.Mode.{Mode}
use Rattle.bl_policy.specs.declared.access.Mode.TheVariants.{Read, Append, Write}
use Rattle.bl_policy.specs.RuleEffect.{document_of}
use Rattle.bl_policy.specs.declared.rule.Rule.{Rule}
use Rattle.bl_policy.specs.declared.denial.Clause.{Clause}
use Rattle.bl_policy.specs.declared.denial.Clause.TheVariants as failing
use Rattle.bl_setup.specs.Lines.{file_lines}
use Rattle.bl_work.specs.Names.{KnownNames}
use Rattle.bl_explain.specs.SetupLines.{HoldsOfNone, IsLineFirst, SpellsIt}
use Rattle.bl_explain.specs.Since.{of_setup, since_of}
use Rattle.bl_explain.specs.declared.setup_lines.Sought.{Sought}
use Rattle.bl_explain.specs.declared.setup_lines.Sought.TheVariants as sought
use Rattle.bl_explain.specs.declared.since.Since.{Since}
use Rattle.bl_explain_text.specs.Reasons.{document_name, joined, subject_name}
use Rattle.bl_explaining.specs.declared.places.Places.{Places}
use Rattle.bl_explaining.specs.declared.setting.Setting.{Setting}

-- the number of the first line of the file that declares it, from 1; none where no line does
abbrev pub IsDeclaredAt : List ℕ → Sought → Option ℕ → Type 0
IsDeclaredAt bytes what number =
    MatchOption number (HoldsOfNone (SpellsIt what) (file_lines bytes)) (IsLineFirst (SpellsIt what) (file_lines bytes))

-- that of the subject of this name
abbrev pub IsSubjectAt : List ℕ → List ℕ → Option ℕ → Type 0
IsSubjectAt bytes name number = (by : Bor (List ℕ)) × (by.now ≡ name) × IsDeclaredAt bytes (sought.Subject by) number

-- that of the document of this name
abbrev pub IsDocumentAt : List ℕ → List ℕ → Option ℕ → Type 0
IsDocumentAt bytes name number = (of_it : Bor (List ℕ)) × (of_it.now ≡ name) × IsDeclaredAt bytes (sought.Document of_it) number

-- that of the right of a subject of this name to use a document in this mode
abbrev pub IsRightAt : List ℕ → List ℕ → List ℕ → Mode → Option ℕ → Type 0
IsRightAt bytes subject document mode number =
    (by : Bor (List ℕ)) × (of_it : Bor (List ℕ)) × (by.now ≡ subject) × (of_it.now ≡ document)
    × IsDeclaredAt bytes (sought.Right by of_it mode) number

-- since when what decides an access stands: the event of the run whose rule changed it last, or the setup
abbrev pub since_in : Setting → Access → Since
since_in t access = since_of t.moment.setup.now.policy t.subject access t.moment.rules.now

-- what made the subject of a setting, the document of an access, and the right to it: the lines of the setup file, and the events
pub record ArePlaces (t : Setting) (access : Access) (places : Places) : Type 0 where
  pub subject : IsSubjectAt t.moment.bytes.now (subject_name t.moment.setup.now.names t.subject) places.subject
  pub document : IsDocumentAt t.moment.bytes.now (document_name t.moment.setup.now.names access.doc) places.document
  pub right : IsRightAt t.moment.bytes.now (subject_name t.moment.setup.now.names t.subject)
      (document_name t.moment.setup.now.names access.doc) access.mode places.right
  pub since : places.since ≡ since_in t access

-- that of the document of a rule, where it has one
abbrev pub IsRuleDocumentAt : List ℕ → KnownNames → Option ℕ → Option ℕ → Type 0
IsRuleDocumentAt bytes names None number = number ≡ None
IsRuleDocumentAt bytes names (Some o) number = IsDocumentAt bytes (document_name names o) number

-- since when the document of a rule is present or absent, where it has one
abbrev pub rule_since_in : Setting → Option ℕ → Since
rule_since_in t None = of_setup
rule_since_in t (Some o) = since_in t (record { mode = Read; doc = o })

-- what made the subject of a setting and the document of a rule; a rule is no right
pub record AreRulePlaces (t : Setting) (rule : Rule) (places : Places) : Type 0 where
  pub subject : IsSubjectAt t.moment.bytes.now (subject_name t.moment.setup.now.names t.subject) places.subject
  pub document : IsRuleDocumentAt t.moment.bytes.now t.moment.setup.now.names (document_of rule) places.document
  pub right : places.right ≡ None
  pub since : places.since ≡ rule_since_in t (document_of rule)

-- own choice: a line as editors know it; nothing, where there is none
abbrev pub place_text : List ℕ → Option ℕ → List ℕ
place_text path None = []
place_text path (Some number) = joined (path ∷ codes ":" ∷ decimal number ∷ [])

-- own choice: the event that changed a value last, by its number; else the line that declared it
abbrev pub origin_text : List ℕ → Option ℕ → Option ℕ → List ℕ
origin_text path None line = place_text path line
origin_text path (Some event) line = joined (codes "event " ∷ decimal event ∷ [])

-- what stands between two texts: nothing, where one of them is empty
abbrev pub between : List ℕ → List ℕ → List ℕ
between [] other = []
between (byte ∷ bytes) [] = []
between (byte ∷ bytes) (first ∷ others) = codes ", "

abbrev pub both_text : List ℕ → List ℕ → List ℕ
both_text one other = joined (one ∷ between one other ∷ other ∷ [])

-- what the simple-security property compares, where something is observed: a greatest level, which no rule changes, and a document's
abbrev pub compared_text : List ℕ → Places → Mode → List ℕ
compared_text path places Append = []
compared_text path places Read = both_text (place_text path places.subject) (origin_text path places.since.level places.document)
compared_text path places Write = both_text (place_text path places.subject) (origin_text path places.since.level places.document)

-- own choice: behind each test what made it so; a current level is the subject's, and what is carried comes from no line
abbrev pub source : List ℕ → Places → Mode → Clause → List ℕ
source path places mode failing.Absent = origin_text path places.since.present places.document
source path places mode failing.Simple = compared_text path places mode
source path places mode failing.Star = origin_text path places.since.current places.subject
source path places mode failing.Discretionary = origin_text path places.since.allowed places.right
source path places mode failing.Carry = []
source path places mode failing.Admin = place_text path places.subject
source path places mode failing.Trusted = place_text path places.subject
source path places mode failing.Greatest = place_text path places.subject
source path places mode failing.Present = origin_text path places.since.present places.document
