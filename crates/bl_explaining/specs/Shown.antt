-- The lines of an explanation.
use Rattle.std.specs.Prelude.{◌≡◌, ◌==◌, ℕ, List, [], ◌∷◌, codes, fold, length, max, slice_index_or, Option, Some, None, if◌then◌else◌}
use Rattle.bl_policy.specs.declared.access.Access.{Access}
use Rattle.bl_policy.specs.declared.access.Mode.TheVariants.{Read}
use Rattle.bl_policy.specs.declared.denial.Clause.{Clause}
use Rattle.bl_policy.specs.declared.denial.Clause.TheVariants as failing
use Rattle.bl_policy.specs.declared.rule.Rule.{Rule}
use Rattle.bl_work.specs.Names.{KnownNames}
use Rattle.bl_explain.specs.Grounds.{grounds_of}
use Rattle.bl_explain.specs.Ranges.{range_on}
use Rattle.bl_explain.specs.RuleTests.{rule_grounds_of, rule_tests_on, in_turn}
use Rattle.bl_explain.specs.Tests.{fails_first, in_order, tests_on}
use Rattle.bl_explain.specs.declared.grounds.Grounds.{Grounds}
use Rattle.bl_explain.specs.declared.rules.RuleGrounds.{RuleGrounds}
use Rattle.bl_explain.specs.declared.several.Refused.{Refused}
use Rattle.bl_explain.specs.declared.tests.Tested.{Tested}
use Rattle.bl_explain_text.specs.Reasons.{behind, reason, subject_name}
use Rattle.bl_explain_text.specs.RuleReasons.{rule_reason}
use Rattle.bl_explain_text.specs.Telling.{range_line, row, rule_verdict, verdict}
use Rattle.bl_explaining.specs.Places.{ArePlaces, source}
use Rattle.bl_explaining.specs.declared.places.Places.{Places}
use Rattle.bl_explaining.specs.declared.setting.Setting.{Setting}

-- own choice: the line of a test and why, filled to a width, and two blanks behind it what made it so
abbrev pub row_pieces : Tested → List ℕ → List ℕ → ℕ → List (List ℕ)
row_pieces tested why [] width = row tested why 0 ∷ codes "\n" ∷ []
row_pieces tested why (byte ∷ bytes) width = row tested why width ∷ codes "  " ∷ (byte ∷ bytes) ∷ codes "\n" ∷ []

-- a line of its own behind a text
abbrev pub with_line : List ℕ → List ℕ → List ℕ
with_line text line = behind text (line ∷ codes "\n" ∷ [])

module _ (t : Setting) where
  -- the names of a setting's setup
  abbrev pub names_in : KnownNames
  names_in = t.moment.setup.now.names

  -- what decides an access
  abbrev pub grounds_in : Access → Grounds
  grounds_in access = grounds_of t.moment.policy.now t.subject t.carried access

  -- the greater one of a width and that of why a test is answered so
  abbrev pub wider : Access → ℕ → Clause → ℕ
  wider access width clause = max width (length (reason names_in t.subject access (grounds_in access) clause))

  -- the width of the longest of these reasons
  abbrev pub width_of : Access → ℕ
  width_of access =
      wider access (wider access (wider access (wider access (wider access 0 failing.Absent) failing.Simple) failing.Star) failing.Discretionary)
      failing.Carry

  -- behind a text the line of a test of an access
  abbrev pub with_row : Access → Places → ℕ → List ℕ → Tested → List ℕ
  with_row access places width text tested =
      behind text (row_pieces tested (reason names_in t.subject access (grounds_in access) tested.clause)
      (source t.path.now places access.mode tested.clause) width)

  -- behind a text those of all its tests
  abbrev pub with_rows : Access → Places → List ℕ → List ℕ
  with_rows access places text =
      fold (with_row access places (width_of access)) text (in_order (tests_on (grounds_in access) access.mode))

  -- behind a text all that is told of an access: what is decided, its tests, and at which current levels it is granted
  abbrev pub with_access : Access → Places → List ℕ → List ℕ
  with_access access places text =
      with_line
      (with_rows access places (with_line text (verdict names_in t.subject access (grounds_in access))))
      (range_line names_in (range_on (grounds_in access) access.mode))

  -- behind a text that of each of these accesses, in their order
  abbrev pub AreShown : List Access → List ℕ → List ℕ → Type 0
  AreShown [] before after = after ≡ before
  AreShown (access ∷ accesses) before after =
      (places : Places) × ArePlaces t access places
      × AreShown accesses (with_access access places before) after

  -- own choice: where there are several accesses, the first line is that of the first one that is refused, or that all are granted
  abbrev pub decision_line : List Access → Option Refused → List ℕ
  decision_line accesses None = behind [] (codes "granted: " ∷ subject_name names_in t.subject ∷ [])
  decision_line accesses (Some refused) =
      let access = slice_index_or accesses refused.place (record { mode = Read; doc = 0 }) in
      verdict names_in t.subject access (grounds_in access)

  abbrev pub heading : List Access → Option Refused → List ℕ
  heading accesses refused = if length accesses == 1 then [] else with_line [] (decision_line accesses refused)

  -- what decides a rule
  abbrev pub rule_grounds_in : Rule → RuleGrounds
  rule_grounds_in rule = rule_grounds_of t.moment.policy.now t.subject rule

  -- the width of the longer reason of its conditions
  abbrev pub wider_rule : Rule → ℕ → Tested → ℕ
  wider_rule rule width tested = max width (length (rule_reason names_in t.subject rule (rule_grounds_in rule) tested.clause))

  -- the width with that of a condition, where there is one
  abbrev pub wider_second : Rule → ℕ → Option Tested → ℕ
  wider_second rule width None = width
  wider_second rule width (Some tested) = wider_rule rule width tested

  -- behind a text the line of a condition of a rule
  abbrev pub with_condition : Rule → Places → ℕ → List ℕ → Tested → List ℕ
  with_condition rule places width text tested =
      behind text (row_pieces tested (rule_reason names_in t.subject rule (rule_grounds_in rule) tested.clause)
      (source t.path.now places Read tested.clause) width)

  -- the same of a second one, where there is one
  abbrev pub with_second : Rule → Places → ℕ → List ℕ → Option Tested → List ℕ
  with_second rule places width text None = text
  with_second rule places width text (Some tested) = with_condition rule places width text tested

  -- behind a text the lines of a rule's conditions, of which the first is asked first
  abbrev pub with_conditions : Rule → Places → Tested → Option Tested → List ℕ → List ℕ
  with_conditions rule places first second text =
      let width = wider_second rule (wider_rule rule 0 first) second in
      with_second rule places width (with_condition rule places width text first) second

  -- all that is told of a rule: what is decided, and its conditions
  abbrev pub rule_text : Rule → List ℕ → Places → List ℕ
  rule_text rule words places =
      let tests = rule_tests_on (rule_grounds_in rule) rule in
      with_conditions rule places tests.first tests.second
      (with_line [] (rule_verdict names_in t.subject (fails_first (in_turn tests)) words))
