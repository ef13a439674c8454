-- The lines of an explanation.
use Rattle.std.specs.Prelude.{◌-◌, ℕ, Bool, true, false, List, [], ◌∷◌, ◌++◌, length, replicate, Option, Some, None, codes, if◌then◌else◌}
use Rattle.bl_policy.specs.declared.access.Access.{Access}
use Rattle.bl_policy.specs.declared.access.Mode.{Mode}
use Rattle.bl_policy.specs.declared.access.Mode.TheVariants.{Read, Append, Write}
use Rattle.bl_policy.specs.declared.denial.Clause.{Clause}
use Rattle.bl_policy.specs.declared.denial.Clause.TheVariants as failing
use Rattle.bl_policy.specs.Denial.{word_of}
use Rattle.bl_level.specs.Scheme.{SchemeNames, HoldsLevel}
use Rattle.bl_work.specs.Names.{KnownNames}
use Rattle.bl_explain.specs.declared.grounds.Grounds.{Grounds}
use Rattle.bl_explain.specs.declared.range.LevelRange.{LevelRange}
use Rattle.bl_explain.specs.declared.tests.Tested.{Tested}
use Rattle.bl_explain_text.specs.Reasons.{joined, subject_name, document_name, level_name}
use Rattle.bl_explain.specs.Since.{is_same_level}
use Rattle.bl_explain.specs.Tests.{fails_first, in_order, is_exempt, tests_on}

-- own choice: these words and widths, and those below
abbrev pub mode_name : Mode → List ℕ
mode_name Read = codes " read "
mode_name Append = codes " append "
mode_name Write = codes " write "

-- what is decided: `granted`, `granted, by exemption`, or `denied` with what fails first
abbrev pub verdict_words : Bool → Option Clause → List ℕ
verdict_words exempt (Some clause) = joined (codes "denied " ∷ word_of clause ∷ [])
verdict_words true None = codes "granted, by exemption"
verdict_words false None = codes "granted"

-- the first line: what is decided, who asks, and for what
abbrev pub verdict : KnownNames → ℕ → Access → Grounds → List ℕ
verdict names s access g =
    joined (
    verdict_words (is_exempt g access.mode) (fails_first (in_order (tests_on g access.mode)))
    ∷ codes ": "
    ∷ subject_name names s
    ∷ mode_name access.mode
    ∷ document_name names access.doc
    ∷ []
    )

-- the first line of a rule: what is decided, who asks, and the words of the rule
abbrev pub rule_verdict : KnownNames → ℕ → Option Clause → List ℕ → List ℕ
rule_verdict names s failed words = joined (verdict_words false failed ∷ codes ": " ∷ subject_name names s ∷ words ∷ [])

-- the text, filled with blanks to this width
abbrev pub filled : ℕ → List ℕ → List ℕ
filled width text = text ++ replicate (width - length text) 32

abbrev pub answer_words : Bool → List ℕ
answer_words true = codes "yes  "
answer_words false = codes "NO   "

-- what has to hold: a refusal that says `absent` is of a document that has to be present, and the other way round
abbrev pub test_word : Clause → List ℕ
test_word failing.Absent = word_of failing.Present
test_word failing.Present = word_of failing.Absent
test_word failing.Simple = word_of failing.Simple
test_word failing.Star = word_of failing.Star
test_word failing.Discretionary = word_of failing.Discretionary
test_word failing.Carry = word_of failing.Carry
test_word failing.Admin = word_of failing.Admin
test_word failing.Trusted = word_of failing.Trusted
test_word failing.Greatest = word_of failing.Greatest

-- the line of one test: its word, its answer, and why, filled to this width
abbrev pub row : Tested → List ℕ → ℕ → List ℕ
row tested reason width = joined (codes "  " ∷ filled 15 (test_word tested.clause) ∷ answer_words tested.holds ∷ filled width reason ∷ [])

-- the levels of a range have names
abbrev pub HoldsRange : SchemeNames → Option LevelRange → Type 0
HoldsRange scheme None = Unit {0}
HoldsRange scheme (Some range) = HoldsLevel scheme range.lowest × HoldsLevel scheme range.highest

-- the last line: at which current levels the access is granted
abbrev pub range_line : KnownNames → Option LevelRange → List ℕ
range_line names None = codes "  granted at no current level"
range_line names (Some range) =
    if is_same_level range.lowest range.highest then joined (codes "  granted at current level " ∷ level_name names range.lowest ∷ [])
    else joined (codes "  granted at current levels from " ∷ level_name names range.lowest ∷ codes " to " ∷ level_name names range.highest ∷ [])
