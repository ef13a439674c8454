-- The worked examples of rules, computed from the definitions over the policy of the examples' setup.
use Rattle.std.proofs.Common.{◌≡◌, ℕ, Bool, true, false, refl, List, [], ◌∷◌}
use Rattle.std.specs.Prelude.{Option, Some, None}
use Rattle.bl_level.specs.Level.{SecurityLevel}
use Rattle.bl_policy.specs.declared.access.Mode.{Mode}
use Rattle.bl_policy.specs.declared.access.Mode.TheVariants.{Read, Append, Write}
use Rattle.bl_policy.specs.declared.denial.Denial.{Denial}
use Rattle.bl_policy.specs.declared.denial.Clause.TheVariants as failing
use Rattle.bl_policy.specs.declared.rule.Rule.TheVariants.{Give, Rescind, Current, Classify}
use Rattle.bl_policy.specs.Matrix.{Matrix, Triple, triple, no_triple, put_in}
use Rattle.bl_policy.specs.Policy.{SecurityPolicy, Clearance, lowest, with_subject}
use Rattle.bl_policy.specs.FirstFault.{first_fault, denied}
use Rattle.bl_policy.specs.RuleEffect.{rule_fault, after_rule}

-- ranks u, c, s and t are 0 to 3; category nato is bit 0, crypto bit 1
abbrev level : ℕ → ℕ → SecurityLevel
level rank categories = record { rank = rank; categories = categories }

abbrev person : SecurityLevel → SecurityLevel → Bool → Bool → Clearance
person greatest current trusted admin = record { greatest = greatest; current = current; trusted = trusted; admin = admin }

abbrev with_all : List Triple → Matrix
with_all [] = no_triple
with_all (t ∷ ts) = put_in (with_all ts) t

abbrev ann : ℕ
ann = 0

abbrev bob : ℕ
bob = 1

abbrev cat : ℕ
cat = 2

abbrev root : ℕ
root = 3

abbrev dan : ℕ
dan = 4

abbrev memo : ℕ
memo = 0

abbrev note : ℕ
note = 1

abbrev log : ℕ
log = 2

-- the subjects ann, bob, cat and root, the documents memo, note and log, and the matrix
abbrev base : SecurityPolicy
base = record {
  subjects = person (level 2 1) (level 2 1) false false ∷ person (level 2 1) (level 0 0) false false
      ∷ person (level 2 2) (level 2 2) false false ∷ person (level 3 3) (level 0 0) true true ∷ [];
  documents = level 2 1 ∷ level 0 0 ∷ level 3 3 ∷ [];
  present = true ∷ true ∷ true ∷ [];
  matrix = with_all (triple ann memo Read ∷ triple ann memo Write ∷ triple ann note Read ∷ triple ann note Write ∷ triple ann log Read ∷ triple ann log Append
      ∷ triple bob memo Read ∷ triple bob memo Write ∷ triple bob memo Append ∷ triple bob note Read ∷ triple bob note Write
      ∷ triple cat memo Read ∷ triple root note Read ∷ triple root note Write ∷ []);
}

-- one access
abbrev asks : SecurityPolicy → ℕ → Mode → ℕ → Option Denial
asks p s mode doc = first_fault p s lowest (record { mode = mode; doc = doc } ∷ [])

-- rules and their checks

give_without_right : rule_fault base ann (Give cat memo Read) ≡ denied failing.Admin ann memo
give_without_right = refl

lowered : rule_fault base ann (Current (level 2 0)) ≡ None
lowered = refl

raised_too_far : rule_fault (after_rule base ann (Current (level 2 0))) ann (Current (level 3 0)) ≡ Some (record { clause = failing.Greatest; subject = ann; object = None })
raised_too_far = refl

write_after_lowering : asks (after_rule (after_rule base ann (Current (level 2 0))) ann (Current (level 3 0))) ann Write memo ≡ denied failing.Star ann memo
write_after_lowering = refl

-- the decision follows the rules

abbrev classified : SecurityPolicy
classified = after_rule base root (Classify note (level 1 0))

abbrev cleared : SecurityPolicy
cleared = after_rule classified bob (Current (level 1 0))

abbrev rescinded : SecurityPolicy
rescinded = after_rule cleared root (Rescind bob note Read)

abbrev given : SecurityPolicy
given = after_rule rescinded root (Give bob note Read)

at_first : asks base bob Read note ≡ None
at_first = refl

after_classify : asks classified bob Read note ≡ denied failing.Star bob note
after_classify = refl

after_current : asks cleared bob Read note ≡ None
after_current = refl

after_rescind : asks rescinded bob Read note ≡ denied failing.Discretionary bob note
after_rescind = refl

after_give : asks given bob Read note ≡ None
after_give = refl

given_again : given ≡ cleared
given_again = refl

after_last_classify : asks (after_rule given root (Classify note (level 3 0))) bob Read note ≡ denied failing.Simple bob note
after_last_classify = refl

-- classify needs trust: dan is an administrator who is not trusted

abbrev with_dan : SecurityPolicy
with_dan = with_subject base (person (level 0 0) (level 0 0) false true)

dan_not_trusted : rule_fault with_dan dan (Classify note (level 1 0)) ≡ denied failing.Trusted dan note
dan_not_trusted = refl

dan_gives : rule_fault with_dan dan (Give cat note Read) ≡ None
dan_gives = refl

-- of an untrusted subject that is no administrator the administrator is asked first
cat_is_neither : rule_fault with_dan cat (Classify note (level 1 0)) ≡ denied failing.Admin cat note
cat_is_neither = refl
