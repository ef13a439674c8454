-- What is explained of what is asked.
use Rattle.std.specs.Prelude.{◌≡◌, ◌<◌, ℕ, Bool, List, [], All, MatchOption, is_none, length, slice_index_or, Option, Some}
use Rattle.std.specs.List.{AllByRecursion}
use Rattle.bl_level.specs.Scheme.{HoldsLevel}
use Rattle.bl_level.specs.Table.{place_of}
use Rattle.bl_policy.specs.declared.access.Access.{Access}
use Rattle.bl_policy.specs.declared.rule.Rule.{Rule}
use Rattle.bl_policy.specs.Policy.{SecurityPolicy}
use Rattle.bl_policy.specs.Properties.{IsGranted}
use Rattle.bl_setup.specs.Setup.{Setup}
use Rattle.bl_state.specs.Whole.{IsCleared, IsWhole}
use Rattle.bl_level.specs.Scheme.{SchemeNames}
use Rattle.bl_work.specs.Names.{KnownNames}
use Rattle.bl_work.specs.Statements.{no_part}
use Rattle.bl_work.specs.declared.work.Work.{Work}
use Rattle.bl_work.specs.declared.work.Work.TheVariants as work
use Rattle.bl_explain.specs.RuleTests.{in_turn, rule_tests_on}
use Rattle.bl_explain.specs.Several.{Decides}
use Rattle.bl_explain.specs.Since.{KnowsApplied, policy_after}
use Rattle.bl_explain.specs.Tests.{fails_first}
use Rattle.bl_explain.specs.declared.several.Refused.{Refused}
use Rattle.bl_explain_text.specs.RuleReasons.{HoldsAsked}
use Rattle.bl_question.specs.Asked.{IsCarried, IsWish, spaced}
use Rattle.bl_explaining.specs.Places.{AreRulePlaces}
use Rattle.bl_explaining.specs.Shown.{AreShown, heading, rule_grounds_in, rule_text}
use Rattle.bl_explaining.specs.declared.places.Places.{Places}
use Rattle.bl_question.specs.declared.question.Question.{Question}
use Rattle.bl_explaining.specs.declared.setting.Moment.{Moment}
use Rattle.bl_explaining.specs.declared.setting.Setting.{Setting}

-- a policy for these names: it has as many subjects and documents, and its levels have names
pub record IsPolicyOf (names : KnownNames) (p : SecurityPolicy) : Type 0 where
  pub subjects : length names.subjects ≡ length p.subjects
  pub documents : length names.documents ≡ length p.documents
  pub cleared : AllByRecursion (IsCleared names.scheme) p.subjects
  pub held : AllByRecursion (HoldsLevel names.scheme) p.documents

-- the setup of a moment is one that a file can declare, and its rules made its policy of the setup's
pub record IsMoment (m : Moment) : Type 0 where
  pub whole : IsWhole m.setup.now
  pub rules : All (KnowsApplied m.setup.now.policy) m.rules.now
  pub made : m.policy.now ≡ policy_after m.setup.now.policy m.rules.now
  pub fits : IsPolicyOf m.setup.now.names m.policy.now

-- the subject of a setting has a name there, and so has the level that is carried
pub record IsSetting (t : Setting) : Type 0 where
  pub moment : IsMoment t.moment
  pub known : t.subject < length t.moment.setup.now.names.subjects
  pub held : HoldsLevel t.moment.setup.now.names.scheme t.carried

-- the level that a rule asks for has a name
abbrev pub HoldsWork : SchemeNames → Work → Type 0
HoldsWork scheme (work.Behaviour script) = Unit {0}
HoldsWork scheme (work.Rule rule) = HoldsAsked scheme rule

-- which of the accesses decides: the first one that is not granted, if there is one
abbrev pub IsDecided : Setting → List Access → Option Refused → Type 0
IsDecided t accesses refused =
    MatchOption refused (All (λ access. IsGranted t.moment.policy.now t.subject t.carried access.doc access.mode) accesses)
    (Decides t.moment.policy.now t.subject t.carried accesses)

-- accesses: they are decided so, and each is shown
pub record TellsAccesses (t : Setting) (accesses : List Access) (text : List ℕ) (granted : Bool) : Type 0 where
  pub refused : Option Refused
  pub decided : IsDecided t accesses refused
  pub granted_is : granted ≡ is_none refused
  pub shown : AreShown t accesses (heading t accesses refused) text

-- a rule: it is permitted, or not, and its conditions are shown
pub record TellsRule (t : Setting) (rule : Rule) (words text : List ℕ) (granted : Bool) : Type 0 where
  pub places : Places
  pub are : AreRulePlaces t rule places
  pub granted_is : granted ≡ is_none (fails_first (in_turn (rule_tests_on (rule_grounds_in t rule) rule)))
  pub text_is : text ≡ rule_text t rule words places

-- what is told of a work: of a behaviour the accesses that it declares
abbrev pub TellsWork : Setting → List ℕ → Work → List ℕ → Bool → Type 0
TellsWork t words (work.Behaviour script) text granted = TellsAccesses t (slice_index_or script 0 no_part).accesses text granted
TellsWork t words (work.Rule rule) text granted = TellsRule t rule words text granted

-- what is told of what is asked for by these words
abbrev pub TellsWords : Setting → List ℕ → List ℕ → Bool → Type 0
TellsWords t words text granted = (asked : Work) × IsWish t.moment.setup.now.names words asked × TellsWork t words asked text granted

-- the text is what is told of what is asked, at this moment of a run, and it is granted, or not
pub record IsExplainedAt (m : Moment) (q : Question) (text : List ℕ) (granted : Bool) : Type 0 where
  pub t : Setting
  pub moment_is : t.moment ≡ m
  pub path_is : t.path.now ≡ q.path.now
  pub subject : place_of q.subject.now m.setup.now.names.subjects ≡ Some t.subject
  pub carried : IsCarried m.setup.now.names q.carried t.carried
  pub tells : TellsWords t (spaced q.wish.now) text granted

-- the moment at which a run begins, over the setup file of these bytes
pub record IsFirstMoment (setup : Setup) (bytes : List ℕ) (m : Moment) : Type 0 where
  pub setup_is : m.setup.now ≡ setup
  pub bytes_is : m.bytes.now ≡ bytes
  pub rules_are : m.rules.now ≡ []
  pub policy_is : m.policy.now ≡ setup.policy

-- the text is what is told of what is asked, over the setup file of these bytes, and it is granted, or not
abbrev pub IsExplained : Setup → List ℕ → Question → List ℕ → Bool → Type 0
IsExplained setup bytes q text granted = (m : Moment) × IsFirstMoment setup bytes m × IsExplainedAt m q text granted
