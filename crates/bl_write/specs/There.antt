-- What a script or a rule names is there: subjects and documents among the names, levels in the scheme, and the
-- behaviours that the statements of a script spawn.
use Rattle.std.specs.Prelude.{ℕ, ◌<◌, List, length, All}
use Rattle.bl_level.specs.Scheme.{SchemeNames, HoldsLevel}
use Rattle.bl_policy.specs.declared.access.Access.{Access}
use Rattle.bl_policy.specs.declared.rule.Rule as asked_rule
use Rattle.bl_policy.specs.declared.rule.Rule.TheVariants as asked
use Rattle.bl_policy.specs.RuleEffect.{HasIdsBelow}
use Rattle.bl_work.specs.declared.work.Work.{Work}
use Rattle.bl_work.specs.declared.work.Work.TheVariants.{Behaviour, Rule}
use Rattle.bl_work.specs.Names.{KnownNames}
use Rattle.bl_work.specs.Script.{IsScript}
use Rattle.bl_work.specs.Statements.{Statements, Nothing, Show, Say, Add, Set, Copy, Pour, If, Spawn, Part}

-- each document that the accesses declare is one of so many
abbrev pub AreIn : ℕ → List Access → Type 0
AreIn documents accesses = All (λ (access : Access). access.doc < documents) accesses

-- each document that a behaviour declares is among the names
abbrev pub AreThere : KnownNames → List Part → Type 0
AreThere names script = All (λ (part : Part). AreIn (length names.documents) part.accesses) script

-- the statements name the first so many documents and behaviours alone
abbrev pub AreWithin : ℕ → ℕ → Statements → Type 0
AreWithin documents behaviours Nothing = Unit {0}
AreWithin documents behaviours (Show doc rest) = (doc < documents) × AreWithin documents behaviours rest
AreWithin documents behaviours (Say text rest) = AreWithin documents behaviours rest
AreWithin documents behaviours (Add doc text rest) = (doc < documents) × AreWithin documents behaviours rest
AreWithin documents behaviours (Set doc text rest) = (doc < documents) × AreWithin documents behaviours rest
AreWithin documents behaviours (Copy from to rest) = (from < documents) × (to < documents)
    × AreWithin documents behaviours rest
AreWithin documents behaviours (Pour from to rest) = (from < documents) × (to < documents)
    × AreWithin documents behaviours rest
AreWithin documents behaviours (If doc asks text then_body else_body rest) =
    (doc < documents) × AreWithin documents behaviours then_body × AreWithin documents behaviours else_body
    × AreWithin documents behaviours rest
AreWithin documents behaviours (Spawn behaviour rest) = (behaviour < behaviours) × AreWithin documents behaviours rest

-- the level of a rule, where it has one, is the scheme's
abbrev pub HasHeldLevel : SchemeNames → asked_rule.Rule → Type 0
HasHeldLevel scheme (asked.Give subject doc mode) = Unit {0}
HasHeldLevel scheme (asked.Rescind subject doc mode) = Unit {0}
HasHeldLevel scheme (asked.Current level) = HoldsLevel scheme level
HasHeldLevel scheme (asked.Classify doc level) = HoldsLevel scheme level
HasHeldLevel scheme (asked.Create doc) = Unit {0}
HasHeldLevel scheme (asked.Delete doc) = Unit {0}

-- the subject and the document of a rule are among the names, and its level is the scheme's
pub record IsRuleThere (names : KnownNames) (rule : asked_rule.Rule) : Type 0 where
  pub ids : HasIdsBelow (length names.subjects) (length names.documents) rule
  pub level : HasHeldLevel names.scheme rule

-- what a work names is there
abbrev pub IsWorkThere : KnownNames → Work → Type 0
IsWorkThere names (Behaviour script) = IsScript script × AreThere names script
IsWorkThere names (Rule rule) = IsRuleThere names rule
