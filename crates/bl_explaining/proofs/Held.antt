-- The levels that an explanation tells have names.
use Rattle.std.proofs.Common.{◌<◌, ℕ, Bool, true, false, List, length, arith, subst}
use Rattle.std.specs.Prelude.{All, Some, None, if◌then◌else◌}
use Rattle.std.proofs.lemmas.Nat.Bits.{bit_at-zero, bit_at-lt, bit_at_and}
use Rattle.bl_level.specs.Level.{SecurityLevel}
use Rattle.bl_level.specs.Scheme.{SchemeNames, IsScheme, HoldsLevel}
use Rattle.bl_policy.specs.declared.access.Access.{Access}
use Rattle.bl_policy.specs.declared.access.Mode.{Mode}
use Rattle.bl_policy.specs.declared.access.Mode.TheVariants.{Read, Append, Write}
use Rattle.bl_policy.specs.declared.rule.Rule.{Rule}
use Rattle.bl_policy.specs.Policy.{SecurityPolicy, lowest, nobody}
use Rattle.bl_policy.specs.RuleEffect.{HasIdsBelow, IsRuleOf}
use Rattle.bl_setup.specs.Setup.{Setup}
use Rattle.bl_state.specs.Whole.{IsCleared, IsWhole}
use Rattle.bl_work.specs.Names.{KnownNames}
use Rattle.bl_state.proofs.Kept.{all-get}
use Rattle.bl_explain.specs.Grounds.{grounds_of}
use Rattle.bl_explain.specs.Ranges.{hold_at_any_level, levels_on, meet_of, range_on, star_range}
use Rattle.bl_explain.specs.RuleTests.{rule_grounds_of}
use Rattle.bl_explain.specs.Tests.{tests_on}
use Rattle.bl_explain.specs.declared.grounds.Grounds.{Grounds}
use Rattle.bl_explain.specs.declared.range.LevelRange.{LevelRange}
use Rattle.bl_explain_text.specs.Reasons.{HoldsGrounds}
use Rattle.bl_explain_text.specs.RuleReasons.{HoldsAsked, HoldsRuleGrounds}
use Rattle.bl_explain_text.specs.Telling.{HoldsRange}
use Rattle.bl_explaining.specs.Explained.{IsPolicyOf}

pub lowest-held : (scheme : SchemeNames) → IsScheme scheme → HoldsLevel scheme lowest
lowest-held scheme is = record { rank = is.some; categories = λ k has. absurd (omega (arith, has, bit_at-zero k)) }

meet-held : (scheme : SchemeNames) (a b : SecurityLevel) → HoldsLevel scheme a → HoldsLevel scheme b → HoldsLevel scheme (meet_of a b)
meet-held scheme a b one other = record {
  rank = omega (arith, one.rank, other.rank);
  categories = λ k has. one.categories k (omega (arith, has, bit_at_and a.categories b.categories k, bit_at-lt a.categories k));
}

-- the policy of a setup that is whole
pub first-fits : (setup : Setup) → IsWhole setup → IsPolicyOf setup.names setup.policy
first-fits setup whole = record { subjects = whole.agree.subjects; documents = whole.agree.documents; cleared = whole.cleared; held = whole.held }

module _ (names : KnownNames) (p : SecurityPolicy) (fits : IsPolicyOf names p) where
  -- the levels of a subject and a document
  pub grounds-held : (s : ℕ) (carried : SecurityLevel) (access : Access) → s < length names.subjects → access.doc < length names.documents
      → HoldsLevel names.scheme carried → HoldsGrounds names.scheme (grounds_of p s carried access)
  grounds-held s carried access known there held =
      let cleared = all-get (IsCleared names.scheme) p.subjects s nobody fits.cleared (subst (λ n. s < n) fits.subjects known) in
      record {
        level = all-get (HoldsLevel names.scheme) p.documents access.doc lowest fits.held (subst (λ n. access.doc < n) fits.documents there);
        greatest = cleared.greatest;
        current = cleared.current;
        carried = held;
      }

  pub rule-grounds-held : (s : ℕ) (rule : Rule) → s < length names.subjects → HoldsAsked names.scheme rule
      → HoldsRuleGrounds names.scheme (rule_grounds_of p s rule) rule
  rule-grounds-held s rule known asked =
      let cleared = all-get (IsCleared names.scheme) p.subjects s nobody fits.cleared (subst (λ n. s < n) fits.subjects known) in
      record { greatest = cleared.greatest; asked = asked }

  -- what a rule names is in the policy
  pub ids-of : (rule : Rule) → HasIdsBelow (length names.subjects) (length names.documents) rule → IsRuleOf p rule
  ids-of rule there =
      subst (λ n. HasIdsBelow n (length p.documents) rule) fits.subjects
      (subst (λ n. HasIdsBelow (length names.subjects) n rule) fits.documents there)

  -- and so are those of several accesses
  pub there-in : (accesses : List Access) → All (λ (access : Access). access.doc < length names.documents) accesses
      → All (λ (access : Access). access.doc < length p.documents) accesses
  there-in accesses all = subst (λ n. All (λ (access : Access). access.doc < n) accesses) fits.documents all

-- the ends of the range at which an access is granted
module _ (scheme : SchemeNames) (is : IsScheme scheme) (g : Grounds) (held : HoldsGrounds scheme g) where
  star-held : (m : Mode) → HoldsLevel scheme (star_range g.greatest g.level m).lowest × HoldsLevel scheme (star_range g.greatest g.level m).highest
  star-held Read = (held.level, held.greatest)
  star-held Append = (lowest-held scheme is, meet-held scheme g.greatest g.level held.greatest held.level)
  star-held Write = (held.level, held.level)

  abbrev either : Bool → Mode → LevelRange
  either trusted m = if trusted then record { lowest = lowest; highest = g.greatest } else star_range g.greatest g.level m

  either-held : (trusted : Bool) (m : Mode) → HoldsLevel scheme (either trusted m).lowest × HoldsLevel scheme (either trusted m).highest
  either-held true m = (lowest-held scheme is, held.greatest)
  either-held false m = star-held m

  if-held : (b : Bool) (m : Mode) → HoldsRange scheme (if b then Some (levels_on g m) else None)
  if-held true m = either-held g.trusted m
  if-held false m = tt

  pub range-held : (m : Mode) → HoldsRange scheme (range_on g m)
  range-held m = if-held (hold_at_any_level (tests_on g m)) m
