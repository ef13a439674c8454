-- Levels and rules that are asked have names in the scheme; why nothing is explained.
use Rattle.std.proofs.Common.{ℕ, List, subst, sym}
use Rattle.std.specs.Prelude.{Contains, Option, Some, None}
use Rattle.std.specs.Borrow.{Bor}
use Rattle.bl_policy.specs.declared.rule.Rule.{Rule}
use Rattle.bl_work.specs.KnownLine.{IsKnownLine}
use Rattle.bl_work.specs.LineGrammar.{LineOf}
use Rattle.bl_work.specs.Names.{KnownNames}
use Rattle.bl_work.specs.declared.asked.Line.{Line}
use Rattle.bl_work.specs.declared.asked.Line.TheVariants as line
use Rattle.bl_work.specs.declared.work.Work.{Work}
use Rattle.bl_work.specs.declared.work.Work.TheVariants as work
use Rattle.bl_policy.specs.declared.rule.Rule.TheVariants.{Give, Rescind, Current, Classify, Create, Delete}
use Rattle.bl_level.specs.Level.{SecurityLevel}
use Rattle.bl_level.specs.Scheme.{HoldsLevel, IsScheme}
use Rattle.bl_order.specs.Order as order
use Rattle.bl_state.proofs.Kept.{RuleHolds, entry-fits}
use Rattle.bl_explain_text.specs.RuleReasons.{HoldsAsked}
use Rattle.bl_explaining.proofs.Held.{lowest-held}
use Rattle.bl_question.specs.Asked.{IsCarried, IsUnasked, spaced}
use Rattle.bl_explaining.specs.Explained.{HoldsWork}
use Rattle.bl_question.specs.Wishes.{HasNoLevel, HasNoWish}
use Rattle.bl_question.specs.declared.fault.ExplainFault.{ExplainFault}
use Rattle.bl_question.specs.declared.fault.ExplainFault.TheVariants.{NoSubject, NoLevel, Unsaid, Program}
use Rattle.bl_question.specs.declared.question.Question.{Question}

module _ (names : KnownNames) (known : (bytes : List ℕ) (l : Line) → LineOf names bytes l → IsKnownLine names l) where
  -- the level that a rule of a line gives is the scheme's
  rule-level : (bytes : List ℕ) (rule : Rule) → LineOf names bytes (line.Work (work.Rule rule)) → RuleHolds names.scheme rule
  rule-level bytes rule reads = (entry-fits names known (order.Line 0 0 0 (work.Rule rule)) (bytes, reads)).0

  pub level-of-line : (bytes : List ℕ) (level : SecurityLevel) → LineOf names bytes (line.Work (work.Rule (Current level))) → HoldsLevel names.scheme level
  level-of-line bytes level reads = rule-level bytes (Current level) reads

  -- the level that is carried has a name
  pub carried-held : IsScheme names.scheme → (carried : Option (Bor (List ℕ))) (level : SecurityLevel) → IsCarried names carried level
      → HoldsLevel names.scheme level
  carried-held is None level lowest_is = subst (HoldsLevel names.scheme) (sym lowest_is) (lowest-held names.scheme is)
  carried-held is (Some text) level reads = level-of-line _ level reads

  asked-of : (rule : Rule) → RuleHolds names.scheme rule → HoldsAsked names.scheme rule
  asked-of (Give t o m) holds = tt
  asked-of (Rescind t o m) holds = tt
  asked-of (Current level) holds = holds
  asked-of (Classify o level) holds = tt
  asked-of (Create o) holds = tt
  asked-of (Delete o) holds = tt

  pub work-of-line : (bytes : List ℕ) (asked : Work) → LineOf names bytes (line.Work asked) → HoldsWork names.scheme asked
  work-of-line bytes (work.Behaviour script) reads = tt
  work-of-line bytes (work.Rule rule) reads = asked-of rule (rule-level bytes rule reads)

-- why nothing is explained, of a level and of what is asked for
module _ (names : KnownNames) (q : Question) (there : Contains names.subjects q.subject.now) where
  pub no-level-is : (fault : ExplainFault) → HasNoLevel (IsCarried names q.carried) fault → IsUnasked names q fault
  no-level-is NoSubject why = absurd why
  no-level-is NoLevel why = (there, why)
  no-level-is (Unsaid of) why = absurd why
  no-level-is (Program of) why = why

  pub no-wish-is : (level : SecurityLevel) → IsCarried names q.carried level → (fault : ExplainFault) → HasNoWish names (spaced q.wish.now) fault
      → IsUnasked names q fault
  no-wish-is level carried NoSubject why = absurd why
  no-wish-is level carried NoLevel why = absurd why
  no-wish-is level carried (Unsaid of) why = (there, (level, carried), why)
  no-wish-is level carried (Program of) why = why
