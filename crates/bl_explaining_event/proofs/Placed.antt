-- A start that has happened, in the setting in which it was decided.
use Rattle.std.proofs.Common.{◌≡◌, ◌<◌, ◌∙◌, ℕ, ap, arith, length, subst, sym}
use Rattle.bl_level.specs.Scheme.{HoldsLevel, SchemeNames}
use Rattle.bl_policy.specs.declared.rule.Rule.{Rule}
use Rattle.bl_policy.specs.declared.rule.Rule.TheVariants.{Give, Rescind, Current, Classify, Create, Delete}
use Rattle.bl_setup.specs.Setup.{Setup}
use Rattle.bl_setup.specs.declared.version.Version.TheVariants.{Two}
use Rattle.bl_work.specs.Names.{KnownNames}
use Rattle.bl_work.specs.Statements.{no_part}
use Rattle.bl_order.specs.Headline.{Holds, IsReached}
use Rattle.bl_order.specs.Machine.{Event, Starts, State, past_at}
use Rattle.bl_order.specs.Now.{policy_now}
use Rattle.bl_order.specs.Order.{Applies, Runs, Task}
use Rattle.bl_order.specs.Room.{IsBehaviourOrRule}
use Rattle.bl_state.specs.Whole.{IsWhole}
use Rattle.bl_state.proofs.Kept.{IsPolicyFor, RuleHolds, TaskFits}
use Rattle.bl_hall.specs.Chronicle.{Chronicle}
use Rattle.bl_rebuild.proofs.Recovering.{by-two}
use Rattle.bl_explain.specs.Since.{policy_after}
use Rattle.bl_explain_text.specs.RuleReasons.{HoldsAsked}
use Rattle.bl_explaining.specs.Explained.{IsMoment, IsPolicyOf}
use Rattle.bl_explaining.specs.declared.setting.Moment.{Moment}
use Rattle.bl_explaining.specs.declared.setting.Setting.{Setting}
use Rattle.bl_explaining_trail.proofs.Fitting.{FittingLaws, fits-now}
use Rattle.bl_explaining_event.specs.Starts.{IsBehind, IsMomentBefore, IsStartIn, IsTaskFor}
use Rattle.bl_explaining_event.proofs.Speaking.{carried-known, speaker-known, task-fits}

asked-of : (scheme : SchemeNames) (rule : Rule) → RuleHolds scheme rule → HoldsAsked scheme rule
asked-of scheme (Give t o m) holds = tt
asked-of scheme (Rescind t o m) holds = tt
asked-of scheme (Current level) holds = holds
asked-of scheme (Classify o level) holds = tt
asked-of scheme (Create o) holds = tt
asked-of scheme (Delete o) holds = tt

task-for : (names : KnownNames) (task : Task) → IsBehaviourOrRule task → TaskFits names task → IsTaskFor names task
task-for names (Runs script index) is fits = fits index no_part is.1
task-for names (Applies rule) is fits = (fits.1, asked-of names.scheme rule fits.0)

module _ (laws : FittingLaws) (tasks : (x : State) (n : ℕ) → IsReached x → n < length x.order → IsBehaviourOrRule (past_at x n).task)
    (m : Moment) (hall : Chronicle) (n : ℕ) (x : State) (holds : Holds x) (b : IsMomentBefore m hall x (Starts n)) where
  whole : IsWhole x.setup
  whole = subst IsWhole (sym b.setup_is) b.moment.whole

  there : n < length x.order
  there = b.happened.needs.there

  first : IsPolicyFor x.setup.names x.setup.policy
  first = record {
    subjects = whole.agree.subjects;
    documents = whole.agree.documents;
    presence = whole.agree.presence;
    cleared = whole.cleared;
    held = whole.held;
    cells = whole.cells;
  }

  known : (past_at x n).subject < length m.setup.now.names.subjects
  known =
      subst (λ (s : Setup). (past_at x n).subject < length s.names.subjects) b.setup_is
      (omega (arith, speaker-known x b.happened.reached holds n there, whole.agree.subjects))

  held : HoldsLevel m.setup.now.names.scheme (past_at x n).carried
  held =
      subst (λ (s : Setup). HoldsLevel s.names.scheme (past_at x n).carried) b.setup_is
      (carried-known laws x b.happened.reached holds first whole.names.scheme n there)

  task : IsTaskFor m.setup.now.names (past_at x n).task
  task =
      subst (λ (s : Setup). IsTaskFor s.names (past_at x n).task) b.setup_is
      (task-for x.setup.names (past_at x n).task (tasks x n b.happened.reached there)
      (task-fits laws x b.happened.reached holds first whole.names.scheme n))

  pub start-in : (t : Setting) → t.moment ≡ m → t.subject ≡ (past_at x n).subject → t.carried ≡ (past_at x n).carried → IsStartIn t hall n x
  start-in t moment subject carried = record {
    setting = record {
      moment = subst IsMoment (sym moment) b.moment;
      known = subst (λ (k : Moment). t.subject < length k.setup.now.names.subjects) (sym moment)
          (subst (λ s. s < length m.setup.now.names.subjects) (sym subject) known);
      held = subst (λ (k : Moment). HoldsLevel k.setup.now.names.scheme t.carried) (sym moment)
          (subst (HoldsLevel m.setup.now.names.scheme) (sym carried) held);
    };
    happened = b.happened;
    setup_is = b.setup_is ∙ ap (λ (k : Moment). k.setup.now) (sym moment);
    subject = subject;
    carried = carried;
    task = subst (λ (k : Moment). IsTaskFor k.setup.now.names (past_at x n).task) (sym moment) task;
  }

-- behind rules, at the moment that they made
module _ (laws : FittingLaws) (m : Moment) (hall : Chronicle) (x : State) (event : Event) (b : IsBehind m.setup.now m.rules.now hall x event)
    (made : m.policy.now ≡ policy_after m.setup.now.policy m.rules.now) where
  pub policy-is : m.policy.now ≡ policy_now x
  policy-is = made ∙ sym b.made

  pub before-is : IsMomentBefore m hall x event
  before-is = record {
    moment = record {
      whole = b.whole;
      rules = b.known;
      made = made;
      fits = subst (IsPolicyOf m.setup.now.names) (sym policy-is)
          (fits-now laws m.setup.now Two x (by-two m.setup.now b.whole.two ∙ sym b.setup_is) b.happened.reached b.whole);
    };
    happened = b.happened;
    setup_is = b.setup_is;
    policy_is = policy-is;
  }
