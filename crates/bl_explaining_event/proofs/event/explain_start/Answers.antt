use Rattle.std.proofs.Common.{◌<◌, ◌∙◌, ap, length, refl, subst, sym}
use Rattle.std.proofs.lemmas.Result.{IfOk-weaker}
use Rattle.bl_order.specs.Machine.{Starts, State, past_at}
use Rattle.bl_explaining_trail.proofs.Fitting.{FittingLaws}
use Rattle.bl_explaining_event.proofs.Noted.{happened-is}
use Rattle.bl_explaining_event.proofs.Placed.{start-in}
use Rattle.bl_explaining_event.proofs.event.explain_start.Goals as goal

pub speaker_of-subject-requires : goal.speaker_of-subject-requires
speaker_of-subject-requires c =
    let b = c.requires.1 in
    subst (λ (z : State). c.args.n < length z.order) (sym (c.core.ensures.value ∙ happened-is c.args.hall.now c.requires.0 (Starts c.args.n) b.happened))
    b.happened.needs.there

pub tell_start-requires : goal.tell_start-requires
tell_start-requires c =
    let laws : FittingLaws = record {
      rules = record {
        put = c.matrix_is_a_set.ensures.put_in;
        out = c.matrix_is_a_set.ensures.take_out;
        without = c.matrix_is_a_set.ensures.without_document;
        none = c.rule_fault_is_the_first.ensures.none;
      };
      known = c.read_lines_are_known.ensures;
      asked = c.lines_are_readable.ensures;
    } in
    let x = c.requires.0 in
    let b = c.requires.1 in
    let n = c.args.n in
    let past = ap (λ (z : State). past_at z n) (c.core.ensures.value ∙ happened-is c.args.hall.now x (Starts n) b.happened)
    ∙ (c.headline.ensures.state x b.happened.reached).start_leaves n n b.happened.needs in (
      x,
      start-in laws c.tasks_are_of_scripts.ensures c.args.moment.now c.args.hall.now n x (c.each_state_holds.ensures x b.happened.reached) b
          _ refl (c.speaker_of-subject.ensures.subject ∙ ap (λ p. p.subject) past) (c.speaker_of-subject.ensures.carried ∙ ap (λ p. p.carried) past),
    )

pub returns : goal.returns
returns c =
    let laws : FittingLaws = record {
      rules = record {
        put = c.matrix_is_a_set.ensures.put_in;
        out = c.matrix_is_a_set.ensures.take_out;
        without = c.matrix_is_a_set.ensures.without_document;
        none = c.rule_fault_is_the_first.ensures.none;
      };
      known = c.read_lines_are_known.ensures;
      asked = c.lines_are_readable.ensures;
    } in
    IfOk-weaker c.tell_start.result _ _
    (λ told tells x b.
    let n = c.args.n in
    let past = ap (λ (z : State). past_at z n) (c.core.ensures.value ∙ happened-is c.args.hall.now x (Starts n) b.happened)
    ∙ (c.headline.ensures.state x b.happened.reached).start_leaves n n b.happened.needs in
    record {
      t = _;
      moment_is = refl;
      path_is = refl;
      told = tells x (start-in laws c.tasks_are_of_scripts.ensures c.args.moment.now c.args.hall.now n x (c.each_state_holds.ensures x b.happened.reached) b
          _ refl (c.speaker_of-subject.ensures.subject ∙ ap (λ p. p.subject) past) (c.speaker_of-subject.ensures.carried ∙ ap (λ p. p.carried) past));
    })
    c.tell_start.ensures
