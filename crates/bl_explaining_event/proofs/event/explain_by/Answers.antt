use Rattle.std.proofs.Common.{refl}
use Rattle.std.proofs.lemmas.Result.{IfOk-weaker}
use Rattle.bl_explaining.specs.declared.setting.Moment.{Moment}
use Rattle.bl_explaining_trail.proofs.Fitting.{FittingLaws}
use Rattle.bl_explaining_event.proofs.Placed.{before-is, policy-is}
use Rattle.bl_explaining_event.proofs.event.explain_by.Goals as goal

pub explain_last-requires : goal.explain_last-requires
explain_last-requires c =
    let laws : FittingLaws = record {
      rules = record {
        put = c.matrix_is_a_set.ensures.put_in;
        out = c.matrix_is_a_set.ensures.take_out;
        without = c.matrix_is_a_set.ensures.without_document;
        none = c.rule_fault_is_the_first.ensures.none;
      };
      known = c.read_lines_are_known.ensures;
      asked = c.lines_are_readable.ensures;
    } in
    let m : Moment = record { bytes = c.args.bytes; setup = c.args.setup; rules = c.args.rules; policy = c.args.policy } in
    let b = c.requires.behind in
    (b.0, b.1, before-is laws m c.args.hall.now b.0 b.1 b.2 c.requires.made)

pub returns : goal.returns
returns c =
    let laws : FittingLaws = record {
      rules = record {
        put = c.matrix_is_a_set.ensures.put_in;
        out = c.matrix_is_a_set.ensures.take_out;
        without = c.matrix_is_a_set.ensures.without_document;
        none = c.rule_fault_is_the_first.ensures.none;
      };
      known = c.read_lines_are_known.ensures;
      asked = c.lines_are_readable.ensures;
    } in
    let m : Moment = record { bytes = c.args.bytes; setup = c.args.setup; rules = c.args.rules; policy = c.args.policy } in
    IfOk-weaker c.explain_last.result _ _
    (λ told tells x event b. record {
      m = m;
      setup_is = refl;
      bytes_is = refl;
      rules_are = refl;
      policy_is = policy-is laws m c.args.hall.now x event b c.requires.made;
      tells = tells x event (before-is laws m c.args.hall.now x event b c.requires.made);
    })
    c.explain_last.ensures
