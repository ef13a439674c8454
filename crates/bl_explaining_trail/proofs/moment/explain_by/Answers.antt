use Rattle.std.proofs.Common.{refl, subst, sym}
use Rattle.std.proofs.lemmas.Result.{IfOk-weaker}
use Rattle.bl_explaining.specs.Explained.{IsExplainedAt, IsPolicyOf}
use Rattle.bl_explaining.specs.declared.setting.Moment.{Moment}
use Rattle.bl_explaining_trail.proofs.Fitting.{fits-now}
use Rattle.bl_explaining_trail.proofs.Meaning.{front-policy, front-reached, front-setup}
use Rattle.bl_explaining_trail.proofs.moment.explain_by.Goals as goal

pub explain_at-requires : goal.explain_at-requires
explain_at-requires c =
    let setup = c.args.setup.now in
    let at = c.requires.stands in
    let count = at.2.0 in
    let front = at.2.2 in
    let policy_is = front-policy setup at.0 count front c.rules_make_the_policy_of_a_run.ensures c.args.policy.now c.args.rules.now c.requires.made at.2.3 in
    record {
      whole = c.requires.whole;
      rules = c.requires.known;
      made = c.requires.made;
      fits = subst (IsPolicyOf setup.names) (sym policy_is)
          (fits-now (record {
            rules = record {
              put = c.matrix_is_a_set.ensures.put_in;
              out = c.matrix_is_a_set.ensures.take_out;
              without = c.matrix_is_a_set.ensures.without_document;
              none = c.rule_fault_is_the_first.ensures.none;
            };
            known = c.read_lines_are_known.ensures;
            asked = c.lines_are_readable.ensures;
          }) setup front.version _ (front-setup setup at.0 count front) (front-reached setup at.0 count front) c.requires.whole);
    }

pub returns-clause-explained : goal.returns-clause-explained
returns-clause-explained c =
    let setup = c.args.setup.now in
    let m : Moment = record { bytes = c.args.bytes; setup = c.args.setup; rules = c.args.rules; policy = c.args.policy } in
    IfOk-weaker c.explain_at.result (λ told. IsExplainedAt m c.args.question.now told.text.items told.granted) _
    (λ told tells trail at are. (
      m,
      record {
        setup_is = refl;
        bytes_is = refl;
        count = are.0;
        meant = are.1;
        front = are.2;
        rules_are = are.3;
        policy_is = front-policy setup trail are.0 are.2 c.rules_make_the_policy_of_a_run.ensures c.args.policy.now c.args.rules.now c.requires.made are.3;
      },
      tells,
    ))
    c.explain_at.ensures.explained
