use Rattle.std.proofs.Common.{◌≡◌, ◌∙◌, length, ap, arith, rules}
use Rattle.std.proofs.lemmas.List.{take_all}
use Rattle.bl_setup_tests.proofs.setups.of_its_parts.Goals as goal

pub of-requires : goal.of-requires
of-requires c =
    let h = c.names.ensures.agree in
    let names : c.in_ok-names.names ≡ c.args.setup.now.names = search rules in
    let policy : c.in_ok-policy.policy ≡ c.args.setup.now.policy = search rules in
    let all = ap length c.contents-content-items.ensures.value in
    let contents : c.loop-content.contents.items ≡ c.args.setup.now.contents =
    c.loop-content.invariant ∙ take_all c.loop-content.content-index c.args.setup.now.contents (omega arith) in
    rw names (rw policy (rw contents (record {
      subjects = h.subjects;
      documents = h.documents;
      presence = h.presence;
      contents = h.contents;
      absent = h.absent;
    })))
