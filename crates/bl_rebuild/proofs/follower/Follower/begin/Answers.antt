use Rattle.std.proofs.Common.{ap, arith, length, length-append}
use Rattle.bl_setup.specs.declared.version.Version.TheVariants.{Two}
use Rattle.bl_trail.specs.TrueText.{head_lines, joined}
use Rattle.bl_rebuild.proofs.follower.Follower.begin.Goals as goal

pub invariant_of-result : goal.invariant_of-result
invariant_of-result c =
    let rest = c.in_ok-limit.rest.now in
    record {
      within = omega (arith, ap length c.in_ok-limit.ensures.ok.1, length-append (joined (head_lines Two c.in_ok-limit.limit)) rest);
      stands = c.in_ok-stepper.ensures.step;
    }
