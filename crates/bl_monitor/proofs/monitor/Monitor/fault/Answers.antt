use Rattle.std.proofs.Common.{◌<◌, ◌∙◌, ap, length, arith}
use Rattle.bl_monitor.specs.Heard.{fault_of}
use Rattle.bl_monitor.proofs.Coming.{told_fault}
use Rattle.bl_monitor.proofs.monitor.Monitor.fault.Goals as goal

pub returns : goal.returns
returns c =
    let lt : c.args.n < length c.self.inside.places.items = omega arith in
    told_fault c.self.inside c.self.invariant c.args.n c.index.result.now lt c.index.ensures
    ∙ ap (λ h. fault_of h c.args.n) c.self.view_is
