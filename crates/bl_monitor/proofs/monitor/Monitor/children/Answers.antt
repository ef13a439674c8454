use Rattle.std.proofs.Common.{◌≡◌, ◌<◌, sym, ◌∙◌, ap, cond, length, arith}
use Rattle.std.specs.Prelude.{Some, None, is_some}
use Rattle.bl_monitor.specs.Heard.{children_of}
use Rattle.bl_monitor.specs.Kept.{spawned_of}
use Rattle.bl_monitor.proofs.Coming.{told_children}
use Rattle.bl_monitor.proofs.monitor.Monitor.children.Goals as goal

pub returns-in-Some : goal.returns-in-Some
returns-in-Some c =
    let lt : c.args.n < length c.self.inside.places.items = omega arith in
    let count : c.len-in-Some.result ≡ length c.in-Some.children.items = omega arith in
    ap Some count
    ∙ ap (λ o. cond (is_some o) (Some (length (spawned_of o))) None) (sym c.in-Some.is)
    ∙ told_children c.self.inside c.self.invariant c.args.n c.index.result.now lt c.index.ensures
    ∙ ap (λ h. children_of h c.args.n) c.self.view_is

pub returns-in-None : goal.returns-in-None
returns-in-None c =
    let lt : c.args.n < length c.self.inside.places.items = omega arith in
    ap (λ o. cond (is_some o) (Some (length (spawned_of o))) None) (sym c.in-None.is)
    ∙ told_children c.self.inside c.self.invariant c.args.n c.index.result.now lt c.index.ensures
    ∙ ap (λ h. children_of h c.args.n) c.self.view_is
