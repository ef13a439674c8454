use Rattle.std.proofs.Common.{◌≡◌, ap, subst, arith}
use Rattle.std.specs.Prelude.{Option, None, slice_get, option_and_then}
use Rattle.bl_work.specs.Readable.{IsReadable}
use Rattle.bl_order.specs.Known.{KnowsWork}
use Rattle.bl_order.specs.Machine.{State}
use Rattle.bl_order.specs.Order.{Entry}
use Rattle.bl_core.specs.Origins.{work_asked}
use Rattle.bl_core.specs.View.{state_of}
use Rattle.bl_place.specs.declared.place.Descent.TheVariants.{Child}
use Rattle.bl_core.proofs.Looking.{entry-by, work-readable}
use Rattle.bl_core.proofs.machine.Core.work.Goals as goal

pub returns-in-Line-clause-readable : goal.returns-in-Line-clause-readable
returns-in-Line-clause-readable c =
    subst (λ (x : State). IsReadable x.setup.names c.in-Line.work) c.self.view_is
    (work-readable c.self.inside c.args.n c.index.result.now (omega arith) c.index.ensures c.in-Line.session c.in-Line.ordinal c.in-Line.work c.in-Line.is
    (c.lines_are_readable.ensures (state_of c.self.inside) c.self.invariant.reached))

pub returns-in-Line-clause-known : goal.returns-in-Line-clause-known
returns-in-Line-clause-known c =
    let asked = work-readable c.self.inside c.args.n c.index.result.now (omega arith) c.index.ensures c.in-Line.session c.in-Line.ordinal c.in-Line.work c.in-Line.is
    (c.lines_are_readable.ensures (state_of c.self.inside) c.self.invariant.reached) in
    subst (λ (x : State). KnowsWork x.setup c.in-Line.work) c.self.view_is
    (c.read_lines_are_in_the_setup.ensures.work c.self.inside.setup asked.0 c.in-Line.work c.self.invariant.agree asked.1)

pub returns-in-Child-clause-work : goal.returns-in-Child-clause-work
returns-in-Child-clause-work c =
    subst (λ (x : State). option_and_then work_asked (slice_get x.order c.args.n) ≡ None) c.self.view_is
    (ap (λ (entry : Option Entry). option_and_then work_asked entry)
    (entry-by c.self.inside c.args.n c.index.result.now (omega arith) c.index.ensures (Child c.in-Child.parent c.in-Child.which) c.in-Child.is))
