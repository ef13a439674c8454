use Rattle.std.proofs.Common.{ap, subst}
use Rattle.std.specs.Prelude.{OnOk, Result, Ok, Err}
use Rattle.bl_order.specs.Machine.{Starts}
use Rattle.bl_order.specs.Past.{is_done}
use Rattle.bl_core.specs.Answers.{IsStarted}
use Rattle.bl_hall.specs.Chronicle.{state_now}
use Rattle.bl_rebuild.proofs.Lending.{lent-begun, lent-run}
use Rattle.bl_rebuild.proofs.Making.{made, reached}
use Rattle.bl_rebuild.proofs.remade.Remade.start.Goals as goal

on-ok : {A E : Type 0} (r : Result A E) (P Q : Type 0) → OnOk r P → (P → Q) → OnOk r Q
on-ok (Ok v) P Q p f = f p
on-ok (Err e) P Q p f = tt

pub returns-in-Ok-Run : goal.returns-in-Ok-Run
returns-in-Ok-Run c =
    let r = c.args.self.now in
    let whole = c.requires.whole in
    let ok = c.in-Ok-Run.ensures.ok in
    let begun = subst (IsStarted (state_now r.hall) c.args.n) c.in-Ok-Run.field-0-is ok.0 in
    on-ok c.put.result _ _ c.put.ensures
    (λ put. made r whole _ (Starts c.args.n) c.requires.may ok.1
    (lent-run (state_now r.hall) (reached r whole) c.args.n r.slots.slots.items c.put.new.self.slots.items c.in-Ok-Run.lent c.requires.may begun.0 begun.1 whole.lent put))

pub returns-in-Ok-Denied : goal.returns-in-Ok-Denied
returns-in-Ok-Denied c =
    let r = c.args.self.now in
    let whole = c.requires.whole in
    let ok = c.in-Ok-Denied.ensures.ok in
    let begun = subst (IsStarted (state_now r.hall) c.args.n) c.in-Ok-Denied.field-0-is ok.0 in
    made r whole _ (Starts c.args.n) c.requires.may ok.1
    (lent-begun (state_now r.hall) (reached r whole) c.args.n r.slots.slots.items c.requires.may (ap is_done begun) whole.lent)

pub returns-in-Ok-RuleDone : goal.returns-in-Ok-RuleDone
returns-in-Ok-RuleDone c =
    let r = c.args.self.now in
    let whole = c.requires.whole in
    let ok = c.in-Ok-RuleDone.ensures.ok in
    let begun = subst (IsStarted (state_now r.hall) c.args.n) c.in-Ok-RuleDone.field-0-is ok.0 in
    made r whole _ (Starts c.args.n) c.requires.may ok.1
    (lent-begun (state_now r.hall) (reached r whole) c.args.n r.slots.slots.items c.requires.may (ap is_done begun) whole.lent)
