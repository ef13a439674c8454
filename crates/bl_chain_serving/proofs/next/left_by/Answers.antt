use Rattle.std.proofs.Common.{◌∙◌, ap, refl, subst, sym}
use Rattle.bl_audit.proofs.Lines.{setup-later}
use Rattle.bl_order.specs.Machine.{State, start}
use Rattle.bl_order.specs.Standing.{HaveAllEnded, setup_now}
use Rattle.bl_state.specs.Whole.{IsWhole}
use Rattle.bl_chain_serving.proofs.next.left_by.Goals as goal

pub next_setup-requires-clause-whole : goal.next_setup-requires-clause-whole
next_setup-requires-clause-whole c =
    let h = c.args.hall.now in
    subst IsWhole (sym (ap (λ (x : State). x.setup) c.core-core.ensures.value ∙ setup-later (start h.setup h.limit) h.trail)) c.requires

pub returns : goal.returns
returns c = record {
  ended = subst HaveAllEnded c.core-core.ensures.value (c.if-not-have_all_ended.ensures.0 refl);
  is = c.in_ok-next_setup.ensures.stands ∙ ap setup_now c.core-core.ensures.value;
  whole = c.in_ok-next_setup.ensures.whole;
}
