use Rattle.std.proofs.Common.{◌≡◌, sym, ◌∙◌, ap, subst}
use Rattle.std.specs.Prelude.{IfSome}
use Rattle.bl_write.specs.CanonicalLine.{canonical_line}
use Rattle.bl_work.specs.Names.{KnownNames}
use Rattle.bl_work.specs.Readable.{IsReadable}
use Rattle.bl_work.specs.declared.asked.Line.TheVariants as line
use Rattle.bl_work.specs.declared.work.Work.{Work}
use Rattle.bl_order.specs.Machine.{State, Admits}
use Rattle.bl_hall.specs.Chronicle.{state_now, with_event}
use Rattle.bl_trail.specs.WorkText.{IsWorkText}
use Rattle.bl_rebuild.proofs.Lending.{lent-admitted}
use Rattle.bl_rebuild.proofs.Making.{made, reached}
use Rattle.bl_rebuild.proofs.remade.Remade.admit.Goals as goal

pub returns : goal.returns
returns c work may =
    let r = c.args.self.now in
    let whole = c.requires.whole in
    let x : State = state_now r.hall in
    let names : c.names.result.now ≡ x.setup.names = c.names.ensures ∙ ap (λ (y : State). y.setup.names) (c.core.ensures.value ∙ ap state_now c.hall.ensures) in
    let said : IsWorkText c.names.result.now c.args.text.now work =
    record {
      readable = subst (λ (k : KnownNames). IsReadable k work) (sym names) may.0.1;
      canonical = may.1 ∙ ap (λ (k : KnownNames). canonical_line k (line.Work work)) (sym names);
    } in
    let same : work ≡ c.in-Some.work =
    subst (λ o. IfSome o (λ (found : Work). (other : Work) → IsWorkText c.names.result.now c.args.text.now other → other ≡ found)) c.in-Some.is c.in_ok-work.ensures.one work said in
    made r whole _ (Admits c.args.session c.args.ordinal work) may.0
    (c.in-Ok.ensures.ok.1 ∙ ap (λ s. with_event r.hall (Admits s c.args.ordinal c.in-Some.work)) c.new.ensures ∙ ap (λ w. with_event r.hall (Admits c.args.session c.args.ordinal w)) (sym same))
    (lent-admitted x (reached r whole) c.args.session c.args.ordinal work r.slots.slots.items may.0 whole.lent)
