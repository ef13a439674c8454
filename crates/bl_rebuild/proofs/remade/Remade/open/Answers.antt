use Rattle.std.proofs.Common.{◌≡◌, sym, ◌∙◌, ap, subst}
use Rattle.bl_name.specs.Table.{place_of}
use Rattle.bl_setup.specs.Agreement.{Agree}
use Rattle.bl_setup.specs.Setup.{Setup}
use Rattle.bl_work.specs.Names.{AreNames, KnownNames}
use Rattle.bl_order.specs.Machine.{State, Opens}
use Rattle.bl_hall.specs.Chronicle.{state_now, with_event}
use Rattle.bl_rebuild.proofs.Lending.{lent-opened}
use Rattle.bl_rebuild.proofs.Making.{made, reached}
use Rattle.bl_rebuild.proofs.Naming.{same-subject}
use Rattle.bl_rebuild.proofs.remade.Remade.open.Goals as goal

pub returns : goal.returns
returns c subject may =
    let r = c.args.self.now in
    let whole = c.requires.whole in
    let x : State = state_now r.hall in
    let setup : c.setup.result.now ≡ x.setup = c.setup.ensures ∙ ap (λ (y : State). y.setup) (c.core.ensures.value ∙ ap state_now c.hall.ensures) in
    let names : c.names-names.result.now ≡ x.setup.names = c.names-names.ensures.value ∙ ap (λ (s : Setup). s.names) setup in
    let same : c.in-Some.subject ≡ subject =
    same-subject x.setup (subst Agree setup c.names-names.ensures.agree) (subst AreNames names c.scheme-scheme.ensures.names) c.args.name.now subject c.in-Some.subject may.0.0 may.1
    (ap (λ (k : KnownNames). place_of c.args.name.now k.subjects) (sym names) ∙ sym c.in-Some.ensures.value) in
    made r whole _ (Opens subject) may.0 (c.in-Ok.ensures.ok.1 ∙ ap (λ s. with_event r.hall (Opens s)) same)
    (lent-opened x (reached r whole) subject r.slots.slots.items may.0 whole.lent)
