use Rattle.std.proofs.Common.{set, refl, arith, ap, sym, ◌∙◌}
use Rattle.std.specs.Prelude.{map}
use Rattle.std.proofs.lemmas.List.{length-map, map-set}
use Rattle.bl_grant.specs.Loaned.{as_lent, no_loan}
use Rattle.bl_grant.specs.Granted.{loaned_of}
use Rattle.bl_grant.proofs.Places.{read-at}
use Rattle.bl_grant.proofs.Lists.{was, reset-more, reset-next, reset-all, written}
use Rattle.bl_grant.proofs.grants.Grants.reset.Goals as goal

pub loop-grant-init : goal.loop-grant-init
loop-grant-init c = refl

pub loop-grant-preserved : goal.loop-grant-preserved
loop-grant-preserved c =
    let gs = map loaned_of c.deref_mut-grant-items.result.now in
    let now = map loaned_of c.loop-grant.grant-items in
    let i = c.loop-grant.grant-index in
    let lt = length-map c.deref_mut-grant-items.result.now loaned_of in
    map-set loaned_of c.loop-grant.grant-items i c.reset.new.self
    ∙ ap (set now i) (c.reset.ensures ∙ ap was (sym c.grant-item.is) ∙ ap as_lent (sym (read-at c.loop-grant.grant-items i c.grant-item.result (omega arith) c.grant-item.is) ∙ reset-next gs now i no_loan (omega (arith, lt)) c.loop-grant.invariant))
    ∙ reset-more gs now i no_loan (omega (arith, lt)) c.loop-grant.invariant

pub returns : goal.returns
returns c =
    let gs = c.deref_mut-grant-items.result.now in
    ap (map loaned_of) (written c.self.inside.grants.len c.loop-grant.grant-items c.self.inside.grants.items (c.loop-grant.auto.grant-items ∙ c.deref_mut-grant-items.ensures.len))
    ∙ reset-all (map loaned_of gs) (map loaned_of c.loop-grant.grant-items) c.loop-grant.grant-index (omega (arith, length-map gs loaned_of)) c.loop-grant.invariant
    ∙ ap (λ gs. map as_lent (map loaned_of gs)) c.deref_mut-grant-items.ensures.value ∙ ap (map as_lent) c.self.view_is
