use Rattle.std.proofs.Common.{List, ap, sym, ◌∙◌, subst, arith}
use Rattle.std.specs.Prelude.{◌==◌, map, IsTrue}
use Rattle.std.specs.List.{list_any}
use Rattle.std.proofs.lemmas.List.{length-map}
use Rattle.std.proofs.lemmas.Result.{on_ok_weaker, on_err_weaker}
use Rattle.bl_policy.specs.declared.access.Access.{Access}
use Rattle.bl_work.specs.Modes.{declares, alters}
use Rattle.bl_work.specs.Script.{AreApart}
use Rattle.bl_work.specs.Content.{added}
use Rattle.bl_grant.specs.Loaned.{Loaned}
use Rattle.bl_grant.specs.Loans.{accesses_of, changed, IsPlace}
use Rattle.bl_grant.specs.Granted.{loaned_of}
use Rattle.bl_grant.specs.declared.grant.Grant.{Grant}
use Rattle.bl_grant.proofs.Places.{is-declared, grant-changed, grant-mode, grant-kept}
use Rattle.bl_grant.proofs.grants.Grants.add.Goals as goal

pub place-place-requires : goal.place-place-requires
place-place-requires c =
    subst (λ (gs : List Loaned). IsTrue (list_any (λ (a : Access). a.doc == c.args.doc) (accesses_of gs))) (sym (ap (map loaned_of) c.deref.ensures.value ∙ c.self.view_is))
    (is-declared alters (accesses_of c.args.self.now) c.args.doc c.requires.alters)

pub add-requires-clause-mode : goal.add-requires-clause-mode
add-requires-clause-mode c =
    grant-mode alters c.self.inside.grants.items c.args.doc c.place-place.result c.index_mut.result.now
    (subst (λ (gs : List Loaned). AreApart (accesses_of gs)) (sym c.self.view_is) c.requires.apart)
    (subst (λ (gs : List Loaned). IsTrue (declares alters (accesses_of gs) c.args.doc)) (sym c.self.view_is) c.requires.alters)
    (subst (λ (gs : List Grant). IsPlace (map loaned_of gs) c.args.doc c.place-place.result) c.deref.ensures.value c.place-place.ensures)
    c.index_mut.ensures.value

pub returns-clause-ok : goal.returns-clause-ok
returns-clause-ok c =
    let gs = c.self.inside.grants.items in
    let at : IsPlace (map loaned_of gs) c.args.doc c.place-place.result = subst (λ (gs : List Grant). IsPlace (map loaned_of gs) c.args.doc c.place-place.result) c.deref.ensures.value c.place-place.ensures in
    on_ok_weaker c.add.result
    (λ e. grant-changed (λ content. added content c.args.text.now) gs c.args.doc c.place-place.result c.index_mut.result.now c.add.new.self at c.index_mut.ensures.value e
    ∙ ap (changed (λ content. added content c.args.text.now) c.args.doc) c.self.view_is)
    c.add.ensures.ok

pub returns-clause-err : goal.returns-clause-err
returns-clause-err c =
    let gs = c.self.inside.grants.items in
    let at : IsPlace (map loaned_of gs) c.args.doc c.place-place.result = subst (λ (gs : List Grant). IsPlace (map loaned_of gs) c.args.doc c.place-place.result) c.deref.ensures.value c.place-place.ensures in
    on_err_weaker c.add.result
    (λ e. grant-kept gs c.place-place.result c.index_mut.result.now c.add.new.self (omega (arith, at.within, length-map gs loaned_of)) c.index_mut.ensures.value e ∙ c.self.view_is)
    c.add.ensures.err
