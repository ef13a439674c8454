use Rattle.std.proofs.Common.{List, ap, sym, ◌∙◌, subst}
use Rattle.std.specs.Prelude.{◌==◌, map, IsTrue}
use Rattle.std.specs.List.{list_any}
use Rattle.bl_policy.specs.declared.access.Access.{Access}
use Rattle.bl_work.specs.Modes.{declares, is_write}
use Rattle.bl_work.specs.Script.{AreApart}
use Rattle.bl_grant.specs.Loaned.{Loaned}
use Rattle.bl_grant.specs.Loans.{accesses_of, changed, IsPlace}
use Rattle.bl_grant.specs.Granted.{loaned_of}
use Rattle.bl_grant.specs.declared.grant.Grant.{Grant}
use Rattle.bl_grant.proofs.Places.{is-declared, grant-changed, grant-mode}
use Rattle.bl_grant.proofs.grants.Grants.put.Goals as goal

pub place-place-requires : goal.place-place-requires
place-place-requires c =
    subst (λ (gs : List Loaned). IsTrue (list_any (λ (a : Access). a.doc == c.args.doc) (accesses_of gs))) (sym (ap (map loaned_of) c.deref.ensures.value ∙ c.self.view_is))
    (is-declared is_write (accesses_of c.args.self.now) c.args.doc c.requires.replaces)

pub put-requires : goal.put-requires
put-requires c =
    grant-mode is_write c.self.inside.grants.items c.args.doc c.place-place.result c.index_mut.result.now
    (subst (λ (gs : List Loaned). AreApart (accesses_of gs)) (sym c.self.view_is) c.requires.apart)
    (subst (λ (gs : List Loaned). IsTrue (declares is_write (accesses_of gs) c.args.doc)) (sym c.self.view_is) c.requires.replaces)
    (subst (λ (gs : List Grant). IsPlace (map loaned_of gs) c.args.doc c.place-place.result) c.deref.ensures.value c.place-place.ensures)
    c.index_mut.ensures.value

pub returns : goal.returns
returns c =
    let gs = c.self.inside.grants.items in
    let at : IsPlace (map loaned_of gs) c.args.doc c.place-place.result = subst (λ (gs : List Grant). IsPlace (map loaned_of gs) c.args.doc c.place-place.result) c.deref.ensures.value c.place-place.ensures in
    grant-changed (λ _. c.args.content) gs c.args.doc c.place-place.result c.index_mut.result.now c.put.new.self at c.index_mut.ensures.value c.put.ensures
    ∙ ap (changed (λ _. c.args.content) c.args.doc) c.self.view_is
