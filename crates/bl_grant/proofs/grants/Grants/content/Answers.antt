use Rattle.std.proofs.Common.{List, ap, sym, ◌∙◌, subst, arith}
use Rattle.std.specs.Prelude.{◌==◌, map, IsTrue}
use Rattle.std.specs.List.{list_any}
use Rattle.std.proofs.lemmas.List.{length-map}
use Rattle.bl_policy.specs.declared.access.Access.{Access}
use Rattle.bl_work.specs.Modes.{declares, observes}
use Rattle.bl_work.specs.Script.{AreApart}
use Rattle.bl_grant.specs.Loaned.{Loaned}
use Rattle.bl_grant.specs.Loans.{accesses_of, content_of, IsPlace}
use Rattle.bl_grant.specs.Granted.{loaned_of}
use Rattle.bl_grant.specs.declared.grant.Grant.{Grant}
use Rattle.bl_grant.proofs.Places.{content-at, is-declared, read-at, grant-mode}
use Rattle.bl_grant.proofs.grants.Grants.content.Goals as goal

pub place-place-requires : goal.place-place-requires
place-place-requires c =
    subst (λ (gs : List Loaned). IsTrue (list_any (λ (a : Access). a.doc == c.args.doc) (accesses_of gs))) (sym (ap (map loaned_of) c.deref.ensures.value ∙ c.self.view_is))
    (is-declared observes (accesses_of c.args.self.now) c.args.doc c.requires.observes)

pub now-requires : goal.now-requires
now-requires c =
    grant-mode observes c.self.inside.grants.items c.args.doc c.place-place.result c.index.result.now
    (subst (λ (gs : List Loaned). AreApart (accesses_of gs)) (sym c.self.view_is) c.requires.apart)
    (subst (λ (gs : List Loaned). IsTrue (declares observes (accesses_of gs) c.args.doc)) (sym c.self.view_is) c.requires.observes)
    (subst (λ (gs : List Grant). IsPlace (map loaned_of gs) c.args.doc c.place-place.result) c.deref.ensures.value c.place-place.ensures)
    c.index.ensures

pub returns : goal.returns
returns c =
    let gs = c.self.inside.grants.items in
    let at : IsPlace (map loaned_of gs) c.args.doc c.place-place.result = subst (λ (gs : List Grant). IsPlace (map loaned_of gs) c.args.doc c.place-place.result) c.deref.ensures.value c.place-place.ensures in
    c.now.ensures ∙ ap (λ (l : Loaned). l.now) (sym (read-at gs c.place-place.result c.index.result.now (omega (arith, at.within, length-map gs loaned_of)) c.index.ensures))
    ∙ sym (content-at (map loaned_of gs) c.args.doc c.place-place.result at)
    ∙ ap (λ (gs : List Loaned). content_of gs c.args.doc) c.self.view_is
