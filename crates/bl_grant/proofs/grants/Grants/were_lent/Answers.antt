use Rattle.std.proofs.Common.{take, refl, ap, sym, ◌∙◌, arith}
use Rattle.std.specs.Prelude.{map}
use Rattle.std.proofs.lemmas.List.{take_all}
use Rattle.std.proofs.lemmas.Simd.{map-map}
use Rattle.bl_grant.specs.Loaned.{as_lent}
use Rattle.bl_grant.specs.Loans.{loans}
use Rattle.bl_grant.specs.Granted.{loaned_of}
use Rattle.bl_grant.proofs.Lists.{was, lent-more, lent-one, lent-length}
use Rattle.bl_grant.proofs.grants.Grants.were_lent.Goals as goal

pub returns-then-len-accesses : goal.returns-then-len-accesses
returns-then-len-accesses c = (
  λ h. cc,
  λ h. absurd (c.if-len-accesses.true (c.len.ensures ∙ c.self.inside.grants.ok.0
      ∙ lent-length c.args.entry c.self.inside.grants.items c.args.accesses.now c.args.documents.now (ap (map as_lent) c.self.view_is ∙ h.1) h.0)),
)

pub returns-then-not-was_lent : goal.returns-then-not-was_lent
returns-then-not-was_lent c =
    let counted = c.self.inside.grants.ok.0 in (
      λ h. cc,
      λ h. sym c.if-not-was_lent.true ∙ c.was_lent.ensures.1 (lent-one c.args.entry c.self.inside.grants.items c.index.result.now c.args.accesses.now c.args.documents.now c.loop-i.i
          c.index-accesses-i.result c.index-documents-i.result (ap (map as_lent) c.self.view_is ∙ h.1) c.index.ensures c.index-accesses-i.is c.index-documents-i.is
          (omega (arith, counted)) (omega arith) (omega arith)),
    )

pub loop-i-preserved : goal.loop-i-preserved
loop-i-preserved c =
    let counted = c.self.inside.grants.ok.0 in
    lent-more c.args.entry c.self.inside.grants.items c.index.result.now c.args.accesses.now c.args.documents.now c.loop-i.i
    c.index-accesses-i.result c.index-documents-i.result c.loop-i.invariant c.index.ensures c.index-accesses-i.is c.index-documents-i.is (c.was_lent.ensures.0 c.if-not-was_lent.false)
    (omega (arith, counted)) (omega arith) (omega arith)

pub returns : goal.returns
returns c =
    let counted = c.self.inside.grants.ok.0 in
    let gs = c.self.inside.grants.items in (
      λ h. (
        omega arith,
        sym (ap (map as_lent) c.self.view_is) ∙ map-map as_lent loaned_of gs
            ∙ ap (map was) (sym (take_all c.loop-i.i gs (omega (arith, counted))))
            ∙ c.loop-i.invariant
            ∙ ap (λ xs. loans c.args.entry xs (take c.loop-i.i c.args.documents.now)) (take_all c.loop-i.i c.args.accesses.now (omega arith))
            ∙ ap (λ cs. loans c.args.entry c.args.accesses.now cs) (take_all c.loop-i.i c.args.documents.now (omega arith)),
      ),
      λ h. refl,
    )
