use Rattle.std.proofs.Common.{refl, sym, subst, arith}
use Rattle.std.specs.Prelude.{Contains}
use Rattle.std.proofs.lemmas.List.{take_all}
use Rattle.bl_check.proofs.Passes.{documents_of, no_access}
use Rattle.bl_check.proofs.Declared.{is_same, is_other, document_at, none_more}
use Rattle.bl_check.proofs.once.has_document.Goals as goal

pub returns-then-eq : goal.returns-then-eq
returns-then-eq c = (
  λ h. subst (Contains (documents_of c.args.accesses.now)) (is_same _ _ c.if-eq.ensures) (document_at c.args.accesses.now c.loop-access.access-index no_access (omega arith)),
  λ there. refl,
)

pub loop-access-preserved : goal.loop-access-preserved
loop-access-preserved c =
    none_more c.args.accesses.now c.loop-access.access-index no_access c.args.document.now (omega arith) c.loop-access.invariant (is_other _ _ c.if-eq.ensures)

pub returns : goal.returns
returns c = (
  λ h. cc,
  λ there. absurd (c.loop-access.invariant (subst (λ l. Contains (documents_of l) c.args.document.now)
      (sym (take_all c.loop-access.access-index c.args.accesses.now (omega arith))) there)),
)
