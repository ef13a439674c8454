use Rattle.std.proofs.Common.{List, ℕ, arith, ap, length}
use Rattle.bl_grant.specs.Loaned.{Loaned}
use Rattle.bl_grant.proofs.Lists.{lend-more, loans-few}
use Rattle.bl_grant.proofs.grants.Grants.lend.Goals as goal

pub loop-i-preserved : goal.loop-i-preserved
loop-i-preserved c = (
  lend-more c.args.entry c.loop-i.lending.0 c.in_ok-lending-2.lending.0 c.args.accesses.now c.args.documents.now c.loop-i.i c.index-accesses-i.result
      c.index-documents-i.result c.loop-i.invariant.0 c.index-accesses-i.is c.index-documents-i.is (ap (λ (l : List Loaned × ℕ). l.0) c.in_ok-lending-2.ensures)
      (omega arith) (omega arith),
  omega (arith, ap (λ (l : List Loaned × ℕ). l.1) c.in_ok-lending-2.ensures, c.loop-i.invariant.1),
)

pub finish-requires : goal.finish-requires
finish-requires c =
    omega (arith, ap length c.loop-i.invariant.0, loans-few c.args.entry c.args.accesses.now c.args.documents.now c.loop-i.i, c.requires.few)
