use Rattle.std.proofs.Common.{◌≡◌, ◌↔◌, Bool, IfSome, subst}
use Rattle.std.specs.Prelude.{IsTrue}
use Rattle.bl_journal_files.proofs.setup.same_bytes.Goals as goal

pub returns-then-is_same : goal.returns-then-is_same
returns-then-is_same g c =
    subst (λ (is : Bool). IfSome (g.F.Read.remaining c.args.file) (λ all. IsTrue is ↔ (all ≡ c.args.bytes.now))) c.if-is_same.true c.in_ok-is_same.ensures

pub returns-else-is_same : goal.returns-else-is_same
returns-else-is_same g c =
    subst (λ (is : Bool). IfSome (g.F.Read.remaining c.args.file) (λ all. IsTrue is ↔ (all ≡ c.args.bytes.now))) c.if-is_same.false c.in_ok-is_same.ensures
