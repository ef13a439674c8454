use Rattle.std.proofs.Common.{rules, ◌≡◌, ◌≤◌, IfSome, arith, length, subst}
use Rattle.bl_folder.proofs.Reading.{within}
use Rattle.bl_folder.proofs.system.bytes_within.Goals as goal

pub returns : goal.returns
returns g c =
    let most : c.from.result ≡ c.args.most = search rules in
    subst (λ n. IfSome (g.F.Read.remaining c.args.file) (λ all. (length all ≤ n) × (c.in-Ok.bytes.items ≡ all))) most
    (within _ _ c.from.result c.in-Ok.ensures (omega (arith, c.if-len-bound.false, c.len.ensures, most)))
