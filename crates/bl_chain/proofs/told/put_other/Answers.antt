use Rattle.std.proofs.Common.{rules, ◌≡◌, ◌-◌, ◌++◌, ap, codes, sym}
use Rattle.bl_wire.proofs.PutLaws.{puts-two}
use Rattle.bl_chain.specs.Telling.{numbered}
use Rattle.bl_chain.proofs.told.put_other.Goals as goal

pub returns : goal.returns
returns g c =
    let before = numbered (codes "run ") c.args.run (codes ": not what run ") in
    let last = c.args.run - 1 in
    let told = c.saturating_sub.result in
    let is : told ≡ last = search rules in
    puts-two (before ++ numbered (codes "") last (codes " left")) before (numbered (codes "") told (codes " left")) _ _ _
    (ap (λ n. before ++ numbered (codes "") n (codes " left")) (sym is)) c.put_number_between.ensures c.put_number_between-2.ensures
