use Rattle.std.proofs.Common.{rules, ◌≡◌, ◌++◌, ap, decimal, sym}
use Rattle.bl_wire.proofs.PutLaws.{puts-two}
use Rattle.bl_chain.proofs.told.put_numbered.Goals as goal

pub returns : goal.returns
returns g c =
    let words = c.args.words.now in
    let number = c.args.number in
    let counted = c.from.result in
    let is : counted ≡ number = search rules in
    puts-two (words ++ decimal number) words (decimal counted) _ _ _ (ap (λ n. words ++ decimal n) (sym is)) c.put.ensures.puts c.put_count.ensures.puts
