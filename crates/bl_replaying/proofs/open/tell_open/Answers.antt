use Rattle.std.proofs.Common.{rules, ◌≡◌, ◌++◌, ◌∙◌, ap, sym, refl, codes, decimal}
use Rattle.std.specs.Prelude.{not}
use Rattle.bl_wire.specs.Watch.{Puts}
use Rattle.bl_wire.proofs.PutLaws.{puts-three}
use Rattle.bl_replaying.specs.Open.{open_line}
use Rattle.bl_replaying.proofs.open.tell_open.Goals as goal

-- a first part of the line was written
pub returns-else-put_out-clause-failed : goal.returns-else-put_out-clause-failed
returns-else-put_out-clause-failed g c =
    let number = c.as_bytes.result.now in
    let is : number ≡ decimal c.args.events = search rules in
    let line : open_line c.args.events ≡ codes "open " ++ (number ++ codes "\n") = ap (λ t. codes "open " ++ (t ++ codes "\n")) (sym is) in
    let put : Puts (open_line c.args.events) _ _ = puts-three (open_line c.args.events) (codes "open ") number (codes "\n") _ _ _ _ line c.put.ensures.puts c.put-2.ensures.puts c.put_out.ensures.puts in
    (refl, c.put_out.ensures.failed ∙ ap not c.if-put_out.false, (put.much, put.bytes))
