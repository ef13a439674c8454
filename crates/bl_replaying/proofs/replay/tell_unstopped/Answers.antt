use Rattle.std.proofs.Common.{rules, ◌≡◌, ◌++◌, ◌∙◌, ap, sym, codes, decimal}
use Rattle.bl_wire.proofs.PutLaws.{puts-three}
use Rattle.bl_replaying.specs.Open.{unstopped_text}
use Rattle.bl_replaying.proofs.replay.tell_unstopped.Goals as goal

pub returns : goal.returns
returns g c =
    let number = c.as_bytes.result.now in
    let is : number ≡ decimal c.in-Some.events = search rules in
    let line : unstopped_text c.args.unstopped ≡ codes "no stop: all " ++ (number ++ codes " events before are right\n") =
    ap unstopped_text c.in-Some.is ∙ ap (λ t. codes "no stop: all " ++ (t ++ codes " events before are right\n")) (sym is) in
    record {
      puts = puts-three (unstopped_text c.args.unstopped) (codes "no stop: all ") number (codes " events before are right\n") _ _ _ _ line c.put.ensures.puts c.put-2.ensures.puts c.put_out.ensures.puts;
    }
