use Rattle.std.proofs.Common.{rules, ◌≡◌, ◌∙◌, ap, sym}
use Rattle.std.specs.Prelude.{string_bytes}
use Rattle.bl_wire.proofs.PutLaws.{puts-is}
use Rattle.bl_keep.specs.Unkept.{left_line}
use Rattle.bl_trail_file.specs.Telling.{left_text}
use Rattle.bl_keep.proofs.told.tell_left.Goals as goal

pub returns : goal.returns
returns g c =
    let name = c.as_str.result.now in
    let whole = c.in-Some.left.whole in
    let named : name ≡ string_bytes c.in-Some.left.name = search rules in
    record {
      puts = puts-is (left_text whole name) (left_line c.args.left.now) _ _ (ap (left_text whole) named ∙ sym (ap left_line c.in-Some.is)) c.tell_rest.ensures.puts;
    }
