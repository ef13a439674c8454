use Rattle.std.proofs.Common.{rules, ◌≡◌, ◌++◌, ◌∙◌, ap, sym, codes}
use Rattle.bl_wire.proofs.PutLaws.{puts-three}
use Rattle.bl_trail_file.specs.Telling.{left_text, left_words}
use Rattle.bl_trail_file.proofs.told.tell_rest.Goals as goal

-- the words and the name
pub returns : goal.returns
returns g c =
    let words = c.as_bytes.result.now in
    let name = c.as_bytes-2.result.now in
    let of_words : words ≡ left_words c.args.whole = search rules in
    let of_name : c.args.name.now ≡ name = search rules in
    let line : left_text c.args.whole c.args.name.now ≡ words ++ (name ++ codes "\n") =
    ap (λ l. left_words c.args.whole ++ (l ++ codes "\n")) of_name ∙ sym (ap (λ l. l ++ (name ++ codes "\n")) of_words) in
    record {
      puts = puts-three (left_text c.args.whole c.args.name.now) words name (codes "\n") _ _ _ _ line c.put.ensures.puts c.put-2.ensures.puts c.put_out.ensures.puts;
    }
