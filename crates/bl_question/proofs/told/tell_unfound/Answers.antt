use Rattle.std.proofs.Common.{rules, ◌≡◌, ◌++◌, ap, codes, sym}
use Rattle.bl_wire.proofs.PutLaws.{puts-three}
use Rattle.bl_question.specs.Telling.{unfound_line}
use Rattle.bl_question.proofs.told.tell_unfound.Goals as goal

pub returns : goal.returns
returns g c =
    let before = c.args.before.now in
    let name = c.as_bytes.result.now in
    let is : name ≡ c.args.name.now = search rules in
    puts-three (unfound_line before c.args.name.now) before name (codes "`\n") _ _ _ _ (ap (λ t. before ++ (t ++ codes "`\n")) (sym is))
    c.put.ensures.puts c.put-2.ensures.puts c.put_out.ensures.puts
