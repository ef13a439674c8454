use Rattle.std.proofs.Common.{rules, ◌≡◌, ◌++◌, ◌∙◌, [], ap, append_assoc, codes, slice_index_or}
use Rattle.std.proofs.lemmas.Option.{gets}
use Rattle.bl_wire.proofs.PutLaws.{puts-three}
use Rattle.bl_trail.proofs.text.put_open.Goals as goal

pub returns : goal.returns
returns g c =
    let name : slice_index_or c.args.names.now.subjects c.args.subject [] ≡ c.bytes.result.now = search (rules, gets) in
    puts-three ((codes "open " ++ slice_index_or c.args.names.now.subjects c.args.subject []) ++ codes "\n") (codes "open ") c.bytes.result.now (codes "\n") _ _ _ _
    (ap (λ l. (codes "open " ++ l) ++ codes "\n") name ∙ append_assoc (codes "open ") c.bytes.result.now (codes "\n"))
    c.put.ensures.puts c.put-2.ensures.puts c.put-3.ensures.puts
