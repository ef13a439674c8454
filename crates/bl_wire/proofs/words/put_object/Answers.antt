use Rattle.std.proofs.Common.{rules, ap, ◌∙◌, ◌≡◌, ◌++◌, [], codes, slice_index_or}
use Rattle.std.proofs.lemmas.Option.{gets}
use Rattle.bl_wire.specs.Replies.{object_text}
use Rattle.bl_wire.proofs.PutLaws.{puts-two}
use Rattle.bl_wire.proofs.words.put_object.Goals as goal

pub returns-in-Some : goal.returns-in-Some
returns-in-Some g c =
    let name : slice_index_or c.args.names.now.documents c.in-Some.doc [] ≡ c.bytes.result.now = search (rules, gets) in
    puts-two (object_text c.args.names.now c.args.object) (codes " ") c.bytes.result.now _ _ _
    (ap (object_text c.args.names.now) c.in-Some.is ∙ ap (λ l. codes " " ++ l) name) c.put.ensures.puts c.put-in-Some.ensures.puts
