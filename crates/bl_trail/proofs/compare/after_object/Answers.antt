use Rattle.std.proofs.Common.{rules, ap, ◌∙◌, ◌≡◌, ◌++◌, [], codes, slice_index_or}
use Rattle.std.proofs.lemmas.Option.{gets}
use Rattle.bl_wire.specs.Replies.{object_text}
use Rattle.bl_trail.proofs.Comparing.{left-two}
use Rattle.bl_trail.proofs.compare.after_object.Goals as goal

pub returns-in-Some : goal.returns-in-Some
returns-in-Some c =
    let name : slice_index_or c.args.names.now.documents c.in-Some.doc [] ≡ c.bytes.result.now = search (rules, gets) in
    left-two (object_text c.args.names.now c.args.object) (codes " ") c.bytes.result.now _ _ _
    (ap (object_text c.args.names.now) c.in-Some.is ∙ ap (λ l. codes " " ++ l) name) c.after-rest.ensures c.after.ensures
