use Rattle.std.proofs.Common.{rules, ◌≡◌, ◌∷◌, codes}
use Rattle.bl_work.specs.Few.{items_of}
use Rattle.bl_wire.specs.Replies.{label_text, answer_text}
use Rattle.bl_wire.proofs.PutLaws.{puts-three}
use Rattle.bl_serve.proofs.ToldLaws.{labelled}
use Rattle.bl_serve.proofs.told.put_told.Goals as goal

pub returns : goal.returns
returns g c =
    let names = c.args.names.now in
    let reply = c.args.reply.now in
    let is : items_of reply.label ≡ c.in-Some.ordinal.now ∷ c.in-Some.path.now = search rules in
    puts-three _ (label_text (c.in-Some.ordinal.now ∷ c.in-Some.path.now)) (answer_text names reply.answer) (codes "\n") _ _ _ _
    (labelled reply c.in-Some.ordinal.now c.in-Some.path.now names is) c.put_label.ensures c.put_answer.ensures c.put.ensures.puts
