use Rattle.std.proofs.Common.{◌<◌, ◌++◌, sym, ap, subst, ◌∙◌, length, codes}
use Rattle.bl_work.specs.Names.{KnownNames}
use Rattle.bl_work.specs.declared.answer.Answer.{Answer}
use Rattle.bl_order.specs.Labels.{tag}
use Rattle.bl_order.specs.Machine.{State, past_at}
use Rattle.bl_hall.specs.Chronicle.{state_now}
use Rattle.bl_hall.specs.Told.{reply_in}
use Rattle.bl_hall.proofs.Answering.{ended-there}
use Rattle.bl_hall.proofs.Trails.{reached-now}
use Rattle.bl_wire.specs.Replies.{answer_text, label_text, reply_text}
use Rattle.bl_wire.proofs.PutLaws.{puts-three}
use Rattle.bl_session.proofs.entries.put_reply.Goals as goal

pub put_label-requires-clause-there : goal.put_label-requires-clause-there
put_label-requires-clause-there g c =
    let h = c.args.hall.now in
    subst (λ (y : State). c.args.n < length y.order) (sym c.core-core.ensures.value) (ended-there (state_now h) (reached-now h c.core-core.ensures.trail) c.args.n c.requires.ended)

pub returns : goal.returns
returns g c =
    let x = state_now c.args.hall.now in
    let n = c.args.n in
    let y = c.core-core.result.now in
    let names = c.names.result.now in
    let answer = c.in-Some.answer.now in
    let is = c.core-core.ensures.value in
    puts-three (reply_text c.args.setup.now.names (reply_in x n)) (label_text (tag y.order n).label) (answer_text names answer) (codes "\n") _ _ _ _
    (sym
    (ap (λ (z : State). label_text (tag z.order n).label ++ (answer_text names answer ++ codes "\n")) is
    ∙ ap (λ (a : Answer). label_text (tag x.order n).label ++ (answer_text names a ++ codes "\n")) (c.in-Some.ensures.value ∙ ap (λ (z : State). (past_at z n).answer) is)
    ∙ ap (λ (k : KnownNames). label_text (tag x.order n).label ++ (answer_text k (past_at x n).answer ++ codes "\n")) c.names.ensures.value))
    c.put_label.ensures c.put_answer.ensures c.put.ensures.puts
