use Rattle.std.proofs.Common.{◌≡◌, ◌≤◌, ◌<◌, All, arith, length, take, get_or, sym, ap, subst, ◌∙◌}
use Rattle.std.proofs.lemmas.List.{take_more}
use Rattle.std.proofs.lemmas.List.Elements.{All-push}
use Rattle.bl_hall.specs.declared.reply.Reply.{Reply}
use Rattle.bl_serve.specs.Told.{ordinal_of}
use Rattle.bl_serve.proofs.told.count_up_to.Goals as goal

pub loop-reply-preserved : goal.loop-reply-preserved
loop-reply-preserved c =
    let told = c.args.replies.now in
    let i = c.loop-reply.reply-index in
    let r = c.reply-item.result in
    let lt : i < length told = omega (arith, c.loop-reply-test.true) in
    let at : r ≡ get_or told i r = c.reply-item.is in
    let low : ordinal_of (get_or told i r) ≤ c.args.upto = omega (arith, ap ordinal_of (sym at) ∙ sym c.ordinal_of.ensures, c.if-ordinal_of-upto.false) in (
      omega (arith, c.loop-reply.invariant.0),
      subst (All (λ (q : Reply). ordinal_of q ≤ c.args.upto)) (sym (take_more told i r lt))
          (All-push (λ (q : Reply). ordinal_of q ≤ c.args.upto) (take i told) (get_or told i r) c.loop-reply.invariant.1 low),
    )
