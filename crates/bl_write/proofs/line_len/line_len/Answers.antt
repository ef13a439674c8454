use Rattle.std.proofs.Common.{ap, ◌∙◌, arith}
use Rattle.std.specs.List.{fold}
use Rattle.bl_write.specs.Counting.{Counted, counted}
use Rattle.bl_write.specs.Known.{IsKnownWork}
use Rattle.bl_write.specs.Unread.{work_tokens}
use Rattle.bl_write.proofs.Counting.{counted_is}
use Rattle.bl_write.proofs.line_len.line_len.Goals as goal

pub put_work-requires : goal.put_work-requires
put_work-requires c = ((c.readable_is_known.ensures c.args.names.now c.args.work.now c.scheme.ensures.names).0 c.requires).there

pub returns : goal.returns
returns c =
    let tokens = work_tokens c.args.names.now c.args.work.now in
    let same = c.bytes.ensures ∙ ap (λ (n : Counted). n.bytes) (c.in-Ok.ensures ∙ ap (λ (n : Counted). fold counted n tokens) c.new-length.ensures) ∙ counted_is tokens in
    let known : IsKnownWork c.args.names.now c.args.work.now = (c.readable_is_known.ensures c.args.names.now c.args.work.now c.scheme.ensures.names).0 c.requires in
    omega (arith, same, known.short)
