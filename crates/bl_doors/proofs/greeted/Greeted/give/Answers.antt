use Rattle.std.proofs.Common.{rules, ◌≡◌, ◌++◌, ◌∙◌, length, take, drop, min, ap, sym, arith, length-append, length-take, length-drop, drop-drop}
use Rattle.std.proofs.Math.Seq.{take-append_seam}
use Rattle.bl_doors.specs.Greetings.{ungiven}
use Rattle.bl_doors.proofs.greeted.Greeted.give.Goals as goal

pub returns-clause-given : goal.returns-clause-given
returns-clause-given g c =
    let left = c.left-left.result.now in
    let room = c.args.room.now in
    let n = c.min-count.result in
    let copied = c.copy_from_slice.new.self in
    let after : copied ≡ take n left = c.copy_from_slice.ensures.after in
    let fits : length copied ≡ n = ap length after ∙ length-take n left ∙ omega (arith, c.min-count.ensures) in
    ap (λ k. take k (copied ++ drop n room)) (sym fits) ∙ take-append_seam copied (drop n room) ∙ after ∙ ap (take n) c.left-left.ensures

pub returns-clause-rest : goal.returns-clause-rest
returns-clause-rest g c = sym (drop-drop c.min-count.result c.args.self.now.given c.args.self.now.greeting.items)
