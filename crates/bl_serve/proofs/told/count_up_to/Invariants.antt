use Rattle.std.proofs.Common.{◌≡◌, ◌≤◌, All, take}
use Rattle.bl_hall.specs.declared.reply.Reply.{Reply}
use Rattle.bl_serve.specs.Told.{ordinal_of}
use Rattle.bl_serve.proofs.told.count_up_to.Given as goal

abbrev pub invariant-loop-reply : goal.invariant-loop-reply
invariant-loop-reply l =
    (l.count ≡ l.reply-index) × All (λ (r : Reply). ordinal_of r ≤ l.upto) (take l.reply-index l.replies)
