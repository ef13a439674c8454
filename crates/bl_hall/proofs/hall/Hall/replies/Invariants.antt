use Rattle.std.proofs.Common.{◌≡◌, All, map, take, vec_len}
use Rattle.std.specs.Vec.{vec_capacity}
use Rattle.bl_order.specs.Known.{KnowsAnswer}
use Rattle.bl_hall.specs.declared.reply.Reply as owned
use Rattle.bl_hall.specs.Chronicle.{state_now}
use Rattle.bl_hall.specs.Told.{reply_in, reply_of}
use Rattle.bl_hall.proofs.hall.Hall.replies.Given as goal

abbrev pub invariant-loop-n : goal.invariant-loop-n
invariant-loop-n l =
    (map reply_of l.replies.items ≡ map (reply_in (state_now l.self)) (take l.n-index l.places)) × (vec_len l.replies ≡ l.n-index)
    × (vec_capacity l.replies ≡ vec_capacity l.initial.replies)
    × All (λ (r : owned.Reply). KnowsAnswer (state_now l.self).setup r.answer) l.replies.items
