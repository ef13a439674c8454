use Rattle.std.proofs.Common.{arith}
use Rattle.bl_setup.specs.Setup.{by_version}
use Rattle.bl_order.specs.Machine.{start}
use Rattle.bl_trail.proofs.SmallTrails.{small-trail}
use Rattle.bl_trail.proofs.Verdicts.{verdict-is, head-plain, stop-plain}
use Rattle.bl_trail.proofs.verdict.what_was_followed_tells_the_verdict.Goals as goal

pub returns : goal.returns
returns c setup version limit has_setup is_limit agree names text verdict followed =
    verdict-is version setup limit has_setup is_limit
    (record { names_are = names; again = λ work. c.canonical_works_read_again.ensures setup.names work names; one = c.one_answer.ensures.asked setup.names })
    agree
    (λ events steps. small-trail c.steps_lead_on.ensures.next c.the_order_has_room.ensures.order c.each_place_has_a_phase.ensures (start (by_version version setup) limit) events
    (c.steps_lead_on.ensures.first (by_version version setup) limit) (omega arith) is_limit.1 steps)
    (head-plain version limit is_limit) stop-plain text verdict followed
