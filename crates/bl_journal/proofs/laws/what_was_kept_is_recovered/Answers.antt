use Rattle.std.proofs.Common.{arith}
use Rattle.bl_setup.specs.Setup.{by_version}
use Rattle.bl_order.specs.Machine.{start}
use Rattle.bl_trail.proofs.SmallTrails.{small-trail}
use Rattle.bl_journal.proofs.Recovering.{kept-first, one-found}
use Rattle.bl_journal.proofs.laws.what_was_kept_is_recovered.Goals as goal

pub returns-clause-kept : goal.returns-clause-kept
returns-clause-kept c setup kept found tail agree names =
    kept-first setup
    (record { names_are = names; again = λ work. c.canonical_works_read_again.ensures setup.names work names; one = c.one_answer.ensures.asked setup.names })
    agree
    (λ version limit events is_limit steps. small-trail c.steps_lead_on.ensures.next c.the_order_has_room.ensures.order c.each_place_has_a_phase.ensures
    (start (by_version version setup) limit) events (c.steps_lead_on.ensures.first (by_version version setup) limit) (omega arith) is_limit.1 steps)
    kept found tail

pub returns-clause-one : goal.returns-clause-one
returns-clause-one c setup file one other agree names =
    one-found setup
    (record { names_are = names; again = λ work. c.canonical_works_read_again.ensures setup.names work names; one = c.one_answer.ensures.asked setup.names })
    agree
    (λ version limit events is_limit steps. small-trail c.steps_lead_on.ensures.next c.the_order_has_room.ensures.order c.each_place_has_a_phase.ensures
    (start (by_version version setup) limit) events (c.steps_lead_on.ensures.first (by_version version setup) limit) (omega arith) is_limit.1 steps)
    file one other
