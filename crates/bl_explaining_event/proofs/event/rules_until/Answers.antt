use Rattle.std.proofs.Common.{◌≡◌, ◌∙◌, ◌-◌, ap, arith, inr, length, subst, sym}
use Rattle.bl_order.specs.Machine.{State, state_after}
use Rattle.bl_journal.specs.Journals.{GoesNoFurther}
use Rattle.bl_trail.specs.Follow.{Followed}
use Rattle.bl_hall.specs.Chronicle.{state_now}
use Rattle.bl_rebuild.specs.Following.{Course}
use Rattle.bl_rebuild.proofs.Stepping.{state-with}
use Rattle.bl_explaining_event.specs.Courses.{IsGone}
use Rattle.bl_explaining_event.proofs.Beginning.{still-within}
use Rattle.bl_explaining_event.proofs.event.rules_until.Goals as goal

pub verdict_behind-requires : goal.verdict_behind-requires
verdict_behind-requires c =
    let before = c.args.follower.now in
    let mid = c.follow_events.new.follower in
    let gone = subst (IsGone before mid c.follow_events.new.rules.items (c.args.event - 1)) c.in_default-gone.is c.in-Ok.ensures in
    let same : c.take.new.self ≡ mid = c.in-Ok-false.ensures.same c.in-Ok-false.field-0-test in
    omega (
      arith,
      still-within (state_now before.hall) before.rest mid.rest gone.0 gone.1.followed,
      gone.2,
      c.requires.within,
      ap (λ (d : Course). length d.rest) same,
      ap length c.rest.ensures,
    )

pub returns-in-Ok-true-clause-taken : goal.returns-in-Ok-true-clause-taken
returns-in-Ok-true-clause-taken c =
    let gone = subst (IsGone c.args.follower.now c.follow_events.new.follower c.follow_events.new.rules.items (c.args.event - 1)) c.in_default-gone.is
    c.in-Ok.ensures in
    record {
      mid = c.follow_events.new.follower;
      events = gone.0;
      gone = gone.1;
      counted = omega (arith, gone.2, c.requires.some);
      taken = c.in-Ok-true.ensures.right c.in-Ok-true.field-0-test;
    }

pub returns-in-Ok-false-clause-fault : goal.returns-in-Ok-false-clause-fault
returns-in-Ok-false-clause-fault c =
    let before = c.args.follower.now in
    let mid = c.follow_events.new.follower in
    let gone = subst (IsGone before mid c.follow_events.new.rules.items (c.args.event - 1)) c.in_default-gone.is c.in-Ok.ensures in
    let same : c.take.new.self ≡ mid = c.in-Ok-false.ensures.same c.in-Ok-false.field-0-test in
    let rest : mid.rest ≡ c.rest.result.now = ap (λ (d : Course). d.rest) (sym same) ∙ sym c.rest.ensures in
    let none : GoesNoFurther (state_now mid.hall) mid.rest = c.in-Ok-false.ensures.wrong c.in-Ok-false.field-0-test in
    let leads : state_now mid.hall ≡ state_after (state_now before.hall) gone.0 = ap state_now gone.1.hall ∙ state-with before.hall gone.0 in
    inr (
      c.verdict_behind.result,
      c.args.event - 1,
      omega (arith, c.requires.some),
      c.verdict_behind.ensures (state_now before.hall) before.rest gone.0
          (subst (λ r. Followed (state_now before.hall) before.rest r gone.0) rest gone.1.followed)
          (subst (λ r. GoesNoFurther (state_after (state_now before.hall) gone.0) r) rest
          (subst (λ (x : State). GoesNoFurther x mid.rest) leads none))
          gone.2,
      c.fault_of-in-Ok-false.ensures,
    )
