use Rattle.std.proofs.Common.{List, refl, subst, sym}
use Rattle.std.specs.Prelude.{Some}
use Rattle.bl_setup.specs.declared.version.Version.TheVariants.{Two}
use Rattle.bl_hall.specs.Chronicle.{Chronicle, state_now}
use Rattle.bl_explain.specs.declared.since.Applied.{Applied}
use Rattle.bl_explaining_event.specs.Starts.{IsBehind, IsToldBehind}
use Rattle.bl_explaining_event.proofs.Beginning.{Law, behind, decision-is, event-at, not-taken}
use Rattle.bl_explaining_event.proofs.event.explain_in.Goals as goal

pub returns-in-Err-clause-fault : goal.returns-in-Err-clause-fault
returns-in-Err-clause-fault c =
    let setup = c.args.setup.now in
    let course = c.args.follower.now in
    let begun = c.requires.begun in
    let law : Law setup c.requires.whole c.args.trail.now course begun =
    λ verdict. c.what_was_followed_tells_the_verdict.ensures setup Two begun.limit tt begun.is_limit c.requires.whole.agree c.requires.whole.names course.rest verdict in
    not-taken setup c.requires.whole c.args.trail.now course begun law c.args.asked.now.event c.in-Err.fault c.in-Err.ensures.fault

pub explain_behind-requires : goal.explain_behind-requires
explain_behind-requires c =
    let setup = c.args.setup.now in
    let t = c.in-Ok.ensures.taken in
    let after = c.rules_until.new.follower in
    let b = behind setup c.requires.whole c.args.trail.now c.args.follower.now c.requires.begun t.mid after c.in-Ok.rules.items t.events t.gone t.taken
    c.rules_make_the_policy_of_a_run.ensures in (
      state_now t.mid.hall,
      t.taken.event,
      subst (λ (h : Chronicle). IsBehind setup c.deref.result.now h (state_now t.mid.hall) t.taken.event) (sym c.hall.ensures)
          (subst (λ (l : List Applied). IsBehind setup l after.hall (state_now t.mid.hall) t.taken.event) (sym c.deref.ensures.value) b),
    )

pub returns-in-Ok-Some-clause-decision : goal.returns-in-Ok-Some-clause-decision
returns-in-Ok-Some-clause-decision c =
    let setup = c.args.setup.now in
    let asked = c.args.asked.now in
    let t = c.in-Ok.ensures.taken in
    let after = c.rules_until.new.follower in
    let x = state_now t.mid.hall in
    let b = behind setup c.requires.whole c.args.trail.now c.args.follower.now c.requires.begun t.mid after c.in-Ok.rules.items t.events t.gone t.taken
    c.rules_make_the_policy_of_a_run.ensures in
    let here = subst (λ (h : Chronicle). IsBehind setup c.deref.result.now h x t.taken.event) (sym c.hall.ensures)
    (subst (λ (l : List Applied). IsBehind setup l after.hall x t.taken.event) (sym c.deref.ensures.value) b) in
    let told = subst (IsToldBehind setup c.args.bytes.now c.deref.result.now asked.path.now asked.event x t.taken.event) c.in-Ok-Some.field-0-is
    (c.in-Ok-Some.ensures x t.taken.event here) in
    decision-is setup c.requires.whole c.args.trail.now c.args.follower.now c.requires.begun t.mid after c.in-Ok.rules.items t.events t.gone t.taken
    c.args.bytes.now asked.path.now asked.event t.counted c.in-Ok-Some.told
    (subst (λ (l : List Applied). IsToldBehind setup c.args.bytes.now l asked.path.now asked.event x t.taken.event (Some c.in-Ok-Some.told))
    c.deref.ensures.value told)

pub returns-in-Ok-None-clause-fault : goal.returns-in-Ok-None-clause-fault
returns-in-Ok-None-clause-fault c =
    let setup = c.args.setup.now in
    let asked = c.args.asked.now in
    let t = c.in-Ok.ensures.taken in
    let after = c.rules_until.new.follower in
    let x = state_now t.mid.hall in
    let b = behind setup c.requires.whole c.args.trail.now c.args.follower.now c.requires.begun t.mid after c.in-Ok.rules.items t.events t.gone t.taken
    c.rules_make_the_policy_of_a_run.ensures in
    let here = subst (λ (h : Chronicle). IsBehind setup c.deref.result.now h x t.taken.event) (sym c.hall.ensures)
    (subst (λ (l : List Applied). IsBehind setup l after.hall x t.taken.event) (sym c.deref.ensures.value) b) in
    let told = subst (IsToldBehind setup c.args.bytes.now c.deref.result.now asked.path.now asked.event x t.taken.event) c.in-Ok-None.field-0-is
    (c.in-Ok-None.ensures x t.taken.event here) in (
      refl,
      (
        t.taken.event,
        event-at setup c.requires.whole c.args.trail.now c.args.follower.now c.requires.begun t.mid after c.in-Ok.rules.items t.events t.gone t.taken
            asked.event t.counted t.taken.event refl,
        told.tells,
      ),
    )
