use Rattle.std.proofs.Common.{◌+◌, ◌++◌, ◌∷◌, [], ap, arith, length, length-append, refl, subst, sym}
use Rattle.std.specs.Prelude.{IfSome}
use Rattle.bl_trail.specs.EventText.{event_text}
use Rattle.bl_hall.specs.Chronicle.{Chronicle, state_now}
use Rattle.bl_explain.specs.Since.{KnowsApplied}
use Rattle.bl_explaining_event.specs.Courses.{HasHappened}
use Rattle.bl_rebuild.specs.Following.{HasTaken}
use Rattle.bl_explaining_event.proofs.Going.{gone-more, gone-none, happened}
use Rattle.bl_explaining_event.proofs.course.follow_events.Goals as goal

pub lines-init : goal.lines-init
lines-init c = record {
  gone = ([], gone-none c.args.follower.now c.args.rules.now.items c.requires.none, refl);
  within = omega (arith, c.requires.within);
  most = omega arith;
}

pub lines-preserved : goal.lines-preserved
lines-preserved c =
    let inv = c.lines.invariant in
    let events = inv.gone.0 in
    let taken : HasTaken c.lines.follower c.take.new.self = c.in_ok-take.ensures.right c.if-not-branch.false in
    let last = happened c.args.follower.now c.lines.follower c.take.new.self c.lines.rules.items events c.requires.begun inv.gone.1 taken in
    record {
      gone = (
        events ++ taken.event ∷ [],
        gone-more c.args.follower.now c.lines.follower c.take.new.self c.lines.rules.items events c.requires.begun inv.gone.1 taken
            (c.lines.count + 1) c.rule_of_last-found.result c.note.new.rules.items (omega (arith, inv.gone.2))
            (c.rule_of_last-found.ensures.rule (state_now c.lines.follower.hall) taken.event
            (subst (λ (h : Chronicle). HasHappened h (state_now c.lines.follower.hall) taken.event) (sym c.hall.ensures) last))
            (subst (λ (h : Chronicle). IfSome c.rule_of_last-found.result (KnowsApplied (state_now h).setup.policy)) c.hall.ensures
            c.rule_of_last-found.ensures.known)
            c.in_ok-note.ensures,
        omega (arith, inv.gone.2, length-append events (taken.event ∷ [])),
      );
      within = omega (arith, inv.within, ap length taken.line, length-append (event_text (state_now c.lines.follower.hall) taken.event) (10 ∷ c.take.new.self.rest));
      most = omega arith;
    }
