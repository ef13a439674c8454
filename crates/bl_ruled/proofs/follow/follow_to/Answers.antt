use Rattle.std.proofs.Common.{◌≡◌, ◌+◌, ◌++◌, ◌∷◌, [], List, sym, ◌∙◌, ap, subst, inl, inr, arith, refl, length-append, true≢false}
use Rattle.std.specs.Prelude.{IfSome, Some, codes}
use Rattle.bl_order.specs.Machine.{state_after}
use Rattle.bl_trail.specs.Follow.{Followed, IsLine, IsTaken}
use Rattle.bl_trail.proofs.Following.{followed-more, setup-end, state-more, is_more, line-length, is_empty, not_empty}
use Rattle.bl_replay.specs.Keeps.{Replays}
use Rattle.bl_setup.specs.Setup.{Setup}
use Rattle.bl_explain.specs.Since.{KnowsApplied}
use Rattle.bl_explain.specs.declared.since.Applied.{Applied}
use Rattle.bl_ruled.specs.Noting.{IsBelow, rules_at}
use Rattle.bl_ruled.proofs.Fewer.{still-below, up-next, up-none}
use Rattle.bl_ruled.proofs.Knowing.{more-known, none-known}
use Rattle.bl_ruled.proofs.More.{rules-more}
use Rattle.bl_ruled.proofs.follow.follow_to.Goals as goal

pub lines-init : goal.lines-init
lines-init c = record {
  goes = λ x stands. ([], record { steps = tt; has = tt; plain = tt; split = refl }, stands, refl, c.requires.none, none-known x.setup.policy _ c.requires.none);
  within = omega arith;
  up_to = up-none c.args.most;
}

pub returns-then-is_enough : goal.returns-then-is_enough
returns-then-is_enough c x stands =
    let inv = c.lines.invariant.goes x stands in
    (inv.0, c.lines.rest.now, inv.1, c.is_enough.ensures.0 c.if-is_enough.true ∙ ap Some inv.3, inv.4, inv.5)

pub returns-in_default : goal.returns-in_default
returns-in_default c x stands =
    let inv = c.lines.invariant.goes x stands in
    let below = still-below c.args.most c.lines.count c.lines.invariant.up_to (λ is. true≢false (sym (c.is_enough.ensures.1 is) ∙ c.if-is_enough.false)) in
    ((inv.0, c.lines.rest.now, inl (inv.1, inl c.in_default.ensures, omega (arith, inv.3))), subst (IsBelow c.args.most) inv.3 below)

pub take-requires-clause-stands : goal.take-requires-clause-stands
take-requires-clause-stands c =
    let inv = c.lines.invariant.goes c.requires.stands.0 c.requires.stands.1 in
    (state_after c.requires.stands.0 inv.0, c.in-Some.behind.now, subst (Replays c.lines.replayer (state_after c.requires.stands.0 inv.0)) c.in-Some.ensures.split inv.2)

pub returns-then-not-branch : goal.returns-then-not-branch
returns-then-not-branch c x stands =
    let inv = c.lines.invariant.goes x stands in
    let cut : IsLine c.lines.rest.now c.in-Some.line.now c.in-Some.behind.now = c.in-Some.ensures in
    let below = still-below c.args.most c.lines.count c.lines.invariant.up_to (λ is. true≢false (sym (c.is_enough.ensures.1 is) ∙ c.if-is_enough.false)) in (
      (
        inv.0,
        c.lines.rest.now,
        inl (
          inv.1,
          inr (
            c.in-Some.line.now,
            c.in-Some.behind.now,
            cut,
            (λ is. true≢false (sym (c.is_stop.ensures.1 is) ∙ c.if-is_stop.false)),
            c.in_ok-take.ensures.wrong c.if-not-branch.true (state_after x inv.0) c.in-Some.behind.now (subst (Replays c.lines.replayer (state_after x inv.0)) cut.split inv.2),
          ),
          omega (arith, inv.3),
        ),
      ),
      subst (IsBelow c.args.most) inv.3 below,
    )

pub returns-then-is_empty : goal.returns-then-is_empty
returns-then-is_empty c x stands =
    let inv = c.lines.invariant.goes x stands in
    let cut = c.in-Some.ensures in
    let below = still-below c.args.most c.lines.count c.lines.invariant.up_to (λ is. true≢false (sym (c.is_enough.ensures.1 is) ∙ c.if-is_enough.false)) in
    let none : c.in-Some.behind.now ≡ [] = is_empty c.in-Some.behind.now (sym c.is_empty.ensures ∙ c.if-is_empty.true) in
    let closing : c.lines.rest.now ≡ codes "stop" ++ 10 ∷ [] = cut.split ∙ ap (λ l. l ++ 10 ∷ c.in-Some.behind.now) (c.is_stop.ensures.0 c.if-is_stop.true) ∙ ap (λ r. codes "stop" ++ 10 ∷ r) none in
    ((inv.0, subst (λ rest. Followed x c.args.text.now rest inv.0) closing inv.1, inv.3, inv.4, inv.5), below)

pub returns-then-is_stop : goal.returns-then-is_stop
returns-then-is_stop c x stands =
    let inv = c.lines.invariant.goes x stands in
    let cut = c.in-Some.ensures in
    let below = still-below c.args.most c.lines.count c.lines.invariant.up_to (λ is. true≢false (sym (c.is_enough.ensures.1 is) ∙ c.if-is_enough.false)) in
    let closing : c.lines.rest.now ≡ codes "stop" ++ 10 ∷ c.in-Some.behind.now = cut.split ∙ ap (λ l. l ++ 10 ∷ c.in-Some.behind.now) (c.is_stop.ensures.0 c.if-is_stop.true) in (
      (inv.0, c.in-Some.behind.now, inr (subst (λ rest. Followed x c.args.text.now rest inv.0) closing inv.1, is_more c.in-Some.behind.now (not_empty c.in-Some.behind.now (sym c.is_empty.ensures ∙ c.if-is_empty.false)), omega (arith, inv.3))),
      subst (IsBelow c.args.most) inv.3 below,
    )

pub lines-preserved : goal.lines-preserved
lines-preserved c = record {
  goes = λ x stands.
      let inv = c.lines.invariant.goes x stands in
      let cut : IsLine c.lines.rest.now c.in-Some.line.now c.in-Some.behind.now = c.in-Some.ensures in
      let right : IsTaken (state_after x inv.0) c.in-Some.line.now (λ y. Replays c.take.new.self y c.in-Some.behind.now) =
      c.in_ok-take.ensures.right c.if-not-branch.false (state_after x inv.0) c.in-Some.behind.now (subst (Replays c.lines.replayer (state_after x inv.0)) cut.split inv.2) in
      let noted = c.rule_at-applied.ensures.rule (state_after x inv.0) right.0 inv.2.keeps right.1 right.3 in (
        inv.0 ++ right.0 ∷ [],
        followed-more x c.args.text.now c.lines.rest.now c.in-Some.line.now c.in-Some.behind.now inv.0 right.0 inv.1 cut right.1 right.2 right.3,
        subst (λ y. Replays c.take.new.self y c.in-Some.behind.now) (sym (state-more x inv.0 right.0)) right.4,
        omega (arith, inv.3, length-append inv.0 (right.0 ∷ [])),
        c.in_ok-note.ensures ∙ ap (λ (l : List Applied). c.lines.rules.items ++ l) noted ∙ ap (λ (l : List Applied). l ++ rules_at (c.lines.count + 1) (state_after x inv.0) right.0) inv.4
            ∙ sym (rules-more 0 (c.lines.count + 1) x inv.0 right.0 (omega (arith, inv.3))),
        more-known x.setup.policy _ _ c.rule_at-applied.result c.in_ok-note.ensures inv.5
            (subst (λ (s : Setup). IfSome c.rule_at-applied.result (KnowsApplied s.policy)) (sym (setup-end x inv.0)) (c.rule_at-applied.ensures.known (state_after x inv.0) inv.2.keeps)),
      );
  within = omega (arith, c.lines.invariant.within, line-length c.lines.rest.now c.in-Some.line.now c.in-Some.behind.now c.in-Some.ensures);
  up_to = up-next c.args.most c.lines.count (still-below c.args.most c.lines.count c.lines.invariant.up_to (λ is. true≢false (sym (c.is_enough.ensures.1 is) ∙ c.if-is_enough.false)));
}
