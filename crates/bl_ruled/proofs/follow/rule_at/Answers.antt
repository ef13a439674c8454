use Rattle.std.proofs.Common.{rules, ◌≡◌, ◌∙◌, ap, subst, sym}
use Rattle.bl_order.specs.Machine.{MayStart, Needs, Starts}
use Rattle.bl_replay.specs.Kept.{place_in}
use Rattle.bl_replay.proofs.Taking.{asked-starts, small}
use Rattle.bl_ruled.specs.Noting.{rule_in, rules_at}
use Rattle.bl_ruled.proofs.Starting.{start-applies}
use Rattle.bl_ruled.proofs.follow.rule_at.Goals as goal

-- the line is that of the start of this place
pub returns-in-Some-clause-rule : goal.returns-in-Some-clause-rule
returns-in-Some-clause-rule c x e keeps needs text =
    let r = c.args.replayer.now in
    let n = c.in-Starts.n in
    let same : e ≡ Starts n = asked-starts x e n _ (c.in-Starts.ensures x e (small c.the_order_has_room.ensures.order x r keeps) needs text) in
    let may : MayStart x n = subst (Needs x) same needs in
    let at : c.in-Some.place.now ≡ place_in r.places.items n = search rules in
    c.place_rule.ensures.rule ∙ ap (rule_in c.args.event) at
    ∙ sym (start-applies x r n c.args.event keeps (c.each_state_holds.ensures x keeps.reached) may) ∙ ap (rules_at c.args.event x) (sym same)
