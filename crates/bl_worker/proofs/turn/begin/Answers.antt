use Rattle.bl_worker.specs.Turns.{IsEventOf, IsDenied, IsDoneOrRuleDone}
use Rattle.std.proofs.Common.{ℕ, refl, rules}
use Rattle.bl_order.specs.Machine.{Starts}
use Rattle.bl_worker.proofs.Adding.{adds_call}
use Rattle.bl_worker.specs.Hands.{IsBegunOf}
use Rattle.bl_worker.specs.declared.turn.Turn.TheVariants.{Denied, Done}
use Rattle.bl_worker.specs.declared.turn.Begun.TheVariants.{Over, Runs}
use Rattle.bl_worker.proofs.Working.{is_denied, is_rule_done, settles_start, started_ends}
use Rattle.bl_worker.proofs.turn.begin.Goals as goal

pub returns-in-Ok-Denied-clause-begun : goal.returns-in-Ok-Denied-clause-begun
returns-in-Ok-Denied-clause-begun c =
    let ended = started_ends c.args.turn.now c.start.new.self c.args.n _ IsDenied c.in-Ok-Denied.ensures.ok c.start.ensures.follows c.start.ensures.trail
    (λ x h. is_denied x c.args.n _ c.in-Ok-Denied.field-0 c.in-Ok-Denied.field-0-is h) in
    (ended, settles_start c.args.turn.now c.start.new.self c.args.n _ IsDenied c.in-Ok-Denied.ensures.ok ended)

pub returns-in-Ok-RuleDone-clause-begun : goal.returns-in-Ok-RuleDone-clause-begun
returns-in-Ok-RuleDone-clause-begun c =
    let ended = started_ends c.args.turn.now c.start.new.self c.args.n _ IsDoneOrRuleDone c.in-Ok-RuleDone.ensures.ok c.start.ensures.follows c.start.ensures.trail
    (λ x h. is_rule_done x c.args.n c.in-Ok-RuleDone.field-0 c.in-Ok-RuleDone.field-0-is h) in
    (ended, settles_start c.args.turn.now c.start.new.self c.args.n _ IsDoneOrRuleDone c.in-Ok-RuleDone.ensures.ok ended)

pub returns-in-Ok-Denied-clause-adds : goal.returns-in-Ok-Denied-clause-adds
returns-in-Ok-Denied-clause-adds c =
    adds_call (λ _. IsEventOf (λ (k : ℕ). IsBegunOf k (Over (Denied c.args.n)))) c.args.turn.now c.start.new.self (Starts c.args.n) _ c.in-Ok-Denied.ensures.ok refl

pub returns-in-Ok-RuleDone-clause-adds : goal.returns-in-Ok-RuleDone-clause-adds
returns-in-Ok-RuleDone-clause-adds c =
    adds_call (λ _. IsEventOf (λ (k : ℕ). IsBegunOf k (Over (Done c.args.n)))) c.args.turn.now c.start.new.self (Starts c.args.n) _ c.in-Ok-RuleDone.ensures.ok refl

pub returns-in-Ok-Run-clause-adds : goal.returns-in-Ok-Run-clause-adds
returns-in-Ok-Run-clause-adds c =
    adds_call (λ _. IsEventOf (λ (k : ℕ). IsBegunOf k (Runs c.in-Ok-Run.lent))) c.args.turn.now c.start.new.self (Starts c.args.n) _ c.in-Ok-Run.ensures.ok (search rules)
