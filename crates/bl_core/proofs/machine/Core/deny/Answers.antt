use Rattle.std.proofs.Common.{inl, sym, subst, ap, ◌∙◌, refl}
use Rattle.bl_work.specs.declared.answer.Answer.TheVariants as answers
use Rattle.bl_order.specs.Order.{is_rule}
use Rattle.bl_order.specs.Machine.{State, MayStart, past_at, change, Starts}
use Rattle.bl_order.proofs.StateLaws.{changed-skips}
use Rattle.bl_core.specs.View.{state_of}
use Rattle.bl_core.proofs.Closing.{closed-state, closed-kept}
use Rattle.bl_core.proofs.Queueing.{queue-may}
use Rattle.bl_core.proofs.machine.Core.deny.Goals as goal

pub end-requires : goal.end-requires
end-requires c = inl (queue-may c.self.inside c.self.invariant c.args.n (subst (λ (x : State). MayStart x c.args.n) (sym c.self.view_is) c.requires.may))

pub invariant_of-self : goal.invariant_of-self
invariant_of-self c =
    closed-kept c.self.inside c.self.invariant c.args.n c.index_mut-place.result.now (answers.Denied c.args.denial.now)
    (subst (λ (x : State). MayStart x c.args.n) (sym c.self.view_is) c.requires.may) c.index_mut-place.ensures.value c.end.new.self c.self.inside.policy c.end.ensures
    (ap (λ (x : State). (past_at x c.args.n).answer) c.self.view_is ∙ c.requires.denied) refl refl (sym (changed-skips (past_at (state_of c.self.inside) c.args.n).answer (past_at (state_of c.self.inside) c.args.n).task (past_at (state_of c.self.inside) c.args.n).subject c.self.inside.policy
    (ap (λ (x : State). is_rule (past_at x c.args.n).task) c.self.view_is ∙ c.requires.behaviour))) refl refl refl

pub returns : goal.returns
returns c =
    closed-state c.self.inside c.self.invariant c.args.n c.index_mut-place.result.now (answers.Denied c.args.denial.now)
    (subst (λ (x : State). MayStart x c.args.n) (sym c.self.view_is) c.requires.may) c.index_mut-place.ensures.value c.end.new.self c.self.inside.policy c.end.ensures
    (ap (λ (x : State). (past_at x c.args.n).answer) c.self.view_is ∙ c.requires.denied) refl refl (sym (changed-skips (past_at (state_of c.self.inside) c.args.n).answer (past_at (state_of c.self.inside) c.args.n).task (past_at (state_of c.self.inside) c.args.n).subject c.self.inside.policy
    (ap (λ (x : State). is_rule (past_at x c.args.n).task) c.self.view_is ∙ c.requires.behaviour))) refl refl refl
    ∙ ap (λ (x : State). change x (Starts c.args.n)) c.self.view_is
