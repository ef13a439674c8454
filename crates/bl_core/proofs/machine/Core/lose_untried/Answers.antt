use Rattle.std.proofs.Common.{inl, sym, subst, ap, ◌∙◌, refl}
use Rattle.bl_work.specs.declared.answer.Answer.TheVariants as answers
use Rattle.bl_order.specs.Machine.{State, MayStart, change, Loses}
use Rattle.bl_core.proofs.Closing.{lost-state, lost-kept}
use Rattle.bl_core.proofs.Queueing.{queue-may}
use Rattle.bl_core.proofs.machine.Core.lose_untried.Goals as goal

pub end-requires : goal.end-requires
end-requires c = inl (queue-may c.self.inside c.self.invariant c.args.n (subst (λ (x : State). MayStart x c.args.n) (sym c.self.view_is) c.requires))

pub invariant_of-self : goal.invariant_of-self
invariant_of-self c =
    lost-kept c.self.inside c.self.invariant c.args.n c.index_mut.result.now answers.Lost
    (subst (λ (x : State). MayStart x c.args.n) (sym c.self.view_is) c.requires) c.index_mut.ensures.value c.end.new.self c.self.inside.policy c.end.ensures refl refl

pub returns : goal.returns
returns c =
    lost-state c.self.inside c.self.invariant c.args.n c.index_mut.result.now answers.Lost
    (subst (λ (x : State). MayStart x c.args.n) (sym c.self.view_is) c.requires) c.index_mut.ensures.value c.end.new.self c.self.inside.policy c.end.ensures refl refl
    ∙ ap (λ (x : State). change x (Loses c.args.n)) c.self.view_is
