use Rattle.std.proofs.Common.{◌≡◌, ◌<◌, ℕ, false, ◌&&◌, List, length, inl, sym, subst, ap, ◌∙◌}
use Rattle.bl_policy.specs.RuleEffect.{rule_fault, after_rule}
use Rattle.bl_work.specs.declared.answer.Answer.{Answer}
use Rattle.bl_order.specs.Order.{Task, Applies}
use Rattle.bl_order.specs.Past.{changed, deletes, has_deleted, is_done, is_rule_done, may_alter}
use Rattle.bl_order.specs.Machine.{State, MayStart, past_at, change, Starts, Ended}
use Rattle.bl_place.specs.Places.{phase_of}
use Rattle.bl_place.specs.Shelves.{AreEmptied}
use Rattle.bl_place.specs.declared.shelf.Shelf.{Shelf}
use Rattle.bl_core.specs.View.{state_of}
use Rattle.bl_core.specs.Answers.{IsStarted}
use Rattle.bl_core.specs.Weights.{ruled}
use Rattle.bl_place.specs.declared.place.Stand.TheVariants as stands
use Rattle.bl_core.proofs.Closing.{cleared-state, cleared-kept}
use Rattle.bl_core.proofs.Queueing.{queue-may}
use Rattle.bl_core.proofs.Reading.{shelves-deleted}
use Rattle.bl_core.proofs.Starting.{there-may, ruled-by, ruled-not_done, ruled-ends, changed-ruled}
use Rattle.bl_core.proofs.Judging.{subject-read}
use Rattle.bl_core.proofs.machine.Core.apply.Goals as goal
use Rattle.bl_core.proofs.machine.Core.apply.Goals.{in-Some, in-None}

pub end-requires : goal.end-requires
end-requires c = inl (queue-may c.self.inside c.self.invariant c.args.n (subst (λ (x : State). MayStart x c.args.n) (sym c.self.view_is) c.requires.may))

pub delete_content-requires : goal.delete_content-requires
delete_content-requires c = λ doc is.
    subst (λ (h : List Shelf). doc < length h) (sym c.as_mut_slice.ensures.value)
    (shelves-deleted c.self.inside c.self.invariant c.args.n c.args.rule.now (there-may c.self.inside c.args.n (subst (λ (x : State). MayStart x c.args.n) (sym c.self.view_is) c.requires.may))
    (ap (λ (x : State). (past_at x c.args.n).task) c.self.view_is ∙ c.requires.rule) doc is)

may : (c : goal.Joined-denial) → MayStart (state_of c.self.inside) c.args.n
may c = subst (λ (x : State). MayStart x c.args.n) (sym c.self.view_is) c.requires.may

rule_is : (c : goal.Joined-denial) → (past_at (state_of c.self.inside) c.args.n).task ≡ Applies c.args.rule.now
rule_is c = ap (λ (x : State). (past_at x c.args.n).task) c.self.view_is ∙ c.requires.rule

subject_is : (c : goal.Joined-denial) → c.index.result.now.subject ≡ (past_at (state_of c.self.inside) c.args.n).subject
subject_is c = subject-read c.self.inside c.self.invariant c.args.n (may c) c.index.result.now c.index.ensures

-- the answer of the place
answer_is : (c : goal.Joined-denial) → (past_at (state_of c.self.inside) c.args.n).answer ≡ ruled c.apply-denial.result
answer_is c =
    ruled-by c.self.inside c.self.invariant c.args.n (may c) c.args.rule.now c.apply-denial.result (rule_is c)
    (c.apply-denial.ensures.fault ∙ ap (λ (s : ℕ). rule_fault c.self.inside.policy s c.args.rule.now) (subject_is c))

-- the policy that the rule makes
policy_is : (c : goal.Joined-denial) → c.apply-denial.new.self
    ≡ changed (past_at (state_of c.self.inside) c.args.n).answer (past_at (state_of c.self.inside) c.args.n).task (past_at (state_of c.self.inside) c.args.n).subject c.self.inside.policy
policy_is c =
    c.apply-denial.ensures.policy
    ∙ ap (λ (s : ℕ). after_rule c.self.inside.policy s c.args.rule.now) (subject_is c)
    ∙ sym (changed-ruled c.apply-denial.result c.args.rule.now (past_at (state_of c.self.inside) c.args.n).subject c.self.inside.policy)
    ∙ ap (λ (t : Task). changed (ruled c.apply-denial.result) t (past_at (state_of c.self.inside) c.args.n).subject c.self.inside.policy) (sym (rule_is c))
    ∙ ap (λ (a : Answer). changed a (past_at (state_of c.self.inside) c.args.n).task (past_at (state_of c.self.inside) c.args.n).subject c.self.inside.policy) (sym (answer_is c))

ends : (c : goal.Joined-denial) → phase_of (stands.Ended c.ruled.result) ≡ Ended
ends c = ap (λ (a : Answer). phase_of (stands.Ended a)) c.ruled.ensures ∙ ruled-ends c.apply-denial.result

idle : (c : goal.Joined-denial) → is_done c.ruled.result ≡ false
idle c = ap is_done c.ruled.ensures ∙ ruled-not_done c.apply-denial.result

-- what it deletes is empty
left : (c : goal.Joined-denial) → AreEmptied (has_deleted (past_at (state_of c.self.inside) c.args.n)) c.self.inside.shelves.items c.delete_content.new.shelves
left c =
    subst (λ (a : Answer). AreEmptied (λ o. is_rule_done a && may_alter (past_at (state_of c.self.inside) c.args.n).task o) c.self.inside.shelves.items c.delete_content.new.shelves) (sym (answer_is c))
    (subst (λ (t : Task). AreEmptied (λ o. is_rule_done (ruled c.apply-denial.result) && may_alter t o) c.self.inside.shelves.items c.delete_content.new.shelves) (sym (rule_is c))
    (subst (λ (h : List Shelf). AreEmptied (λ o. is_rule_done (ruled c.apply-denial.result) && deletes c.args.rule.now o) h c.delete_content.new.shelves) c.as_mut_slice.ensures.value
    c.delete_content.ensures))

pub invariant_of-self : goal.invariant_of-self
invariant_of-self c =
    cleared-kept c.self.inside c.self.invariant c.args.n c.index_mut-place.result.now c.ruled.result (may c) c.index_mut-place.ensures.value c.end.new.self c.apply-denial.new.self c.end.ensures
    (answer_is c ∙ sym c.ruled.ensures) (ends c) (idle c) (policy_is c) c.apply-denial.ensures.same_ids.0 c.apply-denial.ensures.same_ids.1 c.delete_content.new.shelves (left c)

pub returns-clause-change : goal.returns-clause-change
returns-clause-change c =
    cleared-state c.self.inside c.self.invariant c.args.n c.index_mut-place.result.now c.ruled.result (may c) c.index_mut-place.ensures.value c.end.new.self c.apply-denial.new.self c.end.ensures
    (answer_is c ∙ sym c.ruled.ensures) (ends c) (idle c) (policy_is c) c.apply-denial.ensures.same_ids.0 c.apply-denial.ensures.same_ids.1 c.delete_content.new.shelves (left c)
    ∙ ap (λ (x : State). change x (Starts c.args.n)) c.self.view_is

pub returns-clause-answer : goal.returns-clause-answer
returns-clause-answer c =
    elim c.match-denial.branch [
      | in-Some w ↦ subst (IsStarted c.args.self.now c.args.n) (sym w.result-is)
          (ap (λ (x : State). (past_at x c.args.n).answer) (sym c.self.view_is) ∙ answer_is c ∙ ap ruled w.in-Some.is)
      | in-None w ↦ subst (IsStarted c.args.self.now c.args.n) (sym w.result-is)
          (ap (λ (x : State). (past_at x c.args.n).answer) (sym c.self.view_is) ∙ answer_is c ∙ ap ruled w.in-None.is)
    ]
