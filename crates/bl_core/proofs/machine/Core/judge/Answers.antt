use Rattle.std.proofs.Common.{◌≡◌, ◌<◌, true, List, length, sym, subst, ap, ◌∙◌}
use Rattle.std.specs.Prelude.{All, MatchOption}
use Rattle.bl_policy.specs.declared.access.Access.{Access}
use Rattle.bl_policy.specs.declared.denial.Denial.{Denial}
use Rattle.bl_work.specs.declared.answer.Answer.TheVariants as answers
use Rattle.bl_order.specs.Order.{accesses_of, is_rule}
use Rattle.bl_order.specs.Past.{is_done}
use Rattle.bl_order.specs.Machine.{State, MayStart, past_at}
use Rattle.bl_place.specs.Places.{task_in}
use Rattle.bl_place.specs.declared.place.Place.{Place}
use Rattle.bl_core.proofs.Reading.{policy-declared}
use Rattle.bl_core.proofs.Starting.{there-may}
use Rattle.bl_core.proofs.Judging.{judged}
use Rattle.bl_core.proofs.machine.Core.judge.Goals as goal

pub decide-requires-clause-there : goal.decide-requires-clause-there
decide-requires-clause-there c =
    subst (λ (xs : List Access). All (λ (a : Access). a.doc < length c.self.inside.policy.documents) xs)
    (sym (c.in-Some.ensures.1 ∙ ap (λ (l : List Place). accesses_of (task_in l c.args.n)) c.as_slice.ensures.value))
    (policy-declared c.self.inside c.self.invariant c.args.n (there-may c.self.inside c.args.n (subst (λ (x : State). MayStart x c.args.n) (sym c.self.view_is) c.requires.may)))

pub returns : goal.returns
returns c =
    subst (λ (x : State). MatchOption c.decide.result (is_done (past_at x c.args.n).answer ≡ true) (λ (d : Denial). (past_at x c.args.n).answer ≡ answers.Denied d)) c.self.view_is
    (judged c.self.inside c.self.invariant c.args.n (subst (λ (x : State). MayStart x c.args.n) (sym c.self.view_is) c.requires.may)
    (ap (λ (x : State). is_rule (past_at x c.args.n).task) c.self.view_is ∙ c.requires.behaviour)
    c.index-place.result.now c.index-place.ensures c.in-Some.accesses.now (c.in-Some.ensures.1 ∙ ap (λ (l : List Place). accesses_of (task_in l c.args.n)) c.as_slice.ensures.value)
    c.decide.result c.decide.ensures.first)
