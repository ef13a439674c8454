use Rattle.std.proofs.Common.{◌<◌, List, length, sym, subst, ap, ◌∙◌}
use Rattle.std.specs.Prelude.{All}
use Rattle.bl_policy.specs.declared.access.Access.{Access}
use Rattle.bl_order.specs.Order.{accesses_of, is_rule}
use Rattle.bl_order.specs.Past.{is_done}
use Rattle.bl_order.specs.Machine.{State, MayStart, past_at, change, Starts}
use Rattle.bl_place.specs.Places.{task_in}
use Rattle.bl_place.specs.Shelves.{marked}
use Rattle.bl_place.specs.declared.place.Place.{Place}
use Rattle.bl_place.specs.declared.shelf.Shelf.{Shelf}
use Rattle.bl_core.proofs.Queueing.{queue-may}
use Rattle.bl_core.proofs.Reading.{shelves-declared}
use Rattle.bl_core.proofs.Starting.{there-may}
use Rattle.bl_core.proofs.Running.{run-kept, run-state}
use Rattle.bl_core.proofs.machine.Core.run.Goals as goal

pub mark-requires : goal.mark-requires
mark-requires c =
    subst (λ (xs : List Access). All (λ (a : Access). a.doc < length c.as_mut_slice.result.now) xs)
    (sym (c.in-Some.ensures.1 ∙ ap (λ (l : List Place). accesses_of (task_in l c.args.n)) c.as_slice.ensures.value))
    (subst (λ (h : List Shelf). All (λ (a : Access). a.doc < length h) (accesses_of (task_in c.self.inside.places.items c.args.n))) (sym c.as_mut_slice.ensures.value)
    (shelves-declared c.self.inside c.self.invariant c.args.n (there-may c.self.inside c.args.n (subst (λ (x : State). MayStart x c.args.n) (sym c.self.view_is) c.requires.may))))

pub started-requires : goal.started-requires
started-requires c = queue-may c.self.inside c.self.invariant c.args.n (subst (λ (x : State). MayStart x c.args.n) (sym c.self.view_is) c.requires.may)

pub invariant_of-self : goal.invariant_of-self
invariant_of-self c =
    run-kept c.self.inside c.self.invariant c.args.n c.index_mut-place.result.now (subst (λ (x : State). MayStart x c.args.n) (sym c.self.view_is) c.requires.may)
    c.index_mut-place.ensures.value
    (ap (λ (x : State). is_rule (past_at x c.args.n).task) c.self.view_is ∙ c.requires.behaviour)
    (ap (λ (x : State). is_done (past_at x c.args.n).answer) c.self.view_is ∙ c.requires.done)
    c.started.new.self c.started.ensures c.mark.new.shelves c.in-Some.accesses.now
    (c.in-Some.ensures.1 ∙ ap (λ (l : List Place). accesses_of (task_in l c.args.n)) c.as_slice.ensures.value)
    (c.mark.ensures ∙ ap (λ (h : List Shelf). marked h c.in-Some.accesses.now) c.as_mut_slice.ensures.value)

pub returns : goal.returns
returns c =
    run-state c.self.inside c.self.invariant c.args.n c.index_mut-place.result.now (subst (λ (x : State). MayStart x c.args.n) (sym c.self.view_is) c.requires.may)
    c.index_mut-place.ensures.value
    (ap (λ (x : State). is_rule (past_at x c.args.n).task) c.self.view_is ∙ c.requires.behaviour)
    (ap (λ (x : State). is_done (past_at x c.args.n).answer) c.self.view_is ∙ c.requires.done)
    c.started.new.self c.started.ensures c.mark.new.shelves c.in-Some.accesses.now
    (c.in-Some.ensures.1 ∙ ap (λ (l : List Place). accesses_of (task_in l c.args.n)) c.as_slice.ensures.value)
    (c.mark.ensures ∙ ap (λ (h : List Shelf). marked h c.in-Some.accesses.now) c.as_mut_slice.ensures.value)
    ∙ ap (λ (x : State). change x (Starts c.args.n)) c.self.view_is
