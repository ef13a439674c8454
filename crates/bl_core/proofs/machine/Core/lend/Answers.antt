use Rattle.std.proofs.Common.{ℕ, List, ◌<◌, ◌≤◌, length, get_or, sym, subst, ap, ◌∙◌}
use Rattle.bl_policy.specs.declared.access.Access.{Access}
use Rattle.bl_work.specs.Script.{IsBehaviour, most_accesses}
use Rattle.bl_work.specs.Statements.{Part, no_part}
use Rattle.bl_work.specs.declared.work.Work.TheVariants as works
use Rattle.bl_order.specs.Machine.{State, MayStart}
use Rattle.bl_core.specs.Answers.{loan_at}
use Rattle.bl_place.specs.Places.{work_in}
use Rattle.bl_place.specs.Shelves.{contents_in}
use Rattle.bl_place.specs.declared.place.Place.{Place}
use Rattle.bl_place.specs.declared.shelf.Shelf.{Shelf}
use Rattle.bl_core.proofs.Starting.{there-may}
use Rattle.bl_core.proofs.Tasks.{declared-in, index-within, no-rule, task-in, there-in}
use Rattle.bl_core.proofs.Views.{there}
use Rattle.bl_core.proofs.Lending.{task-runs, lent-new}
use Rattle.bl_core.proofs.machine.Core.lend.Goals as goal

pub new-requires-clause-grants : goal.new-requires-clause-grants
new-requires-clause-grants c = (lent-new c.self.inside c.self.invariant c.args.n (subst (λ (x : State). MayStart x c.args.n) (sym c.self.view_is) c.requires.may)
    c.in_ok-owned.owned c.index.result.now.index c.accesses-accesses.result.now (contents_in c.as_slice-2.result.now c.accesses-accesses.result.now) c.in_ok-grants.grants
    (task-runs c.self.inside.places.items c.args.n c.in_ok-owned.owned c.index.result.now
    (there-may c.self.inside c.args.n (subst (λ (x : State). MayStart x c.args.n) (sym c.self.view_is) c.requires.may))
    (ap (λ (l : List Place). work_in l c.args.n) (sym c.as_slice.ensures.value) ∙ sym c.work_at.ensures ∙ c.in-Behaviour.is ∙ ap works.Behaviour (sym c.in_ok-owned.ensures))
    c.index.ensures)
    (c.accesses-accesses.ensures
    ∙ ap (λ (i : ℕ). (get_or c.in-Behaviour.script i no_part).accesses) c.from.ensures
    ∙ ap (λ (s : List Part). (get_or s c.index.result.now.index no_part).accesses) (sym c.in_ok-owned.ensures))
    (subst IsBehaviour
    (ap (λ (i : ℕ). get_or c.in-Behaviour.script i no_part) c.from-2.ensures ∙ ap (λ (s : List Part). get_or s c.index.result.now.index no_part) (sym c.in_ok-owned.ensures))
    c.body-statements.ensures.behaviour)
    (ap (λ (h : List Shelf). contents_in h c.accesses-accesses.result.now) c.as_slice-2.ensures.value)
    c.in_ok-grants.ensures).0

pub returns : goal.returns
returns c =
    c.new.ensures
    ∙ (lent-new c.self.inside c.self.invariant c.args.n (subst (λ (x : State). MayStart x c.args.n) (sym c.self.view_is) c.requires.may)
    c.in_ok-owned.owned c.index.result.now.index c.accesses-accesses.result.now (contents_in c.as_slice-2.result.now c.accesses-accesses.result.now) c.in_ok-grants.grants
    (task-runs c.self.inside.places.items c.args.n c.in_ok-owned.owned c.index.result.now
    (there-may c.self.inside c.args.n (subst (λ (x : State). MayStart x c.args.n) (sym c.self.view_is) c.requires.may))
    (ap (λ (l : List Place). work_in l c.args.n) (sym c.as_slice.ensures.value) ∙ sym c.work_at.ensures ∙ c.in-Behaviour.is ∙ ap works.Behaviour (sym c.in_ok-owned.ensures))
    c.index.ensures)
    (c.accesses-accesses.ensures
    ∙ ap (λ (i : ℕ). (get_or c.in-Behaviour.script i no_part).accesses) c.from.ensures
    ∙ ap (λ (s : List Part). (get_or s c.index.result.now.index no_part).accesses) (sym c.in_ok-owned.ensures))
    (subst IsBehaviour
    (ap (λ (i : ℕ). get_or c.in-Behaviour.script i no_part) c.from-2.ensures ∙ ap (λ (s : List Part). get_or s c.index.result.now.index no_part) (sym c.in_ok-owned.ensures))
    c.body-statements.ensures.behaviour)
    (ap (λ (h : List Shelf). contents_in h c.accesses-accesses.result.now) c.as_slice-2.ensures.value)
    c.in_ok-grants.ensures).1
    ∙ ap (λ (x : State). loan_at x c.args.n) c.self.view_is

pub work_at-requires-clause-there : goal.work_at-requires-clause-there
work_at-requires-clause-there c =
    let lt = there c.self.inside c.args.self.now c.args.n c.self.view_is c.requires.may.there in
    there-in c.self.inside c.self.invariant c.args.n lt c.as_slice.result.now c.as_slice.ensures.value

pub work_at-requires-clause-task : goal.work_at-requires-clause-task
work_at-requires-clause-task c =
    let lt = there c.self.inside c.args.self.now c.args.n c.self.view_is c.requires.may.there in
    task-in c.self.inside c.self.invariant c.args.n lt c.as_slice.result.now c.as_slice.ensures.value

pub unreachable-requires : goal.unreachable-requires
unreachable-requires c =
    let lt = there c.self.inside c.args.self.now c.args.n c.self.view_is c.requires.may.there in
    no-rule c.self.inside c.self.invariant c.args.n lt c.args.self.now c.self.view_is c.requires.behaviour c.in_default.field-0
    (ap (λ (l : List Place). work_in l c.args.n) (sym c.as_slice.ensures.value) ∙ sym c.work_at.ensures ∙ c.in_default.is)

pub index-requires : goal.index-requires
index-requires c = subst (λ (m : ℕ). c.args.n < m) (sym c.self.inside.places.ok.0) (there c.self.inside c.args.self.now c.args.n c.self.view_is c.requires.may.there)

pub accesses-accesses-requires : goal.accesses-accesses-requires
accesses-accesses-requires c =
    let lt = there c.self.inside c.args.self.now c.args.n c.self.view_is c.requires.may.there in
    subst (λ (i : ℕ). i < length c.in-Behaviour.script) (sym c.from.ensures)
    (index-within c.self.inside.places.items c.args.n c.in-Behaviour.script c.index.result.now lt (c.self.invariant.told c.args.n lt).behaviour
    (ap (λ (l : List Place). work_in l c.args.n) (sym c.as_slice.ensures.value) ∙ sym c.work_at.ensures ∙ c.in-Behaviour.is) c.index.ensures)

pub body-statements-requires : goal.body-statements-requires
body-statements-requires c =
    let lt = there c.self.inside c.args.self.now c.args.n c.self.view_is c.requires.may.there in
    subst (λ (i : ℕ). i < length c.in-Behaviour.script) (sym c.from-2.ensures)
    (index-within c.self.inside.places.items c.args.n c.in-Behaviour.script c.index.result.now lt (c.self.invariant.told c.args.n lt).behaviour
    (ap (λ (l : List Place). work_in l c.args.n) (sym c.as_slice.ensures.value) ∙ sym c.work_at.ensures ∙ c.in-Behaviour.is) c.index.ensures)

pub lend_from-requires-clause-few : goal.lend_from-requires-clause-few
lend_from-requires-clause-few c =
    subst (λ (xs : List Access). length xs ≤ most_accesses)
    (ap (λ (i : ℕ). (get_or c.in-Behaviour.script i no_part).accesses) (c.from-2.ensures ∙ sym c.from.ensures) ∙ sym c.accesses-accesses.ensures)
    c.body-statements.ensures.behaviour.few

pub lend_from-requires-clause-shelves : goal.lend_from-requires-clause-shelves
lend_from-requires-clause-shelves c =
    let lt = there c.self.inside c.args.self.now c.args.n c.self.view_is c.requires.may.there in
    declared-in c.self.inside c.self.invariant c.args.n lt c.in-Behaviour.script c.index.result.now.index
    (task-runs c.self.inside.places.items c.args.n c.in-Behaviour.script c.index.result.now lt
    (ap (λ (l : List Place). work_in l c.args.n) (sym c.as_slice.ensures.value) ∙ sym c.work_at.ensures ∙ c.in-Behaviour.is) c.index.ensures)
    c.accesses-accesses.result.now (c.accesses-accesses.ensures ∙ ap (λ (i : ℕ). (get_or c.in-Behaviour.script i no_part).accesses) c.from.ensures)
    c.as_slice-2.result.now c.as_slice-2.ensures.value

pub new-requires-clause-there : goal.new-requires-clause-there
new-requires-clause-there c =
    let lt = there c.self.inside c.args.self.now c.args.n c.self.view_is c.requires.may.there in
    subst (λ (script : List Part). c.index.result.now.index < length script) (sym c.in_ok-owned.ensures)
    (index-within c.self.inside.places.items c.args.n c.in-Behaviour.script c.index.result.now lt (c.self.invariant.told c.args.n lt).behaviour
    (ap (λ (l : List Place). work_in l c.args.n) (sym c.as_slice.ensures.value) ∙ sym c.work_at.ensures ∙ c.in-Behaviour.is) c.index.ensures)
