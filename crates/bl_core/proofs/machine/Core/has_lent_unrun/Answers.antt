use Rattle.std.proofs.Common.{◌≡◌, ℕ, ◌<◌, true, true≢false, List, refl, get_or, sym, subst, ap, ◌∙◌}
use Rattle.bl_work.specs.declared.work.Work.TheVariants as works
use Rattle.bl_work.specs.Statements.{no_part}
use Rattle.bl_order.specs.Machine.{State, runs}
use Rattle.bl_core.specs.Answers.{IsLentBy}
use Rattle.bl_place.specs.Places.{work_in}
use Rattle.bl_core.specs.View.{state_of}
use Rattle.bl_place.specs.declared.place.Place.{Place}
use Rattle.bl_place.specs.declared.shelf.Shelf.{Shelf}
use Rattle.bl_core.proofs.Lending.{task-runs}
use Rattle.bl_core.proofs.Owning.{IsOf, own-lent, own-no_rule, own-parts}
use Rattle.bl_core.proofs.Tasks.{declared-in, index-within, running-there, task-in, there-in}
use Rattle.bl_core.proofs.machine.Core.has_lent_unrun.Goals as goal

pub returns-in-Behaviour : goal.returns-in-Behaviour
returns-in-Behaviour c =
    let n = c.entry-n.result in
    let s = c.index.result.now in
    let script = c.in-Behaviour.script in
    let r : runs (state_of c.self.inside) n ≡ true =
    ap (λ (x : State). runs x n) c.self.view_is ∙ ap (runs c.args.self.now) (c.entry-n.ensures ∙ sym c.entry.ensures) ∙ c.is_running.ensures.0 c.if-not-is_running.false in
    let work : work_in c.self.inside.places.items n ≡ works.Behaviour script =
    ap (λ (l : List Place). work_in l n) (sym c.as_slice.ensures.value) ∙ sym c.work_at.ensures ∙ c.in-Behaviour.is in (
      λ h. subst (λ (x : State). IsLentBy x c.args.unrun.now) c.self.view_is
          (own-lent c.self.inside c.self.invariant n r script s work c.index.ensures c.args.unrun.now (sym c.entry-n.ensures)
          (subst (λ (l : List Shelf). IsOf l script s.index c.args.unrun.now) c.as_slice-in-Behaviour.ensures.value (c.is_unrun_of.ensures.0 h))),
      λ lent. c.is_unrun_of.ensures.1 (subst (λ (l : List Shelf). IsOf l script s.index c.args.unrun.now) (sym c.as_slice-in-Behaviour.ensures.value)
          (own-parts c.self.inside c.self.invariant n r script s work c.index.ensures c.args.unrun.now (sym c.entry-n.ensures)
          (subst (λ (x : State). IsLentBy x c.args.unrun.now) (sym c.self.view_is) lent))),
    )

pub returns-in-Rule : goal.returns-in-Rule
returns-in-Rule c =
    let n = c.entry-n.result in
    let r : runs (state_of c.self.inside) n ≡ true =
    ap (λ (x : State). runs x n) c.self.view_is ∙ ap (runs c.args.self.now) (c.entry-n.ensures ∙ sym c.entry.ensures) ∙ c.is_running.ensures.0 c.if-not-is_running.false in (
      λ h. absurd (true≢false (sym h)),
      λ lent. absurd (own-no_rule c.self.inside c.self.invariant n r c.in-Rule.field-0
          (ap (λ (l : List Place). work_in l n) (sym c.as_slice.ensures.value) ∙ sym c.work_at.ensures ∙ c.in-Rule.is)),
    )

pub returns-then-not-is_running : goal.returns-then-not-is_running
returns-then-not-is_running c = (
  λ h. absurd (true≢false (sym h)),
  λ lent. absurd (true≢false (sym (c.is_running.ensures.1 (ap (runs c.args.self.now) c.entry.ensures ∙ lent.0)) ∙ c.if-not-is_running.true)),
)

pub work_at-requires-clause-there : goal.work_at-requires-clause-there
work_at-requires-clause-there c =
    let n = c.entry-n.result in
    let lt = running-there c.self.inside c.self.invariant c.args.self.now n c.self.view_is
    (ap (runs c.args.self.now) (c.entry-n.ensures ∙ sym c.entry.ensures) ∙ c.is_running.ensures.0 c.if-not-is_running.false) in
    there-in c.self.inside c.self.invariant n lt c.as_slice.result.now c.as_slice.ensures.value

pub work_at-requires-clause-task : goal.work_at-requires-clause-task
work_at-requires-clause-task c =
    let n = c.entry-n.result in
    let lt = running-there c.self.inside c.self.invariant c.args.self.now n c.self.view_is
    (ap (runs c.args.self.now) (c.entry-n.ensures ∙ sym c.entry.ensures) ∙ c.is_running.ensures.0 c.if-not-is_running.false) in
    task-in c.self.inside c.self.invariant n lt c.as_slice.result.now c.as_slice.ensures.value

pub index-requires : goal.index-requires
index-requires c =
    let n = c.entry-n.result in
    let lt = running-there c.self.inside c.self.invariant c.args.self.now n c.self.view_is
    (ap (runs c.args.self.now) (c.entry-n.ensures ∙ sym c.entry.ensures) ∙ c.is_running.ensures.0 c.if-not-is_running.false) in
    subst (λ (m : ℕ). n < m) (sym c.self.inside.places.ok.0) lt

pub is_unrun_of-requires-clause-there : goal.is_unrun_of-requires-clause-there
is_unrun_of-requires-clause-there c =
    let n = c.entry-n.result in
    let lt = running-there c.self.inside c.self.invariant c.args.self.now n c.self.view_is
    (ap (runs c.args.self.now) (c.entry-n.ensures ∙ sym c.entry.ensures) ∙ c.is_running.ensures.0 c.if-not-is_running.false) in
    index-within c.self.inside.places.items n c.in-Behaviour.script c.index.result.now lt (c.self.invariant.told n lt).behaviour
    (ap (λ (l : List Place). work_in l n) (sym c.as_slice.ensures.value) ∙ sym c.work_at.ensures ∙ c.in-Behaviour.is) c.index.ensures

pub is_unrun_of-requires-clause-shelves : goal.is_unrun_of-requires-clause-shelves
is_unrun_of-requires-clause-shelves c =
    let n = c.entry-n.result in
    let lt = running-there c.self.inside c.self.invariant c.args.self.now n c.self.view_is
    (ap (runs c.args.self.now) (c.entry-n.ensures ∙ sym c.entry.ensures) ∙ c.is_running.ensures.0 c.if-not-is_running.false) in
    declared-in c.self.inside c.self.invariant n lt c.in-Behaviour.script c.index.result.now.index
    (task-runs c.self.inside.places.items n c.in-Behaviour.script c.index.result.now lt
    (ap (λ (l : List Place). work_in l n) (sym c.as_slice.ensures.value) ∙ sym c.work_at.ensures ∙ c.in-Behaviour.is) c.index.ensures)
    (get_or c.in-Behaviour.script c.index.result.now.index no_part).accesses refl
    c.as_slice-in-Behaviour.result.now c.as_slice-in-Behaviour.ensures.value
