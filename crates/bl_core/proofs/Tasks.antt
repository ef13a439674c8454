-- A place that may start or runs is there, and its task is one of its line's work.
use Rattle.std.proofs.Common.{◌≡◌, ℕ, ◌<◌, true, false, List, length, get_or, ap, sym, ◌∙◌, subst, true≢false}
use Rattle.std.specs.Prelude.{All}
use Rattle.std.proofs.lemmas.List.{get_or_read}
use Rattle.bl_policy.specs.declared.access.Access.{Access}
use Rattle.bl_policy.specs.declared.rule.Rule.{Rule}
use Rattle.bl_work.specs.Statements.{Part, no_part}
use Rattle.bl_work.specs.declared.work.Work.{Work}
use Rattle.bl_work.specs.declared.work.Work.TheVariants as works
use Rattle.bl_order.specs.Order.{Task, Runs, accesses_of, is_rule}
use Rattle.bl_order.specs.Past.{first_task, child_task}
use Rattle.bl_order.specs.Machine.{State, past_at, runs}
use Rattle.bl_place.specs.Places.{no_place, place_in, work_in, task_in, HasBehaviour, HasTask}
use Rattle.bl_core.specs.View.{state_of}
use Rattle.bl_core.specs.Keeps.{Keeps}
use Rattle.bl_place.specs.declared.place.Place.{Place}
use Rattle.bl_place.specs.declared.shelf.Shelf.{Shelf}
use Rattle.bl_core.specs.declared.machine.Core.TheInside.{Inside}
use Rattle.bl_core.proofs.Reading.{shelves-declared}
use Rattle.bl_core.proofs.Finishing.{end_there}

-- a behaviour's place has its number in the script
pub index-within : (places : List Place) (n : ℕ) (script : List Part) (s : Place) → n < length places → HasTask places n → work_in places n ≡ works.Behaviour script → s ≡ get_or places n s
    → s.index < length script
index-within places n script s lt has work at =
    subst (λ (t : Place). t.index < length script) (sym (get_or_read places n s lt at no_place))
    (subst (λ (w : Work). HasBehaviour w (place_in places n).index) work has)

module _ (c : Inside) (k : Keeps c) where
  pub running-there : (x : State) (n : ℕ) → state_of c ≡ x → runs x n ≡ true → n < length c.places.items
  running-there x n is run = end_there c k n (ap (λ (y : State). runs y n) is ∙ run)

  module _ (n : ℕ) (lt : n < length c.places.items) where
    -- in the list that a call was given
    pub there-in : (l : List Place) → l ≡ c.places.items → n < length l
    there-in l is = subst (λ (m : List Place). n < length m) (sym is) lt

    pub task-in : (l : List Place) → l ≡ c.places.items → HasTask l n
    task-in l is = subst (λ (m : List Place). HasTask m n) (sym is) (k.told n lt).behaviour

    -- what does not apply a rule is of no line with one
    pub no-rule : (x : State) → state_of c ≡ x → is_rule (past_at x n).task ≡ false → (rule : Rule) → work_in c.places.items n ≡ works.Rule rule → ⊥
    no-rule x is behaviour rule work =
        let task : (past_at (state_of c) n).task ≡ child_task (first_task (works.Rule rule)) (place_in c.places.items n).index =
        (k.told n lt).task ∙ ap (λ (w : Work). child_task (first_task w) (place_in c.places.items n).index) work in
        true≢false (sym (ap is_rule task) ∙ ap (λ (y : State). is_rule (past_at y n).task) is ∙ behaviour)

    -- what it declares has shelves
    pub declared-in : (script : List Part) (index : ℕ) → task_in c.places.items n ≡ Runs script index → (xs : List Access) → xs ≡ (get_or script index no_part).accesses
        → (h : List Shelf) → h ≡ c.shelves.items → All (λ (a : Access). a.doc < length h) xs
    declared-in script index task xs are h is =
        subst (λ (l : List Shelf). All (λ (a : Access). a.doc < length l) xs) (sym is)
        (subst (λ (l : List Access). All (λ (a : Access). a.doc < length c.shelves.items) l) (sym are)
        (subst (λ (t : Task). All (λ (a : Access). a.doc < length c.shelves.items) (accesses_of t)) task (shelves-declared c k n lt)))
