-- What a running place was lent, by the fields.
use Rattle.std.proofs.Common.{◌≡◌, ℕ, ◌<◌, true, List, length, get_or, ap, sym, ◌∙◌, subst, true≢false}
use Rattle.std.specs.Prelude.{map, All}
use Rattle.std.proofs.lemmas.List.{get_or_read}
use Rattle.bl_policy.specs.declared.access.Access.{Access}
use Rattle.bl_policy.specs.declared.rule.Rule.{Rule}
use Rattle.bl_work.specs.Statements.{Part, no_part}
use Rattle.bl_work.specs.declared.work.Work.{Work}
use Rattle.bl_work.specs.declared.work.Work.TheVariants as works
use Rattle.bl_eval.specs.Loan.{Loan}
use Rattle.bl_order.specs.Order.{Task, Runs, Applies, accesses_of, is_declared, is_rule}
use Rattle.bl_order.specs.Past.{first_task, child_task}
use Rattle.bl_order.specs.Machine.{past_at, runs}
use Rattle.bl_order.specs.Now.{content_at}
use Rattle.bl_order.proofs.HeadlineProof.{holds-reached}
use Rattle.bl_order.proofs.Reached.{sound-reached}
use Rattle.bl_order.proofs.Trails.{within}
use Rattle.bl_core.specs.Answers.{IsLentBy, index_of, loan_at, loan_of, script_of}
use Rattle.bl_place.specs.Places.{HasBehaviour, no_place, place_in, task_in, work_in}
use Rattle.bl_place.specs.Shelves.{content_in, contents_in}
use Rattle.bl_core.specs.View.{state_of}
use Rattle.bl_core.specs.Keeps.{Keeps}
use Rattle.bl_place.specs.declared.place.Place.{Place}
use Rattle.bl_place.specs.declared.shelf.Shelf.{Shelf}
use Rattle.bl_core.specs.declared.machine.Core.TheInside.{Inside}
use Rattle.bl_core.proofs.Reading.{shelves-declared}
use Rattle.bl_core.proofs.Lending.{declared-member, map-same, task-runs}
use Rattle.bl_core.proofs.Finishing.{end_there, runs-task}

-- it has this script and index, and was lent the contents on the shelves
abbrev pub IsOf : List Shelf → List Part → ℕ → Loan → Type 0
IsOf shelves script index loan =
    (loan.script ≡ script) × (loan.index ≡ index) × (loan.inputs ≡ contents_in shelves (get_or script index no_part).accesses)

no_clash : (script : List Part) (index : ℕ) (rule : Rule) → Runs script index ≡ Applies rule → ⊥
no_clash script index rule e = true≢false (sym (ap is_rule e))

module _ (c : Inside) (k : Keeps c) (n : ℕ) (r : runs (state_of c) n ≡ true) where
  -- no rule runs
  pub own-no_rule : (rule : Rule) → work_in c.places.items n ≡ works.Rule rule → ⊥
  own-no_rule rule work =
      no_clash (script_of (past_at (state_of c) n).task) (index_of (past_at (state_of c) n).task) rule
      (sym (runs-task c k n r) ∙ (k.told n (end_there c k n r)).task ∙ ap (λ (w : Work). child_task (first_task w) (place_in c.places.items n).index) work)

  module _ (script : List Part) (s : Place) (work : work_in c.places.items n ≡ works.Behaviour script) (at : s ≡ get_or c.places.items n s) where
    here : n < length c.places.items
    here = end_there c k n r

    task : task_in c.places.items n ≡ Runs script s.index
    task = task-runs c.places.items n script s here work at

    is : (past_at (state_of c) n).task ≡ Runs script s.index
    is = (k.told n here).task ∙ task

    -- the behaviour is there, and its documents have shelves
    pub own-there : s.index < length script
    own-there =
        subst (λ (w : Work). HasBehaviour w s.index) work
        (subst (HasBehaviour (work_in c.places.items n)) (ap (λ (t : Place). t.index) (sym (get_or_read c.places.items n s here at no_place))) (k.told n here).behaviour)

    pub own-declared : All (λ (a : Access). a.doc < length c.shelves.items) (get_or script s.index no_part).accesses
    own-declared = subst (λ (t : Task). All (λ (a : Access). a.doc < length c.shelves.items) (accesses_of t)) task (shelves-declared c k n here)

    inputs : map (λ (a : Access). content_at (state_of c) a.doc n) (get_or script s.index no_part).accesses ≡ contents_in c.shelves.items (get_or script s.index no_part).accesses
    inputs =
        map-same (λ (a : Access). content_at (state_of c) a.doc n) (λ (a : Access). content_in c.shelves.items a.doc) (get_or script s.index no_part).accesses
        (λ i d lt.
        sym (k.shelved.contents (get_or (get_or script s.index no_part).accesses i d).doc (own-declared i d lt)
        ∙ (holds-reached (state_of c) k.reached).content_at_running n (get_or (get_or script s.index no_part).accesses i d).doc (within (state_of c) (sound-reached (state_of c) k.reached) n r) r
        (ap (λ (t : Task). is_declared (accesses_of t) (get_or (get_or script s.index no_part).accesses i d).doc) is ∙ declared-member (get_or script s.index no_part).accesses i d lt)))

    loan_is : loan_at (state_of c) n ≡ record { entry = n; script = script; index = s.index; inputs = contents_in c.shelves.items (get_or script s.index no_part).accesses }
    loan_is =
        ap (λ (t : Task). loan_of n t (λ doc. content_at (state_of c) doc n)) is
        ∙ ap (λ (v : List (List ℕ)). let l : Loan = record { entry = n; script = script; index = s.index; inputs = v } in l) inputs

    -- what has the script, the index and the contents of the place was lent to it, and nothing else
    pub own-lent : (loan : Loan) → loan.entry ≡ n
        → IsOf c.shelves.items script s.index loan → IsLentBy (state_of c) loan
    own-lent loan e parts = (
      ap (runs (state_of c)) e ∙ r,
      (λ j. record { entry = e j; script = parts.0 j; index = parts.1 j; inputs = parts.2 j }) ∙ sym loan_is ∙ ap (loan_at (state_of c)) (sym e),
    )

    pub own-parts : (loan : Loan) → loan.entry ≡ n → IsLentBy (state_of c) loan
        → IsOf c.shelves.items script s.index loan
    own-parts loan e lent =
        let all : loan ≡ record { entry = n; script = script; index = s.index; inputs = contents_in c.shelves.items (get_or script s.index no_part).accesses } =
        lent.1 ∙ ap (loan_at (state_of c)) e ∙ loan_is in
        (ap (λ (l : Loan). l.script) all, ap (λ (l : Loan). l.index) all, ap (λ (l : Loan). l.inputs) all)
