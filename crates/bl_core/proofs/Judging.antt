-- What a start answers of a behaviour.
use Rattle.std.proofs.Common.{◌≡◌, ℕ, true, false, List, get_or, refl, ap, sym, ◌∙◌, true≢false}
use Rattle.std.specs.Prelude.{MatchOption, Option, Some, None}
use Rattle.std.proofs.lemmas.List.{get_or_read}
use Rattle.bl_level.specs.Level.{SecurityLevel}
use Rattle.bl_policy.specs.FirstFault.{first_fault}
use Rattle.bl_policy.specs.Policy.{SecurityPolicy}
use Rattle.bl_policy.specs.declared.access.Access.{Access}
use Rattle.bl_policy.specs.declared.denial.Denial.{Denial}
use Rattle.bl_work.specs.declared.answer.Answer.TheVariants as answers
use Rattle.bl_order.specs.Order.{Task, Runs, Applies, accesses_of, is_rule}
use Rattle.bl_order.specs.Past.{is_done, fault_of_task}
use Rattle.bl_order.specs.Machine.{MayStart, past_at}
use Rattle.bl_place.specs.Places.{no_place, task_in}
use Rattle.bl_core.specs.View.{state_of}
use Rattle.bl_core.specs.Keeps.{Keeps}
use Rattle.bl_place.specs.declared.place.Place.{Place}
use Rattle.bl_core.specs.declared.machine.Core.TheInside.{Inside}
use Rattle.bl_core.proofs.Starting.{there-may, fault_by, denied-by, done-by}

fault-behaviour : (p : SecurityPolicy) (s : ℕ) (carried : SecurityLevel) (t : Task) → is_rule t ≡ false → first_fault p s carried (accesses_of t) ≡ fault_of_task p s carried t
fault-behaviour p s carried (Runs script index) h = refl
fault-behaviour p s carried (Applies rule) h = absurd (true≢false h)

module _ (c : Inside) (k : Keeps c) (n : ℕ) (may : MayStart (state_of c) n) where
  -- who speaks
  pub subject-read : (s : Place) → s ≡ get_or c.places.items n s → s.subject ≡ (past_at (state_of c) n).subject
  subject-read s at =
      ap (λ (t : Place). t.subject) (get_or_read c.places.items n s (there-may c n may) at no_place) ∙ sym (k.told n (there-may c n may)).subject

  -- what is carried
  carried-read : (s : Place) → s ≡ get_or c.places.items n s → s.carried ≡ (past_at (state_of c) n).carried
  carried-read s at =
      ap (λ (t : Place). t.carried) (get_or_read c.places.items n s (there-may c n may) at no_place) ∙ sym (k.told n (there-may c n may)).carried

  module _ (behaviour : is_rule (past_at (state_of c) n).task ≡ false) (s : Place) (at : s ≡ get_or c.places.items n s) (xs : List Access)
      (are : xs ≡ accesses_of (task_in c.places.items n)) (f : Option Denial) (fault : f ≡ first_fault c.policy s.subject s.carried xs) where
    fault-is : f ≡ fault_by c.policy (past_at (state_of c) n)
    fault-is =
        fault
        ∙ ap (λ (u : ℕ). first_fault c.policy u s.carried xs) (subject-read s at)
        ∙ ap (λ (l : SecurityLevel). first_fault c.policy (past_at (state_of c) n).subject l xs) (carried-read s at)
        ∙ ap (first_fault c.policy (past_at (state_of c) n).subject (past_at (state_of c) n).carried) (are ∙ ap accesses_of (sym (k.told n (there-may c n may)).task))
        ∙ fault-behaviour c.policy (past_at (state_of c) n).subject (past_at (state_of c) n).carried (past_at (state_of c) n).task behaviour

    pub judged : MatchOption f (is_done (past_at (state_of c) n).answer ≡ true) (λ (d : Denial). (past_at (state_of c) n).answer ≡ answers.Denied d)
    judged = go f refl
      where
        go : (g : Option Denial) → f ≡ g → MatchOption g (is_done (past_at (state_of c) n).answer ≡ true) (λ (d : Denial). (past_at (state_of c) n).answer ≡ answers.Denied d)
        go (Some d) e = denied-by c k n may d (sym e ∙ fault-is)
        go None e = done-by c k n may behaviour (sym e ∙ fault-is)
