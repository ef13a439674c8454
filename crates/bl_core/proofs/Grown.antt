-- Places that only change where they stand, and more places after them.
use Rattle.std.proofs.Common.{◌≡◌, ◌≢◌, ℕ, ◌<◌, ◌≤◌, ◌⊎◌, inl, inr, List, ◌++◌, length, get_or, set, refl, ap, sym, ◌∙◌, subst, arith, length-set, length-append, get_or-set_same, get_or-set_other}
use Rattle.std.proofs.Math.ListN.{get_or-append}
use Rattle.bl_work.specs.declared.answer.Answer.{Answer}
use Rattle.bl_work.specs.declared.work.Work.{Work}
use Rattle.bl_setup.specs.Setup.{Setup}
use Rattle.bl_order.specs.Known.{KnowsWork}
use Rattle.bl_order.specs.Past.{Past, first_task, child_task}
use Rattle.bl_place.specs.Places.{no_place, place_in, work_of, work_in, task_in, HasBehaviour}
use Rattle.bl_core.specs.Keeps.{Tells}
use Rattle.bl_place.specs.declared.place.Place.{Place}
use Rattle.bl_place.specs.declared.place.Stand.TheVariants.{Ended}

-- they differ in where they stand alone
pub record Same (s t : Place) : Type 0 where
  pub descent : t.descent ≡ s.descent
  pub root : t.root ≡ s.root
  pub index : t.index ≡ s.index
  pub subject : t.subject ≡ s.subject
  pub carried : t.carried ≡ s.carried

-- the places that were there are the same, and others may follow
pub record Grows (old new : List Place) : Type 0 where
  pub longer : length old ≤ length new
  pub same : (m : ℕ) → m < length old → Same (place_in old m) (place_in new m)

pub same_self : (s : Place) → Same s s
same_self s = record { descent = refl; root = refl; index = refl; subject = refl; carried = refl }

pub equal_or_not : (m n : ℕ) → (m ≡ n) ⊎ (m ≢ n)
equal_or_not m n = grind arith

pub grows-self : (places : List Place) → Grows places places
grows-self places = record { longer = omega arith; same = λ m lt. same_self (place_in places m) }

pub grows-set : (places : List Place) (n : ℕ) (t : Place) → n < length places → Same (place_in places n) t → Grows places (set places n t)
grows-set places n t lt s = record {
  longer = omega (arith, length-set places n t);
  same = λ m within. go m (equal_or_not m n);
}
  where
    go : (m : ℕ) → (m ≡ n) ⊎ (m ≢ n) → Same (get_or places m no_place) (get_or (set places n t) m no_place)
    go m (inl e) = subst (λ (j : ℕ). Same (get_or places j no_place) (get_or (set places n t) j no_place)) (sym e) (subst (λ (u : Place). Same (get_or places n no_place) u) (sym (get_or-set_same places n t no_place lt)) s)
    go m (inr ne) = subst (λ (u : Place). Same (get_or places m no_place) u) (sym (get_or-set_other places n m t no_place ne)) (same_self (get_or places m no_place))

pub grows-append : (places more : List Place) → Grows places (places ++ more)
grows-append places more = record {
  longer = omega (arith, length-append places more);
  same = λ m lt. subst (λ (u : Place). Same (get_or places m no_place) u) (sym (get_or-append places more no_place m lt)) (same_self (get_or places m no_place));
}

pub grows-both : (a b c : List Place) → Grows a b → Grows b c → Grows a c
grows-both a b c g h = record {
  longer = omega (arith, g.longer, h.longer);
  same = λ m lt.
      let s : Same (get_or a m no_place) (get_or b m no_place) = g.same m lt in
      let t : Same (get_or b m no_place) (get_or c m no_place) = h.same m (omega (arith, g.longer)) in
      record { descent = t.descent ∙ s.descent; root = t.root ∙ s.root; index = t.index ∙ s.index; subject = t.subject ∙ s.subject; carried = t.carried ∙ s.carried };
}

module _ (old new : List Place) (g : Grows old new) where
  pub work_in-grown : (n : ℕ) → n < length old → (place_in old n).root < length old → work_in new n ≡ work_in old n
  work_in-grown n lt rooted =
      ap (λ (r : ℕ). work_of (get_or new r no_place).descent) (g.same n lt).root
      ∙ ap work_of (g.same (get_or old n no_place).root rooted).descent

  pub task_in-grown : (n : ℕ) → n < length old → (place_in old n).root < length old → task_in new n ≡ task_in old n
  task_in-grown n lt rooted =
      ap (λ (w : Work). child_task (first_task w) (get_or new n no_place).index) (work_in-grown n lt rooted)
      ∙ ap (child_task (first_task (work_in old n))) (g.same n lt).index

  -- what is told of a place is told still
  pub tells-grown : (setup : Setup) (n : ℕ) (p q : Past) → n < length old → Tells setup old n p → q.task ≡ p.task → q.subject ≡ p.subject → q.carried ≡ p.carried
      → ((a : Answer) → (place_in new n).stand ≡ Ended a → q.answer ≡ a) → Tells setup new n q
  tells-grown setup n p q lt told task subject carried answer =
      let s : Same (get_or old n no_place) (get_or new n no_place) = g.same n lt in
      let works : work_in new n ≡ work_in old n = work_in-grown n lt told.root in
      record {
        task = task ∙ told.task ∙ sym (task_in-grown n lt told.root);
        subject = subject ∙ told.subject ∙ sym s.subject;
        carried = carried ∙ told.carried ∙ sym s.carried;
        answer = answer;
        root = omega (arith, s.root, told.root, g.longer);
        behaviour = subst (λ (w : Work). HasBehaviour w (get_or new n no_place).index) (sym works)
            (subst (HasBehaviour (work_in old n)) (sym s.index) told.behaviour);
        speaks = subst (λ (j : ℕ). j < length setup.policy.subjects) (sym s.subject) told.speaks;
        knows = subst (KnowsWork setup) (sym works) told.knows;
      }
