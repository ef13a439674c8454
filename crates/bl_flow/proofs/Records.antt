-- What the record of one place rests on.
use Rattle.std.proofs.Common.{◌≡◌, ℕ, Bool, true, false, cond, ◌&&◌, List, [], refl, sym, ap, true≢false}
use Rattle.std.specs.Prelude.{Option, Some, None, slice_get}
use Rattle.std.proofs.lemmas.Option.{get_or_from_slice_get}
use Rattle.bl_level.specs.Level.{SecurityLevel}
use Rattle.bl_policy.specs.Policy.{SecurityPolicy, current_of}
use Rattle.bl_policy.specs.declared.denial.Denial.{Denial}
use Rattle.bl_work.specs.Effects.{Effect}
use Rattle.bl_work.specs.Modes.{KeepsModes, declares, observes}
use Rattle.bl_work.specs.Statements.{no_part}
use Rattle.bl_work.specs.declared.answer.Answer.{Answer}
use Rattle.bl_work.specs.declared.answer.Answer.TheVariants.{Done, RuleDone, Denied, Lost}
use Rattle.bl_work.specs.declared.work.Work.{Work}
use Rattle.bl_order.specs.Order.{Line, Task, Runs, Applies, accesses_of, body_of, is_rule, is_declared}
use Rattle.bl_order.specs.Past.{Past, earlier, no_entry, is_done, is_rule_done, may_alter, left_by, leaves, subject_of, task_of, first_task, child_task, deeds, lent, judged, answer_of, only_if_done, fault_of_task}
use Rattle.bl_order.specs.Room.{IsBehaviourOrRule}
use Rattle.bl_flow.specs.Low.{History, place_in}
use Rattle.bl_flow.proofs.LawsBelow.{LawsBelow}

-- the record of a task that the policy has this against
abbrev recorded : ℕ → SecurityLevel → SecurityLevel → Task → Bool → Option Denial → List Effect → Past
recorded u l c t b f es =
    record { subject = u; level = l; carried = c; task = t; answer = answer_of b f t es; effects = only_if_done (answer_of b f t es) es }

-- the record of a task rests on what it would do only where it is done
pub judged-alike : (b : Bool) (p : SecurityPolicy) (es fs : List Effect) (u : ℕ) (c : SecurityLevel) (t : Task)
    → (is_done (judged b p es u c t).answer ≡ true → es ≡ fs) → judged b p es u c t ≡ judged b p fs u c t
judged-alike b p es fs u c t same = go b (fault_of_task p u c t) t same
  where
    at_levels : Task → Bool → Option Denial → List Effect → Past
    at_levels = recorded u (current_of p u) c

    go : (d : Bool) (f : Option Denial) (k : Task) → (is_done (answer_of d f k es) ≡ true → es ≡ fs) → at_levels k d f es ≡ at_levels k d f fs
    go true f k e = refl
    go false (Some d) k e = refl
    go false None (Runs script index) e = ap (at_levels (Runs script index) false None) (e refl)
    go false None (Applies rule) e = refl

-- what is done had nothing held against it
pub done_faultless : (b : Bool) (f : Option Denial) (t : Task) (es : List Effect) → is_done (answer_of b f t es) ≡ true → f ≡ None
done_faultless true f t es h = absurd (true≢false (sym h))
done_faultless false (Some d) t es h = absurd (true≢false (sym h))
done_faultless false None t es h = refl

-- what is done is no rule
pub done_behaves : (b : Bool) (f : Option Denial) (t : Task) (es : List Effect) → is_done (answer_of b f t es) ≡ true → is_rule t ≡ false
done_behaves b f (Runs script index) es h = refl
done_behaves true f (Applies rule) es h = absurd (true≢false (sym h))
done_behaves false (Some d) (Applies rule) es h = absurd (true≢false (sym h))
done_behaves false None (Applies rule) es h = absurd (true≢false (sym h))

-- a behaviour is not answered as a rule
pub behaviour_answered : (b : Bool) (f : Option Denial) (t : Task) (es : List Effect) → is_rule t ≡ false → is_rule_done (answer_of b f t es) ≡ false
behaviour_answered b f (Applies rule) es h = absurd (true≢false h)
behaviour_answered true f (Runs script index) es h = refl
behaviour_answered false (Some d) (Runs script index) es h = refl
behaviour_answered false None (Runs script index) es h = refl

-- what is no rule and does not write a document leaves its content
pub leaves-unwritten : (q : Past) (doc : ℕ) (c : List ℕ) → is_rule_done q.answer ≡ false → (is_done q.answer && may_alter q.task doc) ≡ false → leaves q doc c ≡ c
leaves-unwritten q doc c behaves unwritten = go q.answer (may_alter q.task doc) behaves unwritten
  where
    go : (a : Answer) (b : Bool) → is_rule_done a ≡ false → (is_done a && b) ≡ false → cond b (left_by a q.effects doc c) c ≡ c
    go a false h k = refl
    go (Done shown) true h k = absurd (true≢false k)
    go RuleDone true h k = absurd (true≢false h)
    go (Denied denial) true h k = refl
    go Lost true h k = refl

-- a child is a rule just where its parent is
pub child_rule : (t : Task) (behaviour : ℕ) → is_rule (child_task t behaviour) ≡ is_rule t
child_rule (Runs script index) behaviour = refl
child_rule (Applies rule) behaviour = refl

-- a line does its work, for its session's subject
pub line-task : (h : History) (n session ordinal subject : ℕ) (w : Work) → slice_get h.order n ≡ Some (Line session ordinal subject w) → (place_in h n).task ≡ first_task w
line-task h n session ordinal subject w is = ap (task_of (earlier h.setup h.lost h.order n)) (get_or_from_slice_get h.order n (Line session ordinal subject w) no_entry is)

pub line-subject : (h : History) (n session ordinal subject : ℕ) (w : Work) → slice_get h.order n ≡ Some (Line session ordinal subject w) → (place_in h n).subject ≡ subject
line-subject h n session ordinal subject w is = ap (subject_of (earlier h.setup h.lost h.order n)) (get_or_from_slice_get h.order n (Line session ordinal subject w) no_entry is)

-- a behaviour of a script keeps to the accesses that it declares, and a rule has none
keeps : (t : Task) → IsBehaviourOrRule t → KeepsModes (accesses_of t) (body_of t)
keeps (Runs script index) is = (is.0.each index no_part is.1).modes
keeps (Applies rule) is = tt

module _ (laws : LawsBelow) where
  -- a task does the same on contents that are the same where it may look; a rule does nothing
  pub deeds-alike : (t : Task) (c d : ℕ → List ℕ) → IsBehaviourOrRule t → (is_rule t ≡ false → (doc : ℕ) → declares observes (accesses_of t) doc ≡ true → c doc ≡ d doc) → deeds t c ≡ deeds t d
  deeds-alike (Applies rule) c d is same = refl
  deeds-alike (Runs script index) c d is same =
      let t : Task = Runs script index in
      laws.blind (accesses_of t) (lent (accesses_of t) c) (lent (accesses_of t) d) (body_of t)
      (λ doc looks. ap (λ x. cond (is_declared (accesses_of t) doc) x []) (same refl doc looks)) (keeps t is)
