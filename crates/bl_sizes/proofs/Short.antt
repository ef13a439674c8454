-- The contents at each place are no longer than a document may be, and what a place does is within what its task may do.
use Rattle.std.proofs.Common.{◌≡◌, ℕ, zero, suc, ◌≤◌, ◌<◌, ◌+◌, Bool, true, false, cond, List, [], ◌∷◌, length, get_or, refl, sym, arith, true≢false}
use Rattle.std.specs.Prelude.{Option, Some, None}
use Rattle.std.specs.List.{AllByRecursion}
use Rattle.bl_policy.specs.declared.access.Access.{Access}
use Rattle.bl_policy.specs.declared.denial.Denial.{Denial}
use Rattle.bl_work.specs.Content.{most_bytes}
use Rattle.bl_work.specs.Effects.{Effect, outputs}
use Rattle.bl_work.specs.Statements.{no_part}
use Rattle.bl_work.specs.declared.answer.Answer.{Answer}
use Rattle.bl_work.specs.declared.answer.Answer.TheVariants.{Done, RuleDone, Denied, Lost}
use Rattle.bl_setup.specs.Setup.{Setup}
use Rattle.bl_order.specs.Order.{Entry, Task, Runs, Applies, accesses_of, body_of, is_declared}
use Rattle.bl_order.specs.Past.{Past, answer_of, child_task, content_of, deeds, earlier, fault_of_task, is_done, left_by, lent, may_alter, no_entry, only_if_done, place, policy_of, subject_of, carried_of}
use Rattle.bl_order.specs.Room.{IsBehaviourOrRule}
use Rattle.bl_sizes.specs.Sizes.{HoldsDocuments, coming_in, coming_of, denied_more}
use Rattle.bl_sizes.proofs.Spending.{AreShort, after-short, coming-is, one_of, spends, spent}

-- what may come of a child of a task
abbrev pub child_coming : Task → ℕ → ℕ
child_coming task j = coming_of (child_task task j)

-- what a task does is short, and takes no more than it may
pub record Does (task : Task) (es : List Effect) : Type 0 where
  pub short : AreShort es
  pub within : denied_more + spent (child_coming task) es ≤ coming_of task

lent-short : (accesses : List Access) (contents : ℕ → List ℕ) → ((doc : ℕ) → length (contents doc) ≤ most_bytes) → (doc : ℕ) → length (lent accesses contents doc) ≤ most_bytes
lent-short accesses contents all doc = one_of (is_declared accesses doc) (contents doc) [] (all doc) (omega arith)

pub deeds-within : (task : Task) (contents : ℕ → List ℕ) → IsBehaviourOrRule task → ((doc : ℕ) → length (contents doc) ≤ most_bytes) → Does task (deeds task contents)
deeds-within (Applies rule) contents is all = record { short = tt; within = omega arith }
deeds-within (Runs script index) contents is all =
    let does = spends (coming_in script) (lent (accesses_of (Runs script index)) contents) (lent-short (accesses_of (Runs script index)) contents all)
    (body_of (Runs script index)) [] tt (is.0.each index no_part is.1).texts in
    let within : denied_more + spent (coming_in script) (deeds (Runs script index) contents) ≤ coming_in script index =
    omega (arith, does.1, coming-is script is.0.preorder index is.1) in
    record { short = does.0; within = within }

-- a task has something that may come of it
pub coming-some : (task : Task) → IsBehaviourOrRule task → denied_more ≤ coming_of task
coming-some (Applies rule) is = omega arith
coming-some (Runs script index) is = omega (arith, coming-is script is.0.preorder index is.1)

-- ---- contents

left-short : (answer : Answer) (es : List Effect) (doc : ℕ) (content : List ℕ) → length content ≤ most_bytes → AreShort es → length (left_by answer es doc content) ≤ most_bytes
left-short (Done shown) es doc content c h = after-short content es doc c h
left-short RuleDone es doc content c h = omega arith
left-short (Denied denial) es doc content c h = c
left-short Lost es doc content c h = c

content-short : (s : Setup) → HoldsDocuments s → (ps : List Past) → AllByRecursion (λ (p : Past). AreShort p.effects) ps → (doc : ℕ) → length (content_of s ps doc) ≤ most_bytes
content-short s short [] h doc = short doc
content-short s short (p ∷ ps) h doc =
    let before = content-short s short ps h.1 doc in
    one_of (may_alter p.task doc) (left_by p.answer p.effects doc (content_of s ps doc)) (content_of s ps doc)
    (left-short p.answer p.effects doc (content_of s ps doc) before h.0) before

if-done-short : (answer : Answer) (es : List Effect) → AreShort es → AreShort (only_if_done answer es)
if-done-short answer es h = go (is_done answer)
  where
    go : (b : Bool) → AreShort (cond b es [])
    go true = h
    go false = tt

module _ (s : Setup) (short : HoldsDocuments s) (l : ℕ → Bool) (A : List Entry) where
  -- the effects of the places before n are short, and so are the contents at it
  earlier-short : (n : ℕ) → ((m : ℕ) → m < n → IsBehaviourOrRule (place s l A m).task) → AllByRecursion (λ (p : Past). AreShort p.effects) (earlier s l A n)
  earlier-short zero tasks = tt
  earlier-short (suc n) tasks =
      let before = earlier-short n (λ m lt. tasks m (omega (arith, lt))) in (
        if-done-short (place s l A n).answer (deeds (place s l A n).task (content_of s (earlier s l A n)))
            (deeds-within (place s l A n).task (content_of s (earlier s l A n)) (tasks n (omega arith)) (content-short s short (earlier s l A n) before)).short,
        before,
      )

  -- what a task does at a place is within what it may
  pub place-within : (n : ℕ) → ((m : ℕ) → m ≤ n → IsBehaviourOrRule (place s l A m).task) → Does (place s l A n).task (deeds (place s l A n).task (content_of s (earlier s l A n)))
  place-within n tasks =
      deeds-within (place s l A n).task (content_of s (earlier s l A n)) (tasks n (omega arith))
      (content-short s short (earlier s l A n) (earlier-short n (λ m lt. tasks m (omega (arith, lt)))))

-- what is done was granted: it shows what it does
done-shows : (lost : Bool) (fault : Option Denial) (task : Task) (es : List Effect) → is_done (answer_of lost fault task es) ≡ true
    → (answer_of lost fault task es ≡ Done (outputs es)) × (only_if_done (answer_of lost fault task es) es ≡ es)
done-shows true fault task es h = absurd (true≢false (sym h))
done-shows false (Some denial) task es h = absurd (true≢false (sym h))
done-shows false None (Runs script index) es h = (refl, refl)
done-shows false None (Applies rule) es h = absurd (true≢false (sym h))

-- a place that is done shows what its task does there
pub place-shows : (s : Setup) (l : ℕ → Bool) (A : List Entry) (n : ℕ) → is_done (place s l A n).answer ≡ true
    → ((place s l A n).answer ≡ Done (outputs (deeds (place s l A n).task (content_of s (earlier s l A n)))))
    × ((place s l A n).effects ≡ deeds (place s l A n).task (content_of s (earlier s l A n)))
place-shows s l A n h =
    done-shows (l n)
    (fault_of_task (policy_of s (earlier s l A n)) (subject_of (earlier s l A n) (get_or A n no_entry)) (carried_of s.version (earlier s l A n) (get_or A n no_entry)) (place s l A n).task)
    (place s l A n).task (deeds (place s l A n).task (content_of s (earlier s l A n))) h
