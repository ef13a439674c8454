-- What an untrusted subject's place may alter dominates what its lineage may look at.
use Rattle.std.proofs.Common.{◌≡◌, ℕ, suc, Bool, true, false, cond, ◌&&◌, ◌||◌, List, [], ◌∷◌, refl, sym, ◌∙◌, ap, subst, inl, inr, arith, ◌⊎◌, true≢false, eqb-true}
use Rattle.std.specs.Prelude.{◌↔◌, ◌==◌, All, IsTrue, Option, Some, None}
use Rattle.std.specs.List.{list_any}
use Rattle.bl_level.specs.Level.{SecurityLevel, Dominates, join_of}
use Rattle.bl_level.proofs.Dominance.{join-above_first, join-above_second}
use Rattle.bl_policy.specs.FirstFault.{first_fault}
use Rattle.bl_policy.specs.Mode.{is_exclusive}
use Rattle.bl_policy.specs.Policy.{SecurityPolicy, level_of, is_trusted}
use Rattle.bl_policy.specs.Properties.{Flows, MayCarry, IsGranted}
use Rattle.bl_policy.specs.RuleEffect.{after_rule}
use Rattle.bl_policy.specs.declared.access.Access.{Access}
use Rattle.bl_policy.specs.declared.access.Mode.{Mode}
use Rattle.bl_policy.specs.declared.access.Mode.TheVariants.{Read, Append, Write}
use Rattle.bl_policy.specs.declared.denial.Denial.{Denial}
use Rattle.bl_policy.specs.declared.rule.Rule.{Rule}
use Rattle.bl_work.specs.Effects.{Effect}
use Rattle.bl_work.specs.Modes.{observes}
use Rattle.bl_work.specs.declared.answer.Answer.{Answer}
use Rattle.bl_setup.specs.Setup.{Setup}
use Rattle.bl_setup.specs.declared.version.Version.TheVariants.{Two}
use Rattle.bl_order.specs.Headline.{IsReached}
use Rattle.bl_order.specs.Legal.{IsLegal}
use Rattle.bl_order.specs.Lineage.{IsInLineage, Itself, Above, AltersAbove, KeepsItsLineage}
use Rattle.bl_order.specs.Machine.{State, past_at, is_lost}
use Rattle.bl_order.specs.Now.{policy_at}
use Rattle.bl_order.specs.Order.{Task, Runs, Applies, accesses_of, is_altered}
use Rattle.bl_order.specs.Past.{Past, earlier, policy_of, changed, is_done, was_lost, fault_of_task, answer_of, may_alter}
use Rattle.bl_order.proofs.HeadlineProof.{done-no_fault, holds-reached}
use Rattle.bl_order.proofs.PlaceLaws.{subject-child, carried-child}

-- what bl_policy promises of decisions and of trust
pub record PolicyLaws : Type 0 where
  pub none : (p : SecurityPolicy) (s : ℕ) (carried : SecurityLevel) (accesses : List Access)
      → (first_fault p s carried accesses ≡ None) ↔ All (λ access. IsGranted p s carried access.doc access.mode) accesses
  pub trusted : (p : SecurityPolicy) (s u : ℕ) (rule : Rule) → is_trusted (after_rule p s rule) u ≡ is_trusted p u

-- ---- levels

above-itself : (a : SecurityLevel) → Dominates a a
above-itself a = record { rank = omega arith; categories = λ k h. h }

above-above : (a b c : SecurityLevel) → Dominates a b → Dominates b c → Dominates a c
above-above a b c d e = record { rank = omega (arith, d.rank, e.rank); categories = λ k h. d.categories k (e.categories k h) }

-- what is looked at by the star property is dominated by the current level
looked : (current level : SecurityLevel) (m : Mode) → observes m ≡ true → Flows current level m → Dominates current level
looked current level Read h flows = flows
looked current level Append h flows = absurd (true≢false (sym h))
looked current level Write h flows = subst (Dominates current) flows (above-itself current)

-- what is altered by the star property dominates the current level
altered : (current level : SecurityLevel) (m : Mode) → is_exclusive m ≡ true → Flows current level m → Dominates level current
altered current level Read h flows = absurd (true≢false (sym h))
altered current level Append h flows = flows
altered current level Write h flows = subst (λ l. Dominates l current) flows (above-itself current)

-- and by the carry property what is carried
carried_on : (carried level : SecurityLevel) (m : Mode) → is_exclusive m ≡ true → MayCarry carried level m → Dominates level carried
carried_on carried level Read h carries = absurd (true≢false (sym h))
carried_on carried level Append h carries = carries
carried_on carried level Write h carries = carries

bound : {P : Type 0} (b : Bool) → b ≡ false → IsTrue b ⊎ P → P
bound b untrusted (inl trusted) = absurd (true≢false (sym trusted ∙ untrusted))
bound b untrusted (inr p) = p

-- ---- accesses

both : (a b : Bool) → (a && b) ≡ true → (a ≡ true) × (b ≡ true)
both true b h = (refl, h)
both false b h = absurd (true≢false (sym h))

or_later : (a b : Bool) → a ≡ false → (a || b) ≡ true → b ≡ true
or_later true b e h = absurd (true≢false e)
or_later false b e h = h

-- one of the accesses to the document passes the test, and what holds of each of them holds of it
one_of : (test : Mode → Bool) (P : Access → Type 0) (accesses : List Access) (doc : ℕ) → All P accesses
    → list_any (λ (a : Access). (a.doc == doc) && test a.mode) accesses ≡ true → (a : Access) × (a.doc ≡ doc) × (test a.mode ≡ true) × P a
one_of test P [] doc each h = absurd (true≢false (sym h))
one_of test P (a ∷ rest) doc each h = go ((a.doc == doc) && test a.mode) refl (one_of test P rest doc (λ k d lt. each (suc k) d (omega (arith, lt))))
  where
    go : (b : Bool) → ((a.doc == doc) && test a.mode) ≡ b
        → (list_any (λ (a : Access). (a.doc == doc) && test a.mode) rest ≡ true → (a : Access) × (a.doc ≡ doc) × (test a.mode ≡ true) × P a)
        → (a : Access) × (a.doc ≡ doc) × (test a.mode ≡ true) × P a
    go true e later =
        let parts : ((a.doc == doc) ≡ true) × (test a.mode ≡ true) = both (a.doc == doc) (test a.mode) e in
        (a, eqb-true a.doc doc parts.0, parts.1, each 0 a (omega arith))
    go false e later = later (or_later ((a.doc == doc) && test a.mode) _ e h)

-- ---- places

-- what a place that ran is to alter it declares append or write
pub alters-done : (b : Bool) (f : Option Denial) (t : Task) (es : List Effect) (o : ℕ) → is_done (answer_of b f t es) ≡ true → may_alter t o ≡ true
    → is_altered (accesses_of t) o ≡ true
alters-done b f (Runs script index) es o h k = k
alters-done true f (Applies rule) es o h k = absurd (true≢false (sym h))
alters-done false (Some denial) (Applies rule) es o h k = absurd (true≢false (sym h))
alters-done false None (Applies rule) es o h k = absurd (true≢false (sym h))

module _ (laws : PolicyLaws) where
  granted-task : (p : SecurityPolicy) (s : ℕ) (carried : SecurityLevel) (t : Task) → fault_of_task p s carried t ≡ None
      → All (λ (a : Access). IsGranted p s carried a.doc a.mode) (accesses_of t)
  granted-task p s carried (Runs script index) h = (laws.none p s carried (accesses_of (Runs script index))).0 h
  granted-task p s carried (Applies rule) h = λ k d lt. absurd (omega arith)

  -- each access that a place declares is granted where it is done
  granted : (x : State) (n : ℕ) → is_done (past_at x n).answer ≡ true
      → All (λ (a : Access). IsGranted (policy_at x n) (past_at x n).subject (past_at x n).carried a.doc a.mode) (accesses_of (past_at x n).task)
  granted x n done =
      granted-task (policy_at x n) (past_at x n).subject (past_at x n).carried (past_at x n).task
      (done-no_fault (is_lost x n) (fault_of_task (policy_at x n) (past_at x n).subject (past_at x n).carried (past_at x n).task) (past_at x n).task _ done)

  trust-changed : (a : Answer) (t : Task) (s : ℕ) (p : SecurityPolicy) (u : ℕ) → is_trusted (changed a t s p) u ≡ is_trusted p u
  trust-changed a (Runs script index) s p u = refl
  trust-changed a (Applies rule) s p u = go (was_lost a)
    where
      go : (b : Bool) → is_trusted (cond b p (after_rule p s rule)) u ≡ is_trusted p u
      go true = refl
      go false = laws.trusted p s u rule

  -- nobody's trust ever changes
  trust-stays : (setup : Setup) (h : List Past) (u : ℕ) → is_trusted (policy_of setup h) u ≡ is_trusted setup.policy u
  trust-stays setup [] u = refl
  trust-stays setup (p ∷ h) u = trust-changed p.answer p.task p.subject (policy_of setup h) u ∙ trust-stays setup h u

  trust-at : (x : State) (m n u : ℕ) → is_trusted (policy_at x m) u ≡ is_trusted (policy_at x n) u
  trust-at x m n u =
      trust-stays x.setup (earlier x.setup (is_lost x) x.order m) u
      ∙ sym (trust-stays x.setup (earlier x.setup (is_lost x) x.order n) u)

  -- what is known of a place in the lineage of one that is done
  record Stands (x : State) (m n : ℕ) : Type 0 where
    pub subject : (past_at x m).subject ≡ (past_at x n).subject
    pub done : is_done (past_at x m).answer ≡ true
    pub carries : (m ≡ n) ⊎ Dominates (past_at x n).carried (past_at x m).level

  stands : (x : State) → IsLegal x.setup (is_lost x) x.order → x.setup.version ≡ Two → (m n : ℕ) → IsInLineage x.order m n
      → is_done (past_at x n).answer ≡ true → Stands x m n
  stands x legal two m n (Itself _ same) done = record {
    subject = ap (λ k. (past_at x k).subject) same;
    done = ap (λ k. is_done (past_at x k).answer) same ∙ done;
    carries = inl same;
  }
  stands x legal two m n (Above _ parent which at above) done =
      let placed = legal.placed n parent which at in
      let deeper : Stands x m parent = stands x legal two m parent above placed.done in
      record {
        subject = deeper.subject ∙ sym (subject-child x.setup (is_lost x) x.order n parent which placed.behind at);
        done = deeper.done;
        carries = inr (subst (λ c. Dominates c (past_at x m).level) (sym (carried-child x.setup (is_lost x) x.order n parent which two placed.behind at))
            (over parent deeper.carries));
      }
    where
      over : (parent : ℕ) → (m ≡ parent) ⊎ Dominates (past_at x parent).carried (past_at x m).level
          → Dominates (join_of (past_at x parent).level (past_at x parent).carried) (past_at x m).level
      over parent (inl same) = subst (λ k. Dominates (join_of (past_at x parent).level (past_at x parent).carried) (past_at x k).level) (sym same)
          (join-above_first (past_at x parent).level (past_at x parent).carried)
      over parent (inr d) = above-above _ (past_at x parent).carried _ (join-above_second (past_at x parent).level (past_at x parent).carried) d

  alters-above : (x : State) (m n : ℕ) → Stands x m n → is_trusted (policy_at x n) (past_at x n).subject ≡ false → is_done (past_at x n).answer ≡ true → AltersAbove x n m
  alters-above x m n stands untrusted done o q alters looks =
      above-above (level_of (policy_at x n) o) (past_at x m).level (level_of (policy_at x m) q) (go stands.carries) seen
    where
      free : is_trusted (policy_at x m) (past_at x m).subject ≡ false
      free = ap (is_trusted (policy_at x m)) stands.subject ∙ trust-at x m n (past_at x n).subject ∙ untrusted

      seen : Dominates (past_at x m).level (level_of (policy_at x m) q)
      seen =
          let found = one_of observes (λ (a : Access). IsGranted (policy_at x m) (past_at x m).subject (past_at x m).carried a.doc a.mode) (accesses_of (past_at x m).task) q (granted x m stands.done) looks in
          subst (λ d. Dominates (past_at x m).level (level_of (policy_at x m) d)) found.1
          (looked (past_at x m).level (level_of (policy_at x m) found.0.doc) found.0.mode found.2 (bound (is_trusted (policy_at x m) (past_at x m).subject) free found.3.secure.star))

      found : (a : Access) × (a.doc ≡ o) × (is_exclusive a.mode ≡ true) × IsGranted (policy_at x n) (past_at x n).subject (past_at x n).carried a.doc a.mode
      found = one_of is_exclusive (λ (a : Access). IsGranted (policy_at x n) (past_at x n).subject (past_at x n).carried a.doc a.mode) (accesses_of (past_at x n).task) o (granted x n done)
          (alters-done (is_lost x n) (fault_of_task (policy_at x n) (past_at x n).subject (past_at x n).carried (past_at x n).task) (past_at x n).task _ o done alters)

      go : (m ≡ n) ⊎ Dominates (past_at x n).carried (past_at x m).level → Dominates (level_of (policy_at x n) o) (past_at x m).level
      go (inl same) =
          subst (λ k. Dominates (level_of (policy_at x n) o) (past_at x k).level) (sym same)
          (subst (λ d. Dominates (level_of (policy_at x n) d) (past_at x n).level) found.1
          (altered (past_at x n).level (level_of (policy_at x n) found.0.doc) found.0.mode found.2 (bound (is_trusted (policy_at x n) (past_at x n).subject) untrusted found.3.secure.star)))
      go (inr d) =
          above-above (level_of (policy_at x n) o) (past_at x n).carried (past_at x m).level
          (subst (λ d. Dominates (level_of (policy_at x n) d) (past_at x n).carried) found.1
          (carried_on (past_at x n).carried (level_of (policy_at x n) found.0.doc) found.0.mode found.2 (bound (is_trusted (policy_at x n) (past_at x n).subject) untrusted found.3.carry)))
          d

  pub lineage-reached : (x : State) (n : ℕ) → IsReached x → x.setup.version ≡ Two → KeepsItsLineage x n
  lineage-reached x n reached two untrusted done m above =
      alters-above x m n (stands x (holds-reached x reached).legal two m n above done) untrusted done
