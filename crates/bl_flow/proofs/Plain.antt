-- Where no trusted subject speaks, no document comes down; and where no rule changes a level either, no child does.
use Rattle.std.proofs.Common.{◌≡◌, ℕ, zero, suc, ◌<◌, ◌≤◌, Bool, true, false, cond, List, length, refl, sym, ◌∙◌, ap, arith, true≢false, get_or}
use Rattle.std.specs.Prelude.{Option, Some, None, option_map, slice_index_or}
use Rattle.bl_level.specs.Level.{SecurityLevel, dominates, join_of}
use Rattle.bl_policy.specs.Policy.{SecurityPolicy, Clearance, nobody, lowest, is_trusted, is_admin}
use Rattle.bl_policy.specs.RuleEffect.{rule_fault, rule_makes, refusal, unless_failed, after_rule}
use Rattle.bl_policy.specs.declared.denial.Clause.TheVariants as failing
use Rattle.bl_policy.specs.declared.denial.Denial.{Denial}
use Rattle.bl_policy.specs.declared.rule.Rule.{Rule}
use Rattle.bl_policy.specs.declared.rule.Rule.TheVariants.{Give, Rescind, Current, Classify, Create, Delete}
use Rattle.bl_setup.specs.declared.version.Version.TheVariants.{One, Two}
use Rattle.bl_order.specs.Order.{Child, Task, Runs, Applies, is_rule}
use Rattle.bl_order.specs.Past.{Past, carried_of, earlier, no_entry}
use Rattle.bl_flow.specs.Low.{History, place_in, policy_in}
use Rattle.bl_flow.specs.Sealed.{IsPossible, IsSealed, IsPlain, IsUntrusted, TrustedLetNothingDown, NoDocumentComesDown, NoChildComesDown, changes_a_level}
use Rattle.bl_flow.proofs.LawsBelow.{ChildrenFollow, RulesMake, TrustStays}
use Rattle.bl_flow.proofs.Lists.{got-within}

-- a rule of who is not trusted leaves the documents' levels: `classify` is refused
documents-rule : (p : SecurityPolicy) (s : ℕ) (rule : Rule) → is_trusted p s ≡ false → (after_rule p s rule).documents ≡ p.documents
documents-rule p s rule untrusted = go rule (rule_fault p s rule) refl
  where
    refused : (doc : ℕ) (level : SecurityLevel) (admin trusted : Bool) → trusted ≡ false
        → option_map (refusal s (Classify doc level)) (cond admin (cond trusted None (Some failing.Trusted)) (Some failing.Admin)) ≡ None → ⊥
    refused doc level true true t none = absurd (true≢false t)
    refused doc level true false t none = cc
    refused doc level false trusted t none = cc

    go : (r : Rule) (f : Option Denial) → rule_fault p s r ≡ f → (unless_failed f (rule_makes p s r) p).documents ≡ p.documents
    go r (Some d) is = refl
    go (Give t doc m) None is = refl
    go (Rescind t doc m) None is = refl
    go (Current level) None is = refl
    go (Classify doc level) None is = absurd (refused doc level (is_admin p s) (is_trusted p s) untrusted is)
    go (Create doc) None is = refl
    go (Delete doc) None is = refl

-- a rule that changes no level leaves what the policy has of its subjects
subjects-rule : (p : SecurityPolicy) (s : ℕ) (rule : Rule) → changes_a_level (Applies rule) ≡ false → (after_rule p s rule).subjects ≡ p.subjects
subjects-rule p s rule stays = go (rule_fault p s rule) rule stays
  where
    go : (f : Option Denial) (r : Rule) → changes_a_level (Applies r) ≡ false → (unless_failed f (rule_makes p s r) p).subjects ≡ p.subjects
    go (Some d) r k = refl
    go None (Give t doc m) k = refl
    go None (Rescind t doc m) k = refl
    go None (Current level) k = absurd (true≢false k)
    go None (Classify doc level) k = absurd (true≢false k)
    go None (Create doc) k = refl
    go None (Delete doc) k = refl

module _ (rules : RulesMake) (h : History) where
  abbrev at : ℕ → Past
  at = place_in h

  -- what a place's rule leaves of the policy, the place leaves
  left-by : {X : Type 0} (f : SecurityPolicy → X) (n : ℕ)
      → ((rule : Rule) → (at n).task ≡ Applies rule → f (after_rule (policy_in h n) (at n).subject rule) ≡ f (policy_in h n))
      → f (policy_in h (suc n)) ≡ f (policy_in h n)
  left-by f n by_rule = go (at n).task refl (h.lost n) refl
    where
      go : (t : Task) → (at n).task ≡ t → (b : Bool) → h.lost n ≡ b → f (policy_in h (suc n)) ≡ f (policy_in h n)
      go (Runs script index) is b gone = ap f ((rules h.setup h.lost h.order n).by_no_behaviour (ap is_rule is))
      go (Applies rule) is true gone = ap f ((rules h.setup h.lost h.order n).by_none_lost gone)
      go (Applies rule) is false gone = ap f ((rules h.setup h.lost h.order n).by_a_rule rule is gone) ∙ by_rule rule is

  module _ (stays : TrustStays) where
    -- nobody's trust ever changes
    trust : (n s : ℕ) → is_trusted (policy_in h n) s ≡ is_trusted h.setup.policy s
    trust zero s = refl
    trust (suc n) s = left-by (λ q. is_trusted q s) n (λ rule is. stays (policy_in h n) (at n).subject s rule) ∙ trust n s

    module _ (untrusted : IsUntrusted h) (level : SecurityLevel) where
      none-trusted : TrustedLetNothingDown level h
      none-trusted n lt trusted done = absurd (true≢false (sym trusted ∙ trust n (at n).subject ∙ untrusted n lt))

      none-down : NoDocumentComesDown level h
      none-down n doc lt low =
          ap (λ (documents : List SecurityLevel). dominates level (slice_index_or documents doc lowest))
          (sym (left-by (λ q. q.documents) n (λ rule is. documents-rule (policy_in h n) (at n).subject rule (trust n (at n).subject ∙ untrusted n lt))))
          ∙ low

      pub untrusted-sealed : h.setup.version ≡ Two → IsSealed level h
      untrusted-sealed two = record { trusted = none-trusted; documents = none-down; children = λ one. absurd (one-or-two (sym one ∙ two)) }
        where
          one-or-two : One ≡ Two → ⊥
          one-or-two same = cc

  module _ (children : ChildrenFollow) (stays : TrustStays) (plain : IsPlain h) (level : SecurityLevel) where
    -- the current levels are the setup's at each place
    subjects : (n : ℕ) → n ≤ length h.order → (policy_in h n).subjects ≡ h.setup.policy.subjects
    subjects zero le = refl
    subjects (suc n) le =
        left-by (λ q. q.subjects) n (λ rule is. subjects-rule (policy_in h n) (at n).subject rule (ap changes_a_level (sym is) ∙ plain.levels_stay n (omega (arith, le))))
        ∙ subjects n (omega (arith, le))

    -- in version 1 a place carries nothing
    carries : h.setup.version ≡ One → (n : ℕ) → (at n).carried ≡ lowest
    carries one n = ap (λ v. carried_of v (earlier h.setup h.lost h.order n) (get_or h.order n no_entry)) one

    -- and so a child is low where its parent is
    none-comes : IsPossible h → h.setup.version ≡ One → NoChildComesDown level h
    none-comes possible one n parent which is low =
        let behind : parent < n = (possible.legal.placed n parent which is).behind in
        let within : n < length h.order = got-within h.order n (Child parent which) is in
        ap (λ q. low_at q (at parent).subject (at parent).carried) (subjects parent (omega (arith, behind, within)) ∙ sym (subjects n (omega (arith, within))))
        ∙ ap (λ s. low_at (policy_in h n).subjects s (at parent).carried) (sym (children h.setup h.lost h.order n parent which behind is).subject)
        ∙ ap (low_at (policy_in h n).subjects (at n).subject) (carries one parent ∙ sym (carries one n))
        ∙ low
      where
        low_at : List Clearance → ℕ → SecurityLevel → Bool
        low_at clearances s carried = dominates level (join_of (slice_index_or clearances s nobody).current carried)

    pub plain-sealed : IsPossible h → IsSealed level h
    plain-sealed possible = record {
      trusted = none-trusted stays plain.untrusted level;
      documents = none-down stays plain.untrusted level;
      children = none-comes possible;
    }
