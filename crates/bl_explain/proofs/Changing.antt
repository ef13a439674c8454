-- That what is answered is the rule that changed a value last.
use Rattle.std.proofs.Common.{◌≡◌, ◌≢◌, ◌⊎◌, inl, inr, ℕ, zero, suc, ◌+◌, ◌<◌, Bool, true, false, refl, sym, ◌∙◌, ap, subst, arith, List, [], ◌∷◌, length, get_or, drop, drop-cons, Option, Some, None, true≢false}
use Rattle.std.specs.Prelude.{◌↔◌, IsTrue}
use Rattle.bl_policy.specs.declared.access.Access.{Access}
use Rattle.bl_policy.specs.declared.rule.Rule.{Rule}
use Rattle.bl_policy.specs.Policy.{SecurityPolicy, lowest, is_present, level_of, current_of, allows}
use Rattle.bl_policy.specs.RuleEffect.{IsRuleOf, HasIdsBelow, after_rule}
use Rattle.bl_policy.proofs.Properties.{same_level}
use Rattle.bl_explain.specs.declared.since.Applied.{Applied}
use Rattle.bl_explain.specs.declared.since.Since.{Since}
use Rattle.bl_explain.specs.Grounds.{grounds_of}
use Rattle.bl_explain.specs.Since.{is_same_level, is_same_answer, unless_same, noted, of_setup, since_behind, LeavesIt, ChangesItLast, MadeIt}

-- ---- the loop

-- one rule more
pub one_more : (s : ℕ) (access : Access) (since : Since) (p : SecurityPolicy) (rules : List Applied) (i : ℕ) (rule : Applied) → i < length rules → rule ≡ get_or rules i rule
    → since_behind s access since p (drop i rules)
    ≡ since_behind s access (noted rule.event (grounds_of p s lowest access) (grounds_of (after_rule p rule.speaker rule.rule) s lowest access) since)
    (after_rule p rule.speaker rule.rule) (drop (i + 1) rules)
one_more s access since p rules i rule within is =
    let next : suc i ≡ i + 1 = omega arith in
    ap (since_behind s access since p) (drop-cons rules i rule within)
    ∙ ap (λ n. since_behind s access since p (get_or rules i rule ∷ drop n rules)) next
    ∙ ap (λ r. since_behind s access since p (r ∷ drop (i + 1) rules)) (sym is)

-- a rule of one policy is one of another with as many subjects and documents
pub same_ids : (p q : SecurityPolicy) (rule : Rule) → length q.subjects ≡ length p.subjects → length q.documents ≡ length p.documents → IsRuleOf p rule → IsRuleOf q rule
same_ids p q rule e f known =
    subst (λ n. HasIdsBelow n (length q.documents) rule) (sym e) (subst (λ n. HasIdsBelow (length p.subjects) n rule) (sym f) known)

-- ---- one value

module _ {A : Type 0} (value : SecurityPolicy → A) (same : A → A → Bool) where
  -- the number of the last rule that changed the value, by its test
  abbrev since_from : Option ℕ → SecurityPolicy → List Applied → Option ℕ
  since_from found p [] = found
  since_from found p (rule ∷ rules) =
      since_from (unless_same (same (value p) (value (after_rule p rule.speaker rule.rule))) rule.event found) (after_rule p rule.speaker rule.rule) rules

  module _ (means : (a b : A) → IsTrue (same a b) ↔ (a ≡ b)) where
    -- where no rule changes the value, what made it before stays, or the last that does is answered
    record Told (found : Option ℕ) (p : SecurityPolicy) (rules : List Applied) (told : Option ℕ) : Type 0 where
      is : ((told ≡ found) × ((k : ℕ) → k < length rules → LeavesIt value p rules k)) ⊎ ((event : ℕ) × (told ≡ Some event) × ChangesItLast value p rules event)

    all_left : (p : SecurityPolicy) (rule : Applied) (rules : List Applied) → value (after_rule p rule.speaker rule.rule) ≡ value p
        → ((k : ℕ) → k < length rules → LeavesIt value (after_rule p rule.speaker rule.rule) rules k) → (k : ℕ) → k < length (rule ∷ rules) → LeavesIt value p (rule ∷ rules) k
    all_left p rule rules first rest zero h = first
    all_left p rule rules first rest (suc k) h = rest k (omega (arith, h))

    later_kept : (p : SecurityPolicy) (rule : Applied) (rules : List Applied) (place : ℕ)
        → ((k : ℕ) → place < k → k < length rules → LeavesIt value (after_rule p rule.speaker rule.rule) rules k)
        → (k : ℕ) → suc place < k → k < length (rule ∷ rules) → LeavesIt value p (rule ∷ rules) k
    later_kept p rule rules place kept zero h l = absurd (omega (arith, h))
    later_kept p rule rules place kept (suc k) h l = kept k (omega (arith, h)) (omega (arith, l))

    first_kept : (p : SecurityPolicy) (rule : Applied) (rules : List Applied)
        → ((k : ℕ) → k < length rules → LeavesIt value (after_rule p rule.speaker rule.rule) rules k)
        → (k : ℕ) → 0 < k → k < length (rule ∷ rules) → LeavesIt value p (rule ∷ rules) k
    first_kept p rule rules kept zero h l = absurd (omega (arith, h))
    first_kept p rule rules kept (suc k) h l = kept k (omega (arith, l))

    later : (p : SecurityPolicy) (rule : Applied) (rules : List Applied) (event : ℕ) → ChangesItLast value (after_rule p rule.speaker rule.rule) rules event
        → ChangesItLast value p (rule ∷ rules) event
    later p rule rules event c =
        record { place = suc c.place; rule = c.rule; at = c.at; is = c.is; changes = c.changes; kept = later_kept p rule rules c.place c.kept }

    step : (found : Option ℕ) (p : SecurityPolicy) (rule : Applied) (rules : List Applied)
        → ((f : Option ℕ) → Told f (after_rule p rule.speaker rule.rule) rules (since_from f (after_rule p rule.speaker rule.rule) rules))
        → (b : Bool) → same (value p) (value (after_rule p rule.speaker rule.rule)) ≡ b → Told found p (rule ∷ rules) (since_from found p (rule ∷ rules))
    step found p rule rules deeper true e =
        let as_before : unless_same (same (value p) (value (after_rule p rule.speaker rule.rule))) rule.event found ≡ found = ap (λ b. unless_same b rule.event found) e in
        let unchanged : value (after_rule p rule.speaker rule.rule) ≡ value p = sym ((means (value p) (value (after_rule p rule.speaker rule.rule))).0 e) in
        elim (deeper (unless_same (same (value p) (value (after_rule p rule.speaker rule.rule))) rule.event found)).is [
          | inl stays ↦ record { is = inl (stays.0 ∙ as_before, all_left p rule rules unchanged stays.1) }
          | inr changed ↦ record { is = inr (changed.0, changed.1, later p rule rules changed.0 changed.2) }
        ]
    step found p rule rules deeper false e =
        let anew : unless_same (same (value p) (value (after_rule p rule.speaker rule.rule))) rule.event found ≡ Some rule.event = ap (λ b. unless_same b rule.event found) e in
        let differs : ¬ (value (after_rule p rule.speaker rule.rule) ≡ value p) = λ h. true≢false (sym ((means (value p) (value (after_rule p rule.speaker rule.rule))).1 (sym h)) ∙ e) in
        elim (deeper (unless_same (same (value p) (value (after_rule p rule.speaker rule.rule))) rule.event found)).is [
          | inl stays ↦ record {
            is = inr (
              rule.event,
              stays.0 ∙ anew,
              record { place = 0; rule = rule; at = refl; is = refl; changes = differs; kept = first_kept p rule rules stays.1 },
            );
          }
          | inr changed ↦ record { is = inr (changed.0, changed.1, later p rule rules changed.0 changed.2) }
        ]

    told : (found : Option ℕ) (p : SecurityPolicy) (rules : List Applied) → Told found p rules (since_from found p rules)
    told found p [] = record { is = inl (refl, λ k h. absurd (omega (arith, h))) }
    told found p (rule ∷ rules) =
        step found p rule rules (λ f. told f (after_rule p rule.speaker rule.rule) rules) (same (value p) (value (after_rule p rule.speaker rule.rule))) refl

    made : (p : SecurityPolicy) (rules : List Applied) (t : Option ℕ) → Told None p rules t → MadeIt value p rules t
    made p rules t told = elim told.is [
      | inl stays ↦ subst (MadeIt value p rules) (sym stays.0) stays.1
      | inr changed ↦ subst (MadeIt value p rules) (sym changed.1) changed.2
    ]

    pub last : (p : SecurityPolicy) (rules : List Applied) → MadeIt value p rules (since_from None p rules)
    last p rules = made p rules (since_from None p rules) (told None p rules)

-- ---- the four values

answers : (a b : Bool) → IsTrue (is_same_answer a b) ↔ (a ≡ b)
answers true true = ((λ h. refl), (λ h. refl))
answers true false = ((λ h. absurd (true≢false (sym h))), (λ h. absurd (true≢false h)))
answers false true = ((λ h. absurd (true≢false (sym h))), (λ h. absurd (true≢false (sym h))))
answers false false = ((λ h. refl), (λ h. refl))

module _ (s : ℕ) (access : Access) where
  present_is : (found : Since) (p : SecurityPolicy) (rules : List Applied)
      → since_from (λ q. is_present q access.doc) is_same_answer found.present p rules ≡ (since_behind s access found p rules).present
  present_is found p [] = refl
  present_is found p (rule ∷ rules) =
      present_is (noted rule.event (grounds_of p s lowest access) (grounds_of (after_rule p rule.speaker rule.rule) s lowest access) found) (after_rule p rule.speaker rule.rule) rules

  level_is : (found : Since) (p : SecurityPolicy) (rules : List Applied)
      → since_from (λ q. level_of q access.doc) is_same_level found.level p rules ≡ (since_behind s access found p rules).level
  level_is found p [] = refl
  level_is found p (rule ∷ rules) =
      level_is (noted rule.event (grounds_of p s lowest access) (grounds_of (after_rule p rule.speaker rule.rule) s lowest access) found) (after_rule p rule.speaker rule.rule) rules

  current_is : (found : Since) (p : SecurityPolicy) (rules : List Applied)
      → since_from (λ q. current_of q s) is_same_level found.current p rules ≡ (since_behind s access found p rules).current
  current_is found p [] = refl
  current_is found p (rule ∷ rules) =
      current_is (noted rule.event (grounds_of p s lowest access) (grounds_of (after_rule p rule.speaker rule.rule) s lowest access) found) (after_rule p rule.speaker rule.rule) rules

  allowed_is : (found : Since) (p : SecurityPolicy) (rules : List Applied)
      → since_from (λ q. allows q s access.doc access.mode) is_same_answer found.allowed p rules ≡ (since_behind s access found p rules).allowed
  allowed_is found p [] = refl
  allowed_is found p (rule ∷ rules) =
      allowed_is (noted rule.event (grounds_of p s lowest access) (grounds_of (after_rule p rule.speaker rule.rule) s lowest access) found) (after_rule p rule.speaker rule.rule) rules

pub present-made : (p : SecurityPolicy) (s : ℕ) (access : Access) (rules : List Applied) → MadeIt (λ q. is_present q access.doc) p rules (since_behind s access of_setup p rules).present
present-made p s access rules =
    subst (MadeIt (λ q. is_present q access.doc) p rules) (present_is s access of_setup p rules) (last (λ q. is_present q access.doc) is_same_answer answers p rules)

pub level-made : (p : SecurityPolicy) (s : ℕ) (access : Access) (rules : List Applied) → MadeIt (λ q. level_of q access.doc) p rules (since_behind s access of_setup p rules).level
level-made p s access rules =
    subst (MadeIt (λ q. level_of q access.doc) p rules) (level_is s access of_setup p rules) (last (λ q. level_of q access.doc) is_same_level same_level p rules)

pub current-made : (p : SecurityPolicy) (s : ℕ) (access : Access) (rules : List Applied) → MadeIt (λ q. current_of q s) p rules (since_behind s access of_setup p rules).current
current-made p s access rules =
    subst (MadeIt (λ q. current_of q s) p rules) (current_is s access of_setup p rules) (last (λ q. current_of q s) is_same_level same_level p rules)

pub allowed-made : (p : SecurityPolicy) (s : ℕ) (access : Access) (rules : List Applied) → MadeIt (λ q. allows q s access.doc access.mode) p rules (since_behind s access of_setup p rules).allowed
allowed-made p s access rules =
    subst (MadeIt (λ q. allows q s access.doc access.mode) p rules) (allowed_is s access of_setup p rules) (last (λ q. allows q s access.doc access.mode) is_same_answer answers p rules)
