-- Which claims hold their cown, and which wait: what the tests tell.
use Rattle.std.proofs.Common.{◌≡◌, ℕ, ◌<◌, ◌≤◌, ◌⊎◌, Bool, true, false, not, ◌&&◌, ◌==◌, nat_lt, nat_le, List, inl, inr, sym, ◌∙◌, eqb-true, eq-eqb, ltb-true, lt-ltb, leb-true, le-leb}
use Rattle.std.proofs.lemmas.Bool.{and_parts, and_from, not-true, not_from_false, or_cases, false_from_ne_true, cases_Bool, both_ways}
use Rattle.bl_queue.specs.declared.cown.Held.{Held}
use Rattle.bl_queue.specs.declared.cown.Cown.{Cown}
use Rattle.bl_queue.specs.Holders.{holds, waits_for, held_at, over_at, cown_at, place_of, may_hold}

-- a claim that holds this cown
pub record Holds (claims : List Held) (over : List Bool) (k first p : ℕ) : Type 0 where
  pub cown : (held_at claims p).cown ≡ k
  pub before : p < first
  pub stays : over_at over p ≡ false

pub holds_tells : (claims : List Held) (over : List Bool) (k first p : ℕ) → holds claims over k first p ≡ true → Holds claims over k first p
unfolding holds
holds_tells claims over k first p t =
    let a = and_parts ((held_at claims p).cown == k) (nat_lt p first && not (over_at over p)) t in
    let b = and_parts (nat_lt p first) (not (over_at over p)) a.1 in
    record { cown = eqb-true _ _ a.0; before = ltb-true _ _ b.0; stays = not-true _ b.1 }

pub holds_from : (claims : List Held) (over : List Bool) (k first p : ℕ) → Holds claims over k first p → holds claims over k first p ≡ true
unfolding holds
holds_from claims over k first p h =
    and_from _ _ (eq-eqb _ _ h.cown) (and_from _ _ (lt-ltb _ _ h.before) (not_from_false _ h.stays))

pub not_holding : (claims : List Held) (over : List Bool) (k first p : ℕ) → ¬ Holds claims over k first p → holds claims over k first p ≡ false
not_holding claims over k first p never = false_from_ne_true _ (λ t. never (holds_tells claims over k first p t))

-- where each claim holds that held, and the other way round, the tests say the same
pub holds-same : (claims claims' : List Held) (over over' : List Bool) (k k' first first' p : ℕ)
    → (Holds claims over k first p → Holds claims' over' k' first' p) → (Holds claims' over' k' first' p → Holds claims over k first p)
    → holds claims over k first p ≡ holds claims' over' k' first' p
holds-same claims claims' over over' k k' first first' p to from =
    elim (cases_Bool (holds claims over k first p)) [
      | inl t ↦ t ∙ sym (holds_from claims' over' k' first' p (to (holds_tells claims over k first p t)))
      | inr f ↦ f ∙ sym (not_holding claims' over' k' first' p
          (λ h. both_ways _ f (holds_from claims over k first p (from h))))
    ]

-- a claim of this entry that waits
pub record Waits (claims : List Held) (cowns : List Cown) (n p : ℕ) : Type 0 where
  pub entry : (held_at claims p).entry ≡ n
  pub behind : place_of (cown_at cowns (held_at claims p).cown).first ≤ p

pub waits_tells : (claims : List Held) (cowns : List Cown) (n p : ℕ) → waits_for claims cowns n p ≡ true → Waits claims cowns n p
unfolding waits_for
waits_tells claims cowns n p t =
    let a = and_parts ((held_at claims p).entry == n) (nat_le (place_of (cown_at cowns (held_at claims p).cown).first) p) t in
    record { entry = eqb-true _ _ a.0; behind = leb-true _ _ a.1 }

pub waits_from : (claims : List Held) (cowns : List Cown) (n p : ℕ) → Waits claims cowns n p → waits_for claims cowns n p ≡ true
unfolding waits_for
waits_from claims cowns n p w = and_from _ _ (eq-eqb _ _ w.entry) (le-leb _ _ w.behind)

pub not_waiting : (claims : List Held) (cowns : List Cown) (n p : ℕ) → ¬ Waits claims cowns n p → waits_for claims cowns n p ≡ false
not_waiting claims cowns n p never = false_from_ne_true _ (λ t. never (waits_tells claims cowns n p t))

pub waits-same : (claims claims' : List Held) (cowns cowns' : List Cown) (n n' p : ℕ)
    → (Waits claims cowns n p → Waits claims' cowns' n' p) → (Waits claims' cowns' n' p → Waits claims cowns n p)
    → waits_for claims cowns n p ≡ waits_for claims' cowns' n' p
waits-same claims claims' cowns cowns' n n' p to from =
    elim (cases_Bool (waits_for claims cowns n p)) [
      | inl t ↦ t ∙ sym (waits_from claims' cowns' n' p (to (waits_tells claims cowns n p t)))
      | inr f ↦ f ∙ sym (not_waiting claims' cowns' n' p
          (λ h. both_ways _ f (waits_from claims cowns n p (from h))))
    ]

-- a cown that another claim may hold is free, or both share it
pub may_hold_tells : (c : Cown) (shared : Bool) → may_hold c shared ≡ true → (c.holders ≡ 0) ⊎ ((shared ≡ true) × (c.shared ≡ true))
may_hold_tells c shared t =
    elim (or_cases (c.holders == 0) (shared && c.shared) t) [
      | inl e ↦ inl (eqb-true _ _ e)
      | inr e ↦ inr (and_parts shared c.shared e)
    ]
