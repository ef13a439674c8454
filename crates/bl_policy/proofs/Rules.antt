-- Rules: the first condition that fails, and what a rule keeps. What the test of dominance means is taken as a fact.
use Rattle.std.proofs.Common.{◌≡◌, ◌≢◌, ◌⊎◌, inl, inr, ℕ, ◌<◌, ◌≤◌, arith, Bool, true, false, not, ◌&&◌, ◌||◌, refl, sym, ◌∙◌, ap, subst, List, length, get_or, set, length-set, Option, Some, None, true≢false}
use Rattle.std.specs.Prelude.{IsTrue, ◌↔◌, unwrap_or, option_map, if◌then◌else◌}
use Rattle.std.proofs.lemmas.Bool.{cases_eq, cases_lt}
use Rattle.std.proofs.lemmas.List.{get_or-set_same, get_or-set_other, get_or_past}
use Rattle.std.proofs.lemmas.List.Elements.{All-set}
use Rattle.bl_level.specs.Level.{SecurityLevel, dominates, Dominates}
use Rattle.bl_policy.specs.declared.denial.Clause.{Clause}
use Rattle.bl_policy.specs.declared.denial.Clause.TheVariants as failing
use Rattle.bl_policy.specs.declared.denial.Denial.{Denial}
use Rattle.bl_policy.specs.declared.rule.Rule.{Rule}
use Rattle.bl_policy.specs.declared.rule.Rule.TheVariants.{Give, Rescind, Current, Classify, Create, Delete}
use Rattle.bl_policy.specs.Matrix.{Triple, Matrix, is_in, put_in, take_out}
use Rattle.bl_policy.specs.Policy.{SecurityPolicy, Clearance, nobody, clearance_of, greatest_of, is_trusted, is_admin, is_present, CurrentBelowGreatest}
use Rattle.bl_policy.specs.RuleEffect.{Permits, refusal, failed_condition, rule_fault, rule_makes, unless_failed, after_rule, FailsCondition, IsRuleFault}
use Rattle.bl_policy.proofs.Properties.{Means}
use Rattle.bl_policy.proofs.Triples.{same_triple, one-of_same, is_in-put_in, is_in-take_out, same_members_set}

met : (b : Bool) (x : Option Clause) (clause : Clause) → (if b then x else Some clause) ≡ None → (b ≡ true) × (x ≡ None)
met true x clause e = (refl, e)
met false x clause e = absurd (cc)

not_met : (b : Bool) → b ≡ false → ¬ IsTrue b
not_met b e h = true≢false (sym h ∙ e)

some_is : {X : Type 0} (x y : X) → Some x ≡ Some y → x ≡ y
some_is x y e = ap (λ o. unwrap_or o x) e

-- one condition: it fails, and is the one named
one : (b : Bool) (clause named : Clause) → (if b then None else Some clause) ≡ Some named → (b ≡ false) × (clause ≡ named)
one true clause named e = absurd (cc)
one false clause named e = (refl, some_is clause named e)

named_fails : (p : SecurityPolicy) (s : ℕ) (rule : Rule) (clause named : Clause) → clause ≡ named → FailsCondition clause p s rule → FailsCondition named p s rule
named_fails p s rule clause named e h = subst (λ c. FailsCondition c p s rule) e h

-- two conditions: the first fails and is the one named, or it holds and the second is at fault
first_or_later : (b : Bool) (later : Option Clause) (clause named : Clause) → (if b then later else Some clause) ≡ Some named
    → ((b ≡ true) × (later ≡ Some named)) ⊎ ((b ≡ false) × (clause ≡ named))
first_or_later true later clause named e = inl (refl, e)
first_or_later false later clause named e = inr (refl, some_is clause named e)

-- a condition that is to be false
false-of_none : (b : Bool) (clause : Clause) → (if b then Some clause else None) ≡ None → ¬ IsTrue b
false-of_none true clause e = absurd (cc)
false-of_none false clause e = λ h. true≢false (sym h)

false-of_not : (b : Bool) → ¬ IsTrue b → b ≡ false
false-of_not true never = absurd (never refl)
false-of_not false never = refl

true-of_some : (b : Bool) (clause named : Clause) → (if b then Some clause else None) ≡ Some named → (b ≡ true) × (clause ≡ named)
true-of_some true clause named e = (refl, some_is clause named e)
true-of_some false clause named e = absurd (cc)

-- what a permitted rule makes keeps each current level below the greatest one
pub below-makes : (p : SecurityPolicy) (s : ℕ) (rule : Rule) → Permits p s rule → CurrentBelowGreatest p → CurrentBelowGreatest (rule_makes p s rule)
below-makes p s (Give t o m) permits below = below
below-makes p s (Rescind t o m) permits below = below
below-makes p s (Current level) permits below = All-set (λ (c : Clearance). Dominates c.greatest c.current) p.subjects s (record (clearance_of p s) { current = level }) permits below
below-makes p s (Classify o level) permits below = below
below-makes p s (Create o) permits below = below
below-makes p s (Delete o) permits below = below

module _ (means : Means) where
  pub permits-of_none : (p : SecurityPolicy) (s : ℕ) (rule : Rule) → failed_condition p s rule ≡ None → Permits p s rule
  permits-of_none p s (Give t o m) e = (met (is_admin p s) None failing.Admin e).0
  permits-of_none p s (Rescind t o m) e = (met (is_admin p s) None failing.Admin e).0
  permits-of_none p s (Current level) e = (means (greatest_of p s) level).0 (met (dominates (greatest_of p s) level) None failing.Greatest e).0
  permits-of_none p s (Classify o level) e =
      let asked = met (is_admin p s) (if is_trusted p s then None else Some failing.Trusted) failing.Admin e in
      (asked.0, (met (is_trusted p s) None failing.Trusted asked.1).0)
  permits-of_none p s (Create o) e =
      let asked = met (is_admin p s) (if is_present p o then Some failing.Present else None) failing.Admin e in
      (asked.0, false-of_none (is_present p o) failing.Present asked.1)
  permits-of_none p s (Delete o) e =
      let asked = met (is_admin p s) (if is_present p o then None else Some failing.Absent) failing.Admin e in
      (asked.0, (met (is_present p o) None failing.Absent asked.1).0)

  pub none-of_permits : (p : SecurityPolicy) (s : ℕ) (rule : Rule) → Permits p s rule → failed_condition p s rule ≡ None
  none-of_permits p s (Give t o m) h = ap (λ b. if b then None else Some failing.Admin) h
  none-of_permits p s (Rescind t o m) h = ap (λ b. if b then None else Some failing.Admin) h
  none-of_permits p s (Current level) h = ap (λ b. if b then None else Some failing.Greatest) ((means (greatest_of p s) level).1 h)
  none-of_permits p s (Classify o level) h = λ i. if h.0 i then (if h.1 i then None else Some failing.Trusted) else Some failing.Admin
  none-of_permits p s (Create o) h = λ i. if h.0 i then (if false-of_not (is_present p o) h.1 i then Some failing.Present else None) else Some failing.Admin
  none-of_permits p s (Delete o) h = λ i. if h.0 i then (if h.1 i then None else Some failing.Absent) else Some failing.Admin

  pub fails-of_some : (p : SecurityPolicy) (s : ℕ) (rule : Rule) (named : Clause) → failed_condition p s rule ≡ Some named → FailsCondition named p s rule
  fails-of_some p s (Give t o m) named e =
      let told = one (is_admin p s) failing.Admin named e in
      named_fails p s (Give t o m) failing.Admin named told.1 (not_met (is_admin p s) told.0)
  fails-of_some p s (Rescind t o m) named e =
      let told = one (is_admin p s) failing.Admin named e in
      named_fails p s (Rescind t o m) failing.Admin named told.1 (not_met (is_admin p s) told.0)
  fails-of_some p s (Current level) named e =
      let told = one (dominates (greatest_of p s) level) failing.Greatest named e in
      named_fails p s (Current level) failing.Greatest named told.1 (λ h. not_met (dominates (greatest_of p s) level) told.0 ((means (greatest_of p s) level).1 h))
  fails-of_some p s (Classify o level) named e =
      elim (first_or_later (is_admin p s) (if is_trusted p s then None else Some failing.Trusted) failing.Admin named e) [
        | inl more ↦ let told = one (is_trusted p s) failing.Trusted named more.1 in
            named_fails p s (Classify o level) failing.Trusted named told.1 (more.0, not_met (is_trusted p s) told.0)
        | inr told ↦ named_fails p s (Classify o level) failing.Admin named told.1 (not_met (is_admin p s) told.0)
      ]
  fails-of_some p s (Create o) named e =
      elim (first_or_later (is_admin p s) (if is_present p o then Some failing.Present else None) failing.Admin named e) [
        | inl more ↦ let told = true-of_some (is_present p o) failing.Present named more.1 in
            named_fails p s (Create o) failing.Present named told.1 (more.0, told.0)
        | inr told ↦ named_fails p s (Create o) failing.Admin named told.1 (not_met (is_admin p s) told.0)
      ]
  fails-of_some p s (Delete o) named e =
      elim (first_or_later (is_admin p s) (if is_present p o then None else Some failing.Absent) failing.Admin named e) [
        | inl more ↦ let told = one (is_present p o) failing.Absent named more.1 in
            named_fails p s (Delete o) failing.Absent named told.1 (more.0, not_met (is_present p o) told.0)
        | inr told ↦ named_fails p s (Delete o) failing.Admin named told.1 (not_met (is_admin p s) told.0)
      ]

  no_refusal : (s : ℕ) (rule : Rule) (x : Option Clause) → option_map (refusal s rule) x ≡ None → x ≡ None
  no_refusal s rule None e = refl
  no_refusal s rule (Some clause) e = absurd (cc)

  -- nothing fails just where the rule is permitted
  pub none-permits : (p : SecurityPolicy) (s : ℕ) (rule : Rule) → (rule_fault p s rule ≡ None) ↔ Permits p s rule
  none-permits p s rule = (
    (λ e. permits-of_none p s rule (no_refusal s rule (failed_condition p s rule) e)),
    (λ h. ap (λ x. option_map (refusal s rule) x) (none-of_permits p s rule h)),
  )

  refusal_is : (p : SecurityPolicy) (s : ℕ) (rule : Rule) (denial : Denial) (x : Option Clause) → failed_condition p s rule ≡ x
      → option_map (refusal s rule) x ≡ Some denial → IsRuleFault p s rule denial
  refusal_is p s rule denial None is e = absurd (cc)
  refusal_is p s rule denial (Some clause) is e =
      subst (λ d. IsRuleFault p s rule d) (some_is (refusal s rule clause) denial e)
      (record { fails = fails-of_some p s rule clause is; subject = refl; object = refl })

  -- a refusal is that of the first condition that fails
  pub some-fails : (p : SecurityPolicy) (s : ℕ) (rule : Rule) (denial : Denial) → rule_fault p s rule ≡ Some denial → IsRuleFault p s rule denial
  some-fails p s rule denial e = refusal_is p s rule denial (failed_condition p s rule) refl e

  kept_below : (p : SecurityPolicy) (s : ℕ) (rule : Rule) (x : Option Denial) → rule_fault p s rule ≡ x → CurrentBelowGreatest p → CurrentBelowGreatest (unless_failed x (rule_makes p s rule) p)
  kept_below p s rule (Some denial) is below = below
  kept_below p s rule None is below = below-makes p s rule ((none-permits p s rule).0 is) below

  -- each greatest level still dominates the current one after a rule
  pub below-after : (p : SecurityPolicy) (s : ℕ) (rule : Rule) → CurrentBelowGreatest p → CurrentBelowGreatest (after_rule p s rule)
  below-after p s rule below = kept_below p s rule (rule_fault p s rule) refl below

-- there are as many subjects and documents as before
pub record AsMany (old new : SecurityPolicy) : Type 0 where
  pub subjects : length new.subjects ≡ length old.subjects
  pub documents : length new.documents ≡ length old.documents

pub as_many-makes : (p : SecurityPolicy) (s : ℕ) (rule : Rule) → AsMany p (rule_makes p s rule)
as_many-makes p s (Give t o m) = record { subjects = refl; documents = refl }
as_many-makes p s (Rescind t o m) = record { subjects = refl; documents = refl }
as_many-makes p s (Current level) = record { subjects = length-set p.subjects s (record (clearance_of p s) { current = level }); documents = refl }
as_many-makes p s (Classify o level) = record { subjects = refl; documents = length-set p.documents o level }
as_many-makes p s (Create o) = record { subjects = refl; documents = refl }
as_many-makes p s (Delete o) = record { subjects = refl; documents = refl }

as_many-unless : (p : SecurityPolicy) (s : ℕ) (rule : Rule) (x : Option Denial) → AsMany p (unless_failed x (rule_makes p s rule) p)
as_many-unless p s rule None = as_many-makes p s rule
as_many-unless p s rule (Some denial) = record { subjects = refl; documents = refl }

pub as_many-after : (p : SecurityPolicy) (s : ℕ) (rule : Rule) → AsMany p (after_rule p s rule)
as_many-after p s rule = as_many-unless p s rule (rule_fault p s rule)

-- ---- what a rule leaves as it was

left_as_was : {X : Type 0} (P : SecurityPolicy → X) (p : SecurityPolicy) (s : ℕ) (rule : Rule) (x : Option Denial) → P (rule_makes p s rule) ≡ P p → P (unless_failed x (rule_makes p s rule) p) ≡ P p
left_as_was P p s rule None e = e
left_as_was P p s rule (Some denial) e = refl

-- of a subject: all but its current level
pub record SameRights (old new : Clearance) : Type 0 where
  pub greatest : new.greatest ≡ old.greatest
  pub trusted : new.trusted ≡ old.trusted
  pub admin : new.admin ≡ old.admin

same_rights : (c : Clearance) → SameRights c c
same_rights c = record { greatest = refl; trusted = refl; admin = refl }

same_rights-moved : (cs : List Clearance) (s u : ℕ) (level : SecurityLevel) → (u ≡ s) ⊎ (u ≢ s) → (s < length cs) ⊎ (length cs ≤ s)
    → SameRights (get_or cs u nobody) (get_or (set cs s (record (get_or cs s nobody) { current = level })) u nobody)
same_rights-moved cs s u level (inr apart) room =
    subst (λ (c : Clearance). SameRights (get_or cs u nobody) c) (sym (get_or-set_other cs s u (record (get_or cs s nobody) { current = level }) nobody apart)) (same_rights (get_or cs u nobody))
same_rights-moved cs s u level (inl at) (inl within) =
    let reads : get_or (set cs s (record (get_or cs s nobody) { current = level })) u nobody ≡ record (get_or cs u nobody) { current = level } =
    ap (λ k. get_or (set cs s (record (get_or cs s nobody) { current = level })) k nobody) at
    ∙ get_or-set_same cs s (record (get_or cs s nobody) { current = level }) nobody within
    ∙ ap (λ k. record (get_or cs k nobody) { current = level }) (sym at) in
    record { greatest = ap (λ (c : Clearance). c.greatest) reads; trusted = ap (λ (c : Clearance). c.trusted) reads; admin = ap (λ (c : Clearance). c.admin) reads }
same_rights-moved cs s u level (inl at) (inr past) =
    let none : get_or (set cs s (record (get_or cs s nobody) { current = level })) u nobody ≡ get_or cs u nobody =
    get_or_past (set cs s (record (get_or cs s nobody) { current = level })) u nobody (omega (arith, at, past, length-set cs s (record (get_or cs s nobody) { current = level })))
    ∙ sym (get_or_past cs u nobody (omega (arith, at, past))) in
    subst (λ (c : Clearance). SameRights (get_or cs u nobody) c) (sym none) (same_rights (get_or cs u nobody))

same_rights-makes : (p : SecurityPolicy) (s u : ℕ) (rule : Rule) → SameRights (clearance_of p u) (clearance_of (rule_makes p s rule) u)
same_rights-makes p s u (Give t o m) = same_rights (clearance_of p u)
same_rights-makes p s u (Rescind t o m) = same_rights (clearance_of p u)
same_rights-makes p s u (Current level) = same_rights-moved p.subjects s u level (cases_eq u s) (cases_lt s (length p.subjects))
same_rights-makes p s u (Classify o level) = same_rights (clearance_of p u)
same_rights-makes p s u (Create o) = same_rights (clearance_of p u)
same_rights-makes p s u (Delete o) = same_rights (clearance_of p u)

-- no rule changes a greatest level, who is trusted or who is an administrator
pub same_rights-after : (p : SecurityPolicy) (s u : ℕ) (rule : Rule) → SameRights (clearance_of p u) (clearance_of (after_rule p s rule) u)
same_rights-after p s u rule =
    let rights = same_rights-makes p s u rule in
    let x = rule_fault p s rule in
    record {
      greatest = left_as_was (λ q. greatest_of q u) p s rule x rights.greatest;
      trusted = left_as_was (λ q. is_trusted q u) p s rule x rights.trusted;
      admin = left_as_was (λ q. is_admin q u) p s rule x rights.admin;
    }

-- ---- rules that bring no news

in_already : (m : Matrix) (u t : Triple) (b : Bool) → same_triple t u ≡ b → IsTrue (is_in m u) → is_in (put_in m u) t ≡ is_in m t
in_already m u t true is has = is_in-put_in m u t ∙ ap (λ b. b || is_in m t) is ∙ sym (ap (λ v. is_in m v) (one-of_same t u is) ∙ has)
in_already m u t false is has = is_in-put_in m u t ∙ ap (λ b. b || is_in m t) is

-- to put in a triple that is there changes nothing
pub put_in-there : (m : Matrix) (u : Triple) → IsTrue (is_in m u) → put_in m u ≡ m
put_in-there m u has = same_members_set (put_in m u) m (λ t. in_already m u t (same_triple t u) refl has)

out_already : (m : Matrix) (u t : Triple) (b : Bool) → same_triple u t ≡ b → ¬ IsTrue (is_in m u) → is_in (take_out m u) t ≡ is_in m t
out_already m u t true is lacks =
    is_in-take_out m u t ∙ ap (λ b. not b && is_in m t) is ∙ sym (ap (λ v. is_in m v) (sym (one-of_same u t is)) ∙ false-of_not (is_in m u) lacks)
out_already m u t false is lacks = is_in-take_out m u t ∙ ap (λ b. not b && is_in m t) is

-- to take out a triple that is not there changes nothing
pub take_out-absent : (m : Matrix) (u : Triple) → ¬ IsTrue (is_in m u) → take_out m u ≡ m
take_out-absent m u lacks = same_members_set (take_out m u) m (λ t. out_already m u t (same_triple u t) refl lacks)
