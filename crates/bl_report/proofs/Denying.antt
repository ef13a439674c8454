-- What is blamed for a denial is to blame.
use Rattle.std.proofs.Common.{◌≡◌, ℕ, zero, suc, ◌<◌, cond, List, [], ◌∷◌, refl, sym, ◌∙◌, ap, subst, arith, Option, Some, None}
use Rattle.std.specs.Prelude.{◌↔◌, is_some, option_map, option_to_list, slice_get}
use Rattle.bl_level.specs.Level.{SecurityLevel}
use Rattle.bl_policy.specs.declared.access.Access.{Access}
use Rattle.bl_policy.specs.declared.denial.Clause.{Clause}
use Rattle.bl_policy.specs.declared.denial.Denial.{Denial}
use Rattle.bl_policy.specs.declared.rule.Rule.{Rule}
use Rattle.bl_policy.specs.FirstFault.{FailsFirst, fault_of, fault_or, first_fault}
use Rattle.bl_policy.specs.Policy.{SecurityPolicy}
use Rattle.bl_policy.specs.Properties.{IsGranted}
use Rattle.bl_policy.specs.RuleEffect.{IsRuleFault, rule_fault}
use Rattle.bl_work.specs.declared.answer.Answer.TheVariants.{Denied}
use Rattle.bl_order.specs.Machine.{State, Starts, past_at}
use Rattle.bl_order.specs.Now.{policy_now}
use Rattle.bl_order.specs.Order.{Task, Runs, Applies, accesses_of}
use Rattle.bl_explain.specs.Run.{IsOfItsMoment}
use Rattle.bl_explain.specs.Tests.{fails_first, in_order, refused, tests_of}
use Rattle.bl_report.specs.Denials.{IsBlamed}
use Rattle.bl_explain.specs.RuleTests.{rule_grounds_of}
use Rattle.bl_report.specs.Items.{blame_of, first_at_fault, item_of, items_at, judged_of, starting}
use Rattle.bl_report.specs.declared.item.Blame.{Blame}
use Rattle.bl_report.specs.declared.item.Happening.TheVariants as happening
use Rattle.bl_report.specs.declared.item.Blame.TheVariants.{OfAccess, OfRule}

-- the laws that are needed
pub record DenialLaws : Type 0 where
  pub denial : (p : SecurityPolicy) (s : ℕ) (carried : SecurityLevel) (access : Access)
      → fault_of p s carried access ≡ refused s access (fails_first (in_order (tests_of p s carried access)))
  pub granted : (p : SecurityPolicy) (s : ℕ) (carried : SecurityLevel) (access : Access)
      → (fails_first (in_order (tests_of p s carried access)) ≡ None) ↔ IsGranted p s carried access.doc access.mode
  pub fails : (p : SecurityPolicy) (s : ℕ) (carried : SecurityLevel) (access : Access) (clause : Clause)
      → fails_first (in_order (tests_of p s carried access)) ≡ Some clause → FailsFirst clause p s carried access.doc access.mode

module _ (laws : DenialLaws) (p : SecurityPolicy) (s : ℕ) (carried : SecurityLevel) where
  granted-of : (access : Access) → fault_of p s carried access ≡ None → IsGranted p s carried access.doc access.mode
  granted-of access none = (laws.granted p s carried access).0 (by (fails_first (in_order (tests_of p s carried access))) (sym (laws.denial p s carried access) ∙ none))
    where
      by : (o : Option Clause) → refused s access o ≡ None → o ≡ None
      by None h = refl
      by (Some c) h = absurd (cc)

  -- what the denial of an access says
  record Says (access : Access) (denial : Denial) : Type 0 where
    fails : FailsFirst denial.clause p s carried access.doc access.mode
    object : denial.object ≡ Some access.doc

  says-of : (access : Access) (denial : Denial) → fault_of p s carried access ≡ Some denial → Says access denial
  says-of access denial is =
      by (fails_first (in_order (tests_of p s carried access))) refl (sym (laws.denial p s carried access) ∙ is)
    where
      by : (o : Option Clause) → fails_first (in_order (tests_of p s carried access)) ≡ o → refused s access o ≡ Some denial → Says access denial
      by None e h = absurd (cc)
      by (Some c) e h =
          let same : (let d : Denial = record { clause = c; subject = s; object = Some access.doc } in d) ≡ denial = cc in
          record {
            fails = subst (λ (d : Denial). FailsFirst d.clause p s carried access.doc access.mode) same (laws.fails p s carried access c e);
            object = sym (ap (λ (d : Denial). d.object) same);
          }

  -- the first access that is not granted
  record Finds (accesses : List Access) (denial : Denial) : Type 0 where
    place : ℕ
    access : Access
    is : first_at_fault p s carried accesses ≡ Some access
    at : slice_get accesses place ≡ Some access
    before : (k : ℕ) (earlier : Access) → k < place → slice_get accesses k ≡ Some earlier → IsGranted p s carried earlier.doc earlier.mode
    says : Says access denial

  finds : (accesses : List Access) (denial : Denial) → first_fault p s carried accesses ≡ Some denial → Finds accesses denial
  finds [] denial h = absurd (cc)
  finds (access ∷ rest) denial h = by (fault_of p s carried access) refl h (finds rest denial)
    where
      by : (o : Option Denial) → fault_of p s carried access ≡ o → fault_or o (first_fault p s carried rest) ≡ Some denial
          → (first_fault p s carried rest ≡ Some denial → Finds rest denial) → Finds (access ∷ rest) denial
      by (Some d) e g behind = record {
        place = 0;
        access = access;
        is = ap (λ o. cond (is_some o) (Some access) (first_at_fault p s carried rest)) e;
        at = refl;
        before = λ k earlier lt got. absurd (omega (arith, lt));
        says = says-of access denial (e ∙ g);
      }
      by None e g behind =
          let f = behind g in
          record {
            place = suc f.place;
            access = f.access;
            is = ap (λ o. cond (is_some o) (Some access) (first_at_fault p s carried rest)) e ∙ f.is;
            at = f.at;
            before = earlier-granted f;
            says = f.says;
          }
        where
          earlier-granted : (f : Finds rest denial) → (k : ℕ) (earlier : Access) → k < suc f.place → slice_get (access ∷ rest) k ≡ Some earlier
              → IsGranted p s carried earlier.doc earlier.mode
          earlier-granted f zero earlier lt got =
              let same : access ≡ earlier = cc in subst (λ (a : Access). IsGranted p s carried a.doc a.mode) same (granted-of access e)
          earlier-granted f (suc k) earlier lt got = f.before k earlier (omega (arith, lt)) got

module _ (laws : DenialLaws) (some : (p : SecurityPolicy) (s : ℕ) (rule : Rule) (denial : Denial) → rule_fault p s rule ≡ Some denial → IsRuleFault p s rule denial)
    (until : ℕ → Option ℕ) (since : ℕ → Access → Option ℕ) (x : State) (number n : ℕ) (denial : Denial) (moment : IsOfItsMoment x n)
    (denied : (past_at x n).answer ≡ Denied denial) where
  -- what is told, where something is to blame
  told-item : (blame : Blame) → blame_of (policy_now x) (past_at x n).subject (past_at x n).carried (since (past_at x n).subject) (past_at x n).task ≡ Some blame
      → items_at until since x number (Starts n)
      ≡ record { event = number; subject = (past_at x n).subject; happening = happening.Denied n denial.clause blame } ∷ []
  told-item blame is =
      ap (λ a. starting until since x number n (past_at x n) a (past_at x n).task) denied
      ∙ ap (λ o. option_to_list (option_map (λ (b : Blame). item_of until since x number (past_at x n).subject (happening.Denied n denial.clause b)) o)) is

  by-task : (t : Task) → (past_at x n).task ≡ t → IsBlamed until since x number n denial
  by-task (Runs script index) is =
      let p = policy_now x in
      let s = (past_at x n).subject in
      let carried = (past_at x n).carried in
      let f = finds laws p s carried (accesses_of (Runs script index)) denial (moment.behaviour script index denial is denied) in
      record {
        blame = OfAccess (judged_of p s carried (since s) f.access);
        item = told-item (OfAccess (judged_of p s carried (since s) f.access))
            (ap (blame_of p s carried (since s)) is ∙ ap (λ o. option_map (λ access. OfAccess (judged_of p s carried (since s) access)) o) f.is);
        to_blame = record {
          place = f.place;
          at = ap (λ t. slice_get (accesses_of t) f.place) is ∙ f.at;
          granted_before = λ k earlier lt got. f.before k earlier lt (ap (λ t. slice_get (accesses_of t) k) (sym is) ∙ got);
          fails = f.says.fails;
          object = f.says.object;
          grounds = refl;
        };
      }
  by-task (Applies rule) is =
      let p = policy_now x in
      let s = (past_at x n).subject in
      let fault = some p s rule denial (moment.rule rule denial is denied) in
      record {
        blame = OfRule rule (rule_grounds_of p s rule);
        item = told-item (OfRule rule (rule_grounds_of p s rule)) (ap (blame_of p s (past_at x n).carried (since s)) is);
        to_blame = (fault.fails, refl);
      }

  pub blamed : IsBlamed until since x number n denial
  blamed = by-task (past_at x n).task refl
