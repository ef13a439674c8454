-- What a start that is done tells was granted.
use Rattle.std.proofs.Common.{◌≡◌, ℕ, Bool, true, false, cond, refl, sym, ◌∙◌, ap, subst, true≢false, Option, List}
use Rattle.std.specs.Prelude.{All}
use Rattle.bl_policy.specs.declared.access.Access.{Access}
use Rattle.bl_policy.specs.Policy.{SecurityPolicy}
use Rattle.bl_policy.specs.Properties.{IsGranted}
use Rattle.bl_work.specs.declared.answer.Answer.TheVariants as answer
use Rattle.bl_order.specs.Headline.{Holds, IsReached}
use Rattle.bl_order.specs.Machine.{State, Starts, MayStart, past_at, runs}
use Rattle.bl_order.specs.Order.{accesses_of, is_rule}
use Rattle.bl_order.specs.Past.{is_done}
use Rattle.bl_order.specs.TheHeadline.{IsTheHeadline}
use Rattle.bl_order.proofs.Present.{rule_never_runs}
use Rattle.bl_order.proofs.Reached.{sound-reached}
use Rattle.bl_order.proofs.Steps.{equal_self}
use Rattle.bl_report.specs.Granted.{TellsGranted}
use Rattle.bl_report.specs.Items.{starting}
use Rattle.bl_report.proofs.Running.{one-step}

module _ (until : ℕ → Option ℕ) (since : ℕ → Access → Option ℕ) (x : State) (number n : ℕ) (reached : IsReached x) (line : IsTheHeadline x) (holds : Holds x)
    (may : MayStart x n) where
  no-rule : (b : Bool) → is_rule (past_at x n).task ≡ b → is_done (past_at x n).answer ≡ true → is_rule (past_at x n).task ≡ false
  no-rule true is done = absurd (true≢false (sym done ∙ rule_never_runs x n is))
  no-rule false is done = is

  pub granted-at : (shown : List (List ℕ)) → (past_at x n).answer ≡ answer.Done shown → TellsGranted until since x number n
  granted-at shown is =
      let done : is_done (past_at x n).answer ≡ true = ap is_done is in
      let runs-on = one-step x (Starts n) (sound-reached x reached) may n
      ∙ ap (λ b. cond b (is_done (past_at x n).answer) (runs x n)) (equal_self n) ∙ done in
      let allowed = (line.runs_where_allowed n may (no-rule (is_rule (past_at x n).task) refl done)).0 runs-on in
      record {
        items = ap (λ a. starting until since x number n (past_at x n) a (past_at x n).task) is;
        granted = subst (λ (p : SecurityPolicy). All (λ (a : Access). IsGranted p (past_at x n).subject (past_at x n).carried a.doc a.mode) (accesses_of (past_at x n).task))
            (sym (holds.at_ready n may)) allowed;
      }
