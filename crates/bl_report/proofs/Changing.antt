-- What no item tells to be changed stays as it was.
use Rattle.std.proofs.Common.{◌≡◌, ℕ, Bool, true, false, cond, ◌&&◌, ◌||◌, List, [], ◌∷◌, ◌++◌, length, refl, sym, ◌∙◌, ap, true≢false, Option, Some, None}
use Rattle.std.specs.Prelude.{◌==◌}
use Rattle.std.specs.List.{list_any}
use Rattle.bl_policy.specs.declared.access.Access.{Access}
use Rattle.bl_policy.specs.declared.denial.Denial.{Denial}
use Rattle.bl_policy.specs.Policy.{SecurityPolicy}
use Rattle.bl_work.specs.Effects.{Effect, after}
use Rattle.bl_work.specs.Modes.{alters}
use Rattle.bl_work.specs.declared.answer.Answer.{Answer}
use Rattle.bl_work.specs.declared.answer.Answer.TheVariants as answer
use Rattle.bl_order.specs.Headline.{IsReached, MovesOn}
use Rattle.bl_order.specs.TheHeadline.{IsTheHeadline}
use Rattle.bl_order.specs.Machine.{State, Event, Opens, Admits, Starts, Ends, Loses, MayStart, Needs, change, children_at, past_at}
use Rattle.bl_order.specs.Now.{content_now, policy_now}
use Rattle.bl_order.specs.Order.{Task, Runs, Applies, accesses_of, is_rule}
use Rattle.bl_order.specs.Past.{Past, answer_of, changed, deletes, has_deleted, is_done, is_rule_done, may_alter}
use Rattle.bl_order.proofs.Present.{rule_never_runs}
use Rattle.bl_order.proofs.Reached.{sound-reached}
use Rattle.bl_order.proofs.Trails.{within}
use Rattle.bl_report.specs.Items.{altering, entering, item_of, items_at, starting}
use Rattle.bl_report.specs.Whole.{is_change, is_touch, tells}
use Rattle.bl_report.specs.declared.item.Happening.{Happening}
use Rattle.bl_report.specs.declared.item.Happening.TheVariants.{Done}
use Rattle.bl_report.specs.declared.item.ReportItem.{ReportItem}

-- a place that is done, and no rule, leaves the policy
done-keeps : (lost : Bool) (fault : Option Denial) (task : Task) (effects : List Effect) (subject : ℕ) (p : SecurityPolicy)
    → is_done (answer_of lost fault task effects) ≡ true → changed (answer_of lost fault task effects) task subject p ≡ p
done-keeps lost fault (Runs script index) effects subject p d = refl
done-keeps true fault (Applies rule) effects subject p d = refl
done-keeps false (Some denial) (Applies rule) effects subject p d = absurd (true≢false (sym d))
done-keeps false None (Applies rule) effects subject p d = absurd (true≢false (sym d))

-- and so does one that is lost
lost-keeps : (task : Task) (subject : ℕ) (p : SecurityPolicy) → changed answer.Lost task subject p ≡ p
lost-keeps (Runs script index) subject p = refl
lost-keeps (Applies rule) subject p = refl

-- what is done as a rule is one
pub done-rule : (lost : Bool) (fault : Option Denial) (task : Task) (effects : List Effect) → is_rule_done (answer_of lost fault task effects) ≡ true → is_rule task ≡ true
done-rule true fault task effects d = absurd (true≢false (sym d))
done-rule false (Some denial) task effects d = absurd (true≢false (sym d))
done-rule false None (Runs script index) effects d = absurd (true≢false (sym d))
done-rule false None (Applies rule) effects d = refl

or-first : (a b : Bool) → (a || b) ≡ false → a ≡ false
or-first true b h = absurd (true≢false h)
or-first false b h = refl

or-second : (a b : Bool) → (a || b) ≡ false → b ≡ false
or-second true b h = absurd (true≢false h)
or-second false b h = h

and-false : (b : Bool) → (b && false) ≡ false
and-false true = refl
and-false false = refl

-- an item that may stand before others
choice : (test : Happening → Bool) (b same : Bool) (item : ReportItem) (l rest : List ReportItem) → test item.happening ≡ same
    → tells test ((cond b (item ∷ []) [] ++ l) ++ rest) ≡ false → ((same && b) ≡ false) × (tells test (l ++ rest) ≡ false)
choice test true same item l rest is h = (ap (λ b. b && true) (sym is ∙ or-first _ _ h), or-second _ _ h)
choice test false same item l rest is h = (and-false same, h)

module _ (until : ℕ → Option ℕ) (since : ℕ → Access → Option ℕ) (x : State) (number : ℕ) where
  -- what is told of an end behind what it altered
  abbrev behind : ℕ → List ReportItem
  behind n = item_of until since x number (past_at x n).subject (Done n) ∷ entering until since x number (past_at x n).subject (length x.order) (children_at x n)

  started : (n : ℕ) → IsTheHeadline x → MovesOn x → MayStart x n → (a : Answer) → (past_at x n).answer ≡ a → (t : Task) → (past_at x n).task ≡ t
      → tells is_change (starting until since x number n (past_at x n) a t) ≡ false → policy_now (change x (Starts n)) ≡ policy_now x
  started n line m may (answer.Done shown) e t et h = m.start_policy n may ∙ done-keeps _ _ _ _ _ _ (ap is_done e)
  started n line m may answer.RuleDone e (Runs script index) et h =
      m.start_policy n may ∙ ap (λ t. changed (past_at x n).answer t (past_at x n).subject (policy_now x)) et
  started n line m may answer.RuleDone e (Applies rule) et h = absurd (true≢false h)
  started n line m may (answer.Denied denial) e t et h = (line.denied_idle n denial may e).policy
  started n line m may answer.Lost e t et h =
      m.start_policy n may ∙ ap (λ a. changed a (past_at x n).task (past_at x n).subject (policy_now x)) e ∙ lost-keeps _ _ _

  pub policy-kept : (e : Event) → IsTheHeadline x → MovesOn x → Needs x e → tells is_change (items_at until since x number e) ≡ false
      → policy_now (change x e) ≡ policy_now x
  policy-kept (Opens s) line m needs h = m.opening_policy s needs
  policy-kept (Admits i o w) line m needs h = m.line_policy i o w needs
  policy-kept (Starts n) line m may h = started n line m may (past_at x n).answer refl (past_at x n).task refl h
  policy-kept (Ends n) line m running h = m.end_policy n running
  policy-kept (Loses n) line m needs h = m.loss_policy n needs

  module _ (doc : ℕ) where
    -- a start that tells no touch deletes nothing
    none-deleted : (n : ℕ) (a : Answer) → (past_at x n).answer ≡ a → (t : Task) → (past_at x n).task ≡ t
        → tells (is_touch doc) (starting until since x number n (past_at x n) a t) ≡ false → has_deleted (past_at x n) doc ≡ false
    none-deleted n (answer.Done shown) e t et h = ap (λ a. is_rule_done a && may_alter (past_at x n).task doc) e
    none-deleted n answer.RuleDone e (Runs script index) et h =
        absurd (true≢false (sym (done-rule _ _ _ _ (ap is_rule_done e)) ∙ ap is_rule et))
    none-deleted n answer.RuleDone e (Applies rule) et h =
        ap (λ a. is_rule_done a && may_alter (past_at x n).task doc) e ∙ ap (λ t. may_alter t doc) et ∙ or-first (deletes rule doc) false h
    none-deleted n (answer.Denied denial) e t et h = ap (λ a. is_rule_done a && may_alter (past_at x n).task doc) e
    none-deleted n answer.Lost e t et h = ap (λ a. is_rule_done a && may_alter (past_at x n).task doc) e

    none-altered : (n : ℕ) (past : Past) (accesses : List Access) (rest : List ReportItem)
        → tells (is_touch doc) (altering until since x number n past accesses ++ rest) ≡ false
        → list_any (λ (a : Access). (a.doc == doc) && alters a.mode) accesses ≡ false
    none-altered n past [] rest h = refl
    none-altered n past (access ∷ more) rest h =
        let two = choice (is_touch doc) (alters access.mode) (access.doc == doc) _ (altering until since x number n past more) rest refl h in
        ap (λ b. b || list_any (λ (a : Access). (a.doc == doc) && alters a.mode) more) two.0 ∙ none-altered n past more rest two.1

    pub content-kept : (e : Event) → IsReached x → MovesOn x → Needs x e → tells (is_touch doc) (items_at until since x number e) ≡ false
        → content_now (change x e) doc ≡ content_now x doc
    content-kept (Opens s) reached m needs h = m.opening_content s doc needs
    content-kept (Admits i o w) reached m needs h = m.line_content i o w doc needs
    content-kept (Starts n) reached m may h =
        m.start_content n doc may ∙ ap (λ b. cond b [] (content_now x doc)) (none-deleted n (past_at x n).answer refl (past_at x n).task refl h)
    content-kept (Ends n) reached m running h =
        m.end_content n doc running ∙ ap (λ b. cond b (after (content_now x doc) (past_at x n).effects doc) (content_now x doc)) (unaltered (past_at x n).task refl)
      where
        unaltered : (t : Task) → (past_at x n).task ≡ t → may_alter (past_at x n).task doc ≡ false
        unaltered (Runs script index) is =
            ap (λ t. may_alter t doc) is
            ∙ none-altered n (past_at x n) (accesses_of (Runs script index)) (behind n)
            (ap (λ t. tells (is_touch doc) (altering until since x number n (past_at x n) (accesses_of t) ++ behind n)) (sym is) ∙ h)
        unaltered (Applies rule) is =
            absurd (true≢false (sym ((sound-reached x reached).allowed n (within x (sound-reached x reached) n running) running) ∙ rule_never_runs x n (ap is_rule is)))
    content-kept (Loses n) reached m needs h = m.loss_content n doc needs
