-- What the calls that only look read off the fields.
use Rattle.std.proofs.Common.{◌≡◌, ℕ, ◌<◌, ◌⊎◌, inl, inr, true, false, [], length, get_or, ap, sym, ◌∙◌, subst, arith, true≢false}
use Rattle.std.specs.Prelude.{◌==◌, All}
use Rattle.std.proofs.lemmas.Bool.Decides.{eqb_tells}
use Rattle.std.proofs.lemmas.List.{get_or_read}
use Rattle.std.proofs.lemmas.List.Elements.{All-get_or}
use Rattle.bl_policy.specs.RuleEffect.{IsRuleOf, HasIdsBelow}
use Rattle.bl_policy.specs.declared.access.Access.{Access}
use Rattle.bl_policy.specs.declared.rule.Rule.{Rule}
use Rattle.bl_policy.specs.declared.rule.Rule.TheVariants as rules
use Rattle.bl_work.specs.Statements.{Part, no_part}
use Rattle.bl_work.specs.declared.answer.Answer.{Answer}
use Rattle.bl_work.specs.declared.work.Work.{Work}
use Rattle.bl_work.specs.declared.work.Work.TheVariants as works
use Rattle.bl_setup.specs.Setup.{Setup}
use Rattle.bl_order.specs.Known.{KnowsWork}
use Rattle.bl_order.specs.Order.{Applies, accesses_of}
use Rattle.bl_order.specs.Past.{first_task, child_task, deletes}
use Rattle.bl_order.specs.Machine.{MayStart, past_at}
use Rattle.bl_order.specs.Now.{IsFirstToAlter, content_at}
use Rattle.bl_order.proofs.HeadlineProof.{holds-reached}
use Rattle.bl_place.specs.Places.{no_place, place_in, work_in, task_in, HasBehaviour}
use Rattle.bl_place.specs.Shelves.{new_shelf}
use Rattle.bl_core.specs.View.{state_of}
use Rattle.bl_core.specs.Keeps.{Keeps, IsAway}
use Rattle.bl_place.specs.declared.place.Place.{Place}
use Rattle.bl_place.specs.declared.place.Stand.TheVariants.{Ended}
use Rattle.bl_place.specs.declared.shelf.Shelf.{Shelf}
use Rattle.bl_core.specs.declared.machine.Core.TheInside.{Inside}
use Rattle.bl_core.proofs.Views.{length-order}

-- what a task of a known work declares is in the setup
pub accesses-known : (setup : Setup) (w : Work) (i : ℕ) → KnowsWork setup w → HasBehaviour w i
    → All (λ (a : Access). a.doc < length setup.policy.documents) (accesses_of (child_task (first_task w) i))
accesses-known setup (works.Behaviour script) i knows lt =
    All-get_or (λ (part : Part). All (λ (a : Access). a.doc < length setup.policy.documents) part.accesses) script i no_part lt knows
accesses-known setup (works.Rule rule) i knows lt = λ j d l. absurd (omega (arith, l))

-- the document that a rule deletes is one that it names
deleted_below : (subjects documents : ℕ) (rule : Rule) (doc : ℕ) → HasIdsBelow subjects documents rule → deletes rule doc ≡ true → doc < documents
deleted_below subjects documents (rules.Give s o m) doc ids del = absurd (true≢false (sym del))
deleted_below subjects documents (rules.Rescind s o m) doc ids del = absurd (true≢false (sym del))
deleted_below subjects documents (rules.Current level) doc ids del = absurd (true≢false (sym del))
deleted_below subjects documents (rules.Classify o level) doc ids del = absurd (true≢false (sym del))
deleted_below subjects documents (rules.Create o) doc ids del = absurd (true≢false (sym del))
deleted_below subjects documents (rules.Delete o) doc ids del = go (eqb_tells o doc)
  where
    go : (((o == doc) ≡ true) × (o ≡ doc)) ⊎ (((o == doc) ≡ false) × (o ≡ doc → ⊥)) → doc < documents
    go (inl q) = subst (λ (j : ℕ). j < documents) q.1 ids
    go (inr q) = absurd (true≢false (sym del ∙ q.0))

module _ (c : Inside) (k : Keeps c) where
  -- there are as many shelves as documents
  pub shelves-documents : length c.setup.policy.documents ≡ length c.shelves.items
  shelves-documents = sym k.agree.documents ∙ k.agree.contents ∙ sym k.as_many

  -- a place declares documents that have shelves
  pub shelves-declared : (n : ℕ) → n < length c.places.items → All (λ (a : Access). a.doc < length c.shelves.items) (accesses_of (task_in c.places.items n))
  shelves-declared n lt =
      subst (λ (m : ℕ). All (λ (a : Access). a.doc < m) (accesses_of (task_in c.places.items n))) shelves-documents
      (accesses-known c.setup (work_in c.places.items n) (place_in c.places.items n).index (k.told n lt).knows (k.told n lt).behaviour)

  pub policy-declared : (n : ℕ) → n < length c.places.items → All (λ (a : Access). a.doc < length c.policy.documents) (accesses_of (task_in c.places.items n))
  policy-declared n lt =
      subst (λ (m : ℕ). All (λ (a : Access). a.doc < m) (accesses_of (task_in c.places.items n))) (sym k.documents)
      (accesses-known c.setup (work_in c.places.items n) (place_in c.places.items n).index (k.told n lt).knows (k.told n lt).behaviour)

  pub start_there : (n : ℕ) → MayStart (state_of c) n → n < length c.places.items
  start_there n may = subst (λ (m : ℕ). n < m) (length-order c) may.there

  -- the answer that is kept is the place's
  pub answer-at : (n : ℕ) (s : Place) (a : Answer) → n < length c.places.items → s ≡ get_or c.places.items n s → s.stand ≡ Ended a → (past_at (state_of c) n).answer ≡ a
  answer-at n s a lt at is = (k.told n lt).answer a (ap (λ (x : Place). x.stand) (sym (get_or_read c.places.items n s lt at no_place)) ∙ is)

  -- a place's rule is in the policy
  pub rule-of : (n : ℕ) (rule : Rule) → n < length c.places.items → (past_at (state_of c) n).task ≡ Applies rule → IsRuleOf c.policy rule
  rule-of n rule lt is =
      subst (λ (s : ℕ). HasIdsBelow s (length c.policy.documents) rule) (sym k.subjects)
      (subst (λ (o : ℕ). HasIdsBelow (length c.setup.policy.subjects) o rule) (sym k.documents)
      (go (work_in c.places.items n) (place_in c.places.items n).index (k.told n lt).knows (sym (k.told n lt).task ∙ is)))
    where
      same_rule : (r s : Rule) → Applies r ≡ Applies s → r ≡ s
      same_rule r s e = cc

      go : (w : Work) (i : ℕ) → KnowsWork c.setup w → child_task (first_task w) i ≡ Applies rule → IsRuleOf c.setup.policy rule
      go (works.Behaviour script) i knows e = absurd (cc)
      go (works.Rule r) i knows e = subst (IsRuleOf c.setup.policy) (same_rule r rule e) knows

  -- the document that a rule deletes has a shelf
  pub shelves-deleted : (n : ℕ) (rule : Rule) → n < length c.places.items → (past_at (state_of c) n).task ≡ Applies rule → (doc : ℕ) → deletes rule doc ≡ true
      → doc < length c.shelves.items
  shelves-deleted n rule lt is doc del =
      let below : doc < length c.policy.documents = deleted_below (length c.policy.subjects) (length c.policy.documents) rule doc (rule-of n rule lt is) del in
      omega (arith, below, k.documents, shelves-documents)

  -- a shelf has the content at the first place that is still to alter its document
  pub content-first : (place doc n : ℕ) (s : Shelf) → place ≡ doc → doc < length c.setup.contents → s ≡ get_or c.shelves.items place s → IsFirstToAlter (state_of c) doc n
      → s.content ≡ content_at (state_of c) doc n
  content-first place doc n s is lt at first =
      let here : doc < length c.shelves.items = omega (arith, lt, k.as_many) in
      ap (λ (v : Shelf). v.content) (get_or_read c.shelves.items place s (omega (arith, here, is)) at (new_shelf []))
      ∙ ap (λ (j : ℕ). (get_or c.shelves.items j (new_shelf [])).content) is
      ∙ k.shelved.contents doc here
      ∙ (holds-reached (state_of c) k.reached).content_at_first doc n first

  -- a shelf whose content is lent is away
  pub away-at : (place doc : ℕ) (s : Shelf) → place ≡ doc → doc < length c.setup.contents → s ≡ get_or c.shelves.items place s → s.lent ≡ true → IsAway (state_of c) doc
  away-at place doc s is lt at lent =
      let here : doc < length c.shelves.items = omega (arith, lt, k.as_many) in
      k.shelved.away doc here
      (ap (λ (j : ℕ). (get_or c.shelves.items j (new_shelf [])).lent) (sym is)
      ∙ ap (λ (v : Shelf). v.lent) (sym (get_or_read c.shelves.items place s (omega (arith, here, is)) at (new_shelf [])))
      ∙ lent)
