-- What comes back when a place ends.
use Rattle.std.proofs.Common.{◌≡◌, ℕ, zero, suc, ◌<◌, ◌⊎◌, inl, inr, Bool, true, false, cond, ◌&&◌, ◌||◌, List, [], ◌∷◌, length, get_or, set, refl, ap, sym, ◌∙◌, subst, arith, length-set, get_or-set_same, get_or-set_other, true≢false}
use mathlib.Core.Path.{fun_ext}
use Rattle.std.specs.Prelude.{map, ◌==◌, All, Option, Some, None}
use Rattle.std.proofs.lemmas.Bool.Decides.{eqb_tells}
use Rattle.bl_policy.specs.Mode.{is_exclusive}
use Rattle.bl_level.specs.Level.{SecurityLevel}
use Rattle.bl_policy.specs.Policy.{SecurityPolicy}
use Rattle.bl_policy.specs.declared.access.Access.{Access}
use Rattle.bl_policy.specs.declared.denial.Denial.{Denial}
use Rattle.bl_work.specs.Statements.{Part, no_part}
use Rattle.bl_work.specs.Effects.{Effect, after, effects_of, outputs}
use Rattle.bl_work.specs.declared.answer.Answer.TheVariants as answers
use Rattle.bl_grant.specs.Loaned.{Back, back_of}
use Rattle.bl_grant.specs.Loans.{loans}
use Rattle.bl_order.specs.Order.{Task, Runs, is_altered, is_declared}
use Rattle.bl_order.specs.Past.{is_done, judged, answer_of, fault_of_task, only_if_done, deeds, lent}
use Rattle.bl_order.specs.Machine.{State, past_at, is_lost}
use Rattle.bl_order.specs.Now.{content_at, policy_at}
use Rattle.bl_eval.specs.Loan.{backs, input_at, effects_on}
use Rattle.bl_core.specs.Answers.{loan_of, loan_at}
use Rattle.bl_place.specs.Shelves.{new_shelf, shelf_in, put_one, put_back}
use Rattle.bl_place.specs.declared.shelf.Shelf.{Shelf}

-- ---- the shelves

length-put_one : (h : List Shelf) (b : Back) → length (put_one h b) ≡ length h
length-put_one h b = go (is_exclusive b.access.mode)
  where
    go : (e : Bool) → length (cond e (set h b.access.doc (new_shelf b.content)) h) ≡ length h
    go true = length-set h b.access.doc (new_shelf b.content)
    go false = refl

pub length-put_back : (h : List Shelf) (bs : List Back) → length (put_back h bs) ≡ length h
length-put_back h [] = refl
length-put_back h (b ∷ bs) = length-put_one (put_back h bs) b ∙ length-put_back h bs

-- a shelf after one content came back
put_one-read : (h : List Shelf) (b : Back) (o : ℕ) → o < length h
    → shelf_in (put_one h b) o ≡ cond ((b.access.doc == o) && is_exclusive b.access.mode) (new_shelf b.content) (shelf_in h o)
put_one-read h b o lt = go (is_exclusive b.access.mode) (eqb_tells b.access.doc o)
  where
    go : (e : Bool) → (((b.access.doc == o) ≡ true) × (b.access.doc ≡ o)) ⊎ (((b.access.doc == o) ≡ false) × (b.access.doc ≡ o → ⊥))
        → shelf_in (cond e (set h b.access.doc (new_shelf b.content)) h) o ≡ cond ((b.access.doc == o) && e) (new_shelf b.content) (shelf_in h o)
    go false (inl q) = ap (λ v. cond (v && false) (new_shelf b.content) (shelf_in h o)) (sym q.0)
    go false (inr q) = ap (λ v. cond (v && false) (new_shelf b.content) (shelf_in h o)) (sym q.0)
    go true (inl q) =
        ap (λ j. shelf_in (set h b.access.doc (new_shelf b.content)) j) (sym q.1)
        ∙ get_or-set_same h b.access.doc (new_shelf b.content) (new_shelf []) (subst (λ (j : ℕ). j < length h) (sym q.1) lt)
        ∙ ap (λ v. cond (v && true) (new_shelf b.content) (shelf_in h o)) (sym q.0)
    go true (inr q) =
        get_or-set_other h b.access.doc o (new_shelf b.content) (new_shelf []) (λ e. q.1 (sym e))
        ∙ ap (λ v. cond (v && true) (new_shelf b.content) (shelf_in h o)) (sym q.0)

-- the shelves after all came back: what was altered is after the effects, and at home
pub put_back-read : (h : List Shelf) (e : ℕ) (xs : List Access) (f : ℕ → List ℕ) (es : List Effect) (o : ℕ) → o < length h
    → shelf_in (put_back h (backs e xs (map (λ (a : Access). f a.doc) xs) es)) o ≡ cond (is_altered xs o) (new_shelf (after (f o) es o)) (shelf_in h o)
put_back-read h e [] f es o lt = refl
put_back-read h e (a ∷ xs) f es o lt =
    put_one-read (put_back h (backs e xs (map (λ (b : Access). f b.doc) xs) es)) (record { entry = e; access = a; content = after (f a.doc) es a.doc }) o
    (omega (arith, lt, length-put_back h (backs e xs (map (λ (b : Access). f b.doc) xs) es)))
    ∙ ap (λ (s : Shelf). cond ((a.doc == o) && is_exclusive a.mode) (new_shelf (after (f a.doc) es a.doc)) s) (put_back-read h e xs f es o lt)
    ∙ go (is_exclusive a.mode) (eqb_tells a.doc o)
  where
    go : (b : Bool) → (((a.doc == o) ≡ true) × (a.doc ≡ o)) ⊎ (((a.doc == o) ≡ false) × (a.doc ≡ o → ⊥))
        → cond ((a.doc == o) && b) (new_shelf (after (f a.doc) es a.doc)) (cond (is_altered xs o) (new_shelf (after (f o) es o)) (shelf_in h o))
        ≡ cond (((a.doc == o) && b) || is_altered xs o) (new_shelf (after (f o) es o)) (shelf_in h o)
    go true (inl q) =
        ap (λ v. cond (v && true) (new_shelf (after (f a.doc) es a.doc)) (cond (is_altered xs o) (new_shelf (after (f o) es o)) (shelf_in h o))) q.0
        ∙ ap (λ j. new_shelf (after (f j) es j)) q.1
        ∙ ap (λ v. cond ((v && true) || is_altered xs o) (new_shelf (after (f o) es o)) (shelf_in h o)) (sym q.0)
    go true (inr q) =
        ap (λ v. cond (v && true) (new_shelf (after (f a.doc) es a.doc)) (cond (is_altered xs o) (new_shelf (after (f o) es o)) (shelf_in h o))) q.0
        ∙ ap (λ v. cond ((v && true) || is_altered xs o) (new_shelf (after (f o) es o)) (shelf_in h o)) (sym q.0)
    go false (inl q) =
        ap (λ v. cond (v && false) (new_shelf (after (f a.doc) es a.doc)) (cond (is_altered xs o) (new_shelf (after (f o) es o)) (shelf_in h o))) q.0
        ∙ ap (λ v. cond ((v && false) || is_altered xs o) (new_shelf (after (f o) es o)) (shelf_in h o)) (sym q.0)
    go false (inr q) =
        ap (λ v. cond (v && false) (new_shelf (after (f a.doc) es a.doc)) (cond (is_altered xs o) (new_shelf (after (f o) es o)) (shelf_in h o))) q.0
        ∙ ap (λ v. cond ((v && false) || is_altered xs o) (new_shelf (after (f o) es o)) (shelf_in h o)) (sym q.0)

-- grants as they were lent give back what was lent
pub backs-unchanged : (e : ℕ) (xs : List Access) (cs : List (List ℕ)) → map back_of (loans e xs cs) ≡ backs e xs cs []
backs-unchanged e [] cs = refl
backs-unchanged e (a ∷ xs) [] = refl
backs-unchanged e (a ∷ xs) (c ∷ cs) = ap (λ l. (let b : Back = record { entry = e; access = a; content = c } in b) ∷ l) (backs-unchanged e xs cs)

-- what comes back is for the accesses that were declared
pub backs-all : (P : Access → Type 0) (e : ℕ) (xs : List Access) (cs : List (List ℕ)) (es : List Effect) → All P xs
    → (i : ℕ) (d : Back) → i < length (backs e xs cs es) → P (get_or (backs e xs cs es) i d).access
backs-all P e [] cs es all i d lt = absurd (omega arith)
backs-all P e (a ∷ xs) [] es all i d lt = absurd (omega arith)
backs-all P e (a ∷ xs) (c ∷ cs) es all zero d lt = all 0 a (omega arith)
backs-all P e (a ∷ xs) (c ∷ cs) es all (suc i) d lt = backs-all P e xs cs es (λ j b l. all (suc j) b (omega arith)) i d (omega arith)

-- ---- the effects

-- what is lent, by the list of inputs
input_at-map : (xs : List Access) (f : ℕ → List ℕ) (o : ℕ) → input_at xs (map (λ (a : Access). f a.doc) xs) o ≡ lent xs f o
input_at-map [] f o = refl
input_at-map (a ∷ xs) f o = go (eqb_tells a.doc o) (input_at-map xs f o)
  where
    go : (((a.doc == o) ≡ true) × (a.doc ≡ o)) ⊎ (((a.doc == o) ≡ false) × (a.doc ≡ o → ⊥)) → input_at xs (map (λ (b : Access). f b.doc) xs) o ≡ cond (is_declared xs o) (f o) []
        → cond (a.doc == o) (f a.doc) (input_at xs (map (λ (b : Access). f b.doc) xs) o) ≡ cond ((a.doc == o) || is_declared xs o) (f o) []
    go (inl q) rest =
        ap (λ v. cond v (f a.doc) (input_at xs (map (λ (b : Access). f b.doc) xs) o)) q.0 ∙ ap f q.1 ∙ ap (λ v. cond (v || is_declared xs o) (f o) []) (sym q.0)
    go (inr q) rest =
        ap (λ v. cond v (f a.doc) (input_at xs (map (λ (b : Access). f b.doc) xs) o)) q.0 ∙ rest ∙ ap (λ v. cond (v || is_declared xs o) (f o) []) (sym q.0)

-- the deeds of a behaviour are the effects on what it is lent
deeds-loan : (n : ℕ) (t : Task) (f : ℕ → List ℕ) (script : List Part) (index : ℕ) → t ≡ Runs script index → deeds t f ≡ effects_on (loan_of n t f)
deeds-loan n t f script index e =
    subst (λ (u : Task). deeds u f ≡ effects_on (loan_of n u f)) (sym e)
    (ap (λ (g : ℕ → List ℕ). effects_of g (get_or script index no_part).body) (fun_ext (λ o. sym (input_at-map (get_or script index no_part).accesses f o))))

-- a behaviour that is done is answered by its effects
done_by : (gone : Bool) (g : Option Denial) (s : List Part) (i : ℕ) (es : List Effect) → is_done (answer_of gone g (Runs s i) es) ≡ true
    → (answer_of gone g (Runs s i) es ≡ answers.Done (outputs es)) × (only_if_done (answer_of gone g (Runs s i) es) es ≡ es)
done_by true g s i es h = absurd (true≢false (sym h))
done_by false (Some d) s i es h = absurd (true≢false (sym h))
done_by false None s i es h = (refl, refl)

judged_by : (gone : Bool) (p : SecurityPolicy) (es : List Effect) (u : ℕ) (l : SecurityLevel) (t : Task) (s : List Part) (i : ℕ) → t ≡ Runs s i → is_done (judged gone p es u l t).answer ≡ true
    → ((judged gone p es u l t).answer ≡ answers.Done (outputs es)) × ((judged gone p es u l t).effects ≡ es)
judged_by gone p es u l t s i e =
    subst (λ (v : Task). is_done (judged gone p es u l v).answer ≡ true → ((judged gone p es u l v).answer ≡ answers.Done (outputs es)) × ((judged gone p es u l v).effects ≡ es)) (sym e)
    (done_by gone (fault_of_task p u l (Runs s i)) s i es)

-- a place that was done: its answer and effects are those of the behaviour on what it is lent
pub done-effects : (x : State) (n : ℕ) (s : List Part) (i : ℕ) → (past_at x n).task ≡ Runs s i → is_done (past_at x n).answer ≡ true
    → ((past_at x n).answer ≡ answers.Done (outputs (effects_on (loan_at x n)))) × ((past_at x n).effects ≡ effects_on (loan_at x n))
done-effects x n s i e h =
    let es : deeds (past_at x n).task (λ o. content_at x o n) ≡ effects_on (loan_at x n) = deeds-loan n (past_at x n).task (λ o. content_at x o n) s i e in
    let both : ((past_at x n).answer ≡ answers.Done (outputs (deeds (past_at x n).task (λ o. content_at x o n)))) × ((past_at x n).effects ≡ deeds (past_at x n).task (λ o. content_at x o n)) =
    judged_by (is_lost x n) (policy_at x n) (deeds (past_at x n).task (λ o. content_at x o n)) (past_at x n).subject (past_at x n).carried (past_at x n).task s i e h in
    (both.0 ∙ ap (λ l. answers.Done (outputs l)) es, both.1 ∙ es)
