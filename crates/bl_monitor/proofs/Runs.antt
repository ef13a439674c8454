-- How a run goes on by one statement, and by several.
use Rattle.std.proofs.Common.{◌≡◌, ℕ, zero, suc, ◌<◌, true, false, cond, List, [], ◌∷◌, ◌++◌, length, get_or, set, take, refl, add-one, ◌+◌, ◌≤◌, sym, ◌∙◌, ap, subst, arith, ◌⊎◌, inl, inr}
use Rattle.std.specs.Prelude.{◌==◌}
use Rattle.std.proofs.Math.Seq.{take-suc}
use Rattle.std.proofs.lemmas.Bool.Decides.{eqb_tells}
use Rattle.std.proofs.lemmas.List.{get_or_default, get_or-set_same, get_or-set_other, length-set}
use Rattle.bl_work.specs.Content.{added}
use Rattle.bl_work.specs.Effects.{Effect, Out, Put, Add, Child, after, outputs, children, effects_from}
use Rattle.bl_work.specs.Statements as statement
use Rattle.bl_work.specs.Body.{statements_of, depth}
use Rattle.bl_work.specs.declared.script.Stmt.{Stmt}
use Rattle.bl_work.specs.declared.script.Stmt.TheVariants as stmt
use Rattle.bl_monitor.specs.declared.run.Run.{Run}
use Rattle.bl_monitor.specs.Undoing.{content_listed}
use Rattle.bl_monitor.specs.Running.{StandsAfter, GoesOn, UsesBelow}

after-append : (content : List ℕ) (xs ys : List Effect) (doc : ℕ) → after content (xs ++ ys) doc ≡ after (after content xs doc) ys doc
after-append content [] ys doc = refl
after-append content (Out text ∷ xs) ys doc = after-append content xs ys doc
after-append content (Put d text ∷ xs) ys doc = after-append (cond (d == doc) text content) xs ys doc
after-append content (Add d text ∷ xs) ys doc = after-append (cond (d == doc) (added content text) content) xs ys doc
after-append content (Child behaviour ∷ xs) ys doc = after-append content xs ys doc

outputs-append : (xs ys : List Effect) → outputs (xs ++ ys) ≡ outputs xs ++ outputs ys
outputs-append [] ys = refl
outputs-append (Out text ∷ xs) ys = ap (λ l. text ∷ l) (outputs-append xs ys)
outputs-append (Put d text ∷ xs) ys = outputs-append xs ys
outputs-append (Add d text ∷ xs) ys = outputs-append xs ys
outputs-append (Child behaviour ∷ xs) ys = outputs-append xs ys

children-append : (xs ys : List Effect) → children (xs ++ ys) ≡ children xs ++ children ys
children-append [] ys = refl
children-append (Out text ∷ xs) ys = children-append xs ys
children-append (Put d text ∷ xs) ys = children-append xs ys
children-append (Add d text ∷ xs) ys = children-append xs ys
children-append (Child behaviour ∷ xs) ys = ap (λ l. behaviour ∷ l) (children-append xs ys)

pub nothing_more : {A : Type 0} (xs : List A) → xs ++ [] ≡ xs
nothing_more [] = refl
nothing_more (x ∷ xs) = ap (λ l. x ∷ l) (nothing_more xs)

-- what the code reads at a document's place
pub read_content : (contents : List (List ℕ)) (doc i : ℕ) (x : List ℕ) → x ≡ get_or contents i x → i ≡ doc → doc < length contents → x ≡ content_listed contents doc
read_content contents doc i x at same lt = at ∙ ap (λ k. get_or contents k x) same ∙ get_or_default contents doc x [] lt

-- a content among others, once one of them is new
put_at : (contents : List (List ℕ)) (doc other : ℕ) (text : List ℕ) → other < length contents → content_listed (set contents doc text) other ≡ cond (doc == other) text (content_listed contents other)
put_at contents doc other text lt = go (eqb_tells doc other)
  where
    go : (((doc == other) ≡ true) × (doc ≡ other)) ⊎ (((doc == other) ≡ false) × (doc ≡ other → ⊥)) → content_listed (set contents doc text) other ≡ cond (doc == other) text (content_listed contents other)
    go (inl p) =
        ap (λ k. get_or (set contents k text) other []) p.1 ∙ get_or-set_same contents other text [] lt
        ∙ ap (λ b. cond b text (content_listed contents other)) (sym p.0)
    go (inr p) = get_or-set_other contents doc other text [] (λ e. p.1 (sym e)) ∙ ap (λ b. cond b text (content_listed contents other)) (sym p.0)

module _ (start : ℕ → List ℕ) (effects : List Effect) (before : List (List ℕ)) (old : Run) (stands : StandsAfter start effects before old) where
  -- a text is shown
  pub run_said : (new : Run) (text : List ℕ) → new.shown.items ≡ old.shown.items ++ text ∷ [] → new.spawned.items ≡ old.spawned.items
      → StandsAfter start (effects ++ Out text ∷ []) before new
  run_said new text shown spawned = record {
    contents = λ doc lt. stands.contents doc lt ∙ sym (after-append (start doc) effects (Out text ∷ []) doc);
    shown = shown ∙ ap (λ l. l ++ text ∷ []) stands.shown ∙ sym (outputs-append effects (Out text ∷ []));
    spawned = spawned ∙ stands.spawned ∙ sym (nothing_more (children effects)) ∙ sym (children-append effects (Out text ∷ []));
  }

  -- a document's content is shown
  pub run_shown : (new : Run) (doc : ℕ) → doc < length before → new.shown.items ≡ old.shown.items ++ content_listed before doc ∷ [] → new.spawned.items ≡ old.spawned.items
      → StandsAfter start (effects ++ Out (after (start doc) effects doc) ∷ []) before new
  run_shown new doc lt shown spawned =
      subst (λ t. StandsAfter start (effects ++ Out t ∷ []) before new) (stands.contents doc lt) (run_said new (content_listed before doc) shown spawned)

  -- a behaviour is spawned
  pub run_spawned : (new : Run) (behaviour : ℕ) → new.shown.items ≡ old.shown.items → new.spawned.items ≡ old.spawned.items ++ behaviour ∷ []
      → StandsAfter start (effects ++ Child behaviour ∷ []) before new
  run_spawned new behaviour shown spawned = record {
    contents = λ doc lt. stands.contents doc lt ∙ sym (after-append (start doc) effects (Child behaviour ∷ []) doc);
    shown = shown ∙ stands.shown ∙ sym (nothing_more (outputs effects)) ∙ sym (outputs-append effects (Child behaviour ∷ []));
    spawned = spawned ∙ ap (λ l. l ++ behaviour ∷ []) stands.spawned ∙ sym (children-append effects (Child behaviour ∷ []));
  }

  module _ (now : List (List ℕ)) (new : Run) (doc : ℕ) (shown : new.shown.items ≡ old.shown.items) (spawned : new.spawned.items ≡ old.spawned.items) where
    -- a text becomes a document's content
    pub run_put : (text : List ℕ) → now ≡ set before doc text → StandsAfter start (effects ++ Put doc text ∷ []) now new
    run_put text put = record {
      contents = λ other lt.
          ap (λ c. content_listed c other) put
          ∙ put_at before doc other text (omega (arith, ap length put, length-set before doc text))
          ∙ ap (λ t. cond (doc == other) text t) (stands.contents other (omega (arith, ap length put, length-set before doc text)))
          ∙ sym (after-append (start other) effects (Put doc text ∷ []) other);
      shown = shown ∙ stands.shown ∙ sym (nothing_more (outputs effects)) ∙ sym (outputs-append effects (Put doc text ∷ []));
      spawned = spawned ∙ stands.spawned ∙ sym (nothing_more (children effects)) ∙ sym (children-append effects (Put doc text ∷ []));
    }

    -- another document's content does
    pub run_copied : (from : ℕ) → from < length before → now ≡ set before doc (content_listed before from)
        → StandsAfter start (effects ++ Put doc (after (start from) effects from) ∷ []) now new
    run_copied from lt put = subst (λ t. StandsAfter start (effects ++ Put doc t ∷ []) now new) (stands.contents from lt) (run_put (content_listed before from) put)

    -- a text is added to a document's content
    pub run_added : (text : List ℕ) → now ≡ set before doc (added (content_listed before doc) text) → StandsAfter start (effects ++ Add doc text ∷ []) now new
    run_added text put = record {
      contents = λ other lt.
          let whole : List ℕ = added (content_listed before doc) text in
          ap (λ c. content_listed c other) put
          ∙ put_at before doc other whole (omega (arith, ap length put, length-set before doc whole))
          ∙ elsewhere other (eqb_tells doc other)
          ∙ ap (λ t. cond (doc == other) (added t text) t) (stands.contents other (omega (arith, ap length put, length-set before doc whole)))
          ∙ sym (after-append (start other) effects (Add doc text ∷ []) other);
      shown = shown ∙ stands.shown ∙ sym (nothing_more (outputs effects)) ∙ sym (outputs-append effects (Add doc text ∷ []));
      spawned = spawned ∙ stands.spawned ∙ sym (nothing_more (children effects)) ∙ sym (children-append effects (Add doc text ∷ []));
    }
      where
        elsewhere : (other : ℕ) → (((doc == other) ≡ true) × (doc ≡ other)) ⊎ (((doc == other) ≡ false) × (doc ≡ other → ⊥))
            → cond (doc == other) (added (content_listed before doc) text) (content_listed before other)
            ≡ cond (doc == other) (added (content_listed before other) text) (content_listed before other)
        elsewhere other (inl p) = ap (λ d. cond (doc == other) (added (content_listed before d) text) (content_listed before other)) p.1
        elsewhere other (inr p) = rw p.0 refl

-- what a document's content adds to another
pub poured : (from to : ℕ) (text : List ℕ) (before now : List (List ℕ)) (old new : Run) → from < length before → text ≡ content_listed before from
    → GoesOn (statement.Add to text statement.Nothing) before old now new → GoesOn (statement.Pour from to statement.Nothing) before old now new
poured from to text before now old new lt is adds =
    λ start effects stands. subst (λ t. StandsAfter start (effects ++ Add to t ∷ []) now new) (is ∙ stands.contents from lt) (adds start effects stands)

-- the effects of statements one after another
pub effects-append : (contents : ℕ → List ℕ) (xs ys : List Stmt) (so_far : List Effect)
    → effects_from contents so_far (statements_of (xs ++ ys)) ≡ effects_from contents (effects_from contents so_far (statements_of xs)) (statements_of ys)
effects-append contents [] ys so_far = refl
effects-append contents (stmt.Show doc ∷ xs) ys so_far = effects-append contents xs ys _
effects-append contents (stmt.Say text ∷ xs) ys so_far = effects-append contents xs ys _
effects-append contents (stmt.Add doc text ∷ xs) ys so_far = effects-append contents xs ys _
effects-append contents (stmt.Set doc text ∷ xs) ys so_far = effects-append contents xs ys _
effects-append contents (stmt.Copy from to ∷ xs) ys so_far = effects-append contents xs ys _
effects-append contents (stmt.Pour from to ∷ xs) ys so_far = effects-append contents xs ys _
effects-append contents (stmt.If choice ∷ xs) ys so_far = effects-append contents xs ys _
effects-append contents (stmt.Spawn behaviour ∷ xs) ys so_far = effects-append contents xs ys _

-- the effects of one statement more
pub one_statement_more : (contents : ℕ → List ℕ) (so_far : List Effect) (xs : List Stmt) (i : ℕ) (s : Stmt) → i < length xs → s ≡ get_or xs i s
    → effects_from contents so_far (statements_of (take (suc i) xs))
    ≡ effects_from contents (effects_from contents so_far (statements_of (take i xs))) (statements_of (s ∷ []))
one_statement_more contents so_far xs i s lt at =
    ap (λ l. effects_from contents so_far (statements_of l)) (take-suc xs i s lt)
    ∙ effects-append contents (take i xs) (get_or xs i s ∷ []) so_far
    ∙ ap (λ t. effects_from contents (effects_from contents so_far (statements_of (take i xs))) (statements_of (t ∷ []))) (sym at)

-- a run that has come by i statements comes by one more
pub goes_on_more : (xs : List Stmt) (i : ℕ) (s : Stmt) (before between now : List (List ℕ)) (first middle new : Run) → i < length xs → s ≡ get_or xs i s
    → GoesOn (statements_of (take i xs)) before first between middle → GoesOn (statements_of (s ∷ [])) between middle now new
    → GoesOn (statements_of (take (i + 1) xs)) before first now new
goes_on_more xs i s before between now first middle new lt at come goes = λ start so_far stands.
    subst (λ es. StandsAfter start es now new)
    (sym (ap (λ n. effects_from start so_far (statements_of (take n xs))) (add-one i) ∙ one_statement_more start so_far xs i s lt at))
    (goes start (effects_from start so_far (statements_of (take i xs))) (come start so_far stands))

-- a statement uses documents of the list that it stands in
uses-cons : (count : ℕ) (x : Stmt) (xs : List Stmt) → UsesBelow count (statements_of (x ∷ xs)) → UsesBelow count (statements_of (x ∷ [])) × UsesBelow count (statements_of xs)
uses-cons count (stmt.Show doc) xs h = ((h.0, tt), h.1)
uses-cons count (stmt.Say text) xs h = (tt, h)
uses-cons count (stmt.Add doc text) xs h = ((h.0, tt), h.1)
uses-cons count (stmt.Set doc text) xs h = ((h.0, tt), h.1)
uses-cons count (stmt.Copy from to) xs h = ((h.0, h.1, tt), h.2)
uses-cons count (stmt.Pour from to) xs h = ((h.0, h.1, tt), h.2)
uses-cons count (stmt.If choice) xs h = ((h.0, h.1, h.2, tt), h.3)
uses-cons count (stmt.Spawn k) xs h = (tt, h)

pub uses-at : (count : ℕ) (xs : List Stmt) (i : ℕ) (x : Stmt) → i < length xs → x ≡ get_or xs i x → UsesBelow count (statements_of xs) → UsesBelow count (statements_of (x ∷ []))
uses-at count [] i x lt at h = absurd (omega arith)
uses-at count (y ∷ xs) zero x lt at h = subst (λ (s : Stmt). UsesBelow count (statements_of (s ∷ []))) (sym at) (uses-cons count y xs h).0
uses-at count (y ∷ xs) (suc i) x lt at h = uses-at count xs i x (omega arith) at (uses-cons count y xs h).1

first : (x : Stmt) (xs : List Stmt) → depth (statements_of (x ∷ [])) ≤ depth (statements_of (x ∷ xs))
first (stmt.Show doc) xs = omega arith
first (stmt.Say text) xs = omega arith
first (stmt.Add doc text) xs = omega arith
first (stmt.Set doc text) xs = omega arith
first (stmt.Copy from to) xs = omega arith
first (stmt.Pour from to) xs = omega arith
first (stmt.If choice) xs = omega arith
first (stmt.Spawn behaviour) xs = omega arith

rest : (x : Stmt) (xs : List Stmt) → depth (statements_of xs) ≤ depth (statements_of (x ∷ xs))
rest (stmt.Show doc) xs = omega arith
rest (stmt.Say text) xs = omega arith
rest (stmt.Add doc text) xs = omega arith
rest (stmt.Set doc text) xs = omega arith
rest (stmt.Copy from to) xs = omega arith
rest (stmt.Pour from to) xs = omega arith
rest (stmt.If choice) xs = omega arith
rest (stmt.Spawn behaviour) xs = omega arith

deep : (xs : List Stmt) (i : ℕ) (d : Stmt) → i < length xs → depth (statements_of (get_or xs i d ∷ [])) ≤ depth (statements_of xs)
deep [] i d lt = absurd (omega arith)
deep (x ∷ xs) zero d lt = first x xs
deep (x ∷ xs) (suc i) d lt = omega (arith, deep xs i d (omega arith), rest x xs)

-- a statement is no deeper than the list that it stands in
pub depth_of_one : (xs : List Stmt) (i : ℕ) (s : Stmt) → i < length xs → s ≡ get_or xs i s → depth (statements_of (s ∷ [])) ≤ depth (statements_of xs)
depth_of_one xs i s lt at = subst (λ t. depth (statements_of (t ∷ [])) ≤ depth (statements_of xs)) (sym at) (deep xs i s lt)
