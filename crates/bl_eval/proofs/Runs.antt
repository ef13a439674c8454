-- Statements one after another.
use Rattle.std.proofs.Common.{◌≡◌, ℕ, zero, suc, ◌+◌, ◌<◌, ◌≤◌, Bool, true, false, cond, List, [], ◌∷◌, ◌++◌, length, get_or, take, refl, ap, sym, ◌∙◌, subst, arith, add-one, append-nil}
use Rattle.bl_policy.specs.declared.access.Access.{Access}
use Rattle.bl_work.specs.Modes.{declares, observes, KeepsModes}
use Rattle.bl_work.specs.Script.{AreApart, HasContents}
use Rattle.bl_work.specs.Content.{added}
use Rattle.bl_work.specs.Statements as statement
use Rattle.bl_work.specs.Statements.{Statements}
use Rattle.bl_work.specs.Body.{statements_of, depth}
use Rattle.bl_work.specs.declared.script.Condition.{Condition}
use Rattle.bl_work.specs.declared.script.Stmt.{Stmt}
use Rattle.bl_work.specs.declared.script.Stmt.TheVariants.{Show, Say, Add, Set, Copy, Pour, If, Spawn}
use Rattle.bl_work.specs.Few.{items_of}
use Rattle.bl_work.specs.Effects as effect
use Rattle.bl_work.specs.Effects.{Effect, after, seen, effects_from, effects_of, holds_of, outputs, children}
use Rattle.bl_grant.specs.Loaned.{Loaned}
use Rattle.bl_grant.specs.Loans.{accesses_of, content_of, changed}
use Rattle.bl_eval.specs.Told.{IsAfter, HasRun}
use Rattle.bl_eval.specs.declared.told.Told.{Told}
use Rattle.bl_eval.proofs.Steps.{outputs-append, children-append, accesses-changed, changed_by-same, changed-more, content-after}

module _ (start : List Loaned) (es : List Effect) (grants : List Loaned) (told : Told) (was : IsAfter start es grants told) where
  -- a declared document is seen as the grants have it
  pub seen-now : (doc : ℕ) → declares observes (accesses_of grants) doc ≡ true → seen (content_of start) es doc ≡ content_of grants doc
  seen-now doc h =
      sym (ap (λ gs. content_of gs doc) was.contents
      ∙ content-after observes start es doc (sym (ap (λ gs. declares observes gs doc) (ap accesses_of was.contents ∙ accesses-changed start es)) ∙ h))

  -- one more text is shown
  pub is-shown : (told_then : Told) (text : List ℕ) → items_of told_then.shown ≡ items_of told.shown ++ text ∷ [] → told_then.spawned.items ≡ told.spawned.items
      → IsAfter start (es ++ effect.Out text ∷ []) grants told_then
  is-shown told_then text shown spawned =
      record {
        contents = was.contents ∙ sym (changed_by-same start es (effect.Out text ∷ []) (λ c o. refl));
        shown = shown ∙ ap (λ l. l ++ text ∷ []) was.shown ∙ sym (outputs-append es (effect.Out text ∷ []));
        spawned = spawned ∙ was.spawned ∙ sym (children-append es (effect.Out text ∷ []) ∙ append-nil (children es));
      }

  -- one more behaviour is spawned
  pub is-spawned : (told_then : Told) (k : ℕ) → items_of told_then.shown ≡ items_of told.shown → told_then.spawned.items ≡ told.spawned.items ++ k ∷ []
      → IsAfter start (es ++ effect.Child k ∷ []) grants told_then
  is-spawned told_then k shown spawned =
      record {
        contents = was.contents ∙ sym (changed_by-same start es (effect.Child k ∷ []) (λ c o. refl));
        shown = shown ∙ was.shown ∙ sym (outputs-append es (effect.Child k ∷ []) ∙ append-nil (outputs es));
        spawned = spawned ∙ ap (λ l. l ++ k ∷ []) was.spawned ∙ sym (children-append es (effect.Child k ∷ []));
      }

  apart-start : AreApart (accesses_of grants) → AreApart (accesses_of start)
  apart-start apart = subst (λ (xs : List Access). AreApart xs) (ap accesses_of was.contents ∙ accesses-changed start es) apart

  -- one more content is put
  pub is-put : (then : List Loaned) (doc : ℕ) (text : List ℕ) → AreApart (accesses_of grants) → then ≡ changed (λ _. text) doc grants
      → IsAfter start (es ++ effect.Put doc text ∷ []) then told
  is-put then doc text apart e =
      record {
        contents = e ∙ ap (changed (λ _. text) doc) was.contents ∙ changed-more (effect.Put doc text) doc (λ _. text) (λ c o. refl) start es (apart-start apart);
        shown = was.shown ∙ sym (outputs-append es (effect.Put doc text ∷ []) ∙ append-nil (outputs es));
        spawned = was.spawned ∙ sym (children-append es (effect.Put doc text ∷ []) ∙ append-nil (children es));
      }

  -- one more text is added
  pub is-added : (then : List Loaned) (doc : ℕ) (text : List ℕ) → AreApart (accesses_of grants) → then ≡ changed (λ c. added c text) doc grants
      → IsAfter start (es ++ effect.Add doc text ∷ []) then told
  is-added then doc text apart e =
      record {
        contents = e ∙ ap (changed (λ c. added c text) doc) was.contents ∙ changed-more (effect.Add doc text) doc (λ c. added c text) (λ c o. refl) start es (apart-start apart);
        shown = was.shown ∙ sym (outputs-append es (effect.Add doc text ∷ []) ∙ append-nil (outputs es));
        spawned = was.spawned ∙ sym (children-append es (effect.Add doc text ∷ []) ∙ append-nil (children es));
      }

  -- more effects that are these
  pub is-same : (fs : List Effect) → es ≡ fs → IsAfter start fs grants told
  is-same fs e = subst (λ (es : List Effect). IsAfter start es grants told) e was

-- each statement
pub show-run : (grants : List Loaned) (told told_then : Told) (doc : ℕ) → declares observes (accesses_of grants) doc ≡ true
    → items_of told_then.shown ≡ items_of told.shown ++ content_of grants doc ∷ [] → told_then.spawned.items ≡ told.spawned.items
    → HasRun (statement.Show doc statement.Nothing) grants told grants told_then
show-run grants told told_then doc h shown spawned =
    record {
      on = λ start es was.
          is-shown start es grants told was told_then (seen (content_of start) es doc)
          (shown ∙ ap (λ t. items_of told.shown ++ t ∷ []) (sym (seen-now start es grants told was doc h))) spawned;
    }

pub say-run : (grants : List Loaned) (told told_then : Told) (text : List ℕ) → items_of told_then.shown ≡ items_of told.shown ++ text ∷ [] → told_then.spawned.items ≡ told.spawned.items
    → HasRun (statement.Say text statement.Nothing) grants told grants told_then
say-run grants told told_then text shown spawned = record { on = λ start es was. is-shown start es grants told was told_then text shown spawned }

pub spawn-run : (grants : List Loaned) (told told_then : Told) (k : ℕ) → items_of told_then.shown ≡ items_of told.shown → told_then.spawned.items ≡ told.spawned.items ++ k ∷ []
    → HasRun (statement.Spawn k statement.Nothing) grants told grants told_then
spawn-run grants told told_then k shown spawned = record { on = λ start es was. is-spawned start es grants told was told_then k shown spawned }

pub add-run : (grants then : List Loaned) (told : Told) (doc : ℕ) (text : List ℕ) → AreApart (accesses_of grants) → then ≡ changed (λ c. added c text) doc grants
    → HasRun (statement.Add doc text statement.Nothing) grants told then told
add-run grants then told doc text apart e = record { on = λ start es was. is-added start es grants told was then doc text apart e }

pub set-run : (grants then : List Loaned) (told : Told) (doc : ℕ) (text : List ℕ) → AreApart (accesses_of grants) → then ≡ changed (λ _. text) doc grants
    → HasRun (statement.Set doc text statement.Nothing) grants told then told
set-run grants then told doc text apart e = record { on = λ start es was. is-put start es grants told was then doc text apart e }

pub copy-run : (grants then : List Loaned) (told : Told) (from to : ℕ) → declares observes (accesses_of grants) from ≡ true → AreApart (accesses_of grants)
    → then ≡ changed (λ _. content_of grants from) to grants → HasRun (statement.Copy from to statement.Nothing) grants told then told
copy-run grants then told from to h apart e =
    record {
      on = λ start es was.
          is-put start es grants told was then to (seen (content_of start) es from) apart
          (e ∙ ap (λ t. changed (λ _. t) to grants) (sym (seen-now start es grants told was from h)));
    }

pub pour-run : (grants then : List Loaned) (told : Told) (from to : ℕ) → declares observes (accesses_of grants) from ≡ true → AreApart (accesses_of grants)
    → then ≡ changed (λ c. added c (content_of grants from)) to grants → HasRun (statement.Pour from to statement.Nothing) grants told then told
pour-run grants then told from to h apart e =
    record {
      on = λ start es was.
          is-added start es grants told was then to (seen (content_of start) es from) apart
          (e ∙ ap (λ t. changed (λ c. added c t) to grants) (sym (seen-now start es grants told was from h)));
    }

-- the branch that a condition chooses is what an `if` runs
pub if-run : (grants then : List Loaned) (told told_then : Told) (doc : ℕ) (asks : Condition) (text : List ℕ) (taken left_out : Statements) (b : Bool)
    → declares observes (accesses_of grants) doc ≡ true → b ≡ holds_of asks (content_of grants doc) text
    → HasRun (cond b taken left_out) grants told then told_then → HasRun (statement.If doc asks text taken left_out statement.Nothing) grants told then told_then
if-run grants then told told_then doc asks text taken left_out b h holds ran =
    record {
      on = λ start es was.
          is-same start (effects_from (content_of start) es (cond b taken left_out)) then told_then (ran.on start es was) _
          (chosen start es b ∙ ap (λ v. cond v (effects_from (content_of start) es taken) (effects_from (content_of start) es left_out))
          (holds ∙ ap (λ c. holds_of asks c text) (sym (seen-now start es grants told was doc h))));
    }
  where
    chosen : (start : List Loaned) (es : List Effect) (b : Bool) → effects_from (content_of start) es (cond b taken left_out) ≡ cond b (effects_from (content_of start) es taken) (effects_from (content_of start) es left_out)
    chosen start es true = refl
    chosen start es false = refl

-- the effects of statements in two parts
effects-parts : (c : ℕ → List ℕ) (es : List Effect) (xs ys : List Stmt) → effects_from c es (statements_of (xs ++ ys)) ≡ effects_from c (effects_from c es (statements_of xs)) (statements_of ys)
effects-parts c es [] ys = refl
effects-parts c es (Show doc ∷ xs) ys = effects-parts c (es ++ effect.Out (seen c es doc) ∷ []) xs ys
effects-parts c es (Say text ∷ xs) ys = effects-parts c (es ++ effect.Out text ∷ []) xs ys
effects-parts c es (Add doc text ∷ xs) ys = effects-parts c (es ++ effect.Add doc text ∷ []) xs ys
effects-parts c es (Set doc text ∷ xs) ys = effects-parts c (es ++ effect.Put doc text ∷ []) xs ys
effects-parts c es (Copy from to ∷ xs) ys = effects-parts c (es ++ effect.Put to (seen c es from) ∷ []) xs ys
effects-parts c es (Pour from to ∷ xs) ys = effects-parts c (es ++ effect.Add to (seen c es from) ∷ []) xs ys
effects-parts c es (If choice ∷ xs) ys =
    let v = choice.value in
    effects-parts c (cond (holds_of v.test (seen c es v.doc) v.text) (effects_from c es v.then_body) (effects_from c es v.else_body)) xs ys
effects-parts c es (Spawn k ∷ xs) ys = effects-parts c (es ++ effect.Child k ∷ []) xs ys

take-next : (xs : List Stmt) (i : ℕ) (d : Stmt) → i < length xs → take (suc i) xs ≡ take i xs ++ get_or xs i d ∷ []
take-next [] i d lt = absurd (omega arith)
take-next (x ∷ xs) zero d lt = refl
take-next (x ∷ xs) (suc i) d lt = ap (λ l. x ∷ l) (take-next xs i d (omega arith))

pub run-none : (xs : List Stmt) (grants : List Loaned) (told : Told) → HasRun (statements_of (take 0 xs)) grants told grants told
run-none xs grants told = record { on = λ start es was. was }

pub run-more : (xs : List Stmt) (i : ℕ) (x : Stmt) (grants now then : List Loaned) (told told_now told_then : Told) → i < length xs → x ≡ get_or xs i x
    → HasRun (statements_of (take i xs)) grants told now told_now → HasRun (statements_of (x ∷ [])) now told_now then told_then
    → HasRun (statements_of (take (i + 1) xs)) grants told then told_then
run-more xs i x grants now then told told_now told_then lt at so_far step =
    record {
      on = λ start es was.
          is-same start (effects_from (content_of start) (effects_from (content_of start) es (statements_of (take i xs))) (statements_of (x ∷ []))) then told_then
          (step.on start (effects_from (content_of start) es (statements_of (take i xs))) (so_far.on start es was)) _
          (sym (rw add-one (ap (λ l. effects_from (content_of start) es (statements_of l)) (take-next xs i x lt ∙ ap (λ s. take i xs ++ s ∷ []) (sym at))
          ∙ effects-parts (content_of start) es (take i xs) (x ∷ []))));
    }

-- each statement of a body keeps to the accesses
modes-cons : (accesses : List Access) (x : Stmt) (xs : List Stmt) → KeepsModes accesses (statements_of (x ∷ xs)) → KeepsModes accesses (statements_of (x ∷ [])) × KeepsModes accesses (statements_of xs)
modes-cons accesses (Show doc) xs h = ((h.0, tt), h.1)
modes-cons accesses (Say text) xs h = (tt, h)
modes-cons accesses (Add doc text) xs h = ((h.0, tt), h.1)
modes-cons accesses (Set doc text) xs h = ((h.0, tt), h.1)
modes-cons accesses (Copy from to) xs h = ((h.0, h.1, tt), h.2)
modes-cons accesses (Pour from to) xs h = ((h.0, h.1, tt), h.2)
modes-cons accesses (If choice) xs h = ((h.0, h.1, h.2, tt), h.3)
modes-cons accesses (Spawn k) xs h = (tt, h)

pub modes-at : (accesses : List Access) (xs : List Stmt) (i : ℕ) (x : Stmt) → i < length xs → x ≡ get_or xs i x → KeepsModes accesses (statements_of xs) → KeepsModes accesses (statements_of (x ∷ []))
modes-at accesses [] i x lt at h = absurd (omega arith)
modes-at accesses (y ∷ xs) zero x lt at h = subst (λ (s : Stmt). KeepsModes accesses (statements_of (s ∷ []))) (sym at) (modes-cons accesses y xs h).0
modes-at accesses (y ∷ xs) (suc i) x lt at h = modes-at accesses xs i x (omega arith) at (modes-cons accesses y xs h).1

-- and has content bytes in its texts
texts-cons : (x : Stmt) (xs : List Stmt) → HasContents (statements_of (x ∷ xs)) → HasContents (statements_of (x ∷ [])) × HasContents (statements_of xs)
texts-cons (Show doc) xs h = (tt, h)
texts-cons (Say text) xs h = ((h.0, tt), h.1)
texts-cons (Add doc text) xs h = ((h.0, tt), h.1)
texts-cons (Set doc text) xs h = ((h.0, tt), h.1)
texts-cons (Copy from to) xs h = (tt, h)
texts-cons (Pour from to) xs h = (tt, h)
texts-cons (If choice) xs h = ((h.0, h.1, h.2, tt), h.3)
texts-cons (Spawn k) xs h = (tt, h)

pub texts-at : (xs : List Stmt) (i : ℕ) (x : Stmt) → i < length xs → x ≡ get_or xs i x → HasContents (statements_of xs) → HasContents (statements_of (x ∷ []))
texts-at [] i x lt at h = absurd (omega arith)
texts-at (y ∷ xs) zero x lt at h = subst (λ (s : Stmt). HasContents (statements_of (s ∷ []))) (sym at) (texts-cons y xs h).0
texts-at (y ∷ xs) (suc i) x lt at h = texts-at xs i x (omega arith) at (texts-cons y xs h).1

-- no statement has more `if` in one another than the statements that it stands among
depth-cons : (x : Stmt) (xs : List Stmt) → (depth (statements_of (x ∷ [])) ≤ depth (statements_of (x ∷ xs))) × (depth (statements_of xs) ≤ depth (statements_of (x ∷ xs)))
depth-cons (Show doc) xs = (omega arith, omega arith)
depth-cons (Say text) xs = (omega arith, omega arith)
depth-cons (Add doc text) xs = (omega arith, omega arith)
depth-cons (Set doc text) xs = (omega arith, omega arith)
depth-cons (Copy from to) xs = (omega arith, omega arith)
depth-cons (Pour from to) xs = (omega arith, omega arith)
depth-cons (If choice) xs = (omega arith, omega arith)
depth-cons (Spawn k) xs = (omega arith, omega arith)

pub depth-at : (xs : List Stmt) (i : ℕ) (x : Stmt) → i < length xs → x ≡ get_or xs i x → depth (statements_of (x ∷ [])) ≤ depth (statements_of xs)
depth-at [] i x lt at = absurd (omega arith)
depth-at (y ∷ xs) zero x lt at = omega (arith, ap (λ (s : Stmt). depth (statements_of (s ∷ []))) at, (depth-cons y xs).0)
depth-at (y ∷ xs) (suc i) x lt at = omega (arith, depth-at xs i x (omega arith) at, (depth-cons y xs).1)
