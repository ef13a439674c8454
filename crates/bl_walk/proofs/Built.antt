-- What is built of an `if` with an `else`, and of a `when`.
use Rattle.std.proofs.Common.{◌≡◌, ℕ, suc, ◌+◌, List, [], ◌∷◌, ◌++◌, length, set, refl, sym, ap, ◌∙◌, arith, append_assoc, length-append}
use Rattle.std.specs.Prelude.{map}
use Rattle.std.proofs.lemmas.List.{append-nil, set_at}
use Rattle.bl_policy.specs.declared.access.Access.{Access}
use Rattle.bl_work.specs.Names.{KnownNames}
use Rattle.bl_work.specs.Spelled.{SpelledAccess, SpelledBody}
use Rattle.bl_work.specs.Statements as statement
use Rattle.bl_work.specs.Statements.{Statements, Part}
use Rattle.bl_work.specs.Meaning.{whens, document_of, access_of, numbered, spawned_from, script_of}
use Rattle.bl_work.specs.Building.{when_from, IsBuilt}
use Rattle.bl_work.specs.declared.script.Condition.{Condition}
use Rattle.bl_work.specs.declared.script.Stmt.{Stmt}
use Rattle.bl_work.specs.declared.script.Stmt.TheVariants as built
use Rattle.bl_work.specs.Body.{statements_of}
use Rattle.bl_work.proofs.Numbering.{spawned_long}
use Rattle.bl_work.specs.Spelled as spelled
use Rattle.bl_walk.specs.Spawned.{with_outermost}

-- a first statement with these behind it
abbrev pub put : Statements → Statements → Statements
put statement.Nothing more = more
put (statement.Show doc rest) more = statement.Show doc more
put (statement.Say text rest) more = statement.Say text more
put (statement.Add doc text rest) more = statement.Add doc text more
put (statement.Set doc text rest) more = statement.Set doc text more
put (statement.Copy from to rest) more = statement.Copy from to more
put (statement.Pour from to rest) more = statement.Pour from to more
put (statement.If doc asks text then_body else_body rest) more = statement.If doc asks text then_body else_body more
put (statement.Spawn behaviour rest) more = statement.Spawn behaviour more

-- a list of built statements is its first one with the others behind it
pub put_built : (s : Stmt) (ys : List Stmt) → statements_of (s ∷ ys) ≡ put (statements_of (s ∷ [])) (statements_of ys)
put_built (built.Show doc) ys = refl
put_built (built.Say text) ys = refl
put_built (built.Add doc text) ys = refl
put_built (built.Set doc text) ys = refl
put_built (built.Copy from to) ys = refl
put_built (built.Pour from to) ys = refl
put_built (built.If choice) ys = refl
put_built (built.Spawn behaviour) ys = refl

abbrev behind_the_first : List Part → List Part
behind_the_first [] = []
behind_the_first (part ∷ parts) = parts

module _ (names : KnownNames) where
  -- behind what a body spawns stand those that come next
  pub built_long : (s : SpelledBody) (old new : List Part) (y : Statements) → IsBuilt names s old new y → length new ≡ length old + whens s
  built_long s old new y b =
      ap length b.behaviours ∙ length-append old (spawned_from names (length old) s) ∙ ap (λ n. length old + n) (spawned_long names s (length old))

  -- an `if` without an `else`
  pub built_if_then : (document : List ℕ) (asks : Condition) (words : List ℕ) (t : SpelledBody) (old new : List Part) (d : ℕ) (w : List ℕ) (y : Statements)
      → d ≡ document_of names document → w ≡ words → IsBuilt names t old new y
      → IsBuilt names (spelled.if_then document asks words t spelled.empty) old new (statement.If d asks w y statement.Nothing statement.Nothing)
  built_if_then document asks words t old new d w y at same b = record {
    statements = λ i. statement.If (at i) asks (same i) (b.statements i) statement.Nothing statement.Nothing;
    behaviours = b.behaviours ∙ ap (λ l. old ++ l) (sym (append-nil (spawned_from names (length old) t)));
  }

  -- an `if` with an `else`, whose behaviours stand behind those of `then`
  pub built_if_else : (document : List ℕ) (asks : Condition) (words : List ℕ) (t e : SpelledBody) (old mid new : List Part) (d : ℕ) (w : List ℕ) (y z : Statements)
      → d ≡ document_of names document → w ≡ words → IsBuilt names t old mid y → IsBuilt names e mid new z
      → IsBuilt names (spelled.if_else document asks words t e spelled.empty) old new (statement.If d asks w y z statement.Nothing)
  built_if_else document asks words t e old mid new d w y z at same b c =
      let long = built_long t old mid y b in
      let is : z ≡ numbered names (length old + whens t) e = c.statements ∙ ap (λ n. numbered names n e) long in
      let x = spawned_from names (length old) t in
      let later = spawned_from names (length old + whens t) e in
      record {
        statements = λ i. statement.If (at i) asks (same i) (b.statements i) (is i) statement.Nothing;
        behaviours = c.behaviours ∙ ap (λ n. mid ++ spawned_from names n e) long ∙ ap (λ l. l ++ later) b.behaviours ∙ append_assoc old x later
            ∙ ap (λ l. old ++ (x ++ l)) (sym (append-nil later));
      }

  -- a `when` whose place was taken first, and that was put there when it was built
  pub built_when : (f : SpelledAccess) (m : List SpelledAccess) (b : SpelledBody) (old pushed mid new : List Part) (unbuilt part : Part) (accesses : List Access) (y : Statements) (n : ℕ) → n ≡ length old
      → pushed ≡ old ++ unbuilt ∷ [] → part ≡ record { accesses = accesses; body = y } → accesses ≡ map (access_of names) (f ∷ m) → IsBuilt names b pushed mid y
      → new ≡ set mid n part → new ≡ old ++ when_from names (length old) f m b
  built_when f m b old pushed mid new unbuilt part accesses y n at push made is built put =
      let long : length pushed ≡ length old + 1 = ap length push ∙ length-append old (unbuilt ∷ []) in
      let later = spawned_from names (length old + 1) b in
      let split : mid ≡ old ++ unbuilt ∷ later =
      built.behaviours ∙ ap (λ k. pushed ++ spawned_from names k b) long ∙ ap (λ l. l ++ later) push ∙ append_assoc old (unbuilt ∷ []) later in
      put ∙ ap (λ l. set l n part) split ∙ set_at old unbuilt later part n (sym at)
      ∙ ap (λ (p : Part). old ++ p ∷ later) (made ∙ (λ i. record { accesses = is i; body = (built.statements ∙ ap (λ k. numbered names k b) long) i }))

  -- a spawned `when`, the outermost behaviour standing before those that are spawned
  pub built_spawned : (f : SpelledAccess) (m : List SpelledAccess) (b : SpelledBody) (old pushed mid new : List Part) (unbuilt part : Part) (accesses : List Access) (y : Statements) (place : ℕ) → place ≡ length old
      → pushed ≡ old ++ unbuilt ∷ [] → part ≡ record { accesses = accesses; body = y } → accesses ≡ map (access_of names) (f ∷ m)
      → IsBuilt names b (with_outermost pushed) (with_outermost mid) y → new ≡ set mid place part
      → with_outermost new ≡ with_outermost old ++ when_from names (length (with_outermost old)) f m b
  built_spawned f m b old pushed mid new unbuilt part accesses y place at push made is built put =
      let at_number : suc place ≡ length (with_outermost old) = omega (arith, at) in
      built_when f m b (with_outermost old) (with_outermost pushed) (with_outermost mid) (with_outermost new) unbuilt part accesses y (suc place) at_number
      (ap with_outermost push) made is built (ap with_outermost put)

  -- the outermost behaviour, and those that its body spawns
  pub built_script : (f : SpelledAccess) (m : List SpelledAccess) (b : SpelledBody) (old new : List Part) (accesses : List Access) (y : Statements) (part : Part) → part ≡ record { accesses = accesses; body = y }
      → accesses ≡ map (access_of names) (f ∷ m) → old ≡ [] → IsBuilt names b (with_outermost old) (with_outermost new) y → part ∷ new ≡ script_of names f m b
  built_script f m b old new accesses y part is same none built =
      let body : y ≡ numbered names 1 b = built.statements ∙ ap (λ l. numbered names (length (with_outermost l)) b) none in
      let own : part ≡ record { accesses = map (access_of names) (f ∷ m); body = numbered names 1 b } = is ∙ (λ i. record { accesses = same i; body = body i }) in
      let later : new ≡ spawned_from names 1 b =
      ap behind_the_first (built.behaviours ∙ ap (λ l. with_outermost l ++ spawned_from names (length (with_outermost l)) b) none) in
      λ i. own i ∷ later i
