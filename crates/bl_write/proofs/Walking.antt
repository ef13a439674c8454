-- The tokens of a script, a statement at a time.
use Rattle.std.proofs.Common.{◌≡◌, ℕ, zero, suc, ◌+◌, ◌-◌, ◌<◌, ◌≤◌, max, Bool, true, false, ◌&&◌, ◌||◌, List, [], ◌∷◌, ◌++◌, length, get_or, drop, take, map, refl, ap, sym, ◌∙◌, subst, arith, append_assoc}
use Rattle.std.specs.Prelude.{All, ◌==◌, IsTrue}
use Rattle.std.specs.List.{fold}
use Rattle.std.proofs.lemmas.List.{drop_more, take_all}
use Rattle.std.proofs.lemmas.List.Sums.{fold-append}
use Rattle.std.proofs.lemmas.List.Elements.{All-cons, All-nil, All-head, All-tail}
use Rattle.std.proofs.lemmas.Bool.{and_parts, eqb-true}
use Rattle.bl_name.specs.declared.token.Keyword.TheVariants as word
use Rattle.bl_name.specs.declared.token.Sign.TheVariants.{Comma, Semicolon}
use Rattle.bl_level.specs.Token.{Tok, reserved, name, text, sign}
use Rattle.bl_policy.specs.declared.access.Access.{Access}
use Rattle.bl_policy.specs.declared.access.Mode.{Mode}
use Rattle.bl_work.specs.declared.script.Condition.{Condition}
use Rattle.bl_work.specs.declared.script.Stmt.{Stmt}
use Rattle.bl_work.specs.declared.script.Stmt.TheVariants as stmt
use Rattle.bl_work.specs.Body.{statements_of}
use Rattle.bl_work.specs.Names.{KnownNames}
use Rattle.bl_work.specs.Modes.{declares, KeepsModes, observes, alters, is_write}
use Rattle.bl_work.specs.Nesting.{spawned, IsPreorder}
use Rattle.bl_work.specs.SpelledDepth.{spelled_depth}
use Rattle.bl_work.specs.Script.{IsBehaviour, IsScript}
use Rattle.bl_work.specs.Spelled.{SpelledAccess, SpelledBody, empty, show, say, add, set, copy, pour, if_then, if_else, spawn, asks_word, spell_access, spell_more, spell_body}
use Rattle.bl_work.specs.Statements.{Statements, Nothing, Show, Say, Add, Set, Copy, Pour, If, Spawn, Part, no_part}
use Rattle.bl_write.specs.There.{AreIn, AreThere, AreWithin}
use Rattle.bl_write.specs.Unread.{SpelledWhen, tokens_of, spell_else, name_at, unread_access, unread_if, unread_body, unread_when, unread_at}
use Rattle.bl_work.proofs.Behaviours.{all_left, all_right}
use Rattle.bl_write.proofs.Unreading.{numbered_are, unread_step}

-- ---- what is spelled behind

-- further accesses, and then these tokens
more_behind : (more : List SpelledAccess) (behind : List Tok) → spell_more more behind ≡ spell_more more [] ++ behind
more_behind [] behind = refl
more_behind (access ∷ more) behind = ap (λ l. sign Comma ∷ spell_access access l) (more_behind more behind)

-- the tokens of an `if`: its condition, its body, its `else`, and its end
pub if_tokens : (names : KnownNames) (document : List ℕ) (asks : Condition) (words : List ℕ) (t e rest : SpelledBody)
    → spell_body (unread_if names document asks words t e rest)
    ≡ reserved word.If ∷ name document ∷ reserved (asks_word asks) ∷ text words ∷ reserved word.Then
    ∷ (spell_body t ++ (spell_else e ++ reserved word.End ∷ sign Semicolon ∷ spell_body rest))
if_tokens names document asks words t empty rest = refl
if_tokens names document asks words t (show a r) rest = refl
if_tokens names document asks words t (say a r) rest = refl
if_tokens names document asks words t (add a b r) rest = refl
if_tokens names document asks words t (set a b r) rest = refl
if_tokens names document asks words t (copy a b r) rest = refl
if_tokens names document asks words t (pour a b r) rest = refl
if_tokens names document asks words t (if_then a b c d r) rest = refl
if_tokens names document asks words t (if_else a b c d f r) rest = refl
if_tokens names document asks words t (spawn a b c r) rest = refl

-- the tokens of a spawn: those of its `when`, and a semicolon
pub spawn_tokens : (w : SpelledWhen) (rest : SpelledBody)
    → spell_body (spawn w.first w.more w.body rest) ≡ reserved word.Spawn ∷ (tokens_of w ++ sign Semicolon ∷ spell_body rest)
spawn_tokens w rest =
    let tail = sign Semicolon ∷ spell_body rest in
    let own = reserved word.Do ∷ (spell_body w.body ++ reserved word.End ∷ []) in
    ap (λ l. reserved word.Spawn ∷ reserved word.When ∷ spell_access w.first l)
    (more_behind w.more (reserved word.Do ∷ (spell_body w.body ++ reserved word.End ∷ tail))
    ∙ ap (λ l. spell_more w.more [] ++ reserved word.Do ∷ l) (sym (append_assoc (spell_body w.body) (reserved word.End ∷ []) tail))
    ∙ sym (append_assoc (spell_more w.more []) own tail)
    ∙ ap (λ l. l ++ tail) (sym (more_behind w.more own)))

-- ---- a statement and the rest

module _ (names : KnownNames) (below : ℕ → SpelledWhen) where
  -- the body of these statements, as it is spelled
  abbrev pub body_of : List Stmt → SpelledBody
  body_of statements = unread_body names below (statements_of statements)

  pub first_tokens : (x : Stmt) (xs : List Stmt) → spell_body (body_of (x ∷ xs)) ≡ spell_body (body_of (x ∷ [])) ++ spell_body (body_of xs)
  first_tokens (stmt.Show doc) xs = refl
  first_tokens (stmt.Say words) xs = refl
  first_tokens (stmt.Add doc words) xs = refl
  first_tokens (stmt.Set doc words) xs = refl
  first_tokens (stmt.Copy from to) xs = refl
  first_tokens (stmt.Pour from to) xs = refl
  first_tokens (stmt.If choice) xs =
      let asks = choice.value.test in
      let words = choice.value.text in
      let document = name_at names choice.value.doc in
      let then_is = unread_body names below choice.value.then_body in
      let else_is = unread_body names below choice.value.else_body in
      let close = reserved word.End ∷ sign Semicolon ∷ [] in
      let behind = spell_body (body_of xs) in
      if_tokens names document asks words then_is else_is (body_of xs)
      ∙ ap (λ l. reserved word.If ∷ name document ∷ reserved (asks_word asks) ∷ text words ∷ reserved word.Then ∷ l)
      (ap (λ l. spell_body then_is ++ l) (sym (append_assoc (spell_else else_is) close behind))
      ∙ sym (append_assoc (spell_body then_is) (spell_else else_is ++ close) behind))
      ∙ ap (λ l. l ++ behind) (sym (if_tokens names document asks words then_is else_is empty))
  first_tokens (stmt.Spawn behaviour) xs =
      spawn_tokens (below behaviour) (body_of xs)
      ∙ ap (λ l. reserved word.Spawn ∷ l) (sym (append_assoc (tokens_of (below behaviour)) (sign Semicolon ∷ []) (spell_body (body_of xs))))
      ∙ ap (λ l. l ++ spell_body (body_of xs)) (sym (spawn_tokens (below behaviour) empty))

  -- one statement more is put: what is put then, and what is left, are all as before
  pub put_on : {X : Type 0} (f : X → Tok → X) (old new : X) (xs : List Stmt) (i : ℕ) (x : Stmt) → i < length xs → x ≡ get_or xs i x
      → new ≡ fold f old (spell_body (body_of (x ∷ []))) → fold f new (spell_body (body_of (drop (i + 1) xs))) ≡ fold f old (spell_body (body_of (drop i xs)))
  put_on f old new xs i x lt at is =
      let behind = drop (i + 1) xs in
      ap (λ s. fold f s (spell_body (body_of behind))) is
      ∙ sym (fold-append f old (spell_body (body_of (x ∷ []))) (spell_body (body_of behind)))
      ∙ ap (fold f old) (sym (first_tokens x behind))
      ∙ ap (λ l. fold f old (spell_body (body_of l))) (ap (λ (s : Stmt). s ∷ behind) at ∙ sym (drop_more xs i x lt))

  -- a spawn is put: its word, its `when` and a semicolon
  pub put_spawn : {X : Type 0} (f : X → Tok → X) (old : X) (behaviour : ℕ)
      → f (fold f (f old (reserved word.Spawn)) (tokens_of (below behaviour))) (sign Semicolon) ≡ fold f old (spell_body (spawn (below behaviour).first (below behaviour).more (below behaviour).body empty))
  put_spawn f old behaviour =
      sym (fold-append f (f old (reserved word.Spawn)) (tokens_of (below behaviour)) (sign Semicolon ∷ []))
      ∙ ap (fold f old) (sym (spawn_tokens (below behaviour) empty))

  -- ---- how many bodies stand in one another

  pub if_depth : (document : List ℕ) (asks : Condition) (words : List ℕ) (t e rest : SpelledBody)
      → spelled_depth (unread_if names document asks words t e rest) ≡ max (max (spelled_depth t) (spelled_depth e) + 1) (spelled_depth rest)
  if_depth document asks words t empty rest = omega arith
  if_depth document asks words t (show a r) rest = refl
  if_depth document asks words t (say a r) rest = refl
  if_depth document asks words t (add a b r) rest = refl
  if_depth document asks words t (set a b r) rest = refl
  if_depth document asks words t (copy a b r) rest = refl
  if_depth document asks words t (pour a b r) rest = refl
  if_depth document asks words t (if_then a b c d r) rest = refl
  if_depth document asks words t (if_else a b c d f r) rest = refl
  if_depth document asks words t (spawn a b c r) rest = refl

  depth_first : (x : Stmt) (xs : List Stmt) → (spelled_depth (body_of (x ∷ [])) ≤ spelled_depth (body_of (x ∷ xs))) × (spelled_depth (body_of xs) ≤ spelled_depth (body_of (x ∷ xs)))
  depth_first (stmt.Show doc) xs = (omega arith, omega arith)
  depth_first (stmt.Say words) xs = (omega arith, omega arith)
  depth_first (stmt.Add doc words) xs = (omega arith, omega arith)
  depth_first (stmt.Set doc words) xs = (omega arith, omega arith)
  depth_first (stmt.Copy from to) xs = (omega arith, omega arith)
  depth_first (stmt.Pour from to) xs = (omega arith, omega arith)
  depth_first (stmt.If choice) xs =
      let document = name_at names choice.value.doc in
      let then_is = unread_body names below choice.value.then_body in
      let else_is = unread_body names below choice.value.else_body in
      let one = if_depth document choice.value.test choice.value.text then_is else_is empty in
      let all = if_depth document choice.value.test choice.value.text then_is else_is (body_of xs) in
      (omega (arith, one, all), omega (arith, all))
  depth_first (stmt.Spawn behaviour) xs = (omega arith, omega arith)

  -- a statement goes no deeper than the body that it stands in
  pub depth_of_each : (xs : List Stmt) (i : ℕ) (x : Stmt) → i < length xs → x ≡ get_or xs i x → spelled_depth (body_of (x ∷ [])) ≤ spelled_depth (body_of xs)
  depth_of_each [] i x lt at = absurd (omega arith)
  depth_of_each (y ∷ xs) zero x lt at = omega (arith, ap (λ (s : Stmt). spelled_depth (body_of (s ∷ []))) at, (depth_first y xs).0)
  depth_of_each (y ∷ xs) (suc i) x lt at = omega (arith, depth_of_each xs i x (omega (arith, lt)) at, (depth_first y xs).1)

-- ---- what is named is there

module _ (documents behaviours : ℕ) where
  -- the first statement names what is there, and so do the others
  within_first : (x : Stmt) (xs : List Stmt) → AreWithin documents behaviours (statements_of (x ∷ xs))
      → AreWithin documents behaviours (statements_of (x ∷ [])) × AreWithin documents behaviours (statements_of xs)
  within_first (stmt.Show doc) xs (d, h) = ((d, tt), h)
  within_first (stmt.Say words) xs h = (tt, h)
  within_first (stmt.Add doc words) xs (d, h) = ((d, tt), h)
  within_first (stmt.Set doc words) xs (d, h) = ((d, tt), h)
  within_first (stmt.Copy from to) xs (d, e, h) = ((d, e, tt), h)
  within_first (stmt.Pour from to) xs (d, e, h) = ((d, e, tt), h)
  within_first (stmt.If choice) xs (d, h, i, j) = ((d, h, i, tt), j)
  within_first (stmt.Spawn behaviour) xs (b, h) = ((b, tt), h)

  -- each statement names what is there
  pub within_each : (xs : List Stmt) (i : ℕ) (x : Stmt) → i < length xs → x ≡ get_or xs i x → AreWithin documents behaviours (statements_of xs)
      → AreWithin documents behaviours (statements_of (x ∷ []))
  within_each [] i x lt at h = absurd (omega arith)
  within_each (y ∷ xs) zero x lt at h = subst (λ (s : Stmt). AreWithin documents behaviours (statements_of (s ∷ []))) (sym at) (within_first y xs h).0
  within_each (y ∷ xs) (suc i) x lt at h = within_each xs i x (omega (arith, lt)) at (within_first y xs h).1

  -- a declared document is there
  declared_is_there : (test : Mode → Bool) (accesses : List Access) (doc : ℕ) → AreIn documents accesses → IsTrue (declares test accesses doc) → doc < documents
  declared_is_there test [] doc there h = cc
  declared_is_there test (a ∷ accesses) doc there h =
      go ((a.doc == doc) && test a.mode) refl h (declared_is_there test accesses doc (All-tail (λ (access : Access). access.doc < documents) a accesses there))
    where
      go : (b : Bool) → ((a.doc == doc) && test a.mode) ≡ b → (b || declares test accesses doc) ≡ true → (declares test accesses doc ≡ true → doc < documents) → doc < documents
      go true e now later =
          let same = eqb-true a.doc doc (and_parts (a.doc == doc) (test a.mode) e).0 in
          subst (λ d. d < documents) same (All-head (λ (access : Access). access.doc < documents) a accesses there)
      go false e now later = later now

  -- statements that keep to accesses name what is there
  pub within_accesses : (accesses : List Access) (b : Statements) → AreIn documents accesses → KeepsModes accesses b → All (λ j. j < behaviours) (spawned b)
      → AreWithin documents behaviours b
  within_accesses accesses Nothing there keeps lt = tt
  within_accesses accesses (Show doc rest) there (d, keeps) lt = (declared_is_there observes accesses doc there d, within_accesses accesses rest there keeps lt)
  within_accesses accesses (Say words rest) there keeps lt = within_accesses accesses rest there keeps lt
  within_accesses accesses (Add doc words rest) there (d, keeps) lt = (declared_is_there alters accesses doc there d, within_accesses accesses rest there keeps lt)
  within_accesses accesses (Set doc words rest) there (d, keeps) lt = (declared_is_there is_write accesses doc there d, within_accesses accesses rest there keeps lt)
  within_accesses accesses (Copy from to rest) there (d, e, keeps) lt =
      (declared_is_there observes accesses from there d, declared_is_there is_write accesses to there e, within_accesses accesses rest there keeps lt)
  within_accesses accesses (Pour from to rest) there (d, e, keeps) lt =
      (declared_is_there observes accesses from there d, declared_is_there alters accesses to there e, within_accesses accesses rest there keeps lt)
  within_accesses accesses (If doc asks words t e rest) there (d, h, i, keeps) lt =
      let both = all_left (λ j. j < behaviours) (spawned t ++ spawned e) (spawned rest) lt in (
        declared_is_there observes accesses doc there d,
        within_accesses accesses t there h (all_left (λ j. j < behaviours) (spawned t) (spawned e) both),
        within_accesses accesses e there i (all_right (λ j. j < behaviours) (spawned t) (spawned e) both),
        within_accesses accesses rest there keeps (all_right (λ j. j < behaviours) (spawned t ++ spawned e) (spawned rest) lt),
      )
  within_accesses accesses (Spawn behaviour rest) there keeps lt =
      (All-head (λ j. j < behaviours) behaviour (spawned rest) lt, within_accesses accesses rest there keeps (All-tail (λ j. j < behaviours) behaviour (spawned rest) lt))

-- ---- a `when`

-- what a slice from 1 on has
pub past_first : {X : Type 0} (xs : List X) → take (length xs - 1) (drop 1 xs) ≡ drop 1 xs
past_first [] = refl
past_first (x ∷ xs) = take_all (length (x ∷ xs) - 1) xs (omega arith)

module _ (names : KnownNames) where
  -- a `when` is put: its word, its accesses, its statements between their words
  pub put_whole : {X : Type 0} (f : X → Tok → X) (old : X) (accesses : List Access) (first : Access) (body : SpelledBody) → 0 < length accesses → first ≡ get_or accesses 0 first
      → f (fold f (f (fold f (fold f (f old (reserved word.When)) (spell_access (unread_access names first) []))
      (spell_more (map (unread_access names) (drop 1 accesses)) [])) (reserved word.Do)) (spell_body body)) (reserved word.End)
      ≡ fold f old (tokens_of (unread_when names accesses body))
  put_whole f old [] first body some at = absurd (omega arith)
  put_whole f old (a ∷ accesses) first body some at =
      let more = map (unread_access names) accesses in
      let begun = fold f (f old (reserved word.When)) (spell_access (unread_access names a) []) in
      let own = spell_body body ++ reserved word.End ∷ [] in
      ap (λ (b : Access). f (fold f (f (fold f (fold f (f old (reserved word.When)) (spell_access (unread_access names b) [])) (spell_more more [])) (reserved word.Do)) (spell_body body)) (reserved word.End)) at
      ∙ sym (fold-append f (f (fold f begun (spell_more more [])) (reserved word.Do)) (spell_body body) (reserved word.End ∷ []))
      ∙ sym (fold-append f begun (spell_more more []) (reserved word.Do ∷ own))
      ∙ ap (fold f begun) (sym (more_behind more (reserved word.Do ∷ own)))

  -- the body of a `when` does not hang on its accesses
  own_body : (accesses : List Access) (body : SpelledBody) → (unread_when names accesses body).body ≡ body
  own_body [] body = refl
  own_body (first ∷ more) body = refl

  module _ (script : List Part) (k : ℕ) (statements : Statements) (lt : k < length script) (is : statements ≡ (get_or script k no_part).body) where
    -- the statements of a behaviour, as they are spelled in its `when`
    pub body_at : IsPreorder script → unread_body names (unread_at names script) statements ≡ (unread_at names script k).body
    body_at order =
        ap (unread_body names (unread_at names script)) is
        ∙ sym (own_body (get_or script k no_part).accesses (unread_body names (unread_at names script) (get_or script k no_part).body))
        ∙ ap (λ (w : SpelledWhen). w.body) (sym (unread_step names script k order lt))

    -- the statements of a behaviour name what is there
    pub within_at : IsScript script → AreThere names script → AreWithin (length names.documents) (length script) statements
    within_at right there =
        let part = get_or script k no_part in
        let behaviour : IsBehaviour part = right.each k no_part lt in
        subst (AreWithin (length names.documents) (length script)) (sym is)
        (within_accesses (length names.documents) (length script) part.accesses part.body (there k no_part lt) behaviour.modes
        (are_few (spawned part.body) (numbered_are script (k + 1) (spawned part.body) (right.preorder.numbered k lt))))
      where
        are_few : (js : List ℕ) → All (λ j. (k + 1 ≤ j) × (j < length script)) js → All (λ j. j < length script) js
        are_few [] h = All-nil (λ j. j < length script)
        are_few (j ∷ js) h =
            All-cons (λ j. j < length script) j js (All-head (λ j. (k + 1 ≤ j) × (j < length script)) j js h).1
            (are_few js (All-tail (λ j. (k + 1 ≤ j) × (j < length script)) j js h))

    -- the `when` of a behaviour is put
    pub put_at : {X : Type 0} (f : X → Tok → X) (s0 s1 s2 s3 s4 s5 : X) (accesses more : List Access) (first : Access) → IsScript script
        → accesses ≡ (get_or script k no_part).accesses → first ≡ get_or accesses 0 first → more ≡ drop 1 accesses
        → s1 ≡ f s0 (reserved word.When) → s2 ≡ fold f s1 (spell_access (unread_access names first) []) → s3 ≡ fold f s2 (spell_more (map (unread_access names) more) [])
        → s4 ≡ f s3 (reserved word.Do) → s5 ≡ fold f s4 (spell_body (unread_body names (unread_at names script) statements))
        → f s5 (reserved word.End) ≡ fold f s0 (tokens_of (unread_at names script k))
    put_at f s0 s1 s2 s3 s4 s5 accesses more first right accesses_are at more_are h1 h2 h3 h4 h5 =
        let part = get_or script k no_part in
        let behaviour : IsBehaviour part = right.each k no_part lt in
        let body = unread_body names (unread_at names script) statements in
        let some : 0 < length accesses = omega (arith, behaviour.some, ap (λ (l : List Access). length l) accesses_are) in
        let t2 = h2 ∙ ap (λ s. fold f s (spell_access (unread_access names first) [])) h1 in
        let t3 = h3 ∙ (λ i. fold f (t2 i) (spell_more (map (unread_access names) (more_are i)) [])) in
        let t5 = h5 ∙ ap (λ s. fold f s (spell_body body)) (h4 ∙ ap (λ s. f s (reserved word.Do)) t3) in
        ap (λ s. f s (reserved word.End)) t5
        ∙ put_whole f s0 accesses first body some at
        ∙ ap (λ w. fold f s0 (tokens_of w))
        ((λ i. unread_when names (accesses_are i) (unread_body names (unread_at names script) (is i))) ∙ sym (unread_step names script k right.preorder lt))

-- ---- an `else`

-- where there is a statement, there is an `else`
pub else_tokens : (names : KnownNames) (below : ℕ → SpelledWhen) (statements : List Stmt) → 0 < length statements
    → spell_else (unread_body names below (statements_of statements)) ≡ reserved word.Else ∷ spell_body (unread_body names below (statements_of statements))
else_tokens names below [] some = absurd (omega arith)
else_tokens names below (stmt.Show doc ∷ xs) some = refl
else_tokens names below (stmt.Say words ∷ xs) some = refl
else_tokens names below (stmt.Add doc words ∷ xs) some = refl
else_tokens names below (stmt.Set doc words ∷ xs) some = refl
else_tokens names below (stmt.Copy from to ∷ xs) some = refl
else_tokens names below (stmt.Pour from to ∷ xs) some = refl
else_tokens names below (stmt.If choice ∷ xs) some =
    let c = choice.value in
    if_else_tokens (name_at names c.doc) c.test c.text (unread_body names below c.then_body) (unread_body names below c.else_body)
    (unread_body names below (statements_of xs))
  where
    if_else_tokens : (document : List ℕ) (asks : Condition) (words : List ℕ) (t e rest : SpelledBody)
        → spell_else (unread_if names document asks words t e rest) ≡ reserved word.Else ∷ spell_body (unread_if names document asks words t e rest)
    if_else_tokens document asks words t empty rest = refl
    if_else_tokens document asks words t (show a r) rest = refl
    if_else_tokens document asks words t (say a r) rest = refl
    if_else_tokens document asks words t (add a b r) rest = refl
    if_else_tokens document asks words t (set a b r) rest = refl
    if_else_tokens document asks words t (copy a b r) rest = refl
    if_else_tokens document asks words t (pour a b r) rest = refl
    if_else_tokens document asks words t (if_then a b c d r) rest = refl
    if_else_tokens document asks words t (if_else a b c d f r) rest = refl
    if_else_tokens document asks words t (spawn a b c r) rest = refl
else_tokens names below (stmt.Spawn behaviour ∷ xs) some = refl
