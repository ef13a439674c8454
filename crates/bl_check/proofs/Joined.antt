-- What stands in a body that is put together from two.
use Rattle.std.proofs.Common.{◌≡◌, ℕ, zero, suc, ◌+◌, ◌<◌, ◌≤◌, max, List, [], ◌∷◌, ◌++◌, length, get_or, map, refl, ap, sym, ◌∙◌, arith, append_assoc}
use Rattle.bl_work.specs.Spelled.{SpelledAccess, SpelledBody, empty, show, say, add, set, copy, pour, if_then, if_else, spawn}
use Rattle.bl_syntax.specs.RawBodies.{raw_access, raw_body}
use Rattle.bl_work.specs.SpelledDepth.{spelled_depth}
use Rattle.bl_work.specs.Meaning.{whens}
use Rattle.bl_work.specs.WhenFaults.{depth_in, lists_in, documents_in, names_in, declarations_behind, declarations_in, uses_in}
use Rattle.bl_work.specs.Modes.{observes, alters, is_write}
use Rattle.bl_syntax.specs.declared.raw.RawStatement.{RawStatement}
use Rattle.bl_syntax.specs.declared.raw.RawStatement.TheVariants.{Show, Say, Add, Set, Copy, Pour, IfThen, IfElse, Spawn}

-- one body behind the other
abbrev pub joined : SpelledBody → SpelledBody → SpelledBody
joined empty behind = behind
joined (show document rest) behind = show document (joined rest behind)
joined (say words rest) behind = say words (joined rest behind)
joined (add document words rest) behind = add document words (joined rest behind)
joined (set document words rest) behind = set document words (joined rest behind)
joined (copy from to rest) behind = copy from to (joined rest behind)
joined (pour from to rest) behind = pour from to (joined rest behind)
joined (if_then document asks words then_body rest) behind = if_then document asks words then_body (joined rest behind)
joined (if_else document asks words then_body else_body rest) behind = if_else document asks words then_body else_body (joined rest behind)
joined (spawn first more body rest) behind = spawn first more body (joined rest behind)

pub raw_body-append : (xs ys : List RawStatement) → raw_body (xs ++ ys) ≡ joined (raw_body xs) (raw_body ys)
raw_body-append [] ys = refl
raw_body-append (Show document ∷ xs) ys = ap (λ b. show document.now b) (raw_body-append xs ys)
raw_body-append (Say words ∷ xs) ys = ap (λ b. say words.now b) (raw_body-append xs ys)
raw_body-append (Add document words ∷ xs) ys = ap (λ b. add document.now words.now b) (raw_body-append xs ys)
raw_body-append (Set document words ∷ xs) ys = ap (λ b. set document.now words.now b) (raw_body-append xs ys)
raw_body-append (Copy from to ∷ xs) ys = ap (λ b. copy from.now to.now b) (raw_body-append xs ys)
raw_body-append (Pour from to ∷ xs) ys = ap (λ b. pour from.now to.now b) (raw_body-append xs ys)
raw_body-append (IfThen choice ∷ xs) ys =
    let c = choice.value in ap (λ b. if_then c.document.now c.test c.text.now c.then_body b) (raw_body-append xs ys)
raw_body-append (IfElse choice ∷ xs) ys =
    let c = choice.value in ap (λ b. if_else c.document.now c.test c.text.now c.then_body c.else_body b) (raw_body-append xs ys)
raw_body-append (Spawn spawned ∷ xs) ys =
    let w = spawned.value in ap (λ b. spawn (raw_access w.first) (map raw_access w.more.items) w.body b) (raw_body-append xs ys)

-- ---- each list of a body, in two bodies

three : {X : Type 0} (a b c d : List X) → a ++ (b ++ (c ++ d)) ≡ a ++ (b ++ c) ++ d
three a b c d = ap (λ l. a ++ l) (sym (append_assoc b c d)) ∙ sym (append_assoc a (b ++ c) d)

pub names_in-joined : (a b : SpelledBody) → names_in (joined a b) ≡ names_in a ++ names_in b
names_in-joined empty b = refl
names_in-joined (show document rest) b = ap (λ l. document ∷ l) (names_in-joined rest b)
names_in-joined (say words rest) b = names_in-joined rest b
names_in-joined (add document words rest) b = ap (λ l. document ∷ l) (names_in-joined rest b)
names_in-joined (set document words rest) b = ap (λ l. document ∷ l) (names_in-joined rest b)
names_in-joined (copy from to rest) b = ap (λ l. from ∷ to ∷ l) (names_in-joined rest b)
names_in-joined (pour from to rest) b = ap (λ l. from ∷ to ∷ l) (names_in-joined rest b)
names_in-joined (if_then document asks words then_body rest) b =
    ap (λ l. document ∷ (names_in then_body ++ l)) (names_in-joined rest b)
    ∙ ap (λ l. document ∷ l) (sym (append_assoc (names_in then_body) (names_in rest) (names_in b)))
names_in-joined (if_else document asks words then_body else_body rest) b =
    ap (λ l. document ∷ (names_in then_body ++ (names_in else_body ++ l))) (names_in-joined rest b)
    ∙ ap (λ l. document ∷ l) (three (names_in then_body) (names_in else_body) (names_in rest) (names_in b))
names_in-joined (spawn first more body rest) b =
    ap (λ l. documents_in (first ∷ more) ++ (names_in body ++ l)) (names_in-joined rest b)
    ∙ three (documents_in (first ∷ more)) (names_in body) (names_in rest) (names_in b)

pub declarations_in-joined : (a b : SpelledBody) → declarations_in (joined a b) ≡ declarations_in a ++ declarations_in b
declarations_in-joined empty b = refl
declarations_in-joined (show document rest) b = declarations_in-joined rest b
declarations_in-joined (say words rest) b = declarations_in-joined rest b
declarations_in-joined (add document words rest) b = declarations_in-joined rest b
declarations_in-joined (set document words rest) b = declarations_in-joined rest b
declarations_in-joined (copy from to rest) b = declarations_in-joined rest b
declarations_in-joined (pour from to rest) b = declarations_in-joined rest b
declarations_in-joined (if_then document asks words then_body rest) b =
    ap (λ l. declarations_in then_body ++ l) (declarations_in-joined rest b)
    ∙ sym (append_assoc (declarations_in then_body) (declarations_in rest) (declarations_in b))
declarations_in-joined (if_else document asks words then_body else_body rest) b =
    ap (λ l. declarations_in then_body ++ (declarations_in else_body ++ l)) (declarations_in-joined rest b)
    ∙ three (declarations_in then_body) (declarations_in else_body) (declarations_in rest) (declarations_in b)
declarations_in-joined (spawn first more body rest) b =
    ap (λ l. declarations_behind [] (first ∷ more) ++ (declarations_in body ++ l)) (declarations_in-joined rest b)
    ∙ three (declarations_behind [] (first ∷ more)) (declarations_in body) (declarations_in rest) (declarations_in b)

pub uses_in-joined : (declared : List SpelledAccess) (a b : SpelledBody) → uses_in declared (joined a b) ≡ uses_in declared a ++ uses_in declared b
uses_in-joined declared empty b = refl
uses_in-joined declared (show document rest) b =
    ap (λ l. record { declared = declared; asked = observes; document = document } ∷ l) (uses_in-joined declared rest b)
uses_in-joined declared (say words rest) b = uses_in-joined declared rest b
uses_in-joined declared (add document words rest) b =
    ap (λ l. record { declared = declared; asked = alters; document = document } ∷ l) (uses_in-joined declared rest b)
uses_in-joined declared (set document words rest) b =
    ap (λ l. record { declared = declared; asked = is_write; document = document } ∷ l) (uses_in-joined declared rest b)
uses_in-joined declared (copy from to rest) b =
    ap (λ l. record { declared = declared; asked = observes; document = from } ∷ record { declared = declared; asked = is_write; document = to } ∷ l) (uses_in-joined declared rest b)
uses_in-joined declared (pour from to rest) b =
    ap (λ l. record { declared = declared; asked = observes; document = from } ∷ record { declared = declared; asked = alters; document = to } ∷ l) (uses_in-joined declared rest b)
uses_in-joined declared (if_then document asks words then_body rest) b =
    ap (λ l. record { declared = declared; asked = observes; document = document } ∷ (uses_in declared then_body ++ l)) (uses_in-joined declared rest b)
    ∙ ap (λ l. record { declared = declared; asked = observes; document = document } ∷ l) (sym (append_assoc (uses_in declared then_body) (uses_in declared rest) (uses_in declared b)))
uses_in-joined declared (if_else document asks words then_body else_body rest) b =
    ap (λ l. record { declared = declared; asked = observes; document = document } ∷ (uses_in declared then_body ++ (uses_in declared else_body ++ l))) (uses_in-joined declared rest b)
    ∙ ap (λ l. record { declared = declared; asked = observes; document = document } ∷ l) (three (uses_in declared then_body) (uses_in declared else_body) (uses_in declared rest) (uses_in declared b))
uses_in-joined declared (spawn first more body rest) b =
    ap (λ l. uses_in (first ∷ more) body ++ l) (uses_in-joined declared rest b)
    ∙ sym (append_assoc (uses_in (first ∷ more) body) (uses_in declared rest) (uses_in declared b))

pub lists_in-joined : (a b : SpelledBody) → lists_in (joined a b) ≡ lists_in a ++ lists_in b
lists_in-joined empty b = refl
lists_in-joined (show document rest) b = lists_in-joined rest b
lists_in-joined (say words rest) b = lists_in-joined rest b
lists_in-joined (add document words rest) b = lists_in-joined rest b
lists_in-joined (set document words rest) b = lists_in-joined rest b
lists_in-joined (copy from to rest) b = lists_in-joined rest b
lists_in-joined (pour from to rest) b = lists_in-joined rest b
lists_in-joined (if_then document asks words then_body rest) b =
    ap (λ l. lists_in then_body ++ l) (lists_in-joined rest b) ∙ sym (append_assoc (lists_in then_body) (lists_in rest) (lists_in b))
lists_in-joined (if_else document asks words then_body else_body rest) b =
    ap (λ l. lists_in then_body ++ (lists_in else_body ++ l)) (lists_in-joined rest b)
    ∙ three (lists_in then_body) (lists_in else_body) (lists_in rest) (lists_in b)
lists_in-joined (spawn first more body rest) b =
    ap (λ l. (first ∷ more) ∷ (lists_in body ++ l)) (lists_in-joined rest b)
    ∙ ap (λ l. (first ∷ more) ∷ l) (sym (append_assoc (lists_in body) (lists_in rest) (lists_in b)))

-- ---- the two numbers of a body, in two bodies

pub whens-joined : (a b : SpelledBody) → whens (joined a b) ≡ whens a + whens b
whens-joined empty b = omega arith
whens-joined (show document rest) b = whens-joined rest b
whens-joined (say words rest) b = whens-joined rest b
whens-joined (add document words rest) b = whens-joined rest b
whens-joined (set document words rest) b = whens-joined rest b
whens-joined (copy from to rest) b = whens-joined rest b
whens-joined (pour from to rest) b = whens-joined rest b
whens-joined (if_then document asks words then_body rest) b = omega (arith, whens-joined rest b)
whens-joined (if_else document asks words then_body else_body rest) b = omega (arith, whens-joined rest b)
whens-joined (spawn first more body rest) b = omega (arith, whens-joined rest b)

pub depth_in-joined : (a b : SpelledBody) → depth_in (joined a b) ≡ max (depth_in a) (depth_in b)
depth_in-joined empty b = omega arith
depth_in-joined (show document rest) b = depth_in-joined rest b
depth_in-joined (say words rest) b = depth_in-joined rest b
depth_in-joined (add document words rest) b = depth_in-joined rest b
depth_in-joined (set document words rest) b = depth_in-joined rest b
depth_in-joined (copy from to rest) b = depth_in-joined rest b
depth_in-joined (pour from to rest) b = depth_in-joined rest b
depth_in-joined (if_then document asks words then_body rest) b = omega (arith, depth_in-joined rest b)
depth_in-joined (if_else document asks words then_body else_body rest) b = omega (arith, depth_in-joined rest b)
depth_in-joined (spawn first more body rest) b = omega (arith, depth_in-joined rest b)

-- ---- how many bodies stand in one another

depth-cons : (x : RawStatement) (xs : List RawStatement) → (spelled_depth (raw_body (x ∷ [])) ≤ spelled_depth (raw_body (x ∷ xs))) × (spelled_depth (raw_body xs) ≤ spelled_depth (raw_body (x ∷ xs)))
depth-cons (Show document) xs = (omega arith, omega arith)
depth-cons (Say words) xs = (omega arith, omega arith)
depth-cons (Add document words) xs = (omega arith, omega arith)
depth-cons (Set document words) xs = (omega arith, omega arith)
depth-cons (Copy from to) xs = (omega arith, omega arith)
depth-cons (Pour from to) xs = (omega arith, omega arith)
depth-cons (IfThen choice) xs = (omega arith, omega arith)
depth-cons (IfElse choice) xs = (omega arith, omega arith)
depth-cons (Spawn spawned) xs = (omega arith, omega arith)

-- a statement goes no deeper than the body that it stands in
pub depth-at : (xs : List RawStatement) (i : ℕ) (x : RawStatement) → i < length xs → x ≡ get_or xs i x → spelled_depth (raw_body (x ∷ [])) ≤ spelled_depth (raw_body xs)
depth-at [] i x lt at = absurd (omega arith)
depth-at (y ∷ xs) zero x lt at = omega (arith, ap (λ (s : RawStatement). spelled_depth (raw_body (s ∷ []))) at, (depth-cons y xs).0)
depth-at (y ∷ xs) (suc i) x lt at = omega (arith, depth-at xs i x (omega arith) at, (depth-cons y xs).1)

depth_in-cons : (x : RawStatement) (xs : List RawStatement) → (depth_in (raw_body (x ∷ [])) ≤ depth_in (raw_body (x ∷ xs))) × (depth_in (raw_body xs) ≤ depth_in (raw_body (x ∷ xs)))
depth_in-cons (Show document) xs = (omega arith, omega arith)
depth_in-cons (Say words) xs = (omega arith, omega arith)
depth_in-cons (Add document words) xs = (omega arith, omega arith)
depth_in-cons (Set document words) xs = (omega arith, omega arith)
depth_in-cons (Copy from to) xs = (omega arith, omega arith)
depth_in-cons (Pour from to) xs = (omega arith, omega arith)
depth_in-cons (IfThen choice) xs = (omega arith, omega arith)
depth_in-cons (IfElse choice) xs = (omega arith, omega arith)
depth_in-cons (Spawn spawned) xs = (omega arith, omega arith)

-- nothing in a statement is deeper than the deepest of its body
pub depth_in-at : (xs : List RawStatement) (i : ℕ) (x : RawStatement) → i < length xs → x ≡ get_or xs i x → depth_in (raw_body (x ∷ [])) ≤ depth_in (raw_body xs)
depth_in-at [] i x lt at = absurd (omega arith)
depth_in-at (y ∷ xs) zero x lt at = omega (arith, ap (λ (s : RawStatement). depth_in (raw_body (s ∷ []))) at, (depth_in-cons y xs).0)
depth_in-at (y ∷ xs) (suc i) x lt at = omega (arith, depth_in-at xs i x (omega arith) at, (depth_in-cons y xs).1)
