-- Two lists of statements that are the same are so one by one.
use Rattle.std.proofs.Common.{◌≡◌, ℕ, zero, suc, ◌+◌, ◌<◌, List, [], ◌∷◌, ◌++◌, length, get_or, take, refl, ap, sym, ◌∙◌, arith, add-one}
use Rattle.bl_work.specs.Statements.{Statements}
use Rattle.bl_work.specs.Body.{statements_of}
use Rattle.bl_work.specs.declared.script.Stmt.{Stmt}
use Rattle.bl_work.specs.declared.script.Stmt.TheVariants.{Show, Say, Add, Set, Copy, Pour, If, Spawn}

abbrev count : Statements → ℕ
count Statements.Nothing = 0
count (Statements.Show doc rest) = suc (count rest)
count (Statements.Say text rest) = suc (count rest)
count (Statements.Add doc text rest) = suc (count rest)
count (Statements.Set doc text rest) = suc (count rest)
count (Statements.Copy from to rest) = suc (count rest)
count (Statements.Pour from to rest) = suc (count rest)
count (Statements.If doc asks text then_body else_body rest) = suc (count rest)
count (Statements.Spawn behaviour rest) = suc (count rest)

count-statements_of : (xs : List Stmt) → count (statements_of xs) ≡ length xs
count-statements_of [] = refl
count-statements_of (Show doc ∷ xs) = ap suc (count-statements_of xs)
count-statements_of (Say text ∷ xs) = ap suc (count-statements_of xs)
count-statements_of (Add doc text ∷ xs) = ap suc (count-statements_of xs)
count-statements_of (Set doc text ∷ xs) = ap suc (count-statements_of xs)
count-statements_of (Copy from to ∷ xs) = ap suc (count-statements_of xs)
count-statements_of (Pour from to ∷ xs) = ap suc (count-statements_of xs)
count-statements_of (If choice ∷ xs) = ap suc (count-statements_of xs)
count-statements_of (Spawn behaviour ∷ xs) = ap suc (count-statements_of xs)

-- there are as many
pub same-length : (xs ys : List Stmt) → statements_of xs ≡ statements_of ys → length xs ≡ length ys
same-length xs ys e = sym (count-statements_of xs) ∙ ap count e ∙ count-statements_of ys

abbrev first : Statements → Statements
first Statements.Nothing = Statements.Nothing
first (Statements.Show doc rest) = Statements.Show doc Statements.Nothing
first (Statements.Say text rest) = Statements.Say text Statements.Nothing
first (Statements.Add doc text rest) = Statements.Add doc text Statements.Nothing
first (Statements.Set doc text rest) = Statements.Set doc text Statements.Nothing
first (Statements.Copy from to rest) = Statements.Copy from to Statements.Nothing
first (Statements.Pour from to rest) = Statements.Pour from to Statements.Nothing
first (Statements.If doc asks text then_body else_body rest) = Statements.If doc asks text then_body else_body Statements.Nothing
first (Statements.Spawn behaviour rest) = Statements.Spawn behaviour Statements.Nothing

abbrev others : Statements → Statements
others Statements.Nothing = Statements.Nothing
others (Statements.Show doc rest) = rest
others (Statements.Say text rest) = rest
others (Statements.Add doc text rest) = rest
others (Statements.Set doc text rest) = rest
others (Statements.Copy from to rest) = rest
others (Statements.Pour from to rest) = rest
others (Statements.If doc asks text then_body else_body rest) = rest
others (Statements.Spawn behaviour rest) = rest

first-statements_of : (x : Stmt) (xs : List Stmt) → first (statements_of (x ∷ xs)) ≡ statements_of (x ∷ [])
first-statements_of (Show doc) xs = refl
first-statements_of (Say text) xs = refl
first-statements_of (Add doc text) xs = refl
first-statements_of (Set doc text) xs = refl
first-statements_of (Copy from to) xs = refl
first-statements_of (Pour from to) xs = refl
first-statements_of (If choice) xs = refl
first-statements_of (Spawn behaviour) xs = refl

others-statements_of : (x : Stmt) (xs : List Stmt) → others (statements_of (x ∷ xs)) ≡ statements_of xs
others-statements_of (Show doc) xs = refl
others-statements_of (Say text) xs = refl
others-statements_of (Add doc text) xs = refl
others-statements_of (Set doc text) xs = refl
others-statements_of (Copy from to) xs = refl
others-statements_of (Pour from to) xs = refl
others-statements_of (If choice) xs = refl
others-statements_of (Spawn behaviour) xs = refl

-- each is the same
pub same-at : (xs ys : List Stmt) (i : ℕ) (x y : Stmt) → statements_of xs ≡ statements_of ys → i < length xs → i < length ys → x ≡ get_or xs i x → y ≡ get_or ys i y
    → statements_of (x ∷ []) ≡ statements_of (y ∷ [])
same-at [] ys i x y e lt lt' at at' = absurd (omega arith)
same-at (a ∷ xs) [] i x y e lt lt' at at' = absurd (omega arith)
same-at (a ∷ xs) (b ∷ ys) zero x y e lt lt' at at' =
    ap (λ s. statements_of (s ∷ [])) at ∙ sym (first-statements_of a xs) ∙ ap first e ∙ first-statements_of b ys ∙ ap (λ s. statements_of (s ∷ [])) (sym at')
same-at (a ∷ xs) (b ∷ ys) (suc i) x y e lt lt' at at' =
    same-at xs ys i x y (sym (others-statements_of a xs) ∙ ap others e ∙ others-statements_of b ys) (omega arith) (omega arith) at at'

abbrev joined : Statements → Statements → Statements
joined Statements.Nothing more = more
joined (Statements.Show doc rest) more = Statements.Show doc (joined rest more)
joined (Statements.Say text rest) more = Statements.Say text (joined rest more)
joined (Statements.Add doc text rest) more = Statements.Add doc text (joined rest more)
joined (Statements.Set doc text rest) more = Statements.Set doc text (joined rest more)
joined (Statements.Copy from to rest) more = Statements.Copy from to (joined rest more)
joined (Statements.Pour from to rest) more = Statements.Pour from to (joined rest more)
joined (Statements.If doc asks text then_body else_body rest) more = Statements.If doc asks text then_body else_body (joined rest more)
joined (Statements.Spawn behaviour rest) more = Statements.Spawn behaviour (joined rest more)

statements_of-append : (xs ys : List Stmt) → statements_of (xs ++ ys) ≡ joined (statements_of xs) (statements_of ys)
statements_of-append [] ys = refl
statements_of-append (Show doc ∷ xs) ys = ap (λ s. Statements.Show doc s) (statements_of-append xs ys)
statements_of-append (Say text ∷ xs) ys = ap (λ s. Statements.Say text s) (statements_of-append xs ys)
statements_of-append (Add doc text ∷ xs) ys = ap (λ s. Statements.Add doc text s) (statements_of-append xs ys)
statements_of-append (Set doc text ∷ xs) ys = ap (λ s. Statements.Set doc text s) (statements_of-append xs ys)
statements_of-append (Copy from to ∷ xs) ys = ap (λ s. Statements.Copy from to s) (statements_of-append xs ys)
statements_of-append (Pour from to ∷ xs) ys = ap (λ s. Statements.Pour from to s) (statements_of-append xs ys)
statements_of-append (If choice ∷ xs) ys =
    let c = choice.value in ap (λ s. Statements.If c.doc c.test c.text c.then_body c.else_body s) (statements_of-append xs ys)
statements_of-append (Spawn behaviour ∷ xs) ys = ap (λ s. Statements.Spawn behaviour s) (statements_of-append xs ys)

take-next : (xs : List Stmt) (i : ℕ) (d : Stmt) → i < length xs → take (suc i) xs ≡ take i xs ++ get_or xs i d ∷ []
take-next [] i d lt = absurd (omega arith)
take-next (x ∷ xs) zero d lt = refl
take-next (x ∷ xs) (suc i) d lt = ap (λ l. x ∷ l) (take-next xs i d (omega arith))

-- one more is the same
pub same-more : (xs ys : List Stmt) (i : ℕ) (x y : Stmt) → statements_of (take i xs) ≡ statements_of (take i ys) → statements_of (x ∷ []) ≡ statements_of (y ∷ [])
    → i < length xs → i < length ys → x ≡ get_or xs i x → y ≡ get_or ys i y → statements_of (take (i + 1) xs) ≡ statements_of (take (i + 1) ys)
same-more xs ys i x y so_far one lt lt' at at' =
    rw add-one (ap statements_of (take-next xs i x lt ∙ ap (λ s. take i xs ++ s ∷ []) (sym at)) ∙ statements_of-append (take i xs) (x ∷ [])
    ∙ ap (λ s. joined s (statements_of (x ∷ []))) so_far ∙ ap (joined (statements_of (take i ys))) one
    ∙ sym (statements_of-append (take i ys) (y ∷ [])) ∙ ap statements_of (sym (take-next ys i y lt' ∙ ap (λ s. take i ys ++ s ∷ []) (sym at'))))
