-- The numeric order of labels.
use Rattle.std.proofs.Common.{◌≡◌, ◌≢◌, ℕ, ◌<◌, ◌≤◌, true, false, ◌&&◌, ◌||◌, eqb, List, [], ◌∷◌, ◌++◌, length, refl, sym, ap, ◌∙◌, arith, lt-ltb, le-ltb, ne_eqb, eq-eqb, true≢false, inl, inr, ◌⊎◌, length-append}
use Rattle.bl_order.specs.Labels.{is_before}

pub three_ways : (m n : ℕ) → (m < n) ⊎ ((m ≡ n) ⊎ (n < m))
three_ways m n = grind arith

head-less : (m n : ℕ) (a b : List ℕ) → m < n → is_before (m ∷ a) (n ∷ b) ≡ true
head-less m n a b lt = ap (λ t. t || (eqb m n && is_before a b)) (lt-ltb m n lt)

head-more : (m n : ℕ) (a b : List ℕ) → n < m → is_before (m ∷ a) (n ∷ b) ≡ false
head-more m n a b lt =
    let le : n ≤ m = omega arith in
    let other : m ≢ n = λ e. omega (arith, lt, e) in
    ap (λ t. t || (eqb m n && is_before a b)) (le-ltb m n le) ∙ ap (λ t. t && is_before a b) (ne_eqb m n other)

head-same : (m n : ℕ) (a b : List ℕ) → m ≡ n → is_before (m ∷ a) (n ∷ b) ≡ is_before a b
head-same m n a b same =
    let le : n ≤ m = omega (arith, same) in
    ap (λ t. t || (eqb m n && is_before a b)) (le-ltb m n le) ∙ ap (λ t. t && is_before a b) (eq-eqb m n same)

-- what is before another is not behind it
pub before-once : (a b : List ℕ) → is_before a b ≡ true → is_before b a ≡ false
before-once [] [] h = refl
before-once [] (n ∷ b) h = refl
before-once (m ∷ a) [] h = absurd (true≢false (sym h))
before-once (m ∷ a) (n ∷ b) h = go (three_ways m n) (before-once a b)
  where
    go : (m < n) ⊎ ((m ≡ n) ⊎ (n < m)) → (is_before a b ≡ true → is_before b a ≡ false) → is_before (n ∷ b) (m ∷ a) ≡ false
    go (inl lt) deeper = head-more n m b a lt
    go (inr (inl same)) deeper = head-same n m b a (sym same) ∙ deeper (sym (head-same m n a b same) ∙ h)
    go (inr (inr gt)) deeper = absurd (true≢false (sym h ∙ head-more m n a b gt))

-- what is not before the later of two is not before the earlier
pub before-far : (a b c : List ℕ) → is_before a b ≡ true → is_before c b ≡ false → is_before c a ≡ false
before-far [] [] c h k = absurd (true≢false (sym h))
before-far [] (n ∷ b) [] h k = refl
before-far [] (n ∷ b) (p ∷ c) h k = refl
before-far (m ∷ a) [] c h k = absurd (true≢false (sym h))
before-far (m ∷ a) (n ∷ b) [] h k = absurd (true≢false k)
before-far (m ∷ a) (n ∷ b) (p ∷ c) h k = go (three_ways m n) (three_ways p n) (before-far a b c)
  where
    go : (m < n) ⊎ ((m ≡ n) ⊎ (n < m)) → (p < n) ⊎ ((p ≡ n) ⊎ (n < p)) → (is_before a b ≡ true → is_before c b ≡ false → is_before c a ≡ false)
        → is_before (p ∷ c) (m ∷ a) ≡ false
    go (inr (inr gt)) q deeper = absurd (true≢false (sym h ∙ head-more m n a b gt))
    go (inl lt) (inl less) deeper = absurd (true≢false (sym (head-less p n c b less) ∙ k))
    go (inl lt) (inr (inl same)) deeper = head-more p m c a (omega (arith, lt, same))
    go (inl lt) (inr (inr more)) deeper = head-more p m c a (omega (arith, lt, more))
    go (inr (inl one)) (inl less) deeper = absurd (true≢false (sym (head-less p n c b less) ∙ k))
    go (inr (inl one)) (inr (inl same)) deeper =
        head-same p m c a (same ∙ sym one) ∙ deeper (sym (head-same m n a b one) ∙ h) (sym (head-same p n c b same) ∙ k)
    go (inr (inl one)) (inr (inr more)) deeper = head-more p m c a (omega (arith, one, more))

-- of two labels one is before the other
pub before-other : (a b : List ℕ) → is_before a b ≡ false → a ≢ b → is_before b a ≡ true
before-other [] [] h other = absurd (other refl)
before-other [] (n ∷ b) h other = absurd (true≢false h)
before-other (m ∷ a) [] h other = refl
before-other (m ∷ a) (n ∷ b) h other = go (three_ways m n) (before-other a b)
  where
    go : (m < n) ⊎ ((m ≡ n) ⊎ (n < m)) → (is_before a b ≡ false → a ≢ b → is_before b a ≡ true) → is_before (n ∷ b) (m ∷ a) ≡ true
    go (inl lt) deeper = absurd (true≢false (sym (head-less m n a b lt) ∙ h))
    go (inr (inl same)) deeper = head-same n m b a (sym same) ∙ deeper (sym (head-same m n a b same) ∙ h) (λ e. other (λ i. same i ∷ e i))
    go (inr (inr gt)) deeper = head-less n m b a gt

-- a longer label stands behind what its front stands behind
pub before-longer : (l w a : List ℕ) → is_before l a ≡ false → is_before (l ++ w) a ≡ false
before-longer [] w [] h = nothing w
  where
    nothing : (w : List ℕ) → is_before w [] ≡ false
    nothing [] = refl
    nothing (m ∷ w) = refl
before-longer [] w (n ∷ a) h = absurd (true≢false h)
before-longer (m ∷ l) w [] h = refl
before-longer (m ∷ l) w (n ∷ a) h = go (three_ways m n) (before-longer l w a)
  where
    go : (m < n) ⊎ ((m ≡ n) ⊎ (n < m)) → (is_before l a ≡ false → is_before (l ++ w) a ≡ false) → is_before (m ∷ (l ++ w)) (n ∷ a) ≡ false
    go (inl lt) deeper = absurd (true≢false (sym (head-less m n l a lt) ∙ h))
    go (inr (inl same)) deeper = head-same m n (l ++ w) a same ∙ deeper (sym (head-same m n l a same) ∙ h)
    go (inr (inr gt)) deeper = head-more m n (l ++ w) a gt

pub before-itself : (l w : List ℕ) → is_before (l ++ w) l ≡ false
before-itself l w = before-longer l w l (never l)
  where
    never : (l : List ℕ) → is_before l l ≡ false
    never [] = refl
    never (m ∷ l) = head-same m m l l refl ∙ never l

-- a longer label stands before what its front stands before and is no front of
pub before-beside : (l w b : List ℕ) → is_before b l ≡ false → ((rest : List ℕ) → b ≡ l ++ rest → ⊥) → is_before (l ++ w) b ≡ true
before-beside [] w b h apart = absurd (apart b refl)
before-beside (m ∷ l) w [] h apart = absurd (true≢false h)
before-beside (m ∷ l) w (n ∷ b) h apart = go (three_ways m n) (before-beside l w b)
  where
    go : (m < n) ⊎ ((m ≡ n) ⊎ (n < m))
        → (is_before b l ≡ false → ((rest : List ℕ) → b ≡ l ++ rest → ⊥) → is_before (l ++ w) b ≡ true) → is_before (m ∷ (l ++ w)) (n ∷ b) ≡ true
    go (inl lt) deeper = head-less m n (l ++ w) b lt
    go (inr (inl same)) deeper =
        head-same m n (l ++ w) b same
        ∙ deeper (sym (head-same n m b l (sym same)) ∙ h) (λ rest e. apart rest (ap (λ k. k ∷ b) (sym same) ∙ ap (λ t. m ∷ t) e))
    go (inr (inr gt)) deeper = absurd (true≢false (sym (head-less n m b l gt) ∙ h))

-- of two children the one of the greater number is not before the other
pub before-children : (l : List ℕ) (i j : ℕ) → i < j → is_before (l ++ j ∷ []) (l ++ i ∷ []) ≡ false
before-children [] i j lt = head-more j i [] [] lt
before-children (m ∷ l) i j lt = head-same m m (l ++ j ∷ []) (l ++ i ∷ []) refl ∙ before-children l i j lt

-- ---- labels by their ends

no_end : (a : List ℕ) (x : ℕ) → [] ≡ a ++ x ∷ [] → ⊥
no_end a x e = omega (arith, ap length e, length-append a (x ∷ []))

pub same_ends : (a b : List ℕ) (x y : ℕ) → a ++ x ∷ [] ≡ b ++ y ∷ [] → (a ≡ b) × (x ≡ y)
same_ends [] [] x y e = (refl, cc)
same_ends [] (n ∷ b) x y e = let rest : [] ≡ b ++ y ∷ [] = cc in absurd (no_end b y rest)
same_ends (m ∷ a) [] x y e = let rest : a ++ x ∷ [] ≡ [] = cc in absurd (no_end a x (sym rest))
same_ends (m ∷ a) (n ∷ b) x y e =
    let rest : a ++ x ∷ [] ≡ b ++ y ∷ [] = cc in
    let one : m ≡ n = cc in
    let deeper = same_ends a b x y rest in
    ((λ i. one i ∷ deeper.0 i), deeper.1)

pub split_end : (r : ℕ) (rest : List ℕ) → (front : List ℕ) × (x : ℕ) × (r ∷ rest ≡ front ++ x ∷ [])
split_end r [] = ([], r, refl)
split_end r (s ∷ rest) = let deeper = split_end s rest in (r ∷ deeper.0, deeper.1, ap (λ t. r ∷ t) deeper.2)
