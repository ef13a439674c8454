-- The cells against the set of triples that they stand for.
use Rattle.std.proofs.Common.{◌≡◌, ◌≢◌, ◌⊎◌, inl, inr, ℕ, zero, suc, ◌+◌, ◌*◌, ◌/◌, ◌%◌, ◌<◌, ◌≤◌, Bool, true, false, not, ◌&&◌, ◌||◌, ◌==◌, refl, sym, ◌∙◌, ap, arith, List, [], ◌∷◌, ◌++◌, length, get_or, set, replicate}
use Rattle.std.proofs.lemmas.Bool.{cases_eq, cases_lt}
use Rattle.std.proofs.lemmas.Bool.Decides.{nat_tests}
use Rattle.std.proofs.lemmas.List.{get_or-set_same, get_or-set_other}
use Rattle.bl_policy.specs.declared.access.Mode.{Mode}
use Rattle.bl_policy.specs.declared.access.Mode.TheVariants.{Read, Append, Write}
use Rattle.bl_policy.specs.declared.access.ModeSet.{ModeSet}
use Rattle.bl_policy.specs.Mode.{place_of, has_mode}
use Rattle.bl_policy.specs.Matrix.{Matrix, Triple, triple, no_triple, is_in, take_out, without_document, put_modes}
use Rattle.bl_policy.specs.Cells.{matrix_from, matrix_of}
use Rattle.bl_policy.proofs.Triples.{is_at, three, same_triple, is_in-put_modes, is_in-take_out, is_in-without_document, one_number, two_numbers, same_members_set}

abbrev pub no_mode : ModeSet
no_mode = record { 0 = 0 }

pub no_mode-none : (m : Mode) → has_mode no_mode m ≡ false
no_mode-none Read = refl
no_mode-none Append = refl
no_mode-none Write = refl

-- the triple is that of a cell from place k on
abbrev in_cells : ℕ → List ModeSet → Triple → Bool
in_cells k [] t = false
in_cells k (cell ∷ rest) t = (is_at t (k / 1024) (k % 1024) && has_mode cell t.mode) || in_cells (suc k) rest t

is_in-matrix_from : (k : ℕ) (cells : List ModeSet) (t : Triple) → is_in (matrix_from k cells) t ≡ in_cells k cells t
is_in-matrix_from k [] t = refl
is_in-matrix_from k (cell ∷ rest) t =
    is_in-put_modes (matrix_from (suc k) rest) (k / 1024) (k % 1024) cell t
    ∙ ap (λ b. (is_at t (k / 1024) (k % 1024) && has_mode cell t.mode) || b) (is_in-matrix_from (suc k) rest t)

-- ---- the place of a cell

row_of_place : (s o k : ℕ) → o < 1024 → k ≡ s * 1024 + o → s ≡ k / 1024
row_of_place s o k h e = omega arith

column_of_place : (s o k : ℕ) → o < 1024 → k ≡ s * 1024 + o → o ≡ k % 1024
column_of_place s o k h e = omega arith

tests_hit : (a b c d : ℕ) → a ≡ b → c ≡ d → ((a == b) && (c == d)) ≡ true
tests_hit a b c d e f = grind (arith, nat_tests)

both : (a b c d : ℕ) → ((a == b) && (c == d)) ≡ true → (a ≡ b) × (c ≡ d)
both a b c d h = grind (arith, nat_tests)

whole : (s o k : ℕ) → s ≡ k / 1024 → o ≡ k % 1024 → k ≡ s * 1024 + o
whole s o k e f = omega arith

no_true : (b : Bool) → (b ≡ true → ⊥) → b ≡ false
no_true true never = absurd (never refl)
no_true false never = refl

tests_miss : (s o k : ℕ) → k ≢ s * 1024 + o → ((s == k / 1024) && (o == k % 1024)) ≡ false
tests_miss s o k apart = no_true ((s == k / 1024) && (o == k % 1024)) (λ h. apart (whole s o k (both s (k / 1024) o (k % 1024) h).0 (both s (k / 1024) o (k % 1024) h).1))

-- ---- reading a cell

-- past the place of the triple there is no cell of it
past : (s o k : ℕ) (m : Mode) (cells : List ModeSet) → s * 1024 + o < k → in_cells k cells (triple s o m) ≡ false
past s o k m [] h = refl
past s o k m (cell ∷ rest) h =
    let apart : k ≢ s * 1024 + o = omega arith in
    let later : s * 1024 + o < suc k = omega arith in
    ap (λ b. (b && has_mode cell m) || in_cells (suc k) rest (triple s o m)) (tests_miss s o k apart) ∙ past s o (suc k) m rest later

or-false : (b : Bool) → (b || false) ≡ b
or-false true = refl
or-false false = refl

pub in_cells-at : (s o k i : ℕ) (m : Mode) (cells : List ModeSet) → o < 1024 → k + i ≡ s * 1024 + o → in_cells k cells (triple s o m) ≡ has_mode (get_or cells i no_mode) m
in_cells-at s o k i m [] h e = sym (no_mode-none m)
in_cells-at s o k zero m (cell ∷ rest) h e =
    let here : k ≡ s * 1024 + o = omega arith in
    let later : s * 1024 + o < suc k = omega arith in
    ap (λ b. (b && has_mode cell m) || in_cells (suc k) rest (triple s o m)) (tests_hit s (k / 1024) o (k % 1024) (row_of_place s o k h here) (column_of_place s o k h here))
    ∙ ap (λ b. has_mode cell m || b) (past s o (suc k) m rest later)
    ∙ or-false (has_mode cell m)
in_cells-at s o k (suc i) m (cell ∷ rest) h e =
    let apart : k ≢ s * 1024 + o = omega arith in
    let next : suc k + i ≡ s * 1024 + o = omega arith in
    ap (λ b. (b && has_mode cell m) || in_cells (suc k) rest (triple s o m)) (tests_miss s o k apart)
    ∙ in_cells-at s o (suc k) i m rest h next

-- the mode is in the cell just where its triple is in the set
pub is_in-matrix_of : (cells : List ModeSet) (s o : ℕ) (m : Mode) → o < 1024 → is_in (matrix_of cells) (triple s o m) ≡ has_mode (get_or cells (s * 1024 + o) no_mode) m
is_in-matrix_of cells s o m h =
    let e : 0 + (s * 1024 + o) ≡ s * 1024 + o = omega arith in
    is_in-matrix_from 0 cells (triple s o m) ∙ in_cells-at s o 0 (s * 1024 + o) m cells h e

-- ---- writing a cell

added_here : (a x y r : Bool) → ((a && (x || y)) || r) ≡ ((a && y) || ((a && x) || r))
added_here false x y r = refl
added_here true true true r = refl
added_here true true false r = refl
added_here true false y r = refl

added_later : (a b r : Bool) → (a || (b || r)) ≡ (b || (a || r))
added_later true true r = refl
added_later true false r = refl
added_later false b r = refl

in_cells-set : (s o k i : ℕ) (cells : List ModeSet) (cell modes : ModeSet) (t : Triple) → o < 1024 → k + i ≡ s * 1024 + o → i < length cells
    → ((m : Mode) → has_mode cell m ≡ (has_mode (get_or cells i no_mode) m || has_mode modes m))
    → in_cells k (set cells i cell) t ≡ ((is_at t s o && has_mode modes t.mode) || in_cells k cells t)
in_cells-set s o k i [] cell modes t h e within adds = absurd (omega arith)
in_cells-set s o k zero (first ∷ rest) cell modes t h e within adds =
    let here : k ≡ s * 1024 + o = omega arith in
    ap (λ b. (is_at t (k / 1024) (k % 1024) && b) || in_cells (suc k) rest t) (adds t.mode)
    ∙ added_here (is_at t (k / 1024) (k % 1024)) (has_mode first t.mode) (has_mode modes t.mode) (in_cells (suc k) rest t)
    ∙ (λ j. (is_at t (sym (row_of_place s o k h here) j) (sym (column_of_place s o k h here) j) && has_mode modes t.mode) || in_cells k (first ∷ rest) t)
in_cells-set s o k (suc i) (first ∷ rest) cell modes t h e within adds =
    let next : suc k + i ≡ s * 1024 + o = omega arith in
    let inside : i < length rest = omega arith in
    ap (λ b. (is_at t (k / 1024) (k % 1024) && has_mode first t.mode) || b) (in_cells-set s o (suc k) i rest cell modes t h next inside adds)
    ∙ added_later (is_at t (k / 1024) (k % 1024) && has_mode first t.mode) (is_at t s o && has_mode modes t.mode) (in_cells (suc k) rest t)

-- a cell to which modes are added stands for the set with their triples
pub matrix_of-set : (cells : List ModeSet) (s o : ℕ) (cell modes : ModeSet) → o < 1024 → s * 1024 + o < length cells
    → ((m : Mode) → has_mode cell m ≡ (has_mode (get_or cells (s * 1024 + o) no_mode) m || has_mode modes m))
    → matrix_of (set cells (s * 1024 + o) cell) ≡ put_modes (matrix_of cells) s o modes
matrix_of-set cells s o cell modes h within adds =
    let e : 0 + (s * 1024 + o) ≡ s * 1024 + o = omega arith in
    same_members_set (matrix_of (set cells (s * 1024 + o) cell)) (put_modes (matrix_of cells) s o modes)
    (λ t. is_in-matrix_from 0 (set cells (s * 1024 + o) cell) t
    ∙ in_cells-set s o 0 (s * 1024 + o) cells cell modes t h e within adds
    ∙ ap (λ b. (is_at t s o && has_mode modes t.mode) || b) (sym (is_in-matrix_from 0 cells t))
    ∙ sym (is_in-put_modes (matrix_of cells) s o modes t))

-- cells with no mode stand for the set with no triple
pub matrix_from-replicate : (n k : ℕ) → matrix_from k (replicate n no_mode) ≡ no_triple
matrix_from-replicate zero k = refl
matrix_from-replicate (suc n) k = matrix_from-replicate n (suc k)

-- cells with no mode behind others add no triple
pub matrix_from-more : (k n : ℕ) (cells : List ModeSet) → matrix_from k (cells ++ replicate n no_mode) ≡ matrix_from k cells
matrix_from-more k n [] = matrix_from-replicate n k
matrix_from-more k n (cell ∷ rest) = ap (λ (m : Matrix). put_modes m (k / 1024) (k % 1024) cell) (matrix_from-more (suc k) n rest)

-- ---- taking a mode out of a cell

and-false : (b : Bool) → (b && false) ≡ false
and-false true = refl
and-false false = refl

-- no cell is one of a document past the last column
outside : (k : ℕ) (cells : List ModeSet) (t : Triple) → 1024 ≤ t.document → in_cells k cells t ≡ false
outside k [] t h = refl
outside k (cell ∷ rest) t h =
    let apart : is_at t (k / 1024) (k % 1024) ≡ false = no_true (is_at t (k / 1024) (k % 1024)) (λ e. let column = (both t.subject (k / 1024) t.document (k % 1024) e).1 in absurd (omega (arith, column, h))) in
    ap (λ b. (b && has_mode cell t.mode) || in_cells (suc k) rest t) apart ∙ outside (suc k) rest t h

-- of two triples, whether they are one
same_here : (s o s' o' n : ℕ) (k : ℕ) → s ≡ s' → o ≡ o' → ((s == s') && ((o == o') && (n == k))) ≡ (n == k)
same_here s o s' o' n k e f = grind (arith, nat_tests)

not_same : (s o s' o' n k : ℕ) → s' * 1024 + o' ≢ s * 1024 + o → ((s == s') && ((o == o') && (n == k))) ≡ false
not_same s o s' o' n k apart = no_true ((s == s') && ((o == o') && (n == k))) (λ h. let e = three s s' o o' n k h in apart (omega (arith, e.0, e.1.0)))

-- the cell at this place loses a mode, and no other
abbrev pub Loses : List ModeSet → ℕ → ModeSet → Mode → Type 0
Loses cells place cell m = (n : Mode) → has_mode cell n ≡ (not (place_of m == place_of n) && has_mode (get_or cells place no_mode) n)

in_cells-lost : (cells : List ModeSet) (s o : ℕ) (cell : ModeSet) (m : Mode) (t : Triple) → o < 1024 → s * 1024 + o < length cells → Loses cells (s * 1024 + o) cell m
    → (t.document < 1024) ⊎ (1024 ≤ t.document) → (t.subject * 1024 + t.document ≡ s * 1024 + o) ⊎ (t.subject * 1024 + t.document ≢ s * 1024 + o)
    → is_in (matrix_of (set cells (s * 1024 + o) cell)) t ≡ (not (same_triple (triple s o m) t) && is_in (matrix_of cells) t)
in_cells-lost cells s o cell m t h within loses (inr past_last) place =
    is_in-matrix_from 0 (set cells (s * 1024 + o) cell) t
    ∙ outside 0 (set cells (s * 1024 + o) cell) t past_last
    ∙ sym (and-false (not (same_triple (triple s o m) t)))
    ∙ ap (λ b. not (same_triple (triple s o m) t) && b) (sym (is_in-matrix_from 0 cells t ∙ outside 0 cells t past_last))
in_cells-lost cells s o cell m t h within loses (inl column) (inl at) =
    let row : s ≡ t.subject = omega (arith, at, h, column) in
    let same_column : o ≡ t.document = omega (arith, at, h, column) in
    is_in-matrix_of (set cells (s * 1024 + o) cell) t.subject t.document t.mode column
    ∙ ap (λ c. has_mode c t.mode) (ap (λ k. get_or (set cells (s * 1024 + o) cell) k no_mode) at ∙ get_or-set_same cells (s * 1024 + o) cell no_mode within)
    ∙ loses t.mode
    ∙ ap (λ b. not b && has_mode (get_or cells (s * 1024 + o) no_mode) t.mode) (sym (same_here s o t.subject t.document (place_of m) (place_of t.mode) row same_column))
    ∙ ap (λ k. not (same_triple (triple s o m) t) && has_mode (get_or cells k no_mode) t.mode) (sym at)
    ∙ ap (λ b. not (same_triple (triple s o m) t) && b) (sym (is_in-matrix_of cells t.subject t.document t.mode column))
in_cells-lost cells s o cell m t h within loses (inl column) (inr apart) =
    is_in-matrix_of (set cells (s * 1024 + o) cell) t.subject t.document t.mode column
    ∙ ap (λ c. has_mode c t.mode) (get_or-set_other cells (s * 1024 + o) (t.subject * 1024 + t.document) cell no_mode apart)
    ∙ sym (is_in-matrix_of cells t.subject t.document t.mode column)
    ∙ ap (λ b. not b && is_in (matrix_of cells) t) (sym (not_same s o t.subject t.document (place_of m) (place_of t.mode) apart))

-- a cell that loses a mode stands for the set without its triple
pub matrix_of-lost : (cells : List ModeSet) (s o : ℕ) (cell : ModeSet) (m : Mode) → o < 1024 → s * 1024 + o < length cells → Loses cells (s * 1024 + o) cell m
    → matrix_of (set cells (s * 1024 + o) cell) ≡ take_out (matrix_of cells) (triple s o m)
matrix_of-lost cells s o cell m h within loses =
    same_members_set (matrix_of (set cells (s * 1024 + o) cell)) (take_out (matrix_of cells) (triple s o m))
    (λ t. in_cells-lost cells s o cell m t h within loses (cases_lt t.document 1024) (cases_eq (t.subject * 1024 + t.document) (s * 1024 + o))
    ∙ sym (is_in-take_out (matrix_of cells) (triple s o m) t))

-- ---- emptying a column

-- no cell of document o has a mode, and those of the other documents have the modes that they had
pub record Empties (o : ℕ) (old new : List ModeSet) : Type 0 where
  pub emptied : (s : ℕ) → get_or new (s * 1024 + o) no_mode ≡ no_mode
  pub others : (s u : ℕ) → u < 1024 → u ≢ o → get_or new (s * 1024 + u) no_mode ≡ get_or old (s * 1024 + u) no_mode

is_in-emptied : (old new : List ModeSet) (o : ℕ) (t : Triple) → Empties o old new → (t.document < 1024) ⊎ (1024 ≤ t.document) → (t.document ≡ o) ⊎ (t.document ≢ o)
    → is_in (matrix_of new) t ≡ (not (t.document == o) && is_in (matrix_of old) t)
is_in-emptied old new o t empties (inr past_last) place =
    is_in-matrix_from 0 new t
    ∙ outside 0 new t past_last
    ∙ sym (and-false (not (t.document == o)))
    ∙ ap (λ b. not (t.document == o) && b) (sym (is_in-matrix_from 0 old t ∙ outside 0 old t past_last))
is_in-emptied old new o t empties (inl column) (inl at) =
    is_in-matrix_of new t.subject t.document t.mode column
    ∙ ap (λ c. has_mode c t.mode) (ap (λ u. get_or new (t.subject * 1024 + u) no_mode) at ∙ empties.emptied t.subject)
    ∙ no_mode-none t.mode
    ∙ sym (ap (λ b. not b && is_in (matrix_of old) t) (one_number t.document o at))
is_in-emptied old new o t empties (inl column) (inr apart) =
    is_in-matrix_of new t.subject t.document t.mode column
    ∙ ap (λ c. has_mode c t.mode) (empties.others t.subject t.document column apart)
    ∙ sym (is_in-matrix_of old t.subject t.document t.mode column)
    ∙ sym (ap (λ b. not b && is_in (matrix_of old) t) (two_numbers t.document o apart))

-- cells of which a column is emptied stand for the set without the triples of its document
pub matrix_of-emptied : (old new : List ModeSet) (o : ℕ) → Empties o old new → matrix_of new ≡ without_document (matrix_of old) o
matrix_of-emptied old new o empties =
    same_members_set (matrix_of new) (without_document (matrix_of old) o)
    (λ t. is_in-emptied old new o t empties (cases_lt t.document 1024) (cases_eq t.document o)
    ∙ sym (is_in-without_document (matrix_of old) o t))
