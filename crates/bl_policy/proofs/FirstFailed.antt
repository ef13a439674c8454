-- Cells that have the first property that fails: what they say of an access, and that they have it after each change.
use Rattle.std.proofs.Common.{◌≡◌, ◌≢◌, ◌⊎◌, inl, inr, ℕ, ◌+◌, ◌*◌, ◌<◌, ◌≤◌, Bool, true, false, ◌||◌, refl, sym, ◌∙◌, ap, subst, arith, List, [], ◌∷◌, ◌++◌, length, get_or, set, length-set, Option, Some, None}
use Rattle.std.specs.Prelude.{if◌then◌else◌}
use Rattle.std.proofs.Math.ListN.{get_or-map}
use Rattle.std.proofs.Math.Seq.{map-set_same}
use Rattle.std.proofs.lemmas.Bool.{cases_eq}
use Rattle.std.proofs.lemmas.List.{get_or_default, get_or-set_same, get_or-set_other, get_or_append_left, length_push}
use Rattle.bl_level.specs.Level.{SecurityLevel}
use Rattle.bl_policy.specs.declared.access.Mode.{Mode}
use Rattle.bl_policy.specs.declared.access.Mode.TheVariants.{Read, Append, Write}
use Rattle.bl_policy.specs.declared.access.ModeSet.{ModeSet}
use Rattle.bl_policy.specs.declared.denial.Clause.{Clause}
use Rattle.bl_policy.specs.declared.denial.Clause.TheVariants as failing
use Rattle.bl_policy.specs.declared.denial.Denial.{Denial}
use Rattle.bl_policy.specs.declared.policy.cell.Cell.{Cell}
use Rattle.bl_policy.specs.declared.policy.cell.Failed.TheVariants.{Nothing, Simple, Star, Discretionary}
use Rattle.bl_policy.specs.Mode.{has_mode}
use Rattle.bl_policy.specs.Policy.{SecurityPolicy, Clearance, nobody, lowest, clearance_of, level_of, allows}
use Rattle.bl_policy.specs.Properties.{observes, flows, is_simple, is_star}
use Rattle.bl_policy.specs.FirstFault.{denied, property_fault}
use Rattle.bl_policy.specs.Cells.{modes_of, clause_of, failed_in, first_failed, failed_property, cell_of, no_cell, cell_at, IsCellOf, HaveFirstFailed, HasMendedRow, HasMendedColumn, HasEmptiedColumn}

-- ---- what a cell says of an access

-- the refusal that names this clause
abbrev pub refused : Option Clause → ℕ → ℕ → Option Denial
refused None s o = None
refused (Some clause) s o = denied clause s o

named : (x y z : Bool) (s o : ℕ) → refused (clause_of (if x then (if y then (if z then Nothing else Discretionary) else Star) else Simple)) s o
    ≡ (if x then (if y then (if z then None else denied failing.Discretionary s o) else denied failing.Star s o) else denied failing.Simple s o)
named true true true s o = refl
named true true false s o = refl
named true false z s o = refl
named false y z s o = refl

failed_in-cell_of : (subject : Clearance) (level : SecurityLevel) (modes : ModeSet) (m : Mode) → failed_in (cell_of subject level modes) m ≡ failed_property subject level modes m
failed_in-cell_of subject level modes Read = refl
failed_in-cell_of subject level modes Append = refl
failed_in-cell_of subject level modes Write = refl

-- the first property that a cell has of a mode is the fault of that access
pub fault-read : (p : SecurityPolicy) (s o : ℕ) (m : Mode) (cell : Cell) → IsCellOf (clearance_of p s) (level_of p o) cell → has_mode cell.modes m ≡ allows p s o m
    → refused (clause_of (failed_in cell m)) s o ≡ property_fault p s (record { mode = m; doc = o })
fault-read p s o m cell is has =
    ap (λ f. refused (clause_of f) s o) (ap (λ c. failed_in c m) is ∙ failed_in-cell_of (clearance_of p s) (level_of p o) cell.modes m)
    ∙ named (is_simple p s o m) (is_star p s o m) (has_mode cell.modes m) s o
    ∙ ap (λ z. if is_simple p s o m then (if is_star p s o m then (if z then None else denied failing.Discretionary s o) else denied failing.Star s o) else denied failing.Simple s o) has

-- ---- changes

-- a cell that was made so has the first property that fails
pub is_cell-made : (subject : Clearance) (level : SecurityLevel) (modes : ModeSet) (cell : Cell) → cell ≡ cell_of subject level modes → IsCellOf subject level cell
is_cell-made subject level modes cell e = e ∙ ap (λ m. cell_of subject level m) (sym (ap (λ (c : Cell). c.modes) e))

-- at the place of subject s and document o
moved : (cs : List Clearance) (ls : List SecurityLevel) (s o t u : ℕ) (cell : Cell) → t ≡ s → u ≡ o → IsCellOf (get_or cs s nobody) (get_or ls o lowest) cell → IsCellOf (get_or cs t nobody) (get_or ls u lowest) cell
moved cs ls s o t u cell row column is =
    subst (λ (j : ℕ). IsCellOf (get_or cs j nobody) (get_or ls u lowest) cell) (sym row)
    (subst (λ (j : ℕ). IsCellOf (get_or cs s nobody) (get_or ls j lowest) cell) (sym column) is)

-- one cell is another, and has it
pub first_failed-set : (cs : List Clearance) (ls : List SecurityLevel) (cells : List Cell) (s o : ℕ) (cell : Cell) → length ls ≤ 1024 → o < length ls → s * 1024 + o < length cells
    → IsCellOf (get_or cs s nobody) (get_or ls o lowest) cell → HaveFirstFailed cs ls cells → HaveFirstFailed cs ls (set cells (s * 1024 + o) cell)
first_failed-set cs ls cells s o cell few there within is have t u known last = go (cases_eq (t * 1024 + u) (s * 1024 + o))
  where
    go : (t * 1024 + u ≡ s * 1024 + o) ⊎ (t * 1024 + u ≢ s * 1024 + o) → IsCellOf (get_or cs t nobody) (get_or ls u lowest) (cell_at (set cells (s * 1024 + o) cell) (t * 1024 + u))
    go (inl at) =
        let row : t ≡ s = omega (arith, at, last, there, few) in
        let column : u ≡ o = omega (arith, at, last, there, few) in
        let here : cell_at (set cells (s * 1024 + o) cell) (t * 1024 + u) ≡ cell = ap (λ k. cell_at (set cells (s * 1024 + o) cell) k) at ∙ get_or-set_same cells (s * 1024 + o) cell no_cell within in
        subst (λ (c : Cell). IsCellOf (get_or cs t nobody) (get_or ls u lowest) c) (sym here) (moved cs ls s o t u cell row column is)
    go (inr apart) =
        subst (λ (c : Cell). IsCellOf (get_or cs t nobody) (get_or ls u lowest) c) (sym (get_or-set_other cells (s * 1024 + o) (t * 1024 + u) cell no_cell apart)) (have t u known last)

-- more cells stand behind the rows
pub first_failed-append : (cs : List Clearance) (ls : List SecurityLevel) (cells more : List Cell) → length ls ≤ 1024 → length cells ≡ length cs * 1024 → HaveFirstFailed cs ls cells → HaveFirstFailed cs ls (cells ++ more)
first_failed-append cs ls cells more few count have t u known last =
    let within : t * 1024 + u < length cells = omega (arith, few, count, known, last) in
    subst (λ (c : Cell). IsCellOf (get_or cs t nobody) (get_or ls u lowest) c) (sym (get_or_append_left cells more no_cell (t * 1024 + u) within)) (have t u known last)

-- the subjects but one are those that were there
abbrev pub AreOthers : {X : Type 0} → X → ℕ → List X → List X → Type 0
AreOthers none i old new = (j : ℕ) → j < length new → j ≢ i → (j < length old) × (get_or new j none ≡ get_or old j none)

before_or_behind : (t s : ℕ) → t ≢ s → (t < s) ⊎ (s < t)
before_or_behind t s apart = grind arith

-- a cell of another row stands aside of a row
beside : (t u s n : ℕ) → n ≤ 1024 → u < n → t ≢ s → (t * 1024 + u < s * 1024) ⊎ (s * 1024 + n ≤ t * 1024 + u)
beside t u s n few last apart = elim (before_or_behind t s apart) [
  | inl before ↦ inl (omega (arith, before, last, few))
  | inr behind ↦ inr (omega (arith, behind, few))
]

-- a row is mended for what its subject is now
pub first_failed-row : (old new : List Clearance) (ls : List SecurityLevel) (cells mended : List Cell) (s : ℕ) → length ls ≤ 1024 → AreOthers nobody s old new
    → HasMendedRow (s * 1024) (get_or new s nobody) ls cells mended → HaveFirstFailed old ls cells → HaveFirstFailed new ls mended
first_failed-row old new ls cells mended s few others row have t u known last = go (cases_eq t s)
  where
    go : (t ≡ s) ⊎ (t ≢ s) → IsCellOf (get_or new t nobody) (get_or ls u lowest) (cell_at mended (t * 1024 + u))
    go (inl at) =
        subst (λ (j : ℕ). IsCellOf (get_or new j nobody) (get_or ls u lowest) (cell_at mended (j * 1024 + u))) (sym at)
        (is_cell-made (get_or new s nobody) (get_or ls u lowest) (cell_at cells (s * 1024 + u)).modes (cell_at mended (s * 1024 + u)) (row.mended u last))
    go (inr apart) =
        let was = others t known apart in
        let aside : (t * 1024 + u < s * 1024) ⊎ (s * 1024 + length ls ≤ t * 1024 + u) = beside t u s (length ls) few last apart in
        subst (λ (c : Clearance). IsCellOf c (get_or ls u lowest) (cell_at mended (t * 1024 + u))) (sym was.1)
        (subst (λ (c : Cell). IsCellOf (get_or old t nobody) (get_or ls u lowest) c) (sym (row.others (t * 1024 + u) aside)) (have t u was.0 last))

-- the cell of a trusted subject of this greatest level: the star property does not bind it
abbrev cell_of_trusted : SecurityLevel → SecurityLevel → ModeSet → Cell
cell_of_trusted greatest level modes =
    record {
      modes = modes;
      read = first_failed (observes greatest level Read) true (has_mode modes Read);
      append = first_failed (observes greatest level Append) true (has_mode modes Append);
      write = first_failed (observes greatest level Write) true (has_mode modes Write);
    }

trusted_is : (c : Clearance) (level : SecurityLevel) (modes : ModeSet) → c.trusted ≡ true → cell_of c level modes ≡ cell_of_trusted c.greatest level modes
trusted_is c level modes e = λ i. record {
  modes = modes;
  read = first_failed (observes c.greatest level Read) (e i || flows c.current level Read) (has_mode modes Read);
  append = first_failed (observes c.greatest level Append) (e i || flows c.current level Append) (has_mode modes Append);
  write = first_failed (observes c.greatest level Write) (e i || flows c.current level Write) (has_mode modes Write);
}

-- the cells of a trusted subject whose current level changes are as they have to be
pub first_failed-trusted : (old new : List Clearance) (ls : List SecurityLevel) (cells : List Cell) (s : ℕ) → AreOthers nobody s old new → s < length old
    → (get_or old s nobody).trusted ≡ true → (get_or new s nobody).trusted ≡ true → (get_or new s nobody).greatest ≡ (get_or old s nobody).greatest → HaveFirstFailed old ls cells → HaveFirstFailed new ls cells
first_failed-trusted old new ls cells s others there was is greatest have t u known last = go (cases_eq t s)
  where
    go : (t ≡ s) ⊎ (t ≢ s) → IsCellOf (get_or new t nobody) (get_or ls u lowest) (cell_at cells (t * 1024 + u))
    go (inl at) =
        let level = get_or ls u lowest in
        let modes = (cell_at cells (s * 1024 + u)).modes in
        subst (λ (j : ℕ). IsCellOf (get_or new j nobody) level (cell_at cells (j * 1024 + u))) (sym at)
        (have s u there last
        ∙ trusted_is (get_or old s nobody) level modes was
        ∙ ap (λ g. cell_of_trusted g level modes) (sym greatest)
        ∙ sym (trusted_is (get_or new s nobody) level modes is))
    go (inr apart) =
        let was_there = others t known apart in
        subst (λ (c : Clearance). IsCellOf c (get_or ls u lowest) (cell_at cells (t * 1024 + u))) (sym was_there.1) (have t u was_there.0 last)

-- a column is mended for what the level of its document is now
pub first_failed-column : (cs : List Clearance) (old new : List SecurityLevel) (cells mended : List Cell) (o : ℕ) → length new ≤ 1024 → AreOthers lowest o old new
    → HasMendedColumn o cs (get_or new o lowest) cells mended → HaveFirstFailed cs old cells → HaveFirstFailed cs new mended
first_failed-column cs old new cells mended o few others column have t u known last = go (cases_eq u o)
  where
    go : (u ≡ o) ⊎ (u ≢ o) → IsCellOf (get_or cs t nobody) (get_or new u lowest) (cell_at mended (t * 1024 + u))
    go (inl at) =
        subst (λ (j : ℕ). IsCellOf (get_or cs t nobody) (get_or new j lowest) (cell_at mended (t * 1024 + j))) (sym at)
        (is_cell-made (get_or cs t nobody) (get_or new o lowest) (cell_at cells (t * 1024 + o)).modes (cell_at mended (t * 1024 + o)) (column.mended t known))
    go (inr apart) =
        let was = others u last apart in
        let within : u < 1024 = omega (arith, last, few) in
        subst (λ (l : SecurityLevel). IsCellOf (get_or cs t nobody) l (cell_at mended (t * 1024 + u))) (sym was.1)
        (subst (λ (c : Cell). IsCellOf (get_or cs t nobody) (get_or old u lowest) c) (sym (column.others t u within apart)) (have t u known was.0))

-- a column is emptied
pub first_failed-emptied : (cs : List Clearance) (ls : List SecurityLevel) (cells emptied : List Cell) (o : ℕ) → length ls ≤ 1024
    → HasEmptiedColumn o cs (get_or ls o lowest) cells emptied → HaveFirstFailed cs ls cells → HaveFirstFailed cs ls emptied
first_failed-emptied cs ls cells emptied o few column have t u known last = go (cases_eq u o)
  where
    go : (u ≡ o) ⊎ (u ≢ o) → IsCellOf (get_or cs t nobody) (get_or ls u lowest) (cell_at emptied (t * 1024 + u))
    go (inl at) =
        subst (λ (j : ℕ). IsCellOf (get_or cs t nobody) (get_or ls j lowest) (cell_at emptied (t * 1024 + j))) (sym at)
        (is_cell-made (get_or cs t nobody) (get_or ls o lowest) (record { 0 = 0 }) (cell_at emptied (t * 1024 + o)) (column.emptied t known))
    go (inr apart) =
        let within : u < 1024 = omega (arith, last, few) in
        subst (λ (c : Cell). IsCellOf (get_or cs t nobody) (get_or ls u lowest) c) (sym (column.others t u within apart)) (have t u known last)

-- ---- which others are there

pub others-set : {X : Type 0} (none : X) (xs : List X) (i : ℕ) (x : X) → AreOthers none i xs (set xs i x)
others-set none xs i x j within apart =
    let there : j < length xs = omega (arith, within, length-set xs i x) in
    (there, get_or-set_other xs i j x none apart)

pub others-push : {X : Type 0} (none : X) (xs : List X) (x : X) → AreOthers none (length xs) xs (xs ++ x ∷ [])
others-push none xs x j within apart =
    let there : j < length xs = omega (arith, within, apart, length_push xs x) in
    (there, get_or_append_left xs (x ∷ []) none j there)

-- ---- one more cell of a row or a column is mended

-- the modes of the cell at a place
pub modes-at : (cells : List Cell) (k : ℕ) → get_or (modes_of cells) k (record { 0 = 0 }) ≡ (cell_at cells k).modes
modes-at cells k = get_or-map (λ (c : Cell). c.modes) cells k no_cell

-- cells with the same modes have them at each place
pub same_modes-at : (cells others : List Cell) (k : ℕ) → modes_of cells ≡ modes_of others → (cell_at cells k).modes ≡ (cell_at others k).modes
same_modes-at cells others k e = sym (modes-at cells k) ∙ ap (λ modes. get_or modes k (record { 0 = 0 })) e ∙ modes-at others k

-- the modes stay
pub modes-mended : (cells others : List Cell) (k : ℕ) (subject : Clearance) (level : SecurityLevel) (d cell : Cell) → modes_of cells ≡ modes_of others → cell ≡ cell_of subject level (get_or cells k d).modes → modes_of (set cells k cell) ≡ modes_of others
modes-mended cells others k subject level d cell same is = map-set_same (λ (c : Cell). c.modes) cells k cell d (ap (λ (c : Cell). c.modes) is) ∙ same

at-mended : (cells others : List Cell) (k : ℕ) (subject : Clearance) (level : SecurityLevel) (d cell : Cell) → k < length cells → modes_of cells ≡ modes_of others → cell ≡ cell_of subject level (get_or cells k d).modes
    → cell_at (set cells k cell) k ≡ cell_of subject level (cell_at others k).modes
at-mended cells others k subject level d cell within same is =
    get_or-set_same cells k cell no_cell within
    ∙ is
    ∙ ap (λ (c : Cell). cell_of subject level c.modes) (get_or_default cells k d no_cell within)
    ∙ ap (cell_of subject level) (same_modes-at cells others k same)

pub row-mended : (first i : ℕ) (subject : Clearance) (levels : List SecurityLevel) (cells others : List Cell) (level : SecurityLevel) (d cell : Cell) → first + i < length cells → modes_of cells ≡ modes_of others
    → level ≡ get_or levels i lowest → cell ≡ cell_of subject level (get_or cells (first + i) d).modes
    → ((o : ℕ) → o < i → cell_at cells (first + o) ≡ cell_of subject (get_or levels o lowest) (cell_at others (first + o)).modes)
    → (o : ℕ) → o < i + 1 → cell_at (set cells (first + i) cell) (first + o) ≡ cell_of subject (get_or levels o lowest) (cell_at others (first + o)).modes
row-mended first i subject levels cells others level d cell within same for is before o h = go (cases_eq o i)
  where
    go : (o ≡ i) ⊎ (o ≢ i) → cell_at (set cells (first + i) cell) (first + o) ≡ cell_of subject (get_or levels o lowest) (cell_at others (first + o)).modes
    go (inl at) =
        subst (λ (j : ℕ). cell_at (set cells (first + i) cell) (first + j) ≡ cell_of subject (get_or levels j lowest) (cell_at others (first + j)).modes) (sym at)
        (at-mended cells others (first + i) subject level d cell within same is ∙ ap (λ l. cell_of subject l (cell_at others (first + i)).modes) for)
    go (inr apart) =
        let aside : first + o ≢ first + i = omega (arith, apart) in
        let earlier : o < i = omega (arith, apart, h) in
        get_or-set_other cells (first + i) (first + o) cell no_cell aside ∙ before o earlier

pub row-others : (first i : ℕ) (cells others : List Cell) (cell : Cell) → ((k : ℕ) → (k < first) ⊎ (first + i ≤ k) → cell_at cells k ≡ cell_at others k)
    → (k : ℕ) → (k < first) ⊎ (first + (i + 1) ≤ k) → cell_at (set cells (first + i) cell) k ≡ cell_at others k
row-others first i cells others cell stay k (inl before) =
    let aside : k ≢ first + i = omega (arith, before) in
    get_or-set_other cells (first + i) k cell no_cell aside ∙ stay k (inl before)
row-others first i cells others cell stay k (inr behind) =
    let aside : k ≢ first + i = omega (arith, behind) in
    get_or-set_other cells (first + i) k cell no_cell aside ∙ stay k (inr (omega (arith, behind)))

pub column-mended : (column i : ℕ) (subjects : List Clearance) (cells others : List Cell) (subject : Clearance) (level : SecurityLevel) (d cell : Cell) → i * 1024 + column < length cells → modes_of cells ≡ modes_of others
    → subject ≡ get_or subjects i nobody → cell ≡ cell_of subject level (get_or cells (i * 1024 + column) d).modes
    → ((s : ℕ) → s < i → cell_at cells (s * 1024 + column) ≡ cell_of (get_or subjects s nobody) level (cell_at others (s * 1024 + column)).modes)
    → (s : ℕ) → s < i + 1 → cell_at (set cells (i * 1024 + column) cell) (s * 1024 + column) ≡ cell_of (get_or subjects s nobody) level (cell_at others (s * 1024 + column)).modes
column-mended column i subjects cells others subject level d cell within same for is before s h = go (cases_eq s i)
  where
    go : (s ≡ i) ⊎ (s ≢ i) → cell_at (set cells (i * 1024 + column) cell) (s * 1024 + column) ≡ cell_of (get_or subjects s nobody) level (cell_at others (s * 1024 + column)).modes
    go (inl at) =
        subst (λ (j : ℕ). cell_at (set cells (i * 1024 + column) cell) (j * 1024 + column) ≡ cell_of (get_or subjects j nobody) level (cell_at others (j * 1024 + column)).modes) (sym at)
        (at-mended cells others (i * 1024 + column) subject level d cell within same is ∙ ap (λ c. cell_of c level (cell_at others (i * 1024 + column)).modes) for)
    go (inr apart) =
        let aside : s * 1024 + column ≢ i * 1024 + column = omega (arith, apart) in
        let earlier : s < i = omega (arith, apart, h) in
        get_or-set_other cells (i * 1024 + column) (s * 1024 + column) cell no_cell aside ∙ before s earlier

pub column-others : (column i : ℕ) (cells others : List Cell) (cell : Cell) → column < 1024 → ((s o : ℕ) → o < 1024 → o ≢ column → cell_at cells (s * 1024 + o) ≡ cell_at others (s * 1024 + o))
    → (s o : ℕ) → o < 1024 → o ≢ column → cell_at (set cells (i * 1024 + column) cell) (s * 1024 + o) ≡ cell_at others (s * 1024 + o)
column-others column i cells others cell last stay s o h apart =
    let aside : s * 1024 + o ≢ i * 1024 + column = omega (arith, h, last, apart) in
    get_or-set_other cells (i * 1024 + column) (s * 1024 + o) cell no_cell aside ∙ stay s o h apart

pub column-emptied : (column i : ℕ) (subjects : List Clearance) (cells : List Cell) (subject : Clearance) (level : SecurityLevel) (cell : Cell) → i * 1024 + column < length cells
    → subject ≡ get_or subjects i nobody → cell ≡ cell_of subject level (record { 0 = 0 })
    → ((s : ℕ) → s < i → cell_at cells (s * 1024 + column) ≡ cell_of (get_or subjects s nobody) level (record { 0 = 0 }))
    → (s : ℕ) → s < i + 1 → cell_at (set cells (i * 1024 + column) cell) (s * 1024 + column) ≡ cell_of (get_or subjects s nobody) level (record { 0 = 0 })
column-emptied column i subjects cells subject level cell within for is before s h = go (cases_eq s i)
  where
    go : (s ≡ i) ⊎ (s ≢ i) → cell_at (set cells (i * 1024 + column) cell) (s * 1024 + column) ≡ cell_of (get_or subjects s nobody) level (record { 0 = 0 })
    go (inl at) =
        subst (λ (j : ℕ). cell_at (set cells (i * 1024 + column) cell) (j * 1024 + column) ≡ cell_of (get_or subjects j nobody) level (record { 0 = 0 })) (sym at)
        (get_or-set_same cells (i * 1024 + column) cell no_cell within ∙ is ∙ ap (λ c. cell_of c level (record { 0 = 0 })) for)
    go (inr apart) =
        let aside : s * 1024 + column ≢ i * 1024 + column = omega (arith, apart) in
        let earlier : s < i = omega (arith, apart, h) in
        get_or-set_other cells (i * 1024 + column) (s * 1024 + column) cell no_cell aside ∙ before s earlier
