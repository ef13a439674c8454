-- What is true of the fields of a policy, and what a write of a cell makes of them.
use Rattle.std.proofs.Common.{All, ◌≡◌, ◌≢◌, ◌⊎◌, inl, inr, ℕ, ◌+◌, ◌*◌, ◌/◌, ◌%◌, ◌<◌, not, ◌&&◌, ◌||◌, ◌==◌, sym, ◌∙◌, ap, subst, arith, refl, zero, suc, List, [], ◌∷◌, ◌++◌, replicate, length, map, get_or, set, take, length-set, Bool, true, ◌-◌, ◌≤◌}
use Rattle.std.specs.Prelude.{bit_and, bit_or}
use Rattle.std.specs.Vec.{with_item, with_items, vec_capacity}
use Rattle.std.specs.Prelude.{Vec, if◌then◌else◌}
use Rattle.std.proofs.lemmas.Bool.{cases_eq, cases_lt}
use Rattle.std.proofs.lemmas.List.{get_or_default, get_or_past, get_or-map, get_or-set_same, get_or_push, map-set, map-append, length-map, length-append, length-replicate, length_push, take_all, with_items_is}
use Rattle.std.proofs.lemmas.List.Elements.{All-set, All-map, All-push, All-append, All-replicate}
use Rattle.bitflags.specs.Sets.{without}
use Rattle.bl_level.specs.Level.{SecurityLevel, Dominates}
use Rattle.bl_policy.specs.declared.access.Mode.{Mode}
use Rattle.bl_policy.specs.declared.access.ModeSet.{ModeSet}
use Rattle.bl_policy.specs.declared.policy.Subject.{Subject}
use Rattle.bl_policy.specs.declared.policy.cell.Cell.{Cell}
use Rattle.bl_policy.specs.declared.policy.Policy.TheInside.{Inside}
use Rattle.bl_policy.specs.Mode.{place_of, flag_of, has_mode}
use Rattle.bl_policy.specs.Matrix.{triple, take_out, put_modes}
use Rattle.bl_policy.specs.Cells.{clearance_from, modes_of, matrix_of, clause_of, failed_in, no_cell, cell_at, IsCellOf, HaveFirstFailed, HasMendedRow, HasMendedColumn, HasEmptiedColumn}
use Rattle.bl_policy.specs.FirstFault.{property_fault}
use Rattle.bl_policy.specs.Policy.{SecurityPolicy, Clearance, nobody, lowest, clearance_of, level_of, with_subject, with_modes, without_triple, without_cells, with_current, allows, CurrentBelowGreatest}
use Rattle.bl_policy.specs.Fields.{policy_of, IsSound}
use Rattle.bl_policy.proofs.CellLemmas.{no_mode, is_in-matrix_of, matrix_of-set, matrix_of-lost, matrix_from-more, Empties, matrix_of-emptied}
use Rattle.bl_policy.proofs.FirstFailed.{refused, fault-read, first_failed-set, first_failed-append, first_failed-row, first_failed-trusted, first_failed-column, first_failed-emptied, others-set, others-push, modes-at}
use Rattle.bl_policy.proofs.ModeLemmas.{has_mode-or, has_mode-without}

-- a position of a subject and one of a document
pub record AreThere (p : SecurityPolicy) (s o : ℕ) : Type 0 where
  pub known : s < length p.subjects
  pub there : o < length p.documents

pub column_within : (p : Inside) → IsSound p → (s o : ℕ) → AreThere (policy_of p) s o → o < 1024
column_within p sound s o are = omega (arith, are.there, sound.document_limit)

pub row_within : (p : Inside) → (s o : ℕ) → AreThere (policy_of p) s o → s < length p.subjects.items
row_within p s o are = omega (arith, are.known, length-map p.subjects.items clearance_from)

pub place_within : (p : Inside) → IsSound p → (s o : ℕ) → AreThere (policy_of p) s o → s * 1024 + o < length p.cells.items
place_within p sound s o are = omega (arith, column_within p sound s o are, row_within p s o are, sound.cell_count)

-- the modes of a cell, as one of the sets of modes
modes-read : (p : Inside) → IsSound p → (s o place : ℕ) (cell : Cell) → AreThere (policy_of p) s o → place ≡ s * 1024 + o → cell ≡ get_or p.cells.items place cell
    → cell.modes ≡ get_or (modes_of p.cells.items) (s * 1024 + o) no_mode
modes-read p sound s o place cell are at was =
    ap (λ (c : Cell). c.modes) (was ∙ ap (λ k. get_or p.cells.items k cell) at)
    ∙ sym (get_or-map (λ (c : Cell). c.modes) p.cells.items (s * 1024 + o) cell no_mode (place_within p sound s o are))

-- the modes of the cell of a subject and a document are those that the matrix has
pub cell-allows : (p : Inside) → IsSound p → (s o place : ℕ) (cell : Cell) → AreThere (policy_of p) s o → place ≡ s * 1024 + o → cell ≡ get_or p.cells.items place cell
    → (m : Mode) → has_mode cell.modes m ≡ allows (policy_of p) s o m
cell-allows p sound s o place cell are at was m =
    ap (λ c. has_mode c m) (modes-read p sound s o place cell are at was)
    ∙ sym (is_in-matrix_of (modes_of p.cells.items) s o m (column_within p sound s o are))

-- the modes of a cell are three at most
pub modes-small : (p : Inside) → IsSound p → (s o place : ℕ) (cell : Cell) → AreThere (policy_of p) s o → place ≡ s * 1024 + o → cell ≡ get_or p.cells.items place cell → cell.modes.0 < 8
modes-small p sound s o place cell are at was =
    let within : s * 1024 + o < length (modes_of p.cells.items) = omega (arith, place_within p sound s o are, length-map p.cells.items (λ (c : Cell). c.modes)) in
    subst (λ (c : ModeSet). c.0 < 8) (sym (modes-read p sound s o place cell are at was)) (sound.modes_only (s * 1024 + o) no_mode within)

-- the cell has the first property that fails
pub cell-first_failed : (p : Inside) → IsSound p → (s o place : ℕ) (cell : Cell) → AreThere (policy_of p) s o → place ≡ s * 1024 + o → cell ≡ get_or p.cells.items place cell
    → IsCellOf (clearance_of (policy_of p) s) (level_of (policy_of p) o) cell
cell-first_failed p sound s o place cell are at was =
    let here : cell ≡ cell_at p.cells.items (s * 1024 + o) = was ∙ ap (λ k. get_or p.cells.items k cell) at ∙ get_or_default p.cells.items (s * 1024 + o) cell no_cell (place_within p sound s o are) in
    subst (λ (c : Cell). IsCellOf (clearance_of (policy_of p) s) (level_of (policy_of p) o) c) (sym here) (sound.first_failed s o are.known are.there)

-- the fault of an access, as its cell has it
pub cell-fault : (p : Inside) → IsSound p → (s o place : ℕ) (m : Mode) (cell : Cell) → AreThere (policy_of p) s o → place ≡ s * 1024 + o → cell ≡ get_or p.cells.items place cell
    → refused (clause_of (failed_in cell m)) s o ≡ property_fault (policy_of p) s (record { mode = m; doc = o })
cell-fault p sound s o place m cell are at was =
    fault-read (policy_of p) s o m cell (cell-first_failed p sound s o place cell are at was) (cell-allows p sound s o place cell are at was m)

-- ---- a cell that is written

-- another cell stands at the place of subject s and document o, with modes of theirs and the first property that fails
pub record Writes (p : Inside) (s o place : ℕ) (old new : Cell) : Type 0 where
  pub are : AreThere (policy_of p) s o
  pub at : place ≡ s * 1024 + o
  pub was : old ≡ get_or p.cells.items place old
  pub is : IsCellOf (clearance_of (policy_of p) s) (level_of (policy_of p) o) new

-- the fields stay sound
pub IsSound-written : (p : Inside) → IsSound p → (s o place : ℕ) (old new : Cell) → Writes p s o place old new → new.modes.0 < 8
    → IsSound (record p { cells = with_item p.cells place new })
IsSound-written p sound s o place old new writes small =
    record {
      subject_room = sound.subject_room;
      document_room = sound.document_room;
      presence_room = sound.presence_room;
      cell_room = sound.cell_room;
      subject_limit = sound.subject_limit;
      document_limit = sound.document_limit;
      presence_count = sound.presence_count;
      cell_count = length-set p.cells.items place new ∙ sound.cell_count;
      modes_only = subst (All (λ modes. modes.0 < 8)) (sym (map-set (λ (c : Cell). c.modes) p.cells.items place new)) (All-set (λ modes. modes.0 < 8) (modes_of p.cells.items) place new.modes small sound.modes_only);
      dominated = sound.dominated;
      first_failed = subst (λ (k : ℕ). HaveFirstFailed (map clearance_from p.subjects.items) p.documents.items (set p.cells.items k new)) (sym writes.at)
          (first_failed-set (map clearance_from p.subjects.items) p.documents.items p.cells.items s o new sound.document_limit writes.are.there (place_within p sound s o writes.are) writes.is sound.first_failed);
    }

-- the modes are added to those of the cell
pub policy_of-added : (p : Inside) → IsSound p → (s o place : ℕ) (old new : Cell) (modes : ModeSet) → Writes p s o place old new → new.modes ≡ record { 0 = bit_or old.modes.0 (bit_and modes.0 7) }
    → policy_of (record p { cells = with_item p.cells place new }) ≡ with_modes (policy_of p) s o modes
policy_of-added p sound s o place old new modes writes added =
    let within : s * 1024 + o < length (modes_of p.cells.items) = omega (arith, place_within p sound s o writes.are, length-map p.cells.items (λ (c : Cell). c.modes)) in
    let had : old.modes ≡ get_or (modes_of p.cells.items) (s * 1024 + o) no_mode = modes-read p sound s o place old writes.are writes.at writes.was in
    let matrices : matrix_of (modes_of (set p.cells.items place new)) ≡ put_modes (matrix_of (modes_of p.cells.items)) s o modes =
    ap matrix_of (map-set (λ (c : Cell). c.modes) p.cells.items place new)
    ∙ ap (λ k. matrix_of (set (modes_of p.cells.items) k new.modes)) writes.at
    ∙ matrix_of-set (modes_of p.cells.items) s o new.modes modes (column_within p sound s o writes.are) within
    (λ m. ap (λ c. has_mode c m) added ∙ has_mode-or old.modes.0 modes.0 m ∙ ap (λ c. has_mode c m || has_mode modes m) had) in
    λ i. record (policy_of p) { matrix = matrices i }

-- a mode is taken out of those of the cell
pub policy_of-taken : (p : Inside) → IsSound p → (s o place : ℕ) (old new : Cell) (m : Mode) → Writes p s o place old new → new.modes ≡ record { 0 = without 8 old.modes.0 (flag_of m) }
    → policy_of (record p { cells = with_item p.cells place new }) ≡ without_triple (policy_of p) (triple s o m)
policy_of-taken p sound s o place old new m writes taken =
    let within : s * 1024 + o < length (modes_of p.cells.items) = omega (arith, place_within p sound s o writes.are, length-map p.cells.items (λ (c : Cell). c.modes)) in
    let had : old.modes ≡ get_or (modes_of p.cells.items) (s * 1024 + o) no_mode = modes-read p sound s o place old writes.are writes.at writes.was in
    let matrices : matrix_of (modes_of (set p.cells.items place new)) ≡ take_out (matrix_of (modes_of p.cells.items)) (triple s o m) =
    ap matrix_of (map-set (λ (c : Cell). c.modes) p.cells.items place new)
    ∙ ap (λ k. matrix_of (set (modes_of p.cells.items) k new.modes)) writes.at
    ∙ matrix_of-lost (modes_of p.cells.items) s o new.modes m (column_within p sound s o writes.are) within
    (λ n. ap (λ c. has_mode c n) taken ∙ has_mode-without old.modes.0 m n ∙ ap (λ c. not (place_of m == place_of n) && has_mode c n) had) in
    λ i. record (policy_of p) { matrix = matrices i }

-- ---- rules

-- what is read of a subject is what the policy has of it
pub clearance-read : (p : Inside) (s place : ℕ) (read : Subject) → s < length (policy_of p).subjects → place ≡ s → read ≡ get_or p.subjects.items place read → clearance_from read ≡ clearance_of (policy_of p) s
clearance-read p s place read known at was =
    let within : s < length p.subjects.items = omega (arith, known, length-map p.subjects.items clearance_from) in
    ap clearance_from (was ∙ ap (λ k. get_or p.subjects.items k read) at)
    ∙ sym (get_or-map clearance_from p.subjects.items s read nobody within)

-- what is read of a document is its level
pub level-read : (p : Inside) (o place : ℕ) (read : SecurityLevel) → o < length (policy_of p).documents → place ≡ o → read ≡ get_or p.documents.items place read → read ≡ level_of (policy_of p) o
level-read p o place read there at was = was ∙ ap (λ k. get_or p.documents.items k read) at ∙ get_or_default p.documents.items o read lowest there

-- ---- cells that are mended

-- cells with the same modes are as many
pub length-modes : (cells others : List Cell) → modes_of cells ≡ modes_of others → length cells ≡ length others
length-modes cells others e = sym (length-map cells (λ (c : Cell). c.modes)) ∙ ap length e ∙ length-map others (λ (c : Cell). c.modes)

-- cells that are as many are written back whole
whole_again : {Z : Type 0} (v : Vec Cell Z) (cells : List Cell) → length cells ≡ length v.items → (with_items v cells).items ≡ cells
whole_again v cells e = with_items_is v cells (e ∙ sym v.ok.0)

-- so are cells with the same modes
pub written_back : {Z : Type 0} (v : Vec Cell Z) (cells : List Cell) → modes_of cells ≡ modes_of v.items → (with_items v cells).items ≡ cells
written_back v cells e = whole_again v cells (length-modes cells v.items e)

-- of fields whose cells have other modes than before, or of which the subjects or the documents are others: what is asked of them
pub record Mends (p q : Inside) (cells mended : List Cell) : Type 0 where
  pub subject_room : vec_capacity p.subjects ≤ vec_capacity q.subjects
  pub document_room : vec_capacity p.documents ≤ vec_capacity q.documents
  pub presence_room : vec_capacity p.present ≤ vec_capacity q.present
  pub cell_room : vec_capacity p.cells ≤ vec_capacity q.cells
  pub same : modes_of mended ≡ modes_of cells
  pub small : All (λ modes. modes.0 < 8) (modes_of cells)
  pub is : q.cells.items ≡ mended
  pub presence_count : length q.present.items ≡ length q.documents.items

sound-mended : (p q : Inside) (cells mended : List Cell) → IsSound p → Mends p q cells mended → length q.subjects.items ≤ 256 → length q.documents.items ≤ 1024 → length cells ≡ length q.subjects.items * 1024
    → All (λ (s : Subject). Dominates s.greatest s.current) q.subjects.items → HaveFirstFailed (map clearance_from q.subjects.items) q.documents.items mended → IsSound q
sound-mended p q cells mended sound mends subjects documents count dominated have =
    record {
      subject_room = omega (arith, sound.subject_room, mends.subject_room);
      document_room = omega (arith, sound.document_room, mends.document_room);
      presence_room = omega (arith, sound.presence_room, mends.presence_room);
      cell_room = omega (arith, sound.cell_room, mends.cell_room);
      subject_limit = subjects;
      document_limit = documents;
      presence_count = mends.presence_count;
      cell_count = ap length mends.is ∙ length-modes mended cells mends.same ∙ count;
      modes_only = subst (All (λ modes. modes.0 < 8)) (sym (ap modes_of mends.is ∙ mends.same)) mends.small;
      dominated = dominated;
      first_failed = subst (HaveFirstFailed (map clearance_from q.subjects.items) q.documents.items) (sym mends.is) have;
    }

-- a row that is mended for what its subject is now
pub row-mended_for : (p : Inside) → IsSound p → (row : ℕ) (new : Subject) (mended : List Cell) → row < length p.subjects.items
    → HasMendedRow (row * 1024) (clearance_from new) p.documents.items p.cells.items mended → HaveFirstFailed (set (map clearance_from p.subjects.items) row (clearance_from new)) p.documents.items mended
row-mended_for p sound row new mended within has =
    let old = map clearance_from p.subjects.items in
    let there : row < length old = omega (arith, within, length-map p.subjects.items clearance_from) in
    first_failed-row old (set old row (clearance_from new)) p.documents.items p.cells.items mended row sound.document_limit (others-set nobody old row (clearance_from new))
    (subst (λ (c : Clearance). HasMendedRow (row * 1024) c p.documents.items p.cells.items mended) (sym (get_or-set_same old row (clearance_from new) nobody there)) has) sound.first_failed

-- the row of a trusted subject is as it has to be, whatever its current level is
pub row-trusted : (p : Inside) → IsSound p → (row : ℕ) (old new : Subject) → row < length p.subjects.items → clearance_from old ≡ get_or (map clearance_from p.subjects.items) row nobody
    → old.trusted ≡ true → new.trusted ≡ true → new.greatest ≡ old.greatest → HaveFirstFailed (set (map clearance_from p.subjects.items) row (clearance_from new)) p.documents.items p.cells.items
row-trusted p sound row old new within was old_trusted new_trusted greatest =
    let subjects = map clearance_from p.subjects.items in
    let there : row < length subjects = omega (arith, within, length-map p.subjects.items clearance_from) in
    let is : get_or (set subjects row (clearance_from new)) row nobody ≡ clearance_from new = get_or-set_same subjects row (clearance_from new) nobody there in
    first_failed-trusted subjects (set subjects row (clearance_from new)) p.documents.items p.cells.items row (others-set nobody subjects row (clearance_from new)) there
    (ap (λ (c : Clearance). c.trusted) (sym was) ∙ old_trusted)
    (ap (λ (c : Clearance). c.trusted) is ∙ new_trusted)
    (ap (λ (c : Clearance). c.greatest) is ∙ greatest ∙ ap (λ (c : Clearance). c.greatest) was)
    sound.first_failed

-- one subject is another, and its row is as it has to be
pub IsSound-moved : (p q : Inside) (row : ℕ) (new : Subject) (mended : List Cell) → IsSound p → Mends p q p.cells.items mended → q.subjects.items ≡ set p.subjects.items row new → q.documents.items ≡ p.documents.items
    → Dominates new.greatest new.current → HaveFirstFailed (set (map clearance_from p.subjects.items) row (clearance_from new)) p.documents.items mended → IsSound q
IsSound-moved p q row new mended sound mends moved stay below have =
    let old = map clearance_from p.subjects.items in
    let clearances : map clearance_from q.subjects.items ≡ set old row (clearance_from new) = ap (map clearance_from) moved ∙ map-set clearance_from p.subjects.items row new in
    let many : length q.subjects.items ≡ length p.subjects.items = ap length moved ∙ length-set p.subjects.items row new in
    sound-mended p q p.cells.items mended sound mends (omega (arith, many, sound.subject_limit)) (omega (arith, ap length stay, sound.document_limit)) (sound.cell_count ∙ ap (λ n. n * 1024) (sym many))
    (subst (All (λ (s : Subject). Dominates s.greatest s.current)) (sym moved) (All-set (λ (s : Subject). Dominates s.greatest s.current) p.subjects.items row new below sound.dominated))
    (subst (λ (cs : List Clearance). HaveFirstFailed cs q.documents.items mended) (sym clearances)
    (subst (λ (ls : List SecurityLevel). HaveFirstFailed (set old row (clearance_from new)) ls mended) (sym stay) have))

-- one document has another level, and its column is mended
pub IsSound-classified : (p q : Inside) (column : ℕ) (level : SecurityLevel) (mended : List Cell) → IsSound p → Mends p q p.cells.items mended → q.subjects.items ≡ p.subjects.items → q.documents.items ≡ set p.documents.items column level
    → column < length p.documents.items → HasMendedColumn column (map clearance_from p.subjects.items) level p.cells.items mended → IsSound q
IsSound-classified p q column level mended sound mends stay moved within has =
    let old = p.documents.items in
    let many : length q.documents.items ≡ length old = ap length moved ∙ length-set old column level in
    let few : length (set old column level) ≤ 1024 = omega (arith, length-set old column level, sound.document_limit) in
    sound-mended p q p.cells.items mended sound mends (omega (arith, ap length stay, sound.subject_limit)) (omega (arith, many, sound.document_limit)) (sound.cell_count ∙ ap (λ n. n * 1024) (sym (ap length stay)))
    (subst (All (λ (s : Subject). Dominates s.greatest s.current)) (sym stay) sound.dominated)
    (subst (λ (ss : List Subject). HaveFirstFailed (map clearance_from ss) q.documents.items mended) (sym stay)
    (subst (λ (ls : List SecurityLevel). HaveFirstFailed (map clearance_from p.subjects.items) ls mended) (sym moved)
    (first_failed-column (map clearance_from p.subjects.items) old (set old column level) p.cells.items mended column few (others-set lowest old column level)
    (subst (λ (l : SecurityLevel). HasMendedColumn column (map clearance_from p.subjects.items) l p.cells.items mended) (sym (get_or-set_same old column level lowest within)) has) sound.first_failed)))

-- one more document is there, and its column is mended
pub IsSound-document : (p q : Inside) (level : SecurityLevel) (mended : List Cell) → IsSound p → Mends p q p.cells.items mended → q.subjects.items ≡ p.subjects.items → q.documents.items ≡ p.documents.items ++ level ∷ []
    → length p.documents.items < 1024 → HasMendedColumn (length p.documents.items) (map clearance_from p.subjects.items) level p.cells.items mended → IsSound q
IsSound-document p q level mended sound mends stay more room has =
    let old = p.documents.items in
    let few : length (old ++ level ∷ []) ≤ 1024 = omega (arith, length_push old level, room) in
    sound-mended p q p.cells.items mended sound mends (omega (arith, ap length stay, sound.subject_limit)) (omega (arith, ap length more, few)) (sound.cell_count ∙ ap (λ n. n * 1024) (sym (ap length stay)))
    (subst (All (λ (s : Subject). Dominates s.greatest s.current)) (sym stay) sound.dominated)
    (subst (λ (ss : List Subject). HaveFirstFailed (map clearance_from ss) q.documents.items mended) (sym stay)
    (subst (λ (ls : List SecurityLevel). HaveFirstFailed (map clearance_from p.subjects.items) ls mended) (sym more)
    (first_failed-column (map clearance_from p.subjects.items) old (old ++ level ∷ []) p.cells.items mended (length old) few (others-push lowest old level)
    (subst (λ (l : SecurityLevel). HasMendedColumn (length old) (map clearance_from p.subjects.items) l p.cells.items mended) (sym (get_or_push old level lowest (length old) refl)) has) sound.first_failed)))

-- the cells with a row for one more subject
abbrev pub with_row : List Cell → List Cell
with_row cells = cells ++ replicate 1024 no_cell

pub modes-with_row : (cells : List Cell) → modes_of (with_row cells) ≡ modes_of cells ++ replicate 1024 no_mode
modes-with_row cells = map-append (λ (c : Cell). c.modes) cells (replicate 1024 no_cell) ∙ ap (λ modes. modes_of cells ++ modes) (modes-replicate 1024)
  where
    modes-replicate : (n : ℕ) → modes_of (replicate n no_cell) ≡ replicate n no_mode
    modes-replicate zero = refl
    modes-replicate (suc n) = ap (λ modes. no_mode ∷ modes) (modes-replicate n)

-- the modes of one more row are three at most
pub small-with_row : (cells : List Cell) → All (λ modes. modes.0 < 8) (modes_of cells) → All (λ modes. modes.0 < 8) (modes_of (with_row cells))
small-with_row cells small =
    subst (All (λ modes. modes.0 < 8)) (sym (modes-with_row cells)) (All-append (λ modes. modes.0 < 8) (modes_of cells) (replicate 1024 no_mode) small (All-replicate (λ modes. modes.0 < 8) 1024 no_mode (omega arith)))

-- one more row adds no triple
pub matrix-with_row : (cells mended : List Cell) → modes_of mended ≡ modes_of (with_row cells) → matrix_of (modes_of mended) ≡ matrix_of (modes_of cells)
matrix-with_row cells mended same = ap matrix_of (same ∙ modes-with_row cells) ∙ matrix_from-more 0 1024 (modes_of cells)

-- cells that were filled up by one more row
pub resized-row : (old new : List Cell) (ok : Bool) (n count : ℕ) (value : Cell) → new ≡ (if ok then take n old ++ replicate (n - count) value else old) → ok ≡ true → count ≡ length old → n ≡ count + 1024 → value ≡ no_cell
    → new ≡ with_row old
resized-row old new ok n count value e done at more blank =
    let whole : length old ≤ n = omega (arith, at, more) in
    let row : n - count ≡ 1024 = omega (arith, more) in
    e
    ∙ ap (λ b. if b then take n old ++ replicate (n - count) value else old) done
    ∙ ap (λ xs. xs ++ replicate (n - count) value) (take_all n old whole)
    ∙ ap (λ k. old ++ replicate k value) row
    ∙ ap (λ v. old ++ replicate 1024 v) blank

-- the policy then has one more subject
pub policy_of-subject : (p q : Inside) (new : Subject) → q.subjects.items ≡ p.subjects.items ++ new ∷ [] → q.documents.items ≡ p.documents.items → q.present.items ≡ p.present.items → modes_of q.cells.items ≡ modes_of (with_row p.cells.items)
    → policy_of q ≡ with_subject (policy_of p) (clearance_from new)
policy_of-subject p q new more stay still same =
    λ i. record { subjects = (ap (map clearance_from) more ∙ map-append clearance_from p.subjects.items (new ∷ [])) i; documents = stay i; present = still i; matrix = matrix-with_row p.cells.items q.cells.items same i }

-- one more subject is there, and its row is mended
pub IsSound-subject : (p q : Inside) (new : Subject) (mended : List Cell) → IsSound p → Mends p q (with_row p.cells.items) mended → q.subjects.items ≡ p.subjects.items ++ new ∷ [] → q.documents.items ≡ p.documents.items
    → length p.subjects.items < 256 → Dominates new.greatest new.current → HasMendedRow (length p.cells.items) (clearance_from new) p.documents.items (with_row p.cells.items) mended → IsSound q
IsSound-subject p q new mended sound mends more stay room below has =
    let old = map clearance_from p.subjects.items in
    let many : length old ≡ length p.subjects.items = length-map p.subjects.items clearance_from in
    let clearances : map clearance_from q.subjects.items ≡ old ++ clearance_from new ∷ [] = ap (map clearance_from) more ∙ map-append clearance_from p.subjects.items (new ∷ []) in
    let count : length (with_row p.cells.items) ≡ length q.subjects.items * 1024 = omega (arith, length-append p.cells.items (replicate 1024 no_cell), length-replicate 1024 no_cell, sound.cell_count, ap length more, length_push p.subjects.items new) in
    let rows : length p.cells.items ≡ length old * 1024 = sound.cell_count ∙ ap (λ n. n * 1024) (sym many) in
    sound-mended p q (with_row p.cells.items) mended sound mends (omega (arith, ap length more, length_push p.subjects.items new, room)) (omega (arith, ap length stay, sound.document_limit)) count
    (subst (All (λ (s : Subject). Dominates s.greatest s.current)) (sym more) (All-push (λ (s : Subject). Dominates s.greatest s.current) p.subjects.items new sound.dominated below))
    (subst (λ (cs : List Clearance). HaveFirstFailed cs q.documents.items mended) (sym clearances)
    (subst (λ (ls : List SecurityLevel). HaveFirstFailed (old ++ clearance_from new ∷ []) ls mended) (sym stay)
    (first_failed-row old (old ++ clearance_from new ∷ []) p.documents.items (with_row p.cells.items) mended (length old) sound.document_limit (others-push nobody old (clearance_from new))
    (subst (λ (c : Clearance). HasMendedRow (length old * 1024) c p.documents.items (with_row p.cells.items) mended) (sym (get_or_push old (clearance_from new) nobody (length old) refl))
    (subst (λ (k : ℕ). HasMendedRow k (clearance_from new) p.documents.items (with_row p.cells.items) mended) rows has))
    (first_failed-append old p.documents.items p.cells.items (replicate 1024 no_cell) sound.document_limit rows sound.first_failed))))

-- a subject of which another current level is kept
pub record Moves (p : Inside) (s place : ℕ) (old : Subject) (level : SecurityLevel) (new : Subject) : Type 0 where
  pub known : s < length (policy_of p).subjects
  pub at : place ≡ s
  pub was : old ≡ get_or p.subjects.items place old
  pub is : clearance_from new ≡ record (clearance_from old) { current = level }

-- the policy then has that current level
pub policy_of-moved : (p q : Inside) (s place : ℕ) (old : Subject) (level : SecurityLevel) (new : Subject) → Moves p s place old level new
    → q.subjects.items ≡ set p.subjects.items place new → q.documents.items ≡ p.documents.items → q.present.items ≡ p.present.items → modes_of q.cells.items ≡ modes_of p.cells.items → policy_of q ≡ with_current (policy_of p) s level
policy_of-moved p q s place old level new moves moved stay still same =
    let had : clearance_from old ≡ clearance_of (policy_of p) s = clearance-read p s place old moves.known moves.at moves.was in
    let changed : set (map clearance_from p.subjects.items) place (clearance_from new) ≡ set (map clearance_from p.subjects.items) s (record (clearance_of (policy_of p) s) { current = level }) =
    ap (λ k. set (map clearance_from p.subjects.items) k (clearance_from new)) moves.at
    ∙ ap (λ c. set (map clearance_from p.subjects.items) s c) (moves.is ∙ ap (λ (c : Clearance). record c { current = level }) had) in
    λ i. record { subjects = (ap (map clearance_from) moved ∙ map-set clearance_from p.subjects.items place new ∙ changed) i; documents = stay i; present = still i; matrix = matrix_of (same i) }

-- ---- a column that is emptied

-- what an emptied column makes of the modes of the cells
empties : (p : Inside) → IsSound p → (column : ℕ) (level : SecurityLevel) (emptied : List Cell) → HasEmptiedColumn column (map clearance_from p.subjects.items) level p.cells.items emptied
    → Empties column (modes_of p.cells.items) (modes_of emptied)
empties p sound column level emptied has =
    record {
      emptied = λ s. modes-at emptied (s * 1024 + column) ∙ no_modes s (cases_lt s (length (map clearance_from p.subjects.items)));
      others = λ s u last apart. modes-at emptied (s * 1024 + u) ∙ ap (λ (c : Cell). c.modes) (has.others s u last apart) ∙ sym (modes-at p.cells.items (s * 1024 + u));
    }
  where
    no_modes : (s : ℕ) → (s < length (map clearance_from p.subjects.items)) ⊎ (length (map clearance_from p.subjects.items) ≤ s) → (cell_at emptied (s * 1024 + column)).modes ≡ no_mode
    no_modes s (inl known) = ap (λ (c : Cell). c.modes) (has.emptied s known)
    no_modes s (inr past) =
        let behind : length emptied ≤ s * 1024 + column = omega (arith, past, has.as_many, sound.cell_count, length-map p.subjects.items clearance_from) in
        ap (λ (c : Cell). c.modes) (get_or_past emptied (s * 1024 + column) no_cell behind)

-- the modes of each cell stay three at most
small-emptied : (column : ℕ) (old new : List ModeSet) → Empties column old new → length new ≡ length old → All (λ modes. modes.0 < 8) old → All (λ modes. modes.0 < 8) new
small-emptied column old new empties as_many small k d within =
    subst (λ (modes : ModeSet). modes.0 < 8) (get_or_default new k no_mode d within) (go (cases_eq (k % 1024) column))
  where
    place : k / 1024 * 1024 + k % 1024 ≡ k
    place = omega arith

    go : (k % 1024 ≡ column) ⊎ (k % 1024 ≢ column) → (get_or new k no_mode).0 < 8
    go (inl at) =
        let blank : get_or new k no_mode ≡ no_mode = ap (λ j. get_or new j no_mode) (sym place ∙ ap (λ u. k / 1024 * 1024 + u) at) ∙ empties.emptied (k / 1024) in
        subst (λ (modes : ModeSet). modes.0 < 8) (sym blank) (omega arith)
    go (inr apart) =
        let last : k % 1024 < 1024 = omega arith in
        let stays : get_or new k no_mode ≡ get_or old k no_mode =
        ap (λ j. get_or new j no_mode) (sym place) ∙ empties.others (k / 1024) (k % 1024) last apart ∙ ap (λ j. get_or old j no_mode) place in
        subst (λ (modes : ModeSet). modes.0 < 8) (sym stays) (small k no_mode (omega (arith, within, as_many)))

-- the fields stay sound
pub IsSound-emptied : (p : Inside) → IsSound p → (column : ℕ) (emptied : List Cell) → HasEmptiedColumn column (map clearance_from p.subjects.items) (get_or p.documents.items column lowest) p.cells.items emptied
    → IsSound (record p { cells = with_items p.cells emptied })
IsSound-emptied p sound column emptied has =
    let whole : (with_items p.cells emptied).items ≡ emptied = whole_again p.cells emptied has.as_many in
    let as_many : length (modes_of emptied) ≡ length (modes_of p.cells.items) = length-map emptied (λ (c : Cell). c.modes) ∙ has.as_many ∙ sym (length-map p.cells.items (λ (c : Cell). c.modes)) in
    record {
      subject_room = sound.subject_room;
      document_room = sound.document_room;
      presence_room = sound.presence_room;
      cell_room = sound.cell_room;
      subject_limit = sound.subject_limit;
      document_limit = sound.document_limit;
      presence_count = sound.presence_count;
      cell_count = ap length whole ∙ has.as_many ∙ sound.cell_count;
      modes_only = subst (λ (cells : List Cell). All (λ modes. modes.0 < 8) (modes_of cells)) (sym whole)
          (small-emptied column (modes_of p.cells.items) (modes_of emptied) (empties p sound column (get_or p.documents.items column lowest) emptied has) as_many sound.modes_only);
      dominated = sound.dominated;
      first_failed = subst (HaveFirstFailed (map clearance_from p.subjects.items) p.documents.items) (sym whole)
          (first_failed-emptied (map clearance_from p.subjects.items) p.documents.items p.cells.items emptied column sound.document_limit has sound.first_failed);
    }

-- the matrix then has no triple of the document
pub policy_of-emptied : (p : Inside) → IsSound p → (column : ℕ) (level : SecurityLevel) (emptied : List Cell) → HasEmptiedColumn column (map clearance_from p.subjects.items) level p.cells.items emptied
    → policy_of (record p { cells = with_items p.cells emptied }) ≡ without_cells (policy_of p) column
policy_of-emptied p sound column level emptied has =
    let whole : (with_items p.cells emptied).items ≡ emptied = whole_again p.cells emptied has.as_many in
    λ i. record (policy_of p) { matrix = (ap (λ cells. matrix_of (modes_of cells)) whole ∙ matrix_of-emptied (modes_of p.cells.items) (modes_of emptied) column (empties p sound column level emptied has)) i }

-- each greatest level dominates the current one
pub below-of_sound : (p : Inside) (policy : SecurityPolicy) → policy_of p ≡ policy → IsSound p → CurrentBelowGreatest policy
below-of_sound p policy is sound = subst CurrentBelowGreatest is (All-map (λ (c : Clearance). Dominates c.greatest c.current) clearance_from p.subjects.items sound.dominated)
