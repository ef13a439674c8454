-- What stands behind a line.
use Rattle.std.proofs.Common.{◌≡◌, ◌≢◌, ℕ, suc, ◌+◌, ◌<◌, ◌≤◌, Bool, true, false, List, [], ◌∷◌, ◌++◌, drop, length, refl, sym, ◌∙◌, ap, subst, arith, add-one, true≢false}
use Rattle.std.specs.Prelude.{Option, Some, ◌||◌}
use Rattle.std.proofs.lemmas.List.{at_drop_all, at_drop_more, drop_all, drop_more}
use Rattle.bl_policy.specs.declared.access.Mode.{Mode}
use Rattle.bl_policy.specs.Policy.{lowest, nobody}
use Rattle.bl_declare.specs.Declaration.{Declaration}
use Rattle.bl_setup.specs.Agreement.{Agree}
use Rattle.bl_setup.specs.Setup.{Setup}
use Rattle.bl_state.specs.declared.line.Line.{Line}
use Rattle.bl_state.specs.declared.line.Line.TheVariants as line
use Rattle.bl_state.specs.Lines.{AreLeft, IsLineOf, StandsBehind, cells_from, declared_by, document_name, documents_from, lines_from, modes_declared, ranks_declared, row_from, subject_name, subjects_from}
use Rattle.bl_state.specs.Texts.{allow_lines, cell_lines, document_lines, modes_at, modes_where, rank_lines, row_lines, subject_lines}

-- ---- the modes of a cell

abbrev is-some : List Mode → Bool
is-some [] = false
is-some (mode ∷ modes) = true

-- there is none just where no bit says so
pub no-mode : (read append write : Bool) → modes_where read append write ≡ [] → (read || (append || write)) ≡ false
no-mode false false false e = refl
no-mode true append write e = absurd (true≢false (ap is-some e))
no-mode false true write e = absurd (true≢false (ap is-some e))
no-mode false false true e = absurd (true≢false (ap is-some e))

pub no-bit : (read append write : Bool) → (read || (append || write)) ≡ false → modes_where read append write ≡ []
no-bit false false false e = refl
no-bit true append write e = absurd (true≢false e)
no-bit false true write e = absurd (true≢false e)
no-bit false false true e = absurd (true≢false e)

allow-one : (whose called : List ℕ) (modes : List Mode) → modes ≢ [] → allow_lines whose called modes ≡ modes_declared whose called modes ∷ []
allow-one whose called [] some = absurd (some refl)
allow-one whose called (mode ∷ modes) some = refl

module _ (setup : Setup) where
  -- ---- the cells of a subject

  modes-of : ℕ → ℕ → List Mode
  modes-of s d = modes_at setup.policy.matrix s d

  row-more : (s d : ℕ) → d < length setup.names.documents
      → row_from setup s d ≡ allow_lines (subject_name setup s) (document_name setup d) (modes_at setup.policy.matrix s d) ++ row_from setup s (suc d)
  row-more s d lt =
      at_drop_more (row_lines setup.policy.matrix s (subject_name setup s) d) setup.names.documents d [] lt
      ∙ ap (λ k. allow_lines (subject_name setup s) (document_name setup d) (modes_at setup.policy.matrix s d)
      ++ row_lines setup.policy.matrix s (subject_name setup s) (suc d) (drop k setup.names.documents)) (add-one d)

  -- a cell without a mode has no line
  pub row-skipped : (s d : ℕ) → d < length setup.names.documents → modes_at setup.policy.matrix s d ≡ [] → row_from setup s d ≡ row_from setup s (d + 1)
  row-skipped s d lt none =
      row-more s d lt
      ∙ ap (λ modes. allow_lines (subject_name setup s) (document_name setup d) modes ++ row_from setup s (suc d)) none
      ∙ ap (row_from setup s) (sym (add-one d))

  pub row-over : (s d : ℕ) → length setup.names.documents ≤ d → row_from setup s d ≡ []
  row-over s d le = at_drop_all (row_lines setup.policy.matrix s (subject_name setup s) d) setup.names.documents d le

  -- ---- all cells

  cells-more : (s : ℕ) → s < length setup.names.subjects → cells_from setup s ≡ row_from setup s 0 ++ cells_from setup (suc s)
  cells-more s lt =
      at_drop_more (cell_lines setup.policy.matrix setup.names.documents s) setup.names.subjects s [] lt
      ∙ ap (λ k. row_from setup s 0 ++ cell_lines setup.policy.matrix setup.names.documents (suc s) (drop k setup.names.subjects)) (add-one s)

  pub cells-over : (s : ℕ) → length setup.names.subjects ≤ s → cells_from setup s ≡ []
  cells-over s le = at_drop_all (cell_lines setup.policy.matrix setup.names.documents s) setup.names.subjects s le

  -- a subject without rights has no line
  pub cells-skipped : (s : ℕ) → s < length setup.names.subjects → row_from setup s 0 ≡ [] → cells_from setup s ≡ cells_from setup (s + 1)
  cells-skipped s lt none =
      cells-more s lt ∙ ap (λ row. row ++ cells_from setup (suc s)) none ∙ ap (cells_from setup) (sym (add-one s))

  -- the first cell of a subject that has rights
  pub cells-begin : (from s d : ℕ) → s < length setup.names.subjects → cells_from setup from ≡ cells_from setup s
      → IsLineOf setup (line.Allow s d) → row_from setup s 0 ≡ row_from setup s d
      → AreLeft setup (cells_from setup from) (Some (line.Allow s d))
  cells-begin from s d lt so_far here row = (here, so_far ∙ cells-more s lt ∙ ap (λ l. l ++ cells_from setup (suc s)) row)

  -- behind a cell stands another one of its row
  allow-more : (s d : ℕ) → IsLineOf setup (line.Allow s d)
      → lines_from setup (line.Allow s d) ≡ declared_by setup (line.Allow s d) ∷ (row_from setup s (d + 1) ++ cells_from setup (s + 1))
  allow-more s d is =
      ap (λ l. l ++ cells_from setup (suc s)) (row-more s d is.1
      ∙ ap (λ l. l ++ row_from setup s (suc d)) (allow-one (subject_name setup s) (document_name setup d) (modes_at setup.policy.matrix s d) is.2))
      ∙ (λ i. declared_by setup (line.Allow s d) ∷ (row_from setup s (sym (add-one d) i) ++ cells_from setup (sym (add-one s) i)))

  pub behind-in-row : (s d d2 : ℕ) → IsLineOf setup (line.Allow s d) → IsLineOf setup (line.Allow s d2) → row_from setup s (d + 1) ≡ row_from setup s d2
      → StandsBehind setup (line.Allow s d) (Some (line.Allow s d2))
  behind-in-row s d d2 is next row = (
    row_from setup s (d + 1) ++ cells_from setup (s + 1),
    allow-more s d is,
    (next, (λ i. row i ++ cells_from setup (add-one s i))),
  )

  -- or one of a later row, or none
  pub behind-row : (s d : ℕ) (next : Option Line) → IsLineOf setup (line.Allow s d) → row_from setup s (d + 1) ≡ [] → AreLeft setup (cells_from setup (s + 1)) next
      → StandsBehind setup (line.Allow s d) next
  behind-row s d next is over left =
      (cells_from setup (s + 1), allow-more s d is ∙ ap (λ l. declared_by setup (line.Allow s d) ∷ (l ++ cells_from setup (s + 1))) over, left)

  -- ---- documents

  pub documents-over : (d : ℕ) → length setup.names.documents ≤ d → documents_from setup d ≡ cells_from setup 0
  documents-over d le =
      ap (λ ns. document_lines setup.names.scheme ns (drop d setup.policy.documents) (drop d setup.policy.present) (drop d setup.contents) ++ cells_from setup 0)
      (drop_all d setup.names.documents le)

  documents-more : Agree setup → (d : ℕ) → d < length setup.names.documents
      → documents_from setup d ≡ declared_by setup (line.Document d) ∷ documents_from setup (d + 1)
  documents-more agree d lt = λ i. document_lines setup.names.scheme (drop_more setup.names.documents d [] lt i)
      (drop_more setup.policy.documents d lowest (omega (arith, lt, agree.documents)) i)
      (drop_more setup.policy.present d false (omega (arith, lt, agree.presence)) i)
      (drop_more setup.contents d [] (omega (arith, lt, agree.contents)) i) ++ cells_from setup 0

  pub behind-document : Agree setup → (d : ℕ) (next : Option Line) → d < length setup.names.documents → AreLeft setup (documents_from setup (d + 1)) next
      → StandsBehind setup (line.Document d) next
  behind-document agree d next lt left = (documents_from setup (d + 1), documents-more agree d lt, left)

  -- ---- subjects

  pub subjects-over : (s : ℕ) → length setup.names.subjects ≤ s → subjects_from setup s ≡ documents_from setup 0
  subjects-over s le =
      ap (λ ns. subject_lines setup.names.scheme ns (drop s setup.policy.subjects) ++ documents_from setup 0) (drop_all s setup.names.subjects le)

  subjects-more : Agree setup → (s : ℕ) → s < length setup.names.subjects
      → subjects_from setup s ≡ declared_by setup (line.Subject s) ∷ subjects_from setup (s + 1)
  subjects-more agree s lt = λ i. subject_lines setup.names.scheme (drop_more setup.names.subjects s [] lt i)
      (drop_more setup.policy.subjects s nobody (omega (arith, lt, agree.subjects)) i) ++ documents_from setup 0

  pub behind-subject : Agree setup → (s : ℕ) (next : Option Line) → s < length setup.names.subjects → AreLeft setup (subjects_from setup (s + 1)) next
      → StandsBehind setup (line.Subject s) next
  behind-subject agree s next lt left = (subjects_from setup (s + 1), subjects-more agree s lt, left)

  -- ---- the first two lines

  pub behind-categories : (next : Option Line) → AreLeft setup (subjects_from setup 0) next → StandsBehind setup line.Categories next
  behind-categories next left = (subjects_from setup 0, refl, left)

  ranks-more : (rs : List (List ℕ)) (rest : List Declaration) → rs ≢ [] → rank_lines rs ++ rest ≡ ranks_declared rs ∷ rest
  ranks-more [] rest some = absurd (some refl)
  ranks-more (r ∷ rs) rest some = refl

  pub behind-ranks : IsLineOf setup line.Ranks → StandsBehind setup line.Ranks (Some line.Categories)
  behind-ranks some = (
    lines_from setup line.Categories,
    ranks-more setup.names.scheme.ranks (lines_from setup line.Categories) some,
    (tt, refl),
  )

  -- where others are left under another name
  pub left-as : (a b : List Declaration) (next : Option Line) → a ≡ b → AreLeft setup b next → AreLeft setup a next
  left-as a b next same left = subst (λ l. AreLeft setup l next) (sym same) left
