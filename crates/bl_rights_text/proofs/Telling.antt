-- What is told of each row, subject by subject.
use Rattle.std.proofs.Common.{◌≡◌, ℕ, List, [], ◌∷◌, ◌++◌, refl, sym, ◌∙◌, ap, ap₂, flat_map}
use Rattle.std.specs.Prelude.{filter_map, Option, Some, None}
use Rattle.std.specs.List.{cons_option}
use Rattle.std.proofs.lemmas.Grind.{flat_map-append}
use Rattle.bl_rights.specs.Rows.{documents_in, row_at, rows, subjects_in}
use Rattle.bl_rights.specs.declared.rows.Row.{Row}
use Rattle.bl_rights_text.specs.Stretches.{listing_text, told_where}
use Rattle.bl_rights_text.specs.Remarks.{never_lines}
use Rattle.bl_rights_text.specs.Table.{row_line, row_texts, rows_text, widths_of}
use Rattle.bl_rights_text.specs.declared.cells.Widths.{Widths}
use Rattle.bl_rights_text.specs.declared.overview.Overview.{Overview}
use Rattle.bl_rights_text.specs.declared.stretches.Listing.TheVariants.{Rows, Never}

module _ (told : Option Row → List ℕ) (none : told None ≡ []) where
  of-one : (o : Option Row) (rows : List Row) → told o ++ flat_map (λ row. told (Some row)) rows ≡ flat_map (λ row. told (Some row)) (cons_option o rows)
  of-one None rows = ap (λ l. l ++ flat_map (λ row. told (Some row)) rows) none
  of-one (Some row) rows = refl

  -- the rows that are there
  of-these : (h : ℕ → Option Row) (xs : List ℕ) → flat_map (λ x. told (h x)) xs ≡ flat_map (λ row. told (Some row)) (filter_map h xs)
  of-these h [] = refl
  of-these h (x ∷ xs) = ap (λ l. told (h x) ++ l) (of-these h xs) ∙ of-one (h x) (filter_map h xs)

  -- those of several subjects
  of-all : (h : ℕ → ℕ → Option Row) (docs subjects : List ℕ)
      → flat_map (λ s. flat_map (λ o. told (h s o)) docs) subjects ≡ flat_map (λ row. told (Some row)) (flat_map (λ s. filter_map (h s) docs) subjects)
  of-all h docs [] = refl
  of-all h docs (s ∷ subjects) =
      ap₂ (λ a b. a ++ b) (of-these (h s) docs) (of-all h docs subjects)
      ∙ sym (flat_map-append (λ row. told (Some row)) (filter_map (h s) docs) (flat_map (λ t. filter_map (h t) docs) subjects))

pub rows-told : (t : Overview) → t.widths ≡ widths_of t.setup.now → listing_text t Rows ≡ rows_text t.setup.now
rows-told t wide =
    of-all (told_where t Rows) refl (row_at t.setup.now.policy) (documents_in t.setup.now.policy) (subjects_in t.setup.now.policy)
    ∙ ap (λ (w : Widths). flat_map (λ row. row_line w (row_texts t.setup.now row)) (rows t.setup.now.policy)) wide

pub nevers-told : (t : Overview) → listing_text t Never ≡ flat_map (λ row. never_lines t.setup.now row) (rows t.setup.now.policy)
nevers-told t = of-all (told_where t Never) refl (row_at t.setup.now.policy) (documents_in t.setup.now.policy) (subjects_in t.setup.now.policy)
