-- How wide columns stand, row by row.
use Rattle.std.proofs.Common.{◌≡◌, ℕ, ◌+◌, List, [], ◌∷◌, ◌++◌, refl, ◌∙◌, ap, append-nil, flat_map}
use Rattle.std.specs.Prelude.{filter_map, fold, Option, Some, None}
use Rattle.std.specs.List.{cons_option, range_with_len}
use Rattle.std.proofs.lemmas.Grind.{flat_map-append}
use Rattle.std.proofs.lemmas.List.Elements.{filter_map-append}
use Rattle.std.proofs.lemmas.List.Sums.{fold-append}
use Rattle.bl_setup.specs.Setup.{Setup}
use Rattle.bl_rights.specs.declared.rows.Row.{Row}
use Rattle.bl_rights.proofs.Numbers.{one-more}
use Rattle.bl_rights_text.specs.Stretches.{widened_where}
use Rattle.bl_rights_text.specs.Table.{widened}
use Rattle.bl_rights_text.specs.declared.cells.Widths.{Widths}

module _ (setup : Setup) (w : Widths) where
  with-one : (o : Option Row) (v : Widths) → fold (widened setup) v (cons_option o []) ≡ widened_where setup v o
  with-one None v = refl
  with-one (Some row) v = refl

  -- with the next document
  pub next-row : (h : ℕ → Option Row) (k : ℕ)
      → fold (widened setup) w (filter_map h (range_with_len 0 (k + 1))) ≡ widened_where setup (fold (widened setup) w (filter_map h (range_with_len 0 k))) (h k)
  next-row h k =
      ap (λ (xs : List ℕ). fold (widened setup) w (filter_map h xs)) (one-more k)
      ∙ ap (fold (widened setup) w) (filter_map-append h (range_with_len 0 k) (k ∷ []))
      ∙ fold-append (widened setup) w (filter_map h (range_with_len 0 k)) (cons_option (h k) [])
      ∙ with-one (h k) (fold (widened setup) w (filter_map h (range_with_len 0 k)))

  -- with the next subject
  pub next-rows : (g : ℕ → List Row) (k : ℕ)
      → fold (widened setup) w (flat_map g (range_with_len 0 (k + 1))) ≡ fold (widened setup) (fold (widened setup) w (flat_map g (range_with_len 0 k))) (g k)
  next-rows g k =
      ap (λ (xs : List ℕ). fold (widened setup) w (flat_map g xs)) (one-more k)
      ∙ ap (fold (widened setup) w) (flat_map-append g (range_with_len 0 k) (k ∷ []))
      ∙ fold-append (widened setup) w (flat_map g (range_with_len 0 k)) (g k ++ [])
      ∙ ap (fold (widened setup) (fold (widened setup) w (flat_map g (range_with_len 0 k)))) (append-nil (g k))
