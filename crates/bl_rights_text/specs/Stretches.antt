-- The stretches of a table and of its remarks, each put piece by piece.
use Rattle.std.specs.Prelude.{◌<◌, ℕ, List, [], flat_map, length, Option, Some, None}
use Rattle.std.specs.List.{range_with_len}
use Rattle.bl_setup.specs.Setup.{Setup}
use Rattle.bl_rights.specs.Rows.{row_at}
use Rattle.bl_rights.specs.declared.rows.Row.{Row}
use Rattle.bl_rights_text.specs.Remarks.{idle_line, never_lines, unread_line, way_lines}
use Rattle.bl_rights_text.specs.Table.{row_line, row_texts, widened}
use Rattle.bl_rights_text.specs.declared.cells.Widths.{Widths}
use Rattle.bl_rights_text.specs.declared.overview.Overview.{Overview}
use Rattle.bl_rights_text.specs.declared.stretches.Listing.{Listing}
use Rattle.bl_rights_text.specs.declared.stretches.Listing.TheVariants.{Rows, Never}
use Rattle.bl_rights_text.specs.declared.stretches.Stretch.{Stretch}
use Rattle.bl_rights_text.specs.declared.stretches.Stretch.TheVariants.{Each, WaysDown, Unread, Idle}

-- the widths with those of a row, where there is one
abbrev pub widened_where : Setup → Widths → Option Row → Widths
widened_where setup widths None = widths
widened_where setup widths (Some row) = widened setup widths row

module _ (t : Overview) where
  -- what is told of a row, where there is one
  abbrev pub told_where : Listing → Option Row → List ℕ
  told_where listing None = []
  told_where Rows (Some row) = row_line t.widths (row_texts t.setup.now row)
  told_where Never (Some row) = never_lines t.setup.now row

  -- the piece of a stretch for a document, or for a subject
  abbrev pub piece_of : Stretch → ℕ → List ℕ
  piece_of (Each listing s) o = told_where listing (row_at t.setup.now.policy s o)
  piece_of WaysDown s = way_lines t.setup.now s
  piece_of Unread o = unread_line t.setup.now o
  piece_of Idle s = idle_line t.setup.now s

  -- how many pieces a stretch has
  abbrev pub count_of : Stretch → ℕ
  count_of (Each listing s) = length t.setup.now.policy.documents
  count_of WaysDown = length t.setup.now.policy.subjects
  count_of Unread = length t.setup.now.policy.documents
  count_of Idle = length t.setup.now.policy.subjects

  -- a stretch, and all stretches of a listing
  abbrev pub stretch_text : Stretch → List ℕ
  stretch_text stretch = flat_map (λ k. piece_of stretch k) (range_with_len 0 (count_of stretch))

  abbrev pub listing_text : Listing → List ℕ
  listing_text listing = flat_map (λ s. stretch_text (Each listing s)) (range_with_len 0 (length t.setup.now.policy.subjects))

  -- the subject of a stretch is there
  abbrev pub IsStretchOf : Stretch → Type 0
  IsStretchOf (Each listing s) = s < length t.setup.now.policy.subjects
  IsStretchOf WaysDown = Unit {0}
  IsStretchOf Unread = Unit {0}
  IsStretchOf Idle = Unit {0}
