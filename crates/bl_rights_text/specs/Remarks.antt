-- Remarks on what a setup permits, as text.
use Rattle.std.specs.Prelude.{ℕ, List, [], ◌∷◌, codes, Option, Some, None, if◌then◌else◌}
use Rattle.bl_policy.specs.declared.access.Mode.{Mode}
use Rattle.bl_policy.specs.declared.access.Mode.TheVariants.{Read, Append, Write}
use Rattle.bl_policy.specs.Policy.{is_admin, is_trusted}
use Rattle.bl_setup.specs.Setup.{Setup}
use Rattle.bl_work.specs.Letters.{letter_of}
use Rattle.bl_explain_text.specs.Reasons.{document_name, joined, subject_name}
use Rattle.bl_rights.specs.Remarks.{has_admin, is_idle, is_unread, way_down, way_end}
use Rattle.bl_rights.specs.declared.permission.Permission.{Permission}
use Rattle.bl_rights.specs.declared.permission.Permission.TheVariants.{NoRight, Now, Exempt, Never, From, At, UpTo}
use Rattle.bl_rights.specs.declared.rows.Row.{Row}

module _ (setup : Setup) where
  -- own choice: these words, and those below. Of a right that can never be used
  abbrev pub unusable_line : Row → Mode → List ℕ
  unusable_line row mode =
      joined (
      codes "  never: "
      ∷ subject_name setup.names row.subject
      ∷ codes " has "
      ∷ letter_of mode
      ∷ codes " of "
      ∷ document_name setup.names row.doc
      ∷ codes ", and no current level of "
      ∷ subject_name setup.names row.subject
      ∷ codes " lets it be used\n"
      ∷ []
      )

  -- nothing is said of another one
  abbrev pub never_line : Row → Mode → Permission → List ℕ
  never_line row mode NoRight = []
  never_line row mode Now = []
  never_line row mode Exempt = []
  never_line row mode Never = unusable_line row mode
  never_line row mode (From level) = []
  never_line row mode (At level) = []
  never_line row mode (UpTo level) = []

  -- of the rights of a row that can never be used
  abbrev pub never_lines : Row → List ℕ
  never_lines row = joined (never_line row Read row.read ∷ never_line row Append row.append ∷ never_line row Write row.write ∷ [])

  -- of a trusted subject that is an administrator: it may give a document whatever level
  abbrev pub classify_line : ℕ → List ℕ
  classify_line s =
      if is_admin setup.policy s then joined (codes "  way down: " ∷ subject_name setup.names s ∷ codes ", a trusted administrator, may classify any document\n" ∷ []) else []

  -- the document at the end of a way down
  abbrev pub end_name : Option ℕ → List ℕ
  end_name None = []
  end_name (Some o) = document_name setup.names o

  -- of a trusted subject that may look at one document, and alter one whose level does not dominate it
  abbrev pub fall_line : ℕ → ℕ → List ℕ
  fall_line s from =
      joined (
      codes "  way down: "
      ∷ subject_name setup.names s
      ∷ codes ", a trusted subject, may look at "
      ∷ document_name setup.names from
      ∷ codes " and alter "
      ∷ end_name (way_end setup.policy s from)
      ∷ codes ", whose level does not dominate it\n"
      ∷ []
      )

  -- where there is such a document
  abbrev pub down_line : ℕ → Option ℕ → List ℕ
  down_line s None = []
  down_line s (Some from) = fall_line s from

  -- of a trusted subject
  abbrev pub way_lines : ℕ → List ℕ
  way_lines s = if is_trusted setup.policy s then joined (classify_line s ∷ down_line s (way_down setup.policy s) ∷ []) else []

  -- of a document that nobody may look at
  abbrev pub unread_line : ℕ → List ℕ
  unread_line o = if is_unread setup.policy o then joined (codes "  unread: nobody may look at " ∷ document_name setup.names o ∷ codes "\n" ∷ []) else []

  -- of a subject without a right
  abbrev pub idle_line : ℕ → List ℕ
  idle_line s = if is_idle setup.policy s then joined (codes "  idle: " ∷ subject_name setup.names s ∷ codes " has no right\n" ∷ []) else []

  -- of a setup without an administrator
  abbrev pub admin_line : List ℕ
  admin_line = if has_admin setup.policy then [] else codes "  nobody administers: no subject is an administrator\n"
