-- The table of who may do what, as text.
use Rattle.std.specs.Prelude.{◌==◌, ◌<◌, ℕ, Bool, true, false, List, [], ◌∷◌, ◌++◌, codes, decimal, flat_map, fold, length, max, if◌then◌else◌}
use Rattle.bl_level.specs.Scheme.{SchemeNames, HoldsLevel}
use Rattle.bl_policy.specs.Policy.{level_of}
use Rattle.bl_setup.specs.Setup.{Setup}
use Rattle.bl_state.specs.Whole.{IsWhole}
use Rattle.bl_work.specs.Names.{KnownNames}
use Rattle.bl_explain_text.specs.Reasons.{document_name, joined, level_name, subject_name}
use Rattle.bl_explain_text.specs.Telling.{filled}
use Rattle.bl_rights.specs.Rows.{documents_in, rights, rows, subjects_in}
use Rattle.bl_rights.specs.declared.permission.Permission.{Permission}
use Rattle.bl_rights.specs.declared.permission.Permission.TheVariants.{NoRight, Now, Exempt, Never, From, At, UpTo}
use Rattle.bl_rights.specs.declared.rows.Row.{Row}
use Rattle.bl_rights_text.specs.Remarks.{admin_line, idle_line, never_lines, unread_line, way_lines}
use Rattle.bl_rights_text.specs.declared.cells.Widths.{Widths}

-- the levels of a permission have names
abbrev pub HoldsPermission : SchemeNames → Permission → Type 0
HoldsPermission scheme NoRight = Unit {0}
HoldsPermission scheme Now = Unit {0}
HoldsPermission scheme Exempt = Unit {0}
HoldsPermission scheme Never = Unit {0}
HoldsPermission scheme (From level) = HoldsLevel scheme level
HoldsPermission scheme (At level) = HoldsLevel scheme level
HoldsPermission scheme (UpTo level) = HoldsLevel scheme level

-- what a row names is in a setup that lines can declare, and so are its levels
pub record IsRowOf (setup : Setup) (row : Row) : Type 0 where
  pub whole : IsWhole setup
  pub known : row.subject < length setup.names.subjects
  pub there : row.doc < length setup.names.documents
  pub level : HoldsLevel setup.names.scheme (level_of setup.policy row.doc)
  pub read : HoldsPermission setup.names.scheme row.read
  pub append : HoldsPermission setup.names.scheme row.append
  pub write : HoldsPermission setup.names.scheme row.write

-- own choice: these words, and those below; of what is never permitted it is the simple-security property that forbids it
abbrev pub permission_words : KnownNames → Permission → List ℕ
permission_words names NoRight = codes "-"
permission_words names Now = codes "yes"
permission_words names Exempt = codes "exempt"
permission_words names Never = codes "never, simple"
permission_words names (From level) = joined (codes "from " ∷ level_name names level ∷ [])
permission_words names (At level) = joined (codes "at " ∷ level_name names level ∷ [])
permission_words names (UpTo level) = joined (codes "up to " ∷ level_name names level ∷ [])

-- the texts of a row
pub record RowTexts : Type 0 where
  pub subject : List ℕ
  pub document : List ℕ
  pub level : List ℕ
  pub read : List ℕ
  pub append : List ℕ
  pub write : List ℕ

-- those above the rows
abbrev pub head_texts : RowTexts
head_texts =
    record {
      subject = codes "subject";
      document = codes "document";
      level = codes "level";
      read = codes "read";
      append = codes "append";
      write = codes "write";
    }

-- those of a row
abbrev pub row_texts : Setup → Row → RowTexts
row_texts setup row =
    record {
      subject = subject_name setup.names row.subject;
      document = document_name setup.names row.doc;
      level = level_name setup.names (level_of setup.policy row.doc);
      read = permission_words setup.names row.read;
      append = permission_words setup.names row.append;
      write = permission_words setup.names row.write;
    }

-- how wide texts stand
abbrev pub widths_by : RowTexts → Widths
widths_by t =
    record { subject = length t.subject; document = length t.document; level = length t.level; read = length t.read; append = length t.append }

abbrev pub wider : Widths → Widths → Widths
wider a b =
    record {
      subject = max a.subject b.subject;
      document = max a.document b.document;
      level = max a.level b.level;
      read = max a.read b.read;
      append = max a.append b.append;
    }

-- with one row more
abbrev pub widened : Setup → Widths → Row → Widths
widened setup widths row = wider widths (widths_by (row_texts setup row))

-- each column is as wide as the widest of its texts
abbrev pub widths_of : Setup → Widths
widths_of setup = fold (widened setup) (widths_by head_texts) (rows setup.policy)

-- a line of the table: each text but the last one is filled to the width of its column, with two blanks behind it
abbrev pub row_line : Widths → RowTexts → List ℕ
row_line w t =
    joined (
    codes "  "
    ∷ filled w.subject t.subject
    ∷ codes "  "
    ∷ filled w.document t.document
    ∷ codes "  "
    ∷ filled w.level t.level
    ∷ codes "  "
    ∷ filled w.read t.read
    ∷ codes "  "
    ∷ filled w.append t.append
    ∷ codes "  "
    ∷ t.write
    ∷ codes "\n"
    ∷ []
    )

-- so many things, with the word for them
abbrev pub ending : ℕ → List ℕ
ending count = if count == 1 then [] else codes "s"

abbrev pub counted : ℕ → List ℕ → List ℕ
counted count word = joined (decimal count ∷ codes " " ∷ word ∷ ending count ∷ [])

-- the first line: the file, and how much it declares
abbrev pub first_line : List ℕ → Setup → List ℕ
first_line name setup =
    joined (
    name
    ∷ codes ": "
    ∷ counted (length setup.names.subjects) (codes "subject")
    ∷ codes ", "
    ∷ counted (length setup.names.documents) (codes "document")
    ∷ codes ", "
    ∷ counted (rights setup.policy) (codes "right")
    ∷ codes "\n"
    ∷ []
    )

-- the lines of the rows
abbrev pub rows_text : Setup → List ℕ
rows_text setup = flat_map (λ row. row_line (widths_of setup) (row_texts setup row)) (rows setup.policy)

-- the remarks, each kind by the order of the setup
abbrev pub remarks_text : Setup → List ℕ
remarks_text setup =
    flat_map (λ row. never_lines setup row) (rows setup.policy)
    ++ (flat_map (λ s. way_lines setup s) (subjects_in setup.policy)
    ++ (flat_map (λ o. unread_line setup o) (documents_in setup.policy)
    ++ (flat_map (λ s. idle_line setup s) (subjects_in setup.policy) ++ admin_line setup)))

-- whether something is told
abbrev pub is_told : List ℕ → Bool
is_told [] = false
is_told (byte ∷ text) = true

-- what stands before the remarks, if there are any
abbrev pub remarks_head : Bool → List ℕ
remarks_head true = codes "remarks\n"
remarks_head false = codes "no remarks\n"

-- what is told of a setup file without fault, of this name
abbrev pub table_text : List ℕ → Setup → List ℕ
table_text name setup =
    first_line name setup ++ (row_line (widths_of setup) head_texts ++ (rows_text setup ++ (remarks_head (is_told (remarks_text setup)) ++ remarks_text setup)))
