-- Texts in columns.
use Rattle.std.specs.Prelude.{◌-◌, ℕ, Bool, List, [], ◌∷◌, ◌++◌, codes, length, map, max, replicate, not, ◌==◌, if◌then◌else◌}
use Rattle.std.specs.List.{enumerate_from, list_any, zip}
use Rattle.bl_columns.specs.declared.column.Column.{Column}

-- a text in its column: filled with blanks, in front of it where it stands at the right, else behind it
abbrev pub aligned : Column → List ℕ → List ℕ
aligned column text =
    if column.is_right
    then replicate (column.width - length text) 32 ++ text
    else text ++ replicate (column.width - length text) 32

-- the last text of a line, behind which nothing is filled
abbrev pub ending : Column → List ℕ → List ℕ
ending column text = if column.is_right then aligned column text else text

-- something is told
abbrev pub is_told : List ℕ → Bool
is_told text = not (length text == 0)

-- one of these texts tells something
abbrev pub tells_any : List (List ℕ) → Bool
tells_any texts = list_any is_told texts

-- own choice: the texts of a row, each in its column with two blanks before it; behind the last one that tells something
-- stands nothing, and a text without a column is left out
abbrev pub row_texts : List Column → List (List ℕ) → List ℕ
row_texts columns [] = []
row_texts [] (text ∷ later) = []
row_texts (column ∷ others) (text ∷ later) =
    codes "  " ++ (if tells_any later then aligned column text ++ row_texts others later else ending column text)

-- a line of its own
abbrev pub row_line : List Column → List (List ℕ) → List ℕ
row_line columns cells = row_texts columns cells ++ codes "\n"

-- own choice: the texts of the first column stand at the right, and those of all others at the left
abbrev pub column_under : ℕ × List ℕ → Column
column_under p = record { is_right = p.0 == 0; width = length p.1 }

abbrev pub columns_under : List (List ℕ) → List Column
columns_under heads = map column_under (enumerate_from 0 heads)

-- a column with one text more
abbrev pub column_with : Column × List ℕ → Column
column_with p = record { is_right = p.0.is_right; width = max p.0.width (length p.1) }

-- columns with one row more
abbrev pub columns_with : List Column → List (List ℕ) → List Column
columns_with columns row = map column_with (zip columns row)
