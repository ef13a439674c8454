-- How far a line was read, and what may come there.
use Rattle.std.specs.Prelude.{Bool, false, List, [], ◌∷◌, Option, Some, None, option_map}
use Rattle.bl_name.specs.declared.token.Keyword.TheVariants.{Ranks, Categories, Subject, Document, Reserve, Allow}
use Rattle.bl_level.specs.Token.{Tok, reserved}
use Rattle.bl_due.specs.declared.due.Due.{Due}
use Rattle.bl_due.specs.declared.due.Due.TheVariants as due
use Rattle.bl_due.specs.declared.due.Section.{Section}
use Rattle.bl_due.specs.declared.due.Section.TheVariants as section
use Rattle.bl_due.specs.declared.item.Item.{Item}
use Rattle.bl_due.specs.declared.point.Point as declared
use Rattle.bl_due.specs.declared.point.Point.TheVariants as source
use Rattle.bl_due.specs.Items.{step, may_end, due_of, items_behind, items_of}

-- nothing was read of a declaration of the section, or these items are left of one
pub data Point : Type 0 where
  start : Section → Point
  within : List Item → Point

-- the point behind the first token
abbrev pub first : Section → Tok → Option Point
first s (reserved word) = option_map within (items_behind s word)
first s _ = None

-- the point behind a token; none, where it may not stand there
abbrev pub next : Point → Tok → Option Point
next (start s) t = first s t
next (within items) t = option_map within (step items t)

-- the line may end there
abbrev pub may_stop : Point → Bool
may_stop (start s) = false
may_stop (within items) = may_end items

-- the first words of a section's declarations
abbrev pub first_words : Section → List Due
first_words section.Ranks = due.Word Ranks ∷ []
first_words section.Categories = due.Word Categories ∷ []
first_words section.Entries = due.Word Subject ∷ due.Word Document ∷ due.Word Reserve ∷ due.Word Allow ∷ []

-- what is due there
abbrev pub due_at : Point → List Due
due_at (start s) = first_words s
due_at (within items) = due_of items

-- the tokens lead from the point to one where the line may end
abbrev pub reads_from : Option Point → List Tok → Bool
reads_from None ts = false
reads_from (Some p) [] = may_stop p
reads_from (Some p) (t ∷ ts) = reads_from (next p t) ts

-- the point that a value of the code stands for
abbrev pub point : declared.Point → Point
point (source.Start s) = start s
point (source.Within left) = within (items_of left)

abbrev pub behind_of : Option declared.Point → Option Point
behind_of = option_map point
