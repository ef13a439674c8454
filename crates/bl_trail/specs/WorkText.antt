-- The canonical text of a work.
use Rattle.std.specs.Prelude.{◌≡◌, ℕ, List}
use Rattle.bl_write.specs.CanonicalLine.{canonical_line}
use Rattle.bl_work.specs.Names.{KnownNames}
use Rattle.bl_work.specs.declared.asked.Line.TheVariants as line
use Rattle.bl_work.specs.declared.work.Work.{Work}
use Rattle.bl_work.specs.Readable.{IsReadable}

-- some text reads as the work, and this is its canonical one
pub record IsWorkText (names : KnownNames) (text : List ℕ) (work : Work) : Type 0 where
  pub readable : IsReadable names work
  pub canonical : text ≡ canonical_line names (line.Work work)

-- the text is no work's
abbrev pub IsNoWorkText : KnownNames → List ℕ → Type 0
IsNoWorkText names text = (work : Work) → IsWorkText names text work → ⊥
