-- How a line looks while it comes.
use Rattle.std.specs.Prelude.{ℕ, List, if◌then◌else◌, ◌==◌, ◌||◌, fold}
use Rattle.bl_wire.specs.declared.held.Look.{Look}
use Rattle.bl_wire.specs.declared.held.Look.TheVariants.{Blank, BlankThenCr, Filled}

-- the look after one more byte
abbrev pub look_after : Look → ℕ → Look
look_after Blank b = if (b == 32) || (b == 9) then Blank else if b == 13 then BlankThenCr else Filled
look_after BlankThenCr b = Filled
look_after Filled b = Filled

abbrev pub look_of : List ℕ → Look
look_of line = fold look_after Blank line
