-- Replies to works that show one text.
use Rattle.std.specs.Prelude.{ℕ, ◌≤◌, List, [], ◌++◌, nat_le, if◌then◌else◌, codes, decimal}
use Rattle.bl_connection_tests.specs.declared.shows.Shows.{Shows}

-- what is still to be taken: nothing of the replies up to an ordinal
abbrev pub left_of : Shows → ℕ → List ℕ
left_of shows k = if nat_le k shows.upto then [] else decimal k ++ (codes " done \"" ++ (shows.text.now ++ codes "\"\n"))

abbrev pub Stands : Shows → ℕ → Type 0
Stands shows n = shows.upto ≤ n
