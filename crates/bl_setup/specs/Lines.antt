-- How bytes are cut into lines, and which lines are read.
use Rattle.std.specs.Prelude.{ℕ, Bool, false, not, ◌||◌, ◌==◌, if◌then◌else◌, List, [], ◌∷◌, map, filter}
use Rattle.std.specs.List.{list_all}

-- the byte goes onto the first line
abbrev pub onto : ℕ → List (List ℕ) → List (List ℕ)
onto b [] = (b ∷ []) ∷ []
onto b (line ∷ lines) = (b ∷ line) ∷ lines

-- the lines, each up to its LF; the last one may lack it
abbrev pub lines_of : List ℕ → List (List ℕ)
lines_of [] = []
lines_of (b ∷ bytes) = if b == 10 then [] ∷ lines_of bytes else onto b (lines_of bytes)

-- a line without the CR at its end
abbrev pub without_cr : List ℕ → List ℕ
without_cr [] = []
without_cr (b ∷ []) = if b == 13 then [] else b ∷ []
without_cr (b ∷ c ∷ bytes) = b ∷ without_cr (c ∷ bytes)

-- there are spaces and tabs alone
abbrev pub is_blank : List ℕ → Bool
is_blank line = list_all (λ b. b == 32 || b == 9) line

-- the first byte is `#`
abbrev pub is_comment : List ℕ → Bool
is_comment [] = false
is_comment (b ∷ line) = b == 35

-- own choice: a line of blanks alone and a comment are skipped
abbrev pub is_skipped : List ℕ → Bool
is_skipped line = is_comment line || is_blank line

-- the lines of a file, in order, without their line ends
abbrev pub file_lines : List ℕ → List (List ℕ)
file_lines bytes = map without_cr (lines_of bytes)

-- the lines that are not skipped
abbrev pub kept : List (List ℕ) → List (List ℕ)
kept lines = filter (λ line. not (is_skipped line)) lines

-- those of them that are read
abbrev pub lines_read : List ℕ → List (List ℕ)
lines_read bytes = kept (file_lines bytes)
