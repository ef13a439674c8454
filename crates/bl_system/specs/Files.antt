-- How much of a file is read.
use Rattle.std.specs.Prelude.{ℕ}

-- own choice: how many bytes a trail file has at most that is read
abbrev pub most_trail_bytes : ℕ
most_trail_bytes = 1073741824
