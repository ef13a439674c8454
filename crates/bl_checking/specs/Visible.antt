-- What is visible of a line.
use Rattle.std.specs.Prelude.{ℕ, Bool, true, false, not, ◌+◌, ◌-◌, ◌/◌, ◌%◌, ◌&&◌, ◌==◌, nat_le, nat_lt, List, [], ◌∷◌, ◌++◌, length, take, drop, if◌then◌else◌, codes}

-- the digits 0 to 9, and then the letters from a on (ASCII)
abbrev pub hex_digit : ℕ → ℕ
hex_digit n = if nat_lt n 10 then 48 + n else 97 + (n - 10)

-- ASCII has a sign for the byte
abbrev pub is_plain : ℕ → Bool
is_plain b = nat_le 32 b && nat_le b 126

-- own choice: any other byte is told by its number, as `\x09`
abbrev pub plain : ℕ → List ℕ
plain b = if is_plain b then b ∷ [] else 92 ∷ 120 ∷ hex_digit (b / 16) ∷ hex_digit (b % 16) ∷ []

-- own choice: for what a text contains two dots stand behind its first quote
abbrev pub quote : Bool → List ℕ
quote true = codes "\""
quote false = codes "\".."

-- a byte, inside of a text or outside
abbrev pub byte : Bool → ℕ → List ℕ
byte inside b = if b == 34 then quote inside else (if inside then [] else plain b)

-- behind a quote outside of texts a text begins; behind one inside, it ends
abbrev pub is_inside_after : Bool → ℕ → Bool
is_inside_after inside b = if b == 34 then not inside else inside

-- whether what comes behind bytes is inside of a text
abbrev pub is_inside_behind : Bool → List ℕ → Bool
is_inside_behind inside [] = inside
is_inside_behind inside (b ∷ more) = is_inside_behind (is_inside_after inside b) more

-- bytes, one behind the other, of which the first is inside of a text or outside
abbrev pub bytes : Bool → List ℕ → List ℕ
bytes inside [] = []
bytes inside (b ∷ more) = byte inside b ++ bytes (is_inside_after inside b) more

-- own choice: no more than 100 visible bytes of each part of a line are told, and two dots in place of the others
abbrev pub dots : ℕ → List ℕ
dots n = if nat_le n 100 then [] else codes ".."

-- the last of them
abbrev pub last_bytes : List ℕ → List ℕ
last_bytes text = dots (length text) ++ drop (length text - 100) text

-- the first of them
abbrev pub first_bytes : List ℕ → List ℕ
first_bytes text = take 100 text ++ dots (length text)
