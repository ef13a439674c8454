-- What a connection sent first, and the name that it gave there.
use Rattle.std.specs.Prelude.{◌≡◌, ℕ, List, Option, not}
use Rattle.std.specs.List.{find}
use Rattle.bl_name.specs.Lexing as lexing
use Rattle.bl_name.specs.Token as tokens
use Rattle.bl_name.specs.declared.token.Keyword.TheVariants.{Hello}
use Rattle.bl_wire.specs.Lines.{lines_of, is_blank, without_cr}
use Rattle.bl_entrance.specs.declared.first.FirstBytes.{FirstBytes}

-- the bytes that are kept
abbrev pub heard_of : FirstBytes → List ℕ
heard_of first = first.bytes.items

-- the first line of a text that is not skipped
abbrev pub first_said : List ℕ → Option (List ℕ)
first_said text = find (λ line. not (is_blank (without_cr line))) (lines_of text)

-- what stands at the front, behind any blanks
abbrev pub front_of : List ℕ → lexing.Front
front_of bytes = lexing.front (lexing.past_blanks bytes)

-- the line is `hello` and this name
abbrev pub Gives : (line name : List ℕ) → Type 0
Gives line name = (rest : List ℕ) × (behind : List ℕ)
    × (front_of (without_cr line) ≡ lexing.token (tokens.reserved Hello) rest)
    × (front_of rest ≡ lexing.token (tokens.name name) behind) × (front_of behind ≡ lexing.nothing)

-- the line gives no name
abbrev pub GivesNone : List ℕ → Type 0
GivesNone line = (name : List ℕ) → Gives line name → ⊥
