-- What the lexer's answers stand for.
use Rattle.std.specs.Prelude.{ℕ, ◌<◌, ◌≤◌, length}
use Rattle.bl_name.specs.declared.lexer.Front.{Front}
use Rattle.bl_name.specs.declared.lexer.Front.TheVariants as source
use Rattle.bl_name.specs.Token.{tok}
use Rattle.bl_name.specs.Lexing as spec
use Rattle.bl_name.specs.Name.{IsProper}

abbrev pub front_view : Front → spec.Front
front_view source.Nothing = spec.nothing
front_view (source.Token t more) = spec.token (tok t) more.now
front_view (source.Broken from) = spec.broken from.now

-- a token is proper, and takes at least one of so many bytes; a fault lies among them, or at their end
abbrev pub IsSound : ℕ → Front → Type 0
IsSound total source.Nothing = Unit {0}
IsSound total (source.Token t more) = IsProper (tok t) × (length more.now < total)
IsSound total (source.Broken from) = length from.now ≤ total
