use Rattle.std.proofs.Common.{◌++◌, ◌≤◌, ℕ, List, Option, length}
use Rattle.bl_name.specs.Token.{Tok, toks}
use Rattle.bl_name.specs.Cutting.{Cut}
use Rattle.bl_name.proofs.lexer.lex.Given as goal

-- what the rest is cut into goes behind what there is
abbrev pub invariant-loop-tokens : goal.invariant-loop-tokens
invariant-loop-tokens l = record {
  joins : (ts : List Tok) (ks : List ℕ) (place : Option ℕ) → Cut (length l.bytes) l.rest ts ks place
      → Cut (length l.bytes) l.bytes (toks l.tokens.items ++ ts) (l.places.items ++ ks) place;
  within : length l.rest ≤ length l.bytes;
}

abbrev pub decreases-loop-tokens : goal.decreases-loop-tokens
decreases-loop-tokens l = length l.rest
