-- What is taken joins, leaves less, and is all of the bytes where only blanks are left.
use Rattle.std.proofs.Common.{◌≡◌, ℕ, ◌+◌, ◌≤◌, List, [], ◌∷◌, ◌++◌, length, refl, sym, ap, ◌∙◌, subst, arith}
use Rattle.bl_name.specs.declared.lexer.Class.TheVariants as class
use Rattle.bl_level.specs.Token.{Tok}
use Rattle.bl_level.specs.Lexing.{token, front, past_blanks, Begins}
use Rattle.bl_name.proofs.Runs.{past_le}
use Rattle.bl_name.proofs.Fronts.{front_shorter}
use Rattle.bl_walk.specs.Takes.{Takes}

pub takes_join : (xs ys : List Tok) (b m r : List ℕ) → Takes b xs m → Takes m ys r → Takes b (xs ++ ys) r
takes_join [] ys b m r e h = subst (λ x. Takes x ys r) e h
takes_join (t ∷ xs) ys b m r (more, f, h) k = (more, f, takes_join xs ys more m r h k)

-- one token, and then these
pub takes_then : (t : Tok) (ys : List Tok) (b m r : List ℕ) → Takes b (t ∷ []) m → Takes m ys r → Takes b (t ∷ ys) r
takes_then t ys b m r h k = takes_join (t ∷ []) ys b m r h k

pub takes_one : (t : Tok) (b r : List ℕ) → front (past_blanks b) ≡ token t r → Takes b (t ∷ []) r
takes_one t b r f = (r, f, refl)

pub takes_begins : (ts : List Tok) (b r : List ℕ) → Takes b ts r → past_blanks r ≡ [] → Begins b ts []
takes_begins [] b r e h = sym h ∙ ap past_blanks e
takes_begins (t ∷ ts) b r (more, f, k) h = (more, f, takes_begins ts more r k h)

pub takes_within : (ts : List Tok) (b r : List ℕ) → Takes b ts r → length r ≤ length b
takes_within [] b r e = omega (arith, ap length e)
takes_within (t ∷ ts) b r (more, f, h) = omega (arith, takes_within ts more r h, front_shorter (past_blanks b) t more f, past_le class.Blank b)

pub takes_less : (t : Tok) (ts : List Tok) (b r : List ℕ) → Takes b (t ∷ ts) r → length r + 1 ≤ length b
takes_less t ts b r (more, f, h) = omega (arith, takes_within ts more r h, front_shorter (past_blanks b) t more f, past_le class.Blank b)
