-- Bytes begin with at most one list of tokens to a given end, and those are proper.
use Rattle.std.proofs.Common.{◌≡◌, ℕ, List, [], ◌∷◌, refl, sym, ◌∙◌}
use Rattle.bl_name.specs.declared.lexer.Class.TheVariants as class
use Rattle.bl_name.specs.Token.{Tok}
use Rattle.bl_name.specs.Lexing.{front, token, past, Begins}
use Rattle.bl_name.specs.Name.{AreProper}
use Rattle.bl_name.proofs.Fronts.{front_splits}

-- no token stands at the end of the bytes
none_at_end : (bytes : List ℕ) (t : Tok) (more : List ℕ) → [] ≡ past class.Blank bytes → front (past class.Blank bytes) ≡ token t more → ⊥
none_at_end bytes t more e f = let g = rw (← e) at f in cc

pub one_reading : (bytes : List ℕ) (ts us : List Tok) → Begins bytes ts [] → Begins bytes us [] → ts ≡ us
one_reading bytes [] [] b c = refl
one_reading bytes [] (u ∷ us) b (more, f, c) = absurd (none_at_end bytes u more b f)
one_reading bytes (t ∷ ts) [] (more, f, b) c = absurd (none_at_end bytes t more c f)
one_reading bytes (t ∷ ts) (u ∷ us) (more, f, b) (more', g, c) =
    let e : token t more ≡ token u more' = sym f ∙ g in
    let same : more' ≡ more = cc in
    let tail = one_reading more ts us b (rw same at c) in
    cc

pub read_proper : (bytes rest : List ℕ) (ts : List Tok) → Begins bytes ts rest → AreProper ts
read_proper bytes rest [] b = tt
read_proper bytes rest (t ∷ ts) (more, f, b) = ((front_splits (past class.Blank bytes) t more f).proper, read_proper more rest ts b)
