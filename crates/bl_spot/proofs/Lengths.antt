-- How many tokens declarations have.
use Rattle.std.proofs.Common.{◌≡◌, ℕ, zero, suc, ◌+◌, ◌*◌, ◌<◌, ◌≤◌, ◌≢◌, Bool, true, false, List, [], ◌∷◌, ◌++◌, length, Option, Some, None, refl, sym, ap, ◌∙◌, arith, length-append}
use Rattle.std.proofs.lemmas.List.{length-map}
use Rattle.std.specs.Borrow.{Bor}
use Rattle.std.specs.Prelude.{◌==◌}
use Rattle.bl_level.specs.Lexing.{Begins, past_blanks}
use Rattle.bl_level.specs.LevelText.{LevelText, spell_level, spell_more, spell_categories}
use Rattle.bl_level.specs.Token.{Tok, reserved}
use Rattle.bl_name.specs.declared.lexer.Class.TheVariants as class
use Rattle.bl_name.proofs.Fronts.{front_shorter}
use Rattle.bl_name.proofs.Runs.{past_le}
use Rattle.bl_declare.specs.Declaration.{SubjectText, DocumentText, spell_subject, spell_document, spell_names, spell_content, spell_flag}
use Rattle.bl_declare.specs.Words.{names_of}
use Rattle.bl_name.specs.declared.token.Keyword.TheVariants.{Greatest, Current, Trusted, Admin}

more_length : (cs : List (List ℕ)) → length (spell_more cs) ≡ 1 + 2 * length cs
more_length [] = refl
more_length (c ∷ cs) = omega (arith, more_length cs)

pub categories_length : (cs : List (List ℕ)) (n : ℕ) → length cs ≡ n → n ≢ 0 → length (spell_categories cs) ≡ 1 + 2 * n
categories_length [] n e some = absurd (some (sym e))
categories_length (c ∷ cs) n e some = omega (arith, more_length cs, e)

pub categories_fit : (cs : List (List ℕ)) → 2 * length cs ≤ length (spell_categories cs)
categories_fit [] = omega arith
categories_fit (c ∷ cs) = omega (arith, more_length cs)

pub names_length : (names : List (Bor (List ℕ))) → length (names_of names) ≡ length names
names_length [] = refl
names_length (n ∷ names) = ap suc (names_length names)

pub spelled_length : (names : List (List ℕ)) → length (spell_names names) ≡ length names
spelled_length [] = refl
spelled_length (n ∷ names) = ap suc (spelled_length names)

pub subject_fits : (s : SubjectText) → 4 + length (spell_level s.greatest) + length (spell_level s.current) ≤ length (spell_subject s)
subject_fits s =
    let flags = spell_flag Trusted s.trusted ++ spell_flag Admin s.admin in
    omega (arith, length-append (spell_level s.greatest) (reserved Current ∷ (spell_level s.current ++ flags)), length-append (spell_level s.current) flags)

pub document_fits : (d : DocumentText) → 2 + length (spell_level d.level) ≤ length (spell_document d)
document_fits d = omega (arith, length-append (spell_level d.level) (spell_content d.content))

-- a text has no more tokens than bytes
pub tokens_fit : (bytes rest : List ℕ) (ts : List Tok) → Begins bytes ts rest → length ts ≤ length bytes
tokens_fit bytes rest [] b = omega arith
tokens_fit bytes rest (t ∷ ts) (more, f, b) =
    omega (arith, tokens_fit more rest ts b, front_shorter (past_blanks bytes) t more f, past_le class.Blank bytes)

pub not_zero : (n : ℕ) (b : Bool) → b ≡ (n == 0) → b ≡ false → n ≢ 0
not_zero zero b e t same = let f : true ≡ false = sym e ∙ t in cc
not_zero (suc n) b e t same = cc
