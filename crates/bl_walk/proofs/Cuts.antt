-- A word that goes on no further is the token at the front.
use Rattle.std.proofs.Common.{◌≡◌, ℕ, ◌≤◌, true, false, cond, leb, List, [], ◌∷◌, ◌++◌, length, take, drop, refl, ap, ◌∙◌, arith}
use Rattle.std.proofs.Math.Seq.{take-append_seam, drop-append_seam}
use Rattle.std.proofs.lemmas.Bool.Decides.{nat_tests}
use Rattle.bl_name.specs.declared.lexer.Class.TheVariants as class
use Rattle.bl_name.specs.declared.token.Keyword.{Keyword}
use Rattle.bl_level.specs.Token.{Tok, reserved, name}
use Rattle.bl_level.specs.Lexing.{token, broken, front, word_front, is_in, is_letter, run_len, past_blanks, words, keyword_among, word_token, word_text}
use Rattle.bl_level.specs.Name.{IsWord, IsName}
use Rattle.bl_name.proofs.Runs.{StopsAt, drop_more, run_all, past_none}
use Rattle.bl_name.proofs.Words.{word_is, word_proper, among_none}
use Rattle.bl_walk.specs.Takes.{word_goes_on, IsCut}

le_test : (n : ℕ) → n ≤ 32 → leb n 32 ≡ true
le_test n h = grind (arith, nat_tests)

stops_where : (bytes : List ℕ) → word_goes_on bytes ≡ false → StopsAt class.Word bytes
stops_where [] e = tt
stops_where (b ∷ bytes) e = e

-- the token that a word of these bytes is
abbrev token_of : List ℕ → Tok
token_of w = word_token (keyword_among words w) w

front_letter : (b : ℕ) (bytes : List ℕ) → is_letter b ≡ true → front (b ∷ bytes) ≡ word_front (b ∷ bytes)
front_letter b bytes e = rw e refl

word_run : (bytes : List ℕ) (n : ℕ) → run_len class.Word bytes ≡ n → n ≤ 32 → word_front bytes ≡ token (token_of (take n bytes)) (drop n bytes)
word_run bytes n e h =
    ap (λ m. cond (leb m 32) (token (token_of (take m bytes)) (drop m bytes)) (broken bytes)) e
    ∙ ap (λ x. cond x (token (token_of (take n bytes)) (drop n bytes)) (broken bytes)) (le_test n h)

word_again : (w rest : List ℕ) → IsWord w → StopsAt class.Word rest → front (w ++ rest) ≡ token (token_of w) rest
word_again [] rest word stops = absurd word
word_again (b ∷ w) rest (letter, all, short) stops =
    front_letter b (w ++ rest) letter
    ∙ word_run (b ∷ (w ++ rest)) (length (b ∷ w)) (run_all class.Word (b ∷ w) rest all stops) short
    ∙ ap (λ x. token (token_of x) (drop (length (b ∷ w)) (b ∷ (w ++ rest)))) (take-append_seam (b ∷ w) rest)
    ∙ ap (λ x. token (token_of (b ∷ w)) x) (drop-append_seam (b ∷ w) rest)

pub reserved_front : (k : Keyword) (bytes rest : List ℕ) → IsCut bytes (word_text k) rest → front bytes ≡ token (reserved k) rest
reserved_front k bytes rest cut =
    ap front cut.split ∙ word_again (word_text k) rest (word_proper k) (stops_where rest cut.ends) ∙ ap (λ o. token (word_token o (word_text k)) rest) (word_is k)

pub name_front : (n bytes rest : List ℕ) → IsName n → IsCut bytes n rest → front bytes ≡ token (name n) rest
name_front n bytes rest is cut =
    ap front cut.split ∙ word_again n rest is.0 (stops_where rest cut.ends) ∙ ap (λ o. token (word_token o n) rest) (among_none words n is.1)

-- ---- blanks

pub past_blank : (b : ℕ) (bytes : List ℕ) → is_in class.Blank b ≡ true → past_blanks (b ∷ bytes) ≡ past_blanks bytes
past_blank b bytes e = rw e (drop_more (run_len class.Blank bytes) b bytes)

pub no_blank : (b : ℕ) (bytes : List ℕ) → is_in class.Blank b ≡ false → past_blanks (b ∷ bytes) ≡ b ∷ bytes
no_blank b bytes e = past_none class.Blank (b ∷ bytes) e
