-- The canonical text of proper tokens reads as them.
use Rattle.std.proofs.Common.{◌≡◌, ℕ, ◌≤◌, Bool, true, false, cond, leb, List, [], ◌∷◌, ◌++◌, length, take, drop, refl, ap, ◌∙◌, arith, append_assoc, ◌&&◌}
use Rattle.std.specs.List.{list_all}
use Rattle.std.proofs.Math.Seq.{take-append_seam, drop-append_seam}
use Rattle.std.proofs.lemmas.Bool.Decides.{nat_tests}
use Rattle.bl_name.specs.declared.token.Sign.{Sign}
use Rattle.bl_name.specs.declared.token.Sign.TheVariants.{Comma, Semicolon, Open, Close}
use Rattle.bl_name.specs.declared.lexer.Class.TheVariants as class
use Rattle.bl_name.specs.Token.{Tok, reserved, name, text, sign}
use Rattle.bl_name.specs.Lexing.{token, broken, front, word_front, text_front, is_in, is_letter, run_len, past, words, keyword_among, word_token, word_text, Begins}
use Rattle.bl_name.specs.Name.{IsWord, IsProper, AreProper}
use Rattle.bl_name.specs.Canonical.{spelled, is_word, gap, canonical}
use Rattle.bl_name.proofs.Runs.{StopsAt, drop_more, run_all, past_none}
use Rattle.bl_name.proofs.Words.{word_is, word_proper, among_none}

not_blank : (b : ℕ) → is_letter b ≡ true → is_in class.Blank b ≡ false
not_blank b e = grind (arith, nat_tests)

le_test : (n : ℕ) → n ≤ 32 → leb n 32 ≡ true
le_test n h = grind (arith, nat_tests)

front_letter : (b : ℕ) (bytes : List ℕ) → is_letter b ≡ true → front (b ∷ bytes) ≡ word_front (b ∷ bytes)
front_letter b bytes e = rw e refl

-- the token that a word of these bytes is
abbrev token_of : List ℕ → Tok
token_of w = word_token (keyword_among words w) w

word_run : (bytes : List ℕ) (n : ℕ) → run_len class.Word bytes ≡ n → n ≤ 32 → word_front bytes ≡ token (token_of (take n bytes)) (drop n bytes)
word_run bytes n e h =
    ap (λ m. cond (leb m 32) (token (token_of (take m bytes)) (drop m bytes)) (broken bytes)) e
    ∙ ap (λ x. cond x (token (token_of (take n bytes)) (drop n bytes)) (broken bytes)) (le_test n h)

word_again : (w rest : List ℕ) → IsWord w → StopsAt class.Word rest → front (w ++ rest) ≡ token (token_of w) rest
word_again [] rest word stops = absurd word
word_again (b ∷ w) rest (letter, all, short) stops =
    front_letter b (w ++ rest) letter
    ∙ word_run (b ∷ (w ++ rest)) (length (b ∷ w)) (run_all class.Word (b ∷ w) rest all stops) short
    ∙ ap (λ x. token (token_of x) (drop (length (b ∷ w)) (b ∷ (w ++ rest)))) (take-append_seam (b ∷ w) rest)
    ∙ ap (λ x. token (token_of (b ∷ w)) x) (drop-append_seam (b ∷ w) rest)

text_again : (x rest : List ℕ) → list_all (is_in class.Text) x ≡ true → text_front (x ++ 34 ∷ rest) (past class.Text (x ++ 34 ∷ rest)) ≡ token (text x) rest
text_again x rest all =
    let n = run_all class.Text x (34 ∷ rest) all refl in
    ap (λ m. text_front (x ++ 34 ∷ rest) (drop m (x ++ 34 ∷ rest))) n ∙ ap (λ y. text_front (x ++ 34 ∷ rest) y) (drop-append_seam x (34 ∷ rest))
    ∙ ap (λ m. token (text (take m (x ++ 34 ∷ rest))) rest) n ∙ ap (λ y. token (text y) rest) (take-append_seam x (34 ∷ rest))

sign_again : (s : Sign) (rest : List ℕ) → front (spelled (sign s) ++ rest) ≡ token (sign s) rest
sign_again Comma rest = refl
sign_again Semicolon rest = refl
sign_again Open rest = refl
sign_again Close rest = refl

front_again : (t : Tok) (rest : List ℕ) → IsProper t → (is_word t ≡ true → StopsAt class.Word rest) → front (spelled t ++ rest) ≡ token t rest
front_again (reserved k) rest proper stops = word_again (word_text k) rest (word_proper k) (stops refl) ∙ ap (λ o. token (word_token o (word_text k)) rest) (word_is k)
front_again (name n) rest proper stops = word_again n rest proper.0 (stops refl) ∙ ap (λ o. token (word_token o n) rest) (among_none words n proper.1)
front_again (text x) rest proper stops = ap (λ y. text_front y (past class.Text y)) (append_assoc x (34 ∷ []) rest) ∙ text_again x rest proper
front_again (sign s) rest proper stops = sign_again s rest

word_no_blank : (w rest : List ℕ) → IsWord w → StopsAt class.Blank (w ++ rest)
word_no_blank [] rest word = absurd word
word_no_blank (b ∷ w) rest word = not_blank b word.0

sign_no_blank : (s : Sign) (rest : List ℕ) → StopsAt class.Blank (spelled (sign s) ++ rest)
sign_no_blank Comma rest = refl
sign_no_blank Semicolon rest = refl
sign_no_blank Open rest = refl
sign_no_blank Close rest = refl

spelled_no_blank : (t : Tok) (rest : List ℕ) → IsProper t → StopsAt class.Blank (spelled t ++ rest)
spelled_no_blank (reserved k) rest proper = word_no_blank (word_text k) rest (word_proper k)
spelled_no_blank (name n) rest proper = word_no_blank n rest proper.0
spelled_no_blank (text x) rest proper = refl
spelled_no_blank (sign s) rest proper = sign_no_blank s rest

sign_no_word : (s : Sign) (rest : List ℕ) → StopsAt class.Word (spelled (sign s) ++ rest)
sign_no_word Comma rest = refl
sign_no_word Semicolon rest = refl
sign_no_word Open rest = refl
sign_no_word Close rest = refl

-- behind a word no word byte comes
word_stops : (t : Tok) (ts : List Tok) → is_word t ≡ true → StopsAt class.Word (gap t ts ++ canonical ts)
word_stops t [] w = tt
word_stops t (u ∷ us) w = rw w (go u)
  where
    go : (u : Tok) → StopsAt class.Word (cond (is_word u) (32 ∷ []) [] ++ (spelled u ++ (gap u us ++ canonical us)))
    go (reserved k) = refl
    go (name n) = refl
    go (text x) = refl
    go (sign s) = sign_no_word s (gap (sign s) us ++ canonical us)

after_gap : (b : Bool) (u : Tok) (us : List Tok) (bytes rest : List ℕ) → Begins bytes (u ∷ us) rest → Begins (cond b (32 ∷ []) [] ++ bytes) (u ∷ us) rest
after_gap true u us bytes rest (more, f, b) = (more, ap front (drop_more (run_len class.Blank bytes) 32 bytes) ∙ f, b)
after_gap false u us bytes rest b = b

-- what is written is read again
pub canonical_begins : (ts : List Tok) → AreProper ts → Begins (canonical ts) ts []
canonical_begins [] proper = refl
canonical_begins (t ∷ ts) (here, more) =
    let rest = gap t ts ++ canonical ts in
    (rest, ap front (past_none class.Blank (spelled t ++ rest) (spelled_no_blank t rest here)) ∙ front_again t rest here (word_stops t ts), go ts (canonical_begins ts more))
  where
    go : (us : List Tok) → Begins (canonical us) us [] → Begins (gap t us ++ canonical us) us []
    go [] b = b
    go (u ∷ us) b = after_gap (is_word t && is_word u) u us (canonical (u ∷ us)) [] b
