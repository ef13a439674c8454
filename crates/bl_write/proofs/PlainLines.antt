-- No text of a line has an LF.
use Rattle.std.proofs.Common.{◌≡◌, ◌≢◌, ℕ, ◌+◌, Bool, true, false, cond, List, [], ◌∷◌, ◌++◌, drop, refl, sym, ◌∙◌, subst, arith}
use Rattle.std.specs.Prelude.{All, ◌||◌, ◌==◌}
use Rattle.std.specs.List.{list_all}
use Rattle.std.proofs.lemmas.Bool.{false≢true, and_parts}
use Rattle.std.proofs.lemmas.List.Elements.{All-cons, All-nil, All-append}
use Rattle.bl_name.specs.declared.token.Sign.{Sign}
use Rattle.bl_name.specs.declared.token.Sign.TheVariants.{Comma, Semicolon, Open, Close}
use Rattle.bl_level.specs.Canonical.{spelled, sign_byte}
use Rattle.bl_level.specs.Lexing.{is_text_byte, is_word_byte, past_blanks, Begins}
use Rattle.bl_level.specs.Name.{IsProper, IsWord}
use Rattle.bl_level.specs.Token.{Tok, reserved, name, text, sign}
use Rattle.bl_name.proofs.Fronts.{front_splits}
use Rattle.bl_name.proofs.Runs.{drop_more}
use Rattle.bl_name.proofs.Words.{word_proper}

-- the byte is no LF
abbrev NoLf : ℕ → Type 0
NoLf b = b ≢ 10

-- bytes that pass a test which an LF does not
passed_plain : (p : ℕ → Bool) → p 10 ≡ false → (bytes : List ℕ) → list_all p bytes ≡ true → All NoLf bytes
passed_plain p none [] all = All-nil NoLf
passed_plain p none (b ∷ bytes) all =
    let parts : (p b ≡ true) × (list_all p bytes ≡ true) = and_parts (p b) (list_all p bytes) all in
    All-cons NoLf b bytes (λ is. false≢true (sym none ∙ subst (λ k. p k ≡ true) is parts.0)) (passed_plain p none bytes parts.1)

word_plain : (bytes : List ℕ) → IsWord bytes → All NoLf bytes
word_plain [] word = absurd word
word_plain (b ∷ bytes) word = passed_plain is_word_byte refl (b ∷ bytes) word.1

sign_plain : (s : Sign) → NoLf (sign_byte s)
sign_plain Comma is = absurd (omega (arith, is))
sign_plain Semicolon is = absurd (omega (arith, is))
sign_plain Open is = absurd (omega (arith, is))
sign_plain Close is = absurd (omega (arith, is))

quote_plain : NoLf 34
quote_plain is = absurd (omega (arith, is))

token_plain : (t : Tok) → IsProper t → All NoLf (spelled t)
token_plain (reserved k) proper = word_plain _ (word_proper k)
token_plain (name bytes) proper = word_plain bytes proper.0
token_plain (text bytes) proper =
    All-cons NoLf 34 (bytes ++ 34 ∷ []) quote_plain
    (All-append NoLf bytes (34 ∷ []) (passed_plain is_text_byte refl bytes proper) (All-cons NoLf 34 [] quote_plain (All-nil NoLf)))
token_plain (sign s) proper = All-cons NoLf (sign_byte s) [] (sign_plain s) (All-nil NoLf)

-- the blanks at the front have none
blanks_plain : (bytes : List ℕ) → All NoLf (past_blanks bytes) → All NoLf bytes
blanks_plain [] rest = rest
blanks_plain (b ∷ bytes) rest = go (b == 32 || b == 9) _ refl rest (blanks_plain bytes)
  where
    blank_plain : (b == 32 || b == 9) ≡ true → NoLf b
    blank_plain blank is = false≢true (subst (λ c. (c == 32 || c == 9) ≡ true) is blank)

    go : (t : Bool) (n : ℕ) → (b == 32 || b == 9) ≡ t → All NoLf (drop (cond t (1 + n) 0) (b ∷ bytes)) → (All NoLf (drop n bytes) → All NoLf bytes) → All NoLf (b ∷ bytes)
    go true n blank left deeper = All-cons NoLf b bytes (blank_plain blank) (deeper (subst (All NoLf) (drop_more n b bytes) left))
    go false n other left deeper = left

pub tokens_plain : (tokens : List Tok) (bytes rest : List ℕ) → Begins bytes tokens rest → All (λ b. b ≢ 10) rest → All (λ b. b ≢ 10) bytes
tokens_plain [] bytes rest is plain = blanks_plain bytes (subst (All NoLf) is plain)
tokens_plain (t ∷ tokens) bytes rest (more, stands, begins) plain =
    let s = front_splits (past_blanks bytes) t more stands in
    blanks_plain bytes
    (subst (All NoLf) (sym s.whole) (All-append NoLf (spelled t) more (token_plain t s.proper) (tokens_plain tokens more rest begins plain)))
