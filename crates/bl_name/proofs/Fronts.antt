-- What stands at the front of bytes.
use Rattle.std.proofs.Common.{◌≡◌, ℕ, ◌+◌, ◌<◌, ◌≤◌, Bool, true, false, cond, leb, eqb, List, [], ◌∷◌, ◌++◌, length, take, Option, Some, None, refl, sym, ap, subst, ◌∙◌, arith, length-append, append_assoc}
use Rattle.std.specs.List.{list_all}
use Rattle.std.proofs.lemmas.List.{take-append-drop}
use Rattle.std.proofs.lemmas.List.Folds.{length-prefix_len}
use Rattle.std.proofs.lemmas.Bool.{false≢true}
use Rattle.std.proofs.lemmas.Bool.Decides.{nat_tests}
use Rattle.bl_name.specs.declared.token.Keyword.{Keyword}
use Rattle.bl_name.specs.declared.token.Sign.{Sign}
use Rattle.bl_name.specs.declared.token.Sign.TheVariants.{Comma, Semicolon, Open, Close}
use Rattle.bl_name.specs.declared.lexer.Class.TheVariants as class
use Rattle.bl_name.specs.Token.{Tok, reserved, name, text, sign}
use Rattle.bl_name.specs.Lexing.{Front, nothing, token, broken, front, word_front, text_front, sign_front, sign_of, is_in, is_letter, run_len, past, words, keyword_among, word_token, word_text}
use Rattle.bl_name.specs.Name.{IsWord, IsProper}
use Rattle.bl_name.specs.Canonical.{spelled, is_word, sign_byte}
use Rattle.bl_name.proofs.Runs.{StopsAt, LetterAt, stops_past, run_is_all, take_more, past_le}
use Rattle.bl_name.proofs.Words.{among_is, none_free, word_proper}

-- the token stands at the front as it is spelled, and these stand behind it
pub record Splits (bytes : List ℕ) (t : Tok) (more : List ℕ) : Type 0 where
  pub whole : bytes ≡ spelled t ++ more
  pub proper : IsProper t
  pub stops : is_word t ≡ true → StopsAt class.Word more
  pub letter : is_word t ≡ true → LetterAt bytes

eqb_is : (a b : ℕ) → eqb a b ≡ true → a ≡ b
eqb_is a b e = grind (arith, nat_tests)

leb_is : (a b : ℕ) → leb a b ≡ true → a ≤ b
leb_is a b e = grind (arith, nat_tests)

spelled_word : (o : Option Keyword) (w : List ℕ) → ((k : Keyword) → o ≡ Some k → word_text k ≡ w) → spelled (word_token o w) ≡ w
spelled_word (Some k) w is = is k refl
spelled_word None w is = refl

is_word_word : (o : Option Keyword) (w : List ℕ) → is_word (word_token o w) ≡ true
is_word_word (Some k) w = refl
is_word_word None w = refl

proper_word : (o : Option Keyword) (w : List ℕ) → keyword_among words w ≡ o → IsWord w → IsProper (word_token o w)
proper_word (Some k) w is word = tt
proper_word None w is word = (word, none_free w is)

token_from : (b : Bool) (x : Tok) (from more : List ℕ) (t : Tok) (rest : List ℕ) → cond b (token x more) (broken from) ≡ token t rest → (t ≡ x) × (rest ≡ more) × (b ≡ true)
token_from true x from more t rest e = (cc, cc, refl)
token_from false x from more t rest e = absurd (cc)

-- the run that a letter begins, where it is not too long, is a word
run_is_word : (b : ℕ) (bytes : List ℕ) → is_letter b ≡ true → run_len class.Word (b ∷ bytes) ≤ 32 → IsWord (take (run_len class.Word (b ∷ bytes)) (b ∷ bytes))
run_is_word b bytes is short =
    let m = run_len class.Word bytes in
    let in_word : is_in class.Word b ≡ true = rw is refl in
    let n : run_len class.Word (b ∷ bytes) ≡ 1 + m = rw in_word refl in
    let first : take (run_len class.Word (b ∷ bytes)) (b ∷ bytes) ≡ b ∷ take m bytes = ap (λ k. take k (b ∷ bytes)) n ∙ take_more m b bytes in
    let all : list_all (is_in class.Word) (b ∷ take m bytes) ≡ true = subst (λ w. list_all (is_in class.Word) w ≡ true) first (run_is_all class.Word (b ∷ bytes)) in
    let long : length (b ∷ take m bytes) ≤ 32 = omega (arith, ap length first, length-prefix_len (is_in class.Word) (b ∷ bytes)) in
    subst IsWord (sym first) (is, all, long)

split_word : (b : ℕ) (bytes : List ℕ) → is_letter b ≡ true → (t : Tok) (more : List ℕ) → word_front (b ∷ bytes) ≡ token t more → Splits (b ∷ bytes) t more
split_word b bytes is t more e =
    let n = run_len class.Word (b ∷ bytes) in
    let w = take n (b ∷ bytes) in
    let p = token_from (leb n 32) (word_token (keyword_among words w) w) _ (past class.Word (b ∷ bytes)) t more e in
    record {
      whole = rw (p.0, p.1, spelled_word (keyword_among words w) w (among_is words w)) (sym (take-append-drop n (b ∷ bytes)));
      proper = rw p.0 (proper_word (keyword_among words w) w refl (run_is_word b bytes is (leb_is n 32 p.2)));
      stops = λ w. rw p.1 (stops_past class.Word (b ∷ bytes));
      letter = λ w. is;
    }

split_text : (bytes behind : List ℕ) → behind ≡ past class.Text bytes → (t : Tok) (more : List ℕ) → text_front bytes behind ≡ token t more → Splits (34 ∷ bytes) t more
split_text bytes [] is t more e = absurd (cc)
split_text bytes (b ∷ behind) is t more e =
    let n = run_len class.Text bytes in
    let p = token_from (eqb b 34) (text (take n bytes)) (b ∷ behind) behind t more e in
    let quote : b ≡ 34 = eqb_is b 34 p.2 in
    let whole : bytes ≡ take n bytes ++ b ∷ behind = sym (take-append-drop n bytes) ∙ ap (λ x. take n bytes ++ x) (sym is) in
    record {
      whole = rw (p.0, p.1) (ap (λ x. 34 ∷ x) (whole ∙ ap (λ x. take n bytes ++ x ∷ behind) quote ∙ sym (append_assoc (take n bytes) (34 ∷ []) behind)));
      proper = rw p.0 (run_is_all class.Text bytes);
      stops = λ w. absurd (false≢true (rw p.0 at w));
      letter = λ w. absurd (false≢true (rw p.0 at w));
    }

-- a byte that is a sign is the sign's byte
sign_is : (b : ℕ) (s : Sign) → sign_of b ≡ Some s → b ≡ sign_byte s
sign_is b s e = go (eqb b 44) (eqb b 59) (eqb b 123) (eqb b 125) refl refl refl refl e
  where
    go : (x y z w : Bool) → eqb b 44 ≡ x → eqb b 59 ≡ y → eqb b 123 ≡ z → eqb b 125 ≡ w
        → cond x (Some Comma) (cond y (Some Semicolon) (cond z (Some Open) (cond w (Some Close) None))) ≡ Some s → b ≡ sign_byte s
    go true y z w p q r t e = let same : s ≡ Comma = cc in rw same (eqb_is b 44 p)
    go false true z w p q r t e = let same : s ≡ Semicolon = cc in rw same (eqb_is b 59 q)
    go false false true w p q r t e = let same : s ≡ Open = cc in rw same (eqb_is b 123 r)
    go false false false true p q r t e = let same : s ≡ Close = cc in rw same (eqb_is b 125 t)
    go false false false false p q r t e = absurd (cc)

split_sign : (o : Option Sign) (b : ℕ) (bytes : List ℕ) → sign_of b ≡ o → (t : Tok) (more : List ℕ) → sign_front o b bytes ≡ token t more → Splits (b ∷ bytes) t more
split_sign (Some s) b bytes is t more e =
    let same : t ≡ sign s = cc in
    let same' : more ≡ bytes = cc in
    record {
      whole = rw (same, same') (ap (λ x. x ∷ bytes) (sign_is b s is));
      proper = rw same tt;
      stops = λ w. absurd (false≢true (rw same at w));
      letter = λ w. absurd (false≢true (rw same at w));
    }
split_sign None b bytes is t more e = absurd (cc)

split_cases : (b : ℕ) (bytes : List ℕ) (l q : Bool) → is_letter b ≡ l → eqb b 34 ≡ q → (t : Tok) (more : List ℕ)
    → cond l (word_front (b ∷ bytes)) (cond q (text_front bytes (past class.Text bytes)) (sign_front (sign_of b) b bytes)) ≡ token t more
    → Splits (b ∷ bytes) t more
split_cases b bytes true q is iq t more e = split_word b bytes is t more e
split_cases b bytes false true is iq t more e =
    let quote : b ≡ 34 = eqb_is b 34 iq in
    rw quote (split_text bytes (past class.Text bytes) refl t more e)
split_cases b bytes false false is iq t more e = split_sign (sign_of b) b bytes refl t more e

-- a token that is read stands there as it is spelled, and is proper
pub front_splits : (bytes : List ℕ) (t : Tok) (more : List ℕ) → front bytes ≡ token t more → Splits bytes t more
front_splits [] t more e = absurd (cc)
front_splits (b ∷ bytes) t more e = split_cases b bytes (is_letter b) (eqb b 34) refl refl t more e

some_word : (w : List ℕ) → IsWord w → 0 < length w
some_word [] word = absurd word
some_word (b ∷ w) word = omega arith

some_spelled : (t : Tok) → IsProper t → 0 < length (spelled t)
some_spelled (reserved k) proper = some_word (word_text k) (word_proper k)
some_spelled (name n) proper = some_word n proper.0
some_spelled (text x) proper = omega arith
some_spelled (sign s) proper = omega arith

-- a token takes at least a byte
pub front_shorter : (bytes : List ℕ) (t : Tok) (more : List ℕ) → front bytes ≡ token t more → length more < length bytes
front_shorter bytes t more e =
    let s = front_splits bytes t more e in
    omega (arith, some_spelled t s.proper, ap length s.whole, length-append (spelled t) more)

-- what is at fault, or nothing, is no more than the bytes
abbrev WithinOr : Front → List ℕ → Type 0
WithinOr nothing bytes = bytes ≡ []
WithinOr (token t more) bytes = Unit {0}
WithinOr (broken from) bytes = length from ≤ length bytes

within_cond : (x : Bool) (t : Tok) (more from bytes : List ℕ) → length from ≤ length bytes → WithinOr (cond x (token t more) (broken from)) bytes
within_cond true t more from bytes h = tt
within_cond false t more from bytes h = h

within_text : (bytes behind whole : List ℕ) → length behind ≤ length whole → WithinOr (text_front bytes behind) whole
within_text bytes [] whole h = h
within_text bytes (b ∷ behind) whole h = within_cond (eqb b 34) _ behind (b ∷ behind) whole h

within_sign : (o : Option Sign) (b : ℕ) (bytes : List ℕ) → WithinOr (sign_front o b bytes) (b ∷ bytes)
within_sign (Some s) b bytes = tt
within_sign None b bytes = omega arith

within_cases : (b : ℕ) (bytes : List ℕ) (l q : Bool)
    → WithinOr (cond l (word_front (b ∷ bytes)) (cond q (text_front bytes (past class.Text bytes)) (sign_front (sign_of b) b bytes))) (b ∷ bytes)
within_cases b bytes true q = within_cond (leb (run_len class.Word (b ∷ bytes)) 32) _ _ (b ∷ bytes) (b ∷ bytes) (omega arith)
within_cases b bytes false true = let h = past_le class.Text bytes in within_text bytes (past class.Text bytes) (b ∷ bytes) (omega arith)
within_cases b bytes false false = within_sign (sign_of b) b bytes

within : (bytes : List ℕ) → WithinOr (front bytes) bytes
within [] = refl
within (b ∷ bytes) = within_cases b bytes (is_letter b) (eqb b 34)

-- a fault lies among the bytes, or at their end
pub broken_within : (bytes from : List ℕ) → front bytes ≡ broken from → length from ≤ length bytes
broken_within bytes from e = rw e at (within bytes)

-- only at the end of the bytes is there nothing
pub front_nothing : (bytes : List ℕ) → front bytes ≡ nothing → bytes ≡ []
front_nothing bytes e = rw e at (within bytes)
