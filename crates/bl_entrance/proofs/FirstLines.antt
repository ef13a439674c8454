-- The first line of a text, and the name that it gives.
use Rattle.std.proofs.Common.{◌≡◌, ◌≢◌, ℕ, zero, suc, ◌<◌, ◌≤◌, Bool, true, false, cond, not, eqb, ◌&&◌, List, [], ◌∷◌, length, get_or, take, drop, Some, None, refl, ap, sym, ◌∙◌, subst, arith, lt-ltb, ltb-false, ◌⊎◌, inl, inr, ◌+◌, ◌++◌, length-append, take_all}
use Rattle.std.proofs.Math.Seq.{take-append-add}
use Rattle.std.specs.Prelude.{codes, nat_lt, position, slice_get, slice_index_or, min, Option, Result, Ok, Err, MatchResult, IsOk, IfNone, IfSome, OnOk, ◌↔◌}
use Rattle.std.specs.List.{find, list_all, position_or_len}
use Rattle.std.specs.Borrow.{Bor}
use Rattle.std.specs.Result.{result_ok, result_unwrap_or}
use Rattle.std.specs.Str.{IsAscii, IsUtf8}
use Rattle.std.proofs.lemmas.Bool.Decides.{leb_tells, nat_tests}
use Rattle.std.proofs.lemmas.List.Sums.{fails_before_first}
use Rattle.std.proofs.lemmas.Option.{slice_get-get_or}
use Rattle.std.proofs.lemmas.Str.{IsUtf8-from_ascii}
use Rattle.bl_name.specs.FrontView.{front_view}
use Rattle.bl_name.specs.Lexing as lexing
use Rattle.bl_name.specs.Lexing.{is_word_byte}
use Rattle.bl_name.specs.Name.{IsName, IsWord}
use Rattle.bl_name.specs.Token as tokens
use Rattle.bl_name.specs.declared.lexer.Front.{Front}
use Rattle.bl_name.specs.declared.lexer.Front.TheVariants as source
use Rattle.bl_name.specs.declared.token.Keyword.TheVariants.{Hello}
use Rattle.bl_name.specs.declared.token.Token.{Token}
use Rattle.bl_wire.specs.Lines.{onto, lines_of, is_blank, without_cr}
use Rattle.bl_entrance.specs.Calling.{name_for}
use Rattle.bl_entrance.specs.Firsts.{GivesNone, first_said, front_of}

-- ---- lines

-- the first LF stands at i
pub lines-at : (text : List ℕ) (i : ℕ) → i < length text → eqb (get_or text i 0) 10 ≡ true → ((k : ℕ) → k < i → eqb (get_or text k 0) 10 ≡ false)
    → lines_of text ≡ take i text ∷ lines_of (drop (suc i) text)
lines-at [] i within lf none = absurd (omega arith)
lines-at (b ∷ text) zero within lf none = rw lf refl
lines-at (b ∷ text) (suc i) within lf none =
    let rest = lines-at text i (omega arith) lf (λ k h. none (suc k) (omega arith)) in
    let other : eqb b 10 ≡ false = none 0 (omega arith) in
    rw other (rw rest refl)

lines-none : (b : ℕ) (text : List ℕ) → ((k : ℕ) → k < length (b ∷ text) → eqb (get_or (b ∷ text) k 0) 10 ≡ false) → lines_of (b ∷ text) ≡ (b ∷ text) ∷ []
lines-none b [] none = (let other : eqb b 10 ≡ false = none 0 (omega arith) in rw other refl)
lines-none b (c ∷ text) none =
    let rest = lines-none c text (λ k h. none (suc k) (omega arith)) in
    let other : eqb b 10 ≡ false = none 0 (omega arith) in
    rw other (ap (onto b) rest)

-- there is no LF
pub lines-whole : (text : List ℕ) → 0 < length text → ((k : ℕ) → k < length text → eqb (get_or text k 0) 10 ≡ false) → lines_of text ≡ text ∷ []
lines-whole [] some none = absurd (omega arith)
lines-whole (b ∷ text) some none = lines-none b text none

cond-none : (t : Bool) (n : ℕ) → cond t (Some n) None ≡ None → t ≡ false
cond-none true n is = cc
cond-none false n is = refl

-- where no place is found none passes
pub none-passes : (p : ℕ → Bool) (xs : List ℕ) → position p xs ≡ None → (k : ℕ) → k < length xs → p (get_or xs k 0) ≡ false
none-passes p xs is k lt =
    let test = cond-none (nat_lt (position_or_len p xs) (length xs)) (position_or_len p xs) is in
    let past : length xs ≤ position_or_len p xs = ltb-false (position_or_len p xs) (length xs) test in
    fails_before_first p xs k 0 (omega arith)

-- a blank line is passed
pub said-later : (text line rest : List ℕ) → lines_of text ≡ line ∷ lines_of rest → is_blank (without_cr line) ≡ true → first_said text ≡ first_said rest
said-later text line rest is blank =
    ap (find (λ l. not (is_blank (without_cr l)))) is ∙ ap (λ b. cond (not b) (Some line) (first_said rest)) blank

-- another is the first
pub said-here : (text line rest : List ℕ) → lines_of text ≡ line ∷ lines_of rest → is_blank (without_cr line) ≡ false → first_said text ≡ Some line
said-here text line rest is other =
    ap (find (λ l. not (is_blank (without_cr l)))) is ∙ ap (λ b. cond (not b) (Some line) (first_said rest)) other

pub none-said : (text : List ℕ) → length text ≡ 0 → first_said text ≡ None
none-said [] none = refl
none-said (b ∷ text) none = absurd (omega (arith, none))

-- ---- what is kept

-- as many more bytes are kept as there is room for
pub heard-more : (old bytes : List ℕ) (count : ℕ) → length old + count ≤ 128 → (count ≡ length bytes) ⊎ (length old + count ≡ 128)
    → take 128 (old ++ bytes) ≡ old ++ take count bytes
heard-more old bytes count room (inl all) =
    let both : length (old ++ bytes) ≡ length old + length bytes = length-append old bytes in
    take_all 128 (old ++ bytes) (omega (arith, room, all, both)) ∙ ap (λ l. old ++ l) (sym (take_all count bytes (omega (arith, all))))
heard-more old bytes count room (inr full) = ap (λ n. take n (old ++ bytes)) (sym full) ∙ take-append-add old bytes count

pub heard-least : (old bytes : List ℕ) (count room : ℕ) → room + length old ≡ 128 → count ≡ min (length bytes) room → take 128 (old ++ bytes) ≡ old ++ take count bytes
heard-least old bytes count room all least = elim (leb_tells (length bytes) room) [
  | inl few ↦ heard-more old bytes count (omega (arith, all, least, few.1)) (inl (omega (arith, all, least, few.1)))
  | inr many ↦ heard-more old bytes count (omega (arith, all, least, many.1)) (inr (omega (arith, all, least, many.1)))
]

-- what fits is kept
pub fits-kept : {T E : Type 0} (r : Result T E) (Fits Kept : Type 0) → (IsOk r ↔ Fits) → OnOk r Kept → Fits → Kept
fits-kept (Ok x) Fits Kept is kept fits = kept
fits-kept (Err e) Fits Kept is kept fits = (let no = is.1 fits in cc)

-- ---- names

and-both : (x y : Bool) → (x && y) ≡ true → (x ≡ true) × (y ≡ true)
and-both true y is = (refl, is)
and-both false y is = cc

word-low : (b : ℕ) → is_word_byte b ≡ true → b < 128
word-low b is = grind (arith, nat_tests)

all-low : (bytes : List ℕ) → list_all is_word_byte bytes ≡ true → (i : ℕ) → get_or bytes i 0 < 128
all-low [] all i = omega arith
all-low (b ∷ bytes) all zero = word-low b (and-both (is_word_byte b) (list_all is_word_byte bytes) all).0
all-low (b ∷ bytes) all (suc i) = all-low bytes (and-both (is_word_byte b) (list_all is_word_byte bytes) all).1 i

word-ascii : (bytes : List ℕ) → IsWord bytes → IsAscii bytes
word-ascii [] word = absurd word
word-ascii (b ∷ bytes) (letter, all, short) = all-low (b ∷ bytes) all

-- a name is a text
pub name-text : (bytes : List ℕ) → IsName bytes → IsUtf8 bytes
name-text bytes (word, free) = IsUtf8-from_ascii bytes (word-ascii bytes word)

-- what is read of a text is that text
abbrev pub Reads : {T E : Type 0} (now : T → List ℕ) (bytes : List ℕ) (Wrong : E → Type 0) → Result T E → Type 0
Reads now bytes Wrong r = MatchResult r (λ s. (now s ≡ bytes) × IsUtf8 bytes) (λ e. ¬ (IsUtf8 bytes) × Wrong e)

text-read : {T E : Type 0} (now : T → List ℕ) (bytes : List ℕ) (Wrong : E → Type 0) (r : Result T E) (other : T) → IsUtf8 bytes → Reads now bytes Wrong r → now (result_unwrap_or r other) ≡ bytes
text-read now bytes Wrong (Ok s) other utf8 cases = cases.0
text-read now bytes Wrong (Err e) other utf8 cases = absurd (cases.0 utf8)

pub text-or : {T E : Type 0} (now : T → List ℕ) (bytes : List ℕ) (Wrong : E → Type 0) (r : Result T E) (other found : T) → found ≡ result_unwrap_or r other → IsUtf8 bytes → Reads now bytes Wrong r
    → now found ≡ bytes
text-or now bytes Wrong r other found is utf8 cases = ap now is ∙ text-read now bytes Wrong r other utf8 cases

pub text-some : {T E : Type 0} (now : T → List ℕ) (bytes : List ℕ) (Wrong : E → Type 0) (r : Result T E) (o : Option T) (P : T → Type 0) → o ≡ result_ok r → IsUtf8 bytes → Reads now bytes Wrong r
    → ((s : T) → now s ≡ bytes → P s) → IfSome o P
text-some {T} now bytes Wrong (Ok s) o P is utf8 cases so = subst (λ (q : Option T). IfSome q P) (sym is) (so s cases.0)
text-some now bytes Wrong (Err e) o P is utf8 cases so = absurd (cases.0 utf8)

pub text-none : {T E : Type 0} (now : T → List ℕ) (bytes : List ℕ) (Wrong : E → Type 0) (r : Result T E) (o : Option T) (P : Type 0) → o ≡ result_ok r → IsUtf8 bytes → Reads now bytes Wrong r → IfNone o P
text-none {T} now bytes Wrong (Ok s) o P is utf8 cases = subst (λ (q : Option T). IfNone q P) (sym is) tt
text-none now bytes Wrong (Err e) o P is utf8 cases = absurd (cases.0 utf8)

-- a subject that is there has its name
pub named-at : (subjects : List (List ℕ)) (subject : ℕ) (name : List ℕ) → subject < length subjects → slice_get subjects subject ≡ Some name → name ≡ name_for subjects subject
named-at subjects subject name lt is =
    let there = slice_get-get_or subjects subject [] lt in
    let here : name ≡ slice_index_or subjects subject [] = cc in
    here ∙ sym (ap (λ t. cond t (slice_index_or subjects subject []) (codes "-")) (lt-ltb subject (length subjects) lt))

-- ---- what a line gives

same-rest : (front : lexing.Front) (t u : tokens.Tok) (a b : List ℕ) → front ≡ lexing.token t a → front ≡ lexing.token u b → (t ≡ u) × (a ≡ b)
same-rest front t u a b left right = (cc, cc)

module _ (line : List ℕ) where
  -- it does not begin with `hello`
  pub none-greets : ((rest : List ℕ) → front_of (without_cr line) ≢ lexing.token (tokens.reserved Hello) rest) → GivesNone line
  none-greets none name (rest, behind, hello, named, end) = none rest hello

  module _ (rest : List ℕ) (hello : front_of (without_cr line) ≡ lexing.token (tokens.reserved Hello) rest) where
    -- behind that stands no name
    pub none-named : ((name behind : List ℕ) → front_of rest ≢ lexing.token (tokens.name name) behind) → GivesNone line
    none-named none name (other, behind, greets, named, end) =
        let same = (same-rest _ _ _ other rest greets hello).1 in
        none name behind (subst (λ l. front_of l ≡ lexing.token (tokens.name name) behind) same named)

    -- behind the name there is more
    pub none-ends : (name behind : List ℕ) → front_of rest ≡ lexing.token (tokens.name name) behind → front_of behind ≢ lexing.nothing → GivesNone line
    none-ends name behind is more other (rest', behind', greets, named, end) =
        let same = (same-rest _ _ _ rest' rest greets hello).1 in
        let here = subst (λ l. front_of l ≡ lexing.token (tokens.name other) behind') same named in
        more (subst (λ l. front_of l ≡ lexing.nothing) (same-rest _ _ _ behind' behind here is).1 end)

-- a token or a fault stands there
pub goes-on : (front : Front) (seen : lexing.Front) → front_view front ≡ seen → ((t : Token) × (rest : Bor (List ℕ)) × (front ≡ source.Token t rest)) ⊎ ((from : Bor (List ℕ)) × (front ≡ source.Broken from))
    → seen ≢ lexing.nothing
goes-on front seen is (inl token) over = (let clash = sym (ap front_view token.2) ∙ is ∙ over in cc)
goes-on front seen is (inr fault) over = (let clash = sym (ap front_view fault.1) ∙ is ∙ over in cc)
