-- The places of tokens in a line.
use Rattle.std.proofs.Common.{◌≡◌, ℕ, zero, suc, ◌+◌, ◌<◌, ◌≤◌, List, [], ◌∷◌, ◌++◌, length, get_or, true, Option, Some, None, refl, sym, ap, subst, ◌∙◌, arith, length-append}
use Rattle.std.specs.Prelude.{slice_get, unwrap_or}
use Rattle.std.specs.Option.{is_some}
use Rattle.bl_name.specs.declared.lexer.Class.TheVariants as class
use Rattle.bl_level.specs.Canonical.{spelled}
use Rattle.bl_level.specs.Cutting.{Cut}
use Rattle.bl_level.specs.Lexing.{Begins, past_blanks}
use Rattle.bl_level.specs.Token.{Tok}
use Rattle.bl_name.proofs.Fronts.{front_splits, front_shorter}
use Rattle.bl_name.proofs.Lexes.{cut_whole}
use Rattle.bl_name.proofs.Runs.{past_le}
use Rattle.bl_declare.specs.Declaration.{Declaration, spell_declaration}
use Rattle.bl_declare.proofs.LineLemmas.{begins_one, broken_spells_none}

pub some_is : {X : Type 0} (x y : X) → Some x ≡ Some y → x ≡ y
some_is x y e = ap (λ o. unwrap_or o x) e

-- a token and what is before it fit into the text
pub cut_fits : (total : ℕ) (bytes : List ℕ) (ts : List Tok) (ks : List ℕ) (fault : Option ℕ) → Cut total bytes ts ks fault
    → (i : ℕ) (t : Tok) (p : ℕ) → slice_get ts i ≡ Some t → slice_get ks i ≡ Some p → p + length (spelled t) ≤ total
cut_fits total bytes [] ks fault cut i t p at place = absurd (cc)
cut_fits total bytes (u ∷ ts) ks fault (more, k, ks', is, f, fits, cut) zero t p at place =
    let same : u ≡ t = some_is u t at in
    let here : k ≡ p = some_is k p (ap (λ l. slice_get l 0) (sym is) ∙ place) in
    let whole = ap length ((front_splits (past_blanks bytes) u more f).whole) ∙ length-append (spelled u) more in
    omega (arith, whole, fits, here, ap (λ x. length (spelled x)) same)
cut_fits total bytes (u ∷ ts) ks fault (more, k, ks', is, f, fits, cut) (suc i) t p at place =
    cut_fits total more ts ks' fault cut i t p at (ap (λ l. slice_get l (suc i)) (sym is) ∙ place)

-- no token is farther from the end than the bytes are
cut_low : (total : ℕ) (bytes : List ℕ) (ts : List Tok) (ks : List ℕ) (fault : Option ℕ) → Cut total bytes ts ks fault
    → (i p : ℕ) → slice_get ks i ≡ Some p → total ≤ p + length bytes
cut_low total bytes [] ks fault cut i p place = let e : None ≡ Some p = ap (λ l. slice_get l i) (sym cut.0) ∙ place in absurd (cc)
cut_low total bytes (u ∷ ts) ks fault (more, k, ks', is, f, fits, cut) zero p place =
    let here : k ≡ p = some_is k p (ap (λ l. slice_get l 0) (sym is) ∙ place) in
    omega (arith, fits, here, past_le class.Blank bytes)
cut_low total bytes (u ∷ ts) ks fault (more, k, ks', is, f, fits, cut) (suc i) p place =
    let low = cut_low total more ts ks' fault cut i p (ap (λ l. slice_get l (suc i)) (sym is) ∙ place) in
    omega (arith, low, front_shorter (past_blanks bytes) u more f, past_le class.Blank bytes)

-- tokens stand in their order
pub cut_order : (total : ℕ) (bytes : List ℕ) (ts : List Tok) (ks : List ℕ) (fault : Option ℕ) → Cut total bytes ts ks fault
    → (i j p q : ℕ) → i ≤ j → slice_get ks i ≡ Some p → slice_get ks j ≡ Some q → p ≤ q
cut_order total bytes [] ks fault cut i j p q h first last = let e : None ≡ Some p = ap (λ l. slice_get l i) (sym cut.0) ∙ first in absurd (cc)
cut_order total bytes (u ∷ ts) ks fault (more, k, ks', is, f, fits, cut) zero zero p q h first last = omega (arith, some_is p q (sym first ∙ last))
cut_order total bytes (u ∷ ts) ks fault (more, k, ks', is, f, fits, cut) zero (suc j) p q h first last =
    let here : k ≡ p = some_is k p (ap (λ l. slice_get l 0) (sym is) ∙ first) in
    let low = cut_low total more ts ks' fault cut j q (ap (λ l. slice_get l (suc j)) (sym is) ∙ last) in
    omega (arith, here, low, fits, front_shorter (past_blanks bytes) u more f)
cut_order total bytes (u ∷ ts) ks fault (more, k, ks', is, f, fits, cut) (suc i) zero p q h first last = absurd (omega (arith, h))
cut_order total bytes (u ∷ ts) ks fault (more, k, ks', is, f, fits, cut) (suc i) (suc j) p q h first last =
    cut_order total more ts ks' fault cut i j p q (omega (arith, h)) (ap (λ l. slice_get l (suc i)) (sym is) ∙ first) (ap (λ l. slice_get l (suc j)) (sym is) ∙ last)

none_of : (place : Option ℕ) → (is_some place ≡ true → ⊥) → place ≡ None
none_of None f = refl
none_of (Some x) f = absurd (f refl)

-- of a line that spells a declaration the tokens are those of the declaration, and no fault is behind them
pub whole_cut : (line : List ℕ) (ts : List Tok) (ks : List ℕ) (place : Option ℕ) (d : Declaration) → Cut (length line) line ts ks place → Begins line (spell_declaration d) []
    → (ts ≡ spell_declaration d) × (place ≡ None)
whole_cut line ts ks place d cut spelled =
    let none = none_of place (λ some. broken_spells_none (length line) line ts ks place some cut d spelled) in
    (begins_one line ts (spell_declaration d) (cut_whole (length line) line ts ks place cut none) spelled, none)

pub get_is : {X : Type 0} (xs : List X) (j : ℕ) (d : X) → j < length xs → slice_get xs j ≡ Some (get_or xs j d)
get_is [] j d h = absurd (omega (arith, h))
get_is (x ∷ xs) zero d h = refl
get_is (x ∷ xs) (suc j) d h = get_is xs j d (omega (arith, h))

pub get_none : {X : Type 0} (xs : List X) (j : ℕ) → length xs ≤ j → slice_get xs j ≡ None
get_none [] j h = refl
get_none (x ∷ xs) zero h = absurd (omega (arith, h))
get_none (x ∷ xs) (suc j) h = get_none xs j (omega (arith, h))

-- what stands behind a front
pub seam : {X : Type 0} (front : List X) (x : X) (behind : List X) (i : ℕ) → i ≡ length front → slice_get (front ++ x ∷ behind) i ≡ Some x
seam [] x behind i e = ap (slice_get (x ∷ behind)) e
seam (y ∷ front) x behind i e = ap (slice_get (y ∷ (front ++ x ∷ behind))) e ∙ seam front x behind (length front) refl
