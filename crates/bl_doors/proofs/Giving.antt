-- What a stream gives that gives a greeting first.
use Rattle.std.proofs.Common.{◌≡◌, ◌≢◌, ◌==◌, Bool, true, false, eqb-true, arith, ℕ, ◌<◌, ◌≤◌, List, [], ◌∷◌, ◌++◌, length, take, drop, Option, Some, None, refl, sym, ap, subst, ◌∙◌, append_assoc, take-append-drop}
use Rattle.std.proofs.lemmas.List.{nil_from_length}
use Rattle.std.specs.Io.KnownBytes.{prepend_known}
use Rattle.bl_connection.specs.Answers.{Gives}
use Rattle.bl_connection.specs.declared.stream.Answer.{Answer}
use Rattle.bl_connection.specs.declared.stream.Answer.TheVariants.{Moved}

nothing-first : (known : Option (List ℕ)) → prepend_known [] known ≡ known
nothing-first None = refl
nothing-first (Some bytes) = refl

-- after the greeting it gives what the stream in it gives
pub gives-on : (left : List ℕ) (before after : Option (List ℕ)) (answer : Answer) (room : List ℕ) → left ≡ []
    → Gives before after answer room → Gives (prepend_known left before) (prepend_known left after) answer room
gives-on left before after answer room none' gives =
    let first : (known : Option (List ℕ)) → known ≡ prepend_known left known = λ known. sym (ap (λ l. prepend_known l known) none' ∙ nothing-first known) in
    subst (λ b. Gives b (prepend_known left after) answer room) (first before) (subst (λ a. Gives before a answer room) (first after) gives)

-- before that, the next part of the greeting
pub gives-part : (left rest room : List ℕ) (n : ℕ) (known : Option (List ℕ)) → n ≤ length room → rest ≡ drop n left → take n room ≡ take n left
    → (n ≡ 0 → 0 < length room → ⊥) → Gives (prepend_known left known) (prepend_known rest known) (Moved n) room
gives-part left rest room n None within is same some' = (within, tt, λ none' more. tt)
gives-part left rest room n (Some bytes) within is same some' = (
  within,
  ap (λ l. l ++ bytes) (sym (take-append-drop n left)) ∙ append_assoc (take n left) (drop n left) bytes
      ∙ ap (λ l. l ++ (drop n left ++ bytes)) (sym same) ∙ ap (λ l. take n room ++ (l ++ bytes)) (sym is),
  λ none' more. absurd (some' none' more),
)

pub some-length : (left : List ℕ) → left ≢ [] → 0 < length left
some-length [] some' = absurd (some' refl)
some-length (b ∷ left) some' = omega arith

-- what a test of emptiness says
pub empty-none : (left : List ℕ) (t : Bool) → t ≡ (length left == 0) → t ≡ true → left ≡ []
empty-none left t is yes' = nil_from_length left (eqb-true (length left) 0 (sym is ∙ yes'))

pub filled-some : (left : List ℕ) (t : Bool) → t ≡ (length left == 0) → t ≡ false → left ≢ []
filled-some left t is no' none' = let yes' : t ≡ true = is ∙ ap (λ l. length l == 0) none' in cc
