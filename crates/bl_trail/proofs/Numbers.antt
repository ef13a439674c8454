-- The number that bytes spell, digit by digit.
use Rattle.std.proofs.Common.{◌≡◌, ℕ, suc, ◌+◌, ◌-◌, ◌*◌, ◌<◌, ◌≤◌, ◌^◌, true, List, length, take, get_or, sym, ◌∙◌, ap, subst, arith, add-one}
use Rattle.std.specs.Prelude.{decimal}
use Rattle.std.specs.Char.{digit_value, is_ascii_digit}
use Rattle.std.specs.Str.Parse.{AllDigits, digits_value}
use Rattle.std.proofs.Math.Seq.{take-suc}
use Rattle.std.proofs.lemmas.Bool.Decides.{nat_tests}
use Rattle.std.proofs.lemmas.Fmt.{decimal_is_IsNumeral}
use Rattle.std.proofs.lemmas.Int.Digits.{digits_value_push}
use Rattle.std.proofs.lemmas.Str.{digit_value_digit}
use Rattle.std.proofs.lemmas.Str.Parse.{digits_value-take-le, digit_at}

-- each byte of a number's text is a digit
pub decimal-digit : (t : List ℕ) (n i : ℕ) → n < 2 ^ 32 → t ≡ decimal n → i < length t → (48 ≤ get_or t i 0) × (get_or t i 0 ≤ 57)
decimal-digit t n i small is lt =
    let all : AllDigits 10 t = subst (AllDigits 10) (sym is) (decimal_is_IsNumeral n (omega arith)).0.1 in
    let d = digit_at t i all lt in
    (omega (arith, d), omega (arith, d))

-- the digits so far spell no more than all of them
pub decimal-front : (t : List ℕ) (n i : ℕ) → n < 2 ^ 32 → t ≡ decimal n → digits_value 10 (take i t) ≤ n
decimal-front t n i small is =
    subst (λ v. digits_value 10 (take i t) ≤ v) (ap (digits_value 10) is ∙ (decimal_is_IsNumeral n (omega arith)).1) (digits_value-take-le 10 t i (omega arith))

pub decimal-whole : (t : List ℕ) (n : ℕ) → n < 2 ^ 32 → t ≡ decimal n → digits_value 10 t ≡ n
decimal-whole t n small is = ap (digits_value 10) is ∙ (decimal_is_IsNumeral n (omega arith)).1

-- one digit more
pub digits-more : (t : List ℕ) (i : ℕ) → i < length t → digits_value 10 (take (suc i) t) ≡ digits_value 10 (take i t) * 10 + digit_value (get_or t i 0)
digits-more t i lt = ap (digits_value 10) (take-suc t i 0 lt) ∙ digits_value_push 10 (take i t) (get_or t i 0)

pub digit-told : (b : ℕ) → 48 ≤ b → b ≤ 57 → is_ascii_digit b ≡ true
digit-told b low high = grind (arith, nat_tests)

pub digit-in : (b : ℕ) → is_ascii_digit b ≡ true → (48 ≤ b) × (b ≤ 57)
digit-in b is = grind (arith, nat_tests)

-- one digit more, as it is counted
pub digits-step : (t : List ℕ) (i m d : ℕ) → i < length t → is_ascii_digit (get_or t i 0) ≡ true → m ≡ digits_value 10 (take i t) → d ≡ get_or t i 0 - 48
    → m * 10 + d ≡ digits_value 10 (take (i + 1) t)
digits-step t i m d lt is read digit =
    let range = digit-in (get_or t i 0) is in
    let value : digit_value (get_or t i 0) + 48 ≡ get_or t i 0 = digit_value_digit (get_or t i 0) (range.0, range.1) in
    let here : d ≡ digit_value (get_or t i 0) = omega (arith, digit, value) in
    ap (λ k. k * 10 + d) read ∙ ap (λ k. digits_value 10 (take i t) * 10 + k) here ∙ sym (digits-more t i lt) ∙ ap (λ k. digits_value 10 (take k t)) (sym (add-one i))
