-- The number of a run in a name.
use Rattle.std.proofs.Common.{rules, ◌≡◌, ◌≢◌, ◌<◌, ◌^◌, ◌+◌, ◌*◌, ◌-◌, ◌∙◌, ℕ, zero, suc, true, List, [], ◌∷◌, ◌++◌, codes, decimal, drop, get_or, length, ap, sym, subst, arith, refl, Result, Ok, Err}
use Rattle.std.specs.Str.{all_ascii_digits}
use Rattle.std.specs.Str.Parse.{ParsesUnsigned}
use Rattle.std.proofs.lemmas.Fmt.{decimal_nonempty, digits_decimal, digits_value-decimal}
use Rattle.std.proofs.lemmas.Str.Parse.{IsNumeralModel, not_in_digits, numerals_by_fold, parse_gives, tells_all_ascii_digits}
use Rattle.bl_folder.specs.Names.{IsRun, number_text}

abbrev read_on : ℕ → List ℕ → ℕ
read_on n [] = n
read_on n (c ∷ cs) = read_on (10 * n + (c - 48)) cs

own : IsNumeralModel (λ ds. all_ascii_digits ds ≡ true) (read_on 0)
own = numerals_by_fold _ tells_all_ascii_digits read_on (search rules)

-- what zeros before it leave as it is
padded : (P : List ℕ → Type 0) → ((ds : List ℕ) → P ds → P (48 ∷ ds)) → (k : ℕ) (ds : List ℕ) → P ds → P (drop k (codes "000000") ++ ds)
padded P more zero ds h = more _ (more _ (more _ (more _ (more _ (more _ h)))))
padded P more (suc zero) ds h = more _ (more _ (more _ (more _ (more _ h))))
padded P more (suc (suc zero)) ds h = more _ (more _ (more _ (more _ h)))
padded P more (suc (suc (suc zero))) ds h = more _ (more _ (more _ h))
padded P more (suc (suc (suc (suc zero)))) ds h = more _ (more _ h)
padded P more (suc (suc (suc (suc (suc zero))))) ds h = more _ h
padded P more (suc (suc (suc (suc (suc (suc zero)))))) ds h = h
padded P more (suc (suc (suc (suc (suc (suc (suc k))))))) ds h = h

module _ (run : ℕ) (small : run < 2 ^ 64) where
  pub is-digits : all_ascii_digits (number_text run) ≡ true
  is-digits = padded (λ ds. all_ascii_digits ds ≡ true) (λ ds h. h) (length (decimal run)) (decimal run) (digits_decimal own run small)

  pub has-value : read_on 0 (number_text run) ≡ run
  has-value = padded (λ ds. read_on 0 ds ≡ run) (λ ds h. h) (length (decimal run)) (decimal run) (digits_value-decimal own run small)

  pub is-some : 0 < length (number_text run)
  is-some = padded (λ ds. 0 < length ds) (λ ds h. omega arith) (length (decimal run)) (decimal run) (decimal_nonempty run small)

  pub no-dot : (i : ℕ) → i < length (number_text run) → get_or (number_text run) i 0 ≢ 46
  no-dot = not_in_digits own (number_text run) 46 is-digits (λ range. omega (arith, range.0))

-- it is read
pub is-read : {E : Type 0} (run : ℕ) (bs : List ℕ) (r : Result ℕ E) → run < 2 ^ 32 → bs ≡ number_text run → ParsesUnsigned 32 10 bs r → r ≡ Ok run
is-read run bs r small is parses =
    let less : run < 2 ^ 64 = omega (arith, small) in
    let value : read_on 0 bs ≡ run = ap (read_on 0) is ∙ has-value run less in
    parse_gives own 32 bs r parses (ap all_ascii_digits is ∙ is-digits run less) (subst (λ t. 0 < length t) (sym is) (is-some run less))
    (subst (λ v. v < 2 ^ 32) (sym value) small) ∙ ap Ok value

-- different numbers have different texts
pub number-apart : (a b : ℕ) → a < 2 ^ 64 → b < 2 ^ 64 → number_text a ≡ number_text b → a ≡ b
number-apart a b small less is = sym (has-value a small) ∙ ap (read_on 0) is ∙ has-value b less

clash : {E : Type 0} (run : ℕ) (e : E) (r : Result ℕ E) → r ≡ Ok run → r ≡ Err e → ⊥
clash run e (Ok n) ok err = absurd (cc)
clash run e (Err f) ok err = absurd (cc)

abbrev value-or-zero : {E : Type 0} → Result ℕ E → ℕ
value-or-zero (Ok n) = n
value-or-zero (Err e) = 0

small-run : (run : ℕ) → IsRun run → run < 2 ^ 32
small-run run is = omega (arith, is.1)

-- where nothing is read the text is no run's number; else it is no other's
pub none-read : {E : Type 0} (run : ℕ) (bs : List ℕ) (r : Result ℕ E) (e : E) → IsRun run → r ≡ Err e → ParsesUnsigned 32 10 bs r → bs ≡ number_text run → ⊥
none-read run bs r e is_run err parses is = clash run e r (is-read run bs r (small-run run is_run) is parses) err

pub one-read : {E : Type 0} (run other : ℕ) (bs : List ℕ) (r : Result ℕ E) → IsRun run → r ≡ Ok other → ParsesUnsigned 32 10 bs r → bs ≡ number_text run → other ≡ run
one-read run other bs r is_run ok parses is = ap value-or-zero (sym ok ∙ is-read run bs r (small-run run is_run) is parses)

pub small-name : (run : ℕ) → IsRun run → run < 2 ^ 64
small-name run is = omega (arith, is.1)
