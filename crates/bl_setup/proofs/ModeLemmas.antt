-- Sets of modes.
use Rattle.std.proofs.Common.{◌≡◌, ◌↔◌, ◌⊎◌, ℕ, zero, suc, ◌<◌, max, Bool, true, false, eqb, List, [], ◌∷◌, ◌++◌, refl, sym, ap, subst, ◌∙◌, inl, inr, arith}
use Rattle.std.specs.Prelude.{IsTrue, Contains, slice_index_or}
use Rattle.std.specs.Int.{bit_at}
use Rattle.std.specs.Int.RustNames.{bit_or}
use Rattle.std.proofs.lemmas.List.Elements.{Contains-append_left, Contains-push, Contains-push_cases}
use Rattle.std.proofs.lemmas.Nat.Bits.{bit_at_or, bit_at-lt, bit_at-pow_same}
use Rattle.std.proofs.lemmas.Bool.Decides.{nat_tests}
use Rattle.bl_policy.specs.declared.access.Mode.{Mode}
use Rattle.bl_policy.specs.declared.access.Mode.TheVariants.{Read, Append, Write}
use Rattle.bl_policy.specs.declared.access.ModeSet.{ModeSet}
use Rattle.bl_policy.specs.Mode.{has_mode, flag_of, place_of}
use Rattle.bl_policy.specs.Matrix.{Matrix, put_modes, put_where, triple}

-- the set has just these modes
abbrev pub Has : ModeSet → List Mode → Type 0
Has set modes = (m : Mode) → IsTrue (has_mode set m) ↔ Contains modes m

one_from_test : (a : ℕ) → IsTrue (eqb a 1) → a ≡ 1
one_from_test a e = grind (arith, nat_tests)

test_from_one : (a : ℕ) → a ≡ 1 → IsTrue (eqb a 1)
test_from_one a e = rw e refl

flag_has : (m : Mode) → bit_at (flag_of m) (place_of m) ≡ 1
flag_has m = bit_at-pow_same (place_of m)

same_mode : (m x : Mode) → bit_at (flag_of x) (place_of m) ≡ 1 → m ≡ x
same_mode Read Read e = refl
same_mode Read Append e = absurd (cc)
same_mode Read Write e = absurd (cc)
same_mode Append Read e = absurd (cc)
same_mode Append Append e = refl
same_mode Append Write e = absurd (cc)
same_mode Write Read e = absurd (cc)
same_mode Write Append e = absurd (cc)
same_mode Write Write e = refl

one_of_max : (a b : ℕ) → max a b ≡ 1 → a < 2 → b < 2 → (a ≡ 1) ⊎ (b ≡ 1)
one_of_max a b e p q = grind arith

max_one_left : (a b : ℕ) → a ≡ 1 → b < 2 → max a b ≡ 1
max_one_left a b e q = grind arith

max_one_right : (a b : ℕ) → b ≡ 1 → a < 2 → max a b ≡ 1
max_one_right a b e q = grind arith

-- a set of one mode
pub has_one : (set : ModeSet) (x : Mode) → set.0 ≡ flag_of x → Has set (x ∷ [])
has_one set x is m =
    let P : ℕ → Type 0 = λ bits. IsTrue (eqb (bit_at bits (place_of m)) 1) in (
      (λ t. (0, omega arith, sym (same_mode m x (one_from_test _ (subst P is t))))),
      (λ c. subst P (sym is) (subst (λ y. IsTrue (eqb (bit_at (flag_of y) (place_of m)) 1)) (first c) (test_from_one _ (flag_has m)))),
    )
  where
    first : Contains (x ∷ []) m → m ≡ x
    first (k, within, e) = sym (only k within e)
      where
        only : (k : ℕ) → k < 1 → slice_index_or (x ∷ []) k m ≡ m → x ≡ m
        only zero within e = e
        only (suc k) within e = absurd (omega arith)

-- one mode more
pub has_more : (set new : ModeSet) (modes : List Mode) (x : Mode) (bits : ℕ) → bits ≡ flag_of x → new.0 ≡ bit_or set.0 bits → Has set modes → Has new (modes ++ x ∷ [])
has_more set new modes x bits flag is has m =
    let k = place_of m in
    let at : bit_at new.0 k ≡ max (bit_at set.0 k) (bit_at (flag_of x) k) = ap (λ n. bit_at n k) is ∙ bit_at_or set.0 bits k ∙ ap (λ n. max (bit_at set.0 k) (bit_at n k)) flag in (
      (λ t. there (one_of_max (bit_at set.0 k) (bit_at (flag_of x) k) (sym at ∙ one_from_test _ t) (bit_at-lt set.0 k) (bit_at-lt (flag_of x) k))),
      (λ c. back at (Contains-push_cases modes x m c)),
    )
  where
    there : (bit_at set.0 (place_of m) ≡ 1) ⊎ (bit_at (flag_of x) (place_of m) ≡ 1) → Contains (modes ++ x ∷ []) m
    there (inl e) = Contains-append_left modes (x ∷ []) m ((has m).0 (test_from_one _ e))
    there (inr e) = subst (λ y. Contains (modes ++ y ∷ []) m) (same_mode m x e) (Contains-push modes m)

    back : bit_at new.0 (place_of m) ≡ max (bit_at set.0 (place_of m)) (bit_at (flag_of x) (place_of m)) → Contains modes m ⊎ (x ≡ m) → IsTrue (has_mode new m)
    back at (inl c) = test_from_one _ (at ∙ max_one_left _ _ (one_from_test _ ((has m).1 c)) (bit_at-lt (flag_of x) (place_of m)))
    back at (inr e) =
        let f : bit_at (flag_of x) (place_of m) ≡ 1 = subst (λ y. bit_at (flag_of y) (place_of m) ≡ 1) (sym e) (flag_has m) in
        test_from_one _ (at ∙ max_one_right _ _ f (bit_at-lt set.0 (place_of m)))

false_true : IsTrue false → ⊥
false_true e = cc

same_test : (a b : Bool) → (IsTrue a → IsTrue b) → (IsTrue b → IsTrue a) → a ≡ b
same_test true true f g = refl
same_test true false f g = absurd (false_true (f refl))
same_test false true f g = absurd (false_true (g refl))
same_test false false f g = refl

-- sets with the same modes have the same tests
pub same_modes : (a b : ModeSet) (modes : List Mode) → Has a modes → Has b modes → (m : Mode) → has_mode a m ≡ has_mode b m
same_modes a b modes f g m = same_test (has_mode a m) (has_mode b m) (λ t. (g m).1 ((f m).0 t)) (λ t. (f m).1 ((g m).0 t))

-- and they put the same triples
pub same_put : (matrix : Matrix) (s o : ℕ) (a b : ModeSet) → ((m : Mode) → has_mode a m ≡ has_mode b m) → put_modes matrix s o a ≡ put_modes matrix s o b
same_put matrix s o a b same =
    ap (λ t. put_where t (triple s o Read) (put_where (has_mode a Append) (triple s o Append) (put_where (has_mode a Write) (triple s o Write) matrix))) (same Read)
    ∙ ap (λ t. put_where (has_mode b Read) (triple s o Read) (put_where t (triple s o Append) (put_where (has_mode a Write) (triple s o Write) matrix))) (same Append)
    ∙ ap (λ t. put_where (has_mode b Read) (triple s o Read) (put_where (has_mode b Append) (triple s o Append) (put_where t (triple s o Write) matrix))) (same Write)
