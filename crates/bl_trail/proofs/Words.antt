-- What stands before the first byte of a kind, and behind it.
use Rattle.std.proofs.Common.{◌≡◌, ◌≢◌, ℕ, zero, suc, ◌<◌, ◌≤◌, Bool, true, false, cond, List, [], ◌∷◌, ◌++◌, length, get_or, take, drop, refl, sym, ◌∙◌, ap, subst, inl, inr, arith, ◌⊎◌}
use Rattle.std.specs.Prelude.{◌==◌, Some, None}
use Rattle.std.proofs.lemmas.Bool.Decides.{eqb_tells}
use Rattle.bl_trail.specs.Asks.{before, behind, HasNo}

module _ (sign : ℕ) where
  is_sign : (b : ℕ) → (((b == sign) ≡ true) × (b ≡ sign)) ⊎ (((b == sign) ≡ false) × (b ≡ sign → ⊥))
  is_sign b = eqb_tells b sign

  pub before-first : (t : List ℕ) → take (length (before sign t)) t ≡ before sign t
  before-first [] = refl
  before-first (b ∷ t) = go (b == sign) (before-first t)
    where
      go : (c : Bool) → take (length (before sign t)) t ≡ before sign t → take (length (cond c [] (b ∷ before sign t))) (b ∷ t) ≡ cond c [] (b ∷ before sign t)
      go true h = refl
      go false h = ap (λ l. b ∷ l) h

  pub behind-some : (t : List ℕ) → length (before sign t) < length t → behind sign t ≡ Some (drop (suc (length (before sign t))) t)
  behind-some [] lt = absurd (omega arith)
  behind-some (b ∷ t) lt = go (b == sign) (behind-some t) lt
    where
      go : (c : Bool) → (length (before sign t) < length t → behind sign t ≡ Some (drop (suc (length (before sign t))) t))
          → length (cond c [] (b ∷ before sign t)) < length (b ∷ t) → cond c (Some t) (behind sign t) ≡ Some (drop (suc (length (cond c [] (b ∷ before sign t)))) (b ∷ t))
      go true h lt = refl
      go false h lt = h (omega arith)

  pub behind-none : (t : List ℕ) → length t ≤ length (before sign t) → (behind sign t ≡ None) × (before sign t ≡ t)
  behind-none [] le = (refl, refl)
  behind-none (b ∷ t) le = go (b == sign) (behind-none t) le
    where
      go : (c : Bool) → (length t ≤ length (before sign t) → (behind sign t ≡ None) × (before sign t ≡ t))
          → length (b ∷ t) ≤ length (cond c [] (b ∷ before sign t)) → (cond c (Some t) (behind sign t) ≡ None) × (cond c [] (b ∷ before sign t) ≡ b ∷ t)
      go true h le = absurd (omega arith)
      go false h le = let r : (behind sign t ≡ None) × (before sign t ≡ t) = h (omega arith) in (r.0, ap (λ l. b ∷ l) r.1)

  not_sign : (b : ℕ) → b ≢ sign → (b == sign) ≡ false
  not_sign b h = go (is_sign b)
    where
      go : (((b == sign) ≡ true) × (b ≡ sign)) ⊎ (((b == sign) ≡ false) × (b ≡ sign → ⊥)) → (b == sign) ≡ false
      go (inl t) = absurd (h t.1)
      go (inr t) = t.0

  -- a word is what stands before the first such byte behind it
  pub before-word : (w rest : List ℕ) → HasNo sign w → before sign (w ++ sign ∷ rest) ≡ w
  before-word [] rest h = go (is_sign sign)
    where
      go : (((sign == sign) ≡ true) × (sign ≡ sign)) ⊎ (((sign == sign) ≡ false) × (sign ≡ sign → ⊥)) → cond (sign == sign) [] (sign ∷ before sign rest) ≡ []
      go (inl t) = ap (λ c. cond c [] (sign ∷ before sign rest)) t.0
      go (inr t) = absurd (t.1 refl)
  before-word (b ∷ w) rest h = ap (λ c. cond c [] (b ∷ before sign (w ++ sign ∷ rest))) (not_sign b h.0) ∙ ap (λ l. b ∷ l) (before-word w rest h.1)

  pub behind-word : (w rest : List ℕ) → HasNo sign w → behind sign (w ++ sign ∷ rest) ≡ Some rest
  behind-word [] rest h = go (is_sign sign)
    where
      go : (((sign == sign) ≡ true) × (sign ≡ sign)) ⊎ (((sign == sign) ≡ false) × (sign ≡ sign → ⊥)) → cond (sign == sign) (Some rest) (behind sign rest) ≡ Some rest
      go (inl t) = ap (λ c. cond c (Some rest) (behind sign rest)) t.0
      go (inr t) = absurd (t.1 refl)
  behind-word (b ∷ w) rest h = ap (λ c. cond c (Some (w ++ sign ∷ rest)) (behind sign (w ++ sign ∷ rest))) (not_sign b h.0) ∙ behind-word w rest h.1

  pub before-all : (w : List ℕ) → HasNo sign w → before sign w ≡ w
  before-all [] h = refl
  before-all (b ∷ w) h = ap (λ c. cond c [] (b ∷ before sign w)) (not_sign b h.0) ∙ ap (λ l. b ∷ l) (before-all w h.1)

  -- a text is what stands before, the byte, and what stands behind; or it has none
  pub cut-some : (t rest : List ℕ) → behind sign t ≡ Some rest → HasNo sign (before sign t) × (t ≡ before sign t ++ sign ∷ rest)
  cut-some [] rest h = absurd (cc)
  cut-some (b ∷ t) rest h = go (is_sign b) h (cut-some t rest)
    where
      go : (((b == sign) ≡ true) × (b ≡ sign)) ⊎ (((b == sign) ≡ false) × (b ≡ sign → ⊥)) → cond (b == sign) (Some t) (behind sign t) ≡ Some rest
          → (behind sign t ≡ Some rest → HasNo sign (before sign t) × (t ≡ before sign t ++ sign ∷ rest)) → HasNo sign (cond (b == sign) [] (b ∷ before sign t)) × (b ∷ t ≡ cond (b == sign) [] (b ∷ before sign t) ++ sign ∷ rest)
      go (inl e) h deeper =
          let same : t ≡ rest = (let k : Some t ≡ Some rest = sym (ap (λ c. cond c (Some t) (behind sign t)) e.0) ∙ h in cc) in
          subst (λ c. HasNo sign (cond c [] (b ∷ before sign t)) × (b ∷ t ≡ cond c [] (b ∷ before sign t) ++ sign ∷ rest)) (sym e.0) (tt, ap (λ y. y ∷ t) e.1 ∙ ap (λ l. sign ∷ l) same)
      go (inr e) h deeper =
          let r : HasNo sign (before sign t) × (t ≡ before sign t ++ sign ∷ rest) = deeper (sym (ap (λ c. cond c (Some t) (behind sign t)) e.0) ∙ h) in
          subst (λ c. HasNo sign (cond c [] (b ∷ before sign t)) × (b ∷ t ≡ cond c [] (b ∷ before sign t) ++ sign ∷ rest)) (sym e.0) ((e.1, r.0), ap (λ l. b ∷ l) r.1)

  pub cut-none : (t : List ℕ) → behind sign t ≡ None → HasNo sign t
  cut-none [] h = tt
  cut-none (b ∷ t) h = go (is_sign b) h (cut-none t)
    where
      go : (((b == sign) ≡ true) × (b ≡ sign)) ⊎ (((b == sign) ≡ false) × (b ≡ sign → ⊥)) → cond (b == sign) (Some t) (behind sign t) ≡ None
          → (behind sign t ≡ None → HasNo sign t) → HasNo sign (b ∷ t)
      go (inl e) h deeper = absurd (let k : Some t ≡ None = sym (ap (λ c. cond c (Some t) (behind sign t)) e.0) ∙ h in cc)
      go (inr e) h deeper = (e.1, deeper (sym (ap (λ c. cond c (Some t) (behind sign t)) e.0) ∙ h))

  -- the place that a search finds is the length of what stands before it
  pub found-first : (t : List ℕ) (k : ℕ) → k < length t → (get_or t k 0 == sign) ≡ true → ((i : ℕ) → i < k → (get_or t i 0 == sign) ≡ true → ⊥) → length (before sign t) ≡ k
  found-first [] k lt is none = absurd (omega arith)
  found-first (b ∷ t) zero lt is none = ap (λ c. length (cond c [] (b ∷ before sign t))) is
  found-first (b ∷ t) (suc k) lt is none = go (b == sign) refl (found-first t k (omega arith) is (λ i le hit. none (suc i) (omega arith) hit))
    where
      go : (c : Bool) → (b == sign) ≡ c → length (before sign t) ≡ k → length (cond c [] (b ∷ before sign t)) ≡ suc k
      go true h deeper = absurd (none 0 (omega arith) h)
      go false h deeper = ap suc deeper

  pub found-none : (t : List ℕ) → ((i : ℕ) → i < length t → (get_or t i 0 == sign) ≡ true → ⊥) → length (before sign t) ≡ length t
  found-none [] none = refl
  found-none (b ∷ t) none = go (b == sign) refl (found-none t (λ i le hit. none (suc i) (omega arith) hit))
    where
      go : (c : Bool) → (b == sign) ≡ c → length (before sign t) ≡ length t → length (cond c [] (b ∷ before sign t)) ≡ suc (length t)
      go true h deeper = absurd (none 0 (omega arith) h)
      go false h deeper = ap suc deeper
