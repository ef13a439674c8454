use Rattle.std.proofs.Common.{◌≡◌, ◌≢◌, ℕ, zero, suc, ◌<◌, ◌≤◌, Bool, true, false, cond, List, [], ◌∷◌, ◌++◌, length, refl, sym, ◌∙◌, ap, inl, inr, arith, ◌⊎◌, true≢false, get_or}
use mathlib.Core.Path.{fun_ext}
use Rattle.std.specs.Prelude.{◌==◌}
use Rattle.std.proofs.Math.ListN.{get_or-append}
use Rattle.std.proofs.lemmas.Bool.Decides.{nat_tests, eqb_tells}
use Rattle.bl_setup.specs.Setup.{Setup}
use Rattle.bl_order.specs.Order.{Entry, Task}
use Rattle.bl_order.specs.Past.{Past, at_place, earlier, place, past_of, no_entry}
use Rattle.bl_order.specs.Now.{ended_before}

pub not_equal : (a b : ℕ) → a ≢ b → (a == b) ≡ false
not_equal a b h = grind (arith, nat_tests)

pub less_or_equal : (m n : ℕ) → m < suc n → (m < n) ⊎ (m ≡ n)
less_or_equal m n lt = grind arith

module _ (s : Setup) (l : ℕ → Bool) (A : List Entry) where
  pub length-earlier : (n : ℕ) → length (earlier s l A n) ≡ n
  length-earlier zero = refl
  length-earlier (suc n) = ap suc (length-earlier n)

  -- the record of a place among those before a later one
  pub at_place-earlier : (n k : ℕ) → k < n → at_place (earlier s l A n) k ≡ place s l A k
  at_place-earlier zero k lt = absurd (omega arith)
  at_place-earlier (suc n) k lt = go (eqb_tells k (length (earlier s l A n))) (at_place-earlier n k)
    where
      h : List Past
      h = earlier s l A n

      go : (((k == length h) ≡ true) × (k ≡ length h)) ⊎ (((k == length h) ≡ false) × (k ≡ length h → ⊥)) → (k < n → at_place h k ≡ place s l A k) → cond (k == length h) (place s l A n) (at_place h k) ≡ place s l A k
      go (inl t) deeper = ap (λ b. cond b (place s l A n) (at_place h k)) t.0 ∙ ap (place s l A) (sym (t.1 ∙ length-earlier n))
      go (inr t) deeper = ap (λ b. cond b (place s l A n) (at_place h k)) t.0 ∙ deeper (omega (arith, length-earlier n))

-- an order that grows, with the same places lost, changes no record of a place that was there
pub earlier-grown : (s : Setup) (l : ℕ → Bool) (A more : List Entry) (n : ℕ) → n ≤ length A → earlier s l (A ++ more) n ≡ earlier s l A n
earlier-grown s l A more zero le = refl
earlier-grown s l A more (suc n) le =
    ap (λ e. past_of s (l n) (earlier s l (A ++ more) n) e ∷ earlier s l (A ++ more) n) (get_or-append A more no_entry n le)
    ∙ ap (λ h. past_of s (l n) h (get_or A n no_entry) ∷ h) (earlier-grown s l A more n (omega arith))

pub place-grown : (s : Setup) (l m : ℕ → Bool) (A more : List Entry) (n : ℕ) → ((k : ℕ) → m k ≡ l k) → n < length A → place s m (A ++ more) n ≡ place s l A n
place-grown s l m A more n same lt =
    ap (λ f. place s f (A ++ more) n) (fun_ext same)
    ∙ ap (λ e. past_of s (l n) (earlier s l (A ++ more) n) e) (get_or-append A more no_entry n lt)
    ∙ ap (λ h. past_of s (l n) h (get_or A n no_entry)) (earlier-grown s l A more n (omega arith))

-- what the records make of a start, the oldest first
abbrev pub made : {X : Type 0} → (Past → X → X) → X → List Past → X
made step x [] = x
made step x (p ∷ h) = step p (made step x h)

module _ {X : Type 0} (step : Past → X → X) (x : X) (counts : Task → Bool) (skips : (p : Past) (y : X) → counts p.task ≡ false → step p y ≡ y)
    (s : Setup) (l : ℕ → Bool) (A : List Entry) (ended : ℕ → Bool) where
  -- where each place before n that counts has ended, the ended places make what all make
  pub made-all_ended : (n : ℕ) → ((k : ℕ) → k < n → counts (place s l A k).task ≡ true → ended k ≡ true) → made step x (ended_before s l A ended n) ≡ made step x (earlier s l A n)
  made-all_ended zero all = refl
  made-all_ended (suc n) all = go (ended n) (counts (place s l A n).task) refl refl (made-all_ended n (λ k lt. all k (omega arith)))
    where
      h : List Past
      h = ended_before s l A ended n

      go : (b r : Bool) → ended n ≡ b → counts (place s l A n).task ≡ r → made step x h ≡ made step x (earlier s l A n)
          → made step x (cond b (place s l A n ∷ h) h) ≡ step (place s l A n) (made step x (earlier s l A n))
      go true r i j same = ap (step (place s l A n)) same
      go false true i j same = absurd (true≢false (sym (all n (omega arith) j) ∙ i))
      go false false i j same = same ∙ sym (skips (place s l A n) (made step x (earlier s l A n)) j)

  -- where besides no place from n on that counts has, they make what the places before n make
  pub made-before : (n m : ℕ) → n ≤ m → ((k : ℕ) → k < n → counts (place s l A k).task ≡ true → ended k ≡ true)
      → ((k : ℕ) → n ≤ k → k < m → counts (place s l A k).task ≡ true → ended k ≡ false) → made step x (ended_before s l A ended m) ≡ made step x (earlier s l A n)
  made-before n zero le all none = ap (λ j. made step x (earlier s l A j)) (zero_is n le)
    where
      zero_is : (j : ℕ) → j ≤ zero → zero ≡ j
      zero_is j h = omega arith
  made-before n (suc m) le all none = split (less_or_equal n (suc m) (omega arith)) (λ below. made-before n m below all (λ k ge lt. none k ge (omega arith)))
    where
      h : List Past
      h = ended_before s l A ended m

      skip : (b r : Bool) → n ≤ m → ended m ≡ b → counts (place s l A m).task ≡ r → made step x (cond b (place s l A m ∷ h) h) ≡ made step x h
      skip false r ge i j = refl
      skip true false ge i j = skips (place s l A m) (made step x h) j
      skip true true ge i j = absurd (true≢false (sym i ∙ none m ge (omega arith) j))

      split : (n < suc m) ⊎ (n ≡ suc m) → (n ≤ m → made step x h ≡ made step x (earlier s l A n)) → made step x (cond (ended m) (place s l A m ∷ h) h) ≡ made step x (earlier s l A n)
      split (inl lt) deeper = skip (ended m) (counts (place s l A m).task) (omega arith) refl refl ∙ deeper (omega arith)
      split (inr e) deeper = made-all_ended (suc m) (λ k lt. all k (omega arith)) ∙ ap (λ j. made step x (earlier s l A j)) (sym e)
