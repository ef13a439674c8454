-- A text that is true has no line that is not right.
use Rattle.std.proofs.Common.{◌≡◌, ℕ, List, [], ◌∷◌, ◌++◌, length, refl, sym, ◌∙◌, ap, subst, inl, inr, arith, append_assoc, length-append}
use Rattle.std.specs.Prelude.{Some}
use Rattle.std.specs.List.{AllByRecursion}
use Rattle.bl_setup.specs.Setup.{Setup}
use Rattle.bl_trail.specs.Asks.{before, behind, HasNo}
use Rattle.bl_trail.specs.TrueText.{trail_lines, joined, GoesOn, IsWrong, IsTrueText, FirstWrong}
use Rattle.bl_trail.proofs.Words.{before-word, behind-word}

-- a first line, and what stands behind it
regroup : (l : List ℕ) (ls : List (List ℕ)) (r : List ℕ) → joined (l ∷ ls) ++ r ≡ l ++ 10 ∷ (joined ls ++ r)
regroup l ls r = append_assoc (l ++ 10 ∷ []) (joined ls) r ∙ append_assoc l (10 ∷ []) (joined ls ++ r)

some_injective : {a b : List ℕ} → Some a ≡ Some b → a ≡ b
some_injective h = cc

-- of two texts that begin with a line, the lines are the same, and what stands behind them
same_line : (l k a b : List ℕ) → HasNo 10 l → HasNo 10 k → l ++ 10 ∷ a ≡ k ++ 10 ∷ b → (l ≡ k) × (a ≡ b)
same_line l k a b p q h = (
  sym (before-word 10 l a p) ∙ ap (before 10) h ∙ before-word 10 k b q,
  some_injective (sym (behind-word 10 l a p) ∙ ap (behind 10) h ∙ behind-word 10 k b q),
)

-- lines that stand first in a text of lines are its first lines
pub record Splits (ls ks : List (List ℕ)) (r : List ℕ) : Type 0 where
  pub more : List (List ℕ)
  pub plain : AllByRecursion (HasNo 10) more
  pub lines : ls ≡ ks ++ more
  pub rest : r ≡ joined more

append-nil : {A : Type 0} (a : List A) → a ++ [] ≡ a
append-nil [] = refl
append-nil (b ∷ a) = ap (λ l. b ∷ l) (append-nil a)

pub splits : (ls ks : List (List ℕ)) (r : List ℕ) → AllByRecursion (HasNo 10) ls → AllByRecursion (HasNo 10) ks → joined ls ≡ joined ks ++ r → Splits ls ks r
splits ls [] r p q h = record { more = ls; plain = p; lines = refl; rest = sym h }
splits [] (k ∷ ks) r p q h = absurd (omega (arith, ap length h, ap length (regroup k ks r), length-append k (10 ∷ (joined ks ++ r))))
splits (l ∷ ls) (k ∷ ks) r p q h =
    let t : (l ≡ k) × (joined ls ++ [] ≡ joined ks ++ r) = same_line l k (joined ls ++ []) (joined ks ++ r) p.0 q.0 (sym (regroup l ls []) ∙ append-nil (joined (l ∷ ls)) ∙ h ∙ regroup k ks r) in
    let s : Splits ls ks r = splits ls ks r p.1 q.1 (sym (append-nil (joined ls)) ∙ t.1) in
    record { more = s.more; plain = s.plain; lines = ap (λ x. x ∷ ls) t.0 ∙ ap (λ x. k ∷ x) s.lines; rest = s.rest }

-- lines have an LF, if there are any
some_lf : (l : List ℕ) (a : List ℕ) → HasNo 10 (l ++ 10 ∷ a) → ⊥
some_lf [] a h = h.0 refl
some_lf (b ∷ l) a h = some_lf l a h.1

pub one-verdict : (setup : Setup) (text : List ℕ) (n k : ℕ) → IsTrueText setup text n → FirstWrong setup text k → ⊥
one-verdict setup text n k true_text wrong = go s.more s.lines s.rest s.plain wrong.wrong
  where
    s : Splits (trail_lines true_text.version setup true_text.limit true_text.events) wrong.before wrong.behind
    s = splits (trail_lines true_text.version setup true_text.limit true_text.events) wrong.before wrong.behind true_text.plain wrong.whole (sym true_text.is ∙ wrong.split)

    on : (lines more : List (List ℕ)) → trail_lines true_text.version setup true_text.limit true_text.events ≡ lines ++ more → GoesOn setup lines more
    on lines more is = record { version = true_text.version; has_setup = true_text.has_setup; limit = true_text.limit; is_limit = true_text.is_limit; events = true_text.events; steps = true_text.steps; has_events = true_text.has_events; is = is }

    go : (more : List (List ℕ)) → trail_lines true_text.version setup true_text.limit true_text.events ≡ wrong.before ++ more → wrong.behind ≡ joined more → AllByRecursion (HasNo 10) more
        → IsWrong setup wrong.before wrong.behind → ⊥
    go [] lines rest plain (inl t) = t.1 rest (on wrong.before [] lines)
    go (m ∷ more) lines rest plain (inl t) = some_lf m (joined more ++ []) (subst (HasNo 10) (rest ∙ sym (append-nil (joined (m ∷ more))) ∙ regroup m more []) t.0)
    go [] lines rest plain (inr t) = absurd (omega (arith, ap length (sym t.3 ∙ rest), length-append t.0 (10 ∷ t.1)))
    go (m ∷ more) lines rest plain (inr t) =
        let same : (m ≡ t.0) × (joined more ++ [] ≡ t.1) = same_line m t.0 (joined more ++ []) t.1 plain.0 t.2 (sym (regroup m more []) ∙ append-nil (joined (m ∷ more)) ∙ sym rest ∙ t.3) in
        t.4 (more, on (wrong.before ++ t.0 ∷ []) more (lines ∙ ap (λ l. wrong.before ++ l ∷ more) same.0 ∙ sym (append_assoc wrong.before (t.0 ∷ []) more)))
