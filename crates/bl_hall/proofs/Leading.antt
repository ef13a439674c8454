-- Links that lead from place to place.
use Rattle.std.proofs.Common.{◌≡◌, ℕ, zero, suc, ◌+◌, ◌-◌, ◌<◌, List, [], ◌∷◌, ◌++◌, refl, sym, ap, subst, ◌∙◌, arith}
use Rattle.std.specs.Prelude.{Option, Some, None}
use Rattle.bl_hall.specs.Linked.{Leads, lead_to}
use Rattle.bl_hall.proofs.Ordered.{Each}

-- steps that are the same on the way
pub leads-same : (f g : ℕ → Option ℕ) (at : Option ℕ) (ms : List ℕ) → Each (λ m. g m ≡ f m) ms → Leads f at ms → Leads g at ms
leads-same f g at [] h l = l
leads-same f g at (m ∷ ms) h l = (l.0, subst (λ o. Leads g o ms) (sym h.0) (leads-same f g (f m) ms h.1 l.1))

-- from one place leads one way
pub one-way : (f : ℕ → Option ℕ) (at : Option ℕ) (ms ns : List ℕ) → Leads f at ms → Leads f at ns → ms ≡ ns
one-way f at [] [] l k = refl
one-way f at [] (n ∷ ns) l k = let e : None ≡ Some n = sym l ∙ k.0 in absurd (cc)
one-way f at (m ∷ ms) [] l k = let e : None ≡ Some m = sym k ∙ l.0 in absurd (cc)
one-way f at (m ∷ ms) (n ∷ ns) l k =
    let e : Some m ≡ Some n = sym l.0 ∙ k.0 in
    let one : m ≡ n = cc in
    let rest = one-way f (f m) ms ns l.1 (subst (λ j. Leads f (f j) ns) (sym one) k.1) in
    (λ i. one i ∷ rest i)

-- so many places from one on
abbrev pub row : ℕ → ℕ → List ℕ
row at zero = []
row at (suc k) = at ∷ row (at + 1) k

pub row-end : (at k : ℕ) → row at (suc k) ≡ row at k ++ (at + k) ∷ []
row-end at zero = ap (λ j. j ∷ []) (plus_zero at)
  where
    plus_zero : (a : ℕ) → a ≡ a + 0
    plus_zero a = omega arith
row-end at (suc k) =
    ap (λ l. at ∷ l) (row-end (at + 1) k) ∙ ap (λ j. at ∷ (row (at + 1) k ++ j ∷ [])) (next at k)
  where
    next : (a b : ℕ) → a + 1 + b ≡ a + suc b
    next a b = omega arith

pub row-each : (P : ℕ → Type 0) (at k : ℕ) → ((i : ℕ) → i < k → P (at + i)) → Each P (row at k)
row-each P at zero h = tt
row-each P at (suc k) h = (
  subst P (plus_zero at) (h 0 (omega arith)),
  row-each P (at + 1) k (λ i lt. subst P (next at i) (h (suc i) (omega (arith, lt)))),
)
  where
    plus_zero : (a : ℕ) → a + 0 ≡ a
    plus_zero a = omega arith

    next : (a b : ℕ) → a + suc b ≡ a + 1 + b
    next a b = omega arith

-- a row of places, and then what stands behind it
leads-row : (g : ℕ → Option ℕ) (k at : ℕ) (behind : Option ℕ) (ms : List ℕ)
    → ((i : ℕ) → i < k → g (at + i) ≡ lead_to (at + i + 1) (k - i - 1) behind)
    → Leads g behind ms → Leads g (lead_to at k behind) (row at k ++ ms)
leads-row g zero at behind ms h l = l
leads-row g (suc k) at behind ms h l =
    (refl, subst (λ o. Leads g o (row (at + 1) k ++ ms)) (sym first) (leads-row g k (at + 1) behind ms later l))
  where
    moved : (a b c d : ℕ) → a ≡ c → b ≡ d → lead_to a b behind ≡ lead_to c d behind
    moved a b c d e f = ap (λ j. lead_to j b behind) e ∙ ap (λ j. lead_to c j behind) f

    first : g at ≡ lead_to (at + 1) k behind
    first =
        ap g (omega arith) ∙ h 0 (omega arith) ∙ moved (at + 0 + 1) (suc k - 0 - 1) (at + 1) k (omega arith) (omega arith)

    later : (i : ℕ) → i < k → g (at + 1 + i) ≡ lead_to (at + 1 + i + 1) (k - i - 1) behind
    later i lt =
        ap g (omega arith) ∙ h (suc i) (omega (arith, lt)) ∙ moved (at + suc i + 1) (suc k - suc i - 1) (at + 1 + i + 1) (k - i - 1) (omega arith) (omega arith)

-- a row of places has entered behind one
pub leads-entered : (f g : ℕ → Option ℕ) (n at k : ℕ) (from : Option ℕ) (before behind : List ℕ)
    → Leads f from (before ++ n ∷ behind) → Each (λ m. g m ≡ f m) before → Each (λ m. g m ≡ f m) behind
    → g n ≡ lead_to at k (f n) → ((i : ℕ) → i < k → g (at + i) ≡ lead_to (at + i + 1) (k - i - 1) (f n))
    → Leads g from (before ++ n ∷ (row at k ++ behind))
leads-entered f g n at k from [] behind l h b parent entered =
    (l.0, subst (λ o. Leads g o (row at k ++ behind)) (sym parent) (leads-row g k at (f n) behind entered (leads-same f g (f n) behind b l.1)))
leads-entered f g n at k from (m ∷ before) behind l h b parent entered =
    (l.0, subst (λ o. Leads g o (before ++ n ∷ (row at k ++ behind))) (sym h.0) (leads-entered f g n at k (f m) before behind l.1 h.1 b parent entered))
