-- Grants as they are lent, and what they give back.
use Rattle.std.proofs.Common.{◌≡◌, ℕ, cond, List, [], ◌∷◌, length, refl, ap, sym, ◌∙◌, subst, arith}
use Rattle.std.specs.Prelude.{◌==◌, map}
use mathlib.Core.Path.{fun_ext}
use Rattle.std.proofs.lemmas.List.{length-map}
use Rattle.bl_policy.specs.declared.access.Access.{Access}
use Rattle.bl_work.specs.Effects.{Effect, after}
use Rattle.bl_grant.specs.Loaned.{Loaned, loan, as_lent, back_of}
use Rattle.bl_grant.specs.Loans.{loans, content_of, accesses_of, lent_of}
use Rattle.bl_eval.specs.Loan.{input_at, backs, AreFor}
use Rattle.bl_eval.specs.Told.{changed_by}

content-loans : (e : ℕ) (xs : List Access) (cs : List (List ℕ)) (o : ℕ) → content_of (loans e xs cs) o ≡ input_at xs cs o
content-loans e [] cs o = refl
content-loans e (x ∷ xs) [] o = refl
content-loans e (x ∷ xs) (c ∷ cs) o = ap (λ l. cond (x.doc == o) c l) (content-loans e xs cs o)

-- what the grants show is what was lent
pub contents-lent : (e : ℕ) (xs : List Access) (cs : List (List ℕ)) → content_of (loans e xs cs) ≡ input_at xs cs
contents-lent e xs cs = fun_ext (content-loans e xs cs)

-- grants that are changed by effects give back the contents after them
pub backs-changed : (e : ℕ) (xs : List Access) (cs : List (List ℕ)) (es : List Effect) → map back_of (changed_by (loans e xs cs) es) ≡ backs e xs cs es
backs-changed e [] cs es = refl
backs-changed e (x ∷ xs) [] es = refl
backs-changed e (x ∷ xs) (c ∷ cs) es = ap (λ l. back_of (record { entry = e; access = x; lent = c; now = after c es x.doc }) ∷ l) (backs-changed e xs cs es)

-- no effects change nothing
pub changed_by-none : (gs : List Loaned) → changed_by gs [] ≡ gs
changed_by-none [] = refl
changed_by-none (g ∷ gs) = ap (λ l. g ∷ l) (changed_by-none gs)

-- grants as they are lent are as they are lent
pub loans-lent : (e : ℕ) (xs : List Access) (cs : List (List ℕ)) → map as_lent (loans e xs cs) ≡ loans e xs cs
loans-lent e [] cs = refl
loans-lent e (x ∷ xs) [] = refl
loans-lent e (x ∷ xs) (c ∷ cs) = ap (λ l. loan e x c ∷ l) (loans-lent e xs cs)

-- and are for their accesses
pub loans-accesses : (e : ℕ) (xs : List Access) (cs : List (List ℕ)) → length cs ≡ length xs → accesses_of (loans e xs cs) ≡ xs
loans-accesses e [] cs h = refl
loans-accesses e (x ∷ xs) [] h = absurd (omega (arith, h))
loans-accesses e (x ∷ xs) (c ∷ cs) h = ap (λ l. x ∷ l) (loans-accesses e xs cs (omega (arith, h)))

pub accesses-for : (e : ℕ) (xs : List Access) (gs : List Loaned) → AreFor e xs gs → accesses_of gs ≡ xs
accesses-for e xs gs for = ap accesses_of for.lent ∙ loans-accesses e xs (lent_of gs) (length-map gs (λ (g : Loaned). g.lent) ∙ for.each)

pub lent-for : (e : ℕ) (xs : List Access) (gs : List Loaned) → AreFor e xs gs → map as_lent gs ≡ gs
lent-for e xs gs for = ap (map as_lent) for.lent ∙ loans-lent e xs (lent_of gs) ∙ sym for.lent

pub lent-contents : (e : ℕ) (xs : List Access) (cs : List (List ℕ)) → length cs ≡ length xs → lent_of (loans e xs cs) ≡ cs
lent-contents e [] [] h = refl
lent-contents e [] (c ∷ cs) h = absurd (omega (arith, h))
lent-contents e (x ∷ xs) [] h = absurd (omega (arith, h))
lent-contents e (x ∷ xs) (c ∷ cs) h = ap (λ l. c ∷ l) (lent-contents e xs cs (omega (arith, h)))

lent-again : (gs : List Loaned) → lent_of (map as_lent gs) ≡ lent_of gs
lent-again [] = refl
lent-again (g ∷ gs) = ap (λ l. g.lent ∷ l) (lent-again gs)

-- what was lent stays as it was
pub kept-lent : (gs now : List Loaned) → map as_lent now ≡ gs → lent_of now ≡ lent_of gs
kept-lent gs now kept = sym (lent-again now) ∙ ap lent_of kept

-- grants that were lent of these contents have them
pub lent-these : (e : ℕ) (xs : List Access) (gs : List Loaned) (cs : List (List ℕ)) → length cs ≡ length xs → map as_lent gs ≡ loans e xs cs → lent_of gs ≡ cs
lent-these e xs gs cs h made = sym (lent-again gs) ∙ ap lent_of made ∙ lent-contents e xs cs h

-- and the other way round
pub these-lent : (e : ℕ) (xs : List Access) (gs : List Loaned) (cs : List (List ℕ)) → AreFor e xs gs → lent_of gs ≡ cs
    → (length cs ≡ length xs) × (map as_lent gs ≡ loans e xs cs)
these-lent e xs gs cs for same = (
  sym (ap length same) ∙ length-map gs (λ (g : Loaned). g.lent) ∙ for.each,
  lent-for e xs gs for ∙ for.lent ∙ ap (loans e xs) same,
)

lent-twice : (gs : List Loaned) → map as_lent (map as_lent gs) ≡ map as_lent gs
lent-twice [] = refl
lent-twice (g ∷ gs) = ap (λ l. as_lent g ∷ l) (lent-twice gs)

-- whatever was done with the grants since
pub these-were_lent : (e : ℕ) (xs : List Access) (gs : List Loaned) (cs : List (List ℕ)) → AreFor e xs (map as_lent gs) → lent_of gs ≡ cs
    → (length cs ≡ length xs) × (map as_lent gs ≡ loans e xs cs)
these-were_lent e xs gs cs for same =
    let these = these-lent e xs (map as_lent gs) cs for (lent-again gs ∙ same) in (these.0, sym (lent-twice gs) ∙ these.1)

-- grants that were lent for these accesses are still for them
pub still-for : (e : ℕ) (xs : List Access) (gs now : List Loaned) → AreFor e xs gs → map as_lent now ≡ gs → AreFor e xs (map as_lent now)
still-for e xs gs now for kept = subst (AreFor e xs) (sym kept) for
