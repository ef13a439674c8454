-- The line at fault of a file that is cut before it.
use Rattle.std.proofs.Common.{◌≡◌, ◌<◌, ◌≤◌, ◌+◌, ℕ, zero, suc, List, [], ◌∷◌, ◌++◌, length, Option, Some, None, refl, sym, ap, subst, ◌∙◌, inl, inr, ◌⊎◌, arith, length-append}
use Rattle.std.specs.Prelude.{slice_get}
use Rattle.bl_setup.specs.FirstSetupFault.{SoFar, nothing, LeadTo, LeadOn, StopsAt}
use Rattle.bl_setup.specs.Lines.{file_lines}
use Rattle.bl_spot.specs.declared.cut.Parted.{Parted}
use Rattle.bl_spot.specs.Parts.{BeginsWithLine, IsParted, line_at}
use Rattle.bl_spot.proofs.Places.{get_none, seam}

same_parts : (a b x y : List (List ℕ)) → a ++ b ≡ x ++ y → length a ≡ length x → (a ≡ x) × (b ≡ y)
same_parts [] b [] y e n = (refl, e)
same_parts [] b (z ∷ x) y e n = absurd (omega (arith, n))
same_parts (z ∷ a) b [] y e n = absurd (omega (arith, n))
same_parts (z ∷ a) b (w ∷ x) y e n =
    let heads : z ≡ w = cc in
    let tails : a ++ b ≡ x ++ y = cc in
    let r = same_parts a b x y tails (omega (arith, n)) in
    ((λ i. heads i ∷ r.0 i), r.1)

-- what holds where the lines before are right
pub record Here (P : SoFar → List (List ℕ) → Type 0) (front rest : List (List ℕ)) (number : ℕ) : Type 0 where
  pub after : SoFar
  pub leads : LeadTo nothing front after
  pub holds : P after rest
  pub is : number ≡ suc (length front)

front_length : (bytes : List ℕ) (number : ℕ) (p : Parted) (front rest : List (List ℕ)) → IsParted bytes number p → file_lines bytes ≡ front ++ rest
    → number ≡ suc (length front) → length (file_lines p.front.now) ≡ length front
front_length bytes number p front rest parted split is = go parted.counted
  where
    go : (number ≡ suc (length (file_lines p.front.now))) ⊎ (p.rest.now ≡ []) → length (file_lines p.front.now) ≡ length front
    go (inl e) = omega (arith, e, is)
    go (inr e) =
        let all = ap length (parted.lines ∙ ap (λ x. file_lines p.front.now ++ file_lines x) e) in
        omega (arith, all, length-append (file_lines p.front.now) [], ap length split, length-append front rest, parted.before, is)

pub here_is : (P : SoFar → List (List ℕ) → Type 0) (bytes : List ℕ) (number : ℕ) (p : Parted) → IsParted bytes number p → StopsAt P nothing 0 (file_lines bytes) number
    → Here P (file_lines p.front.now) (file_lines p.rest.now) number
here_is P bytes number p parted stops =
    let right = stops.right in
    let is : number ≡ suc (length right.front) = omega (arith, stops.is, right.counted) in
    let same = same_parts (file_lines p.front.now) (file_lines p.rest.now) right.front stops.rest (sym parted.lines ∙ right.split)
    (front_length bytes number p right.front stops.rest parted right.split is)
    in
    record {
      after = stops.after;
      leads = subst (λ x. LeadTo nothing x stops.after) (sym same.0) right.right;
      holds = subst (P stops.after) (sym same.1) stops.holds;
      is = is ∙ ap (λ x. suc (length x)) (sym same.0);
    }

-- and so something else that holds there stands there
pub stops_here : (P Q : SoFar → List (List ℕ) → Type 0) (bytes : List ℕ) (number : ℕ) (p : Parted) → IsParted bytes number p
    → (h : Here P (file_lines p.front.now) (file_lines p.rest.now) number) → Q h.after (file_lines p.rest.now) → StopsAt Q nothing 0 (file_lines bytes) number
stops_here P Q bytes number p parted h q = record {
  after = h.after;
  taken = length (file_lines p.front.now);
  rest = file_lines p.rest.now;
  right = record { front = file_lines p.front.now; split = parted.lines; right = h.leads; counted = omega arith };
  holds = q;
  is = h.is;
}

-- the front is no longer than the file
pub front_short : (bytes : List ℕ) (number : ℕ) (p : Parted) (most : ℕ) → IsParted bytes number p → length bytes ≤ most → length p.front.now ≤ most
front_short bytes number p most parted size = omega (arith, size, ap length parted.split, length-append p.front.now p.rest.now)

pub rest_short : (bytes : List ℕ) (number : ℕ) (p : Parted) (most : ℕ) → IsParted bytes number p → length bytes ≤ most → length p.rest.now ≤ most
rest_short bytes number p most parted size = omega (arith, size, ap length parted.split, length-append p.front.now p.rest.now)

-- the line of this number is the first of the rest
pub line_of_rest : (bytes : List ℕ) (number : ℕ) (p : Parted) (line : List ℕ) → IsParted bytes number p → (p.rest.now ≡ [] → ⊥) → BeginsWithLine p.rest.now line
    → Some line ≡ line_at bytes number
line_of_rest bytes number p line parted some (lines, begins) = go parted.counted
  where
    go : (number ≡ suc (length (file_lines p.front.now))) ⊎ (p.rest.now ≡ []) → Some line ≡ line_at bytes number
    go (inl e) =
        sym (ap (line_at bytes) e ∙ ap (λ ls. slice_get ls (length (file_lines p.front.now))) (parted.lines ∙ ap (λ l. file_lines p.front.now ++ l) begins)
        ∙ seam (file_lines p.front.now) line lines (length (file_lines p.front.now)) refl)
    go (inr e) = absurd (some e)

-- where nothing is left, there are fewer lines
pub no_line : (bytes : List ℕ) (number : ℕ) (p : Parted) → 0 < number → IsParted bytes number p → p.rest.now ≡ [] → None ≡ line_at bytes number
no_line bytes zero p some parted e = refl
no_line bytes (suc count) p some parted e =
    let all = ap length (parted.lines ∙ ap (λ x. file_lines p.front.now ++ file_lines x) e) in
    sym (get_none (file_lines bytes) count (omega (arith, all, length-append (file_lines p.front.now) [], parted.before)))
