-- A head of which a first part is there.
use Rattle.std.proofs.Common.{◌≡◌, ◌≢◌, ◌∙◌, ◌↔◌, ◌⊎◌, inl, inr, ℕ, Bool, true, false, List, [], ◌∷◌, ◌++◌, length, take, drop, codes, decimal, refl, sym, ap, append-nil, append_assoc, arith, true≢false}
use Rattle.std.specs.Prelude.{IsTrue, nat_eq}
use Rattle.std.specs.List.{starts_with}
use Rattle.std.proofs.lemmas.Bool.Decides.{Decides-eqb}
use Rattle.std.proofs.lemmas.List.{append_cancel_left}
use Rattle.std.proofs.lemmas.Slice.Eq.{starts_is}
use Rattle.bl_setup.specs.declared.version.Version.TheVariants.{Two}
use Rattle.bl_trail.specs.TrueText.{IsLimit, head_lines, joined}
use Rattle.bl_record.specs.Torn.{IsFrontOfHead, IsTornHead, head_front}

ends_some : (a : List ℕ) (x : ℕ) → a ++ x ∷ [] ≢ []
ends_some [] x e = absurd (cc)
ends_some (y ∷ a) x e = absurd (cc)

head_is : (limit : ℕ) → joined (head_lines Two limit) ≡ head_front ++ (decimal limit ++ 10 ∷ [])
head_is limit = ap (λ l. head_front ++ l) (append-nil (decimal limit ++ 10 ∷ []))

-- what is torn is a first part of a head, and not all of it
pub is_front : (text : List ℕ) → IsTornHead text → IsFrontOfHead text
is_front text (inl (missing, is)) = record {
  limit = 1;
  is_limit = (omega arith, omega arith);
  missing = missing ++ (decimal 1 ++ 10 ∷ []);
  some = λ e. ends_some (missing ++ decimal 1) 10 (append_assoc missing (decimal 1) (10 ∷ []) ∙ e);
  split = head_is 1 ∙ ap (λ l. l ++ (decimal 1 ++ 10 ∷ [])) is ∙ append_assoc text missing (decimal 1 ++ 10 ∷ []);
}
is_front text (inr (limit, is_limit, is)) = record {
  limit = limit;
  is_limit = is_limit;
  missing = 10 ∷ [];
  some = ends_some [] 10;
  split = head_is limit ∙ sym (append_assoc head_front (decimal limit) (10 ∷ [])) ∙ ap (λ l. l ++ 10 ∷ []) (sym is);
}

-- a first part of what a head begins with
pub of_front : (text : List ℕ) (r : Bool) → r ≡ starts_with nat_eq head_front text → r ≡ true → IsTornHead text
of_front text r is yes' = inl (_, (starts_is Decides-eqb head_front text r is).0 yes')

pub no_front : (text : List ℕ) (r : Bool) → r ≡ starts_with nat_eq head_front text → r ≡ false → (missing : List ℕ) → head_front ≡ text ++ missing → ⊥
no_front text r is no' missing e = true≢false (sym ((starts_is Decides-eqb head_front text r is).1 missing e) ∙ no')

-- behind what a head begins with
pub of_rest : (text rest : List ℕ) (digits : Bool) → text ≡ head_front ++ rest → ((missing : List ℕ) → head_front ≡ text ++ missing → ⊥)
    → (IsTrue digits ↔ ((limit : ℕ) × IsLimit limit × (rest ≡ decimal limit))) → IsTrue digits ↔ IsTornHead text
of_rest text rest digits split none' is = (
  (λ yes'. let limit = is.0 yes' in inr (limit.0, limit.1, split ∙ ap (λ l. head_front ++ l) limit.2)),
  (λ torn. back torn),
)
  where
    back : IsTornHead text → IsTrue digits
    back (inl (missing, e)) = absurd (none' missing e)
    back (inr (limit, is_limit, e)) = is.1 (limit, is_limit, append_cancel_left head_front rest (decimal limit) (sym split ∙ e))

-- a text that begins otherwise
pub of_none : (text : List ℕ) → ((rest : List ℕ) → text ≢ head_front ++ rest) → ((missing : List ℕ) → head_front ≡ text ++ missing → ⊥) → IsTornHead text → ⊥
of_none text other none' (inl (missing, e)) = none' missing e
of_none text other none' (inr (limit, is_limit, e)) = other (decimal limit) e
