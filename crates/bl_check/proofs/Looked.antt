-- The accesses of a `when` that were looked up so far.
use Rattle.std.proofs.Common.{◌≡◌, ℕ, ◌+◌, ◌<◌, ◌≤◌, List, [], ◌∷◌, ◌++◌, length, get_or, map, take, refl, sym, ap, subst, ◌∙◌, arith}
use Rattle.std.proofs.lemmas.List.{take_all}
use Rattle.bl_policy.specs.declared.access.Access.{Access}
use Rattle.bl_work.specs.Names.{KnownNames}
use Rattle.bl_work.specs.Meaning.{access_of}
use Rattle.bl_syntax.specs.RawBodies.{raw_access}
use Rattle.bl_syntax.specs.declared.raw.RawAccess.{RawAccess}
use Rattle.bl_check.proofs.Passes.{one_more, here_at}

-- the first access and those behind it, looked up
abbrev pub AreLookedUp : KnownNames → RawAccess → List RawAccess → List Access → Type 0
AreLookedUp names first more accesses = accesses ≡ map (access_of names) (raw_access first ∷ map raw_access more)

of_both : (names : KnownNames) (a b : List RawAccess) → map (access_of names) (map raw_access (a ++ b)) ≡ map (access_of names) (map raw_access a) ++ map (access_of names) (map raw_access b)
of_both names [] b = refl
of_both names (x ∷ a) b = ap (λ (l : List Access). access_of names (raw_access x) ∷ l) (of_both names a b)

-- one access more
pub looked_up_more : (names : KnownNames) (first : RawAccess) (more : List RawAccess) (i : ℕ) (d : RawAccess) (accesses next : List Access) (access : Access) → i < length more
    → AreLookedUp names first (take i more) accesses → access ≡ access_of names (raw_access (get_or more i d)) → next ≡ accesses ++ access ∷ []
    → AreLookedUp names first (take (i + 1) more) next
looked_up_more names first more i d accesses next access lt so_far is push =
    push ∙ ap (λ (l : List Access). l ++ access ∷ []) so_far
    ∙ ap (λ (a : Access). access_of names (raw_access first) ∷ (map (access_of names) (map raw_access (take i more)) ++ a ∷ [])) is
    ∙ ap (λ (l : List Access). access_of names (raw_access first) ∷ l)
    (sym (of_both names (take i more) (get_or more i d ∷ [])) ∙ ap (λ (l : List RawAccess). map (access_of names) (map raw_access l)) (sym (one_more more i (get_or more i d) lt (here_at more i d lt))))

-- all of them
pub looked_up_all : (names : KnownNames) (first : RawAccess) (more : List RawAccess) (i : ℕ) (accesses : List Access) → length more ≤ i
    → AreLookedUp names first (take i more) accesses → AreLookedUp names first more accesses
looked_up_all names first more i accesses past so_far = subst (λ (l : List RawAccess). AreLookedUp names first l accesses) (take_all i more past) so_far
