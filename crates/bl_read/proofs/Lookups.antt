-- The documents of accesses that were looked up.
use Rattle.std.proofs.Common.{◌≡◌, ℕ, zero, suc, ◌+◌, ◌<◌, List, [], ◌∷◌, length, get_or, map, refl, ap, ◌∙◌, arith, add-one}
use Rattle.bl_policy.specs.declared.access.Access.{Access}
use Rattle.bl_work.specs.Names.{KnownNames}
use Rattle.bl_work.specs.Meaning.{document_of, access_of}
use Rattle.bl_syntax.specs.RawBodies.{raw_access}
use Rattle.bl_syntax.specs.declared.raw.RawAccess.{RawAccess}

module _ (names : KnownNames) where
  each : (more : List RawAccess) (i : ℕ) (r : RawAccess) (a : Access) → i < length more
      → (get_or (map (access_of names) (map raw_access more)) i a).doc ≡ document_of names (get_or more i r).document.now
  each [] i r a lt = absurd (omega (arith, lt))
  each (x ∷ more) zero r a lt = refl
  each (x ∷ more) (suc i) r a lt = each more i r a (omega (arith, lt))

  -- each access behind the first has the document of its name
  pub document_behind : (first : RawAccess) (more : List RawAccess) (accesses given : List Access) (i : ℕ) (r : RawAccess) (a : Access) → given ≡ accesses
      → accesses ≡ map (access_of names) (raw_access first ∷ map raw_access more) → i < length more
      → (get_or given (i + 1) a).doc ≡ document_of names (get_or more i r).document.now
  document_behind first more accesses given i r a same looked_up lt =
      ap (λ (l : List Access). (get_or l (i + 1) a).doc) (same ∙ looked_up) ∙ rw add-one (each more i r a lt)
