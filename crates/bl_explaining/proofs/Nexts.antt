-- What is told of the first of some accesses, and then of the others.
use Rattle.std.proofs.Common.{◌≡◌, ◌≤◌, ◌-◌, ◌∙◌, ℕ, List, [], ◌∷◌, ap, arith, drop, get_or, length, subst, take}
use Rattle.std.proofs.lemmas.List.{take_all}
use Rattle.bl_policy.specs.declared.access.Access.{Access}
use Rattle.bl_explaining.specs.Places.{ArePlaces}
use Rattle.bl_explaining.specs.Shown.{AreShown, with_access}
use Rattle.bl_explaining.specs.declared.places.Places.{Places}
use Rattle.bl_explaining.specs.declared.setting.Setting.{Setting}

pub shown-next : (t : Setting) (accesses : List Access) (first : Access) (places : Places) (before mid after : List ℕ) → 1 ≤ length accesses
    → first ≡ get_or accesses 0 first → ArePlaces t first places
    → mid ≡ with_access t first places before → AreShown t (take (length accesses - 1) (drop 1 accesses)) mid after
    → AreShown t accesses before after
shown-next t [] first places before mid after some is are text rest = absurd (omega (arith, some))
shown-next t (access ∷ accesses) first places before mid after some is are text rest =
    let all : take (length (access ∷ accesses) - 1) accesses ≡ accesses = take_all (length (access ∷ accesses) - 1) accesses (omega arith) in
    let others : AreShown t accesses mid after = subst (λ (l : List Access). AreShown t l mid after) all rest in (
      places,
      subst (λ (a : Access). ArePlaces t a places) is are,
      subst (λ (m : List ℕ). AreShown t accesses m after) (text ∙ ap (λ (a : Access). with_access t a places before) is) others,
    )
