-- What a seat has in its hands.
use Rattle.std.proofs.Common.{◌≡◌, ℕ, List, [], ◌∷◌, Option, refl, sym, ap, ◌∙◌, subst}
use Rattle.atomic_table.specs.Table.{rest}
use Rattle.bl_hall.specs.Chronicle.{Chronicle}

abbrev pub Held : Type 0
Held = List (ℕ × Option Chronicle)

pub holding : (x : Option Chronicle) (l : Held) → l ≡ (0, x) ∷ [] → (y : Option Chronicle) × (l ≡ (0, y) ∷ rest l)
holding x l e = (x, subst (λ (k : Held). k ≡ (0, x) ∷ rest k) (sym e) refl)

first_of_held : Option Chronicle → Held → Option Chronicle
first_of_held d [] = d
first_of_held d (x ∷ xs) = x.1

-- what is read from the hands is what was there
pub held_is : (x y : Option Chronicle) (l : Held) → l ≡ (0, x) ∷ [] → l ≡ (0, y) ∷ rest l → y ≡ x
unfolding first_of_held
held_is x y l e d = ap (first_of_held x) (sym d ∙ e)
