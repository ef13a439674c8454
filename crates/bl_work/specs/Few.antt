-- A list that mostly has one item, seen as the list of its items.
use Rattle.std.specs.Prelude.{List, [], ◌∷◌}
use Rattle.bl_work.specs.declared.few.Few.{Few}
use Rattle.bl_work.specs.declared.few.Few.TheVariants.{Nothing, One, Many}

abbrev pub items_of : {T : Type 0} → Few T → List T
items_of Nothing = []
items_of (One item) = item ∷ []
items_of (Many items) = items.items

-- it has one item, in place
abbrev pub IsOne : {T : Type 0} → Few T → Type 0
IsOne Nothing = ⊥
IsOne (One item) = Unit {0}
IsOne (Many items) = ⊥
