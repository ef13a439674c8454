-- The tokens of a level's categories, a category at a time.
use Rattle.std.proofs.Common.{◌≡◌, ℕ, suc, ◌+◌, ◌<◌, Bool, true, false, eqb, cond, List, [], ◌∷◌, drop, get_or, length, refl, sym, ap, ◌∙◌, add-one, drop-cons}
use Rattle.std.specs.List.{fold}
use Rattle.std.specs.Int.{bit_at}
use Rattle.std.proofs.lemmas.Bool.{eq-eqb, ne_eqb}
use Rattle.bl_name.specs.declared.token.Sign.TheVariants.{Comma, Open}
use Rattle.bl_level.specs.Level.{SecurityLevel, HasCategory}
use Rattle.bl_level.specs.LevelText.{held_names, spell_categories, spell_more}
use Rattle.bl_level.specs.Token.{Tok, name, sign}

-- what is still to be put: these categories, and the closing brace where one was opened
abbrev pub tokens_left : Bool → List (List ℕ) → List Tok
tokens_left opened categories = cond opened (spell_more categories) (spell_categories categories)

first_left : (opened : Bool) (c : List ℕ) (cs : List (List ℕ)) → tokens_left opened (c ∷ cs) ≡ sign (cond opened Comma Open) ∷ name c ∷ tokens_left true cs
first_left true c cs = refl
first_left false c cs = refl

module _ (level : SecurityLevel) (names : List (List ℕ)) (k : ℕ) where
  from_here : k < length names → held_names level k (drop k names) ≡ held_names level k (get_or names k [] ∷ drop (suc k) names)
  from_here h = ap (held_names level k) (drop-cons names k [] h)

  next_are : held_names level (k + 1) (drop (k + 1) names) ≡ held_names level (suc k) (drop (suc k) names)
  next_are = ap (λ j. held_names level j (drop j names)) (add-one k)

  held_here : k < length names → HasCategory level k → held_names level k (drop k names) ≡ get_or names k [] ∷ held_names level (k + 1) (drop (k + 1) names)
  held_here h has =
      let rest = held_names level (suc k) (drop (suc k) names) in
      let bit : eqb (bit_at level.categories k) 1 ≡ true = eq-eqb (bit_at level.categories k) 1 has in
      from_here h ∙ ap (λ b. cond b (get_or names k [] ∷ rest) rest) bit ∙ ap (λ l. get_or names k [] ∷ l) (sym next_are)

  not_here : k < length names → (HasCategory level k → ⊥) → held_names level k (drop k names) ≡ held_names level (k + 1) (drop (k + 1) names)
  not_here h has =
      let rest = held_names level (suc k) (drop (suc k) names) in
      let bit : eqb (bit_at level.categories k) 1 ≡ false = ne_eqb (bit_at level.categories k) 1 has in
      from_here h ∙ ap (λ b. cond b (get_or names k [] ∷ rest) rest) bit ∙ sym next_are

  module _ {X : Type 0} (f : X → Tok → X) (old new whole : X) (opened : Bool) where
    -- a category of the level is put behind its sign
    pub category_put : k < length names → HasCategory level k → new ≡ fold f old (sign (cond opened Comma Open) ∷ name (get_or names k []) ∷ [])
        → fold f old (tokens_left opened (held_names level k (drop k names))) ≡ whole
        → fold f new (tokens_left true (held_names level (k + 1) (drop (k + 1) names))) ≡ whole
    category_put h has put before =
        let rest = held_names level (k + 1) (drop (k + 1) names) in
        ap (λ s. fold f s (tokens_left true rest)) put
        ∙ ap (fold f old) (sym (ap (tokens_left opened) (held_here h has) ∙ first_left opened (get_or names k []) rest))
        ∙ before

    -- another is passed over
    pub category_left : k < length names → (HasCategory level k → ⊥) → new ≡ old → fold f old (tokens_left opened (held_names level k (drop k names))) ≡ whole
        → fold f new (tokens_left opened (held_names level (k + 1) (drop (k + 1) names))) ≡ whole
    category_left h has same before =
        ap (λ s. fold f s (tokens_left opened (held_names level (k + 1) (drop (k + 1) names)))) same
        ∙ ap (λ cs. fold f old (tokens_left opened cs)) (sym (not_here h has))
        ∙ before
