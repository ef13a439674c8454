use Rattle.std.proofs.Common.{◌≡◌, ◌+◌, ◌<◌, ◌∷◌, [], ℕ, List, Bool, cond, drop, length, get_or, sym, ap, ◌∙◌, subst, Some, slice_get, true≢false, IfSome}
use Rattle.std.specs.List.{fold}
use Rattle.std.proofs.lemmas.Option.{get_or_from_slice_get}
use Rattle.bl_name.specs.declared.token.Sign.TheVariants.{Comma, Open}
use Rattle.bl_level.specs.Level.{HasCategory}
use Rattle.bl_level.specs.LevelText.{held_names, spell_categories}
use Rattle.bl_level.specs.Token.{name, sign}
use Rattle.bl_write.proofs.RulesSpelled.{tokens_left, category_put, category_left}
use Rattle.bl_write.proofs.spell_rules.put_categories.Goals.{then-has_category+in_ok-put_all, else-has_category}
use Rattle.bl_write.proofs.spell_rules.put_categories.Goals as goal

pub loop-place-preserved : goal.loop-place-preserved
loop-place-preserved g c =
    let taken = g.S.Sink.taken in
    let level = c.args.level.now in
    let names = c.args.scheme.now.categories in
    let place = c.loop-place.place in
    let whole = fold taken c.args.sink.now (spell_categories (held_names level 0 names)) in
    let within : place < length names = subst (λ (ns : List (List ℕ)). place < length ns) c.categories-categories.ensures.value (subst (λ n. place < n) c.len-place-end.ensures.value c.loop-place-test.true) in
    let goes_on = λ (b : Bool). fold taken c.if-has_category.sink (tokens_left b (held_names level (place + 1) (drop (place + 1) names))) ≡ whole in
    elim c.if-has_category.branch [
      | then-has_category+in_ok-put_all w ↦
          let got : slice_get c.categories-categories.result.now place ≡ Some w.unwrap-category.result.now =
          subst (λ o. IfSome o (λ name. slice_get c.categories-categories.result.now place ≡ Some name.now)) w.unwrap-category.ensures w.get.ensures.value in
          let category : w.bytes.result.now ≡ get_or names place [] =
          w.bytes.ensures.value
          ∙ sym (get_or_from_slice_get names place w.unwrap-category.result.now [] (ap (λ (ns : List (List ℕ)). slice_get ns place) (sym c.categories-categories.ensures.value) ∙ got)) in
          let put : c.if-has_category.sink ≡ fold taken c.loop-place.sink (sign (cond c.loop-place.opened Comma Open) ∷ name (get_or names place []) ∷ []) =
          w.sink-is ∙ w.in_ok-put_all.ensures ∙ (λ i. fold taken c.loop-place.sink (sign (w.sign_before.ensures i) ∷ name (category i) ∷ [])) in
          subst goes_on (sym w.opened-is)
          (category_put level names place taken c.loop-place.sink c.if-has_category.sink whole c.loop-place.opened within (c.has_category.ensures.0 w.if-has_category.true) put c.loop-place.invariant)
      | else-has_category w ↦
          let none : HasCategory level place → ⊥ = λ h. true≢false (sym (c.has_category.ensures.1 h) ∙ w.if-has_category.false) in
          subst goes_on (sym w.opened-is)
          (category_left level names place taken c.loop-place.sink c.if-has_category.sink whole c.loop-place.opened within none w.sink-is c.loop-place.invariant)
    ]
