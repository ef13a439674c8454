use Rattle.std.proofs.Common.{◌≡◌, ◌+◌, ◌<◌, ◌++◌, ◌∷◌, [], ℕ, List, false, cond, drop, length, get_or, sym, ap, ◌∙◌, subst, Some, slice_get, true≢false, IfSome}
use Rattle.std.proofs.lemmas.Option.{get_or_from_slice_get}
use Rattle.bl_level.specs.Level.{HasCategory}
use Rattle.bl_level.specs.LevelText.{held_names}
use Rattle.bl_level.specs.LevelFronts.{tail_of}
use Rattle.bl_level.proofs.WritingLevels.{step_taken, step_left}
use Rattle.bl_level.proofs.scheme.Scheme.write_categories.Goals.{then-has_category+in_ok-write_category, else-has_category}
use Rattle.bl_level.proofs.scheme.Scheme.write_categories.Goals as goal

pub loop-place-preserved : goal.loop-place-preserved
loop-place-preserved c =
    let level = c.args.level.now in
    let names = c.args.self.now.categories in
    let place = c.loop-place.place in
    let whole = c.args.text.now.items ++ tail_of false (held_names level 0 names) in
    let within : place < length names = subst (λ (ns : List (List ℕ)). place < length ns) c.categories-categories.ensures.value (subst (λ n. place < n) c.len-place-end.ensures.value c.loop-place-test.true) in
    elim c.if-has_category.branch [
      | then-has_category+in_ok-write_category w ↦
          let got : slice_get c.categories-categories.result.now place ≡ Some w.unwrap.result.now =
          subst (λ o. IfSome o (λ name. slice_get c.categories-categories.result.now place ≡ Some name.now)) w.unwrap.ensures w.get.ensures.value in
          let name_is : w.unwrap.result.now ≡ get_or names place [] =
          sym (get_or_from_slice_get names place w.unwrap.result.now [] (ap (λ (ns : List (List ℕ)). slice_get ns place) (sym c.categories-categories.ensures.value) ∙ got)) in
          let more : c.if-has_category.text.items ≡ c.loop-place.text.items ++ (cond c.loop-place.opened 44 123 ∷ get_or names place []) =
          ap (λ t. t.items) w.text-is ∙ w.in_ok-write_category.ensures ∙ ap (λ n. c.loop-place.text.items ++ (cond c.loop-place.opened 44 123 ∷ n)) name_is in
          subst (λ b. c.if-has_category.text.items ++ tail_of b (held_names level (place + 1) (drop (place + 1) names)) ≡ whole) (sym w.opened-is)
          (step_taken level names place [] c.loop-place.text.items whole c.loop-place.opened within (c.has_category.ensures.0 w.if-has_category.true) c.if-has_category.text.items more c.loop-place.invariant)
      | else-has_category w ↦
          let new : HasCategory level place → ⊥ = λ h. true≢false (sym (c.has_category.ensures.1 h) ∙ w.if-has_category.false) in
          let same : c.if-has_category.text.items ≡ c.loop-place.text.items = ap (λ t. t.items) w.text-is in
          let rest = held_names level (place + 1) (drop (place + 1) names) in
          subst (λ b. c.if-has_category.text.items ++ tail_of b rest ≡ whole) (sym w.opened-is)
          (subst (λ (t : List ℕ). t ++ tail_of c.loop-place.opened rest ≡ whole) (sym same)
          (step_left level names place [] c.loop-place.text.items whole c.loop-place.opened within new c.loop-place.invariant))
    ]
