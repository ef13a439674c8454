use Rattle.std.proofs.Common.{◌≡◌, Contains, Some, sym, ap, subst, ◌∙◌, true≢false}
use Rattle.std.proofs.lemmas.Bool.{false≢true}
use Rattle.bl_level.specs.Level.{HasCategory}
use Rattle.bl_name.specs.Table.{place_of}
use Rattle.bl_level.specs.LevelFault.{Reads}
use Rattle.bl_level.proofs.LevelTexts.{fault_stays, unknown, repeated, taken}
use Rattle.bl_level.proofs.scheme.Scheme.with_category.Goals as goal

pub returns-in-Err : goal.returns-in-Err
returns-in-Err c = λ text reads. fault_stays c.args.self.now text c.args.category.now c.in-Err.fault (subst (Reads c.args.self.now text) c.in-Err.is reads)

pub returns-in-None : goal.returns-in-None
returns-in-None c =
    let scheme = c.args.self.now in
    let category = c.args.category.now in
    let absent : Contains scheme.categories category → ⊥ =
    λ h. false≢true (c.in-None.ensures.found.1 (subst (λ names. Contains names category) (sym c.categories.ensures.value) h)) in
    λ text reads. unknown scheme text c.in-Ok.level category (subst (Reads scheme text) c.in-Ok.is reads) absent

pub returns-then-has_category : goal.returns-then-has_category
returns-then-has_category c =
    let scheme = c.args.self.now in
    let category = c.args.category.now in
    let at : place_of category scheme.categories ≡ Some c.in-Some.place =
    sym (c.in-Some.ensures.value ∙ ap (λ names. place_of category names) c.categories.ensures.value) in
    λ text reads. repeated scheme text c.in-Ok.level category c.in-Some.place (subst (Reads scheme text) c.in-Ok.is reads) at
    (c.has_category.ensures.0 c.if-has_category.true)

pub returns-else-has_category : goal.returns-else-has_category
returns-else-has_category c =
    let scheme = c.args.self.now in
    let category = c.args.category.now in
    let at : place_of category scheme.categories ≡ Some c.in-Some.place =
    sym (c.in-Some.ensures.value ∙ ap (λ names. place_of category names) c.categories.ensures.value) in
    let new : HasCategory c.in-Ok.level c.in-Some.place → ⊥ =
    λ h. true≢false (sym (c.has_category.ensures.1 h) ∙ c.if-has_category.false) in
    λ text reads. taken scheme text c.in-Ok.level c.with_category.result category c.in-Some.place (subst (Reads scheme text) c.in-Ok.is reads) at new
    c.with_category.ensures.rank c.with_category.ensures.categories
