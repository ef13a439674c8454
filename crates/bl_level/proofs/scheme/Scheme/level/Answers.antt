use Rattle.std.proofs.Common.{◌≡◌, ℕ, List, take, map, sym, subst, Bor}
use Rattle.std.proofs.Common.{arith}
use Rattle.std.proofs.lemmas.Grind.{common_steps}
use Rattle.bl_level.specs.LevelFault.{Reads}
use Rattle.bl_level.proofs.LevelTexts.{names_more}
use Rattle.bl_level.proofs.scheme.Scheme.level.Goals as goal

pub loop-category-preserved : goal.loop-category-preserved
loop-category-preserved c =
    let i = c.loop-category.category-index in
    subst (λ (names : List (List ℕ)). Reads c.args.self.now (record { rank = c.args.rank.now; categories = names }) c.with_category-so_far.result)
    (sym (names_more c.args.categories.now i _ c.loop-category-test.true))
    (c.with_category-so_far.ensures (record { rank = c.args.rank.now; categories = map (λ n. n.now) (take i c.args.categories.now) }) c.loop-category.invariant)

pub returns : goal.returns
returns c =
    let all : take c.loop-category.category-index c.args.categories.now ≡ c.args.categories.now = grind (arith, common_steps) in
    subst (λ (names : List (Bor (List ℕ))). Reads c.args.self.now (record { rank = c.args.rank.now; categories = map (λ n. n.now) names }) c.loop-category.so_far) all c.loop-category.invariant
