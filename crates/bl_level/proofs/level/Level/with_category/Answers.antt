use Rattle.std.proofs.Common.{◌≡◌, ◌*◌, ◌%◌, ◌<◌, ◌≤◌, ◌^◌, arith, ◌∙◌}
use Rattle.std.proofs.Math.Pow.{pow_mono}
use Rattle.std.proofs.Math.Nat.{mod-eq_of_lt}
use Rattle.bl_level.proofs.Masks.{put-member}
use Rattle.bl_level.proofs.level.Level.with_category.Goals as goal

pub returns-clause-categories : goal.returns-clause-categories
returns-clause-categories c =
    let k = c.args.k in
    let below : k ≤ 31 = omega arith in
    let bound : 2 ^ k ≤ 2 ^ 31 = pow_mono below in
    let fits : 1 * 2 ^ k < 4294967296 = omega (arith, bound) in
    let bit : 1 * 2 ^ k % 4294967296 ≡ 2 ^ k = mod-eq_of_lt fits ∙ omega arith in
    rw (← c.self.view_is) (put-member c.self.inside.categories k _ bit)
