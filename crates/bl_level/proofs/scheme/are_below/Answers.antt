use Rattle.std.proofs.Common.{◌≡◌, ◌*◌, ◌%◌, ◌<◌, ◌≤◌, ◌^◌, arith, ◌∙◌, sym, subst}
use Rattle.std.proofs.Math.Pow.{pow_mono}
use Rattle.std.proofs.Math.Nat.{mod-eq_of_lt}
use Rattle.std.proofs.lemmas.Bool.{lt-ltb, ltb-true}
use Rattle.bl_level.proofs.Masks.{member-below, below-members}
use Rattle.bl_level.proofs.scheme.are_below.Goals as goal

pub returns : goal.returns
returns c =
    let mask = c.args.categories in
    let count = c.args.count in
    let bound : 2 ^ count ≤ 2 ^ 32 = pow_mono c.requires in
    let fits : 1 * 2 ^ count < 18446744073709551616 = omega (arith, bound) in
    let limit : 1 * 2 ^ count % 18446744073709551616 ≡ 2 ^ count = mod-eq_of_lt fits ∙ omega arith in
    rw limit (
      (λ below. member-below mask count (subst (λ m. m < 2 ^ count) c.from.ensures (ltb-true c.from.result (2 ^ count) below))),
      (λ each. lt-ltb c.from.result (2 ^ count) (subst (λ m. m < 2 ^ count) (sym c.from.ensures) (below-members mask count each))),
    )
