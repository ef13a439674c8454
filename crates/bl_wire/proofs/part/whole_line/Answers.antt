use Rattle.std.proofs.Common.{rules, ◌≡◌, ◌==◌, arith, length, min, position, take}
use Rattle.bl_wire.proofs.Parts.{whole_at, none_whole}
use Rattle.bl_wire.proofs.part.whole_line.Goals as goal

pub returns-clause-some : goal.returns-clause-some
returns-clause-some c =
    let shown = c.args.shown.now in
    let most = c.min-most.result in
    let found : c.lf_place.result ≡ position (λ b. b == 10) (take most shown) = search rules in
    whole_at shown c.args.left most c.lf_place.result (omega (arith, c.min-most.ensures)) (omega (arith, c.min-most.ensures)) found

pub returns-clause-none : goal.returns-clause-none
returns-clause-none c =
    let shown = c.args.shown.now in
    let most = c.min-most.result in
    let found : c.lf_place.result ≡ position (λ b. b == 10) (take most shown) = search rules in
    let least : most ≡ min c.args.left (length shown) = grind (arith, c.min-most.ensures) in
    none_whole shown c.args.left most c.lf_place.result least found
