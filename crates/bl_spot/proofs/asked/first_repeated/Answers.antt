use Rattle.std.proofs.Common.{◌+◌, sym, subst}
use Rattle.std.proofs.lemmas.List.{take_rest}
use Rattle.bl_spot.proofs.Failing.{Looked, looked_all, looked_found, looked_rest, nil_below}
use Rattle.bl_spot.proofs.asked.first_repeated.Goals as goal

pub loop-rest-preserved : goal.loop-rest-preserved
loop-rest-preserved c =
    let count = c.loop-rest.count in
    subst (λ rest. Looked c.args.token c.args.named c.args.names.now rest (count + 1)) (sym (take_rest c.loop-rest.rest.now 1))
    (looked_rest c.args.token c.args.named c.args.names.now count c.loop-rest.rest.now c.loop-rest.invariant c.in-len1-up.len_at_least c.is_among.result c.is_among.ensures
    c.if-is_among.false)

pub returns-then-is_among : goal.returns-then-is_among
returns-then-is_among c =
    looked_found c.args.token c.args.named c.args.names.now c.loop-rest.count c.loop-rest.rest.now c.loop-rest.invariant c.in-len1-up.len_at_least c.is_among.result c.is_among.ensures
    c.if-is_among.true

pub returns : goal.returns
returns c =
    looked_all c.args.token c.args.named c.args.names.now c.loop-rest.rest.now c.loop-rest.count c.loop-rest.invariant (nil_below c.loop-rest.rest.now c.in_default.len_below)
