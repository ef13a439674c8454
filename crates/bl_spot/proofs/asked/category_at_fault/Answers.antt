use Rattle.std.proofs.Common.{◌+◌, [], sym, subst}
use Rattle.std.proofs.lemmas.List.{take_rest}
use Rattle.bl_declare.specs.Words.{names_of}
use Rattle.bl_spot.specs.Asking.{FailsFirst, ask_categories}
use Rattle.bl_spot.proofs.Failing.{Passed, none_there, not_none_there, nil_below, passed_absent, passed_all, passed_found, passed_rest}
use Rattle.bl_spot.proofs.asked.category_at_fault.Goals as goal

pub loop-rest-preserved : goal.loop-rest-preserved
loop-rest-preserved c =
    let count = c.loop-rest.count in
    subst (λ rest. Passed c.args.scheme.now c.args.token c.args.names.now rest (count + 1)) (sym (take_rest c.loop-rest.rest.now 1))
    (passed_rest c.args.scheme.now c.args.token c.args.names.now count c.categories.result.now c.categories.ensures.value c.loop-rest.rest.now c.loop-rest.invariant
    c.in-len1-up.len_at_least (not_none_there _ c.position_of.result c.is_none.result c.is_none.ensures c.if-is_none.false c.position_of.ensures.found)
    c.is_among.result c.is_among.ensures c.if-is_among.false)

pub returns-then-is_none : goal.returns-then-is_none
returns-then-is_none c =
    subst (FailsFirst (ask_categories c.args.scheme.now c.args.token [] (names_of c.args.names.now))) (sym c.category.ensures)
    (passed_absent c.args.scheme.now c.args.token c.args.names.now c.loop-rest.count c.categories.result.now c.categories.ensures.value c.loop-rest.rest.now c.loop-rest.invariant
    c.in-len1-up.len_at_least (none_there _ c.position_of.result c.is_none.result c.is_none.ensures c.if-is_none.true c.position_of.ensures.found))

pub returns-then-is_among : goal.returns-then-is_among
returns-then-is_among c =
    subst (FailsFirst (ask_categories c.args.scheme.now c.args.token [] (names_of c.args.names.now))) (sym c.category-then-is_among.ensures)
    (passed_found c.args.scheme.now c.args.token c.args.names.now c.loop-rest.count c.categories.result.now c.categories.ensures.value c.loop-rest.rest.now c.loop-rest.invariant
    c.in-len1-up.len_at_least (not_none_there _ c.position_of.result c.is_none.result c.is_none.ensures c.if-is_none.false c.position_of.ensures.found)
    c.is_among.result c.is_among.ensures c.if-is_among.true)

pub returns : goal.returns
returns c =
    passed_all c.args.scheme.now c.args.token c.args.names.now c.loop-rest.rest.now c.loop-rest.count c.loop-rest.invariant (nil_below c.loop-rest.rest.now c.in_default.len_below)
