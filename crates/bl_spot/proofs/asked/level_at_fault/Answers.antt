use Rattle.std.proofs.Common.{◌+◌, [], length, ap, sym, subst, arith}
use Rattle.std.specs.Prelude.{Contains}
use Rattle.bl_declare.specs.Words.{level_text, names_of}
use Rattle.bl_spot.specs.Asking.{Fails, ask_categories}
use Rattle.bl_spot.proofs.Failing.{level_behind, level_unknown, none_there, not_none_there}
use Rattle.bl_spot.proofs.Lengths.{categories_fit, names_length}
use Rattle.bl_spot.proofs.asked.level_at_fault.Goals as goal

pub category_at_fault-requires : goal.category_at_fault-requires
category_at_fault-requires c =
    let items = c.args.level.now.categories.items in
    omega (arith, c.requires, categories_fit (names_of items), names_length items, ap length c.as_slice.ensures.value)

pub returns-then-is_none : goal.returns-then-is_none
returns-then-is_none c =
    let rank = c.args.level.now.rank.now in
    level_unknown c.args.scheme.now c.args.token (level_text c.args.level.now)
    (λ there. none_there (Contains c.ranks.result.now rank) c.position_of.result c.is_none.result c.is_none.ensures c.if-is_none.true c.position_of.ensures.found
    (subst (λ ranks. Contains ranks rank) (sym c.ranks.ensures.value) there))

pub returns : goal.returns
returns c =
    let rank = c.args.level.now.rank.now in
    level_behind c.args.scheme.now c.args.token (level_text c.args.level.now) c.category_at_fault.result
    (subst (λ ranks. Contains ranks rank) c.ranks.ensures.value
    (not_none_there (Contains c.ranks.result.now rank) c.position_of.result c.is_none.result c.is_none.ensures c.if-is_none.false c.position_of.ensures.found))
    (subst (λ names. Fails (ask_categories c.args.scheme.now (c.args.token + 2) [] (names_of names)) c.category_at_fault.result) c.as_slice.ensures.value
    c.category_at_fault.ensures)
