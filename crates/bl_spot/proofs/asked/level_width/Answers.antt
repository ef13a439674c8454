use Rattle.std.proofs.Common.{◌≡◌, ◌+◌, ◌*◌, length, vec_len, sym, ◌∙◌, arith}
use Rattle.bl_declare.specs.Words.{names_of}
use Rattle.bl_spot.proofs.Lengths.{categories_fit, categories_length, names_length, not_zero}
use Rattle.bl_spot.proofs.asked.level_width.Goals as goal

pub overflow_add-result : goal.overflow_add-result
overflow_add-result c =
    let items = c.args.level.now.categories.items in
    omega (arith, c.requires, categories_fit (names_of items), names_length items, c.len.ensures)

pub returns-else-is_empty : goal.returns-else-is_empty
returns-else-is_empty c =
    let v = c.args.level.now.categories in
    let some = not_zero (vec_len v) c.is_empty.result c.is_empty.ensures c.if-is_empty.false in
    let many : length (names_of v.items) ≡ vec_len v = omega (arith, names_length v.items, v.ok.0) in
    omega (arith, categories_length (names_of v.items) (vec_len v) many some, c.len.ensures, v.ok.0)
