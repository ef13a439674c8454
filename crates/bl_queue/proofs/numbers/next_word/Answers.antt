use Rattle.std.proofs.Common.{subst, sym, ◌+◌, ◌/◌, Option, Some, None, ℕ}
use Rattle.bl_queue.specs.Numbers.{IsFirst}
use Rattle.bl_queue.proofs.Rows.{first_of_one, none_over, first_over}
use Rattle.bl_queue.proofs.numbers.next_word.Goals as goal

pub returns-in_err-region : goal.returns-in_err-region
returns-in_err-region c =
    subst (λ (o : Option ℕ). IsFirst c.args.middle.now c.args.from o) (sym c.from_residual.ensures)
    (none_over c.args.middle.now c.args.top.now c.args.from c.requires.over c.in_default.ensures
    (first_of_one c.args.top.now (c.args.from / 64 + 1) None c.requires.top c.in_err-region.ensures))

pub returns : goal.returns
returns c =
    first_over c.args.middle.now c.args.top.now c.args.from c.in_ok-region.region c.first_in_word-3.result c.requires.over c.in_default.ensures
    (first_of_one c.args.top.now (c.args.from / 64 + 1) (Some c.in_ok-region.region) c.requires.top c.in_ok-region.ensures)
    c.first_in_word-3.ensures
