use Rattle.std.proofs.Common.{rules, ◌≡◌, ◌∙◌, ap, true, false, is_none}
use Rattle.bl_status.specs.Status.{status_of}
use Rattle.bl_keep.proofs.Leaving.{told_left, told_none}
use Rattle.bl_keep.proofs.ended.tell_unkept.Goals as goal

pub returns-then-is_none-clause-puts : goal.returns-then-is_none-clause-puts
returns-then-is_none-clause-puts g c =
    let unkept = c.args.unkept.now in
    let none : is_none unkept.left ≡ true = search rules in
    told_none c.args.name.now unkept.fault c.of_keep-fault.result c.of_keep-fault.ensures unkept.left _ _ none c.tell_at.ensures.puts

pub returns-then-is_none-clause-status : goal.returns-then-is_none-clause-status
returns-then-is_none-clause-status g c = c.tell_at.ensures.told.status_is ∙ ap status_of c.of_keep-fault.ensures

pub returns-clause-puts : goal.returns-clause-puts
returns-clause-puts g c =
    let unkept = c.args.unkept.now in
    let some : is_none unkept.left ≡ false = search rules in
    told_left c.args.name.now unkept.fault c.of_keep-fault.result c.of_keep-fault.ensures unkept.left _ _ _ some c.tell-status.ensures.puts c.tell_left.ensures.puts

pub returns-clause-status : goal.returns-clause-status
returns-clause-status g c = c.tell-status.ensures.told.status_is ∙ ap status_of c.of_keep-fault.ensures
