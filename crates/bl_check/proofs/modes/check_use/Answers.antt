use Rattle.std.proofs.Common.{[], ◌∷◌, map, arith}
use Rattle.bl_syntax.specs.RawBodies.{raw_access}
use Rattle.bl_work.specs.WhenFaults.{Usage, IsDeclared}
use Rattle.bl_work.specs.FirstWhenFault.{used_document}
use Rattle.bl_check.specs.Uses.{passes, declares_so}
use Rattle.bl_check.proofs.Firsts.{all_one, first_here}
use Rattle.bl_check.proofs.Passes.{no_access}
use Rattle.bl_check.proofs.Uses.{any_behind, none_at_all}
use Rattle.bl_check.proofs.modes.check_use.Goals as goal

pub returns-then-declares-2 : goal.returns-then-declares-2
returns-then-declares-2 c =
    let used : Usage = record { declared = raw_access c.args.first ∷ map raw_access c.args.more.now; asked = passes c.args.does; document = c.args.document.now } in
    all_one IsDeclared used
    (any_behind (declares_so (passes c.args.does) c.args.document.now) (raw_access c.args.first) c.args.more.now c.loop-access.access-index no_access (omega arith)
    c.if-declares-2.ensures)

pub returns : goal.returns
returns c =
    let used : Usage = record { declared = raw_access c.args.first ∷ map raw_access c.args.more.now; asked = passes c.args.does; document = c.args.document.now } in
    first_here IsDeclared used_document used []
    (none_at_all (declares_so (passes c.args.does) c.args.document.now) (raw_access c.args.first) c.args.more.now c.loop-access.access-index (omega arith)
    c.if-declares.ensures c.loop-access.invariant)
