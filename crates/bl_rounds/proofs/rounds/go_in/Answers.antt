use Rattle.std.proofs.Common.{ap, arith, length}
use Rattle.bl_rounds.proofs.rounds.go_in.Goals as goal

pub returns-in-None-clause-gone : goal.returns-in-None-clause-gone
returns-in-None-clause-gone g c time has i d low =
    let none = ap length (rw c.in-None.is at c.requires.opened) in
    absurd (omega (arith, none, low))

pub returns-in-None-clause-asks : goal.returns-in-None-clause-asks
returns-in-None-clause-asks g c i d low =
    let none = ap length (rw c.in-None.is at c.requires.opened) in
    absurd (omega (arith, none, low))
