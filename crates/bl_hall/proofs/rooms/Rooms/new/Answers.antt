use Rattle.std.proofs.Common.{arith}
use Rattle.bl_hall.proofs.rooms.Rooms.new.Goals as goal

pub returns-clause-events : goal.returns-clause-events
returns-clause-events c = (c.in_ok-events.ensures.items, omega (arith, c.in_ok-events.ensures.exact))

pub returns-clause-links : goal.returns-clause-links
returns-clause-links c = (c.in_ok-links.ensures.items, omega (arith, c.in_ok-links.ensures.exact))

pub returns-clause-tallies : goal.returns-clause-tallies
returns-clause-tallies c = (c.in_ok-tallies.ensures.items, omega (arith, c.in_ok-tallies.ensures.exact))
