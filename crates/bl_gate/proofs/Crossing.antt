-- A pass may go to another thread, and threads may share a gate. Each step cites the one below it, since a search that goes down through
-- all types at once runs out of steps: a place may go, so a core, so a hall, so a pass, whose seat may hold the hall.
use denote.Param.Send.{IsSend, IsSync, sendable}
use Rattle.std.proofs.Crossing.{crosses}
use Rattle.std.proofs.alloc.Global.TheSendSync as globals
use Rattle.std.proofs.option.Option.TheSendSync as options
use Rattle.std.specs.contracts.option.Option as Option
use Rattle.atomic_table.proofs.send_lease.SendLease.TheSendSync as leases
use Rattle.atomic_table.proofs.shared.Seat.TheSendSync as seats
use Rattle.atomic_table.proofs.shared.Shared.TheSendSync as tables
use Rattle.bl_setup.proofs.setup.Setup.TheSendSync as setups
use Rattle.bl_work.proofs.names.Names.TheSendSync as names
use Rattle.bl_work.proofs.script.Body.TheLaws.TheKnot as bodies
use Rattle.bl_work.specs.contracts.names.Names as Names
use Rattle.bl_place.specs.contracts.place.Place as Place
use Rattle.bl_core.specs.contracts.machine.Core as Core
use Rattle.bl_hall.specs.contracts.hall.Hall as Hall
use Rattle.bl_gate.specs.contracts.boxed.BoxedHall as BoxedHall
use Rattle.bl_gate.specs.contracts.gate.Gate as Gate
use Rattle.bl_gate.specs.contracts.pass.Pass as Pass

place_send : IsSend Place.the_row
place_send = search (crosses, bodies.crosses, sendable) depth 60 fits 20000

core_send : IsSend Core.the_row
core_send = search (place_send, setups.the_send, crosses, bodies.crosses, sendable) depth 60 fits 20000

pub hall_send : IsSend Hall.the_row
hall_send = search (core_send, crosses, bodies.crosses, sendable) depth 60 fits 20000

boxed_send : IsSend BoxedHall.the_row
boxed_send = search (hall_send, globals.the_send, crosses, sendable) depth 60 fits 20000

pub pass_send : IsSend Pass.the_row
pass_send = search (boxed_send, seats.the_send, options.the_send, crosses, sendable) depth 60 fits 20000

slot_send : IsSend (Option.the_row BoxedHall.the_row)
slot_send = search (boxed_send, options.the_send, crosses, sendable) depth 60 fits 20000

names_sync : IsSync Names.the_row
names_sync = search (names.the_sync, crosses, sendable) depth 60 fits 20000

pub gate_sync : IsSync Gate.the_row
gate_sync = search (slot_send, tables.the_sync, leases.the_sync, names_sync, globals.the_sync, globals.the_send, crosses, sendable) depth 60 fits 20000
