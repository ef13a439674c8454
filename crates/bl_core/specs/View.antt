-- The state that a core is.
use Rattle.std.specs.Prelude.{map}
use Rattle.bl_order.specs.Machine.{State}
use Rattle.bl_place.specs.Places.{entry_of, phase_of}
use Rattle.bl_place.specs.declared.place.Place.{Place}
use Rattle.bl_core.specs.declared.session.Session.{Session}
use Rattle.bl_core.specs.declared.machine.Core.TheInside.{Inside}

abbrev pub state_of : Inside → State
state_of c = record {
  setup = c.setup;
  limit = c.limit;
  sessions = map (λ (s : Session). record { subject = s.subject; last = s.last }) c.sessions.items;
  order = map entry_of c.places.items;
  phases = map (λ (p : Place). phase_of p.stand) c.places.items;
}
