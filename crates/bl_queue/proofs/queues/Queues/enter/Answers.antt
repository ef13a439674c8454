use Rattle.std.proofs.Common.{◌<◌, List, length, ap, sym, subst, ◌∙◌}
use Rattle.bl_queue.specs.Claims.{AreClaims}
use Rattle.bl_queue.specs.Entries.{Entry}
use Rattle.bl_queue.specs.Queues.{Queue, with_entry}
use Rattle.bl_queue.specs.Rooms.{AreRunning}
use Rattle.bl_queue.proofs.Running.{entered_running}
use Rattle.bl_queue.proofs.Kept.{can_add, entered_may_pass, entered_kept, entered_entries}
use Rattle.bl_queue.proofs.queues.Queues.enter.Goals as goal

pub add_claims-requires : goal.add_claims-requires
add_claims-requires c =
    let room = subst (λ (q : Queue). length q.entries < q.limit) (sym c.self.view_is) c.requires.room in
    let right = subst (λ (q : Queue). AreClaims q.cowns c.args.claims.now) (sym c.self.view_is) c.requires.claims in
    let can = can_add c.self.inside.cowns c.self.inside.limit c.self.inside.roster c.args.claims.now c.self.invariant.kept room right in
    record {
      entries = can.entries;
      small = can.small;
      kept = can.kept;
      settled = can.settled;
      claims = can.known;
      room = can.room;
      places = can.places;
      limit = can.limit;
    }

pub pass-requires : goal.pass-requires
pass-requires c =
    let can = entered_may_pass c.self.inside.cowns c.self.inside.limit c.self.inside.roster c.add_claims.new.self c.args.claims.now c.self.invariant.kept
    c.add_claims.ensures.kept c.add_claims.ensures.entered c.add_claims.ensures.others in
    record { front = can.front; known = can.known }

pub invariant_of-self : goal.invariant_of-self
invariant_of-self c =
    let room = subst (λ (q : Queue). length q.entries < q.limit) (sym c.self.view_is) c.requires.room in
    let right = subst (λ (q : Queue). AreClaims q.cowns c.args.claims.now) (sym c.self.view_is) c.requires.claims in
    let entries = entered_entries c.self.inside.roster c.add_claims.new.self c.pass.new.self c.args.claims.now c.add_claims.ensures.others c.pass.ensures.others in
    record {
      kept = entered_kept c.self.inside.cowns c.self.inside.limit c.self.inside.roster c.add_claims.new.self c.pass.new.self c.args.claims.now c.self.invariant.kept room right
          c.add_claims.ensures.kept c.add_claims.ensures.settled c.add_claims.ensures.entered c.add_claims.ensures.others c.pass.ensures.front c.pass.ensures.others;
      running = subst (λ (es : List Entry). AreRunning es c.self.inside.limit c.self.inside.running) (sym entries)
          (entered_running c.self.inside.roster.entries c.self.inside.limit c.self.inside.running c.args.claims.now c.self.invariant.running);
    }

pub returns : goal.returns
returns c =
    let entries = entered_entries c.self.inside.roster c.add_claims.new.self c.pass.new.self c.args.claims.now c.add_claims.ensures.others c.pass.ensures.others in
    let make : List Entry → Queue = λ es. record { cowns = c.self.inside.cowns; limit = c.self.inside.limit; entries = es } in
    ap make entries ∙ ap (λ (q : Queue). with_entry q c.args.claims.now) c.self.view_is
