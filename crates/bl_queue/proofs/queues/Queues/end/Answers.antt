use Rattle.std.proofs.Common.{◌<◌, ◌⊎◌, List, length, ap, sym, subst, ◌∙◌}
use Rattle.bl_queue.specs.declared.entry.Stand.TheVariants.{Ended}
use Rattle.bl_queue.specs.Entries.{Entry, MayStart, Runs}
use Rattle.bl_queue.specs.Queues.{Queue, with_stand}
use Rattle.bl_queue.specs.Queued.{Roster}
use Rattle.bl_queue.specs.Rooms.{AreRunning}
use Rattle.bl_queue.proofs.Running.{ended_running, has_room}
use Rattle.bl_queue.proofs.Kept.{can_end_claims, ended_may_pass, ended_kept, ended_entries}
use Rattle.bl_queue.proofs.queues.Queues.end.Goals as goal

pub end_claims-requires : goal.end_claims-requires
end_claims-requires c =
    let goes = subst (λ (q : Queue). MayStart q.entries c.args.n ⊎ Runs q.entries c.args.n) (sym c.self.view_is) c.requires in
    let can = can_end_claims c.self.inside.cowns c.self.inside.limit c.self.inside.roster c.args.n c.self.invariant.kept goes in
    record {
      there = can.there;
      place = can.place;
      kept = can.kept;
      settled = can.settled;
      room = can.room;
      range = can.range;
      free = can.free;
    }

pub set_stand-requires : goal.set_stand-requires
set_stand-requires c =
    let goes = subst (λ (q : Queue). MayStart q.entries c.args.n ⊎ Runs q.entries c.args.n) (sym c.self.view_is) c.requires in
    let can = can_end_claims c.self.inside.cowns c.self.inside.limit c.self.inside.roster c.args.n c.self.invariant.kept goes in
    subst (λ (r : Roster). c.args.n < length r.entries) (sym c.end_claims.ensures.others) can.there

pub pass-requires : goal.pass-requires
pass-requires c =
    let goes = subst (λ (q : Queue). MayStart q.entries c.args.n ⊎ Runs q.entries c.args.n) (sym c.self.view_is) c.requires in
    let can = ended_may_pass c.self.inside.cowns c.self.inside.limit c.self.inside.roster c.end_claims.new.self c.set_stand.new.self c.args.n c.self.invariant.kept goes
    c.end_claims.ensures.ended c.end_claims.ensures.others c.set_stand.ensures in
    record { front = can.front; known = can.known }

pub remove-requires : goal.remove-requires
remove-requires c =
    let goes = subst (λ (q : Queue). MayStart q.entries c.args.n ⊎ Runs q.entries c.args.n) (sym c.self.view_is) c.requires in
    let can = can_end_claims c.self.inside.cowns c.self.inside.limit c.self.inside.roster c.args.n c.self.invariant.kept goes in
    has_room c.self.inside.limit c.args.n (length c.self.inside.roster.entries) (length c.self.inside.running) c.self.invariant.running.room c.self.invariant.kept.right.few can.there

pub invariant_of-self : goal.invariant_of-self
invariant_of-self c =
    let goes = subst (λ (q : Queue). MayStart q.entries c.args.n ⊎ Runs q.entries c.args.n) (sym c.self.view_is) c.requires in
    let can = can_end_claims c.self.inside.cowns c.self.inside.limit c.self.inside.roster c.args.n c.self.invariant.kept goes in
    let entries = ended_entries c.self.inside.roster c.end_claims.new.self c.set_stand.new.self c.pass.new.self c.args.n c.end_claims.ensures.others c.set_stand.ensures c.pass.ensures.others in
    record {
      kept = ended_kept c.self.inside.cowns c.self.inside.limit c.self.inside.roster c.end_claims.new.self c.set_stand.new.self c.pass.new.self c.args.n c.self.invariant.kept goes
          c.end_claims.ensures.ended c.end_claims.ensures.others c.set_stand.ensures c.pass.ensures.front c.pass.ensures.others;
      running = subst (λ (es : List Entry). AreRunning es c.self.inside.limit c.remove.new.self) (sym entries)
          (ended_running c.self.inside.roster.entries c.self.inside.limit c.args.n c.self.inside.running c.remove.new.self can.there c.self.invariant.running c.remove.ensures);
    }

pub returns : goal.returns
returns c =
    let entries = ended_entries c.self.inside.roster c.end_claims.new.self c.set_stand.new.self c.pass.new.self c.args.n c.end_claims.ensures.others c.set_stand.ensures c.pass.ensures.others in
    let make : List Entry → Queue = λ es. record { cowns = c.self.inside.cowns; limit = c.self.inside.limit; entries = es } in
    ap make entries ∙ ap (λ (q : Queue). with_stand q c.args.n Ended) c.self.view_is
