use Rattle.std.proofs.Common.{List, length, ap, sym, subst, ◌∙◌}
use Rattle.bl_queue.specs.declared.entry.Stand.TheVariants.{Started}
use Rattle.bl_queue.specs.Entries.{Entry, MayStart}
use Rattle.bl_queue.specs.Queues.{Queue, with_stand}
use Rattle.bl_queue.specs.Rooms.{AreRunning}
use Rattle.bl_queue.proofs.Running.{started_running, has_room}
use Rattle.bl_queue.proofs.Kept.{started_may_pass, started_kept, started_entries}
use Rattle.bl_queue.proofs.queues.Queues.started.Goals as goal

pub set_stand-requires : goal.set_stand-requires
set_stand-requires c = (subst (λ (q : Queue). MayStart q.entries c.args.n) (sym c.self.view_is) c.requires).there

pub pass-requires : goal.pass-requires
pass-requires c =
    let can = started_may_pass c.self.inside.cowns c.self.inside.limit c.self.inside.roster c.set_stand.new.self c.args.n c.self.invariant.kept c.set_stand.ensures in
    record { front = can.front; known = can.known }

pub insert-requires : goal.insert-requires
insert-requires c =
    let may = subst (λ (q : Queue). MayStart q.entries c.args.n) (sym c.self.view_is) c.requires in
    has_room c.self.inside.limit c.args.n (length c.self.inside.roster.entries) (length c.self.inside.running) c.self.invariant.running.room c.self.invariant.kept.right.few may.there

pub invariant_of-self : goal.invariant_of-self
invariant_of-self c =
    let may = subst (λ (q : Queue). MayStart q.entries c.args.n) (sym c.self.view_is) c.requires in
    let entries = started_entries c.self.inside.roster c.set_stand.new.self c.pass.new.self c.args.n c.set_stand.ensures c.pass.ensures.others in
    record {
      kept = started_kept c.self.inside.cowns c.self.inside.limit c.self.inside.roster c.set_stand.new.self c.pass.new.self c.args.n c.self.invariant.kept may
          c.set_stand.ensures c.pass.ensures.front c.pass.ensures.others;
      running = subst (λ (es : List Entry). AreRunning es c.self.inside.limit c.insert.new.self) (sym entries)
          (started_running c.self.inside.roster.entries c.self.inside.limit c.args.n c.self.inside.running c.insert.new.self may.there c.self.invariant.running c.insert.ensures);
    }

pub returns : goal.returns
returns c =
    let entries = started_entries c.self.inside.roster c.set_stand.new.self c.pass.new.self c.args.n c.set_stand.ensures c.pass.ensures.others in
    let make : List Entry → Queue = λ es. record { cowns = c.self.inside.cowns; limit = c.self.inside.limit; entries = es } in
    ap make entries ∙ ap (λ (q : Queue). with_stand q c.args.n Started) c.self.view_is
