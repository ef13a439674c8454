use Rattle.std.proofs.Common.{rules, ◌≡◌, true, refl, sym, subst, None}
use Rattle.bl_wire.specs.Watch.{end_state}
use Rattle.bl_keep.specs.Ending.{TellsTrail}
use Rattle.bl_keep.specs.declared.ended.Finished.{Finished}
use Rattle.bl_keep.proofs.Ending.{untold}
use Rattle.bl_serving.proofs.Served.{hosted}
use Rattle.bl_serving.proofs.at_end.host_on.Goals as goal

-- a thread was not started, and no trail is kept
pub returns-then-not-whole-clause-run : goal.returns-then-not-whole-clause-run
returns-then-not-whole-clause-run g c =
    let h = c.host-pass.result in
    let E = g.E.Write.contents in
    let name = c.args.trail.now.name.now in
    let told = end_state E c.tell_hosted-status.new.errors in
    let finished : Finished = record { status = c.tell_hosted-status.result; kept = None } in
    hosted name h.whole c.as_slice.result.now h.memory c.tell_hosted-status.result finished (end_state E c.args.errors.now) (end_state E c.host-pass.new.errors) told told
    c.host-pass.ensures.told c.tell_hosted-status.ensures.status c.tell_hosted-status.ensures.puts
    (untold name h.whole c.tell_hosted-status.result finished told told c.if-not-whole.true refl refl)

-- the trail was kept, or is told
pub returns : goal.returns
returns g c =
    let h = c.host-pass.result in
    let E = g.E.Write.contents in
    let name = c.args.trail.now.name.now in
    let told = end_state E c.tell_hosted-status.new.errors in
    let end = end_state E c.tell_trail.new.errors in
    let whole : h.whole ≡ true = search rules in
    record {
      run = hosted name h.whole c.as_slice.result.now h.memory c.tell_hosted-status.result c.tell_trail.result (end_state E c.args.errors.now) (end_state E c.host-pass.new.errors) told end
          c.host-pass.ensures.told c.tell_hosted-status.ensures.status c.tell_hosted-status.ensures.puts
          (subst (λ b. TellsTrail name b c.tell_hosted-status.result c.tell_trail.result told end) (sym whole) c.tell_trail.ensures.trail);
      kept = c.tell_trail.ensures.done;
      range = c.tell_trail.ensures.range c.tell_hosted-status.ensures.range;
    }
