use Rattle.std.proofs.Common.{rules, ap, append-nil, inr, subst, ◌≤◌, length}
use Rattle.std.specs.Io.KnownBytes.{Appends}
use Rattle.std.proofs.KnownBytes.{Keeps-refl}
use Rattle.bl_trail_run.specs.Files.{is_whole}
use Rattle.bl_hall.specs.Chronicle.{state_now}
use Rattle.bl_order.specs.Machine.{most_sessions}
use Rattle.bl_status.specs.Message.{fault_line}
use Rattle.bl_status.specs.declared.fault.ProgramFault.TheVariants.{NoMoreSessions}
use Rattle.bl_alone.proofs.recorded.go_on.Goals as goal

-- fewer sessions were opened than may be
pub sit-requires-clause-hall : goal.sit-requires-clause-hall
sit-requires-clause-hall g c = record { setup_is = c.requires.setup; ended = c.requires.ended; room = search rules }

-- as many sessions were opened as may be
pub returns-clause-run : goal.returns-clause-run
returns-clause-run g c =
    let full : most_sessions ≤ length (state_now c.args.begun.hall).sessions = search rules in
    inr (record {
      full = full;
      part = ap is_whole c.end_with.ensures.part;
      status_is = c.end_with.ensures.told.status_is;
      said = λ fine. subst (Appends _ _) (append-nil (fault_line NoMoreSessions)) (c.end_with.ensures.told.said fine);
      unread = Keeps-refl _;
      unwritten = Keeps-refl _;
    })
