use Rattle.std.proofs.Common.{length}
use Rattle.bl_setup.specs.Setup as setups
use Rattle.bl_setup.specs.Agreement.{Agree}
use Rattle.bl_setup.specs.Draft.{setup_of}
use Rattle.bl_setup.specs.Heads.{Remain}
use Rattle.bl_setup.specs.FirstSetupFault.{declared, LeadOn}
use Rattle.bl_setup.specs.Lines.{lines_read, file_lines}
use Rattle.bl_setup.proofs.lines.Lines.read_into.Given as goal

abbrev pub invariant-loop-line : goal.invariant-loop-line
invariant-loop-line l = record {
  agree : Agree (setup_of l.draft);
  there : (after : setups.Setup) → Remain (lines_read l.self.rest.now) (setup_of l.draft) after → Remain (lines_read l.fn.self.rest.now) (setup_of l.fn.draft) after;
  back : (after : setups.Setup) → Remain (lines_read l.fn.self.rest.now) (setup_of l.fn.draft) after → Remain (lines_read l.self.rest.now) (setup_of l.draft) after;
  leads : LeadOn (declared (setup_of l.fn.draft)) l.fn.self.number (file_lines l.fn.self.rest.now) (declared (setup_of l.draft)) l.self.number (file_lines l.self.rest.now);
}

abbrev pub decreases-loop-line : goal.decreases-loop-line
decreases-loop-line l = length l.self.rest.now
