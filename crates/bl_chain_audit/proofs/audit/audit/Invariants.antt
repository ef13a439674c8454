use Rattle.bl_folder.specs.Standing.{IsSpan, Standing}
use Rattle.bl_folder.specs.declared.name.FileKind.TheVariants.{Setup}
use Rattle.bl_state.specs.Whole.{IsWhole}
use Rattle.bl_chain_audit.specs.Closed.{AreClosedBefore, IsEnd}
use Rattle.bl_chain_audit.proofs.audit.audit.Given as goal

-- the runs so far are closed
abbrev pub invariant-loop-run : goal.invariant-loop-run
invariant-loop-run g l = record {
  closed : (before : Standing) → g.F.Folder.stands l.fn.folder before
      → g.F.Folder.stands l.folder before × IsSpan before.seen Setup l.setups × IsEnd before.seen l.first l.end × AreClosedBefore before.seen l.noted l.run l.stood;
  whole : IsWhole l.stood;
}
