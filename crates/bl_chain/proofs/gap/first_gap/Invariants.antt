use Rattle.bl_folder.specs.Standing.{Standing}
use Rattle.bl_chain.specs.Refused.{IsUnbroken}
use Rattle.bl_chain.proofs.gap.first_gap.Given as goal

-- of the runs so far both files are there
abbrev pub invariant-loop-run : goal.invariant-loop-run
invariant-loop-run g l = (before : Standing) → g.F.Folder.stands l.fn.folder before → g.F.Folder.stands l.folder before × IsUnbroken before.seen l.first l.run
