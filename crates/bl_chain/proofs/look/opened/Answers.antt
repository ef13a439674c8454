use Rattle.std.proofs.Common.{suc, refl, inr}
use Rattle.bl_folder.specs.Names.{trail_part_of}
use Rattle.bl_chain.proofs.Looking.{opened, overrun, unpassed}
use Rattle.bl_chain.proofs.look.opened.Goals as goal

pub returns-then-is_overrun : goal.returns-then-is_overrun
returns-then-is_overrun c = record {
  looked = tt;
  setup = tt;
  fault = λ there open_run lines.
      inr (inr (overrun there c.args.run c.args.next c.is_overrun.result c.is_overrun.ensures c.args.setup open_run (there (trail_part_of (suc c.args.run))) refl lines c.if-is_overrun.true));
}

pub returns : goal.returns
returns c = record {
  looked = λ there open_run lines journal.
      opened there _ c.args.run c.args.setup c.args.is_begun refl refl refl refl open_run
      (unpassed there c.args.run c.args.next c.is_overrun.result c.is_overrun.ensures lines c.if-is_overrun.false) journal;
  setup = refl;
  fault = tt;
}
