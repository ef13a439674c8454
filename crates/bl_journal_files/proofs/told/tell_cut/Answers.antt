use Rattle.std.proofs.Common.{rules, ◌≢◌, codes, decimal}
use Rattle.bl_wire.proofs.PutLaws.{puts-three}
use Rattle.bl_journal_files.specs.Telling.{cut_line}
use Rattle.bl_journal_files.proofs.Telling.{some-cut}
use Rattle.bl_journal_files.proofs.told.tell_cut.Goals as goal

pub returns : goal.returns
returns g c =
    let some : c.args.cut ≢ 0 = search rules in
    record {
      puts = puts-three (cut_line c.args.cut) (codes "cut ") (decimal c.args.cut) (codes " bytes\n") _ _ _ _ (some-cut c.args.cut some)
          c.put.ensures.puts c.put_count.ensures.puts c.put_out.ensures.puts;
    }
