use Rattle.std.proofs.Common.{◌∙◌, ◌+◌, ap, sym}
use Rattle.bl_folder.specs.Names.{trail_part_of}
use Rattle.bl_folder.specs.Standing.{Contents}
use Rattle.bl_chain_serving.proofs.next.begin_next.Goals as goal

pub returns-clause-folder : goal.returns-clause-folder
returns-clause-folder g c = λ before is.
    let written = c.in_ok-write_next.ensures.written before is in
    let made = c.in_ok-journal.ensures.made written.standing written.is in
    let kept = c.in_ok-keep.ensures.kept made.standing made.is in
    record {
      standing = kept.standing;
      is = kept.is;
      so = record {
        between = written.standing;
        written = written.so;
        made = ap (λ (there : Contents). there (trail_part_of (c.args.run + 1))) kept.so.seen ∙ made.so.is;
        others = λ other apart. ap (λ (there : Contents). there other) kept.so.seen ∙ made.so.same.others other apart;
        kept = kept.so.kept ∙ sym kept.so.seen;
      };
    }
