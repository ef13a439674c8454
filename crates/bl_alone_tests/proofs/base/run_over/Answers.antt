use Rattle.std.proofs.Common.{append-nil, subst, sym}
use Rattle.bl_disk.specs.File.{File, seen}
use Rattle.bl_record.specs.Torn.{IsTornHead}
use Rattle.bl_alone_tests.proofs.base.run_over.Goals as goal

pub run_from-requires-clause-fresh : goal.run_from-requires-clause-fresh
run_from-requires-clause-fresh c anew =
    subst (λ (file : File). IsTornHead (seen file)) (sym c.in_ok-new.ensures.now) (subst IsTornHead (sym (append-nil c.args.bytes.now)) c.requires)
