use Rattle.std.proofs.Common.{◌++◌, ◌∙◌, ap, refl, subst, sym, true}
use Rattle.std.proofs.KnownBytes.{Keeps-refl}
use Rattle.bl_wire.specs.Watch.{Puts, end_state}
use Rattle.bl_wire.proofs.PutLaws.{puts-append, puts-three}
use Rattle.bl_status.specs.Message.{fault_line}
use Rattle.bl_status.specs.Status.{status_of}
use Rattle.bl_trail_file.specs.Telling.{left_text, unkept_fault}
use Rattle.bl_recover.specs.Recoveries.{after_cut}
use Rattle.bl_journal_files.specs.Telling.{cut_line}
use Rattle.bl_recover.proofs.Recoveries.{cut_is}
use Rattle.bl_recover.proofs.recover.tell_closed.Goals as goal

-- the bytes that were cut off are told, and then what came of the trail
pub returns-in-Ok-clause-said : goal.returns-in-Ok-clause-said
returns-in-Ok-clause-said g c =
    let closed = c.args.closed.now in
    let E = g.E.Write.contents in
    let old = end_state E c.args.errors.now in
    let told = end_state E c.tell_cut.new.errors in
    let end = c.tell_with_name.result.0 in
    let new = end_state E c.tell_with_name.new.errors in
    let part = closed.part.now in
    subst (λ cut. Puts (cut_line cut ++ after_cut part end) old new) (sym (cut_is closed.events closed.cut end c.tell_with_name.ensures.closed))
    (puts-append (cut_line closed.cut) (after_cut part end) old told new c.tell_cut.ensures.puts (c.tell_with_name.ensures.said part))

-- the trail could not have its name
pub returns-in-Err-clause-said : goal.returns-in-Err-clause-said
returns-in-Err-clause-said g c =
    let closed = c.args.closed.now in
    let E = g.E.Write.contents in
    let told = end_state E c.tell_cut.new.errors in
    let unkept = end_state E c.tell-status.new.errors in
    let fault = c.in-Err.fault in
    puts-three (cut_line closed.cut ++ (fault_line (unkept_fault fault) ++ left_text true closed.part.now)) (cut_line closed.cut) (fault_line (unkept_fault fault))
    (left_text true closed.part.now) _ told unkept _ refl c.tell_cut.ensures.puts
    (subst (λ f. Puts (fault_line f) told unkept) c.of_keep.ensures c.tell-status.ensures.puts) c.tell_rest.ensures.puts

pub returns-in-Err-clause-written : goal.returns-in-Err-clause-written
returns-in-Err-clause-written g c = Keeps-refl _

pub returns-in-Err-clause-status : goal.returns-in-Err-clause-status
returns-in-Err-clause-status g c = c.tell-status.ensures.told.status_is ∙ ap status_of c.of_keep.ensures
