use Rattle.std.proofs.Common.{◌++◌, List, ℕ, subst, sym, true, Result, Err}
use Rattle.bl_wire.specs.Watch.{Puts, end_state}
use Rattle.bl_wire.proofs.PutLaws.{puts-append}
use Rattle.bl_status.specs.Message.{fault_line}
use Rattle.bl_trail_file.specs.Telling.{left_text}
use Rattle.bl_journal_files.specs.Naming.{left_under, name_fault, naming_text}
use Rattle.bl_journal_files.specs.declared.name.NameFault.{NameFault}
use Rattle.bl_journal_files.specs.declared.name.Named.{Named}
use Rattle.bl_journal_files.proofs.naming.tell_name.Goals as goal

-- the fault is told, and then where the trail is
pub returns-then-status-eq0-clause-puts : goal.returns-then-status-eq0-clause-puts
returns-then-status-eq0-clause-puts g c =
    let old = end_state g.E.Write.contents c.args.errors.now in
    let told = end_state g.E.Write.contents c.tell-own.new.errors in
    let new = end_state g.E.Write.contents c.tell_rest.new.errors in
    let fault = c.in-Err.fault in
    let at = left_under c.args.part.now c.args.trail.now fault in
    subst (λ (named : Result Named NameFault). Puts (naming_text c.args.part.now c.args.trail.now named) old new) (sym c.in-Err.is)
    (puts-append (fault_line (name_fault fault)) (left_text true at) old told new
    (subst (λ f. Puts (fault_line f) old told) c.of_name.ensures c.tell-own.ensures.puts)
    (subst (λ (name : List ℕ). Puts (left_text true name) told new) c.left_in.ensures c.tell_rest.ensures.puts))

pub returns-else-status-eq0-clause-puts : goal.returns-else-status-eq0-clause-puts
returns-else-status-eq0-clause-puts g c =
    let old = end_state g.E.Write.contents c.args.errors.now in
    let told = end_state g.E.Write.contents c.tell-own.new.errors in
    let new = end_state g.E.Write.contents c.tell_rest.new.errors in
    let fault = c.in-Err.fault in
    let at = left_under c.args.part.now c.args.trail.now fault in
    subst (λ (named : Result Named NameFault). Puts (naming_text c.args.part.now c.args.trail.now named) old new) (sym c.in-Err.is)
    (puts-append (fault_line (name_fault fault)) (left_text true at) old told new
    (subst (λ f. Puts (fault_line f) old told) c.of_name.ensures c.tell-own.ensures.puts)
    (subst (λ (name : List ℕ). Puts (left_text true name) told new) c.left_in.ensures c.tell_rest.ensures.puts))
