use Rattle.std.proofs.Common.{◌≡◌, ◌++◌, Option, subst}
use Rattle.std.specs.Option.{option_to_list}
use Rattle.bl_wire.specs.Watch.{Puts, end_state}
use Rattle.bl_wire.proofs.PutLaws.{puts-two}
use Rattle.std.specs.List.{flat_map}
use Rattle.bl_status.specs.Message.{fault_line}
use Rattle.bl_status.specs.Status.{status_after}
use Rattle.bl_status.specs.declared.fault.ProgramFault.{ProgramFault}
use Rattle.bl_alone.proofs.Both.{status_both, text_both}
use Rattle.bl_alone.proofs.recorded.tell_recorded.Goals as goal

pub returns-clause-told : goal.returns-clause-told
returns-clause-told g c =
    let stopped = c.fault_of_session-stopped.result in
    let trail = c.parts_of-file.result.1 in
    let same = c.parts_of-file.ensures.fault in
    let old = end_state g.E.Write.contents c.args.errors.now in
    let new = end_state g.E.Write.contents c.tell_any-later.new.errors in (
      stopped,
      c.fault_of_session-stopped.ensures,
      subst (λ (t : Option ProgramFault). c.first_of.result ≡ status_after 0 (option_to_list stopped ++ option_to_list t)) same
          (status_both stopped trail c.tell_any-status.result c.tell_any-later.result c.first_of.result c.tell_any-status.ensures.status c.tell_any-status.ensures.fine c.tell_any-later.ensures.status
          c.first_of.ensures.none c.first_of.ensures.some),
      subst (λ (t : Option ProgramFault). Puts (flat_map fault_line (option_to_list stopped ++ option_to_list t)) old new) same
          (puts-two _ (flat_map fault_line (option_to_list stopped)) (flat_map fault_line (option_to_list trail)) _ _ _ (text_both stopped trail) c.tell_any-status.ensures.puts c.tell_any-later.ensures.puts),
    )
