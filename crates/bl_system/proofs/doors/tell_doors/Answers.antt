use Rattle.std.proofs.Common.{rules, ◌≡◌, ◌++◌, ◌∙◌, ap, sym}
use Rattle.std.specs.Prelude.{string_bytes}
use Rattle.bl_wire.proofs.PutLaws.{puts-is, puts-append}
use Rattle.bl_status.specs.Message.{fault_line}
use Rattle.bl_status.specs.Places.{door_line}
use Rattle.bl_status.specs.declared.fault.ProgramFault.TheVariants as faults
use Rattle.bl_system.specs.Doors.{fault_text, stranger_line}
use Rattle.bl_system.proofs.doors.tell_doors.Goals as goal

-- the folder is no subject's
pub returns-in-NoSuchDoor-clause-puts : goal.returns-in-NoSuchDoor-clause-puts
returns-in-NoSuchDoor-clause-puts g c =
    let name = c.as_str.result.now in
    let named : name ≡ string_bytes c.in-NoSuchDoor.name = search rules in
    puts-is (stranger_line name) (fault_text c.args.fault.now) _ _ (ap stranger_line named ∙ sym (ap fault_text c.in-NoSuchDoor.is)) c.tell_stranger.ensures

-- the program's words, and then which door that is
pub returns-in-CannotListen-clause-puts : goal.returns-in-CannotListen-clause-puts
returns-in-CannotListen-clause-puts g c =
    let name = c.as_str-in-CannotListen.result.now in
    let named : name ≡ string_bytes c.in-CannotListen.name = search rules in
    puts-is (fault_line faults.CannotListen ++ door_line name) (fault_text c.args.fault.now) _ _
    (ap (λ l. fault_line faults.CannotListen ++ door_line l) named ∙ sym (ap fault_text c.in-CannotListen.is))
    (puts-append (fault_line faults.CannotListen) (door_line name) _ _ _ c.tell-status.ensures.puts c.tell_door.ensures.puts)
