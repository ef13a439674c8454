use Rattle.std.proofs.Common.{◌≡◌, ◌++◌, ⊎_elim, ap}
use Rattle.bl_wire.proofs.PutLaws.{puts-two}
use Rattle.bl_status.specs.Message.{fault_line}
use Rattle.bl_status.specs.Places.{file_line, trail_line}
use Rattle.bl_status.proofs.told.tell_at.Goals as goal

-- the trail cannot be read, or cannot be written
pub returns-in-CannotReadTrail-clause-puts : goal.returns-in-CannotReadTrail-clause-puts
returns-in-CannotReadTrail-clause-puts g c =
    let name = c.args.name.now in
    let fault = c.args.fault.now in
    let line : trail_line name fault ≡ file_line name = ⊎_elim (λ is. ap (trail_line name) is) (λ is. ap (trail_line name) is) c.in-CannotReadTrail.is in
    puts-two _ (fault_line fault) (file_line name) _ _ _ (ap (λ l. fault_line fault ++ l) line) c.tell-status.ensures.puts c.tell_file.ensures.puts
