use Rattle.std.proofs.Common.{append-nil, sym}
use Rattle.std.proofs.KnownBytes.{Keeps-refl}
use Rattle.bl_status.specs.Message.{fault_line}
use Rattle.bl_status.specs.Named.{unnamed}
use Rattle.bl_wire.proofs.PutLaws.{puts-is}
use Rattle.bl_recover.specs.declared.recover.RecoveryEnd.TheVariants.{Refused}
use Rattle.bl_recover.proofs.recover.recover_on.Goals as goal

-- the setup has a fault
pub returns-in-Err-clause-run : goal.returns-in-Err-clause-run
returns-in-Err-clause-run g c =
    let fault = c.in-Err.fault in
    record {
      end = Refused (unnamed fault);
      written = Keeps-refl _;
      said = puts-is (fault_line fault) _ _ _ (sym (append-nil (fault_line fault))) c.tell.ensures.puts;
      status_is = c.tell.ensures.told.status_is;
    }
