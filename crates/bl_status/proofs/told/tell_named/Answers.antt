use Rattle.std.proofs.Common.{◌++◌}
use Rattle.bl_wire.proofs.PutLaws.{puts-all, puts-append}
use Rattle.bl_status.specs.Message.{fault_line}
use Rattle.bl_status.specs.Places.{about_line}
use Rattle.bl_status.proofs.told.tell_named.Goals as goal

-- the fault, and then what it is about
pub returns-clause-puts : goal.returns-clause-puts
returns-clause-puts g c =
    let named = c.args.named.now in
    puts-append (fault_line named.fault) (about_line named.about) _ _ _ c.tell-status.ensures.puts c.tell_about.ensures.puts

pub returns-clause-told : goal.returns-clause-told
returns-clause-told g c =
    let named = c.args.named.now in
    record {
      status_is = c.tell-status.ensures.told.status_is;
      said = λ fine. puts-all (fault_line named.fault ++ about_line named.about) _ _
          (puts-append (fault_line named.fault) (about_line named.about) _ _ _ c.tell-status.ensures.puts c.tell_about.ensures.puts) fine;
    }
