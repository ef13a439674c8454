use Rattle.std.proofs.Common.{take}
use Rattle.bl_disk.specs.File.{Keeps}
use Rattle.bl_disk.specs.Moments.{IsCutting, IsSyncing}
use Rattle.bl_disk.proofs.Fronts.{crash-keeps, through}
use Rattle.bl_disk.proofs.Passing.{goes-on, weaker}
use Rattle.bl_disk.proofs.log.reopen.Goals as goal

pub returns-in-Ok-sync-clause-any_moment : goal.returns-in-Ok-sync-clause-any_moment
returns-in-Ok-sync-clause-any_moment g c =
    let now = g.D.Device.now in
    let past = g.D.Device.past in
    let old = c.args.device in
    let mid = c.cut.new.self in
    let new = c.sync.new.self in
    let front = take c.args.right (now old).kept in
    goes-on now past old mid new (Keeps front)
    (weaker now past old mid (IsCutting (now old) c.args.right) (Keeps front) (λ file cutting. crash-keeps front file cutting.kept) c.cut.ensures.moments)
    (weaker now past mid new (IsSyncing (now mid)) (Keeps front)
    (λ file kept. crash-keeps front file (through front (now mid).kept file.kept c.cut.ensures.moments.last.kept kept)) c.sync.ensures.moments)

pub returns-in-Err-sync-clause-any_moment_failed : goal.returns-in-Err-sync-clause-any_moment_failed
returns-in-Err-sync-clause-any_moment_failed g c =
    let now = g.D.Device.now in
    let past = g.D.Device.past in
    let old = c.args.device in
    let mid = c.cut.new.self in
    let new = c.sync.new.self in
    let front = take c.args.right (now old).kept in
    goes-on now past old mid new (Keeps front)
    (weaker now past old mid (IsCutting (now old) c.args.right) (Keeps front) (λ file cutting. crash-keeps front file cutting.kept) c.cut.ensures.moments)
    (weaker now past mid new (IsSyncing (now mid)) (Keeps front)
    (λ file kept. crash-keeps front file (through front (now mid).kept file.kept c.cut.ensures.moments.last.kept kept)) c.sync.ensures.moments)

pub returns-in-Err-clause-any_moment_failed : goal.returns-in-Err-clause-any_moment_failed
returns-in-Err-clause-any_moment_failed g c =
    let now = g.D.Device.now in
    let old = c.args.device in
    let front = take c.args.right (now old).kept in
    weaker now g.D.Device.past old c.cut.new.self (IsCutting (now old) c.args.right) (Keeps front)
    (λ file cutting. crash-keeps front file cutting.kept) c.cut.ensures.moments
