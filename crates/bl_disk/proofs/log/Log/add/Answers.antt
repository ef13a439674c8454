use Rattle.bl_disk.specs.File.{Keeps}
use Rattle.bl_disk.specs.Moments.{IsAdding, IsSyncing}
use Rattle.bl_disk.proofs.Fronts.{crash-keeps, through}
use Rattle.bl_disk.proofs.Passing.{goes-on, weaker}
use Rattle.bl_disk.proofs.log.Log.add.Goals as goal

pub returns-in_err-put-clause-any_moment : goal.returns-in_err-put-clause-any_moment
returns-in_err-put-clause-any_moment g c =
    let now = g.D.Device.now in
    let old = c.args.self.now.device in
    weaker now g.D.Device.past old c.put.new.self.device (IsAdding (now old) c.args.text.now) (Keeps (now old).kept)
    (λ file adding. crash-keeps (now old).kept file adding.kept) c.put.ensures.any_moment

pub returns-clause-any_moment : goal.returns-clause-any_moment
returns-clause-any_moment g c =
    let now = g.D.Device.now in
    let past = g.D.Device.past in
    let old = c.args.self.now.device in
    let mid = c.put.new.self.device in
    let new = c.keep.new.self.device in
    goes-on now past old mid new (Keeps (now old).kept)
    (weaker now past old mid (IsAdding (now old) c.args.text.now) (Keeps (now old).kept)
    (λ file adding. crash-keeps (now old).kept file adding.kept) c.put.ensures.any_moment)
    (weaker now past mid new (IsSyncing (now mid)) (Keeps (now old).kept)
    (λ file kept. crash-keeps (now old).kept file (through (now old).kept (now mid).kept file.kept c.put.ensures.any_moment.last.kept kept)) c.keep.ensures.any_moment)
