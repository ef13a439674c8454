use Rattle.std.proofs.Common.{◌≡◌, ◌<◌, ◌^◌, arith}
use Rattle.bl_sizes.specs.Sizes.{written_size}
use Rattle.bl_quota.proofs.Asking.{full-is, recounted-quota}
use Rattle.bl_quota.proofs.Standing.{quota-now}
use Rattle.bl_quota.proofs.quota.Quota.is_full.Goals as goal

pub returns-clause-full : goal.returns-clause-full
returns-clause-full c was =
    let x = c.args.core.now in
    let q = c.args.self.now in
    let is = quota-now c.headline.ensures.state c.counts_stay.ensures q x was in
    let n = c.recount-written.new.self in
    let re = c.recount-written.ensures.recounted is.settled in
    let small : q.most < 2 ^ 32 = omega (arith, c.has_room.ensures.few, c.recount-written.ensures.limit) in
    full-is q.most n.most (written_size x) c.recount-written.result 128 c.has_room.result small c.recount-written.ensures.limit re.written c.has_room.ensures.room

pub returns-clause-quota : goal.returns-clause-quota
returns-clause-quota c was =
    let x = c.args.core.now in
    let q = c.args.self.now in
    let is = quota-now c.headline.ensures.state c.counts_stay.ensures q x was in
    let n = c.recount-written.new.self in
    recounted-quota n x c.recount-written.result is.documents (c.recount-written.ensures.recounted is.settled)
