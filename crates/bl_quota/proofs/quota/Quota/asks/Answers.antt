use Rattle.std.proofs.Common.{◌≡◌, ◌<◌, ◌^◌, ◌∙◌, ap, arith}
use Rattle.bl_work.specs.Names.{KnownNames}
use Rattle.bl_sizes.specs.Counts.{in_word}
use Rattle.bl_sizes.specs.Sizes.{full_size, work_size, written_size}
use Rattle.bl_quota.proofs.Asking.{fits, less-all, looked-quota, not-fits, recounted-quota, settled-same}
use Rattle.bl_quota.proofs.Standing.{quota-now}
use Rattle.bl_quota.proofs.quota.Quota.asks.Goals as goal

pub returns-then-has_room-clause-fit : goal.returns-then-has_room-clause-fit
returns-then-has_room-clause-fit c was =
    let x = c.args.core.now in
    let q = c.args.self.now in
    let is = quota-now c.headline.ensures.state c.counts_stay.ensures q x was in
    let more : c.work_size-more.result ≡ in_word (work_size x.setup.names c.args.work.now) =
    c.work_size-more.ensures ∙ ap (λ (names : KnownNames). in_word (work_size names c.args.work.now)) c.names.ensures in
    let small : q.most < 2 ^ 32 = omega (arith, c.has_room.ensures.few, c.look.ensures.limit) in
    let n = c.look.new.self in
    let looked = c.look.ensures.counted is.counted in
    fits q.most n.most (full_size x) n.count (work_size x.setup.names c.args.work.now) c.work_size-more.result small c.look.ensures.limit looked.all more (c.has_room.ensures.room.0 c.if-has_room.true)

pub returns-then-has_room-clause-quota : goal.returns-then-has_room-clause-quota
returns-then-has_room-clause-quota c was =
    let x = c.args.core.now in
    let q = c.args.self.now in
    let is = quota-now c.headline.ensures.state c.counts_stay.ensures q x was in
    let n = c.look.new.self in
    let looked = c.look.ensures.counted is.counted in
    looked-quota q n x is c.look.ensures.kept c.look.ensures.settled looked

pub returns-then-has_room-2-clause-fit : goal.returns-then-has_room-2-clause-fit
returns-then-has_room-2-clause-fit c was =
    let x = c.args.core.now in
    let q = c.args.self.now in
    let is = quota-now c.headline.ensures.state c.counts_stay.ensures q x was in
    let more : c.work_size-more.result ≡ in_word (work_size x.setup.names c.args.work.now) =
    c.work_size-more.ensures ∙ ap (λ (names : KnownNames). in_word (work_size names c.args.work.now)) c.names.ensures in
    let small : q.most < 2 ^ 32 = omega (arith, c.has_room.ensures.few, c.look.ensures.limit) in
    let n = c.recount-written.new.self in
    let re = c.recount-written.ensures.recounted (settled-same q c.look.new.self x is c.look.ensures.kept c.look.ensures.settled) in
    let own : n.most ≡ q.most = c.recount-written.ensures.limit ∙ c.look.ensures.limit in
    fits q.most n.most (full_size x) n.count (work_size x.setup.names c.args.work.now) c.work_size-more.result small own (less-all (full_size x) n.count re.full) more (c.has_room-2.ensures.room.0 c.if-has_room-2.true)

pub returns-then-has_room-2-clause-quota : goal.returns-then-has_room-2-clause-quota
returns-then-has_room-2-clause-quota c was =
    let x = c.args.core.now in
    let q = c.args.self.now in
    let is = quota-now c.headline.ensures.state c.counts_stay.ensures q x was in
    let n = c.recount-written.new.self in
    let re = c.recount-written.ensures.recounted (settled-same q c.look.new.self x is c.look.ensures.kept c.look.ensures.settled) in
    recounted-quota n x c.recount-written.result is.documents re

pub returns-then-has_room-3-clause-fit : goal.returns-then-has_room-3-clause-fit
returns-then-has_room-3-clause-fit c was =
    let x = c.args.core.now in
    let q = c.args.self.now in
    let is = quota-now c.headline.ensures.state c.counts_stay.ensures q x was in
    let more : c.work_size-more.result ≡ in_word (work_size x.setup.names c.args.work.now) =
    c.work_size-more.ensures ∙ ap (λ (names : KnownNames). in_word (work_size names c.args.work.now)) c.names.ensures in
    let small : q.most < 2 ^ 32 = omega (arith, c.has_room.ensures.few, c.look.ensures.limit) in
    let n = c.recount-written.new.self in
    let re = c.recount-written.ensures.recounted (settled-same q c.look.new.self x is c.look.ensures.kept c.look.ensures.settled) in
    let own : n.most ≡ q.most = c.recount-written.ensures.limit ∙ c.look.ensures.limit in (
      not-fits q.most n.most (full_size x) n.count (work_size x.setup.names c.args.work.now) c.work_size-more.result c.has_room-2.result small own re.full more c.has_room-2.ensures.room c.if-has_room-2.false,
      fits q.most n.most (written_size x) c.recount-written.result (work_size x.setup.names c.args.work.now) c.work_size-more.result small own
          (less-all (written_size x) c.recount-written.result re.written) more (c.has_room-else-has_room-2.ensures.room.0 c.if-has_room-3.true),
    )

pub returns-then-has_room-3-clause-quota : goal.returns-then-has_room-3-clause-quota
returns-then-has_room-3-clause-quota c was =
    let x = c.args.core.now in
    let q = c.args.self.now in
    let is = quota-now c.headline.ensures.state c.counts_stay.ensures q x was in
    let n = c.recount-written.new.self in
    let re = c.recount-written.ensures.recounted (settled-same q c.look.new.self x is c.look.ensures.kept c.look.ensures.settled) in
    recounted-quota n x c.recount-written.result is.documents re

pub returns-else-has_room-3-clause-fit : goal.returns-else-has_room-3-clause-fit
returns-else-has_room-3-clause-fit c was =
    let x = c.args.core.now in
    let q = c.args.self.now in
    let is = quota-now c.headline.ensures.state c.counts_stay.ensures q x was in
    let more : c.work_size-more.result ≡ in_word (work_size x.setup.names c.args.work.now) =
    c.work_size-more.ensures ∙ ap (λ (names : KnownNames). in_word (work_size names c.args.work.now)) c.names.ensures in
    let small : q.most < 2 ^ 32 = omega (arith, c.has_room.ensures.few, c.look.ensures.limit) in
    let n = c.recount-written.new.self in
    let re = c.recount-written.ensures.recounted (settled-same q c.look.new.self x is c.look.ensures.kept c.look.ensures.settled) in
    let own : n.most ≡ q.most = c.recount-written.ensures.limit ∙ c.look.ensures.limit in
    not-fits q.most n.most (written_size x) c.recount-written.result (work_size x.setup.names c.args.work.now) c.work_size-more.result c.has_room-else-has_room-2.result small own re.written more c.has_room-else-has_room-2.ensures.room
    c.if-has_room-3.false

pub returns-else-has_room-3-clause-quota : goal.returns-else-has_room-3-clause-quota
returns-else-has_room-3-clause-quota c was =
    let x = c.args.core.now in
    let q = c.args.self.now in
    let is = quota-now c.headline.ensures.state c.counts_stay.ensures q x was in
    let n = c.recount-written.new.self in
    let re = c.recount-written.ensures.recounted (settled-same q c.look.new.self x is c.look.ensures.kept c.look.ensures.settled) in
    recounted-quota n x c.recount-written.result is.documents re
