use Rattle.std.proofs.Common.{subst}
use Rattle.bl_walk.specs.Takes.{IsCut}
use Rattle.bl_walk.proofs.Cuts.{reserved_front}
use Rattle.bl_walk.proofs.unread.past_key.Goals as goal

pub returns : goal.returns
returns c =
    reserved_front c.args.k c.args.bytes.now c.in_ok-rest.rest.now (subst (λ w. IsCut c.args.bytes.now w c.in_ok-rest.rest.now) c.text.ensures c.in_ok-rest.ensures)
