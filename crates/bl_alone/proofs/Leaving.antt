-- What is left of a trail.
use Rattle.std.proofs.Common.{ap}
use Rattle.bl_audit.specs.Bookmarks.{HasGrown}
use Rattle.bl_hall.specs.Chronicle.{Chronicle}
use Rattle.bl_session.specs.Keeping.{IsFrontOf}

-- the hall has grown from each front of it
pub grown_of : (before after : Chronicle) → IsFrontOf before after → HasGrown before after
grown_of before after front = record {
  setup = ap (λ (h : Chronicle). h.setup) front.1;
  limit = ap (λ (h : Chronicle). h.limit) front.1;
  more = front.0;
  trail = ap (λ (h : Chronicle). h.trail) front.1;
}
