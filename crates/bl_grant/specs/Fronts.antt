-- Where a lent content is the front of what it has become.
use Rattle.std.specs.Prelude.{ℕ, ◌≤◌, List, length}
use Rattle.bl_work.specs.Content.{most_bytes}

-- the content has so many bytes, which an addition to it leaves
pub record HasFront (front : ℕ) (content : List ℕ) : Type 0 where
  pub within : front ≤ length content
  pub short : front ≤ most_bytes
