use Rattle.std.proofs.Common.{◌≤◌, ◌<◌, ℕ, [], length, get_or}
use Rattle.bl_work.specs.Content.{most_bytes}
use Rattle.bl_quota.proofs.sizes.documents_hold.Given as goal

-- the contents so far are no longer than a document may be
abbrev pub invariant-loop-content : goal.invariant-loop-content
invariant-loop-content l = (doc : ℕ) → doc < l.content-index → length (get_or l.setup.contents doc []) ≤ most_bytes
