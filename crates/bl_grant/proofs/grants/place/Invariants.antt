use Rattle.std.proofs.Common.{◌≢◌, ℕ, ◌<◌, get_or}
use Rattle.std.specs.Prelude.{map}
use Rattle.bl_grant.specs.Loaned.{no_loan}
use Rattle.bl_grant.specs.Granted.{loaned_of}
use Rattle.bl_grant.proofs.grants.place.Given as goal

-- no grant so far is of the document
abbrev pub invariant-loop-place : goal.invariant-loop-place
invariant-loop-place l = (k : ℕ) → k < l.place → (get_or (map loaned_of l.grants) k no_loan).access.doc ≢ l.doc
