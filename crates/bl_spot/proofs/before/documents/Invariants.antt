use Rattle.std.proofs.Common.{◌≡◌, take}
use Rattle.bl_spot.proofs.before.documents.Given as goal

-- the names so far
abbrev pub invariant-loop-place : goal.invariant-loop-place
invariant-loop-place l = l.listed.items ≡ take l.place l.names.documents
