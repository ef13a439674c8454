-- The policy without the trust of one subject.
use Rattle.std.specs.Prelude.{ℕ, false, slice_set}
use Rattle.bl_policy.specs.Policy.{SecurityPolicy, clearance_of}

-- the policy in which this subject is not trusted
abbrev pub without_trust : SecurityPolicy → ℕ → SecurityPolicy
without_trust p s = record p { subjects = slice_set p.subjects s (record (clearance_of p s) { trusted = false }) }
