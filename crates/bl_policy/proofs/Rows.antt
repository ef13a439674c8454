-- Small policies whose words compute.
use Rattle.std.proofs.Common.{◌≡◌, false, refl, [], ◌∷◌}
use Rattle.std.specs.Prelude.{None}
use Rattle.bl_policy.specs.declared.access.Mode.TheVariants.{Read, Append, Write}
use Rattle.bl_policy.specs.Matrix.{no_triple, triple, put_in, take_out}
use Rattle.bl_policy.specs.Policy.{SecurityPolicy, lowest, with_modes, no_policy, with_subject, with_document}
use Rattle.bl_policy.specs.FirstFault.{first_fault, denied}
use Rattle.bl_policy.specs.declared.denial.Clause.TheVariants as failing

-- one subject of two levels, one document at the current one, and the modes read and write
base : SecurityPolicy
base = with_modes (with_modes (with_document (with_subject no_policy (record { greatest = record { rank = 3; categories = 3 }; current = record { rank = 2; categories = 1 }; trusted = false; admin = false })) (record { rank = 2; categories = 1 })) 0 0 (record { 0 = 5 })) 0 0 (record { 0 = 1 })

-- both modes are allowed
allowed : first_fault base 0 lowest (record { mode = Read; doc = 0 } ∷ record { mode = Write; doc = 0 } ∷ []) ≡ None
unfolding base
allowed = refl

-- the second access is not, since its mode is missing
refused : first_fault base 0 lowest (record { mode = Read; doc = 0 } ∷ record { mode = Append; doc = 0 } ∷ []) ≡ denied failing.Discretionary 0 0
unfolding base
refused = refl

-- a set does not know in which order its triples were put in
order_is_free : put_in (put_in no_triple (triple 1 2 Write)) (triple 0 5 Read) ≡ put_in (put_in no_triple (triple 0 5 Read)) (triple 1 2 Write)
order_is_free = refl

-- what is taken out is as if it was never put in
out_again : take_out (put_in (put_in no_triple (triple 1 2 Write)) (triple 1 2 Read)) (triple 1 2 Write) ≡ put_in no_triple (triple 1 2 Read)
out_again = refl
