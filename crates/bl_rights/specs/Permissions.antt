-- What a right permits, as a run begins.
use Rattle.std.specs.Prelude.{◌≡◌, ℕ, Bool, true, false, not, is_none, Option, Some, None, if◌then◌else◌}
use Rattle.bl_level.specs.Level.{SecurityLevel, Dominates}
use Rattle.bl_policy.specs.declared.access.Access.{Access}
use Rattle.bl_policy.specs.declared.access.Mode.{Mode}
use Rattle.bl_policy.specs.declared.access.Mode.TheVariants.{Read, Append, Write}
use Rattle.bl_policy.specs.Policy.{SecurityPolicy, lowest}
use Rattle.bl_explain.specs.declared.grounds.Grounds.{Grounds}
use Rattle.bl_explain.specs.declared.range.LevelRange.{LevelRange}
use Rattle.bl_explain.specs.Grounds.{grounds_of}
use Rattle.bl_explain.specs.Ranges.{range_on}
use Rattle.bl_explain.specs.Tests.{fails_first, in_order, is_exempt, tests_on}
use Rattle.bl_rights.specs.declared.permission.Permission.{Permission}
use Rattle.bl_rights.specs.declared.permission.Permission.TheVariants.{NoRight, Now, Exempt, Never, From, At, UpTo}

-- what decides an access as a run begins: nothing is carried, and the document is taken as there, as a reserved one is once it was created
abbrev pub first_grounds : SecurityPolicy → ℕ → Access → Grounds
first_grounds p s access = record (grounds_of p s lowest access) { present = true }

-- whether an access is granted on these grounds: it fails no test
abbrev pub is_granted_on : Grounds → Mode → Bool
is_granted_on g m = is_none (fails_first (in_order (tests_on g m)))

-- own choice, as star has it (Bell and La Padula 1976): a read is granted from a level on, an append up to one, and a write at one
abbrev pub levels_where : Mode → Option LevelRange → Permission
levels_where m None = Never
levels_where Read (Some range) = From range.lowest
levels_where Append (Some range) = UpTo range.highest
levels_where Write (Some range) = At range.lowest

-- a right that is there permits an access now, by exemption or without, or else at the current levels of its range
abbrev pub permission_on : Grounds → Mode → Permission
permission_on g m =
    if not g.allowed then NoRight
    else (if is_exempt g m then Exempt else (if is_granted_on g m then Now else levels_where m (range_on g m)))

-- what the right to an access permits to subject s, as a run begins
abbrev pub permission_of : SecurityPolicy → ℕ → Access → Permission
permission_of p s access = permission_on (first_grounds p s access) access.mode

-- whether something is permitted now
abbrev pub is_permitted_now : Permission → Bool
is_permitted_now NoRight = false
is_permitted_now Now = true
is_permitted_now Exempt = true
is_permitted_now Never = false
is_permitted_now (From level) = false
is_permitted_now (At level) = false
is_permitted_now (UpTo level) = false

-- at which current levels, up to the greatest, something would be permitted that is not permitted now
abbrev pub IsPermittedAt : Permission → SecurityLevel → Type 0
IsPermittedAt NoRight current = ⊥
IsPermittedAt Now current = ⊥
IsPermittedAt Exempt current = ⊥
IsPermittedAt Never current = ⊥
IsPermittedAt (From level) current = Dominates current level
IsPermittedAt (At level) current = current ≡ level
IsPermittedAt (UpTo level) current = Dominates level current

-- whether a right can be used, now or at some current level
abbrev pub can_be_used : Permission → Bool
can_be_used NoRight = false
can_be_used Now = true
can_be_used Exempt = true
can_be_used Never = false
can_be_used (From level) = true
can_be_used (At level) = true
can_be_used (UpTo level) = true
