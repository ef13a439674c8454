-- At which current levels an access is granted.
use Rattle.std.specs.Prelude.{◌&&◌, Bool, Option, Some, None, bit_and, min, if◌then◌else◌}
use Rattle.bl_level.specs.Level.{SecurityLevel, Dominates}
use Rattle.bl_policy.specs.declared.access.Mode.{Mode}
use Rattle.bl_policy.specs.declared.access.Mode.TheVariants.{Read, Append, Write}
use Rattle.bl_policy.specs.Policy.{lowest}
use Rattle.bl_explain.specs.declared.grounds.Grounds.{Grounds}
use Rattle.bl_explain.specs.declared.range.LevelRange.{LevelRange}
use Rattle.bl_explain.specs.declared.tests.Tests.{Tests}
use Rattle.bl_explain.specs.Tests.{tests_on}

-- the greatest level that both dominate (Denning 1976, the lattice of levels): the lower rank, and the categories of both
abbrev pub meet_of : SecurityLevel → SecurityLevel → SecurityLevel
meet_of a b = record { rank = min a.rank b.rank; categories = bit_and a.categories b.categories }

-- Where the simple-security property holds, an untrusted subject has the star property at the current levels from one to another
-- (Bell and La Padula 1976, the star property): it reads from the document's level up to its greatest, appends up to what that and its
-- greatest both dominate, and writes at the document's level alone.
abbrev pub star_range : SecurityLevel → SecurityLevel → Mode → LevelRange
star_range greatest level Read = record { lowest = level; highest = greatest }
star_range greatest level Append = record { lowest = lowest; highest = meet_of greatest level }
star_range greatest level Write = record { lowest = level; highest = level }

-- the star property does not bind a trusted subject at any level up to its greatest
abbrev pub levels_on : Grounds → Mode → LevelRange
levels_on g m = if g.trusted then record { lowest = lowest; highest = g.greatest } else star_range g.greatest g.level m

-- the answers that no current level changes are yes
abbrev pub hold_at_any_level : Tests → Bool
hold_at_any_level t = t.present && (t.simple && (t.discretionary && t.carry))

-- the current levels at which the access is granted, if there is one
abbrev pub range_on : Grounds → Mode → Option LevelRange
range_on g m = if hold_at_any_level (tests_on g m) then Some (levels_on g m) else None

-- a level is in the range where it dominates the lowest of it, and the highest of it dominates the level
abbrev pub IsInRange : Option LevelRange → SecurityLevel → Type 0
IsInRange None level = ⊥
IsInRange (Some range) level = Dominates level range.lowest × Dominates range.highest level
