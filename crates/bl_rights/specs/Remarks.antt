-- What is worth seeing in a setup, and is no fault.
use Rattle.std.specs.Prelude.{ℕ, ◌&&◌, ◌||◌, Bool, true, not, is_none, is_some, find, Option, Some, None}
use Rattle.std.specs.List.{list_any}
use Rattle.bl_level.specs.Level.{SecurityLevel, dominates}
use Rattle.bl_policy.specs.declared.access.Mode.{Mode}
use Rattle.bl_policy.specs.declared.access.Mode.TheVariants.{Read, Append, Write}
use Rattle.bl_policy.specs.Policy.{SecurityPolicy, is_admin, level_of}
use Rattle.bl_rights.specs.Permissions.{can_be_used, permission_of}
use Rattle.bl_rights.specs.Rows.{documents_in, has_right, subjects_in}

-- whether subject s may use document o in a mode, now or at some current level
abbrev pub can_use : SecurityPolicy → ℕ → ℕ → Mode → Bool
can_use p s o m = can_be_used (permission_of p s (record { mode = m; doc = o }))

-- it may look at a document that it may read or write, and alter one that it may append to or write (Bell and La Padula 1976, access
-- attributes)
abbrev pub can_look : SecurityPolicy → ℕ → ℕ → Bool
can_look p s o = can_use p s o Read || can_use p s o Write

abbrev pub can_alter : SecurityPolicy → ℕ → ℕ → Bool
can_alter p s o = can_use p s o Append || can_use p s o Write

-- own choice: these remarks. A document is unread where nobody may look at it
abbrev pub is_unread : SecurityPolicy → ℕ → Bool
is_unread p o = is_none (find (λ s. can_look p s o) (subjects_in p))

-- a subject is idle that has no right
abbrev pub is_idle : SecurityPolicy → ℕ → Bool
is_idle p s = is_none (find (λ o. has_right p s o) (documents_in p))

-- somebody administers
abbrev pub has_admin : SecurityPolicy → Bool
has_admin p = is_some (find (λ s. is_admin p s) (subjects_in p))

-- subject s may alter document o, whose level does not dominate this one
abbrev pub alters_below : SecurityPolicy → ℕ → SecurityLevel → ℕ → Bool
alters_below p s level o = can_alter p s o && not (dominates (level_of p o) level)

-- it may look at one document, and alter another one whose level does not dominate that of the first
abbrev pub leads_down : SecurityPolicy → ℕ → ℕ → Bool
leads_down p s from = can_look p s from && list_any (λ o. alters_below p s (level_of p from) o) (documents_in p)

-- the first such document, and the first that may be altered then
abbrev pub way_down : SecurityPolicy → ℕ → Option ℕ
way_down p s = find (λ from. leads_down p s from) (documents_in p)

abbrev pub way_end : SecurityPolicy → ℕ → ℕ → Option ℕ
way_end p s from = find (λ o. alters_below p s (level_of p from) o) (documents_in p)

-- a lowest level dominates this one, or there is none
abbrev pub is_above : Option SecurityLevel → SecurityLevel → Bool
is_above None level = true
is_above (Some low) level = dominates low level
