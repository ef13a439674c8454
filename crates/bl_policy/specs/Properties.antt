-- The three properties of Bell and La Padula 1976, of a policy, a subject, a document and a mode, one more of what a behaviour carries, and
-- their tests.
use Rattle.std.specs.Prelude.{◌≡◌, ◌⊎◌, ℕ, Bool, true, ◌&&◌, ◌||◌, ◌==◌, IsTrue}
use Rattle.bl_level.specs.Level.{SecurityLevel, dominates, Dominates}
use Rattle.bl_policy.specs.declared.access.Mode.{Mode}
use Rattle.bl_policy.specs.declared.access.Mode.TheVariants.{Read, Append, Write}
use Rattle.bl_policy.specs.Policy.{SecurityPolicy, greatest_of, current_of, level_of, is_present, is_trusted, allows}

-- what is observed is dominated by the greatest level
abbrev pub Observes : SecurityLevel → SecurityLevel → Mode → Type 0
Observes greatest level Read = Dominates greatest level
Observes greatest level Append = Unit {0}
Observes greatest level Write = Dominates greatest level

-- what is observed is dominated by the current level, and what is altered dominates it: so a write needs the same level
abbrev pub Flows : SecurityLevel → SecurityLevel → Mode → Type 0
Flows current level Read = Dominates current level
Flows current level Append = Dominates level current
Flows current level Write = current ≡ level

-- the simple-security property: what is observed is dominated by the greatest level
abbrev pub Simple : SecurityPolicy → ℕ → ℕ → Mode → Type 0
Simple p s o m = Observes (greatest_of p s) (level_of p o) m

-- the star property, from which trusted subjects are exempt
abbrev pub Star : SecurityPolicy → ℕ → ℕ → Mode → Type 0
Star p s o m = IsTrue (is_trusted p s) ⊎ Flows (current_of p s) (level_of p o) m

-- the discretionary property: the triple is in the matrix
abbrev pub Discretionary : SecurityPolicy → ℕ → ℕ → Mode → Type 0
Discretionary p s o m = IsTrue (allows p s o m)

-- own choice, for what a behaviour remembers: what it alters dominates the level that it carries, so that nothing goes below that level;
-- a read alters nothing
abbrev pub MayCarry : SecurityLevel → SecurityLevel → Mode → Type 0
MayCarry carried level Read = Unit {0}
MayCarry carried level Append = Dominates level carried
MayCarry carried level Write = Dominates level carried

-- the carry property, from which trusted subjects are exempt, as from the star property
abbrev pub Carry : SecurityPolicy → ℕ → SecurityLevel → ℕ → Mode → Type 0
Carry p s carried o m = IsTrue (is_trusted p s) ⊎ MayCarry carried (level_of p o) m

-- own choice: only a document that is present is used
abbrev pub IsPresent : SecurityPolicy → ℕ → Type 0
IsPresent p o = IsTrue (is_present p o)

-- the three of Bell and La Padula 1976
pub record IsSecure (p : SecurityPolicy) (s o : ℕ) (m : Mode) : Type 0 where
  pub simple : Simple p s o m
  pub star : Star p s o m
  pub discretionary : Discretionary p s o m

-- the access is granted to who carries this level: its document is present, and it has the three properties and the carry property
pub record IsGranted (p : SecurityPolicy) (s : ℕ) (carried : SecurityLevel) (o : ℕ) (m : Mode) : Type 0 where
  pub present : IsPresent p o
  pub secure : IsSecure p s o m
  pub carry : Carry p s carried o m

-- whether what is observed is dominated by the greatest level
abbrev pub observes : SecurityLevel → SecurityLevel → Mode → Bool
observes greatest level Read = dominates greatest level
observes greatest level Append = true
observes greatest level Write = dominates greatest level

-- whether what is observed is dominated by the current level, and what is altered dominates it
abbrev pub flows : SecurityLevel → SecurityLevel → Mode → Bool
flows current level Read = dominates current level
flows current level Append = dominates level current
flows current level Write = (current.rank == level.rank) && (current.categories == level.categories)

-- the test of the simple-security property
abbrev pub is_simple : SecurityPolicy → ℕ → ℕ → Mode → Bool
is_simple p s o m = observes (greatest_of p s) (level_of p o) m

-- the test of the star property
abbrev pub is_star : SecurityPolicy → ℕ → ℕ → Mode → Bool
is_star p s o m = is_trusted p s || flows (current_of p s) (level_of p o) m

-- the test of the discretionary property
abbrev pub is_discretionary : SecurityPolicy → ℕ → ℕ → Mode → Bool
is_discretionary p s o m = allows p s o m

-- whether what is altered dominates the level that is carried
abbrev pub may_carry : SecurityLevel → SecurityLevel → Mode → Bool
may_carry carried level Read = true
may_carry carried level Append = dominates level carried
may_carry carried level Write = dominates level carried

-- the test of the carry property
abbrev pub is_carry : SecurityPolicy → ℕ → SecurityLevel → ℕ → Mode → Bool
is_carry p s carried o m = is_trusted p s || may_carry carried (level_of p o) m
