-- Which access each statement needs, and what a mode lets a body do.
use Rattle.std.specs.Prelude.{ℕ, Bool, true, false, ◌&&◌, ◌==◌, List, IsTrue}
use Rattle.std.specs.List.{list_any}
use Rattle.bl_policy.specs.declared.access.Access.{Access}
use Rattle.bl_policy.specs.declared.access.Mode.{Mode}
use Rattle.bl_policy.specs.declared.access.Mode.TheVariants.{Read, Append, Write}
use Rattle.bl_policy.specs.Mode.{is_exclusive}
use Rattle.bl_work.specs.Statements.{Statements, Nothing, Show, Say, Add, Set, Copy, Pour, If, Spawn}

-- Bell and La Padula 1976: read observes and does not alter, append alters and does not observe, write does both
abbrev pub observes : Mode → Bool
observes Read = true
observes Append = false
observes Write = true

-- what alters is what is held exclusively
abbrev pub alters : Mode → Bool
alters = is_exclusive

abbrev pub is_write : Mode → Bool
is_write Read = false
is_write Append = false
is_write Write = true

-- the accesses declare the document in a mode that passes the test
abbrev pub declares : (Mode → Bool) → List Access → ℕ → Bool
declares test accesses doc = list_any (λ (a : Access). (a.doc == doc) && test a.mode) accesses

-- Each statement keeps to the declared accesses: what it looks at is declared read or write, what it adds to append or
-- write, and what it replaces write. A spawned behaviour has its own accesses.
abbrev pub KeepsModes : List Access → Statements → Type 0
KeepsModes accesses Nothing = Unit {0}
KeepsModes accesses (Show doc rest) = IsTrue (declares observes accesses doc) × KeepsModes accesses rest
KeepsModes accesses (Say text rest) = KeepsModes accesses rest
KeepsModes accesses (Add doc text rest) = IsTrue (declares alters accesses doc) × KeepsModes accesses rest
KeepsModes accesses (Set doc text rest) = IsTrue (declares is_write accesses doc) × KeepsModes accesses rest
KeepsModes accesses (Copy from to rest) =
    IsTrue (declares observes accesses from) × IsTrue (declares is_write accesses to) × KeepsModes accesses rest
KeepsModes accesses (Pour from to rest) =
    IsTrue (declares observes accesses from) × IsTrue (declares alters accesses to) × KeepsModes accesses rest
KeepsModes accesses (If doc asks text then_body else_body rest) =
    IsTrue (declares observes accesses doc) × KeepsModes accesses then_body × KeepsModes accesses else_body × KeepsModes accesses rest
KeepsModes accesses (Spawn behaviour rest) = KeepsModes accesses rest
