-- What one grant is, and what comes back of it.
use Rattle.std.specs.Prelude.{◌≡◌, ℕ, List, [], ◌∷◌, ◌++◌}
use Rattle.bl_policy.specs.declared.access.Access.{Access}
use Rattle.bl_policy.specs.declared.access.Mode.TheVariants.{Read}

-- one grant: the entry and the access that it is for, the content that was lent, and what the content is now
pub record Loaned : Type 0 where
  pub entry : ℕ
  pub access : Access
  pub lent : List ℕ
  pub now : List ℕ

-- what comes back of a grant
pub record Back : Type 0 where
  pub entry : ℕ
  pub access : Access
  pub content : List ℕ

-- a grant of this content, as it is lent
abbrev pub loan : ℕ → Access → List ℕ → Loaned
loan entry access content = record { entry = entry; access = access; lent = content; now = content }

-- the grant with its content lent again
abbrev pub as_lent : Loaned → Loaned
as_lent g = loan g.entry g.access g.lent

-- the grant with another content
abbrev pub holding : Loaned → List ℕ → Loaned
holding g content = record { entry = g.entry; access = g.access; lent = g.lent; now = content }

-- what a grant gives back when it is closed: the content as it is now
abbrev pub back_of : Loaned → Back
back_of g = record { entry = g.entry; access = g.access; content = g.now }

-- what stands where there is no grant
abbrev pub no_loan : Loaned
no_loan = loan 0 (record { mode = Read; doc = 0 }) []

-- the last of the grants was closed, and this came back of it
pub record HasClosed (before after : List Loaned) (back : Back) : Type 0 where
  pub grant : Loaned
  pub last : before ≡ after ++ grant ∷ []
  pub gives : back ≡ back_of grant
