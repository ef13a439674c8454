-- What was lent to a behaviour, and what comes back of it.
use Rattle.std.specs.Prelude.{◌≡◌, ℕ, if◌then◌else◌, ◌==◌, List, [], ◌∷◌, length, slice_index_or}
use Rattle.bl_policy.specs.declared.access.Access.{Access}
use Rattle.bl_work.specs.Statements.{Part, no_part}
use Rattle.bl_work.specs.Effects.{Effect, effects_of, after}
use Rattle.bl_grant.specs.Loaned.{Loaned, Back}
use Rattle.bl_grant.specs.Loans.{loans, lent_of}

-- what was lent: to which entry, for which behaviour of which script, and the contents of its documents in declared order
pub record Loan : Type 0 where
  pub entry : ℕ
  pub script : List Part
  pub index : ℕ
  pub inputs : List (List ℕ)

-- the behaviour
abbrev pub part_of : Loan → Part
part_of l = slice_index_or l.script l.index no_part

-- the content that was lent of a document, by the accesses
abbrev pub input_at : List Access → List (List ℕ) → ℕ → List ℕ
input_at [] contents doc = []
input_at (access ∷ accesses) [] doc = []
input_at (access ∷ accesses) (content ∷ contents) doc = if access.doc == doc then content else input_at accesses contents doc

-- what the behaviour does on what was lent
abbrev pub effects_on : Loan → List Effect
effects_on l = effects_of (input_at (part_of l).accesses l.inputs) (part_of l).body

-- what comes back: each content after the effects
abbrev pub backs : ℕ → List Access → List (List ℕ) → List Effect → List Back
backs entry [] contents effects = []
backs entry (access ∷ accesses) [] effects = []
backs entry (access ∷ accesses) (content ∷ contents) effects =
    record { entry = entry; access = access; content = after content effects access.doc } ∷ backs entry accesses contents effects

-- the grants are one for each access, in order, lent to the entry and unchanged
pub record AreFor (entry : ℕ) (accesses : List Access) (grants : List Loaned) : Type 0 where
  pub each : length grants ≡ length accesses
  pub lent : grants ≡ loans entry accesses (lent_of grants)
