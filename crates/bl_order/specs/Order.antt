-- The admission order: what enters it, and which of its entries may not run together.
use Rattle.std.specs.Prelude.{ℕ, Bool, true, false, ◌&&◌, ◌||◌, ◌==◌, List, [], ◌∷◌, map, slice_index_or}
use Rattle.std.specs.List.{list_any}
use Rattle.bl_policy.specs.declared.access.Access.{Access}
use Rattle.bl_policy.specs.declared.rule.Rule.{Rule}
use Rattle.bl_work.specs.Statements.{Statements, Part, Nothing, no_part}
use Rattle.bl_work.specs.Modes.{alters}
use Rattle.bl_work.specs.declared.work.Work.{Work}

-- AdmissionOrder (Cheeseman et al. 2023: of two behaviours that share a cown the one spawned earlier runs first; own choice: a
-- child enters at its parent's end): an entry is a line of a session, or the which-th child of an earlier place, counted from 1.
-- A place is a position in the order, from 0.
pub data Entry : Type 0 where
  Line : (session ordinal subject : ℕ) → (work : Work) → Entry
  Child : (parent which : ℕ) → Entry

-- the entry without its session and its ordinal, which stand as 0
abbrev pub unnamed : Entry → Entry
unnamed (Line session ordinal subject work) = Line 0 0 subject work
unnamed (Child parent which) = Child parent which

-- Body of a place: what it does, which is to run a behaviour of a script, or to apply a rule to the policy
pub data Task : Type 0 where
  Runs : (script : List Part) → (index : ℕ) → Task
  Applies : (rule : Rule) → Task

-- the accesses that a task declares: a rule declares none
abbrev pub accesses_of : Task → List Access
accesses_of (Runs script index) = (slice_index_or script index no_part).accesses
accesses_of (Applies rule) = []

-- the statements that a task runs: a rule runs none
abbrev pub body_of : Task → Statements
body_of (Runs script index) = (slice_index_or script index no_part).body
body_of (Applies rule) = Nothing

-- whether a task is a rule: it may change the policy, which a behaviour never does
abbrev pub is_rule : Task → Bool
is_rule (Runs script index) = false
is_rule (Applies rule) = true

-- Cheeseman et al. 2023: what behaviours hold while they run. Own choice: the policy is a cown too.
pub data Cown : Type 0 where
  OfPolicy : Cown
  OfDocument : (doc : ℕ) → Cown

abbrev pub same_cown : Cown → Cown → Bool
same_cown OfPolicy OfPolicy = true
same_cown OfPolicy (OfDocument doc) = false
same_cown (OfDocument doc) OfPolicy = false
same_cown (OfDocument doc) (OfDocument other) = doc == other

-- a cown that a place holds, shared or exclusively
pub record Claim : Type 0 where
  pub cown : Cown
  pub exclusive : Bool

-- own choice: a document is claimed exclusively for append and write, and shared for read
abbrev pub document_claims : List Access → List Claim
document_claims accesses = map (λ (a : Access). record { cown = OfDocument a.doc; exclusive = alters a.mode }) accesses

-- own choice: a behaviour has the policy shared, and a rule has it exclusively
abbrev pub claims_of : Task → List Claim
claims_of (Runs script index) = record { cown = OfPolicy; exclusive = false } ∷ document_claims (accesses_of (Runs script index))
claims_of (Applies rule) = record { cown = OfPolicy; exclusive = true } ∷ []

-- two claims are of the same cown, which one of them has exclusively
abbrev pub excludes : Claim → Claim → Bool
excludes a b = same_cown a.cown b.cown && (a.exclusive || b.exclusive)

-- Conflict: two tasks share a cown that one of them has exclusively
abbrev pub conflict : Task → Task → Bool
conflict earlier later = list_any (λ a. list_any (λ b. excludes a b) (claims_of later)) (claims_of earlier)

-- the document is declared in some mode
abbrev pub is_declared : List Access → ℕ → Bool
is_declared accesses doc = list_any (λ (a : Access). a.doc == doc) accesses

-- the document is declared append or write
abbrev pub is_altered : List Access → ℕ → Bool
is_altered accesses doc = list_any (λ (a : Access). (a.doc == doc) && alters a.mode) accesses
