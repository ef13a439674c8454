-- What a behaviour is: the accesses that it declares, and its statements.
use Rattle.std.specs.Prelude.{ℕ, List, []}
use Rattle.bl_policy.specs.declared.access.Access.{Access}
use Rattle.bl_work.specs.declared.script.Condition.{Condition}

-- A body: nothing, or a first statement and the rest. Documents go by position, texts are bytes, and a spawn names a
-- behaviour of the same script.
pub data Statements : Type 0 where
  Nothing : Statements
  Show : (doc : ℕ) → (rest : Statements) → Statements
  Say : (text : List ℕ) → (rest : Statements) → Statements
  Add : (doc : ℕ) → (text : List ℕ) → (rest : Statements) → Statements
  Set : (doc : ℕ) → (text : List ℕ) → (rest : Statements) → Statements
  Copy : (from to : ℕ) → (rest : Statements) → Statements
  Pour : (from to : ℕ) → (rest : Statements) → Statements
  If : (doc : ℕ) → (asks : Condition) → (text : List ℕ) → (then_body else_body : Statements) → (rest : Statements) → Statements
  Spawn : (behaviour : ℕ) → (rest : Statements) → Statements

-- one behaviour of a script: what it declares, in order, and what it does
pub record Part : Type 0 where
  pub accesses : List Access
  pub body : Statements

-- what stands where a script has no such behaviour
abbrev pub no_part : Part
no_part = record { accesses = []; body = Nothing }
