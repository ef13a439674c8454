-- What a pass has in hand of many entries at once.
use Rattle.std.specs.Prelude.{◌≡◌, ℕ, ◌+◌, ◌<◌, ◌≤◌, ◌==◌, All, List, [], ◌∷◌, ◌++◌, map, reverse}
use Rattle.std.specs.Prelude.{Result, Ok, Err, vec_len}
use Rattle.std.specs.Vec.{vec_capacity}
use Rattle.bl_eval.specs.Loan.{Loan}
use Rattle.bl_gate.specs.Counts.{one_if}
use Rattle.bl_gate.specs.Gates.{PassView, Follows, HasLoanInHand}
use Rattle.bl_worker.specs.Hands.{SettlesBut}
use Rattle.bl_worker.specs.declared.batch.Batch.{Batch}
use Rattle.bl_worker.specs.declared.turn.Begun.{Begun}
use Rattle.bl_worker.specs.declared.turn.Begun.TheVariants.{Over, Runs}
use Rattle.bl_worker.specs.declared.turn.Turn.{Turn}
use Rattle.bl_worker.specs.declared.turn.Turn.TheVariants.{Idle, Missed, Denied, Done, Lost}

-- the loan of what was run, or could not be
abbrev pub loan_of : Result Loan Loan → Loan
loan_of (Ok done) = done
loan_of (Err unrun) = unrun

-- what a batch has in hand: the loans of what runs, and of what was run, the last one first
abbrev pub loans_in : Batch → List Loan
loans_in batch = batch.lents.items ++ reverse (map loan_of batch.ran.items)

-- all that is in hand was run
abbrev pub AllRan : Batch → Type 0
AllRan batch = batch.lents.items ≡ []

-- nothing that is in hand was run
abbrev pub NoneRan : Batch → Type 0
NoneRan batch = batch.ran.items ≡ []

-- nothing is in hand
abbrev pub IsIdle : Batch → Type 0
IsIdle batch = (batch.lents.items ≡ []) × (batch.ran.items ≡ [])

-- there is room for as many entries as may be in hand, and no more are
pub record HasRoom (batch : Batch) : Type 0 where
  pub some : 0 < batch.most
  pub few : vec_len batch.lents + vec_len batch.ran ≤ batch.most
  pub lents : batch.most ≤ vec_capacity batch.lents
  pub ran : batch.most ≤ vec_capacity batch.ran

-- what was lent to an entry that was begun
abbrev pub lent_by : Begun → List Loan
lent_by (Over turn) = []
lent_by (Runs lent) = lent ∷ []

-- how many of these were lent to the entry
abbrev pub times_lent : ℕ → List Loan → ℕ
times_lent n [] = 0
times_lent n (loan ∷ loans) = one_if (loan.entry == n) + times_lent n loans

-- The same pass later: these loans are in its hand, no two of one entry, and all else that it has started since then
-- has ended.
pub record IsBatch (before after : PassView) (loans : List Loan) : Type 0 where
  pub follows : Follows before after
  pub held : All (HasLoanInHand after) loans
  pub apart : (n : ℕ) → times_lent n loans ≤ 1
  pub settles : SettlesBut (λ n. 1 ≤ times_lent n loans) before after

-- the turn has ended no entry
abbrev pub IsNoEnd : Turn → Type 0
IsNoEnd Idle = Unit {0}
IsNoEnd (Missed n) = Unit {0}
IsNoEnd (Denied n) = ⊥
IsNoEnd (Done n) = ⊥
IsNoEnd (Lost n) = ⊥

abbrev pub EndsNone : Begun → Type 0
EndsNone (Over turn) = IsNoEnd turn
EndsNone (Runs lent) = Unit {0}
