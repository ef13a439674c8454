-- What the calls of a core answer.
use Rattle.std.specs.Prelude.{◌≡◌, ℕ, ◌+◌, ◌<◌, ◌≤◌, IsTrue, List, [], map, length, sum_by}
use Rattle.bl_policy.specs.declared.access.Access.{Access}
use Rattle.bl_work.specs.Readable.{IsReadable}
use Rattle.bl_work.specs.Statements.{Part}
use Rattle.bl_work.specs.declared.answer.Answer.TheVariants as answers
use Rattle.bl_work.specs.declared.work.Work.{Work}
use Rattle.bl_order.specs.Order.{Task, Runs, Applies, accesses_of}
use Rattle.bl_order.specs.Past.{is_done}
use Rattle.bl_order.specs.Machine.{State, past_at, runs, session_at, entry_weight, weight_of, most_sessions}
use Rattle.bl_order.specs.Now.{content_at}
use Rattle.bl_grant.specs.Loaned.{Loaned}
use Rattle.bl_grant.specs.Loans.{loans}
use Rattle.bl_eval.specs.Loan.{Loan, part_of}
use Rattle.bl_core.specs.declared.machine.Started.{Started}
use Rattle.bl_core.specs.declared.machine.Started.TheVariants.{Denied, RuleDone, Run}
use Rattle.bl_core.specs.declared.refusal.Cause.{Cause}
use Rattle.bl_core.specs.declared.refusal.Cause.TheVariants as cause
use Rattle.bl_core.specs.declared.refusal.StartFault.{StartFault}
use Rattle.bl_core.specs.declared.refusal.StartFault.TheVariants as start_fault
use Rattle.bl_core.specs.declared.refusal.OpenRefused.{OpenRefused}
use Rattle.bl_core.specs.declared.refusal.OpenRefused.TheVariants as open_refused

abbrev pub script_of : Task → List Part
script_of (Runs script index) = script
script_of (Applies rule) = []

abbrev pub index_of : Task → ℕ
index_of (Runs script index) = index
index_of (Applies rule) = 0

-- what a task is lent at a place, by the contents of documents
abbrev pub loan_of : ℕ → Task → (ℕ → List ℕ) → Loan
loan_of n task contents = record {
  entry = n;
  script = script_of task;
  index = index_of task;
  inputs = map (λ (a : Access). contents a.doc) (accesses_of task);
}

-- what a place is lent: the contents of what it declares, in declared order, each as it is at the place
abbrev pub loan_at : State → ℕ → Loan
loan_at x n = loan_of n (past_at x n).task (λ doc. content_at x doc n)

-- the grants that a place is lent, one for each access that it declares
abbrev pub grants_at : State → ℕ → List Loaned
grants_at x n = let loan = loan_at x n in loans n (part_of loan).accesses loan.inputs

-- this was lent to a running place
abbrev pub IsLentBy : State → Loan → Type 0
IsLentBy x loan = IsTrue (runs x loan.entry) × (loan ≡ loan_at x loan.entry)

-- what a start answers: the denial that the place is answered, that its rule is done, or its behaviour with what it is
-- lent
abbrev pub IsStarted : State → ℕ → Started → Type 0
IsStarted x n (Denied denial) = (past_at x n).answer ≡ answers.Denied denial
IsStarted x n RuleDone = (past_at x n).answer ≡ answers.RuleDone
IsStarted x n (Run lent) = IsTrue (is_done (past_at x n).answer) × (lent ≡ loan_at x n)

-- an entry that was refused memory is this one
abbrev pub IsStarvedBy : ℕ → StartFault → Type 0
IsStarvedBy n start_fault.NotReady = Unit {0}
IsStarvedBy n (start_fault.Memory entry) = entry ≡ n

-- why no session is opened
abbrev pub IsNotOpened : State → ℕ → OpenRefused → Type 0
IsNotOpened x subject open_refused.Stranger = length x.setup.policy.subjects ≤ subject
IsNotOpened x subject open_refused.SessionsFull = (subject < length x.setup.policy.subjects)
    × (most_sessions ≤ length x.sessions)

-- why a line is not admitted: each cause where none of those before it holds
abbrev pub IsCause : State → ℕ → ℕ → Work → Cause → Type 0
IsCause x session ordinal work cause.Stranger = ¬ IsReadable x.setup.names work
IsCause x session ordinal work cause.Session = IsReadable x.setup.names work × (length x.sessions ≤ session)
IsCause x session ordinal work cause.Ordinal =
    IsReadable x.setup.names work × (session < length x.sessions) × (ordinal ≤ (session_at x session).last)
IsCause x session ordinal work cause.Full =
    IsReadable x.setup.names work × (session < length x.sessions) × ((session_at x session).last < ordinal)
    × (x.limit < sum_by entry_weight x.order + weight_of work)
