use Rattle.std.proofs.Common.{rules, sym, ◌∙◌, arith}
use Rattle.bl_setup.specs.Grammar.{counted}
use Rattle.bl_setup.specs.Taking.{Stops}
use Rattle.bl_declare.proofs.Parts.{exits}
use Rattle.bl_setup.proofs.FileLemmas.{remain_of}
use Rattle.bl_setup.proofs.TakingLemmas.{stopped_first, stopped_memory, stopped_refuses, stops_behind}
use Rattle.bl_setup.proofs.reader.read_setup_within.Goals as goal

pub returns-in_err-scheme-clause-first : goal.returns-in_err-scheme-clause-first
returns-in_err-scheme-clause-first c =
    exits _ _ _ _ c.from_residual.ensures.1 (stopped_first (counted c.args.most) c.args.bytes.now _ (omega arith) c.in_err-scheme.ensures.fault)

pub returns-in_err-scheme-clause-memory : goal.returns-in_err-scheme-clause-memory
returns-in_err-scheme-clause-memory c =
    exits _ _ _ _ c.from_residual.ensures.1 (stopped_memory c.args.most c.args.bytes.now _ (omega arith) c.in_err-scheme.ensures.fault)

pub returns-in_err-scheme-clause-fault : goal.returns-in_err-scheme-clause-fault
returns-in_err-scheme-clause-fault c =
    exits _ _ _ _ c.from_residual.ensures.1 (stopped_refuses (counted c.args.most) c.args.bytes.now _ (stopped_first (counted c.args.most) c.args.bytes.now _ (omega arith) c.in_err-scheme.ensures.fault))

pub returns-in_err-read_into-clause-first : goal.returns-in_err-read_into-clause-first
returns-in_err-read_into-clause-first c =
    exits _ _ _ _ c.from_residual-in_err-read_into.ensures.1
    (stopped_first (counted c.args.most) c.args.bytes.now _ (omega arith)
    (stops_behind (Stops c.in_err-read_into.field-0.0.kind) _ _ _ _ _ _ _ c.in_ok-scheme.ensures.leads (rw c.in-Ok.ensures.value at c.in_err-read_into.ensures.fault)))

pub returns-in_err-read_into-clause-memory : goal.returns-in_err-read_into-clause-memory
returns-in_err-read_into-clause-memory c =
    exits _ _ _ _ c.from_residual-in_err-read_into.ensures.1
    (stopped_memory c.args.most c.args.bytes.now _ (omega arith)
    (stops_behind (Stops c.in_err-read_into.field-0.0.kind) _ _ _ _ _ _ _ c.in_ok-scheme.ensures.leads (rw c.in-Ok.ensures.value at c.in_err-read_into.ensures.fault)))

pub returns-in_err-read_into-clause-fault : goal.returns-in_err-read_into-clause-fault
returns-in_err-read_into-clause-fault c =
    exits _ _ _ _ c.from_residual-in_err-read_into.ensures.1
    (stopped_refuses (counted c.args.most) c.args.bytes.now _ (stopped_first (counted c.args.most) c.args.bytes.now _ (omega arith)
    (stops_behind (Stops c.in_err-read_into.field-0.0.kind) _ _ _ _ _ _ _ c.in_ok-scheme.ensures.leads (rw c.in-Ok.ensures.value at c.in_err-read_into.ensures.fault))))

pub returns-clause-only : goal.returns-clause-only
returns-clause-only c = λ other s.
    c.in_ok-read_into.ensures.only other (rw c.in-Ok.ensures.value (remain_of c.args.most c.args.bytes.now _ _ other c.in_ok-scheme.ensures.ok s)) ∙ sym c.of.ensures

pub returns-in-Err-clause-memory : goal.returns-in-Err-clause-memory
returns-in-Err-clause-memory c = search rules
