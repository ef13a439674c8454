use Rattle.std.proofs.Common.{◌∷◌, map, refl, arith}
use Rattle.std.proofs.lemmas.List.{length-map}
use Rattle.std.proofs.lemmas.List.Elements.{All-head}
use Rattle.std.specs.Prelude.{Contains}
use Rattle.bl_work.specs.declared.asked.LineFault.TheVariants.{Many, Unknown, Twice, Mode}
use Rattle.bl_syntax.specs.RawBodies.{raw_access}
use Rattle.bl_work.specs.WhenFaults.{names_of_when, lists_in, AreFew}
use Rattle.bl_work.specs.FirstWhenFault.{HasFewAccesses}
use Rattle.bl_work.proofs.WhenFaults.{shallow_from, unknown_fault, twice_fault, mode_fault, fault_not_ok, no_fault_ok, unknown_named, twice_named, undeclared_named}
use Rattle.bl_check.proofs.check.check_when.Goals as goal

pub name_of-requires : goal.name_of-requires
name_of-requires c =
    unknown_named (Contains c.args.names.now.documents) (names_of_when (raw_access c.args.first) (map raw_access c.args.more.now) c.args.body.now) c.in-Err.name.now c.requires c.in-Err.ensures

pub returns-in-Err-clause-fault : goal.returns-in-Err-clause-fault
returns-in-Err-clause-fault c =
    unknown_fault c.args.names.now (raw_access c.args.first) (map raw_access c.args.more.now) c.args.body.now c.in-Err.name.now c.name_of.result c.name_of.ensures
    (shallow_from c.args.body.now (c.is_body_shallow.ensures.0 c.if-not-is_body_shallow.false)) (c.in-Some.ensures (raw_access c.args.first)).0 c.in-Err.ensures

pub returns-in-Err-clause-ok : goal.returns-in-Err-clause-ok
returns-in-Err-clause-ok c =
    fault_not_ok c.args.names.now (raw_access c.args.first) (map raw_access c.args.more.now) c.args.body.now (Unknown c.name_of.result)
    (unknown_fault c.args.names.now (raw_access c.args.first) (map raw_access c.args.more.now) c.args.body.now c.in-Err.name.now c.name_of.result c.name_of.ensures
    (shallow_from c.args.body.now (c.is_body_shallow.ensures.0 c.if-not-is_body_shallow.false)) (c.in-Some.ensures (raw_access c.args.first)).0 c.in-Err.ensures)

pub name_of-requires-in-Err-check_when_once : goal.name_of-requires-in-Err-check_when_once
name_of-requires-in-Err-check_when_once c =
    twice_named (raw_access c.args.first) (map raw_access c.args.more.now) c.args.body.now c.requires c.in-Err-check_when_once.name.now c.in-Err-check_when_once.ensures

pub returns-in-Err-check_when_once-clause-fault : goal.returns-in-Err-check_when_once-clause-fault
returns-in-Err-check_when_once-clause-fault c =
    twice_fault c.args.names.now (raw_access c.args.first) (map raw_access c.args.more.now) c.args.body.now c.in-Err-check_when_once.name.now c.name_of-in-Err-check_when_once.result
    c.name_of-in-Err-check_when_once.ensures (shallow_from c.args.body.now (c.is_body_shallow.ensures.0 c.if-not-is_body_shallow.false)) (c.in-Some.ensures (raw_access c.args.first)).0
    c.in-Ok.ensures.0 c.in-Err-check_when_once.ensures

pub returns-in-Err-check_when_once-clause-ok : goal.returns-in-Err-check_when_once-clause-ok
returns-in-Err-check_when_once-clause-ok c =
    fault_not_ok c.args.names.now (raw_access c.args.first) (map raw_access c.args.more.now) c.args.body.now (Twice c.name_of-in-Err-check_when_once.result)
    (twice_fault c.args.names.now (raw_access c.args.first) (map raw_access c.args.more.now) c.args.body.now c.in-Err-check_when_once.name.now c.name_of-in-Err-check_when_once.result
    c.name_of-in-Err-check_when_once.ensures (shallow_from c.args.body.now (c.is_body_shallow.ensures.0 c.if-not-is_body_shallow.false)) (c.in-Some.ensures (raw_access c.args.first)).0
    c.in-Ok.ensures.0 c.in-Err-check_when_once.ensures)

pub name_of-requires-in-Err-check_declared : goal.name_of-requires-in-Err-check_declared
name_of-requires-in-Err-check_declared c =
    undeclared_named (raw_access c.args.first) (map raw_access c.args.more.now) c.args.body.now c.requires c.in-Err-check_declared.name.now c.in-Err-check_declared.ensures

pub returns-in-Err-check_declared-clause-fault : goal.returns-in-Err-check_declared-clause-fault
returns-in-Err-check_declared-clause-fault c =
    mode_fault c.args.names.now (raw_access c.args.first) (map raw_access c.args.more.now) c.args.body.now c.in-Err-check_declared.name.now c.name_of-in-Err-check_declared.result
    c.name_of-in-Err-check_declared.ensures (shallow_from c.args.body.now (c.is_body_shallow.ensures.0 c.if-not-is_body_shallow.false)) (c.in-Some.ensures (raw_access c.args.first)).0
    c.in-Ok.ensures.0 c.in_default-check_when_once.ensures c.in-Err-check_declared.ensures

pub returns-in-Err-check_declared-clause-ok : goal.returns-in-Err-check_declared-clause-ok
returns-in-Err-check_declared-clause-ok c =
    fault_not_ok c.args.names.now (raw_access c.args.first) (map raw_access c.args.more.now) c.args.body.now (Mode c.name_of-in-Err-check_declared.result)
    (mode_fault c.args.names.now (raw_access c.args.first) (map raw_access c.args.more.now) c.args.body.now c.in-Err-check_declared.name.now c.name_of-in-Err-check_declared.result
    c.name_of-in-Err-check_declared.ensures (shallow_from c.args.body.now (c.is_body_shallow.ensures.0 c.if-not-is_body_shallow.false)) (c.in-Some.ensures (raw_access c.args.first)).0
    c.in-Ok.ensures.0 c.in_default-check_when_once.ensures c.in-Err-check_declared.ensures)

pub returns-clause-ok : goal.returns-clause-ok
returns-clause-ok c = (
  λ e. no_fault_ok c.args.names.now (raw_access c.args.first) (map raw_access c.args.more.now) c.args.body.now
      (shallow_from c.args.body.now (c.is_body_shallow.ensures.0 c.if-not-is_body_shallow.false)) (c.in-Some.ensures (raw_access c.args.first)).0
      c.in-Ok.ensures.0 c.in_default-check_when_once.ensures c.in_default-check_declared.ensures,
  λ none. refl,
)

pub returns-in_default-clause-ok : goal.returns-in_default-clause-ok
returns-in_default-clause-ok c =
    fault_not_ok c.args.names.now (raw_access c.args.first) (map raw_access c.args.more.now) c.args.body.now Many
    (shallow_from c.args.body.now (c.is_body_shallow.ensures.0 c.if-not-is_body_shallow.false), c.in_default.ensures (raw_access c.args.first))

pub look_up_when-requires : goal.look_up_when-requires
look_up_when-requires c =
    let first = raw_access c.args.first in
    let more = map raw_access c.args.more.now in
    let few : AreFew first more c.args.body.now = (c.in-Some.ensures first).0 in
    omega (arith, All-head HasFewAccesses (first ∷ more) (lists_in c.args.body.now) few.accesses, length-map c.args.more.now raw_access)

pub returns-clause-checked : goal.returns-clause-checked
returns-clause-checked c = record { accesses = c.in-Ok.ensures.1; spawned = (c.in-Some.ensures (raw_access c.args.first)).1 }
