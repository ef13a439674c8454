use Rattle.std.proofs.Common.{inl, inr}
use Rattle.bl_chain.proofs.left.closed_by.Goals as goal

pub returns-in-Ok : goal.returns-in-Ok
returns-in-Ok c = (c.in-Ok.ensures.stands, c.in-Ok.ensures.whole)

pub returns-in-Err-Wrong : goal.returns-in-Err-Wrong
returns-in-Err-Wrong c =
    let why = rw c.in-Err-Wrong.field-0-is at c.in-Err-Wrong.ensures.fault in
    inl (c.in-Err-Wrong.field-0-1, why.1)

pub returns-in-Err-OldVersion : goal.returns-in-Err-OldVersion
returns-in-Err-OldVersion c =
    let why = rw c.in-Err-OldVersion.field-0-is at c.in-Err-OldVersion.ensures.fault in
    inr (inl why.1)

pub returns-in-Err-NotEnded : goal.returns-in-Err-NotEnded
returns-in-Err-NotEnded c =
    let why = rw c.in-Err-NotEnded.field-0-is at c.in-Err-NotEnded.ensures.fault in
    inr (inr why.1)
