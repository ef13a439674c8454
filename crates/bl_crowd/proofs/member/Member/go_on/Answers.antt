use Rattle.std.proofs.Common.{inl, inr, refl, sym, subst}
use Rattle.bl_wire.specs.declared.fault.SessionFault.TheVariants.{Write}
use Rattle.bl_connection.proofs.Faults.{passes_on}
use Rattle.bl_serve.specs.Telling.{left_of}
use Rattle.bl_crowd.specs.Ways.{IsUnderWay}
use Rattle.bl_crowd.proofs.Streaming.{read_fault, tell_fault, way_failed, way_moved, way_told, write_fault}
use Rattle.bl_crowd.proofs.member.Member.go_on.Goals as goal

pub returns-in_err-read-in-Reads-clause-err : goal.returns-in_err-read-in-Reads-clause-err
returns-in_err-read-in-Reads-clause-err g c =
    let old = c.args.self.now in
    let fault = c.in_err-read-in-Reads.field-0.0 in
    passes_on c.from_residual.result fault _ c.from_residual.ensures.1
    (λ names first pass w. way_failed g.S.Stream.remaining g.S.Stream.contents names first pass old _ fault fault (inl refl) (c.in_err-read-in-Reads.ensures.err (left_of old.told)) refl refl refl w)

pub returns-in_err-write-in-Writes-clause-err : goal.returns-in_err-write-in-Writes-clause-err
returns-in_err-write-in-Writes-clause-err g c =
    let old = c.args.self.now in
    let fault = c.in_err-write-in-Writes.field-0.0 in
    passes_on c.from_residual-in_err-write-in-Writes.result fault _ c.from_residual-in_err-write-in-Writes.ensures.1
    (λ names first pass w. way_failed g.S.Stream.remaining g.S.Stream.contents names first pass old _ fault fault (inl refl) (c.in_err-write-in-Writes.ensures.err (left_of old.told)) refl refl refl w)

pub returns-in_err-tell-in-Tells-clause-err : goal.returns-in_err-tell-in-Tells-clause-err
returns-in_err-tell-in-Tells-clause-err g c =
    let old = c.args.self.now in
    let fault = c.in_err-tell-in-Tells.field-0.0 in
    passes_on c.from_residual-in_err-tell-in-Tells.result fault _ c.from_residual-in_err-tell-in-Tells.ensures.1
    (λ names first pass w. way_failed g.S.Stream.remaining g.S.Stream.contents names first pass old _ fault Write (inr (c.in_err-tell-in-Tells.ensures.fault, refl)) c.in_err-tell-in-Tells.ensures.err refl refl refl w)

pub returns-in_ok-read-in-Reads-clause-ok : goal.returns-in_ok-read-in-Reads-clause-ok
returns-in_ok-read-in-Reads-clause-ok g c names first pass w =
    let old = c.args.self.now in
    subst (IsUnderWay g.S.Stream.remaining g.S.Stream.contents names first pass (record old { connection = c.read.new.self })) (sym c.requires.none)
    (way_moved g.S.Stream.remaining g.S.Stream.contents names first pass old c.read.new.self c.in_ok-read-in-Reads.ensures.stays c.in_ok-read-in-Reads.ensures.block w)

pub returns-in_ok-write-in-Writes-clause-ok : goal.returns-in_ok-write-in-Writes-clause-ok
returns-in_ok-write-in-Writes-clause-ok g c names first pass w =
    let old = c.args.self.now in
    subst (IsUnderWay g.S.Stream.remaining g.S.Stream.contents names first pass (record old { connection = c.write.new.self })) (sym c.requires.none)
    (way_moved g.S.Stream.remaining g.S.Stream.contents names first pass old c.write.new.self c.in_ok-write-in-Writes.ensures.stays c.in_ok-write-in-Writes.ensures.block w)

pub returns-in_ok-tell-in-Tells-clause-ok : goal.returns-in_ok-tell-in-Tells-clause-ok
returns-in_ok-tell-in-Tells-clause-ok g c names first pass w =
    let old = c.args.self.now in
    let e = c.in_ok-tell-in-Tells.ensures in
    subst (IsUnderWay g.S.Stream.remaining g.S.Stream.contents names first pass (record old { connection = c.tell.new.self; told = c.tell.new.block })) (sym c.requires.none)
    (way_told g.S.Stream.remaining g.S.Stream.contents names first pass old c.tell.new.self c.tell.new.block e.told e.last e.done e.stands w)

pub returns-in_err-read-in-Reads-clause-fault : goal.returns-in_err-read-in-Reads-clause-fault
returns-in_err-read-in-Reads-clause-fault g c =
    let fault = c.in_err-read-in-Reads.field-0.0 in
    passes_on c.from_residual.result fault _ c.from_residual.ensures.1 (read_fault g.S.Stream.reads g.S.Stream.writes c.args.self.now.connection c.read.new.self fault c.in_err-read-in-Reads.ensures.fault)

pub returns-in_err-write-in-Writes-clause-fault : goal.returns-in_err-write-in-Writes-clause-fault
returns-in_err-write-in-Writes-clause-fault g c =
    let fault = c.in_err-write-in-Writes.field-0.0 in
    passes_on c.from_residual-in_err-write-in-Writes.result fault _ c.from_residual-in_err-write-in-Writes.ensures.1
    (write_fault g.S.Stream.reads g.S.Stream.writes c.args.self.now.connection c.write.new.self fault c.in_err-write-in-Writes.ensures.fault)

pub returns-in_err-tell-in-Tells-clause-fault : goal.returns-in_err-tell-in-Tells-clause-fault
returns-in_err-tell-in-Tells-clause-fault g c =
    let fault = c.in_err-tell-in-Tells.field-0.0 in
    passes_on c.from_residual-in_err-tell-in-Tells.result fault _ c.from_residual-in_err-tell-in-Tells.ensures.1
    (tell_fault g.S.Stream.reads g.S.Stream.writes c.args.self.now.connection c.tell.new.self fault c.in_err-tell-in-Tells.ensures.fault)

pub returns-in_ok-read-in-Reads-clause-goes : goal.returns-in_ok-read-in-Reads-clause-goes
returns-in_ok-read-in-Reads-clause-goes g c is = inl (_, c.in_ok-read-in-Reads.ensures.moved (c.next_after.ensures.moved is))

pub returns-in_ok-write-in-Writes-clause-goes : goal.returns-in_ok-write-in-Writes-clause-goes
returns-in_ok-write-in-Writes-clause-goes g c is =
    let moved = c.in_ok-write-in-Writes.ensures.moved (c.next_after-in-Writes.ensures.moved is) in
    inr (inl (moved.0, moved.2, moved.1))
