use Rattle.std.proofs.Common.{inl, refl, subst}
use Rattle.bl_connection.specs.Connections.{HearsMore}
use Rattle.bl_connection.proofs.Faults.{passes_on}
use Rattle.bl_serve.specs.Telling.{left_of}
use Rattle.bl_crowd.proofs.Streaming.{hear_fault, way_failed, way_heard}
use Rattle.bl_crowd.proofs.member.Member.hear.Goals as goal

pub returns-in_err-self-clause-err : goal.returns-in_err-self-clause-err
returns-in_err-self-clause-err g c =
    let old = c.args.self.now in
    passes_on c.from_residual.result c.in_err-self.field-0.0 _ c.from_residual.ensures.1
    (λ names first pass w. way_failed g.S.Stream.remaining g.S.Stream.contents names first pass old _ c.in_err-self.field-0.0 c.in_err-self.field-0.0 (inl refl)
    (c.in_err-self.ensures.err (left_of old.told)) refl refl refl w)

pub returns-clause-ok : goal.returns-clause-ok
returns-clause-ok g c names first pass w =
    let old = c.args.self.now in
    way_heard g.S.Stream.remaining g.S.Stream.contents names first pass old c.hear.new.self c.none_told.result c.in_ok-self.field-0 c.requires.state
    (subst (λ n. HearsMore g.S.Stream.remaining g.S.Stream.contents n old.connection c.hear.new.self c.in_ok-self.field-0) w.names_are c.in_ok-self.ensures.heard)
    c.in_ok-self.ensures.written.1 c.none_told.ensures.none.0 c.none_told.ensures.none.1 c.none_told.ensures.none.2 w

pub returns-in_err-self-clause-fault : goal.returns-in_err-self-clause-fault
returns-in_err-self-clause-fault g c =
    let fault = c.in_err-self.field-0.0 in
    passes_on c.from_residual.result fault _ c.from_residual.ensures.1
    (hear_fault g.S.Stream.reads g.S.Stream.writes c.args.self.now.connection c.hear.new.self fault c.requires.state c.in_err-self.ensures.fault)

pub returns-in_err-self-clause-kind : goal.returns-in_err-self-clause-kind
returns-in_err-self-clause-kind g c = passes_on c.from_residual.result c.in_err-self.field-0.0 _ c.from_residual.ensures.1 c.in_err-self.ensures.fault
