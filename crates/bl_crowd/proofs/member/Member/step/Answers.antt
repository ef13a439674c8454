use Rattle.std.proofs.Common.{rules, ◌≡◌, None, Some, inr}
use Rattle.bl_crowd.proofs.Streaming.{failed_but, way_of}
use Rattle.bl_crowd.proofs.member.Member.step.Goals as goal

pub go_on-requires-clause-way : goal.go_on-requires-clause-way
go_on-requires-clause-way g c =
    let self = c.args.self.now in
    let way = c.requires.way in
    let fine : self.fault ≡ None = search rules in
    let none : self.asked ≡ None = search rules in
    (way.0, way.1, way.2, way_of g.S.Stream.remaining g.S.Stream.contents way.0 way.1 way.2 self None fine none way.3)

pub returns-in-Err-clause-way : goal.returns-in-Err-clause-way
returns-in-Err-clause-way g c names first pass member =
    let self = c.args.self.now in
    let fine : self.fault ≡ None = search rules in
    let none : self.asked ≡ None = search rules in
    inr (failed_but g.S.Stream.remaining g.S.Stream.contents names first pass c.go_on.new.self (Some c.in-Err.fault) c.in-Err.fault
    (c.in-Err.ensures.err names first pass (way_of g.S.Stream.remaining g.S.Stream.contents names first pass self None fine none member)))
