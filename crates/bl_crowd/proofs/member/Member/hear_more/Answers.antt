use Rattle.std.proofs.Common.{◌∙◌, None, Some, ap, inl, inr, refl, subst, sym}
use Rattle.bl_crowd.proofs.Streaming.{failed_but, member_of, way_of}
use Rattle.bl_wire.specs.declared.fault.SessionFault.TheVariants.{TooLong}
use Rattle.bl_crowd.specs.Ways.{HasFailed}
use Rattle.bl_crowd.proofs.Rounding.{fault_of}
use Rattle.bl_crowd.proofs.member.Member.hear_more.Goals as goal

pub hear-requires-clause-way : goal.hear-requires-clause-way
hear-requires-clause-way g c =
    let way = c.requires.way in
    (way.0, way.1, way.2, way_of g.S.Stream.remaining g.S.Stream.contents way.0 way.1 way.2 c.args.self.now None c.requires.fine c.requires.none way.3)

pub returns-in-Ok-clause-way : goal.returns-in-Ok-clause-way
returns-in-Ok-clause-way g c names first pass member =
    member_of g.S.Stream.remaining g.S.Stream.contents names first pass c.hear.new.self c.hear.new.self.asked (c.hear.ensures.same.1 ∙ c.requires.fine) refl
    (c.in-Ok.ensures.ok names first pass (way_of g.S.Stream.remaining g.S.Stream.contents names first pass c.args.self.now None c.requires.fine c.requires.none member))

pub returns-in-Err-clause-way : goal.returns-in-Err-clause-way
returns-in-Err-clause-way g c names first pass member =
    inr (failed_but g.S.Stream.remaining g.S.Stream.contents names first pass c.hear.new.self (Some c.in-Err.fault) c.in-Err.fault
    (c.in-Err.ensures.err names first pass (way_of g.S.Stream.remaining g.S.Stream.contents names first pass c.args.self.now None c.requires.fine c.requires.none member)))

pub returns-in-Err-clause-failed : goal.returns-in-Err-clause-failed
returns-in-Err-clause-failed g c fault is =
    let R = g.S.Stream.remaining in
    let W = g.S.Stream.contents in
    let same = fault_of c.in-Err.fault fault is in (
      ap Some same,
      elim c.in-Err.ensures.kind [
        | inl memory ↦ inl (sym same ∙ memory)
        | inr long ↦ inr (
          sym same ∙ long,
          λ names first pass member.
              failed_but R W names first pass c.hear.new.self (Some c.in-Err.fault) TooLong
              (subst (HasFailed R W names first pass c.hear.new.self) long
              (c.in-Err.ensures.err names first pass (way_of R W names first pass c.args.self.now None c.requires.fine c.requires.none member))),
        )
      ],
    )
