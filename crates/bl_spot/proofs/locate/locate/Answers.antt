use Rattle.std.proofs.Common.{sym, subst}
use Rattle.std.proofs.lemmas.Result.{IfOk-weaker}
use Rattle.bl_setup.specs.FirstSetupFault.{SoFar, LineFault}
use Rattle.bl_spot.specs.Located.{IsBefore, IsLocated, IsLocatedIn}
use Rattle.bl_spot.specs.declared.located.Located.TheVariants as located
use Rattle.bl_spot.proofs.Locating.{ends_there, is_short, is_there}
use Rattle.bl_spot.proofs.Parting.{empty_is}
use Rattle.bl_spot.proofs.locate.locate.Goals as goal

pub returns-then-is_empty : goal.returns-then-is_empty
returns-then-is_empty c =
    subst (λ missing. IsLocated c.args.bytes.now c.args.fault (located.End missing)) (sym c.missing_behind.ensures)
    (ends_there c.args.bytes.now c.args.fault c.part-parted.result c.requires c.if-fault-eq0.false c.part-parted.ensures
    (empty_is c.part-parted.result.rest.now c.is_empty.result c.is_empty.ensures c.if-is_empty.true))

pub located_in-requires : goal.located_in-requires
located_in-requires c =
    is_short c.args.bytes.now c.args.fault c.part-parted.result c.requires c.if-fault-eq0.false c.part-parted.ensures c.first_line.result.now c.first_line.ensures

pub returns : goal.returns
returns c =
    let line = c.first_line.result.now in
    let kind = c.args.fault.kind in
    IfOk-weaker c.located_in.result (λ l. (after : SoFar) → IsBefore after c.in_ok-before.before → LineFault after line kind → IsLocatedIn kind l after line)
    (IsLocated c.args.bytes.now c.args.fault)
    (λ l told. is_there c.args.bytes.now c.args.fault c.part-parted.result c.requires c.if-fault-eq0.false c.part-parted.ensures line c.first_line.ensures c.in_ok-before.before
    c.in_ok-before.ensures l told)
    c.located_in.ensures
