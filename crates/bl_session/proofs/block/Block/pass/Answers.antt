use Rattle.std.proofs.Common.{sym, refl, ◌+◌, ◌∙◌, arith}
use Rattle.bl_hall.specs.Chronicle.{state_now}
use Rattle.bl_session.specs.Blocks.{left_in}
use Rattle.bl_session.specs.declared.block.Block.{Block}
use Rattle.bl_session.proofs.BlockLaws.{none_behind, front_behind}
use Rattle.bl_session.proofs.block.Block.pass.Goals as goal

pub places-preserved : goal.places-preserved
places-preserved c =
    let x = state_now c.args.hall.now in
    let f = rw c.in-Some.is at c.front.ensures in
    let later : Block = record { places = c.places.self.places; next = c.places.self.next + 1 } in (
      c.places.invariant.0,
      omega (arith, f.0),
      sym (front_behind x c.places.self later c.args.most c.in-Some.field-0 f refl refl) ∙ c.places.invariant.2,
    )

pub returns-clause-left : goal.returns-clause-left
returns-clause-left c =
    let none = rw c.in_default.is at c.front.ensures in
    sym (none_behind c.args.most (left_in (state_now c.args.hall.now) c.places.self) none) ∙ c.places.invariant.2
