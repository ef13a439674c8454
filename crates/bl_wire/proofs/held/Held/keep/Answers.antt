use Rattle.std.proofs.Common.{rules, ◌≡◌, ◌∙◌, ◌++◌, ◌-◌, sym, take, length, arith, length-append, take_all}
use Rattle.bl_wire.proofs.Parts.{take-over}
use Rattle.bl_wire.proofs.held.Held.keep.Goals as goal

pub returns-then-part-room-clause-bytes : goal.returns-then-part-room-clause-bytes
returns-then-part-room-clause-bytes c small =
    let old = c.args.self.now.bytes.items in
    let part = c.args.part.now in
    let e : c.extend_from_slice.new.self.items ≡ old ++ part = search rules in
    e ∙ sym (take_all 8193 (old ++ part) (omega (arith, length-append old part)))

pub returns-else-part-room-clause-bytes : goal.returns-else-part-room-clause-bytes
returns-else-part-room-clause-bytes c small =
    let old = c.args.self.now.bytes.items in
    let part = c.args.part.now in
    let e : c.extend_from_slice-else-part-room.new.self.items ≡ old ++ take (8193 - length old) part = search rules in
    e ∙ sym (take-over 8193 old part small)
