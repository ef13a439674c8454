use Rattle.std.proofs.Common.{◌≡◌, fold, take}
use Rattle.bl_wire.specs.Look.{look_after}
use Rattle.bl_wire.proofs.held.look_on.Given as goal

abbrev pub invariant-loop-byte : goal.invariant-loop-byte
invariant-loop-byte l = l.now ≡ fold look_after l.fn.look (take l.byte-index l.part)
