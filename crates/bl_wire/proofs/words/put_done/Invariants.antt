use Rattle.std.proofs.Common.{◌++◌, take, codes, flat_map}
use Rattle.bl_wire.specs.Replies.{output_text}
use Rattle.bl_wire.specs.Watch.{Puts, end_state}
use Rattle.bl_wire.proofs.words.put_done.Given as goal

abbrev pub invariant-loop-text : goal.invariant-loop-text
invariant-loop-text g l = Puts (codes " done" ++ flat_map output_text (take l.text-index l.outputs)) (end_state g.W.Write.contents l.fn.writer) (end_state g.W.Write.contents l.writer)
