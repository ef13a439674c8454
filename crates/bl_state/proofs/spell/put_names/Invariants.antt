use Rattle.std.proofs.Common.{◌≡◌, drop}
use Rattle.std.specs.List.{fold}
use Rattle.bl_declare.specs.Declaration.{spell_names}
use Rattle.bl_state.proofs.spell.put_names.Given as goal

-- what is put, and what is left, are all
abbrev pub invariant-loop-place : goal.invariant-loop-place
invariant-loop-place g l =
    fold g.S.Sink.taken l.sink (spell_names (drop l.place l.names)) ≡ fold g.S.Sink.taken l.initial.sink (spell_names l.names)
