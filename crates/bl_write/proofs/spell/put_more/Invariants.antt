use Rattle.std.proofs.Common.{◌≡◌, [], drop, map}
use Rattle.std.specs.List.{fold}
use Rattle.bl_work.specs.Spelled.{spell_more}
use Rattle.bl_write.specs.Unread.{unread_access}
use Rattle.bl_write.proofs.spell.put_more.Given as goal

-- what is put, and what is left, are all
abbrev pub invariant-loop-access : goal.invariant-loop-access
invariant-loop-access g l =
    fold g.S.Sink.taken l.sink (spell_more (map (unread_access l.names) (drop l.access-index l.accesses)) [])
    ≡ fold g.S.Sink.taken l.initial.sink (spell_more (map (unread_access l.names) l.accesses) [])
