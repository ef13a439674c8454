use Rattle.std.proofs.Common.{◌≡◌, drop}
use Rattle.std.specs.List.{fold}
use Rattle.bl_level.specs.Token.{toks}
use Rattle.bl_write.proofs.sink.put_all.Given as goal

-- what is put, and what is left, are all
abbrev pub invariant-loop-token : goal.invariant-loop-token
invariant-loop-token g l = fold g.S.Sink.taken l.sink (toks (drop l.token-index l.tokens)) ≡ fold g.S.Sink.taken l.initial.sink (toks l.tokens)
