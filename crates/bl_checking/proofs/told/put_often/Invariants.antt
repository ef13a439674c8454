use Rattle.std.proofs.Common.{◌≡◌, ◌++◌, replicate}
use Rattle.bl_checking.proofs.told.put_often.Given as goal

-- the byte stands so often behind the text
abbrev pub invariant-loop : goal.invariant-loop
invariant-loop l = l.text.items ≡ l.fn.text.items ++ replicate l.counter l.byte
