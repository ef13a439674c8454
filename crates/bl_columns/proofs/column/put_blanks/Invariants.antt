use Rattle.std.proofs.Common.{◌≡◌, ◌++◌, replicate}
use Rattle.bl_columns.proofs.column.put_blanks.Given as goal

-- so many blanks stand behind the text
abbrev pub invariant-loop : goal.invariant-loop
invariant-loop l = l.text.items ≡ l.fn.text.items ++ replicate l.counter 32
