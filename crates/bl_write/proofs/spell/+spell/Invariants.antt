use Rattle.std.proofs.Common.{◌≡◌, ◌+◌, ◌*◌, [], ◌∷◌, drop}
use Rattle.std.specs.List.{fold}
use Rattle.bl_work.specs.Body.{statements_of}
use Rattle.bl_work.specs.SpelledDepth.{spelled_depth}
use Rattle.bl_work.specs.Spelled.{spell_body}
use Rattle.bl_write.specs.Unread.{unread_body, unread_at}
use Rattle.bl_write.proofs.spell.+spell.Given as goal

-- how many bodies stand in one another, as they are spelled, where a `when` and an `else` are more than their body, that more than
-- one of its statements, and that more than what stands in it
abbrev pub decreases-put_when : goal.decreases-put_when
decreases-put_when g l = 4 * spelled_depth (unread_at l.names.now l.script.now l.index).body + 4

abbrev pub decreases-put_statements : goal.decreases-put_statements
decreases-put_statements g l = 4 * spelled_depth (unread_body l.names.now (unread_at l.names.now l.script.now) (statements_of l.statements.now)) + 3

abbrev pub decreases-put_statement : goal.decreases-put_statement
decreases-put_statement g l = 4 * spelled_depth (unread_body l.names.now (unread_at l.names.now l.script.now) (statements_of (l.statement.now ∷ []))) + 2

abbrev pub decreases-put_else : goal.decreases-put_else
decreases-put_else g l = 4 * spelled_depth (unread_body l.names.now (unread_at l.names.now l.script.now) (statements_of l.statements.now)) + 4

-- what is put, and what is left, are all
abbrev pub invariant-put_statements-loop-statement : goal.invariant-put_statements-loop-statement
invariant-put_statements-loop-statement g l =
    fold g.S.Sink.taken l.sink (spell_body (unread_body l.names (unread_at l.names l.script) (statements_of (drop l.statement-index l.statements))))
    ≡ fold g.S.Sink.taken l.initial.sink (spell_body (unread_body l.names (unread_at l.names l.script) (statements_of l.statements)))
