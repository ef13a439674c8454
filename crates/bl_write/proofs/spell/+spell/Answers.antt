use Rattle.std.proofs.Common.{[], ◌∷◌, length, ap, sym, ◌∙◌, arith}
use Rattle.std.specs.List.{fold}
use Rattle.std.proofs.lemmas.Result.{on_ok_weaker}
use Rattle.bl_name.specs.declared.token.Sign.TheVariants.{Semicolon}
use Rattle.bl_level.specs.Token.{sign}
use Rattle.bl_work.specs.declared.script.Stmt.{Stmt}
use Rattle.bl_work.specs.Body.{statements_of}
use Rattle.bl_work.specs.SpelledDepth.{spelled_depth}
use Rattle.bl_work.specs.Spelled.{spell_body}
use Rattle.bl_write.specs.Unread.{tokens_of, unread_body, unread_at}
use Rattle.bl_write.proofs.Walking.{depth_of_each, within_each, put_on, put_spawn, body_at, within_at, past_first, put_at, else_tokens}
use Rattle.bl_write.proofs.spell.+spell.Goals as goal

pub put_statements-put_statement-requires : goal.put_statements-put_statement-requires
put_statements-put_statement-requires g t c κs within =
    let items = c.args.statements.now in
    let names = c.args.names.now in
    let depth = depth_of_each names (unread_at names c.args.script.now) items c.loop-statement.statement-index c.statement-item.result (omega arith) c.statement-item.is in (
      omega (arith, c.decreases, depth),
      (
        within.0,
        (
          within.1,
          (
            c.requires.script,
            (
              c.requires.there,
              within_each (length names.documents) (length c.args.script.now) items c.loop-statement.statement-index c.statement-item.result (omega arith) c.statement-item.is c.requires.within,
            ),
          ),
        ),
      ),
    )

pub put_statements-loop-statement-preserved : goal.put_statements-loop-statement-preserved
put_statements-loop-statement-preserved g t c =
    let names = c.args.names.now in
    put_on names (unread_at names c.args.script.now) g.S.Sink.taken c.loop-statement.sink c.put_statement.new.sink c.args.statements.now c.loop-statement.statement-index c.statement-item.result
    (omega arith) c.statement-item.is c.in_ok-put_statement.ensures
    ∙ c.loop-statement.invariant

pub put_when-put_statements-requires : goal.put_when-put_statements-requires
put_when-put_statements-requires g t c κs within =
    let names = c.args.names.now in
    let script = c.args.script.now in
    let depth = ap spelled_depth (body_at names script c.args.index _ c.requires.index c.body-statements.ensures.value c.requires.script.preorder) in (
      omega (arith, c.decreases, depth),
      (
        within.0,
        (
          within.1,
          (
            c.requires.script,
            (
              c.requires.there,
              within_at names script c.args.index _ c.requires.index c.body-statements.ensures.value c.requires.script c.requires.there,
            ),
          ),
        ),
      ),
    )

pub put_when-returns : goal.put_when-returns
put_when-returns g t c =
    on_ok_weaker c.put-3.result
    (λ h. h
    ∙ put_at c.args.names.now c.args.script.now c.args.index _ c.requires.index c.body-statements.ensures.value g.S.Sink.taken c.args.sink.now c.put.new.self c.put_access.new.sink c.put_more.new.sink
    c.put-2.new.self c.put_statements.new.sink c.accesses-accesses.result.now _ c.index-accesses-0.result c.requires.script c.accesses-accesses.ensures c.index-accesses-0.is (past_first c.accesses-accesses.result.now)
    c.in_ok-put.ensures c.in_ok-put_access.ensures c.in_ok-put_more.ensures c.in_ok-put-2.ensures c.in_ok-put_statements.ensures)
    c.put-3.ensures

pub put_else-returns : goal.put_else-returns
put_else-returns g t c =
    let names = c.args.names.now in
    let below = unread_at names c.args.script.now in
    let statements = c.args.statements.now in
    let body = unread_body names below (statements_of statements) in
    on_ok_weaker c.put_statements.result
    (λ h. h
    ∙ ap (λ s. fold g.S.Sink.taken s (spell_body body)) c.in_ok-put.ensures
    ∙ ap (fold g.S.Sink.taken c.args.sink.now) (sym (else_tokens names below statements (grind (arith, c.is_empty.ensures, c.if-is_empty.false)))))
    c.put_statements.ensures

pub put_statement-returns-in_ok-put_when-in-Spawn : goal.put_statement-returns-in_ok-put_when-in-Spawn
put_statement-returns-in_ok-put_when-in-Spawn g t c =
    let names = c.args.names.now in
    let below = unread_at names c.args.script.now in
    let old = c.args.sink.now in
    let taken = g.S.Sink.taken in
    let put = c.in_ok-put_when-in-Spawn.ensures
    ∙ (λ i. fold taken (c.in_ok-put-in-Spawn.ensures i) (tokens_of (below (c.from.ensures i)))) in
    on_ok_weaker c.put-in-Spawn.result
    (λ h. h
    ∙ ap (λ s. taken s (sign Semicolon)) put
    ∙ put_spawn names below taken old c.in-Spawn.behaviour
    ∙ ap (λ (s : Stmt). fold taken old (spell_body (unread_body names below (statements_of (s ∷ []))))) (sym c.in-Spawn.is))
    c.put-in-Spawn.ensures
