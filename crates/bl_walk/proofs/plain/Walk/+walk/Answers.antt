use Rattle.std.proofs.Common.{◌+◌, List, [], ◌∷◌, length, ap, sym, subst, ◌∙◌, arith, length-set}
use Rattle.bl_level.specs.Token.{reserved}
use Rattle.bl_work.specs.Few.{items_of}
use Rattle.bl_work.specs.Statements.{Statements}
use Rattle.bl_work.specs.declared.script.Stmt.{Stmt}
use Rattle.bl_walk.specs.Spawned.{with_outermost}
use Rattle.bl_walk.specs.Takes.{Takes}
use Rattle.bl_walk.specs.Walked.{Walked, WalkedBody}
use Rattle.bl_walk.proofs.Bodies.{walked_if_then, walked_if_else, walked_spawn, walked_when}
use Rattle.bl_walk.proofs.Statements.{walked_none, walked_more, walked_show, walked_say, walked_add, walked_set, walked_copy, walked_pour}
use Rattle.bl_walk.proofs.plain.Walk.+walk.Goals as goal

pub body-loop-start-init : goal.body-loop-start-init
body-loop-start-init t c =
    let names = c.args.declared.now.names.now in
    let accesses = c.args.declared.now.accesses in
    let bytes = c.args.self.now.unread.bytes.now in
    let old = with_outermost c.args.self.now.spawned.items in
    subst (λ (l : List Stmt). Walked names accesses c.args.depth bytes bytes old old l) (sym c.requires.none)
    (walked_none names accesses c.args.depth bytes old c.requires.few)

pub body-loop-start-smaller : goal.body-loop-start-smaller
body-loop-start-smaller t c =
    let behind = c.semicolon.new.self.bytes.now in
    let from = c.loop-start.self.unread.bytes.now in
    let one = c.in_ok-statement.ensures from behind c.in_ok-start.ensures c.in_ok-semicolon.ensures in
    omega (arith, one.less)

pub body-loop-start-preserved : goal.body-loop-start-preserved
body-loop-start-preserved t c =
    let names = c.args.declared.now.names.now in
    let accesses = c.args.declared.now.accesses in
    let bytes = c.args.self.now.unread.bytes.now in
    let from = c.loop-start.self.unread.bytes.now in
    let behind = c.semicolon.new.self.bytes.now in
    let old = with_outermost c.args.self.now.spawned.items in
    let between = with_outermost c.loop-start.self.spawned.items in
    let new = with_outermost c.statement.new.self.spawned.items in
    subst (λ (l : List Stmt). Walked names accesses c.args.depth bytes behind old new l) (sym c.in_ok-push.ensures.ok)
    (walked_more names accesses c.args.depth bytes from behind old between new (items_of c.loop-start.statements) (c.in_ok-statement.statement ∷ []) c.loop-start.invariant
    (c.in_ok-statement.ensures from behind c.in_ok-start.ensures c.in_ok-semicolon.ensures))

pub choice-returns-in_ok-choice_of-in-End : goal.choice-returns-in_ok-choice_of-in-End
choice-returns-in_ok-choice_of-in-End t c =
    let names = c.args.declared.now.names.now in
    let accesses = c.args.declared.now.accesses in
    let bytes = c.args.self.now.unread.bytes.now in
    let mid = c.test.new.unread.bytes.now in
    let rest = c.body.new.self.unread.bytes.now in
    let old = with_outermost c.args.self.now.spawned.items in
    let new = with_outermost c.body.new.self.spawned.items in
    let xs = items_of c.body.new.statements in
    walked_if_then names accesses c.args.depth c.if-depth-ge-MOST_DEPTH.false bytes mid rest old new c.in_ok-test.test xs c.in_ok-choice_of-in-End.field-0 c.in_ok-test.ensures
    (subst (λ k. WalkedBody names accesses (c.args.depth + 1) k mid rest old new xs) c.in-End.is c.in_ok-body.ensures) c.in_ok-choice_of-in-End.ensures

pub choice-returns-in_ok-choice_of-in-End-2 : goal.choice-returns-in_ok-choice_of-in-End-2
choice-returns-in_ok-choice_of-in-End-2 t c =
    let names = c.args.declared.now.names.now in
    let accesses = c.args.declared.now.accesses in
    let bytes = c.args.self.now.unread.bytes.now in
    let mid = c.test.new.unread.bytes.now in
    let between = c.body.new.self.unread.bytes.now in
    let rest = c.body-in-Else.new.self.unread.bytes.now in
    let old = with_outermost c.args.self.now.spawned.items in
    let half = with_outermost c.body.new.self.spawned.items in
    let new = with_outermost c.body-in-Else.new.self.spawned.items in
    let xs = items_of c.body.new.statements in
    let ys = items_of c.body-in-Else.new.statements in
    walked_if_else names accesses c.args.depth c.if-depth-ge-MOST_DEPTH.false bytes mid between rest old half new c.in_ok-test.test xs ys c.in_ok-choice_of-in-End-2.field-0
    c.in_ok-test.ensures (subst (λ k. WalkedBody names accesses (c.args.depth + 1) k mid between old half xs) c.in-Else.is c.in_ok-body.ensures)
    (subst (λ k. WalkedBody names accesses (c.args.depth + 1) k between rest half new ys) c.in-End-2.is c.in_ok-body-in-Else.ensures) c.in_ok-choice_of-in-End-2.ensures

pub spawn-returns : goal.spawn-returns
spawn-returns t c accesses =
    let bytes = c.args.self.now.unread.bytes.now in
    let inner = c.key.new.self.bytes.now in
    let rest = c.when.new.self.unread.bytes.now in
    let old = c.args.self.now.spawned.items in
    let pushed = c.push.new.self.items in
    let mid = c.when.new.self.spawned.items in
    let new = c.put.new.behaviours.items in
    walked_spawn c.args.names.now accesses c.args.depth c.if-depth-ge-MOST_DEPTH.false bytes inner rest old pushed mid new c.len-place.result c.unbuilt.result
    c.in_ok-behaviour.behaviour c.in_ok-key.ensures (c.len-place.ensures ∙ c.args.self.now.spawned.ok.0) c.in_ok-push.ensures.items c.in_ok-behaviour.ensures c.put.ensures
    (ap length c.put.ensures ∙ length-set mid c.len-place.result c.in_ok-behaviour.behaviour)

pub statement-returns-in_ok-observed-in-Show : goal.statement-returns-in_ok-observed-in-Show
statement-returns-in_ok-observed-in-Show t c from behind begins =
    let bytes = c.args.self.now.unread.bytes.now in
    walked_show c.args.declared.now.names.now c.args.declared.now.accesses c.args.depth bytes c.observed.new.unread.bytes.now (with_outermost c.args.self.now.spawned.items) c.in_ok-observed-in-Show.field-0
    c.requires c.in_ok-observed-in-Show.ensures
    from behind (subst (λ k. Takes from (reserved k ∷ []) bytes) c.in-Show.is begins)

pub statement-returns-in_ok-text-in-Say : goal.statement-returns-in_ok-text-in-Say
statement-returns-in_ok-text-in-Say t c from behind begins =
    let bytes = c.args.self.now.unread.bytes.now in
    walked_say c.args.declared.now.names.now c.args.declared.now.accesses c.args.depth bytes c.text.new.self.bytes.now (with_outermost c.args.self.now.spawned.items) c.in_ok-text-in-Say.field-0
    c.requires c.in_ok-text-in-Say.ensures
    from behind (subst (λ k. Takes from (reserved k ∷ []) bytes) c.in-Say.is begins)

pub statement-returns-in_ok-text-in-Add : goal.statement-returns-in_ok-text-in-Add
statement-returns-in_ok-text-in-Add t c from behind begins =
    let bytes = c.args.self.now.unread.bytes.now in
    walked_add c.args.declared.now.names.now c.args.declared.now.accesses c.args.depth bytes c.altered.new.unread.bytes.now c.text-in-Add.new.self.bytes.now (with_outermost c.args.self.now.spawned.items)
    c.in_ok-doc-in-Add.doc c.in_ok-text-in-Add.field-0 c.requires c.in_ok-doc-in-Add.ensures c.in_ok-text-in-Add.ensures
    from behind (subst (λ k. Takes from (reserved k ∷ []) bytes) c.in-Add.is begins)

pub statement-returns-in_ok-text-in-Set : goal.statement-returns-in_ok-text-in-Set
statement-returns-in_ok-text-in-Set t c from behind begins =
    let bytes = c.args.self.now.unread.bytes.now in
    walked_set c.args.declared.now.names.now c.args.declared.now.accesses c.args.depth bytes c.replaced.new.unread.bytes.now c.text-in-Set.new.self.bytes.now (with_outermost c.args.self.now.spawned.items)
    c.in_ok-doc-in-Set.doc c.in_ok-text-in-Set.field-0 c.requires c.in_ok-doc-in-Set.ensures c.in_ok-text-in-Set.ensures
    from behind (subst (λ k. Takes from (reserved k ∷ []) bytes) c.in-Set.is begins)

pub statement-returns-in_ok-replaced-in-Copy : goal.statement-returns-in_ok-replaced-in-Copy
statement-returns-in_ok-replaced-in-Copy t c from behind begins =
    let bytes = c.args.self.now.unread.bytes.now in
    walked_copy c.args.declared.now.names.now c.args.declared.now.accesses c.args.depth bytes c.observed-in-Copy.new.unread.bytes.now c.key.new.self.bytes.now c.replaced-in-Copy.new.unread.bytes.now
    (with_outermost c.args.self.now.spawned.items) c.in_ok-from-in-Copy.from c.in_ok-replaced-in-Copy.field-0 c.requires c.in_ok-from-in-Copy.ensures
    c.in_ok-key-in-Copy.ensures c.in_ok-replaced-in-Copy.ensures
    from behind (subst (λ k. Takes from (reserved k ∷ []) bytes) c.in-Copy.is begins)

pub statement-returns-in_ok-altered-in-Pour : goal.statement-returns-in_ok-altered-in-Pour
statement-returns-in_ok-altered-in-Pour t c from behind begins =
    let bytes = c.args.self.now.unread.bytes.now in
    walked_pour c.args.declared.now.names.now c.args.declared.now.accesses c.args.depth bytes c.observed-in-Pour.new.unread.bytes.now c.key-in-Pour.new.self.bytes.now c.altered-in-Pour.new.unread.bytes.now
    (with_outermost c.args.self.now.spawned.items) c.in_ok-from-in-Pour.from c.in_ok-altered-in-Pour.field-0 c.requires c.in_ok-from-in-Pour.ensures
    c.in_ok-key-in-Pour.ensures c.in_ok-altered-in-Pour.ensures
    from behind (subst (λ k. Takes from (reserved k ∷ []) bytes) c.in-Pour.is begins)

pub when-returns-in-End : goal.when-returns-in-End
when-returns-in-End t c =
    let names = c.args.names.now in
    let accesses = c.in_ok-accesses.accesses in
    let bytes = c.args.self.now.unread.bytes.now in
    let mid = c.accesses_of.new.unread.bytes.now in
    let inner = c.key.new.self.bytes.now in
    let rest = c.body.new.self.unread.bytes.now in
    let old = with_outermost c.args.self.now.spawned.items in
    let new = with_outermost c.body.new.self.spawned.items in
    let xs = items_of c.body.new.statements in
    walked_when names c.args.depth bytes mid inner rest old new accesses xs c.new.result c.requires.shallow c.in_ok-accesses.ensures c.in_ok-key.ensures
    (subst (λ k. WalkedBody names accesses c.args.depth k inner rest old new xs) c.in-End.is c.in_ok-body.ensures)
    (c.new.ensures ∙ ap (λ (b : Statements). record { accesses = accesses; body = b }) c.body_of.ensures)
