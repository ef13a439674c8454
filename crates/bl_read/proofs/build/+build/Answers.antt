use Rattle.std.proofs.Common.{◌≡◌, ◌+◌, [], ◌∷◌, ◌++◌, length, drop, ap, sym, ◌∙◌, subst, arith, length-append}
use Rattle.std.specs.Prelude.{All, List, map}
use Rattle.std.proofs.lemmas.List.{length-map}
use Rattle.std.proofs.lemmas.List.Elements.{All-head, All-tail}
use Rattle.bl_work.specs.Names.{KnownNames}
use Rattle.bl_work.specs.Statements.{Statements, If, Nothing}
use Rattle.bl_work.specs.Meaning.{whens}
use Rattle.bl_work.specs.WhenFaults.{lists_in, AreContents}
use Rattle.bl_work.specs.FirstWhenFault.{HasFewAccesses}
use Rattle.bl_syntax.specs.RawBodies.{raw_access, raw_body}
use Rattle.bl_work.specs.SpelledDepth.{spelled_depth}
use Rattle.bl_work.specs.Building.{IsBuilt}
use Rattle.bl_syntax.specs.declared.raw.RawAccess.{RawAccess}
use Rattle.bl_syntax.proofs.Boxed.{raw_if_then, raw_if_else, raw_spawn}
use Rattle.bl_work.specs.Spelled.{SpelledBody, if_then, if_else, empty}
use Rattle.bl_work.specs.Body.{statements_of}
use Rattle.bl_work.specs.declared.script.Stmt.{Stmt}
use Rattle.bl_work.proofs.WhenFaults.{all_left, all_right}
use Rattle.bl_walk.specs.Spawned.{with_outermost}
use Rattle.bl_read.proofs.RawLists.{IsPartBuilt, depth_at, part_at, part_next, part_more, part_end}
use Rattle.bl_walk.proofs.Built.{built_long, built_if_then, built_if_else, built_spawned}
use Rattle.bl_read.proofs.build.+build.Goals as goal

pub push_when-returns : goal.push_when-returns
push_when-returns t c =
    let built = subst (λ (n : KnownNames). IsBuilt n c.args.body.now (with_outermost c.push.new.self.items) (with_outermost c.body_of.new.spawned.items) c.in_ok-body.body)
    c.new-lookup.ensures.names c.in_ok-body.ensures in
    built_spawned c.args.names.now (raw_access c.args.first) (map raw_access c.args.more.now) c.args.body.now c.args.spawned.now.items c.push.new.self.items
    c.body_of.new.spawned.items c.put.new.behaviours.items c.unbuilt.result c.new-built.result c.into_accesses.result c.in_ok-body.body c.len-place.result
    (c.len-place.ensures ∙ c.args.spawned.now.ok.0) c.in_ok-push.ensures.items c.new-built.ensures (c.into_accesses.ensures ∙ c.new-lookup.ensures.accesses) built c.put.ensures

pub push_when-new-lookup-requires : goal.push_when-new-lookup-requires
push_when-new-lookup-requires t c =
    let first = raw_access c.args.first in
    let more = map raw_access c.args.more.now in
    omega (arith, All-head HasFewAccesses (first ∷ more) (lists_in c.args.body.now) c.requires.accesses, length-map c.args.more.now raw_access)

pub push_when-body_of-requires : goal.push_when-body_of-requires
push_when-body_of-requires t c =
    let first = raw_access c.args.first in
    let more = map raw_access c.args.more.now in
    let long = ap length c.in_ok-push.ensures.items ∙ length-append c.args.spawned.now.items (c.unbuilt.result ∷ []) in (
      omega (arith, c.decreases),
      (omega (arith, c.requires.few, long), (All-tail HasFewAccesses (first ∷ more) (lists_in c.args.body.now) c.requires.accesses, c.requires.texts)),
    )

pub long_body_of-statement_of-requires : goal.long_body_of-statement_of-requires
long_body_of-statement_of-requires t c =
    let raws = c.args.raws.now in
    let i = c.loop-raw.raw-index in
    let names = c.args.lookup.now.names.now in
    let old = with_outermost c.args.spawned.now.items in
    let mid = with_outermost c.loop-raw.spawned.items in
    let lower = depth_at raws i c.raw-item.result c.loop-raw-test.true c.raw-item.is in (
      omega (arith, c.decreases, lower),
      part_next names raws old c.raw-item.result (drop (i + 1) raws) c.loop-raw.statements.items mid
          (part_at names raws old i c.raw-item.result c.loop-raw.statements.items mid c.loop-raw-test.true c.raw-item.is c.loop-raw.invariant),
    )

pub long_body_of-loop-raw-preserved : goal.long_body_of-loop-raw-preserved
long_body_of-loop-raw-preserved t c =
    let raws = c.args.raws.now in
    let i = c.loop-raw.raw-index in
    let names = c.args.lookup.now.names.now in
    let old = with_outermost c.args.spawned.now.items in
    let mid = with_outermost c.loop-raw.spawned.items in
    let new = with_outermost c.statement_of.new.spawned.items in
    subst (λ (l : List Stmt). IsPartBuilt names raws old (drop (i + 1) raws) l new) (sym c.in_ok-push.ensures.items)
    (part_more names raws old c.raw-item.result (drop (i + 1) raws) c.loop-raw.statements.items mid new c.in_ok-statement.statement
    (part_at names raws old i c.raw-item.result c.loop-raw.statements.items mid c.loop-raw-test.true c.raw-item.is c.loop-raw.invariant) c.in_ok-statement.ensures)

pub long_body_of-returns : goal.long_body_of-returns
long_body_of-returns t c =
    let names = c.args.lookup.now.names.now in
    let old = with_outermost c.args.spawned.now.items in
    let new = with_outermost c.loop-raw.spawned.items in
    subst (λ (b : Statements). IsBuilt names (raw_body c.args.raws.now) old new b) (sym c.new.ensures)
    (part_end names c.args.raws.now old c.loop-raw.raw-index c.loop-raw.statements.items new c.loop-raw-test.false c.loop-raw.invariant)

pub statement_of-body_of-requires-in-IfElse-2 : goal.statement_of-body_of-requires-in-IfElse-2
statement_of-body_of-requires-in-IfElse-2 t c =
    let deep = ap spelled_depth (raw_if_else _ _ _ c.in-IfElse.is c.as_ref-choice-in-IfElse.ensures) in
    let count = ap whens (raw_if_else _ _ _ c.in-IfElse.is c.as_ref-choice-in-IfElse.ensures) in
    let long = built_long c.args.lookup.now.names.now c.as_ref-choice-in-IfElse.result.now.then_body (with_outermost c.args.spawned.now.items)
    (with_outermost c.body_of-in-IfElse.new.spawned.items) c.in_ok-then_body-in-IfElse.then_body c.in_ok-then_body-in-IfElse.ensures in
    let few = subst (λ (b : SpelledBody). All HasFewAccesses (lists_in b)) (raw_if_else _ _ _ c.in-IfElse.is c.as_ref-choice-in-IfElse.ensures) c.requires.accesses in
    let then_lists = lists_in c.as_ref-choice-in-IfElse.result.now.then_body in
    let else_lists = lists_in c.as_ref-choice-in-IfElse.result.now.else_body in
    let texts = subst AreContents (raw_if_else _ _ _ c.in-IfElse.is c.as_ref-choice-in-IfElse.ensures) c.requires.texts in (
      omega (arith, c.decreases, deep),
      (
        omega (arith, c.requires.few, count, long),
        (all_left HasFewAccesses else_lists [] (all_right HasFewAccesses then_lists (else_lists ++ []) few), texts.1.1.0),
      ),
    )

pub statement_of-body_of-requires : goal.statement_of-body_of-requires
statement_of-body_of-requires t c =
    let deep = ap spelled_depth (raw_if_then _ _ _ c.in-IfThen.is c.as_ref-choice.ensures) in
    let count = ap whens (raw_if_then _ _ _ c.in-IfThen.is c.as_ref-choice.ensures) in
    let few = subst (λ (b : SpelledBody). All HasFewAccesses (lists_in b)) (raw_if_then _ _ _ c.in-IfThen.is c.as_ref-choice.ensures) c.requires.accesses in
    let texts = subst AreContents (raw_if_then _ _ _ c.in-IfThen.is c.as_ref-choice.ensures) c.requires.texts in
    (omega (arith, c.decreases, deep), (omega (arith, c.requires.few, count), (all_left HasFewAccesses (lists_in c.as_ref-choice.result.now.then_body) [] few, texts.1.0)))

pub statement_of-body_of-requires-in-IfElse : goal.statement_of-body_of-requires-in-IfElse
statement_of-body_of-requires-in-IfElse t c =
    let deep = ap spelled_depth (raw_if_else _ _ _ c.in-IfElse.is c.as_ref-choice-in-IfElse.ensures) in
    let count = ap whens (raw_if_else _ _ _ c.in-IfElse.is c.as_ref-choice-in-IfElse.ensures) in
    let few = subst (λ (b : SpelledBody). All HasFewAccesses (lists_in b)) (raw_if_else _ _ _ c.in-IfElse.is c.as_ref-choice-in-IfElse.ensures) c.requires.accesses in
    let texts = subst AreContents (raw_if_else _ _ _ c.in-IfElse.is c.as_ref-choice-in-IfElse.ensures) c.requires.texts in (
      omega (arith, c.decreases, deep),
      (omega (arith, c.requires.few, count), (all_left HasFewAccesses (lists_in c.as_ref-choice-in-IfElse.result.now.then_body) (lists_in c.as_ref-choice-in-IfElse.result.now.else_body ++ []) few, texts.1.0)),
    )

pub statement_of-push_when-requires : goal.statement_of-push_when-requires
statement_of-push_when-requires t c =
    let deep = ap spelled_depth (raw_spawn _ _ _ c.in-Spawn.is c.as_ref-when.ensures) in
    let count = ap whens (raw_spawn _ _ _ c.in-Spawn.is c.as_ref-when.ensures) in
    let few = subst (λ (b : SpelledBody). All HasFewAccesses (lists_in b)) (raw_spawn _ _ _ c.in-Spawn.is c.as_ref-when.ensures) c.requires.accesses in
    let lists = all_left HasFewAccesses ((raw_access c.as_ref-when.result.now.first ∷ map raw_access c.as_ref-when.result.now.more.items) ∷ lists_in c.as_ref-when.result.now.body) [] few in
    let texts = subst AreContents (raw_spawn _ _ _ c.in-Spawn.is c.as_ref-when.ensures) c.requires.texts in (
      omega (arith, c.decreases, deep),
      (
        omega (arith, c.requires.few, count),
        (
          subst (λ (l : List RawAccess). All HasFewAccesses ((raw_access c.as_ref-when.result.now.first ∷ map raw_access l) ∷ lists_in c.as_ref-when.result.now.body)) (sym c.deref.ensures.value) lists,
          texts.0,
        ),
      ),
    )

pub statement_of-returns-in_ok-statement-in-IfThen : goal.statement_of-returns-in_ok-statement-in-IfThen
statement_of-returns-in_ok-statement-in-IfThen t c =
    let v = c.as_ref-choice.result.now in
    let names = c.args.lookup.now.names.now in
    let old = with_outermost c.args.spawned.now.items in
    let new = with_outermost c.body_of.new.spawned.items in
    let whole = built_if_then names c.as_ref-choice.result.now.document.now c.as_ref-choice.result.now.test c.as_ref-choice.result.now.text.now c.as_ref-choice.result.now.then_body old new c.document-in-IfThen.result
    c.in_ok-text-in-IfThen.text c.in_ok-body-in-IfThen.body c.document-in-IfThen.ensures c.in_ok-text-in-IfThen.ensures c.in_ok-body-in-IfThen.ensures in
    let is = c.in_ok-statement-in-IfThen.ensures
    ∙ ap (λ (e : Statements). If c.document-in-IfThen.result c.as_ref-choice.result.now.test c.in_ok-text-in-IfThen.text c.in_ok-body-in-IfThen.body e Nothing) c.empty.ensures in
    subst (λ (s : SpelledBody). IsBuilt names s old new (statements_of (c.in_ok-statement-in-IfThen.statement ∷ []))) (sym (raw_if_then _ _ _ c.in-IfThen.is c.as_ref-choice.ensures))
    (subst (λ (b : Statements). IsBuilt names (if_then v.document.now v.test v.text.now v.then_body empty) old new b)
    (sym is) whole)

pub statement_of-returns-in_ok-statement-in-IfElse : goal.statement_of-returns-in_ok-statement-in-IfElse
statement_of-returns-in_ok-statement-in-IfElse t c =
    let v = c.as_ref-choice-in-IfElse.result.now in
    let names = c.args.lookup.now.names.now in
    let old = with_outermost c.args.spawned.now.items in
    let mid = with_outermost c.body_of-in-IfElse.new.spawned.items in
    let new = with_outermost c.body_of-in-IfElse-2.new.spawned.items in
    let whole = built_if_else names c.as_ref-choice-in-IfElse.result.now.document.now c.as_ref-choice-in-IfElse.result.now.test c.as_ref-choice-in-IfElse.result.now.text.now c.as_ref-choice-in-IfElse.result.now.then_body c.as_ref-choice-in-IfElse.result.now.else_body old mid new
    c.document-in-IfElse.result c.in_ok-text-in-IfElse.text c.in_ok-then_body-in-IfElse.then_body c.in_ok-else_body-in-IfElse.else_body c.document-in-IfElse.ensures
    c.in_ok-text-in-IfElse.ensures c.in_ok-then_body-in-IfElse.ensures c.in_ok-else_body-in-IfElse.ensures in
    subst (λ (s : SpelledBody). IsBuilt names s old new (statements_of (c.in_ok-statement-in-IfElse.statement ∷ []))) (sym (raw_if_else _ _ _ c.in-IfElse.is c.as_ref-choice-in-IfElse.ensures))
    (subst (λ (b : Statements). IsBuilt names (if_else v.document.now v.test v.text.now v.then_body v.else_body empty) old new b)
    (sym c.in_ok-statement-in-IfElse.ensures) whole)
