use Rattle.std.proofs.Common.{◌≡◌, ◌+◌, ◌∙◌, ap, drop, length, arith}
use Rattle.bl_work.specs.Body.{statements_of}
use Rattle.bl_work.specs.SpelledDepth.{spelled_depth}
use Rattle.bl_write.specs.Unread.{unread_at}
use Rattle.bl_write.proofs.Walking.{body_at, depth_of_each}
use Rattle.bl_sizes.specs.Counts.{in_word}
use Rattle.bl_sizes.specs.Sizes.{coming_in, most_of}
use Rattle.bl_sizes.proofs.Spending.{coming-is}
use Rattle.bl_sizes.proofs.Walking.{below-each, below-script, drop-all, most-on, no_names}
use Rattle.bl_sizes.proofs.most.+most.Goals as goal

pub coming_in-most_of-requires : goal.coming_in-most_of-requires
coming_in-most_of-requires t c =
    let script = c.args.script.now in
    let depth = ap spelled_depth (body_at no_names script c.args.index _ c.requires.index c.body-statements.ensures.value c.requires.script.preorder) in (
      omega (arith, c.decreases, depth),
      (c.requires.script, below-script script c.requires.script.preorder c.args.index c.requires.index _ c.body-statements.ensures.value),
    )

pub coming_in-returns : goal.coming_in-returns
coming_in-returns t c =
    let script = c.args.script.now in
    omega (
      arith,
      c.most_of.ensures,
      coming-is script c.requires.script.preorder c.args.index c.requires.index,
      ap (most_of (coming_in script)) c.body-statements.ensures.value,
    )

pub most_of-most_of_one-requires : goal.most_of-most_of_one-requires
most_of-most_of_one-requires t c =
    let items = c.args.statements.now in
    let script = c.args.script.now in
    let depth = depth_of_each no_names (unread_at no_names script) items c.loop-statement.statement-index c.statement-item.result (omega arith) c.statement-item.is in (
      omega (arith, c.decreases, depth),
      (c.requires.script, below-each (length script) items c.loop-statement.statement-index c.statement-item.result (omega arith) c.statement-item.is c.requires.within),
    )

pub most_of-loop-statement-preserved : goal.most_of-loop-statement-preserved
most_of-loop-statement-preserved t c =
    let items = c.args.statements.now in
    let coming = coming_in c.args.script.now in
    let i = c.loop-statement.statement-index in
    let now : c.saturating_add-most.result ≡ in_word (c.loop-statement.most + c.most_of_one.result) = omega arith in (
      ap (λ m. in_word (m + most_of coming (statements_of (drop (i + 1) items)))) now
          ∙ most-on coming c.loop-statement.most c.most_of_one.result items i c.statement-item.result (omega arith) c.statement-item.is c.most_of_one.ensures
          ∙ c.loop-statement.invariant.0,
      omega (arith, now),
    )

pub most_of-returns : goal.most_of-returns
most_of-returns t c =
    let items = c.args.statements.now in
    let coming = coming_in c.args.script.now in
    let none : most_of coming (statements_of (drop c.loop-statement.statement-index items)) ≡ 0 = ap (λ l. most_of coming (statements_of l)) (drop-all c.loop-statement.statement-index items (omega arith)) in
    omega (arith, c.loop-statement.invariant.0, c.loop-statement.invariant.1, none)
