use Rattle.std.proofs.Common.{sym, arith, true≢false, ◌∙◌}
use Rattle.bl_name.specs.declared.token.Sign.TheVariants.{Comma}
use Rattle.bl_name.specs.Token.{name, sign}
use Rattle.bl_level.proofs.ReadingLevels.{step_comma, step_close, no_list, no_more, shorter}
use Rattle.bl_level.proofs.scheme.Scheme.read_categories.Goals as goal

pub categories-preserved : goal.categories-preserved
categories-preserved c =
    λ result on. c.categories.invariant result
    (step_comma c.args.self.now c.categories.so_far c.with_category-so_far.result c.categories.rest.now c.in-Some.behind.now c.in-Some-after_sign.more.now
    c.in-Some.category.now c.in-Some.ensures.some c.in-Some-after_sign.ensures.some c.with_category-so_far.ensures result on)

pub categories-smaller : goal.categories-smaller
categories-smaller c =
    omega (
      arith,
      shorter c.categories.rest.now (name c.in-Some.category.now) c.in-Some.behind.now c.in-Some.ensures.some,
      shorter c.in-Some.behind.now (sign Comma) c.in-Some-after_sign.more.now c.in-Some-after_sign.ensures.some,
    )

pub returns-then-closes : goal.returns-then-closes
returns-then-closes c =
    let closing = c.closes.ensures.0 c.if-closes.true in
    c.categories.invariant c.with_category-so_far.result
    (step_close c.args.self.now c.categories.so_far c.with_category-so_far.result c.categories.rest.now c.in-Some.behind.now closing.0
    c.in-Some.category.now c.in-Some.ensures.some closing.1 closing.2 c.with_category-so_far.ensures)

pub returns-in-None : goal.returns-in-None
returns-in-None c =
    c.categories.invariant _
    (no_list c.args.self.now c.categories.so_far c.categories.rest.now
    (no_more c.categories.rest.now c.in-Some.behind.now c.in-Some.category.now c.in-Some.ensures.some c.in-None.ensures.none
    (λ more close done. true≢false (sym (c.closes.ensures.1 (more, close, done)) ∙ c.if-closes.false))))
