use Rattle.std.proofs.Common.{◌≡◌, ◌++◌, ◌∷◌, ◌∙◌, [], ap, sym, true≢false}
use Rattle.std.specs.Prelude.{codes}
use Rattle.bl_trail.proofs.Following.{is_empty, is_more, not_empty}
use Rattle.bl_explaining_event.proofs.Ending.{all-over, more-there, no-line, wrong-line}
use Rattle.bl_explaining_event.proofs.course.verdict_behind.Goals as goal

pub returns-in_default : goal.returns-in_default
returns-in_default c x text events followed none counted =
    no-line x text c.args.rest.now events followed none c.args.count counted c.in_default.ensures

pub returns-then-not-is_stop : goal.returns-then-not-is_stop
returns-then-not-is_stop c x text events followed none counted =
    wrong-line x text c.args.rest.now events followed none c.args.count counted c.in-Some.line.now c.in-Some.behind.now c.in-Some.ensures
    (λ is. true≢false (sym (c.is_stop.ensures.1 is) ∙ c.if-not-is_stop.true))

pub returns-then-is_empty : goal.returns-then-is_empty
returns-then-is_empty c x text events followed none counted =
    let cut = c.in-Some.ensures in
    let over : c.in-Some.behind.now ≡ [] = is_empty c.in-Some.behind.now (sym c.is_empty.ensures ∙ c.if-is_empty.true) in
    all-over x text c.args.rest.now events followed none c.args.count counted
    (cut.split ∙ ap (λ l. l ++ 10 ∷ c.in-Some.behind.now) (c.is_stop.ensures.0 c.if-not-is_stop.false) ∙ ap (λ r. codes "stop" ++ 10 ∷ r) over)

pub returns : goal.returns
returns c x text events followed none counted =
    let cut = c.in-Some.ensures in
    more-there x text c.args.rest.now events followed none c.args.count counted c.in-Some.behind.now
    (cut.split ∙ ap (λ l. l ++ 10 ∷ c.in-Some.behind.now) (c.is_stop.ensures.0 c.if-not-is_stop.false))
    (is_more c.in-Some.behind.now (not_empty c.in-Some.behind.now (sym c.is_empty.ensures ∙ c.if-is_empty.false)))
