use Rattle.std.proofs.Common.{sym, ap, ◌∙◌}
use Rattle.bl_level.specs.FrontView.{front_view}
use Rattle.bl_syntax.specs.RawView.{raw_view}
use Rattle.bl_syntax.proofs.Ends.{exits_line, whole_line, broken_inside, broken_line, token_line}
use Rattle.bl_syntax.proofs.parse.parse_line.Goals as goal

pub returns-in_err-line : goal.returns-in_err-line
returns-in_err-line c = exits_line _ c.args.bytes.now _ _ c.from_residual.ensures.1 (rw c.new-cursor.ensures.left at c.in_err-line.ensures.gives)

pub returns-in-Nothing : goal.returns-in-Nothing
returns-in-Nothing c =
    whole_line _ (raw_view c.in_ok-line.line) _ (sym c.new-cursor.ensures.left ∙ c.in_ok-line.ensures.gives.0) (c.in_ok-line.ensures.ending ∙ c.new-cursor.ensures.ending)
    (ap front_view c.in-Nothing.is)

pub overflow_sub-result : goal.overflow_sub-result
overflow_sub-result c = broken_inside _ _ _ (c.in_ok-line.ensures.ending ∙ c.new-cursor.ensures.ending) (ap front_view c.in-Broken.is)

pub returns-in-Broken : goal.returns-in-Broken
returns-in-Broken c =
    broken_line _ (raw_view c.in_ok-line.line) _ _ (sym c.new-cursor.ensures.left ∙ c.in_ok-line.ensures.gives.0) (c.in_ok-line.ensures.ending ∙ c.new-cursor.ensures.ending)
    (ap front_view c.in-Broken.is)

pub returns : goal.returns
returns c =
    rw c.stop.ensures
    (token_line _ (raw_view c.in_ok-line.line) _ _ _ (sym c.new-cursor.ensures.left ∙ c.in_ok-line.ensures.gives.0) c.in_ok-line.ensures.gives.1 (ap front_view c.in-Token.is))
