use Rattle.std.proofs.Common.{refl, ap, sym, ◌∙◌, arith}
use Rattle.std.proofs.lemmas.List.{take_all}
use Rattle.bl_work.specs.Body.{statements_of}
use Rattle.bl_work.proofs.Same.{same-length, same-at, same-more}
use Rattle.bl_work.proofs.script.+same.Goals as goal

pub Body::is_same-returns-then-statements-others : goal.Body::is_same-returns-then-statements-others
Body::is_same-returns-then-statements-others t c =
    let mine = ap statements_of c.as_slice-statements.ensures ∙ c.self.view_is in
    let its = ap statements_of c.as_slice-others.ensures ∙ c.other.view_is in (
      λ h. cc,
      λ e. absurd (c.if-statements-others.true (same-length c.as_slice-statements.result.now c.as_slice-others.result.now (mine ∙ e ∙ sym its))),
    )

pub Body::is_same-returns-then-not-is_same : goal.Body::is_same-returns-then-not-is_same
Body::is_same-returns-then-not-is_same t c =
    let mine = ap statements_of c.as_slice-statements.ensures ∙ c.self.view_is in
    let its = ap statements_of c.as_slice-others.ensures ∙ c.other.view_is in (
      λ h. cc,
      λ e. sym c.if-not-is_same.true ∙ c.is_same.ensures.1
          (same-at c.as_slice-statements.result.now c.as_slice-others.result.now c.loop-i.i c.index-statements-i.result c.index-others-i.result
          (mine ∙ e ∙ sym its) (omega arith) (omega arith) c.index-statements-i.is c.index-others-i.is),
    )

pub Body::is_same-loop-i-preserved : goal.Body::is_same-loop-i-preserved
Body::is_same-loop-i-preserved t c =
    same-more c.as_slice-statements.result.now c.as_slice-others.result.now c.loop-i.i c.index-statements-i.result c.index-others-i.result c.loop-i.invariant
    (c.is_same.ensures.0 c.if-not-is_same.false) (omega arith) (omega arith) c.index-statements-i.is c.index-others-i.is

pub Body::is_same-returns : goal.Body::is_same-returns
Body::is_same-returns t c =
    let mine = ap statements_of (take_all c.loop-i.i c.as_slice-statements.result.now (omega arith) ∙ c.as_slice-statements.ensures) ∙ c.self.view_is in
    let its = ap statements_of (take_all c.loop-i.i c.as_slice-others.result.now (omega arith) ∙ c.as_slice-others.ensures) ∙ c.other.view_is in
    (λ h. sym mine ∙ c.loop-i.invariant ∙ its, λ e. refl)
