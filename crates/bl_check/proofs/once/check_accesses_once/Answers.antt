use Rattle.std.proofs.Common.{[], inl, inr, sym, subst, ◌∙◌, arith}
use Rattle.std.specs.Prelude.{All}
use Rattle.std.proofs.lemmas.Bool.{false≢true}
use Rattle.std.proofs.lemmas.List.{take_all}
use Rattle.std.proofs.lemmas.List.Elements.{All-cons}
use Rattle.bl_work.specs.WhenFaults.{IsOnce}
use Rattle.bl_check.proofs.Passes.{no_access}
use Rattle.bl_check.proofs.Declared.{is_same, is_other, behind_first, first_once, once_goes_on_at, once_stops_at}
use Rattle.bl_check.proofs.once.check_accesses_once.Goals as goal
use Rattle.bl_check.proofs.once.check_accesses_once.Goals.{then-eq-via-then-eq, then-eq-via-else-eq+then-has_document}

pub returns-then-eq : goal.returns-then-eq
returns-then-eq c =
    elim c.then-eq.branch [
      | then-eq-via-then-eq w ↦ once_stops_at c.args.first.document.now c.args.more.now c.loop-i.i no_access (omega arith) c.loop-i.invariant (inl (is_same _ _ w.if-eq.ensures))
      | then-eq-via-else-eq+then-has_document w ↦
          once_stops_at c.args.first.document.now c.args.more.now c.loop-i.i no_access (omega arith) c.loop-i.invariant
          (inr (w.has_document.ensures.0 w.if-has_document.true))
    ]

pub loop-i-preserved : goal.loop-i-preserved
loop-i-preserved c =
    once_goes_on_at c.args.first.document.now c.args.more.now c.loop-i.i no_access (omega arith) c.loop-i.invariant (is_other _ _ c.if-eq.ensures)
    (λ there. false≢true (sym c.if-has_document.false ∙ c.has_document.ensures.1 there))

pub returns : goal.returns
returns c =
    let first = c.args.first.document.now in
    All-cons IsOnce (record { earlier = []; document = first }) (behind_first first c.args.more.now) (first_once first)
    (subst (λ l. All IsOnce (behind_first first l)) (take_all c.loop-i.i c.args.more.now (omega arith)) c.loop-i.invariant)
