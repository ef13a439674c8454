use Rattle.std.proofs.Common.{[], ◌∷◌, ◌++◌, sym, ap, ◌∙◌}
use Rattle.bl_order.specs.Now.{content_now}
use Rattle.bl_next.proofs.Ends.{nothing-runs, tabled-more}
use Rattle.bl_next.proofs.next.contents_of.Goals as goal

pub unreachable-requires : goal.unreachable-requires
unreachable-requires c =
    let held = c.in_default.ensures.none in
    nothing-runs c.args.core.now held.0 (c.each_place_has_a_phase.ensures c.args.core.now c.policy-policy.ensures.reached) c.requires held.1

pub loop-doc-preserved : goal.loop-doc-preserved
loop-doc-preserved c =
    c.in_ok-push.ensures.items
    ∙ (λ i. c.loop-doc.invariant i ++ (c.in_ok-share.ensures ∙ c.in-Some.ensures.value ∙ ap (content_now c.args.core.now) c.new.ensures) i ∷ [])
    ∙ sym (tabled-more c.loop-doc.doc (content_now c.args.core.now))
