use Rattle.std.proofs.Common.{◌≡◌, sym, subst, ◌∙◌}
use Rattle.std.proofs.lemmas.List.{take_rest}
use Rattle.bl_checking.specs.Visible.{is_inside_behind}
use Rattle.bl_checking.proofs.Putting.{behind_all, behind_more}
use Rattle.bl_checking.proofs.visible.is_inside_behind.Goals as goal

pub loop-rest-preserved : goal.loop-rest-preserved
loop-rest-preserved c =
    let next = c.is_inside_after-inside.result in
    subst (λ rest. is_inside_behind next rest ≡ is_inside_behind c.args.is_inside c.args.bytes.now) (sym (take_rest c.loop-rest.rest.now 1))
    (behind_more c.loop-rest.inside next c.loop-rest.rest.now c.in-len1-up.len_at_least c.is_inside_after-inside.ensures ∙ c.loop-rest.invariant)

pub returns : goal.returns
returns c = behind_all c.loop-rest.inside _ c.loop-rest.rest.now c.in_default.len_below c.loop-rest.invariant
