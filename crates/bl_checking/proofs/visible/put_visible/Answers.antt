use Rattle.std.proofs.Common.{◌≡◌, ◌++◌, sym, subst, ◌∙◌}
use Rattle.std.proofs.lemmas.List.{take_rest}
use Rattle.bl_checking.specs.Visible.{bytes}
use Rattle.bl_checking.proofs.Putting.{put_all, put_more}
use Rattle.bl_checking.proofs.visible.put_visible.Goals as goal

pub loop-rest-preserved : goal.loop-rest-preserved
loop-rest-preserved c =
    let next = c.is_inside_after-inside.result in
    let more = put_more c.loop-rest.inside next c.loop-rest.rest.now c.loop-rest.text.items c.put_byte.new.text.items c.in-len1-up.len_at_least c.in_ok-put_byte.ensures
    c.is_inside_after-inside.ensures
    in
    subst (λ rest. c.put_byte.new.text.items ++ bytes next rest ≡ c.args.text.now.items ++ bytes c.args.is_inside c.args.bytes.now) (sym (take_rest c.loop-rest.rest.now 1))
    (more ∙ c.loop-rest.invariant)

pub returns : goal.returns
returns c = put_all c.loop-rest.inside c.loop-rest.rest.now _ _ c.in_default.len_below c.loop-rest.invariant
