use Rattle.std.proofs.Common.{◌≡◌, ◌-◌, length, take, drop, ap, sym, subst, ◌∙◌}
use Rattle.std.proofs.lemmas.List.{take_rest}
use Rattle.bl_checking.specs.Telling.{put_dues}
use Rattle.bl_checking.proofs.Putting.{dues_all, dues_more}
use Rattle.bl_checking.proofs.words.put_dues.Goals as goal

pub loop-rest-preserved : goal.loop-rest-preserved
loop-rest-preserved c =
    let rest = c.loop-rest.rest.now in
    let more = dues_more rest _ c.loop-rest.text.items c.put_due.new.text.items c.extend_from_slice.new.self.items c.separator.result.now (length (take (length rest - 1) (drop 1 rest))) c.in-len1-up.len_at_least
    c.in_ok-put_due.ensures (ap length (take_rest rest 1)) c.separator.ensures c.in_ok-extend_from_slice.ensures.items
    in
    subst (λ others. put_dues c.extend_from_slice.new.self.items others ≡ put_dues c.args.text.now.items c.args.dues.now) (sym (take_rest rest 1)) (more ∙ c.loop-rest.invariant)

pub returns : goal.returns
returns c = dues_all c.loop-rest.rest.now _ _ c.in_default.len_below c.loop-rest.invariant
