use Rattle.std.proofs.lemmas.Result.{on_ok_weaker}
use Rattle.bl_explaining.proofs.Nexts.{shown-next}
use Rattle.bl_explaining.proofs.several.+put_each.Goals as goal

pub returns-in_ok-_places-in-len1-up : goal.returns-in_ok-_places-in-len1-up
returns-in_ok-_places-in-len1-up t c =
    on_ok_weaker c.put_each.result
    (λ shown. shown-next c.args.setting.now c.args.accesses.now c.first-item.result c.in_ok-_places-in-len1-up._places c.args.text.now.items
    c.put_access.new.text.items c.put_each.new.text.items c.in-len1-up.len_at_least c.first-item.is
    c.in_ok-_places-in-len1-up.ensures.places c.in_ok-_places-in-len1-up.ensures.text shown)
    c.put_each.ensures
