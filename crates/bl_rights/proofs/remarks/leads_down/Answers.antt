use Rattle.std.proofs.Common.{◌≡◌, ap, ap₂, sym, ◌∙◌}
use Rattle.std.specs.Prelude.{◌&&◌, not}
use Rattle.std.specs.List.{list_any}
use Rattle.bl_level.specs.Level.{SecurityLevel}
use Rattle.bl_policy.specs.Policy.{level_of}
use Rattle.bl_rights.specs.Remarks.{alters_below, can_look, is_above}
use Rattle.bl_rights.specs.Rows.{documents_in}
use Rattle.bl_rights.proofs.remarks.leads_down.Goals as goal

pub returns-then-looks : goal.returns-then-looks
returns-then-looks c =
    let p = c.args.policy.now in
    let s = c.args.subject in
    let from = c.args.from in
    let above : list_any (λ o. alters_below p s (level_of p from) o) (documents_in p) ≡ not c.is_above-above.result =
    c.requires.lowest (level_of p from) ∙ sym (ap not (c.is_above-above.ensures ∙ ap (λ (x : SecurityLevel). is_above c.args.low.now x) c.level.ensures)) in
    ap₂ (λ a b. a && b) (sym c.if-looks.true ∙ c.can_look-looks.ensures) (sym above)
