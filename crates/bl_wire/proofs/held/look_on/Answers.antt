use Rattle.std.proofs.Common.{◌≡◌, ◌∙◌, sym, ap, fold, take, drop}
use Rattle.std.proofs.lemmas.List.{take-append-drop}
use Rattle.std.proofs.lemmas.List.Sums.{fold-append}
use Rattle.bl_wire.specs.Look.{look_after}
use Rattle.bl_wire.specs.declared.held.Look.TheVariants.{Filled}
use Rattle.bl_wire.proofs.HeldLines.{filled-stays}
use Rattle.bl_wire.proofs.held.look_on.Goals as goal

-- where a front looks filled, so does the whole
pub returns-in-Filled : goal.returns-in-Filled
returns-in-Filled c =
    let part = c.args.part.now in
    let i = c.loop-byte.byte-index in
    let front : fold look_after c.args.look (take i part) ≡ Filled = sym c.loop-byte.invariant ∙ c.in-Filled.is in
    let whole : fold look_after c.args.look part ≡ fold look_after (fold look_after c.args.look (take i part)) (drop i part) =
    ap (fold look_after c.args.look) (sym (take-append-drop i part)) ∙ fold-append look_after c.args.look (take i part) (drop i part) in
    sym (whole ∙ ap (λ look. fold look_after look (drop i part)) front ∙ filled-stays (drop i part))
