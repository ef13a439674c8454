use Rattle.std.proofs.Common.{set, refl, arith, ap, sym, ◌∙◌}
use Rattle.std.specs.Prelude.{map}
use Rattle.std.proofs.lemmas.List.{get_or-map, length-map, map-set}
use Rattle.bl_entrance.specs.Calling.{calling_of, greeted_by}
use Rattle.bl_entrance.proofs.Callings.{change-all, change-more, change-next, written}
use Rattle.bl_entrance.proofs.callers.Callers.greet.Goals as goal

pub loop-caller-init : goal.loop-caller-init
loop-caller-init c = refl

pub loop-caller-preserved : goal.loop-caller-preserved
loop-caller-preserved c =
    let change = greeted_by c.args.number in
    let items = c.loop-caller.caller-items in
    let old = map calling_of c.deref_mut-caller-items.result.now in
    let now = map calling_of items in
    let i = c.loop-caller.caller-index in
    let one = calling_of c.caller-item.result in
    let long = length-map c.deref_mut-caller-items.result.now calling_of in
    let was = sym (get_or-map calling_of items i c.caller-item.result one (omega arith)) ∙ change-next change old now i one (omega (arith, long)) c.loop-caller.invariant in
    map-set calling_of items i c.greet.new.self
    ∙ ap (set now i) (c.greet.ensures ∙ ap change was)
    ∙ change-more change old now i one (omega (arith, long)) c.loop-caller.invariant

pub returns : goal.returns
returns c =
    let change = greeted_by c.args.number in
    let items = c.deref_mut-caller-items.result.now in
    ap (map calling_of) (written c.self.inside.callers.len c.loop-caller.caller-items c.self.inside.callers.items (c.loop-caller.auto.caller-items ∙ c.deref_mut-caller-items.ensures.len))
    ∙ change-all change (map calling_of items) (map calling_of c.loop-caller.caller-items) c.loop-caller.caller-index (omega (arith, length-map items calling_of)) c.loop-caller.invariant
    ∙ ap (λ l. map change (map calling_of l)) c.deref_mut-caller-items.ensures.value ∙ ap (map change) c.self.view_is
