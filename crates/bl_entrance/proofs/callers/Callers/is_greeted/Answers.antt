use Rattle.std.proofs.Common.{◌≡◌, ◌∙◌, ◌<◌, get_or, length, Some, false, sym, ap, arith}
use Rattle.std.specs.Option.{option_map_or}
use Rattle.std.proofs.lemmas.List.{get_or-map, length-map}
use Rattle.bl_entrance.specs.Calling.{Calling, at, calling_of}
use Rattle.bl_entrance.proofs.Callings.{at-none, at-some}
use Rattle.bl_entrance.proofs.callers.Callers.is_greeted.Goals as goal

pub index-requires : goal.index-requires
index-requires c =
    let callers = c.self.inside.callers in
    omega (arith, c.in-Some.ensures.within, ap length c.self.view_is, length-map callers.items calling_of, callers.ok.0)

pub returns-in-Some : goal.returns-in-Some
returns-in-Some c =
    let callers = c.self.inside.callers.items in
    let callings = c.args.self.now in
    let caller = c.index.result.now in
    let lt : c.in-Some.i < length callers = omega (arith, c.in-Some.ensures.within, ap length c.self.view_is, length-map callers calling_of) in
    let here : at c.args.number callings ≡ Some (calling_of caller) =
    at-some c.args.number callings c.in-Some.i (calling_of caller) (sym c.in-Some.ensures.place)
    ∙ ap (λ l. Some (get_or l c.in-Some.i (calling_of caller))) (sym c.self.view_is)
    ∙ ap Some (get_or-map calling_of callers c.in-Some.i caller (calling_of caller) lt ∙ ap calling_of (sym c.index.ensures)) in
    sym (ap (λ o. option_map_or (λ (calling : Calling). calling.greeted) o false) here)

pub returns-in-None : goal.returns-in-None
returns-in-None c = sym (ap (λ o. option_map_or (λ (calling : Calling). calling.greeted) o false) (at-none c.args.number c.args.self.now (sym c.in-None.ensures.place)))
