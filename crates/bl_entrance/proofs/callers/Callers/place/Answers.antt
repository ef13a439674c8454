use Rattle.std.proofs.Common.{rules, tests, ◌∙◌, nat_eq, sym, ap}
use Rattle.std.proofs.lemmas.Iterator.{YieldsList-from_slice}
use Rattle.std.proofs.lemmas.Iterator.Search.{position_from_yields_List}
use Rattle.bl_entrance.specs.Calling.{Calling, calling_of, place_of}
use Rattle.bl_entrance.specs.declared.callers.Caller.{Caller}
use Rattle.bl_entrance.proofs.Callings.{position-map, within-some}
use Rattle.bl_entrance.proofs.callers.Callers.place.Goals as goal

pub returns-clause-place : goal.returns-clause-place
returns-clause-place c =
    let number = c.args.number in
    let callers = c.self.inside.callers.items in
    let here = position_from_yields_List (λ (caller : Caller). nat_eq caller.number number) _ _ c.position.result c.position.ensures.ran (YieldsList-from_slice callers cc) (λ x b q k. search (rules, tests)) in
    here ∙ sym (position-map (λ (calling : Calling). nat_eq calling.number number) calling_of callers) ∙ ap (place_of number) c.self.view_is

pub returns-clause-within : goal.returns-clause-within
returns-clause-within c = within-some (λ (calling : Calling). nat_eq calling.number c.args.number) c.args.self.now c.position.result (returns-clause-place c)
