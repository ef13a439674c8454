use Rattle.std.proofs.Common.{◌∙◌, List, length, sym, ap, arith}
use Rattle.std.specs.Prelude.{map}
use Rattle.std.specs.List.{remove}
use Rattle.std.proofs.lemmas.List.{length-map}
use Rattle.bl_entrance.specs.Calling.{Calling, calling_of}
use Rattle.bl_entrance.proofs.Callings.{map-remove, without-none, without-some}
use Rattle.bl_entrance.proofs.callers.Callers.remove.Goals as goal

pub remove-caller-requires : goal.remove-caller-requires
remove-caller-requires c =
    let callers = c.self.inside.callers in
    omega (arith, c.in-Some.ensures.within, ap length c.self.view_is, length-map callers.items calling_of, callers.ok.0)

pub returns-in-Some : goal.returns-in-Some
returns-in-Some c =
    ap (map calling_of) c.remove-caller.ensures.items
    ∙ map-remove calling_of c.self.inside.callers.items c.in-Some.i
    ∙ ap (λ (l : List Calling). remove l c.in-Some.i) c.self.view_is
    ∙ sym (without-some c.args.number c.args.self.now c.in-Some.i (sym c.in-Some.ensures.place))

pub returns-in_default : goal.returns-in_default
returns-in_default c = sym (without-none c.args.number c.args.self.now (sym c.in_default.ensures.place))
