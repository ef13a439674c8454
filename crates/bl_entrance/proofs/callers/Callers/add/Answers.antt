use Rattle.std.proofs.Common.{◌∙◌, ◌++◌, ◌∷◌, [], List, ap, false}
use Rattle.std.specs.Prelude.{map}
use Rattle.std.proofs.lemmas.List.{map-append}
use Rattle.bl_entrance.specs.Calling.{Calling, calling_of}
use Rattle.bl_entrance.specs.declared.callers.Caller.{Caller}
use Rattle.bl_entrance.proofs.callers.Callers.add.Goals as goal

pub returns-clause-ok : goal.returns-clause-ok
returns-clause-ok c =
    let caller : Caller = record { number = c.args.number; from = c.args.from; greeted = false } in
    ap (map calling_of) c.in_ok-push.ensures.items
    ∙ map-append calling_of c.self.inside.callers.items (caller ∷ [])
    ∙ ap (λ (l : List Calling). l ++ calling_of caller ∷ []) c.self.view_is
