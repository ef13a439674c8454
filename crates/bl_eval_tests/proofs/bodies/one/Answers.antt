use Rattle.std.proofs.Common.{◌≡◌, List, [], ◌∷◌, sym, subst}
use Rattle.bl_work.specs.Statements.{Part}
use Rattle.bl_work.specs.Script.{IsScript}
use Rattle.bl_eval_tests.proofs.Handmade.{one-script}
use Rattle.bl_eval_tests.proofs.bodies.one.Goals as goal

pub new-requires : goal.new-requires
new-requires c =
    let part : Part = record { accesses = c.args.accesses; body = c.args.body } in
    let e : c.new-behaviour.result ∷ c.new-spawned.result.items ≡ part ∷ [] = λ i. c.new-behaviour.ensures i ∷ c.new-spawned.ensures.items i in
    subst (λ (l : List Part). IsScript l) (sym e) (one-script part c.requires.behaviour c.requires.alone c.requires.shallow)
