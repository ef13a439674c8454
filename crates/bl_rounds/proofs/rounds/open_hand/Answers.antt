use Rattle.std.proofs.Common.{◌≡◌, ◌∙◌, None, Some, sym, subst}
use Rattle.bl_rounds.specs.Going.{IsAtRest, IsOpen}
use Rattle.bl_rounds.proofs.Going.{rest_made}
use Rattle.bl_rounds.proofs.rounds.open_hand.Goals as goal

pub returns-in-None-clause-rest : goal.returns-in-None-clause-rest
returns-in-None-clause-rest c first pass rest =
    let made = c.in_ok-made.made in
    let none : c.args.hand.now ≡ None = sym c.replace.ensures.value ∙ c.in-None.is in
    let after : c.replace.new.self ≡ Some made = c.replace.ensures.after in
    subst (IsAtRest first pass) (sym after) (rest_made first pass c.args.hand.now made none (c.in_ok-made.ensures pass) rest)

pub returns-in-None-clause-opened : goal.returns-in-None-clause-opened
returns-in-None-clause-opened c seats opened =
    let after : c.replace.new.self ≡ Some c.in_ok-made.made = c.replace.ensures.after in
    subst (λ hand. IsOpen hand seats) (sym after) tt

pub returns-in-None-clause-ok : goal.returns-in-None-clause-ok
returns-in-None-clause-ok c seats =
    let after : c.replace.new.self ≡ Some c.in_ok-made.made = c.replace.ensures.after in
    subst (λ hand. IsOpen hand seats) (sym after) tt
