use Rattle.std.proofs.Common.{rules, ◌≡◌, ◌∙◌, ◌==◌, ◌++◌, [], ◌∷◌, Some, None, position, ◌+◌, ◌≤◌, ap, sym, subst, take, arith, length-take, take-take}
use Rattle.bl_wire.specs.Lines.{HasNoLf}
use Rattle.bl_wire.proofs.Parts.{before_lf, no_lf}
use Rattle.bl_wire.proofs.part.scan.Goals as goal

pub returns-in-Some-clause-found : goal.returns-in-Some-clause-found
returns-in-Some-clause-found c =
    let shown = c.args.shown.now in
    let most = c.min-most.result in
    let at = c.in-Some.at in
    let found : position (λ b. b == 10) (take most shown) ≡ Some at = search rules in
    let b = before_lf (take most shown) at found in
    let long = length-take most shown in
    let within : at + 1 ≤ most = omega (arith, long, b.2) in
    let front : take at shown ≡ take at (take most shown) = sym (take-take at most shown (omega arith)) in
    record {
      some = take at shown;
      plain = subst HasNoLf (sym front) b.0;
      within = omega (arith, long, b.2, c.min-most.ensures);
      fits = omega (arith, within, c.min-most.ensures);
      front = sym (take-take (at + 1) most shown within) ∙ b.1 ∙ ap (λ l. l ++ 10 ∷ []) (sym front);
      holds = search rules;
      kind = tt;
    }

pub returns-in-None-clause-found : goal.returns-in-None-clause-found
returns-in-None-clause-found c =
    let shown = c.args.shown.now in
    let most = c.min-most.result in
    let found : position (λ b. b == 10) (take most shown) ≡ None = search rules in
    record {
      some = take most shown;
      plain = no_lf (take most shown) found;
      within = omega (arith, c.min-most.ensures);
      fits = omega (arith, c.min-most.ensures);
      front = search rules;
      holds = search rules;
      kind = omega (arith, length-take most shown, c.min-most.ensures);
    }
