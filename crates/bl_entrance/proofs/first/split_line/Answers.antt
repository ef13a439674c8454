use Rattle.std.proofs.Common.{◌==◌, ◌+◌, length, sym, arith, add-one}
use Rattle.std.proofs.lemmas.List.{take_rest, drop_all}
use Rattle.std.proofs.lemmas.List.Quantifiers.{position-Some}
use Rattle.bl_entrance.proofs.FirstLines.{lines-at, lines-whole, none-passes}
use Rattle.bl_entrance.proofs.first.split_line.Goals as goal

pub returns-in-Some-clause-lines : goal.returns-in-Some-clause-lines
returns-in-Some-clause-lines c =
    let text = c.args.text.now in
    let at = c.in-Some.at in
    let found = position-Some (λ b. b == 10) text at 0 (sym c.in-Some.ensures.place) in
    rw (take_rest text (at + 1), add-one) (lines-at text at found.0 found.1 found.2)

pub returns-in-None-clause-lines : goal.returns-in-None-clause-lines
returns-in-None-clause-lines c =
    let text = c.args.text.now in
    rw (take_rest text (length text), drop_all (length text) text (omega arith)) (lines-whole text c.requires (none-passes (λ b. b == 10) text (sym c.in-None.ensures.place)))
