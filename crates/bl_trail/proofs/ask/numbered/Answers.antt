use Rattle.std.proofs.Common.{sym, ◌∙◌, ap}
use Rattle.std.specs.Prelude.{option_copied}
use Rattle.bl_trail.proofs.OneEventLaw.{number-cut}
use Rattle.bl_trail.proofs.ask.numbered.Goals as goal

pub returns-in-None : goal.returns-in-None
returns-in-None c n rest small is =
    let cut = number-cut c.args.text.now n rest small is in
    let found = sym (ap option_copied c.in-None.is) ∙ c.split_word.ensures.behind ∙ cut.1 in
    absurd (cc)

pub returns-in-Some-number : goal.returns-in-Some-number
returns-in-Some-number c n rest small is =
    let cut = number-cut c.args.text.now n rest small is in
    let found = sym (ap option_copied c.in-Some.is) ∙ c.split_word.ensures.behind ∙ cut.1 in
    let number = c.number.ensures n small (c.split_word.ensures.before ∙ cut.0) in
    cc

pub returns-in-None-number : goal.returns-in-None-number
returns-in-None-number c n rest small is =
    let cut = number-cut c.args.text.now n rest small is in
    let number = c.number.ensures n small (c.split_word.ensures.before ∙ cut.0) in
    absurd (cc)
