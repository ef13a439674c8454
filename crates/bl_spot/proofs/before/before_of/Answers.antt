use Rattle.std.proofs.Common.{◌≡◌, length, refl, sym, ◌∙◌, subst, arith}
use Rattle.bl_setup.specs.FirstSetupFault.{nothing, declared}
use Rattle.bl_setup.specs.Grammar.{most_setup_bytes}
use Rattle.bl_setup.specs.Lines.{file_lines, lines_read}
use Rattle.bl_setup.proofs.FirstLemmas.{setup_leads}
use Rattle.bl_spot.specs.declared.before.Before.TheVariants as source
use Rattle.bl_spot.specs.Located.{IsBefore}
use Rattle.bl_spot.proofs.Leading.{leads_one, leads_read, read_so, before_nothing, before_ranked}
use Rattle.bl_spot.proofs.before.before_of.Goals as goal

pub returns-in-0 : goal.returns-in-0
returns-in-0 c = λ after size leads.
    let lines = file_lines c.args.front.now in
    let none : length (lines_read c.args.front.now) ≡ 0 = omega (arith, c.requires, c.in-0.is) in
    before_nothing (length (lines_read c.args.front.now)) after (read_so (lines_read c.args.front.now) after (leads_read nothing lines after leads)) none

pub returns-in-1 : goal.returns-in-1
returns-in-1 c = λ after size leads.
    let lines = file_lines c.args.front.now in
    let one : length (lines_read c.args.front.now) ≡ 1 = omega (arith, c.requires, c.in-1.is) in
    before_ranked (length (lines_read c.args.front.now)) after (read_so (lines_read c.args.front.now) after (leads_read nothing lines after leads)) one

pub returns-in-Ok : goal.returns-in-Ok
returns-in-Ok c = λ after size leads.
    let front = c.args.front.now in
    let same = leads_one nothing (file_lines front) after (declared c.in-Ok.setup) leads (setup_leads most_setup_bytes front c.in-Ok.setup c.in-Ok.ensures.setup) in
    subst (λ x. IsBefore x (source.Declared c.in-Ok.setup)) same refl
