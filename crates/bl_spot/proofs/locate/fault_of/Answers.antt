use Rattle.std.proofs.Common.{sym, subst}
use Rattle.bl_declare.specs.Words.{declaration_of}
use Rattle.bl_spot.specs.Asking.{Fails, ask}
use Rattle.bl_spot.specs.Located.{IsReasonOf, AreAtFault}
use Rattle.bl_spot.proofs.Spots.{current_of_all, name_told}
use Rattle.bl_spot.proofs.locate.fault_of.Goals as goal

pub returns-in_ok-reason-in-Some-2-clause-tells : goal.returns-in_ok-reason-in-Some-2-clause-tells
returns-in_ok-reason-in-Some-2-clause-tells c = λ after kind before due fault.
    let d = declaration_of c.args.words.now in
    let asked = c.in-Some-2.asked in
    let reason = c.in_ok-reason-in-Some-2.reason in
    let fails = subst (Fails (ask after d)) c.in-Some-2.is (c.in_ok-asked.ensures after before due) in
    let is = subst (λ tokens. IsReasonOf after tokens asked reason) c.requires.are (c.in_ok-reason-in-Some-2.ensures after before) in
    subst (λ f. AreAtFault after d kind f.first f.last f.reason) (sym c.at_token-in-Some-2.ensures)
    (name_told after d kind fault (c.in_default.ensures after before due) asked fails reason is)

pub returns-in-None : goal.returns-in-None
returns-in-None c = record {
  order = c.current_of.ensures.order;
  tells = λ after kind before due fault.
      let d = declaration_of c.args.words.now in
      let hold = subst (Fails (ask after d)) c.in-None.is (c.in_ok-asked.ensures after before due) in
      current_of_all after d kind fault (c.in_default.ensures after before due) hold c.current_of.result c.current_of.ensures.is c.current_of.ensures.reason;
}
