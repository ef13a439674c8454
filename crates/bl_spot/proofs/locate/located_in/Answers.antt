use Rattle.std.proofs.Common.{◌≡◌, [], ap, sym, subst, ◌∙◌, arith, rules}
use Rattle.std.specs.Prelude.{IfSome, MatchOption}
use Rattle.bl_level.specs.Token.{toks}
use Rattle.bl_declare.specs.Declaration.{spell_declaration}
use Rattle.bl_declare.specs.Words.{declaration_of}
use Rattle.bl_declare.specs.declared.fault.SetupFaultKind.TheVariants as kinds
use Rattle.bl_due.specs.Due.{Spells}
use Rattle.bl_due.specs.Misfits.{IsMisfit}
use Rattle.bl_spot.specs.Located.{AreAtFault}
use Rattle.bl_spot.proofs.Lengths.{tokens_fit}
use Rattle.bl_spot.proofs.Places.{whole_cut}
use Rattle.bl_spot.proofs.Spots.{line_has, spot_there}
use Rattle.bl_spot.proofs.locate.located_in.Goals as goal

pub returns-in-Some : goal.returns-in-Some
returns-in-Some c = λ after before fault.
    let is : c.args.kind ≡ kinds.Syntax = search rules in
    let misfit = subst (λ o. MatchOption o (Spells c.section.result c.args.line.now) (IsMisfit c.section.result c.args.line.now)) c.in-Some.is c.in_ok-misfit.ensures in
    (is, subst (λ section. IsMisfit section c.args.line.now c.in-Some.misfit) (c.section.ensures after before) misfit)

pub fault_of-requires-clause-few : goal.fault_of-requires-clause-few
fault_of-requires-clause-few c =
    omega (arith, c.requires, tokens_fit c.args.line.now [] (spell_declaration (declaration_of c.in-Ok.words)) c.in-Ok.ensures.spelled)

pub fault_of-requires-clause-are : goal.fault_of-requires-clause-are
fault_of-requires-clause-are c =
    let lexed = c.in_ok-lexed.lexed in
    ap toks c.as_slice.ensures.value
    ∙ (whole_cut c.args.line.now (toks lexed.tokens.items) lexed.places.items lexed.broken (declaration_of c.in-Ok.words) c.in_ok-lexed.ensures.cut c.in-Ok.ensures.spelled).0

pub returns-in-Some-extent_of : goal.returns-in-Some-extent_of
returns-in-Some-extent_of c = λ after before fault.
    let line = c.args.line.now in
    let d = declaration_of c.in-Ok.words in
    let lexed = c.in_ok-lexed.lexed in
    let found = c.in-Some-2.fault in
    let other : c.args.kind ≡ kinds.Syntax → ⊥ = search rules in
    let has = line_has after line c.args.kind d c.in-Ok.ensures.spelled other fault in
    let tells : AreAtFault after d c.args.kind found.first found.last found.reason =
    subst (λ o. IfSome o (λ f. AreAtFault after d c.args.kind f.first f.last f.reason)) c.in-Some-2.is (c.in_ok-fault.ensures.tells after c.args.kind before has.due has.fault)
    in
    spot_there after line c.args.kind d (toks lexed.tokens.items) lexed.places.items lexed.broken found.first found.last
    (record { at = c.in-Some-extent_of.extent.at; len = c.in-Some-extent_of.extent.len; reason = found.reason }) c.in-Ok.ensures.spelled c.in_ok-lexed.ensures.cut has.due tells
    c.in-Some-extent_of.ensures
