use Rattle.std.proofs.Common.{◌≡◌, ◌<◌, get_or, length, refl, subst, sym}
use Rattle.std.specs.Prelude.{IfOk}
use Rattle.std.proofs.lemmas.List.{get_or_read_under}
use Rattle.std.proofs.lemmas.Option.{slice_get_within}
use Rattle.bl_policy.specs.declared.access.Access.{Access}
use Rattle.bl_policy.specs.declared.access.Mode.TheVariants.{Read}
use Rattle.bl_explain_text.specs.Telling.{verdict}
use Rattle.bl_explaining.specs.Explained.{IsDecided}
use Rattle.bl_explaining.specs.Shown.{grounds_in}
use Rattle.bl_explaining.proofs.several.decision_line.Goals as goal

pub bounds-accesses-refused : goal.bounds-accesses-refused
bounds-accesses-refused c =
    let accesses = c.args.accesses.now in
    let decides = subst (IsDecided c.args.setting.now accesses) c.in-Some.is c.requires.decided in
    slice_get_within accesses c.in-Some.refused.place decides.access decides.at

pub first_line-requires-clause-there : goal.first_line-requires-clause-there
first_line-requires-clause-there c =
    let t = c.args.setting.now in
    let accesses = c.args.accesses.now in
    let place = c.in-Some.refused.place in
    let decides = subst (IsDecided t accesses) c.in-Some.is c.requires.decided in
    let within = slice_get_within accesses place decides.access decides.at in
    subst (λ (a : Access). a.doc < length t.moment.setup.now.names.documents) (sym c.index-accesses-refused.is)
    (c.requires.there place c.index-accesses-refused.result within)

pub returns-in-Some : goal.returns-in-Some
returns-in-Some c =
    let t = c.args.setting.now in
    let accesses = c.args.accesses.now in
    let place = c.in-Some.refused.place in
    let decides = subst (IsDecided t accesses) c.in-Some.is c.requires.decided in
    let within = slice_get_within accesses place decides.access decides.at in
    let none' : Access = record { mode = Read; doc = 0 } in
    let is : c.index-accesses-refused.result ≡ get_or accesses place none' =
    get_or_read_under accesses place (length accesses) c.index-accesses-refused.result none' c.index-accesses-refused.is within refl in
    rw c.in-Some.is
    (subst (λ (a : Access). IfOk c.first_line.result (λ line. line.items ≡ verdict t.moment.setup.now.names t.subject a (grounds_in t a))) is c.first_line.ensures)
