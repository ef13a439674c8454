use Rattle.std.proofs.Common.{◌∷◌, map}
use Rattle.std.specs.Prelude.{Contains}
use Rattle.std.proofs.lemmas.List.Elements.{All-append}
use Rattle.bl_syntax.specs.RawBodies.{raw_access}
use Rattle.bl_work.specs.WhenFaults.{documents_in, names_in}
use Rattle.bl_work.specs.FirstWhenFault.{same_name}
use Rattle.bl_check.proofs.Firsts.{first_before, first_behind, leaves}
use Rattle.bl_check.proofs.known.look_up_when.Goals as goal

pub returns-in_err-accesses : goal.returns-in_err-accesses
returns-in_err-accesses c =
    let known = Contains c.args.names.now.documents in
    leaves _ known same_name _ _ _ c.from_residual.ensures.1
    (first_before known same_name (documents_in (raw_access c.args.first ∷ map raw_access c.args.more.now)) (names_in c.args.body.now) _ c.in_err-accesses.ensures)

pub returns-in_err-check_known : goal.returns-in_err-check_known
returns-in_err-check_known c =
    let known = Contains c.args.names.now.documents in
    leaves _ known same_name _ _ _ c.from_residual-in_err-check_known.ensures.1
    (first_behind known same_name (documents_in (raw_access c.args.first ∷ map raw_access c.args.more.now)) (names_in c.args.body.now) _ c.in_ok-accesses.ensures.0
    c.in_err-check_known.ensures)

pub returns : goal.returns
returns c = (
  All-append (Contains c.args.names.now.documents) (documents_in (raw_access c.args.first ∷ map raw_access c.args.more.now)) (names_in c.args.body.now)
      c.in_ok-accesses.ensures.0 c.in_ok-check_known.ensures,
  c.in_ok-accesses.ensures.1,
)
