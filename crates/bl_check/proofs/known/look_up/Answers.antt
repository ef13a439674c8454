use Rattle.std.proofs.Common.{[], ◌∷◌, refl, arith}
use Rattle.std.specs.Prelude.{Contains}
use Rattle.std.proofs.lemmas.List.Elements.{All-append}
use Rattle.bl_work.specs.FirstWhenFault.{same_name}
use Rattle.bl_check.proofs.Firsts.{first_behind, first_before, leaves}
use Rattle.bl_check.proofs.Passes.{pass_goes_on_at, pass_stops_at, pass_ends, documents_of, documents_additive, no_access}
use Rattle.bl_check.proofs.Looked.{looked_up_more, looked_up_all}
use Rattle.bl_check.proofs.known.look_up.Goals as goal

pub returns-in_err-access_of : goal.returns-in_err-access_of
returns-in_err-access_of c =
    let known = Contains c.args.names.now.documents in
    leaves _ known same_name _ _ _ c.from_residual.ensures.1
    (first_before known same_name (c.args.first.document.now ∷ []) (documents_of c.args.more.now) _ c.in_err-access_of.ensures)

pub returns-in_err-access_of-2 : goal.returns-in_err-access_of-2
returns-in_err-access_of-2 c =
    let known = Contains c.args.names.now.documents in
    leaves _ known same_name _ _ _ c.from_residual-in_err-access_of-2.ensures.1
    (first_behind known same_name (c.args.first.document.now ∷ []) (documents_of c.args.more.now) _ c.in_ok-access_of.ensures.0
    (pass_stops_at documents_of documents_additive known same_name c.args.more.now (documents_of c.args.more.now) refl c.loop-access.access-index no_access _ (omega arith)
    c.loop-access.invariant.0 c.in_err-access_of-2.ensures))

pub loop-access-preserved : goal.loop-access-preserved
loop-access-preserved c = (
  pass_goes_on_at documents_of documents_additive (Contains c.args.names.now.documents) c.args.more.now c.loop-access.access-index no_access (omega arith)
      c.loop-access.invariant.0 c.in_ok-access_of-2.ensures.0,
  looked_up_more c.args.names.now c.args.first c.args.more.now c.loop-access.access-index no_access c.loop-access.accesses _ c.in_ok-access_of-2.field-0 (omega arith)
      c.loop-access.invariant.1 c.in_ok-access_of-2.ensures.1 c.push.ensures,
)

pub returns : goal.returns
returns c =
    let known = Contains c.args.names.now.documents in (
      All-append known (c.args.first.document.now ∷ []) (documents_of c.args.more.now) c.in_ok-access_of.ensures.0
          (pass_ends documents_of known c.args.more.now (documents_of c.args.more.now) refl c.loop-access.access-index (omega arith) c.loop-access.invariant.0),
      looked_up_all c.args.names.now c.args.first c.args.more.now c.loop-access.access-index c.loop-access.accesses (omega arith) c.loop-access.invariant.1,
    )
