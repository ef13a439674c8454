use Rattle.std.proofs.Common.{◌∙◌, ap, refl}
use Rattle.bl_policy.specs.Policy.{SecurityPolicy}
use Rattle.bl_rights.specs.Remarks.{way_end}
use Rattle.bl_rights_text.specs.Remarks.{end_name}
use Rattle.bl_rights_text.proofs.Joining.{then-put}
use Rattle.bl_rights_text.proofs.remarks.fall_line.Goals as goal

pub returns : goal.returns
returns c =
    let setup = c.args.setup.now in
    let end = c.end_name-end.ensures ∙ ap (end_name setup) (c.way_end.ensures.value ∙ ap (λ (p : SecurityPolicy). way_end p c.args.subject c.args.from) c.policy.ensures.value) in
    then-put _ _ _ _ _ c.in_ok-extend_from_slice-7.ensures.items (then-put _ _ _ _ _ c.in_ok-extend_from_slice-6.ensures.items (then-put _ _ _ _ _ c.in_ok-extend_from_slice-5.ensures.items (then-put _ _ _ _ _ c.in_ok-extend_from_slice-4.ensures.items (then-put _ _ _ _ _ c.in_ok-extend_from_slice-3.ensures.items (then-put _ _ _ _ _ c.in_ok-extend_from_slice-2.ensures.items (then-put _ _ _ _ _ c.in_ok-extend_from_slice.ensures.items c.new-text.ensures.items
    refl)
    c.subject_name.ensures)
    refl)
    c.document_name.ensures)
    refl)
    end)
    refl
