use Rattle.std.proofs.Common.{refl}
use Rattle.bl_rights_text.proofs.Joining.{then-put}
use Rattle.bl_rights_text.proofs.remarks.unusable_line.Goals as goal

pub returns : goal.returns
returns c =
    then-put _ _ _ _ _ c.in_ok-extend_from_slice-9.ensures.items (then-put _ _ _ _ _ c.in_ok-extend_from_slice-8.ensures.items (then-put _ _ _ _ _ c.in_ok-extend_from_slice-7.ensures.items (then-put _ _ _ _ _ c.in_ok-extend_from_slice-6.ensures.items (then-put _ _ _ _ _ c.in_ok-extend_from_slice-5.ensures.items (then-put _ _ _ _ _ c.in_ok-extend_from_slice-4.ensures.items (then-put _ _ _ _ _ c.in_ok-extend_from_slice-3.ensures.items (then-put _ _ _ _ _ c.in_ok-extend_from_slice-2.ensures.items (then-put _ _ _ _ _ c.in_ok-extend_from_slice.ensures.items c.new-text.ensures.items
    refl)
    c.subject_name-subject.ensures)
    refl)
    c.letter_of.ensures)
    refl)
    c.document_name.ensures)
    refl)
    c.subject_name-subject.ensures)
    refl
