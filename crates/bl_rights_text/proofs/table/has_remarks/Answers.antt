use Rattle.std.proofs.Common.{◌≡◌, ap, ap₂, codes, flat_map, refl, sym, ◌∙◌}
use Rattle.std.specs.Prelude.{◌||◌, not}
use Rattle.bl_policy.specs.Policy.{SecurityPolicy}
use Rattle.bl_rights.specs.Remarks.{has_admin}
use Rattle.bl_rights.specs.Rows.{rows}
use Rattle.bl_rights_text.specs.Stretches.{stretch_text}
use Rattle.bl_rights_text.specs.Remarks.{admin_line, never_lines}
use Rattle.bl_rights_text.specs.Table.{is_told}
use Rattle.bl_rights_text.specs.declared.stretches.Stretch.TheVariants.{WaysDown, Unread, Idle}
use Rattle.bl_rights_text.proofs.Telling.{nevers-told}
use Rattle.bl_rights_text.proofs.Told.{told-five, told-unless}
use Rattle.bl_rights_text.proofs.table.has_remarks.Goals as goal

pub returns : goal.returns
returns c =
    let t = c.args.overview.now in
    let setup = t.setup.now in
    let nevers = flat_map (λ row. never_lines setup row) (rows setup.policy) in
    let never : c.in_ok-never.never ≡ is_told nevers = c.in_ok-never.ensures ∙ ap is_told (nevers-told t) in
    let admin : not c.has_admin-admin.result ≡ is_told (admin_line setup) =
    ap not (c.has_admin-admin.ensures ∙ ap (λ (p : SecurityPolicy). has_admin p) c.policy.ensures.value)
    ∙ sym (told-unless (has_admin setup.policy) (codes "  nobody administers: no subject is an administrator\n") refl) in
    c.any_of.ensures
    ∙ ap₂ (λ x y. x || y) never
    (ap₂ (λ x y. x || y) c.in_ok-ways.ensures (ap₂ (λ x y. x || y) c.in_ok-unread.ensures (ap₂ (λ x y. x || y) c.in_ok-idle.ensures admin)))
    ∙ sym (told-five nevers (stretch_text t WaysDown) (stretch_text t Unread) (stretch_text t Idle) (admin_line setup))
