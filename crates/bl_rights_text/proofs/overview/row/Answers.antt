use Rattle.std.proofs.Common.{◌≡◌, sym, subst, ap, ◌∙◌}
use Rattle.std.specs.Prelude.{IfSome, Option}
use Rattle.bl_policy.specs.Policy.{SecurityPolicy}
use Rattle.bl_rights.specs.Rows.{row_at}
use Rattle.bl_rights.specs.declared.rows.Row.{Row}
use Rattle.bl_rights_text.specs.Table.{IsRowOf}
use Rattle.bl_rights_text.proofs.Held.{row-held}
use Rattle.bl_rights_text.proofs.overview.row.Goals as goal

pub returns-clause-held : goal.returns-clause-held
returns-clause-held c =
    let setup = c.args.setup.now in
    let is : c.row_at.result ≡ row_at setup.policy c.args.subject c.args.doc =
    c.row_at.ensures ∙ ap (λ (p : SecurityPolicy). row_at p c.args.subject c.args.doc) c.policy.ensures.value in
    subst (λ (o : Option Row). IfSome o (λ row. IsRowOf setup row)) (sym is)
    (row-held setup c.args.subject c.requires.whole c.requires.known c.args.doc c.requires.there)
