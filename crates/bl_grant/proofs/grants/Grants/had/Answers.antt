use Rattle.std.proofs.Common.{◌≡◌, ◌<◌, List, length, get_or, ap, sym, ◌∙◌, arith}
use Rattle.std.specs.Prelude.{map}
use Rattle.std.proofs.lemmas.List.{length-map}
use Rattle.std.proofs.lemmas.Slice.Eq.{bytes_eq-Decides}
use Rattle.bl_grant.specs.Loaned.{Loaned, no_loan}
use Rattle.bl_grant.specs.Granted.{loaned_of}
use Rattle.bl_grant.proofs.Places.{read-at}
use Rattle.bl_grant.proofs.grants.Grants.had.Goals as goal

pub returns : goal.returns
returns c =
    let gs = c.self.inside.grants.items in
    let lt : c.args.place < length gs = omega (arith, c.requires, ap length c.self.view_is, length-map gs loaned_of) in
    let here : c.lent.result.now ≡ (get_or c.args.self.now c.args.place no_loan).lent =
    c.lent.ensures ∙ ap (λ (l : Loaned). l.lent) (sym (read-at gs c.args.place c.index.result.now lt c.index.ensures))
    ∙ ap (λ (l : List Loaned). (get_or l c.args.place no_loan).lent) c.self.view_is in (
      λ h. sym here ∙ (bytes_eq-Decides c.lent.result.now c.bytes.result.now).0 (sym c.eq.ensures ∙ h) ∙ c.bytes.ensures.value,
      λ e. c.eq.ensures ∙ (bytes_eq-Decides c.lent.result.now c.bytes.result.now).1 (here ∙ e ∙ sym c.bytes.ensures.value),
    )
