use Rattle.std.proofs.Common.{◌≡◌, ◌<◌, List, [], length, true, sym, subst, ap, ◌∙◌, inr}
use Rattle.std.specs.Prelude.{All, map}
use Rattle.bl_order.specs.Machine.{State, change, runs, Loses}
use Rattle.bl_grant.specs.Loaned.{Back, back_of}
use Rattle.bl_eval.specs.Loan.{backs, part_of}
use Rattle.bl_core.specs.Answers.{loan_at}
use Rattle.bl_place.specs.Shelves.{put_back}
use Rattle.bl_core.specs.View.{state_of}
use Rattle.bl_place.specs.declared.shelf.Shelf.{Shelf}
use Rattle.bl_core.proofs.Lent.{backs-granted}
use Rattle.bl_core.proofs.Queueing.{queue-runs}
use Rattle.bl_core.proofs.Finishing.{end_there, end_shelves, lose-state, lose-kept}
use Rattle.bl_core.proofs.machine.Core.lose_granted.Goals as goal

pub take_back-requires : goal.take_back-requires
take_back-requires c =
    let r : runs (state_of c.self.inside) c.args.entry ≡ true = ap (λ (x : State). runs x c.args.entry) c.self.view_is ∙ c.requires.running in
    subst (λ (bs : List Back). All (λ (b : Back). b.access.doc < length c.as_mut_slice.result.now) bs)
    (sym (backs-granted c.self.inside c.args.self.now c.self.view_is c.args.entry c.args.grants c.requires.lent))
    (subst (λ (h : List Shelf). All (λ (b : Back). b.access.doc < length h) (backs c.args.entry (part_of (loan_at (state_of c.self.inside) c.args.entry)).accesses (loan_at (state_of c.self.inside) c.args.entry).inputs [])) (sym c.as_mut_slice.ensures.value)
    (end_shelves c.self.inside c.self.invariant c.args.entry r []))

pub end-requires : goal.end-requires
end-requires c =
    let r : runs (state_of c.self.inside) c.args.entry ≡ true = ap (λ (x : State). runs x c.args.entry) c.self.view_is ∙ c.requires.running in
    inr (queue-runs c.self.inside c.self.invariant c.args.entry (end_there c.self.inside c.self.invariant c.args.entry r) r)

pub invariant_of-self : goal.invariant_of-self
invariant_of-self c =
    lose-kept c.self.inside c.self.invariant c.args.entry (ap (λ (x : State). runs x c.args.entry) c.self.view_is ∙ c.requires.running)
    c.index_mut-place.result.now c.index_mut-place.ensures.value c.end.new.self c.end.ensures c.take_back.new.shelves
    (c.take_back.ensures ∙ ap (λ (h : List Shelf). put_back h (map back_of c.args.grants)) c.as_mut_slice.ensures.value
    ∙ ap (put_back c.self.inside.shelves.items) (backs-granted c.self.inside c.args.self.now c.self.view_is c.args.entry c.args.grants c.requires.lent))

pub returns : goal.returns
returns c =
    lose-state c.self.inside c.self.invariant c.args.entry (ap (λ (x : State). runs x c.args.entry) c.self.view_is ∙ c.requires.running)
    c.index_mut-place.result.now c.index_mut-place.ensures.value c.end.new.self c.end.ensures c.take_back.new.shelves
    (c.take_back.ensures ∙ ap (λ (h : List Shelf). put_back h (map back_of c.args.grants)) c.as_mut_slice.ensures.value
    ∙ ap (put_back c.self.inside.shelves.items) (backs-granted c.self.inside c.args.self.now c.self.view_is c.args.entry c.args.grants c.requires.lent))
    ∙ ap (λ (x : State). change x (Loses c.args.entry)) c.self.view_is
