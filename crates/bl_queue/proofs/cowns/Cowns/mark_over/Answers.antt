use Rattle.std.proofs.Common.{ℕ, Bool, Option, List, true, set, ap, ◌∙◌}
use Rattle.bl_queue.specs.declared.cown.Held.{Held}
use Rattle.bl_queue.specs.Holders.{Holders}
use Rattle.bl_queue.proofs.Links.{made, marked_claims, marked_over, marked_next}
use Rattle.bl_queue.proofs.cowns.Cowns.mark_over.Goals as goal

pub returns : goal.returns
returns c =
    let links = c.self.inside.links.items in
    let l = c.index_mut-link.result.now in
    let is = c.index_mut-link.ensures.value in
    let p = c.args.place in
    let make : List Held → List Bool → List (Option ℕ) → Holders = λ claims over next.
    record {
      claims = claims;
      over = over;
      next = next;
      cowns = c.self.inside.cowns.items;
      waits = c.self.inside.waits.items;
      free = c.self.inside.free.items;
      limit = c.self.inside.limit;
    } in
    made make (marked_claims links p l is) (marked_over links p l) (marked_next links p l is) ∙ ap (λ (s : Holders). record s { over = set s.over p true }) c.self.view_is
