use Rattle.std.proofs.Common.{ℕ, Bool, Option, Some, List, set, ap, sym, ◌∙◌}
use Rattle.bl_queue.specs.declared.cown.Held.{Held}
use Rattle.bl_queue.specs.Holders.{Holders, linked}
use Rattle.bl_queue.proofs.Links.{made, led_claims, led_over, led_next}
use Rattle.bl_queue.proofs.cowns.Cowns.connect.Goals as goal

pub returns-in-Some : goal.returns-in-Some
returns-in-Some c =
    let links = c.self.inside.links.items in
    let l = c.index_mut-link.result.now in
    let is = c.index_mut-link.ensures.value in
    let p = c.in-Some.last in
    let make : List Held → List Bool → List (Option ℕ) → Holders = λ claims over next.
    record {
      claims = claims;
      over = over;
      next = next;
      cowns = c.self.inside.cowns.items;
      waits = c.self.inside.waits.items;
      free = c.self.inside.free.items;
      limit = c.self.inside.limit;
    } in
    made make (led_claims links p c.args.place l is) (led_over links p c.args.place l is) (led_next links p c.args.place l c.requires.place)
    ∙ ap (λ (s : Holders). record s { next = set s.next p (Some c.args.place) }) c.self.view_is
    ∙ ap (λ (o : Option ℕ). record c.args.self.now { next = linked c.args.self.now.next o c.args.place }) (sym c.in-Some.is)
