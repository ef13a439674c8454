use Rattle.std.proofs.Common.{◌≡◌, ℕ, ◌+◌, ◌-◌, ◌<◌, length, vec_len}
use Rattle.std.specs.Prelude.{None}
use Rattle.std.specs.Vec.{vec_capacity}
use Rattle.bl_hall.specs.Linked.{lead_to, link_at}
use Rattle.bl_hall.proofs.link.link_children.Given as goal

abbrev pub invariant-children : goal.invariant-children
invariant-children l =
    (vec_len l.links ≡ vec_len l.initial.links + l.i) × (vec_capacity l.links ≡ vec_capacity l.initial.links)
    × ((m : ℕ) → m < length l.initial.links.items → link_at l.links.items m ≡ link_at l.initial.links.items m)
    × ((j : ℕ) → j < l.i → link_at l.links.items (length l.initial.links.items + j)
    ≡ record { session = l.session; next = lead_to (l.first + j + 1) (l.children - j - 1) l.behind; earlier = None })
