-- How the code keeps a claim.
use Rattle.std.specs.Prelude.{ℕ, false, ◌==◌, if◌then◌else◌, Option, Some, None, [], ◌∷◌, ◌++◌}
use Rattle.bl_queue.specs.declared.cown.Held.{Held}
use Rattle.bl_queue.specs.Holders.{Holders}
use Rattle.bl_queue.specs.declared.link.Link.{Link}

-- the number that stands for no place
abbrev pub no_place : ℕ
no_place = 4294967295

abbrev pub claim_of : Link → Held
claim_of l = record { cown = l.cown; shared = l.shared; entry = l.entry }

abbrev pub next_of : Link → Option ℕ
next_of l = if l.next == no_place then None else Some l.next

-- a claim as it enters: it is not over, and none of its cown comes after it
abbrev pub fresh_link : Held → Link
fresh_link b = record { entry = b.entry; next = no_place; cown = b.cown; shared = b.shared; over = false }

-- a claim more, before its cown knows of it
abbrev pub pushed : Holders → Held → Holders
pushed s b = record s { claims = s.claims ++ b ∷ []; over = s.over ++ false ∷ []; next = s.next ++ None ∷ [] }
