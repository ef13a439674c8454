-- The desks of session threads.
use Rattle.std.specs.Prelude.{◌≡◌, ◌<◌, ℕ, List, get_or, length}
use Rattle.bl_keeper.specs.declared.desk.Desk.{Desk}

-- each desk is that of the thread whose number is its place
abbrev pub AreNumbered : List Desk → Type 0
AreNumbered desks = (i : ℕ) (d : Desk) → i < length desks → (get_or desks i d).thread ≡ i
