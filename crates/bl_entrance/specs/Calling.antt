-- Where connections came from, as the log names them.
use Rattle.std.specs.Prelude.{◌≡◌, ℕ, List, [], ◌∷◌, Bool, true, false, Option, codes, map, nat_eq, nat_lt}
use Rattle.std.specs.Prelude.{if◌then◌else◌, slice_index_or, string_bytes, length, position}
use Rattle.std.specs.List.{find}
use Rattle.std.specs.Option.{option_map_or}
use Rattle.bl_entrance.specs.declared.callers.Caller.{Caller}
use Rattle.bl_entrance.specs.declared.entrance.Arrival.{Arrival}
use Rattle.bl_entrance.specs.declared.entrance.Arrival.TheVariants.{Port, Door}

-- a connection: its number, where it came from, and whether its session was opened
pub record Calling : Type 0 where
  pub number : ℕ
  pub from : List ℕ
  pub greeted : Bool

abbrev pub calling_of : Caller → Calling
calling_of caller = record { number = caller.number; from = string_bytes caller.from; greeted = caller.greeted }

-- the connection with this number, if it is there
abbrev pub at : ℕ → List Calling → Option Calling
at number callings = find (λ calling. nat_eq calling.number number) callings

-- where the first with this number stands
abbrev pub place_of : ℕ → List Calling → Option ℕ
place_of number callings = position (λ calling. nat_eq calling.number number) callings

-- own choice: where the connection with this number came from, `-` where that is not known
abbrev pub from_at : ℕ → List Calling → List ℕ
from_at number callings = option_map_or (λ calling. calling.from) (at number callings) (codes "-")

-- whether its session was opened
abbrev pub greeted_at : ℕ → List Calling → Bool
greeted_at number callings = option_map_or (λ calling. calling.greeted) (at number callings) false

-- a connection, once the session of the one with this number was opened
abbrev pub greeted_by : ℕ → Calling → Calling
greeted_by number calling = if nat_eq calling.number number then record calling { greeted = true } else calling

-- those with this number, once their session was opened
abbrev pub greeted_from : ℕ → List Calling → List Calling
greeted_from number callings = map (greeted_by number) callings

-- the others, where the first with this number is there no more
abbrev pub without : ℕ → List Calling → List Calling
without number [] = []
without number (calling ∷ callings) =
    if nat_eq calling.number number then callings else calling ∷ without number callings

-- of who came by a door the text is the name of its subject
abbrev pub IsAddress : Arrival → List ℕ → Type 0
IsAddress (Port stream from) text = Unit {0}
IsAddress (Door incoming) text = text ≡ string_bytes incoming.door.now.place.name

-- own choice: the name of a subject, `-` where there is no such one
abbrev pub name_for : List (List ℕ) → ℕ → List ℕ
name_for subjects subject = if nat_lt subject (length subjects) then slice_index_or subjects subject [] else codes "-"
