-- How a run of a chain ends, which begins anew and keeps its trail as it goes.
use Rattle.std.specs.Prelude.{◌≡◌, ◌⊎◌, ℕ, Bool, true, false, List, [], Option, None, take}
use Rattle.std.specs.Io.KnownBytes.{Appends}
use Rattle.bl_disk.specs.File.{File}
use Rattle.bl_hall.specs.Chronicle.{Chronicle}
use Rattle.bl_setup.specs.Setup.{Setup}
use Rattle.bl_status.specs.Status.{status_of}
use Rattle.bl_status.specs.declared.fault.ProgramFault.{ProgramFault}
use Rattle.bl_trail_run.specs.Recording.{new_hall}
use Rattle.bl_wire.specs.Watch.{EndState, Puts, Use}
use Rattle.bl_serving.specs.Hosted.{HasHosted, IsHallOf}
use Rattle.bl_serving.specs.Serving.{listening}
use Rattle.bl_serving.specs.Telling.{words_at}

-- own choice: what is told before the first session of a run: of the first run alone that the server listens
abbrev pub first_words : Bool → List ℕ
first_words true = listening
first_words false = []

-- how a run was left: its status, whether the trail in its file is whole, and the hall, where each thread was started
pub record RunLeft : Type 0 where
  pub status : ℕ
  pub whole : Bool
  pub file : File
  pub hall : Option Chronicle

-- Sessions were served in a new hall over the setup, and the trail is that of the hall at the end, where it is whole.
pub record HasServedAnew (setup : Setup) (limit : ℕ) (is_first : Bool) (left : RunLeft) (output : Use)
    (before after : EndState) : Type 0 where
  pub told : Appends output.before output.after (first_words is_first)
  pub hosted : HasHosted (new_hall setup limit) left.status left.whole left.file before after
  pub hall_is : IsHallOf (new_hall setup limit) left.whole left.file left.hall

-- Nobody was served, and the trail is not whole; why is told, of a file that cannot be written with its name.
pub record IsUnservedRun (name : List ℕ) (is_first : Bool) (left : RunLeft) (output : Use)
    (before after : EndState) : Type 0 where
  pub fault : ProgramFault
  pub status_is : left.status ≡ status_of fault
  pub torn : left.whole ≡ false
  pub none : left.hall ≡ None
  pub said : Puts (words_at name fault) before after
  pub told : (n : ℕ) × Appends output.before output.after (take n (first_words is_first))

-- one of these, over the file of this name
abbrev pub IsChained : (name : List ℕ) → Setup → ℕ → (is_first : Bool) → RunLeft → Use → EndState → EndState → Type 0
IsChained name setup limit is_first left output before after =
    HasServedAnew setup limit is_first left output before after
    ⊎ IsUnservedRun name is_first left output before after
