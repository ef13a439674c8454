-- Runs one after another, each over the setup that the one before left, and their histories as one.
use Rattle.std.specs.Prelude.{◌≡◌, ℕ, Bool, false, List, [], ◌∷◌, length, map}
use Rattle.bl_setup.specs.Setup.{Setup}
use Rattle.bl_order.specs.Headline.{IsReached}
use Rattle.bl_order.specs.Machine.{State, is_lost}
use Rattle.bl_order.specs.Order.{Entry}
use Rattle.bl_order.specs.Standing.{HaveAllEnded, setup_after, setup_now}
use Rattle.bl_state.specs.Orders.{IsEmptyBeyond, both, lost_in}
use Rattle.bl_state.specs.Told.{HasNone, StandBehindParents, StayApart, renamed, replies_of}

-- a history
pub record History : Type 0 where
  pub lost : ℕ → Bool
  pub order : List Entry

-- one that goes on from others, with the numbers by which its sessions are known in the whole
pub record Run : Type 0 where
  pub lost : ℕ → Bool
  pub order : List Entry
  pub number : ℕ → ℕ

abbrev pub nothing_yet : History
nothing_yet = record { lost = λ _. false; order = [] }

-- a history with a run behind it
abbrev pub with_run : History → Run → History
with_run h r = record {
  lost = lost_in (length h.order) h.lost r.lost;
  order = both h.order (map (renamed r.number) r.order);
}

-- with several
abbrev pub with_runs : History → List Run → History
with_runs h [] = h
with_runs h (r ∷ more) = with_runs (with_run h r) more

-- the setup that a run leaves
abbrev pub setup_behind : Setup → Run → Setup
setup_behind setup r = setup_after setup r.lost r.order

-- A run over a setup: it alters no document beyond those of the setup, children stand behind their parents, and different sessions keep
-- different numbers.
pub record MayRun (setup : Setup) (r : Run) : Type 0 where
  pub empty : IsEmptyBeyond setup r.lost r.order
  pub parents : StandBehindParents r.order
  pub apart : StayApart r.number

-- the runs may stand one after another, the first one over this setup and each other one over what the one before left
abbrev pub AreRuns : Setup → List Run → Type 0
AreRuns setup [] = Unit {0}
AreRuns setup (r ∷ more) = MayRun setup r × AreRuns (setup_behind setup r) more

-- no run has that line
abbrev pub HaveNone : (session ordinal : ℕ) → List Run → Type 0
HaveNone session ordinal [] = Unit {0}
HaveNone session ordinal (r ∷ more) = HasNone r.number session ordinal r.order × HaveNone session ordinal more

-- All are told as one history from the first setup on: of each run, over its own setup, the replies to a line that no other run has are
-- those of the whole.
abbrev pub AreAllToldAsOne : (first setup : Setup) → History → List Run → Type 0
AreAllToldAsOne first setup h [] = Unit {0}
AreAllToldAsOne first setup h (r ∷ more) =
    ((session ordinal : ℕ) → HasNone (λ s. s) (r.number session) ordinal h.order → HaveNone (r.number session) ordinal more
    → replies_of first (with_runs h (r ∷ more)).lost (with_runs h (r ∷ more)).order (r.number session) ordinal
    ≡ replies_of setup r.lost r.order session ordinal)
    × AreAllToldAsOne first (setup_behind setup r) (with_run h r) more

-- a state at the end of a run, and the numbers of its sessions in the whole
pub record Last : Type 0 where
  pub state : State
  pub number : ℕ → ℕ

-- The run was one over this setup, and all that it admitted has ended; different sessions keep different numbers.
pub record IsLast (setup : Setup) (last : Last) : Type 0 where
  pub setup_is : last.state.setup ≡ setup
  pub reached : IsReached last.state
  pub ended : HaveAllEnded last.state
  pub apart : StayApart last.number

-- own choice: a chain of runs, each over the setup that stood at the end of the one before
abbrev pub IsChain : Setup → List Last → Type 0
IsChain setup [] = Unit {0}
IsChain setup (last ∷ more) = IsLast setup last × IsChain (setup_now last.state) more

-- the run that ended so
abbrev pub run_of : Last → Run
run_of last = record { lost = is_lost last.state; order = last.state.order; number = last.number }
