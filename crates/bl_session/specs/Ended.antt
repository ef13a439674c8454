-- How a session ended whose trail is kept as it goes.
use Rattle.std.specs.Prelude.{◌≡◌, ℕ, Option, Some, Result, Ok, Err, IfSome}
use Rattle.std.specs.Option.{option_map}
use Rattle.bl_setup.specs.Setup.{Setup}
use Rattle.bl_hall.specs.Chronicle.{Chronicle}
use Rattle.bl_wire.specs.Watch.{Use}
use Rattle.bl_session.specs.Keeping.{IsFrontOf, IsToldAfter, IsToldOf, fault_of}
use Rattle.bl_session.specs.Outcome.{IsCutShort, IsCutShortAfter, IsServedIn, IsServedInAfter}
use Rattle.bl_session.specs.declared.alone.Kept.{Kept}
use Rattle.bl_session.specs.declared.keep.Stop.{Stop}

-- the hall of a session, where one began
abbrev pub hall_of : Option Kept → Option Chronicle
hall_of session = option_map (λ (one : Kept). one.pages.hall) session

-- the session was served after all that had happened, and the hall has gone on by its trail; or it was cut short
abbrev pub HasEndedAfter : (begun hall : Chronicle) → Result (Unit {0}) Stop → (reader writer : Use) → Type 0
HasEndedAfter begun hall (Ok done) reader writer = IsServedInAfter begun hall reader writer
HasEndedAfter begun hall (Err stop) reader writer = IsCutShortAfter begun (fault_of stop) reader writer

-- where nothing had happened: the session was served, and the hall has its trail; or it was cut short
abbrev pub HasEnded : Setup → ℕ → Option Chronicle → Result (Unit {0}) Stop → (reader writer : Use) → Type 0
HasEnded setup limit session (Ok done) reader writer =
    (hall : Chronicle) × (session ≡ Some hall) × IsServedIn setup limit hall reader writer
HasEnded setup limit session (Err stop) reader writer = IsCutShort setup limit (fault_of stop) reader writer

-- All that is written was told of a trail that is kept. It goes on from the hall that the session began in, and the
-- hall that the session left goes on from it.
pub record TellsKeptAfter (begun hall : Chronicle) (Held : Chronicle → Type 0) (reader writer : Use) : Type 0 where
  pub kept : Chronicle
  pub held : Held kept
  pub since : IsFrontOf begun kept
  pub front : IsFrontOf kept hall
  pub told : IsToldAfter begun kept reader writer

-- the same where nothing had happened, and also where no session began
pub record TellsKept (setup : Setup) (limit : ℕ) (session : Option Kept) (Held : Chronicle → Type 0)
    (reader writer : Use) : Type 0 where
  pub kept : Chronicle
  pub held : Held kept
  pub front : IfSome session (λ one. IsFrontOf kept one.pages.hall)
  pub told : IsToldOf setup limit kept reader writer
