-- How far the conversation of a session that is kept has come.
use Rattle.std.specs.Prelude.{ℕ, ◌<◌, Bool, List, length}
use Rattle.bl_setup.specs.Setup.{Setup}
use Rattle.bl_hall.specs.Chronicle.{Chronicle, state_now}
use Rattle.bl_wire.specs.Replies.{line_text}
use Rattle.bl_engine.specs.Outcome.{Finished, Stopped}
use Rattle.bl_engine.specs.Requests.{SameUpTo}
use Rattle.bl_engine.specs.declared.request.Request.{Request}
use Rattle.bl_engine.specs.View.{Ends, View}
use Rattle.bl_session.specs.Keeping.{IsFrontOf, IsOpenIn, fault_of}
use Rattle.bl_session.specs.Pages.{Came, IsSettled}
use Rattle.bl_session.specs.Talks.{seen_of}
use Rattle.bl_session.specs.declared.entries.Pages.{Pages}
use Rattle.bl_session.specs.declared.keep.Stop.{Stop}

-- A front of the hall's trail was reached, which goes on from the hall that the session began in: it has the session
-- once the hall has it, and what is answered up to an ordinal is answered so by it.
pub record IsReachedTo (Reached : Chronicle → Type 0) (begun : Chronicle) (n : ℕ) (s : Pages) : Type 0 where
  pub kept : Chronicle
  pub reached : Reached kept
  pub since : IsFrontOf begun kept
  pub front : IsFrontOf kept s.hall
  pub opened : s.session < length (state_now s.hall).sessions → s.session < length (state_now kept).sessions
  pub same : SameUpTo n (line_text (state_now kept) s.session) (line_text (state_now s.hall) s.session)

-- what stands for good up to an ordinal is answered so by what is kept
abbrev pub StandsBy : Chronicle → Pages → ℕ → Type 0
StandsBy kept s n = IsSettled n s
    × SameUpTo n (line_text (state_now kept) s.session) (line_text (state_now s.hall) s.session)

-- what was told brought the pages here, and a session that was asked for is kept
abbrev pub CameBy : Setup → Chronicle → Chronicle → Pages → List Request → Type 0
CameBy setup begun kept s told = Came setup begun s told × IsOpenIn s.session kept told

-- what is seen of the machine, beside what is kept
abbrev pub seen_by : Setup → Chronicle → Chronicle → Pages → View
seen_by setup begun kept s = record {
  replies = line_text (state_now s.hall) s.session;
  settled = λ n. StandsBy kept s n;
  came = λ told. CameBy setup begun kept s told;
}

-- what is seen of what is kept
abbrev pub seen_in : Setup → Chronicle → Chronicle → Pages → View
seen_in setup begun kept s = record {
  replies = line_text (state_now kept) s.session;
  settled = λ n. IsSettled n s;
  came = λ told. CameBy setup begun kept s told;
}

-- The session ended early, and all that was told was kept. It is seen as it stood then, or before a last request.
pub record StopsKept (Held : Chronicle → Type 0) (setup : Setup) (begun : Chronicle) (stop : Stop) (ends : Ends)
    (read_failed write_failed : Bool) (s : Pages) : Type 0 where
  pub kept : Chronicle
  pub held : Held kept
  pub since : IsFrontOf begun kept
  pub front : IsFrontOf kept s.hall
  pub at : Pages
  pub began : IsFrontOf kept at.hall
  pub stopped : Stopped (fault_of stop) setup.names ends read_failed write_failed (seen_by setup begun kept at)

-- all was told, and was kept
pub record FinishesKept (Reached : Chronicle → Type 0) (setup : Setup) (begun : Chronicle) (ends : Ends) (s : Pages) :
    Type 0 where
  pub kept : Chronicle
  pub reached : Reached kept
  pub since : IsFrontOf begun kept
  pub front : IsFrontOf kept s.hall
  pub told : Finished setup.names ends (seen_in setup begun kept s)
  pub finished : Finished setup.names ends (seen_of setup begun s)
