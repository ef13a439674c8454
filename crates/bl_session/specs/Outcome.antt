-- What a session with one worker ends with.
use Rattle.std.specs.Prelude.{◌≡◌, ℕ, ◌≤◌, false, List, [], length, OnSome, ◌⊎◌}
use Rattle.std.specs.Io.KnownBytes.{Consumes, Appends, IsAtEnd}
use Rattle.bl_setup.specs.Setup.{Setup}
use Rattle.bl_order.specs.Machine.{state_after}
use Rattle.bl_wire.specs.Watch.{Use}
use Rattle.bl_wire.specs.declared.fault.SessionFault.{SessionFault}
use Rattle.bl_wire.specs.declared.turn.Turn.{Turn}
use Rattle.bl_wire.specs.Lines.{lines_of, AreLines}
use Rattle.bl_wire.specs.Turns.{AreTurns, IsRefusal, StopsAtRefusal}
use Rattle.bl_engine.specs.BlockText.{Begins}
use Rattle.bl_engine.specs.Outcome.{Broken, IsPutAt, WereHeard}
use Rattle.bl_wire.specs.Replies.{line_text}
use Rattle.bl_hall.specs.Chronicle.{Chronicle, state_now}
use Rattle.bl_session.specs.One.{Fate, new_hall, next_session, one_after}
use Rattle.bl_session.specs.Pages.{with_events}
use Rattle.bl_session.specs.Transcript.{transcript_after}

-- The input was read to its end, or to the end of a first line that was refused and no further, and its transcript is
-- written, by what became of each place after all that had happened in the hall that the session began in. Neither end
-- failed.
pub record IsServedAfter (begun : Chronicle) (reader writer : Use) : Type 0 where
  pub bytes : List ℕ
  pub turns : List Turn
  pub took : Consumes reader.before reader.after bytes
  pub within : length bytes ≤ 16777216
  pub whole : OnSome reader.before (IsAtEnd reader.after) ⊎ (AreLines bytes (lines_of bytes) × IsRefusal turns)
  pub stops : StopsAtRefusal turns
  pub are : AreTurns begun.setup.names (lines_of bytes) turns
  pub fate : ℕ → Fate
  pub put : Appends writer.before writer.after (transcript_after (state_now begun) fate turns)
  pub fine : (reader.failed ≡ false) × (writer.failed ≡ false)

-- where nothing had happened
abbrev pub IsServed : Setup → ℕ → Use → Use → Type 0
IsServed setup limit reader writer = IsServedAfter (new_hall setup limit) reader writer

-- the hall has gone on from the one that the session began in, by the trail of the session that was served
pub record IsServedInAfter (begun hall : Chronicle) (reader writer : Use) : Type 0 where
  pub served : IsServedAfter begun reader writer
  pub hall_is : hall ≡ with_events begun (one_after (state_now begun) served.fate served.turns)

-- the hall has the trail of the session that was served
abbrev pub IsServedIn : Setup → ℕ → Chronicle → Use → Use → Type 0
IsServedIn setup limit hall reader writer = IsServedInAfter (new_hall setup limit) hall reader writer

-- The session ended early. What is written begins the transcript of the lines that were heard: all that were read, but
-- where memory was refused perhaps not the last. Where reading failed it is all blocks whose `wait` came. Where memory
-- was refused it is they as well, but the block that the last line closes may be lacking. Where writing failed a part
-- of what is written next may follow. Of what stands behind a first line that was refused nothing was read.
pub record IsCutShortAfter (begun : Chronicle) (fault : SessionFault) (reader writer : Use) : Type 0 where
  pub turns : List Turn
  pub read : Broken fault begun.setup.names reader.before reader.after reader.failed writer.failed turns
  pub stops : StopsAtRefusal turns
  pub unread : IsRefusal turns → read.part ≡ []
  pub written : List ℕ
  pub put : Appends writer.before writer.after written
  pub heard : List Turn
  pub heard_is : WereHeard fault heard turns
  pub fate : ℕ → Fate
  pub begins : Begins written (transcript_after (state_now begun) fate heard)
  pub closed : IsPutAt fault
      (line_text (state_after (state_now begun) (one_after (state_now begun) fate heard))
      (next_session (state_now begun))) reader.before reader.after turns heard written

-- where nothing had happened before it
abbrev pub IsCutShort : Setup → ℕ → SessionFault → Use → Use → Type 0
IsCutShort setup limit fault reader writer = IsCutShortAfter (new_hall setup limit) fault reader writer
