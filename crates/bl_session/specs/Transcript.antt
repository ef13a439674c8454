-- Transcript: what a session writes for its input.
use Rattle.std.specs.Prelude.{ℕ, List}
use Rattle.bl_setup.specs.Setup.{Setup}
use Rattle.bl_order.specs.Machine.{State, start, state_after}
use Rattle.bl_wire.specs.declared.turn.Turn.{Turn}
use Rattle.bl_wire.specs.Texts.{session_text}
use Rattle.bl_wire.specs.Replies.{line_text}
use Rattle.bl_session.specs.One.{Fate, next_session, one_after}

-- the transcript of these lines by the trail of one session and one worker after a state, where this becomes of its
-- places
abbrev pub transcript_after : State → (ℕ → Fate) → List Turn → List ℕ
transcript_after x fate turns =
    session_text (line_text (state_after x (one_after x fate turns)) (next_session x)) turns

-- and where nothing has happened before
abbrev pub transcript : Setup → ℕ → (ℕ → Fate) → List Turn → List ℕ
transcript setup limit fate turns = transcript_after (start setup limit) fate turns
