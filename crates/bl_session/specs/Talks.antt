-- How far the conversation of a session with one worker has come.
use Rattle.std.specs.Prelude.{◌≡◌, ℕ, ◌≤◌, ◌⊎◌, Option, List, [], length}
use Rattle.bl_setup.specs.Setup.{Setup}
use Rattle.bl_hall.specs.Chronicle.{Chronicle, state_now}
use Rattle.bl_wire.specs.Replies.{line_text}
use Rattle.bl_engine.specs.Conversations.{Given, GoesOnAlone, last_ordinal}
use Rattle.bl_engine.specs.Driving.{Exchange, HasListened, IsDriven}
use Rattle.bl_engine.specs.Parts.{SameWithin}
use Rattle.bl_engine.specs.declared.request.Request.{Request}
use Rattle.bl_engine.specs.View.{Ends, View}
use Rattle.bl_engine.specs.declared.conversation.Opening.TheVariants.{Open}
use Rattle.bl_engine.specs.declared.conversation.Conversation.{Conversation}
use Rattle.bl_session.specs.declared.entries.Pages.{Pages}
use Rattle.bl_session.specs.Pages.{Came, IsOpen, IsSettled, last_of}

-- what may be given yet: the session is opened, and what was answered up to an ordinal stands
abbrev pub MayGive : Pages → ℕ → Given → Type 0
MayGive s n given = (given.opening ≡ Open) × SameWithin 0 n (line_text (state_now s.hall) s.session) given.replies

-- what is seen of the machine
abbrev pub seen_of : Setup → Chronicle → Pages → View
seen_of setup begun s = record {
  replies = line_text (state_now s.hall) s.session;
  settled = λ n. IsSettled n s;
  came = Came setup begun s;
}

-- What was asked was done, the last block is answered, and no line has an ordinal above the last one.
pub record HasDone (setup : Setup) (begun : Chronicle) (after last : ℕ) (s : Pages) (asked : List Request)
    : Type 0 where
  pub came : Came setup begun s asked
  pub settled : IsSettled after s
  pub last_is : last_of s ≤ last
  pub there : (asked ≡ []) ⊎ IsOpen setup s

-- The conversation waits for the reader, or for room to tell words.
pub record IsUnderWay (setup : Setup) (begun : Chronicle) (ends : Ends) (conv : Conversation) (s : Pages)
    : Type 0 where
  pub so_far : Exchange
  pub driven : IsDriven setup.names ends (MayGive s conv.after) conv so_far
  pub done : HasDone setup begun conv.after (last_ordinal conv) s so_far.asked
  pub alone : GoesOnAlone (length conv.pending.items) conv.stage

-- It has heard one line more at most, and what is asked at that is still to be done.
pub record IsAsking (setup : Setup) (begun : Chronicle) (ends : Ends) (conv : Conversation)
    (request : Option Request) (s : Pages) : Type 0 where
  pub so_far : Exchange
  pub on : HasListened setup.names ends (MayGive s conv.after) conv request so_far
  pub done : HasDone setup begun conv.after (last_ordinal on.old) s so_far.asked
