-- Transcript, as a relation: what a session may write for its input, in any trail that it takes part in.
use Rattle.std.specs.Prelude.{◌≡◌, ℕ, ◌+◌, ◌<◌, Bool, false, ◌==◌, if◌then◌else◌, codes, ◌⊎◌}
use Rattle.std.specs.Prelude.{List, [], ◌∷◌, ◌++◌, length, filter, All}
use Rattle.std.specs.List.{list_any}
use Rattle.bl_work.specs.declared.work.Work.{Work}
use Rattle.bl_setup.specs.Setup.{Setup}
use Rattle.bl_order.specs.Machine.{State, Event, Opens, Admits, Starts, Ends, Loses}
use Rattle.bl_order.specs.Machine.{session_at, start, state_after, most_sessions, weight_of}
use Rattle.bl_order.specs.Room.{admitted_weight}
use Rattle.bl_wire.specs.declared.turn.Turn.{Turn}
use Rattle.bl_wire.specs.declared.turn.Turn.TheVariants.{Skip, Wait, Greets, Bad, Ask}
use Rattle.bl_wire.specs.Replies.{line_text}
use Rattle.bl_wire.specs.Texts.{text_of, ok_line, bye_line, refused_hello}

-- the works that the lines after an ordinal ask to be admitted, each with its ordinal
abbrev pub asked_after : ℕ → List Turn → List (ℕ × Work)
asked_after k [] = []
asked_after k (Skip ∷ turns) = asked_after k turns
asked_after k (Wait ∷ turns) = asked_after k turns
asked_after k (Greets subject ∷ turns) = asked_after (k + 1) turns
asked_after k (Bad fault ∷ turns) = asked_after (k + 1) turns
asked_after k (Ask work ∷ turns) = (k + 1, work) ∷ asked_after (k + 1) turns

-- the works that a trail admits for a session, each with its ordinal
abbrev pub admitted : ℕ → List Event → List (ℕ × Work)
admitted session [] = []
admitted session (Opens subject ∷ events) = admitted session events
admitted session (Admits other ordinal work ∷ events) =
    if other == session then (ordinal, work) ∷ admitted session events else admitted session events
admitted session (Starts n ∷ events) = admitted session events
admitted session (Ends n ∷ events) = admitted session events
admitted session (Loses n ∷ events) = admitted session events

-- whether one of these works has the ordinal
abbrev pub has_ordinal : List (ℕ × Work) → ℕ → Bool
has_ordinal works ordinal = list_any (λ (asked : ℕ × Work). asked.0 == ordinal) works

-- The session is the subject's. What the trail admits for it are just those works that it asks and that are not
-- refused. One is refused only where the weights in the trail and its own exceed the limit. To each line is answered
-- what the trail leads to.
pub record Talks (x : State) (trail : List Event) (session subject : ℕ) (turns : List Turn) (text : List ℕ)
    : Type 0 where
  pub there : session < length x.sessions
  pub subject_is : (session_at x session).subject ≡ subject
  pub lines : admitted session trail
      ≡ filter (λ (asked : ℕ × Work). has_ordinal (admitted session trail) asked.0) (asked_after 0 turns)
  pub full : All (λ (asked : ℕ × Work). has_ordinal (admitted session trail) asked.0 ≡ false
      → x.limit < admitted_weight x + weight_of asked.1) (asked_after 0 turns)
  pub text_is : text ≡ ok_line ++ (text_of (line_text x session) 0 turns ++ bye_line)

-- Own choice: the first line that is not skipped opens the session, or is refused and ends it; a subject that is known
-- is refused only where there are as many sessions as there may be. Without such a line there is only `bye`.
abbrev pub Answers : State → List Event → ℕ → List Turn → List ℕ → Type 0
Answers x trail session [] text = text ≡ bye_line
Answers x trail session (Skip ∷ turns) text = Answers x trail session turns text
Answers x trail session (Greets subject ∷ turns) text =
    ((length x.sessions ≡ most_sessions) × (text ≡ codes "refused sessions\n" ++ bye_line))
    ⊎ Talks x trail session subject turns text
Answers x trail session (Wait ∷ turns) text = text ≡ refused_hello ++ bye_line
Answers x trail session (Bad fault ∷ turns) text = text ≡ refused_hello ++ bye_line
Answers x trail session (Ask work ∷ turns) text = text ≡ refused_hello ++ bye_line

-- Transcript: the text answers these lines of a session of the trail, by the state that the trail leads to
abbrev pub IsTranscript : Setup → ℕ → List Event → ℕ → List Turn → List ℕ → Type 0
IsTranscript setup limit trail session turns text =
    Answers (state_after (start setup limit) trail) trail session turns text
