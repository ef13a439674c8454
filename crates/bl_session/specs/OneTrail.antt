-- That what one worker does is a trail.
use Rattle.std.specs.Prelude.{ℕ, ◌<◌, IsTrue, List, length}
use Rattle.bl_setup.specs.Setup.{Setup}
use Rattle.bl_order.specs.Headline.{Holds}
use Rattle.bl_order.specs.Machine.{IsTrail, has_ended, start}
use Rattle.bl_order.specs.TheHeadline.{IsTheHeadlineThroughout}
use Rattle.bl_wire.specs.declared.turn.Turn.{Turn}
use Rattle.bl_session.specs.One.{Fate, one, one_state}

-- The events of one session and one worker are a trail, at whose end every place has ended; so the headline holds at
-- every moment of it.
pub record IsOneTrail (setup : Setup) (limit : ℕ) (fate : ℕ → Fate) (turns : List Turn) : Type 0 where
  pub trail : IsTrail (start setup limit) (one setup limit fate turns)
  pub ended : (n : ℕ) → n < length (one_state setup limit fate turns).order
      → IsTrue (has_ended (one_state setup limit fate turns) n)
  pub headline : IsTheHeadlineThroughout setup limit (one setup limit fate turns)
  pub holds : Holds (one_state setup limit fate turns)
