-- A run that goes on after what was recovered.
use Rattle.std.specs.Prelude.{◌≡◌, ℕ, ◌<◌, IsTrue, List, ◌++◌, length}
use Rattle.std.specs.List.{AllByRecursion}
use Rattle.bl_setup.specs.Setup.{Setup, by_version}
use Rattle.bl_order.specs.AtHand.{IsAtHand}
use Rattle.bl_order.specs.Machine.{State, Event, IsTrail, has_ended, is_lost, past_at, state_after}
use Rattle.bl_order.specs.TheHeadline.{IsTheHeadlineThroughout}
use Rattle.bl_trail.specs.TrueText.{HasNoLf, event_texts, joined}
use Rattle.bl_trail.specs.Versions.{HasEvents}
use Rattle.bl_journal.specs.Journals.{IsHistory, Journal, journal_text, last_state}

-- the events may come next, one after another, where the journal's lead; its version has them, and their lines have no
-- LF
pub record MayFollow (setup : Setup) (found : Journal) (more : List Event) : Type 0 where
  pub steps : IsTrail (last_state setup found) more
  pub has_events : HasEvents found.version more
  pub plain : AllByRecursion HasNoLf (event_texts (last_state setup found) more)

-- the journal with these events behind its own
abbrev pub with_more : Journal → List Event → Journal
with_more found more = record found { events = found.events ++ more }

-- What is said in one state of places that another knows: what had ended is said as it was, and so is what ran or might
-- start, unless it was lost since.
pub record SaysTheSame (before after : State) : Type 0 where
  pub ended : (n : ℕ) → n < length before.order → IsTrue (has_ended before n) → past_at after n ≡ past_at before n
  pub at_hand : (n : ℕ) → n < length before.order → IsAtHand before n → is_lost after n ≡ is_lost before n
      → past_at after n ≡ past_at before n

-- A run that goes on so is the one run of the whole history: that is a history too, its text is the recovered one with
-- the new lines behind it, it leads where the run that goes on does, what was said stays, and the headline holds at
-- every moment of it.
pub record IsOneRun (setup : Setup) (found : Journal) (more : List Event) : Type 0 where
  pub history : IsHistory setup (with_more found more)
  pub text : journal_text setup (with_more found more) ≡ journal_text setup found
      ++ joined (event_texts (last_state setup found) more)
  pub leads : last_state setup (with_more found more) ≡ state_after (last_state setup found) more
  pub said : SaysTheSame (last_state setup found) (last_state setup (with_more found more))
  pub headline : IsTheHeadlineThroughout (by_version found.version setup) found.limit (found.events ++ more)
