-- What a driver that may wait does with one conversation.
use Rattle.std.specs.Prelude.{◌≡◌, ◌<◌, ◌≤◌, ◌++◌, ℕ, Bool, true, false, List, [], length, take, Option, OnSome, IfSome}
use Rattle.std.specs.Prelude.{Result, Ok, Err, ◌⊎◌}
use Rattle.std.specs.Io.KnownBytes.{Appends, Consumes, IsAtEnd}
use Rattle.bl_work.specs.Names.{KnownNames}
use Rattle.bl_wire.specs.Reads.{HasMore}
use Rattle.bl_wire.specs.declared.fault.SessionFault.{SessionFault}
use Rattle.bl_wire.specs.declared.fault.SessionFault.TheVariants.{Read, Write, TooLong, Memory, Clash}
use Rattle.bl_engine.specs.Requests.{Request}
use Rattle.bl_engine.specs.declared.conversation.Conversation.{Conversation}
use Rattle.bl_engine.specs.declared.driver.Listener.{Listener}
use Rattle.bl_engine.specs.Conversations.{Given, GoesOnAlone, HasHeard, Hears, IsAt, IsHeardOf, KeepsBlock, Says, asks}
use Rattle.bl_engine.specs.Conversations.{is_hearing, last_ordinal, talk_of, waits_left}
use Rattle.bl_engine.specs.View.{Ends}
use Rattle.bl_wire.specs.declared.turn.Turn.{Turn}

-- what becomes of a conversation that was handed these bytes: so many were heard, or there was no memory or more than
-- may be heard
abbrev pub HearsAs : Listener → List ℕ → Result ℕ SessionFault → Listener → Type 0
HearsAs old bytes (Ok count) new =
    (new.names ≡ old.names) × Hears old.names.now old.conv new.conv (take count bytes) new.request
    × KeepsBlock old.conv new.conv new.request
    × (new.conv.ended ≡ false) × (waits_left new.conv < waits_left old.conv)
HearsAs old bytes (Err fault) new = (fault ≡ Memory) ⊎ ((fault ≡ TooLong) × (old.conv.left ≡ 0))

-- what the reader gave was heard; the end of the input was heard only where the reader is there
pub record Listened (names : KnownNames) (before after : Option (List ℕ)) (old new : Conversation)
    (request : Option Request) : Type 0 where
  pub bytes : List ℕ
  pub took : Consumes before after bytes
  pub hears : Hears names old new bytes request
  pub block : KeepsBlock old new request
  pub end : new.ended ≡ true → OnSome before (IsAtEnd after)
  pub nearer : waits_left new < waits_left old

-- why nothing was heard
abbrev pub IsUnheard : SessionFault → (read_failed write_failed : Bool) → (left : ℕ) → (before after : Option (List ℕ))
    → Type 0
IsUnheard Read read_failed write_failed left before after = (read_failed ≡ true) × (write_failed ≡ false)
IsUnheard Write read_failed write_failed left before after = (read_failed ≡ false) × (write_failed ≡ true)
IsUnheard TooLong read_failed write_failed left before after = (read_failed ≡ false) × (write_failed ≡ false)
    × (left ≡ 0) × OnSome before (HasMore after)
IsUnheard Memory read_failed write_failed left before after = (read_failed ≡ false) × (write_failed ≡ false)
IsUnheard Clash read_failed write_failed left before after = ⊥

-- all was told
pub record ToldAll (was left : ℕ → List ℕ) (old new : Conversation) (before after : Option (List ℕ)) : Type 0 where
  pub more : List ℕ
  pub put : Appends before after more
  pub says : Says was left old new more
  pub ended : new.ended ≡ old.ended
  pub last : last_ordinal new ≡ last_ordinal old
  pub none : new.pending.items ≡ []
  pub alone : GoesOnAlone 0 new.stage
  pub nearer : waits_left new < waits_left old

-- a first part of what comes next was written, and writing failed
pub record ToldPart (was : ℕ → List ℕ) (old : Conversation) (before after : Option (List ℕ)) : Type 0 where
  pub new : Conversation
  pub ended : new.ended ≡ old.ended
  pub left : ℕ → List ℕ
  pub before_more : List ℕ
  pub middle : Conversation
  pub middle_left : ℕ → List ℕ
  pub told : Says was middle_left old middle before_more
  pub more : List ℕ
  pub much : ℕ
  pub says : Says middle_left left middle new more
  pub put : Appends before after (before_more ++ take much more)

-- what went to and fro: the bytes that were heard and the lines that they are, what was asked of the machine, and what
-- was said
pub record Exchange : Type 0 where
  pub heard : List ℕ
  pub turns : List Turn
  pub asked : List Request
  pub said : List ℕ

abbrev pub nothing_yet : Exchange
nothing_yet = record { heard = []; turns = []; asked = []; said = [] }

-- with these bytes heard, which end these lines, and this asked
abbrev pub with_line : Exchange → List ℕ → List Turn → List Request → Exchange
with_line x bytes turns requests = record {
  heard = x.heard ++ bytes;
  turns = x.turns ++ turns;
  asked = x.asked
      ++ requests;
  said = x.said;
}

-- The reader gave what was heard, and the writer took what was said. Whatever the machine may still give, this was
-- asked and said.
pub record IsDriven (names : KnownNames) (ends : Ends) (MayGive : Given → Type 0) (conv : Conversation)
    (x : Exchange) : Type 0 where
  pub took : Consumes ends.start ends.rest x.heard
  pub put : Appends ends.first ends.kept x.said
  pub end : conv.ended ≡ true → OnSome ends.start (IsAtEnd ends.rest)
  pub cut : HasHeard names conv x.turns x.heard
  pub point : (given : Given) (left : ℕ → List ℕ) → MayGive given
      → IsAt conv.stage given left (talk_of conv) x.turns x.asked x.said

-- It has heard one line more at most after `x`, at which this is asked.
pub record HasListened (names : KnownNames) (ends : Ends) (MayGive : Given → Type 0) (conv : Conversation)
    (request : Option Request) (x : Exchange) : Type 0 where
  pub old : Conversation
  pub hearing : is_hearing old.stage ≡ true
  pub before : (given : Given) (left : ℕ → List ℕ) → MayGive given
      → IsAt old.stage given left (talk_of old) x.turns x.asked x.said
  pub bytes : List ℕ
  pub more : List Turn
  pub few : length more ≤ 1
  pub origin : IfSome request (IsHeardOf names)
  pub block : KeepsBlock old conv request
  pub now : IsDriven names ends MayGive conv (with_line x bytes more (asks request))
