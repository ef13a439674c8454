-- How far a connection has come.
use Rattle.std.specs.Prelude.{◌≡◌, ℕ, ◌≤◌, ◌⊎◌, ◌||◌, Bool, true, false, nat_lt, List, [], ◌++◌, length, drop, Option}
use Rattle.std.specs.Prelude.{OnSome, IfSome, if◌then◌else◌}
use Rattle.std.specs.Io.KnownBytes.{Appends, Consumes, IsAtEnd, prepend_known}
use Rattle.bl_work.specs.Names.{KnownNames}
use Rattle.bl_wire.specs.Faults.{is_read, is_write}
use Rattle.bl_wire.specs.declared.fault.SessionFault.{SessionFault}
use Rattle.bl_wire.specs.declared.turn.Turn.{Turn}
use Rattle.bl_engine.specs.BlockText.{Begins}
use Rattle.bl_engine.specs.Conversations.{Given, HasHeard, IsHeardOf, KeepsBlock, Spoke, TellsWhole, asks, last_ordinal}
use Rattle.bl_engine.specs.Conversations.{need_of, whole_asked, whole_text}
use Rattle.bl_engine.specs.Driving.{Exchange, nothing_yet, with_line}
use Rattle.bl_engine.specs.Outcome.{Finished, Stopped}
use Rattle.bl_engine.specs.Parts.{SameWithin}
use Rattle.bl_engine.specs.Requests.{SameUpTo}
use Rattle.bl_engine.specs.declared.request.Request.{Request}
use Rattle.bl_engine.specs.View.{Ends, View, ends}
use Rattle.bl_engine.specs.declared.conversation.Need.{Need}
use Rattle.bl_engine.specs.declared.conversation.Need.TheVariants as needs
use Rattle.bl_engine.specs.declared.conversation.Opening.{Opening}
use Rattle.bl_engine.specs.declared.conversation.Opening.TheVariants.{Open}
use Rattle.bl_connection.specs.declared.connection.Connection.{Connection}
use Rattle.bl_connection.specs.declared.known.Known.{Known}
use Rattle.bl_connection.specs.declared.connection.State.{State}
use Rattle.bl_connection.specs.declared.connection.State.TheVariants.{Reads, Hears, Opens, Settles, Tells, Writes, Over}

-- ---- the bytes

-- what was read and not heard yet
abbrev pub unheard : {S : Type 0} → Connection S → List ℕ
unheard conn = drop conn.heard conn.input.items

-- what was told and not written yet
abbrev pub unwritten : {S : Type 0} → Connection S → List ℕ
unwritten conn = drop conn.written conn.output.items

-- what is still to be heard: what was read and not heard yet, and then what the stream will give
abbrev pub to_hear : {S : Type 0} → (S → Option (List ℕ)) → Connection S → Option (List ℕ)
to_hear remaining conn = prepend_known (unheard conn) (remaining conn.stream)

-- this is what is known of the bytes of a stream
abbrev pub IsKnownOf : {S : Type 0} → (remaining contents : S → Option (List ℕ)) → S → Known → Type 0
IsKnownOf remaining contents stream known = (known.remaining ≡ remaining stream) × (known.contents ≡ contents stream)

-- it began over a stream of this kind, as that was then
abbrev pub HasBegun : {S : Type 0} → (remaining contents : S → Option (List ℕ)) → Connection S → Type 0
HasBegun {S} remaining contents conn = (stream : S) × IsKnownOf remaining contents stream conn.first

-- What this stream gave since the connection was made is what was heard, and what was read and not heard yet. What it
-- took, and what was told and not written yet, are what was said.
pub record HasPassed {S : Type 0} (remaining contents : S → Option (List ℕ)) (conn : Connection S) (x : Exchange)
    (written : List ℕ) : Type 0 where
  pub begun : HasBegun remaining contents conn
  pub took : Consumes conn.first.remaining (to_hear remaining conn) x.heard
  pub put : Appends conn.first.contents (contents conn.stream) written
  pub said : x.said ≡ written ++ unwritten conn
  pub read_end : conn.ended ≡ true → OnSome conn.first.remaining (IsAtEnd (remaining conn.stream))
  pub heard_end : conn.conv.ended ≡ true → OnSome conn.first.remaining (IsAtEnd (to_hear remaining conn))

-- all is as it was, but for room that is no more needed
pub record SameBytes {S : Type 0} (old new : Connection S) : Type 0 where
  pub first : new.first ≡ old.first
  pub stream : new.stream ≡ old.stream
  pub conv : new.conv ≡ old.conv
  pub ended : new.ended ≡ old.ended
  pub unheard_is : unheard new ≡ unheard old
  pub unwritten_is : unwritten new ≡ unwritten old

-- ---- how far it has come

-- the machine takes the subject so, and these are its replies to the lines up to an ordinal, whatever they are to later
-- ones
abbrev pub Answers : Opening → (ℕ → List ℕ) → ℕ → Given → Type 0
Answers opening replies upto given = (given.opening ≡ opening) × SameWithin 0 upto replies given.replies

-- All that went through the stream is this exchange. Whatever the machine may still give, this was asked and said, and
-- of what was said each block is written whole, but perhaps the one that the last line closes. `left` is what is still
-- to be taken of the replies to the block that is told.
pub record IsConnected {S : Type 0} (remaining contents : S → Option (List ℕ)) (names : KnownNames)
    (MayGive : Given → Type 0) (left : ℕ → List ℕ) (conn : Connection S) (x : Exchange) : Type 0 where
  pub written : List ℕ
  pub passed : HasPassed remaining contents conn x written
  pub spoke : (given : Given) → MayGive given → Spoke names given left conn.conv x.turns x.asked x.heard x.said
  pub whole : (given : Given) → MayGive given → TellsWhole given.replies x.turns written

-- what comes next where nothing is to be written, by what the conversation waits for, and whether there is something to
-- be heard
abbrev pub state_by : Need → Bool → State
state_by needs.Input true = Hears
state_by needs.Input false = Reads
state_by needs.End more = Hears
state_by needs.Opening more = Opens
state_by needs.Replies more = Settles
state_by needs.Room more = Tells
state_by needs.Over more = Over

abbrev pub state_of : {S : Type 0} → Connection S → State
state_of conn =
    if nat_lt conn.written (length conn.output.items)
    then Writes
    else state_by (need_of conn.conv) (nat_lt conn.heard (length conn.input.items) || conn.ended)

-- ---- what each call does, whatever the machine has given up to an ordinal

-- a connection over a stream that nothing went through
pub record IsNew {S : Type 0} (remaining contents : S → Option (List ℕ)) (stream : S)
    (conn : Connection S) : Type 0 where
  pub stream_is : conn.stream ≡ stream
  pub first_is : IsKnownOf remaining contents stream conn.first
  pub connected : (names : KnownNames) (opening : Opening) (replies : ℕ → List ℕ) (upto : ℕ) (left : ℕ → List ℕ)
      → IsConnected remaining contents names (Answers opening replies upto) left conn nothing_yet

-- nothing more was heard or said
abbrev pub StaysConnected : {S : Type 0} → (remaining contents : S → Option (List ℕ)) → (old new : Connection S)
    → Type 0
StaysConnected remaining contents old new =
    (new.first ≡ old.first)
    × ((names : KnownNames) (opening : Opening) (replies : ℕ → List ℕ) (upto : ℕ) (left : ℕ → List ℕ) (x : Exchange)
    → IsConnected remaining contents names (Answers opening replies upto) left old x
    → IsConnected remaining contents names (Answers opening replies upto) left new x)

-- One line more was heard at most, or a part of one, and this is asked, which some line asks.
pub record HasHeardMore {S : Type 0} (remaining contents : S → Option (List ℕ)) (names : KnownNames)
    (old new : Connection S) (request : Option Request) (x : Exchange) : Type 0 where
  pub bytes : List ℕ
  pub more : List Turn
  pub few : length more ≤ 1
  pub origin : IfSome request (IsHeardOf names)
  pub block : KeepsBlock old.conv new.conv request
  pub connected : (opening : Opening) (replies : ℕ → List ℕ) (upto : ℕ) (left : ℕ → List ℕ)
      → IsConnected remaining contents names (Answers opening replies upto) left old x
      → IsConnected remaining contents names (Answers opening replies upto) left new
      (with_line x bytes more (asks request))

abbrev pub HearsMore : {S : Type 0} → (remaining contents : S → Option (List ℕ)) → KnownNames → (old new : Connection S)
    → Option Request → Type 0
HearsMore remaining contents names old new request =
    (new.first ≡ old.first) × ((x : Exchange) → HasHeard names old.conv x.turns x.heard
    → HasHeardMore remaining contents names old new request x)

-- it goes on where the machine takes the subject so
abbrev pub OpensAs : {S : Type 0} → (remaining contents : S → Option (List ℕ)) → Opening → (old new : Connection S)
    → Type 0
OpensAs remaining contents opening old new =
    (new.first ≡ old.first)
    × ((names : KnownNames) (replies : ℕ → List ℕ) (upto : ℕ) (left : ℕ → List ℕ) (x : Exchange)
    → IsConnected remaining contents names (Answers opening replies upto) left old x
    → IsConnected remaining contents names (Answers opening replies upto) left new x)

-- it goes on with the replies to the block, of which nothing was taken
abbrev pub IsAnswered : {S : Type 0} → (remaining contents : S → Option (List ℕ)) → (old new : Connection S) → Type 0
IsAnswered remaining contents old new =
    (new.first ≡ old.first)
    × ((names : KnownNames) (opening : Opening) (replies : ℕ → List ℕ) (upto : ℕ) (was left : ℕ → List ℕ) (x : Exchange)
    → last_ordinal old.conv ≤ upto → SameWithin old.conv.after (last_ordinal old.conv) replies left
    → IsConnected remaining contents names (Answers opening replies upto) was old x
    → IsConnected remaining contents names (Answers opening replies upto) left new x)

-- with so much more said
abbrev pub with_said : Exchange → List ℕ → Exchange
with_said x more = record { heard = x.heard; turns = x.turns; asked = x.asked; said = x.said ++ more }

-- So much more was told. Once the block is told, nothing is left of its replies.
pub record TellsMore {S : Type 0} (remaining contents : S → Option (List ℕ)) (was left : ℕ → List ℕ)
    (old new : Connection S) : Type 0 where
  pub first : new.first ≡ old.first
  pub more : List ℕ
  pub output : unwritten new ≡ unwritten old ++ more
  pub connected : (names : KnownNames) (opening : Opening) (replies : ℕ → List ℕ) (upto : ℕ) (x : Exchange)
      → IsConnected remaining contents names (Answers opening replies upto) was old x
      → IsConnected remaining contents names (Answers opening replies upto) left new (with_said x more)
  pub told : (need_of new.conv ≡ needs.Room → ⊥)
      → (names : KnownNames) (opening : Opening) (replies : ℕ → List ℕ) (upto : ℕ) (other : ℕ → List ℕ) (x : Exchange)
      → IsConnected remaining contents names (Answers opening replies upto) left new x
      → IsConnected remaining contents names (Answers opening replies upto) other new x

-- the end of the input was heard, or is to be: all that was read was heard, and the stream's input is at its end
abbrev pub IsHeard : {S : Type 0} → Connection S → Type 0
IsHeard conn = (need_of conn.conv ≡ needs.End)
    ⊎ ((need_of conn.conv ≡ needs.Input) × (unheard conn ≡ []) × (conn.ended ≡ true))

-- ---- how it ends

-- what is seen of a machine that was asked this, whose replies up to an ordinal stand
abbrev pub view_of : (ℕ → List ℕ) → ℕ → List Request → View
view_of replies upto asked = record { replies = replies; settled = λ n. n ≡ upto; came = λ told. told ≡ asked }

-- the stream as it was at first and as it is now: what is still to be heard of it, and what it took
abbrev pub ends_of : {S : Type 0} → (remaining contents : S → Option (List ℕ)) → Connection S → Ends
ends_of remaining contents conn = ends conn.first.remaining (to_hear remaining conn) conn.first.contents
    (contents conn.stream)

-- a fault ended it, and what was written begins the text of its lines
abbrev pub StopsAs : {S : Type 0} → (remaining contents : S → Option (List ℕ)) → SessionFault → (left : ℕ → List ℕ)
    → (old new : Connection S) → Type 0
StopsAs remaining contents fault left old new =
    (new.first ≡ old.first)
    × ((names : KnownNames) (replies : ℕ → List ℕ) (upto : ℕ) (x : Exchange)
    → IsConnected remaining contents names (Answers Open replies upto) left old x
    → Stopped fault names (ends_of remaining contents new) (is_read fault) (is_write fault)
    (view_of replies upto x.asked))

-- The whole text of its lines is written, and all was asked that they ask. Where the machine opened the session, the
-- input was read to its end, or to the end of a first line that was refused.
pub record HasFinished {S : Type 0} (remaining contents : S → Option (List ℕ)) (names : KnownNames) (opening : Opening)
    (replies : ℕ → List ℕ) (upto : ℕ) (conn : Connection S) (x : Exchange) : Type 0 where
  pub put : Appends conn.first.contents (contents conn.stream) (whole_text opening replies x.turns)
  pub asked_is : x.asked ≡ whole_asked opening x.turns
  pub finished : opening ≡ Open → Finished names (ends_of remaining contents conn) (view_of replies upto x.asked)

abbrev pub Finishes : {S : Type 0} → (remaining contents : S → Option (List ℕ)) → Connection S → Type 0
Finishes remaining contents conn =
    (names : KnownNames) (opening : Opening) (replies : ℕ → List ℕ) (upto : ℕ) (left : ℕ → List ℕ) (x : Exchange)
    → IsConnected remaining contents names (Answers opening replies upto) left conn x
    → HasFinished remaining contents names opening replies upto conn x

-- what the stream took begins the text of the lines that were heard, whatever is answered later
abbrev pub BeginsText : {S : Type 0} → (remaining contents : S → Option (List ℕ)) → Connection S → Type 0
BeginsText remaining contents conn =
    (names : KnownNames) (opening : Opening) (replies : ℕ → List ℕ) (upto : ℕ) (left : ℕ → List ℕ) (x : Exchange)
    → IsConnected remaining contents names (Answers opening replies upto) left conn x
    → (written : List ℕ) × Appends conn.first.contents (contents conn.stream) written
    × ((later : ℕ → List ℕ) → SameUpTo upto replies later → Begins written (whole_text opening later x.turns))
