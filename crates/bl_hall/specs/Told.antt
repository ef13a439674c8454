-- What a hall tells a session: the replies to its lines above an ordinal, in numeric order of their labels.
use Rattle.std.specs.Prelude.{◌≡◌, ℕ, zero, suc, ◌<◌, ◌≤◌, Bool, false, ◌&&◌, ◌==◌, nat_lt, IsTrue, if◌then◌else◌, List}
use Rattle.std.specs.Prelude.{[], length, slice_index_or, AllPairs, Contains}
use Rattle.bl_work.specs.Few.{items_of}
use Rattle.bl_order.specs.Labels.{Tag, Reply, tag, put_in, is_before}
use Rattle.bl_order.specs.Machine.{State, past_at, has_ended}
use Rattle.bl_hall.specs.declared.reply.Reply as owned
use Rattle.bl_hall.specs.declared.reply.AnswersFault.{AnswersFault}
use Rattle.bl_hall.specs.declared.reply.AnswersFault.TheVariants as fault

-- the reply to the entry of a place
abbrev pub reply_in : State → ℕ → Reply
reply_in x n = record { label = (tag x.order n).label; answer = (past_at x n).answer }

-- whether an entry is that of a line of the session above an ordinal, or of a descendant of one
abbrev pub is_above : ℕ → ℕ → Tag → Bool
is_above session after tag = (tag.session == session) && nat_lt after (slice_index_or tag.label 0 0)

-- the replies to the lines of a session above an ordinal, of the places below n
abbrev pub replies_above : State → ℕ → ℕ → ℕ → List Reply
replies_above x session after zero = []
replies_above x session after (suc n) =
    if is_above session after (tag x.order n) then put_in (reply_in x n)
    (replies_above x session after n) else replies_above x session after n

-- the ordinal of the line that an entry is, or that it descends from
abbrev pub root_ordinal : Tag → ℕ
root_ordinal tag = slice_index_or tag.label 0 0

-- an entry is that of a line of the session above an ordinal, or of a descendant of one
pub record IsAbove (x : State) (session after n : ℕ) : Type 0 where
  pub there : n < length x.order
  pub own : (tag x.order n).session ≡ session
  pub above : after < root_ordinal (tag x.order n)

-- The replies to the lines of a session above an ordinal, as they stand: in numeric order of their labels, no two with
-- one label; the reply to each entry above the ordinal, and no other.
pub record AreInOrder (x : State) (session after : ℕ) (replies : List Reply) : Type 0 where
  pub rising : AllPairs (λ (earlier later : Reply). IsTrue (is_before earlier.label later.label)) replies
  pub each : (n : ℕ) → IsAbove x session after n → Contains replies (reply_in x n)
  pub no_other : (reply : Reply) → Contains replies reply → (n : ℕ) × IsAbove x session after n × (reply ≡ reply_in x n)

-- a session still waits: an entry of it has not ended
abbrev pub Waits : State → ℕ → Type 0
Waits x session = (n : ℕ) × (n < length x.order) × ((tag x.order n).session ≡ session) × (has_ended x n ≡ false)

-- a reply as it is handed over
abbrev pub reply_of : owned.Reply → Reply
reply_of reply = record { label = items_of reply.label; answer = reply.answer }

-- these are all replies to the lines of a session above an ordinal, and it waits for none
pub record AreAnswers (x : State) (session after : ℕ) (replies : List Reply) : Type 0 where
  pub waits : ¬ Waits x session
  pub are : replies ≡ replies_above x session after (length x.order)

-- why a session is not answered: it is not open, or a growth was refused
abbrev pub IsUnanswered : State → ℕ → AnswersFault → Type 0
IsUnanswered x session fault.Session = length x.sessions ≤ session
IsUnanswered x session fault.Memory = session < length x.sessions
