-- How the machine receives a subject, and a work.
use Rattle.std.specs.Prelude.{◌≡◌, ◌≢◌, ◌⊎◌, ℕ, length}
use Rattle.bl_work.specs.declared.work.Work.{Work}
use Rattle.bl_order.specs.Machine.{Admits, Opens}
use Rattle.bl_core.specs.Answers.{IsCause}
use Rattle.bl_core.specs.declared.refusal.Cause.{Cause}
use Rattle.bl_core.specs.declared.refusal.Cause.TheVariants as causes
use Rattle.bl_gate.specs.Gates.{Calls, PassView, state_seen}
use Rattle.bl_engine.specs.declared.conversation.Opening.{Opening}
use Rattle.bl_engine.specs.declared.conversation.Opening.TheVariants as openings
use Rattle.bl_serve.specs.Visits.{IsCrowded}
use Rattle.bl_crowd.specs.declared.member.Reception.{Reception}
use Rattle.bl_crowd.specs.declared.member.Reception.TheVariants.{Awaited, Open, Full}

abbrev pub opening_of : Reception → Opening
opening_of Awaited = openings.Open
opening_of (Open session) = openings.Open
opening_of Full = openings.Full

-- the pass has opened a session with this number, or has found that there are as many as there may be and made no event
abbrev pub HasReceived : (before after : PassView) → ℕ → Reception → Type 0
HasReceived before after subject Awaited = ⊥
HasReceived before after subject (Open session) = Calls before (Opens subject) (λ x. session ≡ length x.sessions) after
HasReceived before after subject Full = (after.own ≡ before.own) × IsCrowded after

-- the pass has admitted the work for the session, or there was no room for it
abbrev pub HasEntered : (before after : PassView) → (session ordinal : ℕ) → Work → Type 0
HasEntered before after session ordinal work =
    Calls before (Admits session ordinal work) (λ x. Unit {0}) after
    ⊎ ((after ≡ before) × IsCause (state_seen before) session ordinal work causes.Full)

-- the work is not to be admitted, whatever room there is
abbrev pub IsRefused : PassView → (session ordinal : ℕ) → Work → Type 0
IsRefused pass session ordinal work = (why : Cause) × (why ≢ causes.Full)
    × IsCause (state_seen pass) session ordinal work why
