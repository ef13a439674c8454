-- What was asked before, by the stage of a conversation and by what it waits for.
use Rattle.std.proofs.Common.{◌≡◌, ℕ, ◌≤◌, inl, inr, ◌⊎◌, Bool, true, false, List, [], ◌∷◌, ◌++◌, length, length-append, refl, ap, subst, arith}
use Rattle.bl_work.specs.declared.work.Work.{Work}
use Rattle.bl_wire.specs.declared.turn.Turn.{Turn}
use Rattle.bl_engine.specs.declared.request.Request.{Request}
use Rattle.bl_engine.specs.declared.request.Request.TheVariants.{Opens, Admits, Settles}
use Rattle.bl_engine.specs.declared.conversation.Closing.{Closing}
use Rattle.bl_engine.specs.declared.conversation.Closing.TheVariants as closings
use Rattle.bl_engine.specs.declared.conversation.Need.TheVariants as needs
use Rattle.bl_engine.specs.declared.conversation.Stage.{Stage}
use Rattle.bl_engine.specs.declared.conversation.Stage.TheVariants as stages
use Rattle.bl_engine.specs.Conversations.{Given, Talk, GoesOnAlone, IsAt, need_at}

pub at_stage : (stage to : Stage) (given : Given) (left : ℕ → List ℕ) (talk : Talk) (turns : List Turn) (asked : List Request) (said : List ℕ) → stage ≡ to
    → IsAt stage given left talk turns asked said → IsAt to given left talk turns asked said
at_stage stage to given left talk turns asked said is at = subst (λ x. IsAt x given left talk turns asked said) is at

-- ---- what it waits for

-- words alone are told where there is no line
pub alone_less : (m n : ℕ) (stage : Stage) → n ≤ m → GoesOnAlone m stage → GoesOnAlone n stage
alone_less m n stages.Greets le alone = tt
alone_less m n stages.Opens le alone = absurd alone
alone_less m n stages.Listens le alone = tt
alone_less m n (stages.Settles closing) le alone = absurd alone
alone_less m n (stages.Tells closing) le alone = omega (arith, le, alone)
alone_less m n stages.Over le alone = tt

-- without lines, room is for words alone
pub room_alone : (n : ℕ) (ended : Bool) (stage : Stage) → n ≡ 0 → need_at ended stage ≡ needs.Room → GoesOnAlone n stage
room_alone n ended stages.Greets none room = tt
room_alone n ended stages.Opens none room = cc
room_alone n ended stages.Listens none room = tt
room_alone n ended (stages.Settles closing) none room = cc
room_alone n ended (stages.Tells closing) none room = none
room_alone n ended stages.Over none room = tt

pub room_none : (n : ℕ) (ended : Bool) (stage : Stage) → GoesOnAlone n stage → need_at ended stage ≡ needs.Room → n ≡ 0
room_none n true stages.Greets alone room = cc
room_none n false stages.Greets alone room = cc
room_none n ended stages.Opens alone room = absurd alone
room_none n true stages.Listens alone room = cc
room_none n false stages.Listens alone room = cc
room_none n ended (stages.Settles closing) alone room = absurd alone
room_none n ended (stages.Tells closing) alone room = alone
room_none n ended stages.Over alone room = cc

pub alone_input : (ended : Bool) (n : ℕ) (stage : Stage) → need_at ended stage ≡ needs.Input → GoesOnAlone n stage
alone_input ended n stages.Greets is = tt
alone_input ended n stages.Listens is = tt
alone_input ended n stages.Over is = tt
alone_input ended n stages.Opens is = cc
alone_input ended n (stages.Settles closing) is = cc
alone_input ended n (stages.Tells closing) is = cc

-- ---- what was asked before

asked_then : (asked : List Request) (last : Request) (subject : ℕ) (told : List Request) → asked ++ last ∷ [] ≡ Opens subject ∷ told → (last ≡ Opens subject → ⊥) → asked ≡ [] → ⊥
asked_then [] last subject told is other none = other cc
asked_then (r ∷ asked) last subject told is other none = cc

before_then : (asked before : List Request) (subject : ℕ) (told : List Request) → asked ++ Settles ∷ [] ≡ before ++ Settles ∷ [] → before ≡ Opens subject ∷ told → asked ≡ [] → ⊥
before_then asked before subject told same is none =
    let long : length (asked ++ Settles ∷ []) ≡ length (before ++ Settles ∷ []) = ap (λ (l : List Request). length l) same in
    let some : length before ≡ length (Opens subject ∷ told) = ap (λ (l : List Request). length l) is in
    let nothing : length asked ≡ 0 = ap (λ (l : List Request). length l) none in
    absurd (omega (arith, long, some, nothing, length-append asked (Settles ∷ []), length-append before (Settles ∷ [])))

module _ (given : Given) (left : ℕ → List ℕ) (talk : Talk) (turns : List Turn) (asked : List Request) (said : List ℕ) where
  -- once a block is to be settled, or a work admitted, something was asked before
  pub settles_then : (closing : Closing) → IsAt (stages.Settles closing) given left talk turns (asked ++ Settles ∷ []) said → asked ≡ [] → ⊥
  settles_then closings.GoesOn at none = asked_then asked Settles at.subject _ at.asked_is (λ same. cc) none
  settles_then closings.Ends at none = before_then asked at.1.0 at.1.2.subject _ at.1.1 at.1.2.asked_is none
  settles_then closings.RefusesHello at none = at
  settles_then closings.FindsFull at none = at

  pub admits_then : (ordinal : ℕ) (work : Work) → IsAt stages.Listens given left talk turns (asked ++ Admits ordinal work ∷ []) said → asked ≡ [] → ⊥
  admits_then ordinal work at none = asked_then asked (Admits ordinal work) at.subject _ at.asked_is (λ same. cc) none

  -- and before the session is opened nothing was
  pub opens_first : (subject : ℕ) → IsAt stages.Opens given left talk turns (asked ++ Opens subject ∷ []) said → asked ≡ []
  opens_first subject at = nothing asked at.asked_is
    where
      nothing : (asked : List Request) → asked ++ Opens subject ∷ [] ≡ Opens at.subject ∷ [] → asked ≡ []
      nothing [] is = refl
      nothing (r ∷ asked) is =
          let long : length ((r ∷ asked) ++ Opens subject ∷ []) ≡ 1 = ap (λ (l : List Request). length l) is in
          absurd (omega (arith, long, length-append asked (Opens subject ∷ [])))
