-- What a member waits for, by the stage of its conversation.
use Rattle.std.proofs.Common.{◌≡◌, ℕ, ◌<◌, ◌≤◌, ◌⊎◌, inl, inr, Bool, true, false, List, [], ◌∷◌, length, refl, sym, ap, subst, arith}
use Rattle.std.proofs.lemmas.List.Elements.{All-nil}
use Rattle.std.specs.Prelude.{All, drop, nat_lt}
use Rattle.std.proofs.lemmas.Bool.Decides.{nat_tests}
use Rattle.std.proofs.lemmas.List.{length-drop}
use Rattle.bl_hall.specs.declared.reply.Reply.{Reply}
use Rattle.bl_wire.specs.Named.{NamesAnswer}
use Rattle.bl_wire.specs.declared.turn.Turn.{Turn}
use Rattle.bl_engine.specs.Conversations.{Given, GoesOnAlone, IsAt, Talk, need_at, need_of}
use Rattle.bl_engine.specs.Parts.{MayTake}
use Rattle.bl_engine.specs.declared.conversation.Closing.{Closing}
use Rattle.bl_engine.specs.declared.conversation.Need.{Need}
use Rattle.bl_engine.specs.declared.conversation.Need.TheVariants as needs
use Rattle.bl_engine.specs.declared.conversation.Opening.TheVariants as openings
use Rattle.bl_engine.specs.declared.conversation.Stage.{Stage}
use Rattle.bl_engine.specs.declared.conversation.Stage.TheVariants as stages
use Rattle.bl_engine.specs.declared.request.Request.{Request}
use Rattle.bl_engine.specs.declared.request.Request.TheVariants.{Opens}
use Rattle.bl_connection.specs.Connections.{state_of, unwritten}
use Rattle.bl_connection.specs.declared.connection.Connection.{Connection}
use Rattle.bl_connection.specs.declared.connection.State.TheVariants as states
use Rattle.bl_connection.proofs.States.{hears_at, state_so}
use Rattle.bl_serve.specs.Telling.{Stands}
use Rattle.bl_serve.specs.Told.{IsPage}
use Rattle.bl_serve.specs.declared.talk.Told.{Told}
use Rattle.bl_serve.proofs.ToldLaws.{page_first}
use Rattle.bl_crowd.specs.Members.{AwaitsNothing}

-- ---- what it waits for

pub alone_needs : (ended : Bool) (n : ℕ) (stage : Stage) → GoesOnAlone n stage → AwaitsNothing (need_at ended stage)
alone_needs true n stages.Greets alone = tt
alone_needs false n stages.Greets alone = tt
alone_needs ended n stages.Opens alone = absurd alone
alone_needs true n stages.Listens alone = tt
alone_needs false n stages.Listens alone = tt
alone_needs ended n (stages.Settles closing) alone = absurd alone
alone_needs ended n (stages.Tells closing) alone = tt
alone_needs ended n stages.Over alone = tt

pub told_needs : (ended : Bool) (stage : Stage) → ((need_at ended stage ≡ needs.Room → ⊥) → GoesOnAlone 0 stage) → AwaitsNothing (need_at ended stage)
told_needs true stages.Greets done = tt
told_needs false stages.Greets done = tt
told_needs ended stages.Opens done = absurd (done (λ room. cc))
told_needs true stages.Listens done = tt
told_needs false stages.Listens done = tt
told_needs ended (stages.Settles closing) done = absurd (done (λ room. cc))
told_needs ended (stages.Tells closing) done = tt
told_needs ended stages.Over done = tt

pub room_needs : (need : Need) → need ≡ needs.Room → AwaitsNothing need
room_needs need is = subst AwaitsNothing (sym is) tt

pub listens_needs : (ended : Bool) (stage : Stage) → stage ≡ stages.Listens → AwaitsNothing (need_at ended stage)
listens_needs true stage is = subst (λ s. AwaitsNothing (need_at true s)) (sym is) tt
listens_needs false stage is = subst (λ s. AwaitsNothing (need_at false s)) (sym is) tt

-- who hears tells nothing
pub hears_no_room : {S : Type 0} (conn : Connection S) → state_of conn ≡ states.Hears → need_of conn.conv ≡ needs.Room → ⊥
hears_no_room conn is room = elim (hears_at conn is).1 [ inl input ↦ (let e = input.0 in cc) | inr end ↦ cc ]

-- a session that was turned away hears nothing more
full_at : (ended : Bool) (stage : Stage) (given : Given) (left : ℕ → List ℕ) (talk : Talk) (turns : List Turn) (asked : List Request) (said : List ℕ) (subject : ℕ)
    → ((need_at ended stage ≡ needs.Input) ⊎ (need_at ended stage ≡ needs.End)) → given.opening ≡ openings.Full → asked ≡ Opens subject ∷ [] → IsAt stage given left talk turns asked said → ⊥
full_at ended stages.Greets given left talk turns asked said subject hears full is at = let none = at.none in cc
full_at ended stages.Opens given left talk turns asked said subject hears full is at = elim hears [ inl a ↦ cc | inr b ↦ cc ]
full_at ended stages.Listens given left talk turns asked said subject hears full is at = let opens = at.is_open in cc
full_at ended (stages.Settles closing) given left talk turns asked said subject hears full is at = elim hears [ inl a ↦ cc | inr b ↦ cc ]
full_at ended (stages.Tells closing) given left talk turns asked said subject hears full is at = elim hears [ inl a ↦ cc | inr b ↦ cc ]
full_at ended stages.Over given left talk turns asked said subject hears full is at = elim hears [ inl a ↦ cc | inr b ↦ cc ]

pub full_hears : {S : Type 0} (conn : Connection S) (given : Given) (left : ℕ → List ℕ) (talk : Talk) (turns : List Turn) (asked : List Request) (said : List ℕ) (subject : ℕ)
    → state_of conn ≡ states.Hears → given.opening ≡ openings.Full → asked ≡ Opens subject ∷ [] → IsAt conn.conv.stage given left talk turns asked said → ⊥
full_hears conn given left talk turns asked said subject is full asks at =
    full_at conn.conv.ended conn.conv.stage given left talk turns asked said subject (elim (hears_at conn is).1 [ inl input ↦ inl input.0 | inr end ↦ inr end ]) full asks at

-- ---- replies of which none is told yet

module _ (told : Told) (items : List Reply) (after n : ℕ) (replies : told.replies.items ≡ items) (next : told.next ≡ 0) (upto : told.upto ≤ after) (order : IsPage items 0 after)
    (named : All (λ (r : Reply). NamesAnswer told.names.now r.answer) items) where
  pub stands_first : after < n → MayTake (Stands told) n
  stands_first lt = (
    after,
    lt,
    record {
      upto = upto;
      page = subst (λ (k : ℕ). IsPage told.replies.items k after) (sym next) (subst (λ (l : List Reply). IsPage l 0 after) (sym replies) order);
      named = subst (All (λ (r : Reply). NamesAnswer told.names.now r.answer)) (sym replies) named;
    },
  )

pub stands_none : (told : Told) (n : ℕ) → told.replies.items ≡ [] → told.next ≡ 0 → told.upto ≡ 0 → 0 < n → MayTake (Stands told) n
stands_none told n replies next upto lt =
    stands_first told [] 0 n replies next (omega (arith, upto)) (page_first [] 0 (λ i j d lt inside. absurd (omega (arith, inside)))) (All-nil (λ (r : Reply). NamesAnswer told.names.now r.answer)) lt

-- ---- where a connection is that waits for the machine

written_all : (n : ℕ) (xs : List ℕ) → drop n xs ≡ [] → nat_lt n (length xs) ≡ false
written_all n xs none = (let e = length-drop n xs in let z = ap length none in less n (length xs) (omega (arith, e, z)))
  where
    less : (a b : ℕ) → b ≤ a → nat_lt a b ≡ false
    less a b le = grind (arith, nat_tests)

pub opens_state : {S : Type 0} (conn : Connection S) → unwritten conn ≡ [] → conn.conv.stage ≡ stages.Opens → state_of conn ≡ states.Opens
opens_state conn none is =
    state_so false (nat_lt conn.written (length conn.output.items)) needs.Opening (need_of conn.conv) _ _ (sym (written_all conn.written conn.output.items none)) (sym (ap (need_at conn.conv.ended) is)) refl

pub settles_state : {S : Type 0} (conn : Connection S) (closing : Closing) → unwritten conn ≡ [] → conn.conv.stage ≡ stages.Settles closing → state_of conn ≡ states.Settles
settles_state conn closing none is =
    state_so false (nat_lt conn.written (length conn.output.items)) needs.Replies (need_of conn.conv) _ _ (sym (written_all conn.written conn.output.items none)) (sym (ap (need_at conn.conv.ended) is)) refl
