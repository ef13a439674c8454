-- How far a conversation has come with a driver that may wait.
use Rattle.std.proofs.Common.{◌≡◌, ℕ, ◌≤◌, inl, inr, ◌⊎◌, ◌+◌, Bool, true, false, List, [], ◌++◌, length, refl, sym, ap, subst, ◌∙◌, append-nil, arith, Option, None, OnSome}
use Rattle.std.specs.Io.KnownBytes.{Consumes, Appends, IsAtEnd, Keeps}
use Rattle.std.proofs.KnownBytes.{Consumes-nil, Consumes-trans, Keeps-refl, Appends-nil, Appends-trans, Appends-kept}
use Rattle.bl_work.specs.Names.{KnownNames}
use Rattle.bl_wire.specs.declared.turn.Turn.{Turn}
use Rattle.bl_wire.proofs.Parts.{known_on}
use Rattle.bl_engine.specs.Requests.{Request}
use Rattle.bl_engine.specs.Parts.{SameWithin}
use Rattle.bl_engine.specs.View.{Ends, ends}
use Rattle.bl_engine.specs.Driving.{Exchange, HasListened, IsDriven, Listened, ToldAll, nothing_yet, with_line}
use Rattle.bl_engine.specs.declared.conversation.Opening.{Opening}
use Rattle.bl_engine.specs.declared.conversation.Closing.{Closing}
use Rattle.bl_engine.specs.declared.conversation.Closing.TheVariants as closings
use Rattle.bl_engine.specs.declared.conversation.Conversation.{Conversation}
use Rattle.bl_engine.specs.declared.conversation.Need.TheVariants as needs
use Rattle.bl_engine.specs.declared.conversation.Stage.{Stage}
use Rattle.bl_engine.specs.declared.conversation.Stage.TheVariants as stages
use Rattle.bl_engine.specs.Conversations.{Given, Talk, Hears, IsAnswered, IsAt, IsEnding, IsOpenedAs, IsTelling, KeepsBlock, Spoke, asks, is_hearing, need_at, need_of, owed, talk_of}
use Rattle.bl_engine.proofs.Hearings.{no_input}
use Rattle.bl_engine.proofs.Turnings.{all_told}
use Rattle.bl_engine.proofs.Stoppings.{given_by}

-- before anything was heard
pub driven_new : (names : KnownNames) (r w : Option (List ℕ)) (M : Given → Type 0) (conv : Conversation) → need_of conv ≡ needs.Input
    → ((names : KnownNames) (given : Given) (left : ℕ → List ℕ) → Spoke names given left conv [] [] [] []) → IsDriven names (ends r r w w) M conv nothing_yet
driven_new names r w M conv need spoke = record {
  took = Consumes-nil r;
  put = Appends-nil w;
  end = λ ended. absurd (no_input conv.ended conv.stage ended need);
  cut = (spoke names (given_by (λ k. [])) (λ k. [])).cut;
  point = λ given left may. (spoke names given left).point;
}

-- the machine may give less than it might before
pub driven_narrow : (names : KnownNames) (e : Ends) (M N : Given → Type 0) (conv : Conversation) (x : Exchange) → ((given : Given) → N given → M given)
    → IsDriven names e M conv x → IsDriven names e N conv x
driven_narrow names e M N conv x less was = record {
  took = was.took;
  put = was.put;
  end = was.end;
  cut = was.cut;
  point = λ given left may. was.point given left (less given may);
}

abbrev pub listened_narrow : (names : KnownNames) (e : Ends) (M N : Given → Type 0) (conv : Conversation) (request : Option Request) (x : Exchange) → ((given : Given) → N given → M given)
    → HasListened names e M conv request x → HasListened names e N conv request x
listened_narrow names e M N conv request x less was = record {
  old = was.old;
  hearing = was.hearing;
  before = λ given left may. was.before given left (less given may);
  bytes = was.bytes;
  more = was.more;
  few = was.few;
  origin = was.origin;
  block = was.block;
  now = driven_narrow names e M N conv (with_line x was.bytes was.more (asks request)) less was.now;
}

pub hearing_by : (ended : Bool) (stage : Stage) → (need_at ended stage ≡ needs.Input) ⊎ (need_at ended stage ≡ needs.End) → is_hearing stage ≡ true
hearing_by ended stages.Greets need = refl
hearing_by ended stages.Listens need = refl
hearing_by ended stages.Opens need = absurd (elim need [ inl is ↦ cc | inr is ↦ cc ])
hearing_by ended (stages.Settles closing) need = absurd (elim need [ inl is ↦ cc | inr is ↦ cc ])
hearing_by ended (stages.Tells closing) need = absurd (elim need [ inl is ↦ cc | inr is ↦ cc ])
hearing_by ended stages.Over need = absurd (elim need [ inl is ↦ cc | inr is ↦ cc ])

-- that the end was heard, where it waits to be told so once more
pub has_ended : (ended : Bool) (stage : Stage) → need_at ended stage ≡ needs.End → ended ≡ true
has_ended true stage is = refl
has_ended false stages.Greets is = cc
has_ended false stages.Listens is = cc
has_ended false stages.Opens is = cc
has_ended false (stages.Settles closing) is = cc
has_ended false (stages.Tells closing) is = cc
has_ended false stages.Over is = cc

module _ (names : KnownNames) (start r first w : Option (List ℕ)) (M : Given → Type 0) (old : Conversation) (x : Exchange) (was : IsDriven names (ends start r first w) M old x) where
  -- a line more was heard, or a part of one, or the end of the input
  abbrev pub driven_heard : (r' w' : Option (List ℕ)) (new : Conversation) (request : Option Request) (bytes : List ℕ) → Consumes r r' bytes → Keeps w w'
      → (new.ended ≡ true → OnSome start (IsAtEnd r')) → is_hearing old.stage ≡ true → Hears names old new bytes request → KeepsBlock old new request
      → HasListened names (ends start r' first w') M new request x
  driven_heard r' w' new request bytes took kept end hearing hears block =
      let more = hears x.turns x.heard was.cut in
      record {
        old = old;
        hearing = hearing;
        before = was.point;
        bytes = bytes;
        more = more.more;
        few = more.few;
        origin = more.origin;
        block = block;
        now = record {
          took = Consumes-trans start r r' x.heard bytes was.took took;
          put = Appends-kept first w w' x.said was.put kept;
          end = end;
          cut = more.cut;
          point = λ given left may. more.point given left x.asked x.said (was.point given left may);
        };
      }

  abbrev pub driven_listened : (r' w' : Option (List ℕ)) (new : Conversation) (request : Option Request) → need_of old ≡ needs.Input → Listened names r r' old new request → Keeps w w'
      → HasListened names (ends start r' first w') M new request x
  driven_listened r' w' new request need on kept =
      driven_heard r' w' new request on.bytes on.took kept (λ is. known_on start r r' x.heard was.took (on.end is)) (hearing_by old.ended old.stage (inl need)) on.hears on.block

  abbrev pub driven_ended : (new : Conversation) (request : Option Request) → need_of old ≡ needs.End → Hears names old new [] request → KeepsBlock old new request
      → HasListened names (ends start r first w) M new request x
  driven_ended new request need hears block =
      driven_heard r w new request [] (Consumes-nil r) (Keeps-refl w) (λ is. was.end (has_ended old.ended old.stage need)) (hearing_by old.ended old.stage (inr need)) hears block

-- nothing was asked
pub driven_alone : (names : KnownNames) (e : Ends) (M : Given → Type 0) (conv : Conversation) (x : Exchange) → HasListened names e M conv None x
    → (y : Exchange) × (y.asked ≡ x.asked) × IsDriven names e M conv y
driven_alone names e M conv x on = (
  record { heard = x.heard ++ on.bytes; turns = x.turns ++ on.more; asked = x.asked; said = x.said },
  refl,
  record {
    took = on.now.took;
    put = on.now.put;
    end = on.now.end;
    cut = on.now.cut;
    point = λ given left may. subst (λ asked. IsAt conv.stage given left (talk_of conv) (x.turns ++ on.more) asked x.said) (append-nil x.asked) (on.now.point given left may);
  },
)

-- how it stands with each of what the machine may give
abbrev pub SpokeWith : KnownNames → (Given → Type 0) → (ℕ → List ℕ) → Conversation → Exchange → Type 0
SpokeWith names M left conv x = (given : Given) → M given → Spoke names given left conv x.turns x.asked x.heard x.said

module _ (names : KnownNames) (start r first w : Option (List ℕ)) (M : Given → Type 0) (old new : Conversation) (x : Exchange) (was : IsDriven names (ends start r first w) M old x) where
  pub spoke_with : (left : ℕ → List ℕ) → SpokeWith names M left old x
  spoke_with left given may = record { cut = was.cut; point = was.point given left may }

  -- the machine has opened the session, or found it full
  pub driven_opened : (opening : Opening) (some : Given) → M some → new.ended ≡ old.ended → ((given : Given) → M given → given.opening ≡ opening) → IsOpenedAs opening old new
      → IsDriven names (ends start r first w) M new x
  driven_opened opening some may ended is opens = record {
    took = was.took;
    put = was.put;
    end = λ now. was.end (sym ended ∙ now);
    cut = (spoke some (λ k. []) may).cut;
    point = λ given left may. (spoke given left may).point;
  }
    where
      spoke : (given : Given) (left : ℕ → List ℕ) → M given → Spoke names given left new x.turns x.asked x.heard x.said
      spoke given left may = opens names given left x.turns x.asked x.heard x.said (is given may) (record { cut = was.cut; point = was.point given left may })

  -- the block was answered
  pub spoke_answered : (left : ℕ → List ℕ) → ((given : Given) → M given → SameWithin old.after (old.after + length old.pending.items) given.replies left) → IsAnswered old new
      → SpokeWith names M left new x
  spoke_answered left same answers given may =
      answers names given (λ k. []) left x.turns x.asked x.heard x.said (same given may) (record { cut = was.cut; point = was.point given (λ k. []) may })

-- where no lines are to be told, nothing is said of what is left of replies
left_free : (stage : Stage) (given : Given) (left other : ℕ → List ℕ) (talk : Talk) (turns : List Turn) (asked : List Request) (said : List ℕ) → talk.pending ≡ []
    → IsAt stage given left talk turns asked said → IsAt stage given other talk turns asked said
left_free stages.Greets given left other talk turns asked said none at = at
left_free stages.Opens given left other talk turns asked said none at = at
left_free stages.Listens given left other talk turns asked said none at = at
left_free (stages.Settles closing) given left other talk turns asked said none at = at
left_free stages.Over given left other talk turns asked said none at = at
left_free (stages.Tells closing) given left other talk turns asked said none at = by_closing closing at
  where
    nothing : length talk.pending ≤ talk.line
    nothing = omega (arith, ap length none)

    same : (closing : Closing) → owed left talk closing ≡ owed other talk closing
    same closing = all_told left talk closing nothing ∙ sym (all_told other talk closing nothing)

    by_closing : (closing : Closing) → IsAt (stages.Tells closing) given left talk turns asked said → IsAt (stages.Tells closing) given other talk turns asked said
    by_closing closings.GoesOn at = subst (IsTelling given talk turns asked said) (same closings.GoesOn) at
    by_closing closings.Ends at = subst (IsEnding given closings.Ends talk.ended turns asked said) (same closings.Ends) at
    by_closing closings.RefusesHello at = subst (IsEnding given closings.RefusesHello talk.ended turns asked said) (same closings.RefusesHello) at
    by_closing closings.FindsFull at = subst (IsEnding given closings.FindsFull talk.ended turns asked said) (same closings.FindsFull) at

abbrev pub with_said : Exchange → List ℕ → Exchange
with_said x more = record x { said = x.said ++ more }

-- all that there was to say was said
module _ (names : KnownNames) (start r first w w' : Option (List ℕ)) (M : Given → Type 0) (old new : Conversation) (x : Exchange) (some : Given) (may : M some) where
  pub driven_told : (was left : ℕ → List ℕ) → Consumes start r x.heard → Appends first w x.said → (old.ended ≡ true → OnSome start (IsAtEnd r)) → SpokeWith names M was old x
      → (told : ToldAll was left old new w w') → IsDriven names (ends start r first w') M new (with_said x told.more)
  driven_told was left took put end spoke told = record {
    took = took;
    put = Appends-trans first w w' x.said told.more put told.put;
    end = λ now. end (sym told.ended ∙ now);
    cut = (after some may).cut;
    point = λ given other ok. left_free new.stage given left other (talk_of new) x.turns x.asked (x.said ++ told.more) told.none (after given ok).point;
  }
    where
      after : SpokeWith names M left new (with_said x told.more)
      after given ok = told.says names given x.turns x.asked x.heard x.said (spoke given ok)
