-- What one line does to a conversation, and one answer of the machine.
use Rattle.std.proofs.Common.{◌≡◌, ℕ, zero, suc, ◌+◌, ◌≤◌, Bool, true, false, List, [], ◌∷◌, ◌++◌, length, refl, sym, ap, subst, ◌∙◌, append-nil, arith, Option, Some, None, IfSome, drop}
use Rattle.bl_wire.specs.Turns.{HasNoWait, is_skip, greeted}
use Rattle.bl_wire.specs.declared.turn.Pending.{Pending}
use Rattle.bl_wire.specs.declared.turn.Turn.{Turn}
use Rattle.bl_wire.specs.declared.turn.Turn.TheVariants.{Skip, Wait, Greets, Bad, Ask}
use Rattle.bl_engine.specs.Requests.{Request, Opens, Settles, told_of}
use Rattle.bl_engine.specs.BlockText.{pending_of, block_text}
use Rattle.bl_engine.specs.Greetings.{greeting_of}
use Rattle.bl_engine.specs.declared.conversation.Opening.{Opening}
use Rattle.bl_engine.specs.declared.conversation.Opening.TheVariants.{Open, Full}
use Rattle.bl_engine.specs.declared.conversation.Closing.{Closing}
use Rattle.bl_engine.specs.declared.conversation.Closing.TheVariants.{GoesOn, Ends, RefusesHello, FindsFull}
use Rattle.bl_engine.specs.declared.conversation.Conversation.{Conversation}
use Rattle.bl_engine.specs.declared.conversation.Need.TheVariants as needs
use Rattle.bl_engine.specs.declared.conversation.Stage.{Stage}
use Rattle.bl_engine.specs.declared.conversation.Stage.TheVariants as stages
use Rattle.bl_engine.specs.Conversations.{Given, Talk, talk_of, need_at, need_of, owed, words_of, stage_behind, HasGreeted, IsOpen, IsEnding, IsAt, Keeps, Moves, TakesTurn, IsOpenedAs, IsAnswered, Says, Closes, IsOf, asks}
use Rattle.bl_engine.proofs.Conversing.{silent_on, silent_greeted, silent_refused, greeted_open, greeted_full, open_more, open_waits, open_answered, last_answered, telling_on, ending_on, telling_closed}
use Rattle.bl_engine.proofs.Hearings.{at_is, heard_same}

-- what was asked and said at a stage that is known
at_old : (stage to : Stage) (given : Given) (left : ℕ → List ℕ) (talk : Talk) (turns : List Turn) (asked : List Request) (said : List ℕ) → stage ≡ to
    → IsAt stage given left talk turns asked said → IsAt to given left talk turns asked said
at_old stage to given left talk turns asked said is was = subst (λ x. IsAt x given left talk turns asked said) is was

at_new : (stage to : Stage) (given : Given) (left : ℕ → List ℕ) (talk new : Talk) (turns : List Turn) (asked : List Request) (said : List ℕ) → to ≡ stage → new ≡ talk
    → IsAt stage given left talk turns asked said → IsAt to given left new turns asked said
at_new stage to given left talk new turns asked said is same was = at_is given left said stage to talk new turns turns asked asked is same refl refl was

greeted_is : (turn : Turn) (subject : ℕ) → greeted turn ≡ Some subject → turn ≡ Greets subject
greeted_is (Greets named) subject is = cc
greeted_is Skip subject is = cc
greeted_is Wait subject is = cc
greeted_is (Bad fault) subject is = cc
greeted_is (Ask work) subject is = cc

module _ (old new : Conversation) (turn : Turn) (held : new.held ≡ old.held) (left_is : new.left ≡ old.left) (talk : talk_of new ≡ talk_of old) where
  takes : (request : Option Request) → IfSome request (IsOf turn) → Moves old new turn request → TakesTurn old new turn request
  takes request origin moves = record { held = held; left = left_is; ended = ap (λ (t : Talk). t.ended) talk; origin = origin; moves = moves }

  pub greets_on : old.stage ≡ stages.Greets → new.stage ≡ stages.Greets → is_skip turn ≡ true → TakesTurn old new turn None
  greets_on was now skip = takes None tt (λ given left turns asked said at.
      at_new stages.Greets new.stage given left (talk_of old) (talk_of new) (turns ++ turn ∷ []) (asked ++ []) said now talk
      (silent_on (talk_of old) turns asked said turn skip (at_old old.stage stages.Greets given left (talk_of old) turns asked said was at)))

  pub greets_hello : (subject : ℕ) → old.stage ≡ stages.Greets → new.stage ≡ stages.Opens → greeted turn ≡ Some subject → TakesTurn old new turn (Some (Opens subject))
  greets_hello subject was now greets = takes (Some (Opens subject)) (greeted_is turn subject greets) (λ given left turns asked said at.
      at_new stages.Opens new.stage given left (talk_of old) (talk_of new) (turns ++ turn ∷ []) (asked ++ Opens subject ∷ []) said now talk
      (silent_greeted (talk_of old) turns asked said turn subject greets (at_old old.stage stages.Greets given left (talk_of old) turns asked said was at)))

  pub greets_other : old.stage ≡ stages.Greets → new.stage ≡ stages.Tells RefusesHello → is_skip turn ≡ false → greeted turn ≡ None → TakesTurn old new turn None
  greets_other was now some none = takes None tt (λ given left turns asked said at.
      at_new (stages.Tells RefusesHello) new.stage given left (talk_of old) (talk_of new) (turns ++ turn ∷ []) (asked ++ []) said now talk
      (silent_refused given left (talk_of old) turns asked said turn some none (at_old old.stage stages.Greets given left (talk_of old) turns asked said was at)))

  pub joins_skip : turn ≡ Skip → old.stage ≡ stages.Listens → new.stage ≡ stages.Listens → TakesTurn old new turn None
  joins_skip is was now = takes None tt (λ given left turns asked said at.
      at_new stages.Listens new.stage given left (talk_of old) (talk_of new) (turns ++ turn ∷ []) (asked ++ []) said now talk
      (subst (λ t. IsOpen given (talk_of old) [] (turns ++ t ∷ []) (asked ++ []) said) (sym is)
      (open_more given (talk_of old) turns asked said (at_old old.stage stages.Listens given left (talk_of old) turns asked said was at) (talk_of old) Skip [] tt refl (sym (append-nil old.pending.items)) refl refl)))

  pub joins_wait : turn ≡ Wait → old.stage ≡ stages.Listens → new.stage ≡ stages.Settles GoesOn → TakesTurn old new turn (Some Settles)
  joins_wait is was now = takes (Some Settles) tt (λ given left turns asked said at.
      at_new (stages.Settles GoesOn) new.stage given left (talk_of old) (talk_of new) (turns ++ turn ∷ []) (asked ++ Settles ∷ []) said now talk
      (subst (λ t. IsOpen given (talk_of old) (Wait ∷ []) (turns ++ t ∷ []) (asked ++ Settles ∷ []) said) (sym is)
      (open_waits given (talk_of old) turns asked said (at_old old.stage stages.Listens given left (talk_of old) turns asked said was at))))

-- a line that is answered
pub joins_line : (old new : Conversation) (turn t : Turn) (line : Pending) (request : Option Request) → turn ≡ t → HasNoWait (t ∷ []) → line ∷ [] ≡ pending_of (t ∷ [])
    → asks request ≡ told_of (old.after + length old.pending.items) (t ∷ []) → IfSome request (IsOf turn) → old.stage ≡ stages.Listens → Keeps old new line
    → TakesTurn old new turn request
joins_line old new turn t line request is plain kept are origin was keeps = record {
  held = keeps.held;
  left = keeps.left;
  ended = ap (λ (k : Talk). k.ended) keeps.talk;
  origin = origin;
  moves = λ given left turns asked said at.
      at_new stages.Listens new.stage given left (talk_of new) (talk_of new) (turns ++ turn ∷ []) (asked ++ asks request) said (keeps.stage ∙ was) refl
      (subst (λ u. IsOpen given (talk_of new) [] (turns ++ u ∷ []) (asked ++ asks request) said) (sym is)
      (open_more given (talk_of old) turns asked said (at_old old.stage stages.Listens given left (talk_of old) turns asked said was at) (talk_of new) t (asks request) plain
      (ap (λ (k : Talk). k.after) keeps.talk) (ap (λ (k : Talk). k.pending) keeps.talk ∙ ap (λ l. old.pending.items ++ l) kept) (ap (λ (k : Talk). k.line) keeps.talk) are));
}

-- what it waits for tells the stage
pub stage_opens : (ended : Bool) (stage : Stage) → need_at ended stage ≡ needs.Opening → stage ≡ stages.Opens
stage_opens ended stages.Opens is = refl
stage_opens false stages.Greets is = cc
stage_opens true stages.Greets is = cc
stage_opens false stages.Listens is = cc
stage_opens true stages.Listens is = cc
stage_opens ended (stages.Settles closing) is = cc
stage_opens ended (stages.Tells closing) is = cc
stage_opens ended stages.Over is = cc

-- the machine has taken the subject
pub opened_as : (old new : Conversation) (opening : Opening) → need_of old ≡ needs.Opening → new.stage ≡ stages.Tells (greeting_of opening) → new.held ≡ old.held → new.left ≡ old.left
    → talk_of new ≡ talk_of old → IsOpenedAs opening old new
opened_as old new opening need stage held left_is talk names given left turns asked heard said is s = record {
  cut = heard_same names old turns heard s.cut new (λ input. cc) held left_is (ap (λ (t : Talk). t.ended) talk);
  point = at_new (stages.Tells (greeting_of opening)) new.stage given left (talk_of old) (talk_of new) turns asked said stage talk
      (by_opening opening is (at_old old.stage stages.Opens given left (talk_of old) turns asked said (stage_opens old.ended old.stage need) s.point));
}
  where
    by_opening : (opening : Opening) → given.opening ≡ opening → HasGreeted (talk_of old) turns asked said → IsAt (stages.Tells (greeting_of opening)) given left (talk_of old) turns asked said
    by_opening Open is was = greeted_open given left (talk_of old) turns asked said is was
    by_opening Full is was = greeted_full given left (talk_of old) turns asked said is was

-- the block was answered
pub answered_as : (old new : Conversation) (closing : Closing) → (need_of old ≡ needs.Input → ⊥) → old.stage ≡ stages.Settles closing → new.stage ≡ stages.Tells closing
    → new.held ≡ old.held → new.left ≡ old.left → talk_of new ≡ talk_of old → IsAnswered old new
answered_as old new closing need was now held left_is talk names given before left turns asked heard said same s = record {
  cut = heard_same names old turns heard s.cut new need held left_is (ap (λ (t : Talk). t.ended) talk);
  point = at_new (stages.Tells closing) new.stage given left (talk_of old) (talk_of new) turns asked said now talk
      (by_closing closing (at_old old.stage (stages.Settles closing) given before (talk_of old) turns asked said was s.point));
}
  where
    by_closing : (closing : Closing) → IsAt (stages.Settles closing) given before (talk_of old) turns asked said → IsAt (stages.Tells closing) given left (talk_of old) turns asked said
    by_closing GoesOn at = open_answered given (talk_of old) turns asked said left same at
    by_closing Ends at = last_answered given (talk_of old) turns asked said left same at
    by_closing RefusesHello at = absurd at
    by_closing FindsFull at = absurd at

-- a part of the block was told
pub tells_part : (was left : ℕ → List ℕ) (old new : Conversation) (closing : Closing) (more : List ℕ) → (need_of old ≡ needs.Input → ⊥) → old.stage ≡ stages.Tells closing
    → new.stage ≡ old.stage → new.held ≡ old.held → new.left ≡ old.left → new.ended ≡ old.ended → new.after ≡ old.after → new.pending.items ≡ old.pending.items
    → owed was (talk_of old) closing ≡ more ++ owed left (talk_of new) closing → Says was left old new more
tells_part was left old new closing more need stage same held left_is ended after pending split names given turns asked heard said s = record {
  cut = heard_same names old turns heard s.cut new need held left_is ended;
  point = at_new (stages.Tells closing) new.stage given left (talk_of new) (talk_of new) turns asked (said ++ more) (same ∙ stage) refl
      (by_closing closing split (at_old old.stage (stages.Tells closing) given was (talk_of old) turns asked said stage s.point));
}
  where
    ends_as : (closing : Closing) → owed was (talk_of old) closing ≡ more ++ owed left (talk_of new) closing
        → IsEnding given closing old.ended turns asked said (owed was (talk_of old) closing) → IsEnding given closing new.ended turns asked (said ++ more) (owed left (talk_of new) closing)
    ends_as closing split at = subst (λ e. IsEnding given closing e turns asked (said ++ more) (owed left (talk_of new) closing)) (sym ended)
        (ending_on given (talk_of old) turns asked said closing old.ended (owed was (talk_of old) closing) more (owed left (talk_of new) closing) split at)

    by_closing : (closing : Closing) → owed was (talk_of old) closing ≡ more ++ owed left (talk_of new) closing → IsAt (stages.Tells closing) given was (talk_of old) turns asked said
        → IsAt (stages.Tells closing) given left (talk_of new) turns asked (said ++ more)
    by_closing GoesOn split at = telling_on given (talk_of old) turns asked said (talk_of new) (owed was (talk_of old) GoesOn) more (owed left (talk_of new) GoesOn) split after pending at
    by_closing Ends split at = ends_as Ends split at
    by_closing RefusesHello split at = ends_as RefusesHello split at
    by_closing FindsFull split at = ends_as FindsFull split at

drop_over : (n : ℕ) (xs : List Pending) → length xs ≤ n → drop n xs ≡ []
drop_over zero [] le = refl
drop_over (suc n) [] le = refl
drop_over zero (p ∷ xs) le = absurd (omega arith)
drop_over (suc n) (p ∷ xs) le = drop_over n xs (omega arith)

-- nothing is to be told of a block that was told
pub all_told : (left : ℕ → List ℕ) (talk : Talk) (closing : Closing) → length talk.pending ≤ talk.line → owed left talk closing ≡ words_of closing
all_told left talk closing over = ap (λ l. block_text left (talk.after + talk.line) l ++ words_of closing) (drop_over talk.line talk.pending over)

-- all of it was told, and what closes it
pub closes_as : (was : ℕ → List ℕ) (old new : Conversation) (closing : Closing) → (need_of old ≡ needs.Input → ⊥) → old.stage ≡ stages.Tells closing
    → owed was (talk_of old) closing ≡ words_of closing → Closes old new closing → Says was was old new (words_of closing)
closes_as was old new closing need stage all closes names given turns asked heard said s = record {
  cut = heard_same names old turns heard s.cut new need closes.held closes.left (ap (λ (t : Talk). t.ended) closes.talk);
  point = at_new (stage_behind closing) new.stage given was (talk_of new) (talk_of new) turns asked (said ++ words_of closing) closes.stage refl
      (by_closing closing all (at_old old.stage (stages.Tells closing) given was (talk_of old) turns asked said stage s.point));
}
  where
    ends_as : (closing : Closing) → owed was (talk_of old) closing ≡ words_of closing → IsEnding given closing old.ended turns asked said (owed was (talk_of old) closing)
        → IsEnding given closing new.ended turns asked (said ++ words_of closing) []
    ends_as closing all at = subst (λ e. IsEnding given closing e turns asked (said ++ words_of closing) []) (sym (ap (λ (t : Talk). t.ended) closes.talk))
        (ending_on given (talk_of old) turns asked said closing old.ended (owed was (talk_of old) closing) (words_of closing) [] (all ∙ sym (append-nil (words_of closing))) at)

    by_closing : (closing : Closing) → owed was (talk_of old) closing ≡ words_of closing → IsAt (stages.Tells closing) given was (talk_of old) turns asked said
        → IsAt (stage_behind closing) given was (talk_of new) turns asked (said ++ words_of closing)
    by_closing GoesOn all at =
        telling_closed given (talk_of old) turns asked said (talk_of new) (owed was (talk_of old) GoesOn) all (ap (λ (t : Talk). t.after) closes.talk) (ap (λ (t : Talk). t.pending) closes.talk)
        (ap (λ (t : Talk). t.line) closes.talk) at
    by_closing Ends all at = (Ends, ends_as Ends all at)
    by_closing RefusesHello all at = (RefusesHello, ends_as RefusesHello all at)
    by_closing FindsFull all at = (FindsFull, ends_as FindsFull all at)
