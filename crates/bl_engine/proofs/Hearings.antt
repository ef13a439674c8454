-- What a conversation has heard.
use Rattle.std.proofs.Common.{◌≡◌, ◌≢◌, ℕ, ◌+◌, ◌<◌, ◌≤◌, ◌⊎◌, inl, inr, Bool, true, false, List, [], ◌∷◌, ◌++◌, length, refl, sym, ap, subst, ◌∙◌, append_assoc, append-nil, arith, take, Option, Some, None, IfSome, ◌-◌, length-append, length-take-le}
use Rattle.std.proofs.lemmas.List.Elements.{All-nil, All-append}
use Rattle.bl_work.specs.Names.{KnownNames}
use Rattle.bl_wire.specs.HoldsLine.{HoldsLine}
use Rattle.bl_wire.specs.declared.held.Held.{Held}
use Rattle.bl_wire.specs.Lines.{lines_of, AreLines, HasNoLf}
use Rattle.bl_wire.specs.Turns.{IsTurn, AreTurns}
use Rattle.bl_wire.specs.declared.turn.Turn.{Turn}
use Rattle.bl_engine.specs.Requests.{Request, Opens, Admits, Settles}
use Rattle.bl_engine.specs.declared.conversation.Closing.TheVariants as closings
use Rattle.bl_engine.specs.declared.conversation.Conversation.{Conversation}
use Rattle.bl_engine.specs.declared.conversation.Need.TheVariants as needs
use Rattle.bl_engine.specs.declared.conversation.Stage.{Stage}
use Rattle.bl_engine.specs.declared.conversation.Stage.TheVariants as stages
use Rattle.bl_engine.specs.Conversations.{Given, Talk, talk_of, need_at, need_of, AreSo, HasHeard, HoldsBegun, IsOpen, IsAt, HearsMore, Hears, IsOf, IsHeardOf, LetsGo, TakesLine, TakesTurn, waits_left, waits_of}
use Rattle.bl_engine.proofs.LineLaws.{AreLines-nil, AreLines-whole, AreLines-append, lines-last}
use Rattle.bl_engine.proofs.LineLaws.{turns-append, lines-now}
use Rattle.bl_engine.proofs.Conversing.{silent_same, open_same, silent_ends}
use Rattle.bl_wire.specs.Reads.{IsWholeLine, Scanned}
use Rattle.bl_wire.specs.declared.part.Part.{Part}
use Rattle.bl_wire.specs.declared.part.Part.TheVariants.{Ends, More}

-- a conversation that waits for input has not heard of its end
pub not_ended : (ended : Bool) (stage : Stage) → need_at ended stage ≡ needs.Input → ended ≡ false
not_ended false stage is = refl
not_ended true stages.Greets is = cc
not_ended true stages.Opens is = cc
not_ended true stages.Listens is = cc
not_ended true (stages.Settles closing) is = cc
not_ended true (stages.Tells closing) is = cc
not_ended true stages.Over is = cc

-- and one that has waits for none
pub no_input : (ended : Bool) (stage : Stage) → ended ≡ true → need_at ended stage ≡ needs.Input → ⊥
no_input false stage ended is = cc
no_input true stage ended is = let no' = not_ended true stage is in cc

lines_last : (line : List ℕ) → 0 < length line → HasNoLf line → lines_of line ≡ line ∷ []
lines_last [] some plain = absurd (omega arith)
lines_last (b ∷ line) some plain = lines-last b line plain

pub held_new : (old : Option Held) (held : Held) → old ≡ None → HoldsLine held [] → (line : List ℕ) → HoldsBegun old line → HoldsLine held line
held_new old held is holds line begun =
    let none : line ≡ [] = subst (λ o. HoldsBegun o line) is begun in
    subst (HoldsLine held) (sym none) holds

-- where nothing is held no line has begun
holds_none : (old : Option Held) → old ≡ None → HoldsBegun old []
holds_none old is = subst (λ o. HoldsBegun o []) (sym is) refl

-- the same at another name
pub at_is : (given : Given) (left : ℕ → List ℕ) (said : List ℕ) (stage to : Stage) (talk new : Talk) (turns more : List Turn) (asked also : List Request)
    → to ≡ stage → new ≡ talk → more ≡ turns → also ≡ asked → IsAt stage given left talk turns asked said → IsAt to given left new more also said
at_is given left said stage to talk new turns more asked also s t m a was =
    subst (λ x. IsAt to given left new more x said) (sym a) (subst (λ x. IsAt to given left new x asked said) (sym m)
    (subst (λ x. IsAt to given left x turns asked said) (sym t) (subst (λ x. IsAt x given left talk turns asked said) (sym s) was)))

-- what is asked at a line was heard
heard_of : (names : KnownNames) (line : List ℕ) (turn : Turn) (request : Option Request) → IsTurn names line turn → IfSome request (IsOf turn) → IfSome request (IsHeardOf names)
heard_of names line turn None is of = tt
heard_of names line turn (Some (Opens subject)) is of = (line, subst (IsTurn names line) of is)
heard_of names line turn (Some (Admits ordinal work)) is of = (line, subst (IsTurn names line) of is)
heard_of names line turn (Some Settles) is of = tt

-- what was asked and said before the end of the input is so after it
pub ends_at : (stage : Stage) (ended : Bool) → (need_at ended stage ≡ needs.Input) ⊎ (need_at ended stage ≡ needs.End) → (given : Given) (left : ℕ → List ℕ) (talk new : Talk) (turns : List Turn) (asked : List Request) (said : List ℕ)
    → new.after ≡ talk.after → new.pending ≡ talk.pending → new.line ≡ talk.line → IsAt stage given left talk turns asked said → IsAt stage given left new turns asked said
ends_at stages.Greets ended need given left talk new turns asked said after pending line was = silent_same talk new turns asked said after pending line was
ends_at stages.Listens ended need given left talk new turns asked said after pending line was = open_same given talk new [] turns asked said after pending line was
ends_at stages.Opens ended need given left talk new turns asked said after pending line was = absurd (elim need [ inl e ↦ cc | inr e ↦ cc ])
ends_at (stages.Settles closing) ended need given left talk new turns asked said after pending line was = absurd (elim need [ inl e ↦ cc | inr e ↦ cc ])
ends_at (stages.Tells closing) ended need given left talk new turns asked said after pending line was = absurd (elim need [ inl e ↦ cc | inr e ↦ cc ])
ends_at stages.Over ended need given left talk new turns asked said after pending line was = absurd (elim need [ inl e ↦ cc | inr e ↦ cc ])

module _ (names : KnownNames) (old : Conversation) (turns : List Turn) (heard : List ℕ) (was : HasHeard names old turns heard) where
  -- a part of a line was heard
  pub heard_part : (new : Conversation) (bytes some : List ℕ) → need_of old ≡ needs.Input → bytes ≡ some → HasNoLf some
      → HoldsBegun new.held (was.rest ++ some) → new.left + length bytes ≡ old.left → new.stage ≡ old.stage → talk_of new ≡ talk_of old
      → HearsMore names old new turns heard bytes None
  heard_part new bytes some need is plain holds count stage talk =
      let ended : new.ended ≡ old.ended = ap (λ (t : Talk). t.ended) talk in
      let needs' : need_of new ≡ needs.Input = ap (λ e. need_at e new.stage) ended ∙ ap (λ s. need_at old.ended s) stage ∙ need in
      record {
        more = [];
        few = omega arith;
        origin = tt;
        cut = record {
          whole = was.whole;
          rest = was.rest ++ some;
          lines = was.lines;
          split = ap (λ l. l ++ bytes) was.split ∙ append_assoc was.whole was.rest bytes ∙ ap (λ l. was.whole ++ (was.rest ++ l)) is;
          cut = subst (λ e. AreSo e was.whole was.lines) (sym ended) was.cut;
          are = subst (AreTurns names was.lines) (sym (append-nil turns)) was.are;
          plain = All-append (λ b. b ≢ 10) was.rest some was.plain plain;
          holds = holds;
          none = λ other. absurd (other needs');
          count = omega (arith, was.count, count, length-append heard bytes);
        };
        point = λ given left asked said at.
            at_is given left said old.stage new.stage (talk_of old) (talk_of new) turns (turns ++ []) asked (asked ++ []) stage talk (append-nil turns) (append-nil asked) at;
      }

  -- a line was taken, with these bytes after what was heard, and nothing is held
  taken : (mid new : Conversation) (turn : Turn) (request : Option Request) (bytes : List ℕ) (whole line : List ℕ) → mid.held ≡ None
      → ((given : Given) (left : ℕ → List ℕ) (asked : List Request) (said : List ℕ) → IsAt old.stage given left (talk_of old) turns asked said → IsAt mid.stage given left (talk_of mid) turns asked said)
      → IsTurn names line turn → TakesTurn mid new turn request → heard ++ bytes ≡ whole → AreSo new.ended whole (was.lines ++ line ∷ []) → mid.left + length (heard ++ bytes) ≡ 16777216
      → HearsMore names old new turns heard bytes request
  taken mid new turn request bytes whole line none at is takes split are count = record {
    more = turn ∷ [];
    few = omega arith;
    origin = heard_of names line turn request is takes.origin;
    cut = record {
      whole = whole;
      rest = [];
      lines = was.lines ++ line ∷ [];
      split = split ∙ sym (append-nil whole);
      cut = are;
      are = turns-append names was.lines (line ∷ []) turns (turn ∷ []) was.are (is, tt);
      plain = All-nil (λ b. b ≢ 10);
      holds = holds_none new.held (takes.held ∙ none);
      none = λ other. refl;
      count = ap (λ n. n + length (heard ++ bytes)) takes.left ∙ count;
    };
    point = λ given left asked said was_at. takes.moves given left turns asked said (at given left asked said was_at);
  }

  -- the end of a line was heard
  pub heard_line : (mid new : Conversation) (turn : Turn) (request : Option Request) (bytes some : List ℕ) → need_of old ≡ needs.Input → bytes ≡ some ++ 10 ∷ [] → HasNoLf some
      → mid.held ≡ None → mid.left + length bytes ≡ old.left → mid.stage ≡ old.stage → talk_of mid ≡ talk_of old
      → IsTurn names (was.rest ++ some) turn → TakesTurn mid new turn request
      → HearsMore names old new turns heard bytes request
  heard_line mid new turn request bytes some need is plain none count stage talk is_turn takes =
      let line = was.rest ++ some in
      let whole_line : HasNoLf line = All-append (λ b. b ≢ 10) was.rest some was.plain plain in
      let old_ended : old.ended ≡ false = not_ended old.ended old.stage need in
      let ended : new.ended ≡ false = takes.ended ∙ ap (λ (t : Talk). t.ended) talk ∙ old_ended in
      let lines : AreLines was.whole was.lines = subst (λ e. AreSo e was.whole was.lines) old_ended was.cut in
      taken mid new turn request bytes (was.whole ++ (line ++ 10 ∷ [])) line none
      (λ g l a s p. at_is g l s old.stage mid.stage (talk_of old) (talk_of mid) turns turns a a stage talk refl refl p)
      is_turn takes
      (ap (λ l. l ++ bytes) was.split ∙ append_assoc was.whole was.rest bytes ∙ ap (λ l. was.whole ++ (was.rest ++ l)) is
      ∙ ap (λ l. was.whole ++ l) (sym (append_assoc was.rest some (10 ∷ []))))
      (subst (λ e. AreSo e (was.whole ++ (line ++ 10 ∷ [])) (was.lines ++ line ∷ [])) (sym ended)
      (AreLines-append was.whole (line ++ 10 ∷ []) was.lines (line ∷ []) lines (AreLines-whole line whole_line)))
      (omega (arith, was.count, count, length-append heard bytes))

  -- the input has ended after a line that had begun
  pub ended_line : (mid new : Conversation) (turn : Turn) (request : Option Request) → old.ended ≡ false → 0 < length was.rest → mid.held ≡ None → mid.left ≡ old.left
      → mid.ended ≡ true
      → ((given : Given) (left : ℕ → List ℕ) (asked : List Request) (said : List ℕ) → IsAt old.stage given left (talk_of old) turns asked said → IsAt mid.stage given left (talk_of mid) turns asked said)
      → IsTurn names was.rest turn → TakesTurn mid new turn request
      → HearsMore names old new turns heard [] request
  ended_line mid new turn request old_ended some none left_is mid_ended at is_turn takes =
      let rest = was.rest in
      let lines : AreLines was.whole was.lines = subst (λ e. AreSo e was.whole was.lines) old_ended was.cut in
      let last : lines_of rest ≡ rest ∷ [] = lines_last rest some was.plain in
      taken mid new turn request [] (was.whole ++ rest) rest none at is_turn takes
      (append-nil heard ∙ was.split)
      (subst (λ e. AreSo e (was.whole ++ rest) (was.lines ++ rest ∷ [])) (sym (takes.ended ∙ mid_ended)) (lines rest ∙ ap (λ l. was.lines ++ l) last))
      (omega (arith, was.count, left_is, ap length (append-nil heard)))

  -- the input has ended, and no line had begun
  pub ended_none : (new : Conversation) → (old.ended ≡ true) ⊎ (old.held ≡ None) → new.held ≡ old.held → new.left ≡ old.left → new.ended ≡ true
      → HasHeard names new (turns ++ []) (heard ++ [])
  ended_none new why held left_is ended =
      let none : was.rest ≡ [] = elim why [
        | inl already ↦ was.none (no_input old.ended old.stage already)
        | inr nothing ↦ subst (λ o. HoldsBegun o was.rest) nothing was.holds
      ] in
      record {
        whole = was.whole;
        rest = was.rest;
        lines = was.lines;
        split = append-nil heard ∙ was.split;
        cut = subst (λ e. AreSo e was.whole was.lines) (sym ended) (all_so old.ended was.cut);
        are = subst (AreTurns names was.lines) (sym (append-nil turns)) was.are;
        plain = was.plain;
        holds = subst (λ h. HoldsBegun h was.rest) (sym held) was.holds;
        none = λ other. none;
        count = omega (arith, was.count, left_is, ap length (append-nil heard));
      }
    where
      all_so : (ended : Bool) → AreSo ended was.whole was.lines → lines_of was.whole ≡ was.lines
      all_so true are = are
      all_so false are = lines-now was.whole was.lines are

  -- nothing more was heard
  pub heard_same : (new : Conversation) → (need_of old ≡ needs.Input → ⊥) → new.held ≡ old.held → new.left ≡ old.left → new.ended ≡ old.ended → HasHeard names new turns heard
  heard_same new other held left_is ended = record {
    whole = was.whole;
    rest = was.rest;
    lines = was.lines;
    split = was.split;
    cut = subst (λ e. AreSo e was.whole was.lines) (sym ended) was.cut;
    are = was.are;
    plain = was.plain;
    holds = subst (λ h. HoldsBegun h was.rest) (sym held) was.holds;
    none = λ _. was.none other;
    count = ap (λ n. n + length heard) left_is ∙ was.count;
  }

-- nothing was heard yet, and nothing is held
pub heard_nothing : (names : KnownNames) (conv : Conversation) → conv.held ≡ None → conv.ended ≡ false → conv.left ≡ 16777216 → HasHeard names conv [] []
heard_nothing names conv none ended left_is = record {
  whole = [];
  rest = [];
  lines = [];
  split = refl;
  cut = subst (λ e. AreSo e [] []) (sym ended) AreLines-nil;
  are = tt;
  plain = All-nil (λ b. b ≢ 10);
  holds = holds_none conv.held none;
  none = λ other. refl;
  count = omega (arith, left_is);
}

-- the line that was held was taken as its turn
turn_taken : (names : KnownNames) (held : Held) (old new : Conversation) (request : Option Request) → (takes : TakesLine names held old new request) → TakesTurn old new takes.turn request
turn_taken names held old new request takes = record { held = takes.held; left = takes.left; ended = takes.ended; origin = takes.origin; moves = takes.moves }

-- the front of the bytes was heard: up to the end of a line, or a part of one
pub scanned_line : (names : KnownNames) (old gone mid new : Conversation) (before held : Held) (request : Option Request) (bytes : List ℕ) (n : ℕ) (part : Part) → part ≡ Ends
    → LetsGo old gone → ((line : List ℕ) → HoldsBegun old.held line → HoldsLine before line) → Scanned n part bytes before held gone.left → need_of old ≡ needs.Input
    → mid.held ≡ gone.held → mid.left ≡ gone.left - n → mid.stage ≡ gone.stage → talk_of mid ≡ talk_of gone
    → TakesLine names held mid new request → Hears names old new (take n bytes) request
scanned_line names old gone mid new before held request bytes n part is goes begun s need held_is count stage talk takes turns heard was =
    let whole : Scanned n Ends bytes before held gone.left = subst (λ p. Scanned n p bytes before held gone.left) is s in
    heard_line names old turns heard was mid new takes.turn request (take n bytes) whole.some need whole.front whole.plain (held_is ∙ goes.held)
    (omega (arith, count, goes.left, whole.fits, length-take-le n bytes whole.within)) (stage ∙ goes.stage) (talk ∙ goes.talk)
    (takes.is_turn (was.rest ++ whole.some) (whole.holds was.rest (begun was.rest was.holds))) (turn_taken names held mid new request takes)

pub scanned_part : (names : KnownNames) (old gone new : Conversation) (before held : Held) (bytes : List ℕ) (n : ℕ) (part : Part) → part ≡ More
    → LetsGo old gone → ((line : List ℕ) → HoldsBegun old.held line → HoldsLine before line) → Scanned n part bytes before held gone.left → need_of old ≡ needs.Input
    → new.held ≡ Some held → new.left ≡ gone.left - n → new.stage ≡ gone.stage → talk_of new ≡ talk_of gone → Hears names old new (take n bytes) None
scanned_part names old gone new before held bytes n part is goes begun s need held_is count stage talk turns heard was =
    let some : Scanned n More bytes before held gone.left = subst (λ p. Scanned n p bytes before held gone.left) is s in
    let line = was.rest ++ some.some in
    let more : 0 < length line = omega (arith, some.kind, length-append was.rest some.some) in
    heard_part names old turns heard was new (take n bytes) some.some need some.front some.plain
    (subst (λ o. HoldsBegun o line) (sym held_is) (more, some.holds was.rest (begun was.rest was.holds)))
    (omega (arith, count, goes.left, some.fits, length-take-le n bytes some.within)) (stage ∙ goes.stage) (talk ∙ goes.talk)

-- a line was heard that stood whole at the front of the bytes
pub heard_whole : (names : KnownNames) (old mid new : Conversation) (turn : Turn) (request : Option Request) (bytes line : List ℕ) (at : ℕ) → (old.held ≡ None) × IsWholeLine at bytes old.left
    → need_of old ≡ needs.Input → IsTurn names line turn → line ≡ take at bytes → mid.held ≡ old.held → mid.left ≡ old.left - (at + 1) → mid.stage ≡ old.stage → talk_of mid ≡ talk_of old
    → TakesTurn mid new turn request → Hears names old new (take (at + 1) bytes) request
heard_whole names old mid new turn request bytes line at whole need is_turn is held_is count stage talk takes turns heard was =
    let none : was.rest ≡ [] = subst (λ o. HoldsBegun o was.rest) whole.0 was.holds in
    heard_line names old turns heard was mid new turn request (take (at + 1) bytes) (take at bytes) need whole.1.front whole.1.plain (held_is ∙ whole.0)
    (omega (arith, count, whole.1.fits, whole.1.within, length-take-le (at + 1) bytes (omega (arith, whole.1.within)))) stage talk
    (subst (λ rest. IsTurn names (rest ++ take at bytes) turn) (sym none) (subst (λ l. IsTurn names l turn) is is_turn)) takes

-- the input has ended after a line
pub ends_line : (names : KnownNames) (old gone mid new : Conversation) (held : Held) (request : Option Request) → (old.ended ≡ false) × (old.held ≡ Some held)
    → (need_of old ≡ needs.Input) ⊎ (need_of old ≡ needs.End) → LetsGo old gone → mid.held ≡ gone.held → mid.left ≡ gone.left → mid.stage ≡ gone.stage → mid.ended ≡ true
    → mid.after ≡ gone.after → mid.pending.items ≡ gone.pending.items → mid.line ≡ gone.line → TakesLine names held mid new request
    → Hears names old new [] request
ends_line names old gone mid new held request begun need goes held_is left_is stage ended after pending line takes turns heard was =
    let holds : HoldsBegun (Some held) was.rest = subst (λ o. HoldsBegun o was.rest) begun.1 was.holds in
    ended_line names old turns heard was mid new takes.turn request begun.0 holds.0 (held_is ∙ goes.held) (left_is ∙ goes.left) ended
    (λ g l a s p. subst (λ x. IsAt x g l (talk_of mid) turns a s) (sym (stage ∙ goes.stage))
    (ends_at old.stage old.ended need g l (talk_of old) (talk_of mid) turns a s (after ∙ ap (λ (t : Talk). t.after) goes.talk) (pending ∙ ap (λ (t : Talk). t.pending) goes.talk)
    (line ∙ ap (λ (t : Talk). t.line) goes.talk) p))
    (takes.is_turn was.rest holds.1) (turn_taken names held mid new request takes)

-- and after no line: nothing more is asked unless the session is open
ends_quietly_at : (names : KnownNames) (old new : Conversation) → (old.ended ≡ true) ⊎ (old.held ≡ None) → old.stage ≡ stages.Greets → new.held ≡ old.held → new.left ≡ old.left
    → new.stage ≡ stages.Tells closings.Ends → new.ended ≡ true → new.after ≡ old.after → new.pending.items ≡ old.pending.items → new.line ≡ old.line → Hears names old new [] None
ends_quietly_at names old new why was_stage held left_is stage ended after pending line turns heard was = record {
  more = [];
  few = omega arith;
  origin = tt;
  cut = ended_none names old turns heard was new why held left_is ended;
  point = λ given left asked said at. subst (λ x. IsAt x given left (talk_of new) (turns ++ []) (asked ++ []) said) (sym stage)
      (silent_ends given left (talk_of new) turns asked said ended (silent_same (talk_of old) (talk_of new) turns asked said after pending line
      (subst (λ x. IsAt x given left (talk_of old) turns asked said) was_stage at)));
}

ends_block_at : (names : KnownNames) (old new : Conversation) → (old.ended ≡ true) ⊎ (old.held ≡ None) → old.stage ≡ stages.Listens → new.held ≡ old.held → new.left ≡ old.left
    → new.stage ≡ stages.Settles closings.Ends → new.ended ≡ true → new.after ≡ old.after → new.pending.items ≡ old.pending.items → new.line ≡ old.line → Hears names old new [] (Some Settles)
ends_block_at names old new why was_stage held left_is stage ended after pending line turns heard was = record {
  more = [];
  few = omega arith;
  origin = tt;
  cut = ended_none names old turns heard was new why held left_is ended;
  point = λ given left asked said at. subst (λ x. IsAt x given left (talk_of new) (turns ++ []) (asked ++ Settles ∷ []) said) (sym stage) (
    ended,
    (
      asked,
      refl,
      subst (λ l. IsOpen given (talk_of new) [] l asked said) (sym (append-nil turns)) (open_same given (talk_of old) (talk_of new) [] turns asked said after pending line
          (subst (λ x. IsAt x given left (talk_of old) turns asked said) was_stage at)),
    ),
  );
}

-- the same where nothing was let go
pub ends_quietly : (names : KnownNames) (old gone new : Conversation) → gone ≡ old → (gone.ended ≡ true) ⊎ (gone.held ≡ None) → gone.stage ≡ stages.Greets → new.held ≡ gone.held → new.left ≡ gone.left
    → new.stage ≡ stages.Tells closings.Ends → new.ended ≡ true → new.after ≡ gone.after → new.pending.items ≡ gone.pending.items → new.line ≡ gone.line → Hears names old new [] None
ends_quietly names old gone new same why was_stage held left_is stage ended after pending line =
    subst (λ o. Hears names o new [] None) same (ends_quietly_at names gone new why was_stage held left_is stage ended after pending line)

pub ends_block : (names : KnownNames) (old gone new : Conversation) → gone ≡ old → (gone.ended ≡ true) ⊎ (gone.held ≡ None) → gone.stage ≡ stages.Listens → new.held ≡ gone.held → new.left ≡ gone.left
    → new.stage ≡ stages.Settles closings.Ends → new.ended ≡ true → new.after ≡ gone.after → new.pending.items ≡ gone.pending.items → new.line ≡ gone.line → Hears names old new [] (Some Settles)
ends_block names old gone new same why was_stage held left_is stage ended after pending line =
    subst (λ o. Hears names o new [] (Some Settles)) same (ends_block_at names gone new why was_stage held left_is stage ended after pending line)

-- how often it may wait, where bytes were heard and the input goes on
waits_most : (stage : Stage) → waits_of false stage ≤ 10
waits_most stages.Greets = omega arith
waits_most stages.Opens = omega arith
waits_most stages.Listens = omega arith
waits_most (stages.Settles closings.GoesOn) = omega arith
waits_most (stages.Settles closings.Ends) = omega arith
waits_most (stages.Settles closings.RefusesHello) = omega arith
waits_most (stages.Settles closings.FindsFull) = omega arith
waits_most (stages.Tells closings.GoesOn) = omega arith
waits_most (stages.Tells closings.Ends) = omega arith
waits_most (stages.Tells closings.RefusesHello) = omega arith
waits_most (stages.Tells closings.FindsFull) = omega arith
waits_most stages.Over = omega arith

waits_hearing : (ended : Bool) (stage : Stage) → need_at ended stage ≡ needs.Input → waits_of ended stage ≡ 8
waits_hearing false stages.Greets is = refl
waits_hearing false stages.Listens is = refl
waits_hearing false stages.Opens is = cc
waits_hearing false (stages.Settles closing) is = cc
waits_hearing false (stages.Tells closing) is = cc
waits_hearing false stages.Over is = cc
waits_hearing true stage is = let no' = not_ended true stage is in cc

pub waits_fewer : (old new : Conversation) → need_of old ≡ needs.Input → new.ended ≡ false → new.left < old.left → waits_left new < waits_left old
waits_fewer old new need ended fewer =
    let most : waits_of new.ended new.stage ≤ 10 = subst (λ e. waits_of e new.stage ≤ 10) (sym ended) (waits_most new.stage) in
    omega (arith, most, fewer, waits_hearing old.ended old.stage need)

-- a line with its LF has a byte
pub line_some : (n : ℕ) (part : Part) (shown : List ℕ) (before held : Held) (left : ℕ) → part ≡ Ends → Scanned n part shown before held left → 0 < n
line_some n part shown before held left is s =
    let whole : Scanned n Ends shown before held left = subst (λ p. Scanned n p shown before held left) is s in
    omega (arith, ap length whole.front, length-take-le n shown whole.within, length-append whole.some (10 ∷ []))
