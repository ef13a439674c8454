-- What was said at the end, and at each moment.
use Rattle.std.proofs.Common.{◌≡◌, ℕ, ◌≤◌, ◌⊎◌, inl, inr, replicate, Bool, true, false, List, [], ◌∷◌, ◌++◌, length, refl, sym, ap, subst, ◌∙◌, append_assoc, append-nil, arith}
use Rattle.bl_work.specs.Names.{KnownNames}
use Rattle.bl_wire.specs.Lines.{lines_of}
use Rattle.bl_wire.specs.Turns.{AreTurns, IsOpening, IsRefusal, StopsAtRefusal}
use Rattle.bl_wire.specs.Texts.{text_of, session_text, ordinal_after, ok_line, bye_line, refused_hello}
use Rattle.bl_wire.specs.declared.turn.Turn.{Turn}
use Rattle.bl_wire.specs.declared.turn.Turn.TheVariants.{Skip, Wait, Greets, Bad, Ask}
use Rattle.bl_engine.specs.Requests.{Request, Opens, Settles, told_of, told_by}
use Rattle.bl_engine.specs.BlockText.{Begins}
use Rattle.bl_engine.specs.Outcome.{AreWhole, IsDue}
use Rattle.bl_engine.specs.declared.conversation.Opening.{Opening}
use Rattle.bl_engine.specs.declared.conversation.Opening.TheVariants.{Open, Full}
use Rattle.bl_engine.specs.declared.conversation.Closing.{Closing}
use Rattle.bl_engine.specs.declared.conversation.Closing.TheVariants.{GoesOn, Ends, RefusesHello, FindsFull}
use Rattle.bl_engine.specs.declared.conversation.Conversation.{Conversation}
use Rattle.bl_engine.specs.declared.conversation.Need.TheVariants as needs
use Rattle.bl_engine.specs.declared.conversation.Stage.{Stage}
use Rattle.bl_engine.specs.declared.conversation.Stage.TheVariants as stages
use Rattle.bl_engine.specs.Conversations.{Given, Talk, talk_of, need_at, need_of, is_hearing, whole_text, whole_asked, owed, AreSo, IsOpen, IsTelling, IsEnding, TellsWhole, IsAt, Spoke, IsAll, IsSoFar}
use Rattle.bl_engine.proofs.Texts.{text-append}
use Rattle.bl_engine.proofs.TurnLaws.{opened_text, opened_told, skipped_told, stops_opened, stops_skipped}
use Rattle.bl_engine.proofs.LineLaws.{lines-now}
use Rattle.bl_engine.proofs.Conversing.{open_blocks, quiet_blocks, opening_blocks, full_opens, full_skips}

is_over : (ended : Bool) (stage : Stage) → need_at ended stage ≡ needs.Over → stage ≡ stages.Over
is_over ended stages.Over is = refl
is_over false stages.Greets is = cc
is_over true stages.Greets is = cc
is_over ended stages.Opens is = cc
is_over false stages.Listens is = cc
is_over true stages.Listens is = cc
is_over ended (stages.Settles closing) is = cc
is_over ended (stages.Tells closing) is = cc

all_so : (ended : Bool) (bytes : List ℕ) (lines : List (List ℕ)) → AreSo ended bytes lines → lines_of bytes ≡ lines
all_so true bytes lines are = are
all_so false bytes lines are = lines-now bytes lines are

pub all_said : (names : KnownNames) (given : Given) (left : ℕ → List ℕ) (conv : Conversation) (turns : List Turn) (asked : List Request) (heard said : List ℕ)
    → Spoke names given left conv turns asked heard said → need_of conv ≡ needs.Over → IsAll names given conv turns asked heard said
all_said names given left conv turns asked heard said s over =
    let at = subst (λ x. IsAt x given left (talk_of conv) turns asked said) (is_over conv.ended conv.stage over) s.point in
    let ending = at.1 in
    let none : s.cut.rest ≡ [] = s.cut.none (λ input. cc) in
    let all : heard ≡ s.cut.whole = s.cut.split ∙ ap (λ l. s.cut.whole ++ l) none ∙ append-nil s.cut.whole in
    let lines : lines_of heard ≡ s.cut.lines = ap lines_of all ∙ all_so conv.ended s.cut.whole s.cut.lines s.cut.cut in
    record {
      are = subst (λ l. AreTurns names l turns) (sym lines) s.cut.are;
      cut = subst (λ b. AreSo conv.ended b (lines_of heard)) (sym all) (subst (λ l. AreSo conv.ended s.cut.whole l) (sym lines) s.cut.cut);
      closing = at.0;
      why = ending.why;
      within = omega (arith, s.cut.count);
      stops = ending.stops;
      asked_is = ending.asked_is;
      said_is = sym (append-nil said) ∙ ending.text;
    }

begins_none : (said text : List ℕ) → said ≡ [] → Begins said text
begins_none said text none = (text, ap (λ l. l ++ text) (sym none))

begins_as : (given : Given) (turns : List Turn) (said rest : List ℕ) → given.opening ≡ Open → session_text given.replies turns ≡ said ++ rest
    → Begins said (whole_text given.opening given.replies turns)
begins_as given turns said rest is text = (rest, ap (λ o. whole_text o given.replies turns) is ∙ text)

open_begins : (given : Given) (talk : Talk) (behind turns : List Turn) (asked : List Request) (said : List ℕ) → IsOpen given talk behind turns asked said
    → Begins said (whole_text given.opening given.replies turns)
open_begins given talk behind turns asked said was =
    let D = text_of given.replies 0 was.done in
    let K = text_of given.replies (ordinal_after 0 was.done) (was.block ++ behind) in
    begins_as given turns said (K ++ bye_line) was.is_open
    (ap (session_text given.replies) was.split ∙ opened_text given.replies was.subject was.head (was.done ++ (was.block ++ behind)) was.opened
    ∙ ap (λ l. ok_line ++ (l ++ bye_line)) (text-append given.replies 0 was.done (was.block ++ behind))
    ∙ ap (λ l. ok_line ++ l) (append_assoc D K bye_line) ∙ sym (append_assoc ok_line D (K ++ bye_line)) ∙ ap (λ l. l ++ (K ++ bye_line)) (sym was.said_is))

telling_begins : (given : Given) (talk : Talk) (turns : List Turn) (asked : List Request) (said rest : List ℕ) → IsTelling given talk turns asked said rest
    → Begins said (whole_text given.opening given.replies turns)
telling_begins given talk turns asked said rest was =
    let D = text_of given.replies 0 was.done in
    begins_as given turns said (rest ++ bye_line) was.is_open
    (ap (session_text given.replies) was.split ∙ opened_text given.replies was.subject was.head was.done was.opened ∙ sym (append_assoc ok_line D bye_line)
    ∙ ap (λ l. l ++ bye_line) (sym was.text) ∙ append_assoc said rest bye_line)

-- what was asked is what is asked of the lines so far, but for settling
asked_open : (given : Given) (turns : List Turn) (asked : List Request) (subject : ℕ) (head all : List Turn) → given.opening ≡ Open → turns ≡ head ++ all → IsOpening subject head
    → asked ≡ Opens subject ∷ told_of 0 all → whole_asked given.opening turns ≡ asked ++ Settles ∷ []
asked_open given turns asked subject head all is split opened asked_is =
    ap (λ o. whole_asked o turns) is ∙ ap told_by split ∙ opened_told subject head all opened ∙ ap (λ l. l ++ Settles ∷ []) (sym asked_is)

refusal_text : (r : ℕ → List ℕ) (turns : List Turn) → IsRefusal turns → session_text r turns ≡ refused_hello ++ bye_line
refusal_text r [] refused = absurd refused
refusal_text r (Skip ∷ turns) refused = refusal_text r turns refused
refusal_text r (Greets subject ∷ turns) refused = absurd refused
refusal_text r (Wait ∷ turns) refused = refl
refusal_text r (Bad fault ∷ turns) refused = refl
refusal_text r (Ask work ∷ turns) refused = refl

abbrev pub Due : Given → Bool → List Turn → List ℕ → Type 0
Due given ended turns said = (ended ≡ true) ⊎ ((text : List ℕ) × IsDue given.replies turns text × Begins said text)

whole_due : (given : Given) (ended : Bool) (turns : List Turn) (said : List ℕ) → AreWhole given.replies turns said → Due given ended turns said
whole_due given ended turns said are = inr (said, inl are, ([], sym (append-nil said)))

-- the text of these lines is due where each of them was read
all_due : (given : Given) (ended : Bool) (turns : List Turn) (said rest : List ℕ) (subject : ℕ) (head done : List Turn) → turns ≡ head ++ done → IsOpening subject head
    → ok_line ++ text_of given.replies 0 done ≡ said ++ rest → Due given ended turns said
all_due given ended turns said rest subject head done split opened text = inr (
  ok_line ++ text_of given.replies 0 done,
  inl (inr (record {
    subject = subject;
    head = head;
    done = done;
    open_turns = [];
    split = split ∙ ap (λ l. head ++ l) (sym (append-nil done));
    opened = opened;
    in_block = tt;
    text = refl;
  })),
  (rest, text),
)

-- what closes the text is due where the input has ended or the first line was refused
ending_due : (given : Given) (closing : Closing) (ended : Bool) (turns : List Turn) (asked : List Request) (said rest : List ℕ) → given.opening ≡ Open
    → IsEnding given closing ended turns asked said rest → Due given ended turns said
ending_due given GoesOn ended turns asked said rest is was = absurd was.why
ending_due given Ends ended turns asked said rest is was = inl was.why
ending_due given RefusesHello ended turns asked said rest is was =
    inr (refused_hello ++ bye_line, inr (was.why, refl), (rest, sym (was.text ∙ ap (λ o. whole_text o given.replies turns) is ∙ refusal_text given.replies turns was.why)))
ending_due given FindsFull ended turns asked said rest is was = let full = was.why.0 in cc

open_whole : (given : Given) (talk : Talk) (turns : List Turn) (asked : List Request) (said : List ℕ) → IsOpen given talk [] turns asked said → AreWhole given.replies turns said
open_whole given talk turns asked said was = inr (record {
  subject = was.subject;
  head = was.head;
  done = was.done;
  open_turns = was.block;
  split = was.split ∙ ap (λ l. was.head ++ (was.done ++ l)) (append-nil was.block);
  opened = was.opened;
  in_block = was.in_block;
  text = was.said_is;
})

-- a block that its `wait` has closed is due
waits_due : (given : Given) (talk : Talk) (turns : List Turn) (asked : List Request) (said : List ℕ) → IsOpen given talk (Wait ∷ []) turns asked said → Due given talk.ended turns said
waits_due given talk turns asked said was =
    let D = text_of given.replies 0 was.done in
    let tail = was.block ++ Wait ∷ [] in
    let K = text_of given.replies (ordinal_after 0 was.done) tail in
    all_due given talk.ended turns said K was.subject was.head (was.done ++ tail) was.split was.opened
    (ap (λ l. ok_line ++ l) (text-append given.replies 0 was.done tail) ∙ sym (append_assoc ok_line D K) ∙ ap (λ l. l ++ K) (sym was.said_is))

-- a moment, by the stage
pub record IsMoment (given : Given) (stage : Stage) (talk : Talk) (turns : List Turn) (asked : List Request) (said : List ℕ) : Type 0 where
  pub begins : Begins said (whole_text given.opening given.replies turns)
  pub blocks : TellsWhole given.replies turns said
  pub quiet : is_hearing stage ≡ true → AreWhole given.replies turns said
  pub due : given.opening ≡ Open → Due given talk.ended turns said
  pub stops : StopsAtRefusal turns
  pub settles : ℕ
  pub asked_is : whole_asked given.opening turns ≡ asked ++ replicate settles Settles

open_moment : (given : Given) (stage : Stage) (talk : Talk) (behind turns : List Turn) (asked : List Request) (said : List ℕ) → length behind ≤ 1
    → (is_hearing stage ≡ true → AreWhole given.replies turns said) → Due given talk.ended turns said → IsOpen given talk behind turns asked said
    → IsMoment given stage talk turns asked said
open_moment given stage talk behind turns asked said few quiet due was =
    let all = was.done ++ (was.block ++ behind) in
    record {
      begins = open_begins given talk behind turns asked said was;
      blocks = open_blocks given talk behind turns asked said few was;
      quiet = quiet;
      due = λ is. due;
      stops = subst StopsAtRefusal (sym was.split) (stops_opened was.subject was.head all was.opened);
      settles = 1;
      asked_is = asked_open given turns asked was.subject was.head all was.is_open was.split was.opened was.asked_is;
    }

ending_moment : (given : Given) (stage : Stage) (talk : Talk) (closing : Closing) (turns : List Turn) (asked : List Request) (said rest : List ℕ)
    → (is_hearing stage ≡ true → ⊥) → IsEnding given closing talk.ended turns asked said rest → IsMoment given stage talk turns asked said
ending_moment given stage talk closing turns asked said rest other was = record {
  begins = (rest, sym was.text);
  blocks = was.blocks;
  quiet = λ hears. absurd (other hears);
  due = λ is. ending_due given closing talk.ended turns asked said rest is was;
  stops = was.stops;
  settles = 0;
  asked_is = sym was.asked_is ∙ sym (append-nil asked);
}

moment_at : (stage : Stage) (given : Given) (left : ℕ → List ℕ) (talk : Talk) (turns : List Turn) (asked : List Request) (said : List ℕ) → IsAt stage given left talk turns asked said
    → IsMoment given stage talk turns asked said
moment_at stages.Greets given left talk turns asked said was = record {
  begins = begins_none said _ was.quiet;
  blocks = subst (λ l. TellsWhole given.replies l said) (append-nil turns) (quiet_blocks given.replies turns [] said was.skips (omega arith));
  quiet = λ hears. inl (was.skips, was.quiet);
  due = λ is. whole_due given talk.ended turns said (inl (was.skips, was.quiet));
  stops = stops_skipped turns was.skips;
  settles = 0;
  asked_is = none given.opening ∙ sym (append-nil asked ∙ was.none);
}
  where
    none : (opening : Opening) → whole_asked opening turns ≡ []
    none Open = skipped_told turns was.skips
    none Full = (full_skips turns was.skips).1
moment_at stages.Opens given left talk turns asked said was = record {
  begins = begins_none said _ was.quiet;
  blocks = opening_blocks given.replies was.subject turns said was.opened;
  quiet = λ hears. cc;
  due = λ is. all_due given talk.ended turns said (ok_line ++ []) was.subject turns [] (sym (append-nil turns)) was.opened (ap (λ l. l ++ (ok_line ++ [])) (sym was.quiet));
  stops = subst StopsAtRefusal (append-nil turns) (stops_opened was.subject turns [] was.opened);
  settles = (by_opening given.opening).0;
  asked_is = (by_opening given.opening).1;
}
  where
    by_opening : (opening : Opening) → (settles : ℕ) × (whole_asked opening turns ≡ asked ++ replicate settles Settles)
    by_opening Open = (
      1,
      ap told_by (sym (append-nil turns)) ∙ opened_told was.subject turns [] was.opened ∙ ap (λ l. l ++ Settles ∷ []) (sym was.asked_is),
    )
    by_opening Full = (0, (full_opens was.subject turns was.opened).1 ∙ sym (append-nil asked ∙ was.asked_is))
moment_at stages.Listens given left talk turns asked said was =
    let are = open_whole given talk turns asked said was in
    open_moment given stages.Listens talk [] turns asked said (omega arith) (λ hears. are) (whole_due given talk.ended turns said are) was
moment_at (stages.Settles GoesOn) given left talk turns asked said was =
    open_moment given (stages.Settles GoesOn) talk (Wait ∷ []) turns asked said (omega arith) (λ hears. cc) (waits_due given talk turns asked said was) was
moment_at (stages.Settles Ends) given left talk turns asked said was =
    let before = open_moment given (stages.Settles Ends) talk [] turns was.1.0 said (omega arith) (λ hears. cc) (inl was.0) was.1.2 in
    record {
      begins = before.begins;
      blocks = before.blocks;
      quiet = λ hears. cc;
      due = before.due;
      stops = before.stops;
      settles = 0;
      asked_is = asked_open given turns was.1.0 was.1.2.subject was.1.2.head (was.1.2.done ++ (was.1.2.block ++ [])) was.1.2.is_open was.1.2.split was.1.2.opened was.1.2.asked_is
          ∙ sym was.1.1 ∙ sym (append-nil asked);
    }
moment_at (stages.Settles RefusesHello) given left talk turns asked said was = absurd was
moment_at (stages.Settles FindsFull) given left talk turns asked said was = absurd was
moment_at (stages.Tells GoesOn) given left talk turns asked said was = record {
  begins = telling_begins given talk turns asked said _ was;
  blocks = was.blocks;
  quiet = λ hears. cc;
  due = λ is. all_due given talk.ended turns said (owed left talk GoesOn) was.subject was.head was.done was.split was.opened (sym was.text);
  stops = subst StopsAtRefusal (sym was.split) (stops_opened was.subject was.head was.done was.opened);
  settles = 1;
  asked_is = asked_open given turns asked was.subject was.head was.done was.is_open was.split was.opened was.asked_is;
}
moment_at (stages.Tells Ends) given left talk turns asked said was = ending_moment given (stages.Tells Ends) talk Ends turns asked said _ (λ hears. cc) was
moment_at (stages.Tells RefusesHello) given left talk turns asked said was = ending_moment given (stages.Tells RefusesHello) talk RefusesHello turns asked said _ (λ hears. cc) was
moment_at (stages.Tells FindsFull) given left talk turns asked said was = ending_moment given (stages.Tells FindsFull) talk FindsFull turns asked said _ (λ hears. cc) was
moment_at stages.Over given left talk turns asked said was = ending_moment given stages.Over talk was.0 turns asked said [] (λ hears. cc) was.1

pub so_far_at : (given : Given) (left : ℕ → List ℕ) (conv : Conversation) (turns : List Turn) (asked : List Request) (said : List ℕ)
    → IsAt conv.stage given left (talk_of conv) turns asked said → IsSoFar given conv turns asked said
so_far_at given left conv turns asked said at =
    let moment = moment_at conv.stage given left (talk_of conv) turns asked said at in
    record {
      begins = moment.begins;
      blocks = moment.blocks;
      quiet = moment.quiet;
      due = moment.due;
      stops = moment.stops;
      settles = moment.settles;
      asked_is = moment.asked_is;
    }

pub so_far : (names : KnownNames) (given : Given) (left : ℕ → List ℕ) (conv : Conversation) (turns : List Turn) (asked : List Request) (heard said : List ℕ)
    → Spoke names given left conv turns asked heard said → IsSoFar given conv turns asked said
so_far names given left conv turns asked heard said s = so_far_at given left conv turns asked said s.point
