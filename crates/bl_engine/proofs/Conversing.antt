-- How a conversation goes from one stage to the next.
use Rattle.std.proofs.Common.{◌≡◌, ℕ, ◌+◌, ◌≤◌, inl, inr, Bool, true, false, List, [], ◌∷◌, ◌++◌, length, refl, sym, ap, subst, ◌∙◌, append_assoc, append-nil, arith, drop, Some, None}
use Rattle.bl_wire.specs.declared.turn.Turn.{Turn}
use Rattle.bl_wire.specs.declared.turn.Turn.TheVariants.{Skip, Wait, Greets, Bad, Ask}
use Rattle.bl_wire.specs.declared.turn.Pending.{Pending}
use Rattle.bl_wire.specs.declared.turn.Pending.TheVariants.{Again, Refused, Asked}
use Rattle.bl_wire.specs.Texts.{text_of, session_text, ordinal_after, ok_line, bye_line, refused_hello}
use Rattle.bl_wire.specs.Turns.{AreSkips, IsOpening, StopsAtRefusal, HasNoWait, is_skip, greeted}
use Rattle.bl_engine.specs.Requests.{Request, Opens, Settles, told_of, told_by}
use Rattle.bl_engine.specs.BlockText.{pending_of, block_text, reply_to, Begins}
use Rattle.bl_engine.specs.Outcome.{refused_sessions}
use Rattle.bl_engine.specs.declared.conversation.Opening.{Opening}
use Rattle.bl_engine.specs.declared.conversation.Opening.TheVariants.{Open, Full}
use Rattle.bl_engine.specs.declared.conversation.Closing.{Closing}
use Rattle.bl_engine.specs.declared.conversation.Closing.TheVariants.{GoesOn, Ends, RefusesHello, FindsFull}
use Rattle.bl_engine.specs.Parts.{SameWithin}
use Rattle.bl_engine.specs.Conversations.{Given, Talk, lines_left, owed, words_of, full_text, full_asked, whole_text, whole_asked, IsFresh, IsSilent, HasGreeted, IsOpen, TellsWhole, IsTelling, IsEnding, IsSettling}
use Rattle.bl_engine.proofs.Texts.{text-append, ordinal-append, told-append, text-block, ordinal-block, pending-append, no_wait-append}
use Rattle.bl_engine.proofs.TurnLaws.{opened_text, opened_told, opens_after, skips-more, stops_opened, stops_skipped, skipped_text, skipped_told, refuses_after}

-- what a machine that opens no session would say is the same where no line asks for one
full_refuses : (skips : List Turn) (t : Turn) → AreSkips skips → is_skip t ≡ false → greeted t ≡ None
    → (full_text (skips ++ t ∷ []) ≡ refused_hello ++ bye_line) × (full_asked (skips ++ t ∷ []) ≡ [])
full_refuses [] Skip quiet some none = cc
full_refuses [] Wait quiet some none = (refl, refl)
full_refuses [] (Greets named) quiet some none = cc
full_refuses [] (Bad fault) quiet some none = (refl, refl)
full_refuses [] (Ask work) quiet some none = (refl, refl)
full_refuses (Skip ∷ skips) t quiet some none = full_refuses skips t quiet some none
full_refuses (Wait ∷ skips) t quiet some none = absurd quiet
full_refuses (Greets named ∷ skips) t quiet some none = absurd quiet
full_refuses (Bad fault ∷ skips) t quiet some none = absurd quiet
full_refuses (Ask work ∷ skips) t quiet some none = absurd quiet

pub full_opens : (subject : ℕ) (head : List Turn) → IsOpening subject head → (full_text head ≡ refused_sessions ++ bye_line) × (full_asked head ≡ Opens subject ∷ [])
full_opens subject [] opens = absurd opens
full_opens subject (Skip ∷ head) opens = full_opens subject head opens
full_opens subject (Greets named ∷ head) opens = (refl, ap (λ s. Opens s ∷ []) opens.0)
full_opens subject (Wait ∷ head) opens = absurd opens
full_opens subject (Bad fault ∷ head) opens = absurd opens
full_opens subject (Ask work ∷ head) opens = absurd opens

pub full_skips : (skips : List Turn) → AreSkips skips → (full_text skips ≡ bye_line) × (full_asked skips ≡ [])
full_skips [] quiet = (refl, refl)
full_skips (Skip ∷ skips) quiet = full_skips skips quiet
full_skips (Wait ∷ skips) quiet = absurd quiet
full_skips (Greets named ∷ skips) quiet = absurd quiet
full_skips (Bad fault ∷ skips) quiet = absurd quiet
full_skips (Ask work ∷ skips) quiet = absurd quiet

-- where nothing was said, and all lines but the last are skipped, no block was closed
pub quiet_blocks : (replies : ℕ → List ℕ) (skips last : List Turn) (said : List ℕ) → AreSkips skips → length last ≤ 1 → TellsWhole replies (skips ++ last) said
quiet_blocks replies skips last said quiet few = ([], (skips, last, few, refl, inl (quiet, refl)), (said, refl))

-- what opens a session is lines that are skipped and one `hello`
opening_front : (subject : ℕ) (head : List Turn) → IsOpening subject head → (front : List Turn) × AreSkips front × (head ≡ front ++ Greets subject ∷ [])
opening_front subject [] opens = absurd opens
opening_front subject (Skip ∷ head) opens = let rest = opening_front subject head opens in (Skip ∷ rest.0, rest.1, ap (λ l. Skip ∷ l) rest.2)
opening_front subject (Greets named ∷ head) opens = ([], tt, ap (λ s. Greets s ∷ head) opens.0 ∙ ap (λ l. Greets subject ∷ l) opens.1)
opening_front subject (Wait ∷ head) opens = absurd opens
opening_front subject (Bad fault ∷ head) opens = absurd opens
opening_front subject (Ask work ∷ head) opens = absurd opens

-- nothing of a block that has not begun is to be told
fresh_owed : (left : ℕ → List ℕ) (talk : Talk) (closing : Closing) → IsFresh talk → owed left talk closing ≡ words_of closing
fresh_owed left talk closing fresh =
    ap (λ l. block_text left (talk.after + talk.line) l ++ words_of closing) (ap (λ l. drop talk.line l) fresh.pending ∙ ap (λ n. drop n []) fresh.line)

-- a line that is skipped before the first one
pub silent_on : (talk : Talk) (turns : List Turn) (asked : List Request) (said : List ℕ) (t : Turn) → is_skip t ≡ true → IsSilent talk turns asked said
    → IsSilent talk (turns ++ t ∷ []) (asked ++ []) said
silent_on talk turns asked said t skip was = record {
  fresh = was.fresh;
  skips = skips-more turns t was.skips skip;
  none = append-nil asked ∙ was.none;
  quiet = was.quiet;
}

-- the first line that is not skipped is a `hello`
pub silent_greeted : (talk : Talk) (turns : List Turn) (asked : List Request) (said : List ℕ) (t : Turn) (subject : ℕ) → greeted t ≡ Some subject → IsSilent talk turns asked said
    → HasGreeted talk (turns ++ t ∷ []) (asked ++ Opens subject ∷ []) said
silent_greeted talk turns asked said t subject greets was = record {
  fresh = was.fresh;
  subject = subject;
  opened = opens_after subject turns t was.skips greets;
  asked_is = ap (λ l. l ++ Opens subject ∷ []) was.none;
  quiet = was.quiet;
}

-- it is refused
pub silent_refused : (given : Given) (left : ℕ → List ℕ) (talk : Talk) (turns : List Turn) (asked : List Request) (said : List ℕ) (t : Turn) → is_skip t ≡ false → greeted t ≡ None
    → IsSilent talk turns asked said → IsEnding given RefusesHello talk.ended (turns ++ t ∷ []) (asked ++ []) said (owed left talk RefusesHello)
silent_refused given left talk turns asked said t some none was =
    let refuses = refuses_after turns t was.skips some none in
    let full = full_refuses turns t was.skips some none in
    record {
      why = refuses.last;
      stops = refuses.stops;
      asked_is = append-nil asked ∙ was.none ∙ no_asked given.opening refuses.told full.1;
      text = ap (λ l. l ++ owed left talk RefusesHello) was.quiet ∙ fresh_owed left talk RefusesHello was.fresh ∙ sym (text given.opening (refuses.text given.replies) full.0);
      blocks = quiet_blocks given.replies turns (t ∷ []) said was.skips (omega arith);
    }
  where
    no_asked : (opening : Opening) → told_by (turns ++ t ∷ []) ≡ [] → full_asked (turns ++ t ∷ []) ≡ [] → [] ≡ whole_asked opening (turns ++ t ∷ [])
    no_asked Open one two = sym one
    no_asked Full one two = sym two

    text : (opening : Opening) → session_text given.replies (turns ++ t ∷ []) ≡ refused_hello ++ bye_line → full_text (turns ++ t ∷ []) ≡ refused_hello ++ bye_line
        → whole_text opening given.replies (turns ++ t ∷ []) ≡ refused_hello ++ bye_line
    text Open one two = one
    text Full one two = two

-- the input is at its end, and each line was skipped
pub silent_ends : (given : Given) (left : ℕ → List ℕ) (talk : Talk) (turns : List Turn) (asked : List Request) (said : List ℕ) → talk.ended ≡ true
    → IsSilent talk turns asked said → IsEnding given Ends talk.ended (turns ++ []) (asked ++ []) said (owed left talk Ends)
silent_ends given left talk turns asked said ended was =
    subst (λ l. IsEnding given Ends talk.ended l (asked ++ []) said (owed left talk Ends)) (sym (append-nil turns)) (
    record {
      why = ended;
      stops = stops_skipped turns was.skips;
      asked_is = append-nil asked ∙ was.none ∙ no_asked given.opening;
      text = ap (λ l. l ++ owed left talk Ends) was.quiet ∙ fresh_owed left talk Ends was.fresh ∙ sym (text given.opening);
      blocks = subst (λ l. TellsWhole given.replies l said) (append-nil turns) (quiet_blocks given.replies turns [] said was.skips (omega arith));
    }
    )
  where
    no_asked : (opening : Opening) → [] ≡ whole_asked opening turns
    no_asked Open = sym (skipped_told turns was.skips)
    no_asked Full = sym (full_skips turns was.skips).1

    text : (opening : Opening) → whole_text opening given.replies turns ≡ bye_line
    text Open = skipped_text given.replies turns was.skips
    text Full = (full_skips turns was.skips).0

pub opening_blocks : (replies : ℕ → List ℕ) (subject : ℕ) (head : List Turn) (said : List ℕ) → IsOpening subject head → TellsWhole replies head said
opening_blocks replies subject head said opens =
    let front = opening_front subject head opens in
    subst (λ l. TellsWhole replies l said) (sym front.2) (quiet_blocks replies front.0 (Greets subject ∷ []) said front.1 (omega arith))

-- the session is opened
pub greeted_open : (given : Given) (left : ℕ → List ℕ) (talk : Talk) (turns : List Turn) (asked : List Request) (said : List ℕ) → given.opening ≡ Open
    → HasGreeted talk turns asked said → IsTelling given talk turns asked said (owed left talk GoesOn)
greeted_open given left talk turns asked said is was = record {
  is_open = is;
  subject = was.subject;
  head = turns;
  done = [];
  split = sym (append-nil turns);
  opened = was.opened;
  count = ap (λ n. n + length talk.pending) was.fresh.after ∙ ap (λ (l : List Pending). 0 + length l) was.fresh.pending;
  asked_is = was.asked_is;
  text = ap (λ l. l ++ owed left talk GoesOn) was.quiet ∙ fresh_owed left talk GoesOn was.fresh ∙ sym (append-nil ok_line);
  blocks = opening_blocks given.replies was.subject turns said was.opened;
}

-- none can be
pub greeted_full : (given : Given) (left : ℕ → List ℕ) (talk : Talk) (turns : List Turn) (asked : List Request) (said : List ℕ) → given.opening ≡ Full
    → HasGreeted talk turns asked said → IsEnding given FindsFull talk.ended turns asked said (owed left talk FindsFull)
greeted_full given left talk turns asked said is was =
    let full = full_opens was.subject turns was.opened in
    record {
      why = (is, (was.subject, was.opened));
      stops = subst StopsAtRefusal (append-nil turns) (stops_opened was.subject turns [] was.opened);
      asked_is = was.asked_is ∙ sym full.1 ∙ ap (λ o. whole_asked o turns) (sym is);
      text = ap (λ l. l ++ owed left talk FindsFull) was.quiet ∙ fresh_owed left talk FindsFull was.fresh ∙ sym full.0 ∙ ap (λ o. whole_text o given.replies turns) (sym is);
      blocks = opening_blocks given.replies was.subject turns said was.opened;
    }

-- the blocks before the open one were told whole
pub open_blocks : (given : Given) (talk : Talk) (behind turns : List Turn) (asked : List Request) (said : List ℕ) → length behind ≤ 1
    → IsOpen given talk behind turns asked said → TellsWhole given.replies turns said
open_blocks given talk behind turns asked said few was = (
  said,
  (
    was.head ++ (was.done ++ was.block),
    behind,
    few,
    was.split ∙ ap (λ l. was.head ++ l) (sym (append_assoc was.done was.block behind)) ∙ sym (append_assoc was.head (was.done ++ was.block) behind),
    inr (record {
      subject = was.subject;
      head = was.head;
      done = was.done;
      open_turns = was.block;
      split = refl;
      opened = was.opened;
      in_block = was.in_block;
      text = was.said_is;
    }),
  ),
  ([], sym (append-nil said)),
)

-- the same, seen of another conversation with the same block
pub open_same : (given : Given) (talk new : Talk) (behind turns : List Turn) (asked : List Request) (said : List ℕ) → new.after ≡ talk.after → new.pending ≡ talk.pending
    → new.line ≡ talk.line → IsOpen given talk behind turns asked said → IsOpen given new behind turns asked said
open_same given talk new behind turns asked said after pending line was = record {
  is_open = was.is_open;
  subject = was.subject;
  head = was.head;
  done = was.done;
  block = was.block;
  split = was.split;
  opened = was.opened;
  pending = pending ∙ was.pending;
  in_block = was.in_block;
  count = after ∙ was.count;
  line = line ∙ was.line;
  asked_is = was.asked_is;
  said_is = was.said_is;
}

pub silent_same : (talk new : Talk) (turns : List Turn) (asked : List Request) (said : List ℕ) → new.after ≡ talk.after → new.pending ≡ talk.pending
    → new.line ≡ talk.line → IsSilent talk turns asked said → IsSilent new turns asked said
silent_same talk new turns asked said after pending line was = record {
  fresh = record { after = after ∙ was.fresh.after; pending = pending ∙ was.fresh.pending; line = line ∙ was.fresh.line };
  skips = was.skips;
  none = was.none;
  quiet = was.quiet;
}

-- the text of a block whose replies are the same
block_within : (f g : ℕ → List ℕ) (k upto : ℕ) (pending : List Pending) → SameWithin k upto f g → k + length pending ≤ upto → block_text g k pending ≡ block_text f k pending
block_within f g k upto [] same within = refl
block_within f g k upto (Again ∷ pending) same within =
    ap (λ l. reply_to f (k + 1) Again ++ l) (block_within f g (k + 1) upto pending (λ n low high. same n (omega arith) high) (omega arith))
block_within f g k upto (Refused fault ∷ pending) same within =
    ap (λ l. reply_to f (k + 1) (Refused fault) ++ l) (block_within f g (k + 1) upto pending (λ n low high. same n (omega arith) high) (omega arith))
block_within f g k upto (Asked ∷ pending) same within =
    ap (λ l. l ++ block_text g (k + 1) pending) (same (k + 1) (omega arith) (omega arith))
    ∙ ap (λ l. f (k + 1) ++ l) (block_within f g (k + 1) upto pending (λ n low high. same n (omega arith) high) (omega arith))

module _ (given : Given) (talk : Talk) (turns : List Turn) (asked : List Request) (said : List ℕ) where
  module _ (was : IsOpen given talk [] turns asked said) where
    last_ordinal : ordinal_after 0 (was.done ++ (was.block ++ [])) ≡ talk.after + length talk.pending
    last_ordinal =
        ap (λ l. ordinal_after 0 (was.done ++ l)) (append-nil was.block) ∙ ordinal-append 0 was.done was.block ∙ ordinal-block (ordinal_after 0 was.done) was.block
        ∙ ap (λ k. k + length (pending_of was.block)) (sym was.count) ∙ ap (λ (p : List Pending). talk.after + length p) (sym was.pending)

    more_split : (t : Turn) (tail : List Turn) → (was.block ++ []) ++ t ∷ [] ≡ tail → turns ++ t ∷ [] ≡ was.head ++ (was.done ++ tail)
    more_split t tail is =
        ap (λ l. l ++ t ∷ []) was.split ∙ append_assoc was.head (was.done ++ (was.block ++ [])) (t ∷ [])
        ∙ ap (λ l. was.head ++ l) (append_assoc was.done (was.block ++ []) (t ∷ []) ∙ ap (λ l. was.done ++ l) is)

    more_asked : (t : Turn) (tail : List Turn) (requests : List Request) → (was.block ++ []) ++ t ∷ [] ≡ tail → requests ≡ told_of (talk.after + length talk.pending) (t ∷ [])
        → asked ++ requests ≡ Opens was.subject ∷ told_of 0 (was.done ++ tail)
    more_asked t tail requests is are =
        ap (λ l. l ++ requests) was.asked_is
        ∙ ap (λ l. (Opens was.subject ∷ told_of 0 (was.done ++ (was.block ++ []))) ++ l) (are ∙ ap (λ k. told_of k (t ∷ [])) (sym last_ordinal))
        ∙ ap (λ l. Opens was.subject ∷ l) (sym (told-append 0 (was.done ++ (was.block ++ [])) (t ∷ [])))
        ∙ ap (λ l. Opens was.subject ∷ told_of 0 l) (append_assoc was.done (was.block ++ []) (t ∷ []) ∙ ap (λ l. was.done ++ l) is)

    -- one line more in the block
    pub open_more : (new : Talk) (t : Turn) (requests : List Request) → HasNoWait (t ∷ []) → new.after ≡ talk.after → new.pending ≡ talk.pending ++ pending_of (t ∷ [])
        → new.line ≡ talk.line → requests ≡ told_of (talk.after + length talk.pending) (t ∷ []) → IsOpen given new [] (turns ++ t ∷ []) (asked ++ requests) said
    open_more new t requests plain after pending line are =
        let tail : (was.block ++ []) ++ t ∷ [] ≡ (was.block ++ t ∷ []) ++ [] = ap (λ l. l ++ t ∷ []) (append-nil was.block) ∙ sym (append-nil (was.block ++ t ∷ [])) in
        record {
          is_open = was.is_open;
          subject = was.subject;
          head = was.head;
          done = was.done;
          block = was.block ++ t ∷ [];
          split = more_split t ((was.block ++ t ∷ []) ++ []) tail;
          opened = was.opened;
          pending = pending ∙ ap (λ p. p ++ pending_of (t ∷ [])) was.pending ∙ sym (pending-append was.block (t ∷ []));
          in_block = no_wait-append was.block (t ∷ []) was.in_block plain;
          count = after ∙ was.count;
          line = line ∙ was.line;
          asked_is = more_asked t ((was.block ++ t ∷ []) ++ []) requests tail are;
          said_is = was.said_is;
        }

    -- a `wait`
    pub open_waits : IsOpen given talk (Wait ∷ []) (turns ++ Wait ∷ []) (asked ++ Settles ∷ []) said
    open_waits =
        let tail : (was.block ++ []) ++ Wait ∷ [] ≡ was.block ++ Wait ∷ [] = ap (λ l. l ++ Wait ∷ []) (append-nil was.block) in
        record {
          is_open = was.is_open;
          subject = was.subject;
          head = was.head;
          done = was.done;
          block = was.block;
          split = more_split Wait (was.block ++ Wait ∷ []) tail;
          opened = was.opened;
          pending = was.pending;
          in_block = was.in_block;
          count = was.count;
          line = was.line;
          asked_is = more_asked Wait (was.block ++ Wait ∷ []) (Settles ∷ []) tail refl;
          said_is = was.said_is;
        }

-- the text of the block and what closes it
module _ (given : Given) (talk : Talk) (behind turns : List Turn) (asked : List Request) (said : List ℕ) (was : IsOpen given talk behind turns asked said)
    (left : ℕ → List ℕ) (same : SameWithin talk.after (talk.after + length talk.pending) given.replies left) where
  block_is : lines_left left talk ≡ text_of given.replies (ordinal_after 0 was.done) was.block
  block_is =
      ap (λ l. block_text left (talk.after + l) (drop l talk.pending)) was.line ∙ ap (λ k. block_text left k talk.pending) (omega arith)
      ∙ block_within given.replies left talk.after (talk.after + length talk.pending) talk.pending same (omega arith)
      ∙ ap (λ p. block_text given.replies talk.after p) was.pending ∙ ap (λ k. block_text given.replies k (pending_of was.block)) was.count
      ∙ sym (text-block given.replies (ordinal_after 0 was.done) was.block was.in_block)

  whole_is : (tail words : List ℕ) → text_of given.replies (ordinal_after (ordinal_after 0 was.done) was.block) behind ++ tail ≡ words
      → said ++ (lines_left left talk ++ words) ≡ ok_line ++ (text_of given.replies 0 (was.done ++ (was.block ++ behind)) ++ tail)
  whole_is tail words is =
      let D = text_of given.replies 0 was.done in
      let B = text_of given.replies (ordinal_after 0 was.done) was.block in
      let K = text_of given.replies (ordinal_after (ordinal_after 0 was.done) was.block) behind in
      let all : text_of given.replies 0 (was.done ++ (was.block ++ behind)) ≡ D ++ (B ++ K) =
      text-append given.replies 0 was.done (was.block ++ behind) ∙ ap (λ l. D ++ l) (text-append given.replies (ordinal_after 0 was.done) was.block behind) in
      ap (λ l. l ++ (lines_left left talk ++ words)) was.said_is ∙ ap (λ l. (ok_line ++ D) ++ (l ++ words)) block_is ∙ ap (λ l. (ok_line ++ D) ++ (B ++ l)) (sym is)
      ∙ append_assoc ok_line D (B ++ (K ++ tail)) ∙ ap (λ l. ok_line ++ (D ++ l)) (sym (append_assoc B K tail)) ∙ ap (λ l. ok_line ++ l) (sym (append_assoc D (B ++ K) tail))
      ∙ ap (λ l. ok_line ++ (l ++ tail)) (sym all)

-- the block that a `wait` closed was answered
pub open_answered : (given : Given) (talk : Talk) (turns : List Turn) (asked : List Request) (said : List ℕ) (left : ℕ → List ℕ)
    → SameWithin talk.after (talk.after + length talk.pending) given.replies left → IsOpen given talk (Wait ∷ []) turns asked said
    → IsTelling given talk turns asked said (owed left talk GoesOn)
open_answered given talk turns asked said left same was = record {
  is_open = was.is_open;
  subject = was.subject;
  head = was.head;
  done = was.done ++ (was.block ++ Wait ∷ []);
  split = was.split;
  opened = was.opened;
  count =
      ap (λ (p : List Pending). talk.after + length p) was.pending ∙ ap (λ k. k + length (pending_of was.block)) was.count ∙ sym (ordinal-block (ordinal_after 0 was.done) was.block)
      ∙ sym (ordinal-append (ordinal_after 0 was.done) was.block (Wait ∷ [])) ∙ sym (ordinal-append 0 was.done (was.block ++ Wait ∷ []));
  asked_is = was.asked_is;
  text =
      let tail : text_of given.replies (ordinal_after (ordinal_after 0 was.done) was.block) (Wait ∷ []) ++ [] ≡ ok_line = append-nil (ok_line ++ []) ∙ append-nil ok_line in
      whole_is given talk (Wait ∷ []) turns asked said was left same [] ok_line tail
      ∙ ap (λ l. ok_line ++ l) (append-nil (text_of given.replies 0 (was.done ++ (was.block ++ Wait ∷ []))));
  blocks = open_blocks given talk (Wait ∷ []) turns asked said (omega arith) was;
}

-- the last one was
pub last_answered : (given : Given) (talk : Talk) (turns : List Turn) (asked : List Request) (said : List ℕ) (left : ℕ → List ℕ)
    → SameWithin talk.after (talk.after + length talk.pending) given.replies left → IsSettling Ends given talk turns asked said
    → IsEnding given Ends talk.ended turns asked said (owed left talk Ends)
last_answered given talk turns asked said left same settling =
    let before = settling.1.0 in
    let was : IsOpen given talk [] turns before said = settling.1.2 in
    let all = was.done ++ (was.block ++ []) in
    record {
      why = settling.0;
      stops = subst StopsAtRefusal (sym was.split) (stops_opened was.subject was.head all was.opened);
      asked_is =
          settling.1.1 ∙ ap (λ l. l ++ Settles ∷ []) was.asked_is ∙ sym (opened_told was.subject was.head all was.opened) ∙ ap told_by (sym was.split)
          ∙ ap (λ o. whole_asked o turns) (sym was.is_open);
      text =
          whole_is given talk [] turns before said was left same bye_line bye_line refl ∙ sym (opened_text given.replies was.subject was.head all was.opened)
          ∙ ap (session_text given.replies) (sym was.split) ∙ ap (λ o. whole_text o given.replies turns) (sym was.is_open);
      blocks = open_blocks given talk [] turns before said (omega arith) was;
    }

module _ (given : Given) (talk : Talk) (turns : List Turn) (asked : List Request) (said : List ℕ) where
  begins_more : (a b more : List ℕ) → Begins a b → Begins a (b ++ more)
  begins_more a b more begins = (begins.0 ++ more, ap (λ l. l ++ more) begins.1 ∙ append_assoc a begins.0 more)

  blocks_more : (more : List ℕ) → TellsWhole given.replies turns said → TellsWhole given.replies turns (said ++ more)
  blocks_more more was = (was.0, was.1, begins_more was.0 said more was.2)

  text_more : (rest more new_rest text : List ℕ) → rest ≡ more ++ new_rest → said ++ rest ≡ text → (said ++ more) ++ new_rest ≡ text
  text_more rest more new_rest text is was = append_assoc said more new_rest ∙ ap (λ l. said ++ l) (sym is) ∙ was

  -- more of the text was told
  pub telling_on : (new : Talk) (rest more new_rest : List ℕ) → rest ≡ more ++ new_rest → new.after ≡ talk.after → new.pending ≡ talk.pending
      → IsTelling given talk turns asked said rest → IsTelling given new turns asked (said ++ more) new_rest
  telling_on new rest more new_rest is after pending was = record {
    is_open = was.is_open;
    subject = was.subject;
    head = was.head;
    done = was.done;
    split = was.split;
    opened = was.opened;
    count = ap (λ k. k + length new.pending) after ∙ ap (λ (p : List Pending). talk.after + length p) pending ∙ was.count;
    asked_is = was.asked_is;
    text = text_more rest more new_rest _ is was.text;
    blocks = blocks_more more was.blocks;
  }

  pub ending_on : (closing : Closing) (ended : Bool) (rest more new_rest : List ℕ) → rest ≡ more ++ new_rest → IsEnding given closing ended turns asked said rest
      → IsEnding given closing ended turns asked (said ++ more) new_rest
  ending_on closing ended rest more new_rest is was = record {
    why = was.why;
    stops = was.stops;
    asked_is = was.asked_is;
    text = text_more rest more new_rest _ is was.text;
    blocks = blocks_more more was.blocks;
  }

  -- all of a block was told
  pub telling_closed : (new : Talk) (rest : List ℕ) → rest ≡ ok_line → new.after ≡ talk.after + length talk.pending → new.pending ≡ [] → new.line ≡ 0
      → IsTelling given talk turns asked said rest → IsOpen given new [] turns asked (said ++ ok_line)
  telling_closed new rest is after pending line was = record {
    is_open = was.is_open;
    subject = was.subject;
    head = was.head;
    done = was.done;
    block = [];
    split = was.split ∙ ap (λ l. was.head ++ l) (sym (append-nil was.done));
    opened = was.opened;
    pending = pending;
    in_block = tt;
    count = after ∙ was.count;
    line = line;
    asked_is = was.asked_is ∙ ap (λ l. Opens was.subject ∷ told_of 0 l) (sym (append-nil was.done));
    said_is = ap (λ l. said ++ l) (sym is) ∙ was.text;
  }
