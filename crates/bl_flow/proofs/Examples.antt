-- The setup of the examples, the lines that are said in them, and where trails lead.
use Rattle.std.proofs.Common.{ℕ, zero, suc, arith, lit<, lit≤, sym, ◌∙◌, ap, inl, inr, ◌⊎◌, true≢false, refl}
use Rattle.std.specs.Prelude.{◌≡◌, ◌<◌, Bool, true, false, not, ◌&&◌, List, [], ◌∷◌, ◌++◌, length, slice_index_or, Contains, codes}
use Rattle.std.proofs.lemmas.Bool.{not-true}
use Rattle.std.proofs.lemmas.List.Elements.{All-from_recursion, All-nil}
use Rattle.std.proofs.lemmas.Nat.Bits.{bit_at-zero}
use Rattle.bl_level.specs.Level.{SecurityLevel}
use Rattle.bl_level.specs.LevelText as of_level
use Rattle.bl_level.specs.LevelText.{LevelText}
use Rattle.bl_level.specs.Lexing.{Front, nothing, token, broken, front, past_blanks, Begins}
use Rattle.bl_level.specs.Token.{Tok}
use Rattle.bl_policy.specs.Policy.{SecurityPolicy, no_policy, with_subject, with_document, with_modes, is_trusted}
use Rattle.bl_policy.specs.declared.access.Mode.TheVariants.{Read, Write}
use Rattle.bl_policy.specs.declared.rule.Rule.TheVariants.{Rescind, Current, Classify}
use Rattle.bl_work.specs.FirstWhenFault.{HasFewAccesses}
use Rattle.bl_work.specs.Grammar as grammar
use Rattle.bl_work.specs.Meaning.{script_of}
use Rattle.bl_work.specs.Names.{KnownNames}
use Rattle.bl_work.specs.Readable.{IsReadable}
use Rattle.bl_work.specs.Spelled as spelled
use Rattle.bl_work.specs.Spelled.{SpelledAccess, SpelledBody}
use Rattle.bl_work.specs.SpelledRules.{rescind, current, classify}
use Rattle.bl_work.specs.WhenFaults.{lists_in, names_of_when, IsOnce, declarations_of_when, IsDeclared, uses_in}
use Rattle.bl_work.specs.declared.script.Condition.TheVariants.{Is}
use Rattle.bl_work.specs.declared.answer.Answer.{Answer}
use Rattle.bl_work.specs.declared.answer.Answer.TheVariants.{Done, RuleDone, Denied, Lost}
use Rattle.bl_work.specs.declared.work.Work.{Work}
use Rattle.bl_work.specs.declared.work.Work.TheVariants as work
use Rattle.bl_setup.specs.Setup.{Setup, by_version}
use Rattle.bl_setup.specs.declared.version.Version.{Version}
use Rattle.bl_setup.specs.declared.version.Version.TheVariants.{Two}
use Rattle.bl_order.specs.Headline.{IsReached}
use Rattle.bl_order.specs.Machine.{State, Event, IsTrail, MayStart, has_ended, is_waiting, phase_at, start, state_after}
use Rattle.bl_flow.specs.Low.{History, AgreeLow, is_low_document, place_in}
use Rattle.bl_flow.specs.Sealed.{IsPlain, IsUntrusted, changes_a_level}
use Rattle.bl_flow.proofs.Lists.{less_or_equal}

-- ---- who and what

-- s dominates u
abbrev pub u : SecurityLevel
u = record { rank = 0; categories = 0 }

abbrev pub s : SecurityLevel
s = record { rank = 1; categories = 0 }

-- the high document, and the low one
abbrev pub memo : ℕ
memo = 0

abbrev pub note : ℕ
note = 1

-- ann speaks at s, and bob at u where nothing else is said
abbrev pub ann : ℕ
ann = 0

abbrev pub bob : ℕ
bob = 1

abbrev pub names : KnownNames
names = record {
  scheme = record { ranks = codes "u" ∷ codes "s" ∷ []; categories = [] };
  subjects = codes "ann" ∷ codes "bob" ∷ [];
  documents = codes "memo" ∷ codes "note" ∷ [];
}

-- all may do all that the levels let them; both are cleared to s, ann is an administrator, and each is trusted or not
abbrev pub policy : (ann_trusted bob_trusted : Bool) → (bobs_level : SecurityLevel) → SecurityPolicy
policy ann_trusted bob_trusted bobs_level =
    with_modes (with_modes (with_modes (with_modes
    (with_document (with_document
    (with_subject (with_subject no_policy
    (record { greatest = s; current = s; trusted = ann_trusted; admin = true }))
    (record { greatest = s; current = bobs_level; trusted = bob_trusted; admin = false }))
    s) u)
    ann memo (record { 0 = 7 })) ann note (record { 0 = 7 })) bob memo (record { 0 = 7 })) bob note (record { 0 = 7 })

-- the memo and the note have these texts
abbrev pub with_texts : SecurityPolicy → (memo_text note_text : List ℕ) → Setup
with_texts p memo_text note_text = record { names = names; policy = p; contents = memo_text ∷ note_text ∷ []; version = Two }

-- the memo has this text, and the note `n`
abbrev pub with_memo : SecurityPolicy → List ℕ → Setup
with_memo p words = with_texts p words (codes "n")

-- two setups that differ in the memo agree on what is low
pub memos-agree : (version : Version) (ann_trusted bob_trusted : Bool) (bobs_level : SecurityLevel)
    → AgreeLow u (by_version version (with_memo (policy ann_trusted bob_trusted bobs_level) (codes "1")))
    (by_version version (with_memo (policy ann_trusted bob_trusted bobs_level) (codes "2")))
memos-agree version a b l = record { policy = refl; version = refl; contents = same }
  where
    same : (doc : ℕ) → is_low_document u (policy a b l) doc ≡ true → slice_index_or (codes "2" ∷ codes "n" ∷ []) doc [] ≡ slice_index_or (codes "1" ∷ codes "n" ∷ []) doc []
    same zero low = absurd (true≢false (sym low))
    same (suc doc) low = refl

-- ---- lines are read

-- the tokens of bytes, at most so many
abbrev first_token : Front → (List ℕ → List Tok) → List Tok
first_token nothing rest = []
first_token (token t more) rest = t ∷ rest more
first_token (broken from) rest = []

abbrev tokens_in : ℕ → List ℕ → List Tok
tokens_in zero bytes = []
tokens_in (suc most) bytes = first_token (front (past_blanks bytes)) (tokens_in most)

-- whether the bytes are tokens to their end
abbrev is_end : List ℕ → Bool
is_end [] = true
is_end (b ∷ bytes) = false

abbrev goes_on : Front → List ℕ → (List ℕ → Bool) → Bool
goes_on nothing bytes rest = is_end bytes
goes_on (token t more) bytes rest = rest more
goes_on (broken from) bytes rest = false

abbrev are_tokens : ℕ → List ℕ → Bool
are_tokens zero bytes = false
are_tokens (suc most) bytes = goes_on (front (past_blanks bytes)) (past_blanks bytes) (are_tokens most)

tokens_begin : (most : ℕ) (bytes : List ℕ) → are_tokens most bytes ≡ true → Begins bytes (tokens_in most bytes) []
tokens_begin zero bytes h = absurd (true≢false (sym h))
tokens_begin (suc most) bytes h = go (front (past_blanks bytes)) refl h (tokens_begin most)
  where
    ended : (rest : List ℕ) → is_end rest ≡ true → [] ≡ rest
    ended [] k = refl
    ended (b ∷ rest) k = absurd (true≢false (sym k))

    go : (f : Front) → front (past_blanks bytes) ≡ f → goes_on f (past_blanks bytes) (are_tokens most) ≡ true
        → ((rest : List ℕ) → are_tokens most rest ≡ true → Begins rest (tokens_in most rest) []) → Begins bytes (first_token f (tokens_in most)) []
    go nothing is k deeper = ended (past_blanks bytes) k
    go (token t more) is k deeper = (more, is, deeper more k)
    go (broken from) is k deeper = absurd (true≢false (sym k))

abbrev memo_name : List ℕ
memo_name = codes "memo"

abbrev note_name : List ℕ
note_name = codes "note"

is_memo : Contains names.documents memo_name
is_memo = (0, lit< tt, refl)

is_note : Contains names.documents note_name
is_note = (1, lit< tt, refl)

none_before : (name : List ℕ) → Contains [] name → ⊥
none_before name h = absurd (omega (arith, h.1))

abbrev first_byte : List ℕ → ℕ
first_byte [] = 0
first_byte (b ∷ bytes) = b

only_memo : Contains (memo_name ∷ []) note_name → ⊥
only_memo h = go h.0 h.1 h.2
  where
    go : (k : ℕ) → k < 1 → slice_index_or (memo_name ∷ []) k note_name ≡ note_name → ⊥
    go zero lt same = absurd (omega (arith, ap first_byte same))
    go (suc k) lt same = absurd (omega (arith, lt))

abbrev to_read : List ℕ → SpelledAccess
to_read name = record { mode = Read; document = name }

abbrev to_write : List ℕ → SpelledAccess
to_write name = record { mode = Write; document = name }

-- what a `when` asks
abbrev asks : SpelledAccess → List SpelledAccess → SpelledBody → Work
asks first more body = work.Behaviour (script_of names first more body)

-- `when read memo do show memo; end`
abbrev pub shows_memo : Work
shows_memo = asks (to_read memo_name) [] (spelled.show memo_name spelled.empty)

pub shows_memo_is_readable : IsReadable names shows_memo
shows_memo_is_readable = (
  codes "when read memo do show memo; end",
  record {
    short = lit≤ tt;
    spelled = grammar.when (to_read memo_name) [] (spelled.show memo_name spelled.empty);
    reads = tokens_begin 10 (codes "when read memo do show memo; end") refl;
    means = (
      record {
        shallow = lit≤ tt;
        few = record { whens = lit≤ tt; accesses = All-from_recursion HasFewAccesses ((to_read memo_name ∷ []) ∷ []) (lit≤ tt, tt) };
        known = All-from_recursion (Contains names.documents) (memo_name ∷ memo_name ∷ []) (is_memo, (is_memo, tt));
        once = All-from_recursion IsOnce (declarations_of_when (to_read memo_name) [] (spelled.show memo_name spelled.empty)) (none_before memo_name, tt);
        declared = All-from_recursion IsDeclared (uses_in (to_read memo_name ∷ []) (spelled.show memo_name spelled.empty)) (refl, tt);
      },
      refl,
    );
  },
)

-- `when read note do show note; end`
abbrev pub shows_note : Work
shows_note = asks (to_read note_name) [] (spelled.show note_name spelled.empty)

pub shows_note_is_readable : IsReadable names shows_note
shows_note_is_readable = (
  codes "when read note do show note; end",
  record {
    short = lit≤ tt;
    spelled = grammar.when (to_read note_name) [] (spelled.show note_name spelled.empty);
    reads = tokens_begin 10 (codes "when read note do show note; end") refl;
    means = (
      record {
        shallow = lit≤ tt;
        few = record { whens = lit≤ tt; accesses = All-from_recursion HasFewAccesses ((to_read note_name ∷ []) ∷ []) (lit≤ tt, tt) };
        known = All-from_recursion (Contains names.documents) (note_name ∷ note_name ∷ []) (is_note, (is_note, tt));
        once = All-from_recursion IsOnce (declarations_of_when (to_read note_name) [] (spelled.show note_name spelled.empty)) (none_before note_name, tt);
        declared = All-from_recursion IsDeclared (uses_in (to_read note_name ∷ []) (spelled.show note_name spelled.empty)) (refl, tt);
      },
      refl,
    );
  },
)

-- `when write note do set note "m"; end`
abbrev pub sets_note : Work
sets_note = asks (to_write note_name) [] (spelled.set note_name (codes "m") spelled.empty)

abbrev sets_note_text : List ℕ
sets_note_text = codes "when write note do set note " ++ 34 ∷ codes "m" ++ 34 ∷ codes "; end"

pub sets_note_is_readable : IsReadable names sets_note
sets_note_is_readable = (
  sets_note_text,
  record {
    short = lit≤ tt;
    spelled = grammar.when (to_write note_name) [] (spelled.set note_name (codes "m") spelled.empty);
    reads = tokens_begin 11 sets_note_text refl;
    means = (
      record {
        shallow = lit≤ tt;
        few = record { whens = lit≤ tt; accesses = All-from_recursion HasFewAccesses ((to_write note_name ∷ []) ∷ []) (lit≤ tt, tt) };
        known = All-from_recursion (Contains names.documents) (note_name ∷ note_name ∷ []) (is_note, (is_note, tt));
        once = All-from_recursion IsOnce (declarations_of_when (to_write note_name) [] (spelled.set note_name (codes "m") spelled.empty)) (none_before note_name, tt);
        declared = All-from_recursion IsDeclared (uses_in (to_write note_name ∷ []) (spelled.set note_name (codes "m") spelled.empty)) (refl, tt);
      },
      refl,
    );
  },
)

-- `when read memo, write note do copy memo to note; end`
abbrev pub copies_memo : Work
copies_memo = asks (to_read memo_name) (to_write note_name ∷ []) (spelled.copy memo_name note_name spelled.empty)

pub copies_memo_is_readable : IsReadable names copies_memo
copies_memo_is_readable = (
  codes "when read memo, write note do copy memo to note; end",
  record {
    short = lit≤ tt;
    spelled = grammar.when (to_read memo_name) (to_write note_name ∷ []) (spelled.copy memo_name note_name spelled.empty);
    reads = tokens_begin 20 (codes "when read memo, write note do copy memo to note; end") refl;
    means = (
      record {
        shallow = lit≤ tt;
        few = record { whens = lit≤ tt; accesses = All-from_recursion HasFewAccesses ((to_read memo_name ∷ to_write note_name ∷ []) ∷ []) (lit≤ tt, tt) };
        known = All-from_recursion (Contains names.documents) (memo_name ∷ note_name ∷ memo_name ∷ note_name ∷ []) (is_memo, (is_note, (is_memo, (is_note, tt))));
        once = All-from_recursion IsOnce (declarations_of_when (to_read memo_name) (to_write note_name ∷ []) (spelled.copy memo_name note_name spelled.empty)) (none_before memo_name, (only_memo, tt));
        declared = All-from_recursion IsDeclared (uses_in (to_read memo_name ∷ to_write note_name ∷ []) (spelled.copy memo_name note_name spelled.empty)) (refl, (refl, tt));
      },
      refl,
    );
  },
)

-- `when read memo do if memo is "1" then spawn when read note do say "yes"; end; else spawn when read note do end; end; end`
abbrev spawns : SpelledBody
spawns =
    spelled.if_else memo_name Is (codes "1")
    (spelled.spawn (to_read note_name) [] (spelled.say (codes "yes") spelled.empty) spelled.empty)
    (spelled.spawn (to_read note_name) [] spelled.empty spelled.empty) spelled.empty

abbrev pub chooses : Work
chooses = asks (to_read memo_name) [] spawns

abbrev chooses_text : List ℕ
chooses_text =
    codes "when read memo do if memo is " ++ 34 ∷ 49 ∷ 34 ∷ codes " then spawn when read note do say " ++ 34 ∷ codes "yes" ++ 34
    ∷ codes "; end; else spawn when read note do end; end; end"

pub chooses_is_readable : IsReadable names chooses
chooses_is_readable = (
  chooses_text,
  record {
    short = lit≤ tt;
    spelled = grammar.when (to_read memo_name) [] spawns;
    reads = tokens_begin 40 chooses_text refl;
    means = (
      record {
        shallow = lit≤ tt;
        few = record {
          whens = lit≤ tt;
          accesses = All-from_recursion HasFewAccesses ((to_read memo_name ∷ []) ∷ lists_in spawns) (lit≤ tt, (lit≤ tt, (lit≤ tt, tt)));
        };
        known = All-from_recursion (Contains names.documents) (names_of_when (to_read memo_name) [] spawns) (is_memo, (is_memo, (is_note, (is_note, tt))));
        once = All-from_recursion IsOnce (declarations_of_when (to_read memo_name) [] spawns) (none_before memo_name, (none_before note_name, (none_before note_name, tt)));
        declared = All-from_recursion IsDeclared (uses_in (to_read memo_name ∷ []) spawns) (refl, tt);
      },
      refl,
    );
  },
)

-- `when read memo do spawn when write note do show note; end; end`
abbrev spawns_show : SpelledBody
spawns_show = spelled.spawn (to_write note_name) [] (spelled.show note_name spelled.empty) spelled.empty

abbrev pub shows_later : Work
shows_later = asks (to_read memo_name) [] spawns_show

pub shows_later_is_readable : IsReadable names shows_later
shows_later_is_readable = (
  codes "when read memo do spawn when write note do show note; end; end",
  record {
    short = lit≤ tt;
    spelled = grammar.when (to_read memo_name) [] spawns_show;
    reads = tokens_begin 20 (codes "when read memo do spawn when write note do show note; end; end") refl;
    means = (
      record {
        shallow = lit≤ tt;
        few = record {
          whens = lit≤ tt;
          accesses = All-from_recursion HasFewAccesses ((to_read memo_name ∷ []) ∷ lists_in spawns_show) (lit≤ tt, (lit≤ tt, tt));
        };
        known = All-from_recursion (Contains names.documents) (names_of_when (to_read memo_name) [] spawns_show) (is_memo, (is_note, (is_note, tt)));
        once = All-from_recursion IsOnce (declarations_of_when (to_read memo_name) [] spawns_show) (none_before memo_name, (none_before note_name, tt));
        declared = All-from_recursion IsDeclared (uses_in (to_read memo_name ∷ []) spawns_show) (refl, tt);
      },
      refl,
    );
  },
)

-- ---- rules are read

abbrev u_text : LevelText
u_text = record { rank = codes "u"; categories = [] }

-- the text `u` means that level
u_is_meant : of_level.Means names.scheme u_text u
u_is_meant = record {
  rank = refl;
  known = All-nil (Contains names.scheme.categories);
  distinct = λ i j d lt within. absurd (omega (arith, lt, within));
  categories = λ k. (λ h. absurd (omega (arith, h, bit_at-zero k)), λ named. absurd (omega (arith, named.1.1)));
}

-- `current u`
abbrev pub comes_to_u : Work
comes_to_u = work.Rule (Current u)

pub comes_to_u_is_readable : IsReadable names comes_to_u
comes_to_u_is_readable = (
  codes "current u",
  record { short = lit≤ tt; spelled = grammar.rule (current u_text); reads = tokens_begin 5 (codes "current u") refl; means = u_is_meant },
)

-- `classify memo u`
abbrev pub declassifies_memo : Work
declassifies_memo = work.Rule (Classify memo u)

pub declassifies_memo_is_readable : IsReadable names declassifies_memo
declassifies_memo_is_readable = (
  codes "classify memo u",
  record {
    short = lit≤ tt;
    spelled = grammar.rule (classify memo_name u_text);
    reads = tokens_begin 5 (codes "classify memo u") refl;
    means = (refl, u_is_meant);
  },
)

-- `rescind bob note r`
abbrev pub rescinds_note : Work
rescinds_note = work.Rule (Rescind bob note Read)

pub rescinds_note_is_readable : IsReadable names rescinds_note
rescinds_note_is_readable = (
  codes "rescind bob note r",
  record {
    short = lit≤ tt;
    spelled = grammar.rule (rescind (codes "bob") note_name Read);
    reads = tokens_begin 6 (codes "rescind bob note r") refl;
    means = (refl, refl, refl);
  },
)

-- ---- tests of each place

-- both of two tests pass
both_true : (a b : Bool) → (a && b) ≡ true → (a ≡ true) × (b ≡ true)
both_true true b h = (refl, h)
both_true false b h = absurd (true≢false (sym h))

-- the test passes of each number below n
abbrev all_below : (ℕ → Bool) → ℕ → Bool
all_below test zero = true
all_below test (suc n) = test n && all_below test n

each_below : (test : ℕ → Bool) (n m : ℕ) → m < n → all_below test n ≡ true → test m ≡ true
each_below test zero m below passes = absurd (omega (arith, below))
each_below test (suc n) m below passes = go (less_or_equal m n below) (λ lt. each_below test n m lt (both_true (test n) (all_below test n) passes).1)
  where
    go : (m < n) ⊎ (m ≡ n) → (m < n → test m ≡ true) → test m ≡ true
    go (inl lt) deeper = deeper lt
    go (inr same) deeper = ap test same ∙ (both_true (test n) (all_below test n) passes).0

-- the next place may start, where all before it have ended
pub next_may_start : (x : State) (n : ℕ) → n < length x.order → is_waiting (phase_at x n) ≡ true → all_below (has_ended x) n ≡ true → MayStart x n
next_may_start x n lt waits ended = record { there = lt; waits = waits; clear = λ m below conflicts. each_below (has_ended x) n m below ended }

-- the subject of a place is not trusted at first
abbrev is_untrusted_at : History → ℕ → Bool
is_untrusted_at h n = not (is_trusted h.setup.policy (place_in h n).subject)

-- the place changes no level
abbrev levels_stay_at : History → ℕ → Bool
levels_stay_at h n = not (changes_a_level (place_in h n).task)

-- no trusted subject speaks where the test passes of each place
pub untrusted_by_test : (h : History) → all_below (is_untrusted_at h) (length h.order) ≡ true → IsUntrusted h
untrusted_by_test h untrusted n below = not-true (is_trusted h.setup.policy (place_in h n).subject) (each_below (is_untrusted_at h) (length h.order) n below untrusted)

-- a history is plain where both tests pass of each place
pub plain_by_tests : (h : History) → all_below (is_untrusted_at h) (length h.order) ≡ true → all_below (levels_stay_at h) (length h.order) ≡ true → IsPlain h
plain_by_tests h untrusted stay = record {
  untrusted = untrusted_by_test h untrusted;
  levels_stay = λ n below. not-true (changes_a_level (place_in h n).task) (each_below (levels_stay_at h) (length h.order) n below stay);
}

-- ---- where trails lead

-- where the events lead from a setup
abbrev pub after : Setup → List Event → State
after setup events = state_after (start setup 10000) events

pub reached : (setup : Setup) (events : List Event) → IsTrail (start setup 10000) events → IsReached (after setup events)
reached setup events trail = record { setup = setup; limit = 10000; events = events; trail = trail; leads = refl }

-- the first byte that an answer shows, or 0
abbrev pub first_shown : Answer → ℕ
first_shown (Done []) = 0
first_shown (Done ([] ∷ more)) = 0
first_shown (Done ((b ∷ bytes) ∷ more)) = b
first_shown RuleDone = 0
first_shown (Denied denial) = 0
first_shown Lost = 0
