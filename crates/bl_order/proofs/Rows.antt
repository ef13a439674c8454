-- The worked examples, computed from the definitions alone.
use Rattle.std.proofs.Common.{ℕ, arith, lit<, lit≤}
use Rattle.std.specs.Prelude.{◌≡◌, ◌==◌, Bool, true, false, List, [], ◌∷◌, ◌++◌, map, refl, None, Contains, codes}
use Rattle.std.proofs.lemmas.List.Elements.{All-from_recursion}
use Rattle.bl_level.specs.Lexing.{Front, nothing, token, broken, front, past_blanks, Begins}
use Rattle.bl_level.specs.Token.{Tok}
use Rattle.bl_policy.specs.declared.access.Mode.TheVariants.{Read, Append, Write}
use Rattle.bl_policy.specs.declared.denial.Clause.TheVariants.{Absent, Simple, Star, Discretionary, Admin, Trusted, Greatest, Present}
use Rattle.bl_policy.specs.declared.rule.Rule.TheVariants.{Give, Rescind, Current, Classify, Create, Delete}
use Rattle.bl_policy.specs.Policy.{allows}
use Rattle.bl_work.specs.declared.script.Condition.TheVariants.{Is, Has}
use Rattle.bl_work.specs.Content.{added}
use Rattle.bl_work.specs.FirstWhenFault.{HasFewAccesses}
use Rattle.bl_work.specs.Grammar as grammar
use Rattle.bl_work.specs.Grammar.{SpelledLine, spell}
use Rattle.bl_work.specs.Readable.{IsReadable}
use Rattle.bl_work.specs.Spelled as spelled
use Rattle.bl_work.specs.Spelled.{SpelledAccess, SpelledBody}
use Rattle.bl_work.specs.Statements.{Nothing, Show, Say, Add, Set, Pour, If, Spawn}
use Rattle.bl_work.specs.WhenFaults.{lists_in, names_of_when, IsOnce, declarations_of_when, IsDeclared, uses_in}
use Rattle.bl_work.specs.declared.work.Work.{Work}
use Rattle.bl_work.specs.declared.work.Work.TheVariants as work
use Rattle.bl_work.specs.declared.answer.Answer.{Answer}
use Rattle.bl_work.specs.declared.answer.Answer.TheVariants.{Done, RuleDone, Denied, Lost}
use Rattle.bl_order.specs.Order.{Entry, Child}
use Rattle.bl_order.specs.Past.{place, policy_before, content_before}
use Rattle.bl_order.specs.Machine.{State, Event, IsTrail, Opens, Admits, Starts, Ends, Loses, start, state_after, may_start, past_at, has_ended, held, weight_of}
use Rattle.bl_order.specs.Now.{content_now}
use Rattle.bl_order.specs.Room.{all_to_come}
use Rattle.bl_order.proofs.PlaceLaws.{may_start-is}
use Rattle.bl_order.proofs.Base.{base, names, with_dan, with_reserves, ann, bob, cat, root, dan, memo, note, log, draft, top, u, c, s, t, s_nato, m1, n1, access, behaves, when, reads, lines, asks, rules, answer_at, denied_for}

-- ---- decisions on accesses

read-one : answer_at (lines ann (reads memo ∷ [])) 0 ≡ Done (m1 ∷ [])
read-one = refl

read-without-line-end : answer_at (lines ann (reads note ∷ [])) 0 ≡ Done (n1 ∷ [])
read-without-line-end = refl

write-needs-equal-levels : answer_at (lines ann (when (access Write note ∷ []) Nothing ∷ [])) 0 ≡ denied_for Star ann note
write-needs-equal-levels = refl

star-uses-current-level : answer_at (lines bob (reads memo ∷ [])) 0 ≡ denied_for Star bob memo
star-uses-current-level = refl

simple-named-before-star : answer_at (lines ann (reads log ∷ [])) 0 ≡ denied_for Simple ann log
simple-named-before-star = refl

trusted-still-needs-the-matrix : answer_at (lines root (reads memo ∷ [])) 0 ≡ denied_for Discretionary root memo
trusted-still-needs-the-matrix = refl

other-category-denied : answer_at (lines cat (reads memo ∷ [])) 0 ≡ denied_for Simple cat memo
other-category-denied = refl

-- an answer of each of the first two places
answers : List Entry → List Answer
answers order = map (answer_at order) (0 ∷ 1 ∷ [])

denial-changes-nothing :
    answers (lines ann (when (access Write memo ∷ access Write note ∷ []) (Set memo (122 ∷ []) Nothing) ∷ reads memo ∷ []))
    ≡ denied_for Star ann note ∷ Done (m1 ∷ []) ∷ []
unfolding added answers
denial-changes-nothing = refl

-- ---- rules that change the policy

-- an answer of each of the first four places
four_answers : List Entry → List Answer
four_answers order = map (answer_at order) (0 ∷ 1 ∷ 2 ∷ 3 ∷ [])

rules-and-their-checks :
    four_answers (rules ann (Give cat memo Read) ∷ rules ann (Current s) ∷ rules ann (Current t) ∷ asks ann (when (access Write memo ∷ []) Nothing) ∷ [])
    ≡ denied_for Admin ann memo ∷ RuleDone ∷ Denied (record { clause = Greatest; subject = ann; object = None }) ∷ denied_for Star ann memo ∷ []
unfolding four_answers
rules-and-their-checks = refl

rescind-between-reads :
    map (answer_at (asks ann (reads memo) ∷ rules root (Rescind ann memo Read) ∷ asks ann (reads memo) ∷ [])) (0 ∷ 1 ∷ 2 ∷ [])
    ≡ Done (m1 ∷ []) ∷ RuleDone ∷ denied_for Discretionary ann memo ∷ []
rescind-between-reads = refl

-- the same, where the rule is lost
lost-rule-changes-nothing :
    map (λ n. (place base (λ k. k == 1) (asks ann (reads memo) ∷ rules root (Rescind ann memo Read) ∷ asks ann (reads memo) ∷ []) n).answer) (0 ∷ 1 ∷ 2 ∷ [])
    ≡ Done (m1 ∷ []) ∷ Lost ∷ Done (m1 ∷ []) ∷ []
lost-rule-changes-nothing = refl

appends_b : Work
appends_b = when (access Append memo ∷ []) (Add memo (98 ∷ []) Nothing)

raises_and_appends : List Entry
raises_and_appends = rules bob (Current s_nato) ∷ asks bob appends_b ∷ rules root (Rescind bob memo Append) ∷ asks bob appends_b ∷ []

write-does-not-stand-for-append : four_answers raises_and_appends ≡ RuleDone ∷ Done [] ∷ RuleDone ∷ denied_for Discretionary bob memo ∷ []
unfolding four_answers raises_and_appends appends_b
write-does-not-stand-for-append = refl

write-does-not-stand-for-append-memo : content_before base (λ n. false) raises_and_appends memo 4 ≡ m1 ++ 98 ∷ []
unfolding added raises_and_appends appends_b
write-does-not-stand-for-append-memo = refl

write-does-not-stand-for-append-cell :
    map (allows (policy_before base (λ n. false) raises_and_appends 4) bob memo) (Read ∷ Append ∷ Write ∷ []) ≡ true ∷ false ∷ true ∷ []
unfolding raises_and_appends appends_b
write-does-not-stand-for-append-cell = refl

classify-needs-trust :
    map (λ n. (place with_dan (λ k. false)
    (rules dan (Classify note c) ∷ rules dan (Give cat note Read) ∷ rules root (Classify note c) ∷ asks bob (reads note) ∷ []) n).answer) (0 ∷ 1 ∷ 2 ∷ 3 ∷ [])
    ≡ denied_for Trusted dan note ∷ RuleDone ∷ RuleDone ∷ denied_for Star bob note ∷ []
classify-needs-trust = refl

-- ---- scripts and contents, on the machine

-- where the events lead from the base setup
after_all : List Event → State
after_all events = state_after (start base 10000) events

append-upward :
    content_now (after_all (Opens ann ∷ Admits 0 1 (when (access Append log ∷ []) (Add log (120 ∷ []) Nothing)) ∷ Starts 0 ∷ Ends 0 ∷ [])) log
    ≡ 120 ∷ []
unfolding added after_all
append-upward = refl

chooses : Work
chooses =
    when (access Read note ∷ access Write memo ∷ [])
    (If note Is n1 (Pour note memo Nothing) (Set memo (110 ∷ 111 ∷ []) Nothing)
    (Show memo (If memo Has (49 ∷ 110 ∷ []) (Say (121 ∷ 101 ∷ 115 ∷ []) Nothing) Nothing Nothing)))

choose-and-pour : answer_at (lines ann (chooses ∷ [])) 0 ≡ Done ((m1 ++ n1) ∷ (121 ∷ 101 ∷ 115 ∷ []) ∷ [])
unfolding added chooses
choose-and-pour = refl

-- ---- documents that come and go

writes_and_deletes : List Entry
writes_and_deletes =
    asks ann (when (access Write memo ∷ []) (Add memo (97 ∷ []) Nothing)) ∷ rules root (Delete memo) ∷ rules root (Create memo)
    ∷ rules root (Give ann memo Read) ∷ asks ann (reads memo) ∷ []

delete-empties-content : map (answer_at writes_and_deletes) (0 ∷ 1 ∷ 2 ∷ 3 ∷ 4 ∷ []) ≡ Done [] ∷ RuleDone ∷ RuleDone ∷ RuleDone ∷ Done ([] ∷ []) ∷ []
unfolding added writes_and_deletes
delete-empties-content = refl

-- the same, where the rule is lost
lost-delete-changes-nothing :
    map (λ n. (place base (λ k. k == 1) writes_and_deletes n).answer) (0 ∷ 1 ∷ 2 ∷ 3 ∷ 4 ∷ [])
    ≡ Done [] ∷ Lost ∷ denied_for Present root memo ∷ RuleDone ∷ Done ((m1 ++ 97 ∷ []) ∷ []) ∷ []
unfolding added writes_and_deletes
lost-delete-changes-nothing = refl

-- what each of the places of root is answered, where two documents are reserved
root_is_told : List Entry → List ℕ → List Answer
root_is_told order = map (λ n. (place with_reserves (λ k. false) order n).answer)

create-use-delete :
    root_is_told
    (rules root (Create draft) ∷ rules root (Create draft) ∷ rules root (Give root draft Write)
    ∷ asks root (when (access Write draft ∷ []) (Set draft (100 ∷ []) (Show draft Nothing))) ∷ rules root (Delete draft) ∷ asks root (reads draft)
    ∷ rules root (Create draft) ∷ asks root (when (access Write draft ∷ []) Nothing) ∷ rules root (Give root draft Read) ∷ asks root (reads draft)
    ∷ rules root (Delete top) ∷ [])
    (0 ∷ 1 ∷ 2 ∷ 3 ∷ 4 ∷ 5 ∷ 6 ∷ 7 ∷ 8 ∷ 9 ∷ 10 ∷ [])
    ≡ RuleDone ∷ denied_for Present root draft ∷ RuleDone ∷ Done ((100 ∷ []) ∷ []) ∷ RuleDone ∷ denied_for Absent root draft ∷ RuleDone
    ∷ denied_for Discretionary root draft ∷ RuleDone ∷ Done ([] ∷ []) ∷ denied_for Absent root top ∷ []
unfolding root_is_told
create-use-delete = refl

absent-named-first :
    map (λ n. (place with_reserves (λ k. false) (asks ann (reads top) ∷ rules ann (Delete memo) ∷ []) n).answer) (0 ∷ 1 ∷ [])
    ≡ denied_for Absent ann top ∷ denied_for Admin ann memo ∷ []
absent-named-first = refl

-- ---- children, and who may start

adds_a : Work
adds_a =
    work.Behaviour (
    behaves (access Write memo ∷ []) (Add memo (97 ∷ []) (Spawn 1 Nothing)) ∷ behaves (access Read memo ∷ []) (Show memo Nothing) ∷ [])

adds_b : Work
adds_b = when (access Write memo ∷ []) (Add memo (98 ∷ []) Nothing)

-- one worker: both lines are admitted before the first one runs
one_worker : List Event
one_worker = Opens ann ∷ Admits 0 1 adds_a ∷ Admits 0 2 adds_b ∷ Starts 0 ∷ Ends 0 ∷ Starts 1 ∷ Ends 1 ∷ Starts 2 ∷ Ends 2 ∷ []

child-enters-after-admitted-line : (after_all one_worker).order ≡ lines ann (adds_a ∷ adds_b ∷ []) ++ Child 0 1 ∷ []
unfolding added adds_a adds_b one_worker after_all
child-enters-after-admitted-line = refl

child-enters-after-admitted-line-answers :
    map (λ n. (past_at (after_all one_worker) n).answer) (0 ∷ 1 ∷ 2 ∷ [])
    ≡ Done [] ∷ Done [] ∷ Done ((m1 ++ 97 ∷ 98 ∷ []) ∷ []) ∷ []
unfolding added adds_a adds_b one_worker after_all
child-enters-after-admitted-line-answers = refl

-- ann reads memo, writes memo, reads memo, reads note; root changes its current level
five_lines : List Event
five_lines =
    Opens ann ∷ Opens root ∷ Admits 0 1 (reads memo) ∷ Admits 0 2 (when (access Write memo ∷ []) Nothing) ∷ Admits 0 3 (reads memo)
    ∷ Admits 0 4 (reads note) ∷ Admits 1 1 (work.Rule (Current u)) ∷ []

may : List Event → List Bool
may events = map (may_start (after_all (five_lines ++ events))) (0 ∷ 1 ∷ 2 ∷ 3 ∷ 4 ∷ [])

who-may-start : may [] ≡ true ∷ false ∷ false ∷ true ∷ false ∷ []
unfolding added may five_lines after_all
who-may-start = refl

who-may-start-after-0 : may (Starts 0 ∷ Ends 0 ∷ []) ≡ false ∷ true ∷ false ∷ true ∷ false ∷ []
unfolding added may five_lines after_all
who-may-start-after-0 = refl

who-may-start-after-1-and-3 : may (Starts 0 ∷ Ends 0 ∷ Starts 1 ∷ Starts 3 ∷ Ends 3 ∷ Ends 1 ∷ []) ≡ false ∷ false ∷ true ∷ false ∷ false ∷ []
unfolding added may five_lines after_all
who-may-start-after-1-and-3 = refl

who-may-start-after-2 :
    may (Starts 0 ∷ Ends 0 ∷ Starts 1 ∷ Starts 3 ∷ Ends 3 ∷ Ends 1 ∷ Starts 2 ∷ Ends 2 ∷ []) ≡ false ∷ false ∷ false ∷ false ∷ true ∷ []
unfolding added may five_lines after_all
who-may-start-after-2 = refl

-- a rule ends at its start, and weighs one
rule-ends-at-its-start : map (λ (x : State). has_ended x 0) (after_all (Opens root ∷ Admits 0 1 (work.Rule (Current u)) ∷ Starts 0 ∷ []) ∷ []) ≡ true ∷ []
unfolding after_all
rule-ends-at-its-start = refl

rule-weighs-one : map weight_of (work.Rule (Current u) ∷ reads memo ∷ adds_a ∷ []) ≡ 1 ∷ 1 ∷ 2 ∷ []
unfolding adds_a
rule-weighs-one = refl

-- two readers of one document run together, and each access is held once
two-sessions-read-together :
    held (after_all (Opens ann ∷ Opens ann ∷ Admits 0 1 (reads memo) ∷ Admits 1 1 (reads memo) ∷ Starts 0 ∷ Starts 1 ∷ []))
    ≡ record { subject = ann; doc = memo; mode = Read } ∷ record { subject = ann; doc = memo; mode = Read } ∷ []
unfolding added after_all
two-sessions-read-together = refl

-- a lost place answers so, and changes nothing
starved-and-lost :
    map (λ n. (past_at (after_all (Opens ann ∷ Admits 0 1 adds_a ∷ Admits 0 2 (reads memo) ∷ Starts 0 ∷ Loses 0 ∷ Starts 1 ∷ Ends 1 ∷ [])) n).answer) (0 ∷ 1 ∷ [])
    ≡ Lost ∷ Done (m1 ∷ []) ∷ []
unfolding added adds_a after_all
starved-and-lost = refl

-- a reader may start beside a running one, and a writer may not
beside : Work → Bool
beside w = may_start (after_all (Opens ann ∷ Opens ann ∷ Admits 0 1 (reads memo) ∷ Admits 1 1 w ∷ Starts 0 ∷ [])) 1

two-sessions-read-together-may : map beside (reads memo ∷ when (access Write memo ∷ []) Nothing ∷ when (access Append memo ∷ []) Nothing ∷ []) ≡ true ∷ false ∷ false ∷ []
unfolding added beside after_all
two-sessions-read-together-may = refl

-- what is denied ends at its start
denied-ends-at-its-start : map (λ (x : State). has_ended x 0) (after_all (Opens bob ∷ Admits 0 1 (reads memo) ∷ Starts 0 ∷ []) ∷ after_all (Opens ann ∷ Admits 0 1 (reads memo) ∷ Starts 0 ∷ []) ∷ []) ≡ true ∷ false ∷ []
unfolding added after_all
denied-ends-at-its-start = refl

-- a line's place may come with one that it spawns, and once both have ended nothing is to come
one-to-come : map all_to_come (after_all (Opens ann ∷ Admits 0 1 adds_a ∷ []) ∷ after_all one_worker ∷ []) ≡ 1 ∷ 0 ∷ []
unfolding added adds_a adds_b one_worker after_all
one-to-come = refl

-- ---- a trail

-- what stands behind the token at the front
behind : Front → List ℕ
behind nothing = []
behind (token t more) = more
behind (broken from) = []

abbrev tail_of : List ℕ → List ℕ
tail_of bytes = behind (front (past_blanks bytes))

-- the bytes are these tokens, one after another
abbrev AreTokens : List ℕ → List Tok → Type 0
AreTokens bytes [] = [] ≡ past_blanks bytes
AreTokens bytes (t ∷ ts) = (front (past_blanks bytes) ≡ token t (tail_of bytes)) × AreTokens (tail_of bytes) ts

tokens_begin : (bytes : List ℕ) (ts : List Tok) → AreTokens bytes ts → Begins bytes ts []
tokens_begin bytes [] h = h
tokens_begin bytes (t ∷ ts) h = (tail_of bytes, h.0, tokens_begin (tail_of bytes) ts h.1)

abbrev memo_name : List ℕ
memo_name = codes "memo"

is_memo : Contains names.documents memo_name
is_memo = (0, lit< tt, refl)

none_before : Contains [] memo_name → ⊥
none_before h = absurd (omega (arith, h.1))

abbrev reads_memo : SpelledAccess
reads_memo = record { mode = Read; document = memo_name }

abbrev writes_memo : SpelledAccess
writes_memo = record { mode = Write; document = memo_name }

-- `when write memo do add memo "a"; spawn when read memo do show memo; end; end`
abbrev adds_a_text : List ℕ
adds_a_text = codes "when write memo do add memo " ++ 34 ∷ 97 ∷ 34 ∷ codes "; spawn when read memo do show memo; end; end"

abbrev adds_a_body : SpelledBody
adds_a_body = spelled.add memo_name (97 ∷ []) (spelled.spawn reads_memo [] (spelled.show memo_name spelled.empty) spelled.empty)

abbrev adds_a_line : SpelledLine
adds_a_line = grammar.when writes_memo [] adds_a_body

adds_a_is_readable : IsReadable names adds_a
unfolding adds_a behind
adds_a_is_readable = (
  adds_a_text,
  record {
    short = lit≤ tt;
    spelled = adds_a_line;
    reads = tokens_begin adds_a_text (spell adds_a_line) (refl, (refl, (refl, (refl, (refl, (refl, (refl, (refl, (refl, (refl, (refl, (refl, (refl, (refl, (refl, (refl, (refl, (refl, (refl, refl)))))))))))))))))));
    means = (
      record {
        shallow = lit≤ tt;
        few = record { whens = lit≤ tt; accesses = All-from_recursion HasFewAccesses ((writes_memo ∷ []) ∷ lists_in adds_a_body) (lit≤ tt, (lit≤ tt, tt)) };
        known = All-from_recursion (Contains names.documents) (names_of_when writes_memo [] adds_a_body) (is_memo, (is_memo, (is_memo, (is_memo, tt))));
        once = All-from_recursion IsOnce (declarations_of_when writes_memo [] adds_a_body) (none_before, (none_before, tt));
        declared = All-from_recursion IsDeclared (uses_in (writes_memo ∷ []) adds_a_body) (refl, (refl, tt));
      },
      refl,
    );
  },
)

-- `when write memo do add memo "b"; end`
abbrev adds_b_text : List ℕ
adds_b_text = codes "when write memo do add memo " ++ 34 ∷ 98 ∷ 34 ∷ codes "; end"

abbrev adds_b_body : SpelledBody
adds_b_body = spelled.add memo_name (98 ∷ []) spelled.empty

abbrev adds_b_line : SpelledLine
adds_b_line = grammar.when writes_memo [] adds_b_body

adds_b_is_readable : IsReadable names adds_b
unfolding adds_b behind
adds_b_is_readable = (
  adds_b_text,
  record {
    short = lit≤ tt;
    spelled = adds_b_line;
    reads = tokens_begin adds_b_text (spell adds_b_line) (refl, (refl, (refl, (refl, (refl, (refl, (refl, (refl, (refl, refl)))))))));
    means = (
      record {
        shallow = lit≤ tt;
        few = record { whens = lit≤ tt; accesses = All-from_recursion HasFewAccesses ((writes_memo ∷ []) ∷ lists_in adds_b_body) (lit≤ tt, tt) };
        known = All-from_recursion (Contains names.documents) (names_of_when writes_memo [] adds_b_body) (is_memo, (is_memo, tt));
        once = All-from_recursion IsOnce (declarations_of_when writes_memo [] adds_b_body) (none_before, tt);
        declared = All-from_recursion IsDeclared (uses_in (writes_memo ∷ []) adds_b_body) (refl, tt);
      },
      refl,
    );
  },
)

-- the events of the first example of children are a trail, so a state is reached in which a child has run
one_worker-is-a-trail : IsTrail (start base 10000) one_worker
unfolding adds_a adds_b one_worker
one_worker-is-a-trail = (
  (lit< tt, lit< tt),
  (
    (lit< tt, adds_a_is_readable, lit< tt, lit< tt, lit≤ tt),
    (
      (lit< tt, adds_b_is_readable, lit< tt, lit< tt, lit≤ tt),
      ((may_start-is _ 0).0 refl, (refl, ((may_start-is _ 1).0 refl, (refl, ((may_start-is _ 2).0 refl, (refl, tt)))))),
    ),
  ),
)
