-- What is written for the lines that a session told is a transcript of them, by all that its pass has seen.
use Rattle.std.proofs.Common.{◌≡◌, ℕ, ◌+◌, ◌<◌, ◌≤◌, Bool, true, false, List, [], ◌∷◌, ◌++◌, length, refl, sym, ap, subst, ◌∙◌, arith, append-nil, drop, replicate, filter, zero, suc, inl, inr, true≢false}
use Rattle.std.specs.Prelude.{All, codes}
use Rattle.std.proofs.Math.Seq.{drop-append_seam}
use Rattle.std.proofs.lemmas.List.Elements.{All-head, All-tail}
use Rattle.bl_work.specs.Names.{KnownNames}
use Rattle.bl_work.specs.declared.work.Work.{Work}
use Rattle.bl_order.specs.Machine.{most_sessions, weight_of, start}
use Rattle.bl_order.specs.Room.{admitted_weight}
use Rattle.bl_hall.specs.Chronicle.{HasTrail}
use Rattle.bl_gate.specs.Gates.{PassView, hall_seen, state_seen}
use Rattle.bl_wire.specs.declared.turn.Turn.{Turn}
use Rattle.bl_wire.specs.declared.turn.Turn.TheVariants.{Skip, Wait, Greets, Bad, Ask}
use Rattle.bl_wire.specs.Replies.{line_text}
use Rattle.bl_wire.specs.Texts.{text_of, session_text, refusal, fault_words, ok_line, bye_line}
use Rattle.bl_wire.specs.Turns.{IsOpening}
use Rattle.bl_engine.specs.declared.request.Request.TheVariants as request
use Rattle.bl_engine.specs.declared.request.Request.{Request}
use Rattle.bl_engine.specs.Requests.{SameUpTo, told_of, told_by}
use Rattle.bl_engine.specs.Outcome.{refused_sessions}
use Rattle.bl_session.specs.Transcripts.{IsTranscript, Talks, asked_after, has_ordinal}
use Rattle.bl_serve.specs.Courses.{HasNoSettles, IsCovered, IsAnswered, IsCourse, SpeaksAlone, StandAt, Course, asked_in}
use Rattle.bl_serve.proofs.Admitted.{asked_more}
use Rattle.bl_serve.proofs.Opened.{sessions_within}

-- ---- what is told and what is asked

-- what lines tell asks their works
told_asks : (k : ℕ) (turns : List Turn) → asked_in (told_of k turns) ≡ asked_after k turns
told_asks k [] = refl
told_asks k (Skip ∷ turns) = told_asks k turns
told_asks k (Wait ∷ turns) = told_asks k turns
told_asks k (Greets u ∷ turns) = told_asks (k + 1) turns
told_asks k (Bad fault ∷ turns) = told_asks (k + 1) turns
told_asks k (Ask work ∷ turns) = ap (λ l. (k + 1, work) ∷ l) (told_asks (k + 1) turns)

settles_ask_nothing : (n : ℕ) → asked_in (replicate n request.Settles) ≡ []
settles_ask_nothing zero = refl
settles_ask_nothing (suc n) = settles_ask_nothing n

-- whether the last request settles
abbrev settles_last : List Request → Bool
settles_last [] = false
settles_last (request.Opens u ∷ []) = false
settles_last (request.Admits k w ∷ []) = false
settles_last (request.Settles ∷ []) = true
settles_last (r ∷ s ∷ told) = settles_last (s ∷ told)

last_settles : (told : List Request) → settles_last (told ++ request.Settles ∷ []) ≡ true
last_settles [] = refl
last_settles (r ∷ []) = refl
last_settles (r ∷ s ∷ told) = last_settles (s ∷ told)

not_last : (done : List Request) (r : Request) (rest : List Request) → HasNoSettles (r ∷ rest) → settles_last (done ++ r ∷ rest) ≡ false
not_last [] (request.Opens u) [] none = refl
not_last [] (request.Admits k w) [] none = refl
not_last [] (request.Settles) [] none = absurd none
not_last [] (request.Opens u) (s ∷ rest) none = not_last [] s rest none
not_last [] (request.Admits k w) (s ∷ rest) none = not_last [] s rest none
not_last [] (request.Settles) (s ∷ rest) none = absurd none
not_last (d ∷ []) r rest none = not_last [] r rest none
not_last (d ∷ e ∷ done) r rest none = not_last (e ∷ done) r rest none

-- where settling comes last, all works that were asked are covered
all_covered : (upto : ℕ) (told front : List Request) → told ≡ front ++ request.Settles ∷ [] → IsCovered upto told → All (λ (a : ℕ × Work). a.0 ≤ upto) (asked_in told)
all_covered upto told front is c = go c.rest c.split c.unsettled
  where
    go : (rest : List Request) → told ≡ c.done ++ rest → HasNoSettles rest → All (λ (a : ℕ × Work). a.0 ≤ upto) (asked_in told)
    go [] split none = subst (λ (l : List Request). All (λ (a : ℕ × Work). a.0 ≤ upto) (asked_in l)) (sym (split ∙ append-nil c.done)) c.low
    go (r ∷ rest) split none = absurd (true≢false (sym (ap settles_last is ∙ last_settles front) ∙ (ap settles_last split ∙ not_last c.done r rest none)))

-- the same replies make the same text
same_text : (f g : ℕ → List ℕ) (upto : ℕ) (turns : List Turn) (k : ℕ) → SameUpTo upto f g → All (λ (a : ℕ × Work). a.0 ≤ upto) (asked_after k turns) → text_of f k turns ≡ text_of g k turns
same_text f g upto [] k same low = refl
same_text f g upto (Skip ∷ turns) k same low = same_text f g upto turns k same low
same_text f g upto (Wait ∷ turns) k same low = ap (λ l. ok_line ++ l) (same_text f g upto turns k same low)
same_text f g upto (Greets u ∷ turns) k same low = ap (λ l. refusal (k + 1) (codes "hello") ++ l) (same_text f g upto turns (k + 1) same low)
same_text f g upto (Bad fault ∷ turns) k same low = ap (λ l. refusal (k + 1) (fault_words fault) ++ l) (same_text f g upto turns (k + 1) same low)
same_text f g upto (Ask work ∷ turns) k same low =
    ap (λ l. l ++ text_of f (k + 1) turns) (sym (same (k + 1) (All-head (λ (a : ℕ × Work). a.0 ≤ upto) (k + 1, work) (asked_after (k + 1) turns) low)))
    ∙ ap (λ l. g (k + 1) ++ l) (same_text f g upto turns (k + 1) same (All-tail (λ (a : ℕ × Work). a.0 ≤ upto) (k + 1, work) (asked_after (k + 1) turns) low))

abbrev opened_by : Request → ℕ
opened_by (request.Opens u) = u
opened_by (request.Admits k w) = 0
opened_by request.Settles = 0

abbrev first_subject : List Request → ℕ
first_subject [] = 0
first_subject (r ∷ told) = opened_by r

-- ---- the session that was opened

module _ (names : KnownNames) (first q : PassView) (course : Course) (told : List Request) (t : IsCourse names first q course told) where
  pub gained_is : drop (length first.own) q.own ≡ t.gained
  gained_is = ap (drop (length first.own)) t.own ∙ drop-append_seam first.own t.gained

-- ---- the transcript

module _ (names : KnownNames) (first q : PassView) (course : Course) (told : List Request) (t : IsCourse names first q course told) (is : names ≡ q.gate.base.setup.names) (alone : SpeaksAlone first q course.session) where
  pub heard : IsAnswered q course.session course.upto t.works course.replies
  heard = t.answered is (subst (λ (l : List ℕ). StandAt l course.session q.seen) (gained_is names first q course told t) alone)

  -- what is answered by the trail
  abbrev pub by_trail : ℕ → List ℕ
  by_trail = line_text (state_seen q) course.session

  pub replies_are : SameUpTo course.upto course.replies (line_text (state_seen q) course.session)
  replies_are = heard.answers

  -- the lines after the first one
  talks : (subject : ℕ) (turns : List Turn) → t.subject ≡ subject → asked_in told ≡ asked_after 0 turns
      → Talks (state_seen q) q.seen course.session subject turns (ok_line ++ (text_of (line_text (state_seen q) course.session) 0 turns ++ bye_line))
  talks subject turns who asks = record {
    there = t.there;
    subject_is = t.subject_is ∙ who;
    lines = subst (λ l. l ≡ filter (λ (a : ℕ × Work). has_ordinal l a.0) (asked_after 0 turns)) (sym heard.lines) (t.admits.are ∙ ap (filter (λ (a : ℕ × Work). has_ordinal t.works a.0)) asks);
    full = subst (λ l. All (λ (a : ℕ × Work). has_ordinal l a.0 ≡ false → (state_seen q).limit < admitted_weight (state_seen q) + weight_of a.1) (asked_after 0 turns)) (sym heard.lines)
        (subst (All (λ (a : ℕ × Work). has_ordinal t.works a.0 ≡ false → (state_seen q).limit < admitted_weight (state_seen q) + weight_of a.1)) asks t.admits.full);
    text_is = refl;
  }

  -- the lines that were told, but for settling
  pub transcribed : (turns : List Turn) (settles : ℕ) → told_by turns ≡ told ++ replicate settles request.Settles
      → IsTranscript q.gate.base.setup q.gate.base.limit q.seen course.session turns (session_text (line_text (state_seen q) course.session) turns)
  transcribed [] settles by = absurd (omega (arith, ap length (by ∙ ap (λ l. l ++ replicate settles request.Settles) t.opened)))
  transcribed (Skip ∷ turns) settles by = transcribed turns settles by
  transcribed (Wait ∷ turns) settles by = absurd (omega (arith, ap length (by ∙ ap (λ l. l ++ replicate settles request.Settles) t.opened)))
  transcribed (Bad fault ∷ turns) settles by = absurd (omega (arith, ap length (by ∙ ap (λ l. l ++ replicate settles request.Settles) t.opened)))
  transcribed (Ask work ∷ turns) settles by = absurd (omega (arith, ap length (by ∙ ap (λ l. l ++ replicate settles request.Settles) t.opened)))
  transcribed (Greets u ∷ turns) settles by = inr (talks u turns who asks)
    where
      all : request.Opens u ∷ (told_of 0 turns ++ request.Settles ∷ []) ≡ request.Opens t.subject ∷ (t.more ++ replicate settles request.Settles)
      all = by ∙ ap (λ l. l ++ replicate settles request.Settles) t.opened

      who : t.subject ≡ u
      who = sym (ap first_subject all)

      asks : asked_in told ≡ asked_after 0 turns
      asks =
          sym (append-nil (asked_in told)) ∙ (ap (λ l. asked_in told ++ l) (sym (settles_ask_nothing settles)) ∙ (sym (asked_more told (replicate settles request.Settles))
          ∙ (ap asked_in (sym by) ∙ (asked_more (told_of 0 turns) (request.Settles ∷ []) ∙ (append-nil (asked_in (told_of 0 turns)) ∙ told_asks 0 turns)))))

  -- all lines, and settled
  pub written_is : (turns : List Turn) → told_by turns ≡ told → session_text course.replies turns ≡ session_text (line_text (state_seen q) course.session) turns
  written_is [] by = refl
  written_is (Skip ∷ turns) by = written_is turns by
  written_is (Wait ∷ turns) by = refl
  written_is (Bad fault ∷ turns) by = refl
  written_is (Ask work ∷ turns) by = refl
  written_is (Greets u ∷ turns) by =
      ap (λ l. ok_line ++ (l ++ bye_line)) (same_text course.replies (line_text (state_seen q) course.session) course.upto turns 0 heard.answers
      (subst (All (λ (a : ℕ × Work). a.0 ≤ course.upto)) (ap asked_in (sym by) ∙ (asked_more (told_of 0 turns) (request.Settles ∷ []) ∙ (append-nil (asked_in (told_of 0 turns)) ∙ told_asks 0 turns)))
      (all_covered course.upto told (request.Opens u ∷ told_of 0 turns) (sym by) t.covers)))

-- ---- without a session

-- lines that tell nothing
pub nothing_told : (q : PassView) (f : ℕ → List ℕ) (turns : List Turn) → told_by turns ≡ [] → IsTranscript q.gate.base.setup q.gate.base.limit q.seen 0 turns (session_text f turns)
nothing_told q f [] none = refl
nothing_told q f (Skip ∷ turns) none = nothing_told q f turns none
nothing_told q f (Wait ∷ turns) none = refl
nothing_told q f (Bad fault ∷ turns) none = refl
nothing_told q f (Ask work ∷ turns) none = refl
nothing_told q f (Greets u ∷ turns) none = absurd (omega (arith, ap length none))

-- as many sessions as there may be
pub turned_away : (q : PassView) (subject : ℕ) (turns : List Turn) → HasTrail (hall_seen q) → most_sessions ≤ length (state_seen q).sessions → IsOpening subject turns
    → IsTranscript q.gate.base.setup q.gate.base.limit q.seen 0 turns (refused_sessions ++ bye_line)
turned_away q subject [] legal full opening = absurd opening
turned_away q subject (Skip ∷ turns) legal full opening = turned_away q subject turns legal full opening
turned_away q subject (Greets u ∷ turns) legal full opening = inl (omega (arith, full, sessions_within (start q.gate.base.setup q.gate.base.limit) q.seen legal (omega arith)), refl)
turned_away q subject (Wait ∷ turns) legal full opening = absurd opening
turned_away q subject (Bad fault ∷ turns) legal full opening = absurd opening
turned_away q subject (Ask work ∷ turns) legal full opening = absurd opening
