-- The line of each kind of event.
use Rattle.std.proofs.Common.{◌≡◌, ℕ, ◌<◌, ◌≤◌, ◌^◌, List, [], ◌∷◌, ◌++◌, length, sym, ◌∙◌, ap, subst, arith}
use Rattle.std.specs.Prelude.{codes, decimal, slice_index_or, true}
use Rattle.bl_work.specs.declared.answer.Answer.{Answer}
use Rattle.bl_work.specs.declared.asked.Line.TheVariants as line
use Rattle.bl_work.specs.declared.work.Work.{Work}
use Rattle.bl_write.specs.CanonicalLine.{canonical_line}
use Rattle.bl_setup.specs.Setup.{Setup}
use Rattle.bl_setup.specs.Agreement.{Agree}
use Rattle.bl_work.specs.Names.{AreNames}
use Rattle.bl_order.specs.Machine.{State, Event, Opens, Admits, Starts, Ends, Loses, has_ended, past_at}
use Rattle.bl_order.proofs.Reached.{sound-reached}
use Rattle.bl_hall.specs.Chronicle.{kept_of}
use Rattle.bl_hall.specs.declared.event.Event.TheVariants as kept_as
use Rattle.bl_wire.specs.Replies.{answer_text}
use Rattle.bl_wire.specs.Watch.{EndState, Puts}
use Rattle.bl_trail.specs.EventText.{start_words}
use Rattle.bl_trail.specs.StartWords.{NamesWords, words_text}
use Rattle.bl_trail.specs.TrueText.{HasNoLf}
use Rattle.bl_audit.specs.Comes.{Comes, HasLine, lines_from, words_later, works_in}
use Rattle.bl_audit.proofs.Later.{said-end, said-start, told_of}
use Rattle.bl_audit.proofs.Lines.{setup-later}
use Rattle.bl_audit.proofs.WithoutLf.{plain-end, plain-line, plain-loss, plain-open, plain-start, plain-subject, plain-words}

-- which event is kept so
pub is-open : (e : Event) (s : ℕ) → kept_of e ≡ kept_as.Open s → e ≡ Opens s
is-open (Opens t) s h = go t s h
  where
    go : (t s : ℕ) → kept_as.Open t ≡ kept_as.Open s → Opens t ≡ Opens s
    go t s h = ap Opens (cc)
is-open (Admits i k w) s h = absurd (cc)
is-open (Starts n) s h = absurd (cc)
is-open (Ends n) s h = absurd (cc)
is-open (Loses n) s h = absurd (cc)

pub is-line : (e : Event) (i k : ℕ) → kept_of e ≡ kept_as.Line i k → (w : Work) × (e ≡ Admits i k w)
is-line (Opens t) i k h = absurd (cc)
is-line (Admits j l w) i k h = (w, go j l i k h)
  where
    go : (j l i k : ℕ) → kept_as.Line j l ≡ kept_as.Line i k → Admits j l w ≡ Admits i k w
    go j l i k h =
        let a : j ≡ i = cc in
        let b : l ≡ k = cc in
        ap (λ m. Admits m l w) a ∙ ap (λ m. Admits i m w) b
is-line (Starts n) i k h = absurd (cc)
is-line (Ends n) i k h = absurd (cc)
is-line (Loses n) i k h = absurd (cc)

pub is-start : (e : Event) (n : ℕ) → kept_of e ≡ kept_as.Start n → e ≡ Starts n
is-start (Opens t) n h = absurd (cc)
is-start (Admits j l w) n h = absurd (cc)
is-start (Starts m) n h = go m n h
  where
    go : (m n : ℕ) → kept_as.Start m ≡ kept_as.Start n → Starts m ≡ Starts n
    go m n h = ap Starts (cc)
is-start (Ends m) n h = absurd (cc)
is-start (Loses m) n h = absurd (cc)

pub is-end : (e : Event) (n : ℕ) → kept_of e ≡ kept_as.End n → e ≡ Ends n
is-end (Opens t) n h = absurd (cc)
is-end (Admits j l w) n h = absurd (cc)
is-end (Starts m) n h = absurd (cc)
is-end (Ends m) n h = go m n h
  where
    go : (m n : ℕ) → kept_as.End m ≡ kept_as.End n → Ends m ≡ Ends n
    go m n h = ap Ends (cc)
is-end (Loses m) n h = absurd (cc)

pub is-loss : (e : Event) (n : ℕ) → kept_of e ≡ kept_as.Lost n → e ≡ Loses n
is-loss (Opens t) n h = absurd (cc)
is-loss (Admits j l w) n h = absurd (cc)
is-loss (Starts m) n h = absurd (cc)
is-loss (Ends m) n h = absurd (cc)
is-loss (Loses m) n h = go m n h
  where
    go : (m n : ℕ) → kept_as.Lost m ≡ kept_as.Lost n → Loses m ≡ Loses n
    go m n h = ap Loses (cc)

-- the setup never changes
pub same-setup : (x : State) (e : Event) (later : List Event) (end : State) (at : ℕ) → Comes x e later end at → end.setup ≡ x.setup
same-setup x e later end at comes = ap (λ (s : State). s.setup) comes.leads ∙ setup-later x (e ∷ later)

-- the subject of an opening has a name
pub subject-there : (x : State) (later : List Event) (end : State) (at s : ℕ) → Comes x (Opens s) later end at → Agree end.setup → s < length end.setup.names.subjects
subject-there x later end at s comes agree = omega (arith, agree.subjects, comes.steps.0.0, ap (λ (u : Setup). length u.policy.subjects) (same-setup x (Opens s) later end at comes))

-- what has ended has its answer at the end
pub ended-so : (x : State) (later : List Event) (end : State) (at n : ℕ) → Comes x (Ends n) later end at → (has_ended end n ≡ true) × ((past_at end n).answer ≡ (past_at x n).answer)
ended-so x later end at n comes =
    subst (λ (y : State). (has_ended y n ≡ true) × ((past_at y n).answer ≡ (past_at x n).answer)) (sym comes.leads)
    (said-end x n later (sound-reached x comes.reached) comes.steps.0 comes.steps.1)

module _ (x : State) (later : List Event) (end : State) (at : ℕ) (old new : EndState) where
  pub open-line : (s : ℕ) → Comes x (Opens s) later end at → Agree end.setup → AreNames end.setup.names
      → Puts ((codes "open " ++ slice_index_or end.setup.names.subjects s []) ++ 10 ∷ []) old new → HasLine x (Opens s) later end at old new
  open-line s comes agree are puts = record {
    text = subst (λ (u : Setup). Puts ((codes "open " ++ slice_index_or u.names.subjects s []) ++ 10 ∷ []) old new) (same-setup x (Opens s) later end at comes) puts;
    plain = subst (λ (u : Setup). HasNoLf (codes "open " ++ slice_index_or u.names.subjects s [])) (same-setup x (Opens s) later end at comes)
        (plain-open (slice_index_or end.setup.names.subjects s []) (plain-subject end.setup.names are s
        (omega (arith, agree.subjects, comes.steps.0.0, ap (λ (u : Setup). length u.policy.subjects) (same-setup x (Opens s) later end at comes)))));
    place = comes.place;
    rest = comes.lines;
  }

  pub admitted-line : (i k next : ℕ) (w : Work) → Comes x (Admits i k w) later end at → i < 2 ^ 32 → k < 2 ^ 32
      → Puts ((codes "line " ++ (decimal i ++ (32 ∷ (decimal k ++ (32 ∷ canonical_line end.setup.names (line.Work w)))))) ++ 10 ∷ []) old new
      → HasNoLf (canonical_line end.setup.names (line.Work w)) → next ≤ length end.order → lines_from end next ≡ works_in later → HasLine x (Admits i k w) later end next old new
  admitted-line i k next w comes li lk puts plain place more = record {
    text = subst (λ (u : Setup). Puts ((codes "line " ++ (decimal i ++ (32 ∷ (decimal k ++ (32 ∷ canonical_line u.names (line.Work w)))))) ++ 10 ∷ []) old new) (same-setup x (Admits i k w) later end at comes) puts;
    plain = plain-line i k _ li lk (subst (λ (u : Setup). HasNoLf (canonical_line u.names (line.Work w))) (same-setup x (Admits i k w) later end at comes) plain);
    place = place;
    rest = more;
  }

  pub start-line : (n : ℕ) → Comes x (Starts n) later end at → n < 2 ^ 32 → AreNames end.setup.names → NamesWords end.setup.names (words_later (told_of end n))
      → Puts ((codes "start " ++ (decimal n ++ words_text end.setup.names (words_later (told_of end n)))) ++ 10 ∷ []) old new → HasLine x (Starts n) later end at old new
  start-line n comes lt are named puts = record {
    text = subst (λ t. Puts ((codes "start " ++ (decimal n ++ t)) ++ 10 ∷ []) old new) (sym words) puts;
    plain = plain-start n _ lt (subst HasNoLf (sym words) (plain-words end.setup.names are (words_later (told_of end n)) named));
    place = comes.place;
    rest = comes.lines;
  }
    where
      words : start_words x.setup.names (past_at x n).answer ≡ words_text end.setup.names (words_later (told_of end n))
      words = said-start x n later (sound-reached x comes.reached) comes.steps.0 comes.steps.1
          ∙ ap (λ (y : State). words_text x.setup.names (words_later (told_of y n))) (sym comes.leads)
          ∙ ap (λ (u : Setup). words_text u.names (words_later (told_of end n))) (sym (same-setup x (Starts n) later end at comes))

  pub end-line : (n : ℕ) → Comes x (Ends n) later end at → (a : Answer) → a ≡ (past_at end n).answer → n < 2 ^ 32
      → Puts ((codes "end " ++ (decimal n ++ answer_text end.setup.names a)) ++ 10 ∷ []) old new → HasNoLf (answer_text end.setup.names a) → HasLine x (Ends n) later end at old new
  end-line n comes a is lt puts plain = record {
    text = subst (λ t. Puts ((codes "end " ++ (decimal n ++ t)) ++ 10 ∷ []) old new) (sym told) puts;
    plain = plain-end n _ lt (subst HasNoLf (sym told) plain);
    place = comes.place;
    rest = comes.lines;
  }
    where
      told : answer_text x.setup.names (past_at x n).answer ≡ answer_text end.setup.names a
      told = ap (answer_text x.setup.names) (sym (is ∙ (ended-so x later end at n comes).1)) ∙ ap (λ (u : Setup). answer_text u.names a) (sym (same-setup x (Ends n) later end at comes))

  pub loss-line : (n : ℕ) → Comes x (Loses n) later end at → n < 2 ^ 32 → Puts ((codes "lost " ++ decimal n) ++ 10 ∷ []) old new → HasLine x (Loses n) later end at old new
  loss-line n comes lt puts = record { text = puts; plain = plain-loss n lt; place = comes.place; rest = comes.lines }
