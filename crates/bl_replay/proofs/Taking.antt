-- A line is taken.
use Rattle.std.proofs.Common.{◌≡◌, ℕ, ◌≤◌, true, false, List, [], ◌∷◌, ◌++◌, length, refl, sym, ◌∙◌, ap, subst, arith}
use Rattle.std.specs.Prelude.{IfOk, IsTrue, Result, Ok, Err, Option, Some, codes, slice_index_or}
use Rattle.std.proofs.lemmas.List.{length-map}
use Rattle.bl_write.specs.CanonicalLine.{canonical_line}
use Rattle.bl_work.specs.Names.{KnownNames}
use Rattle.bl_work.specs.declared.answer.Answer.{Answer}
use Rattle.bl_work.specs.declared.answer.Answer.TheVariants as answer
use Rattle.bl_work.specs.declared.asked.Line.TheVariants as asked
use Rattle.bl_work.specs.declared.work.Work.{Work}
use Rattle.bl_order.specs.Headline.{IsReached}
use Rattle.bl_order.specs.Past.{is_done}
use Rattle.bl_order.specs.Machine.{State, Event, Opens, Admits, Starts, Ends, Loses, MayStart, Needs, change, past_at, runs}
use Rattle.bl_trail.specs.Asks.{HasNo, opens, admits, starts, ends, loses, nothing}
use Rattle.bl_trail.specs.Asking.{asked_for}
use Rattle.bl_trail.specs.EventText.{event_text, start_words}
use Rattle.bl_trail.specs.Follow.{IsTaken}
use Rattle.bl_trail.specs.OneEvent.{IsSmall}
use Rattle.bl_trail.proofs.Words.{before-word, behind-word}
use Rattle.bl_trail.specs.Asks.{before, behind}
use Rattle.bl_replay.specs.Findings.{AreFindings}
use Rattle.bl_replay.specs.Keeps.{HasCome, KeepsAt, Replays}
use Rattle.bl_replay.specs.Kept.{phase_in}
use Rattle.bl_replay.specs.Marks.{AreForetold, Finding, Foretells, ending_of, lost_later}
use Rattle.bl_trail.specs.StartWords.{words_of, words_run, words_text}
use Rattle.bl_replay.specs.declared.replayer.Replayer.{Replayer}
use Rattle.bl_trail.specs.declared.text.Words.{Words}
use Rattle.bl_trail.specs.declared.text.Words.TheVariants as said
use Rattle.bl_replay.proofs.MarksLaws.{ends-first, foretells-on, foretold, runs-first}
use Rattle.bl_replay.proofs.Moving.{many-places}

pub if-ok-both : {A E : Type 0} (r : Result A E) (P Q R : A → Type 0) → IfOk r P → IfOk r Q → ((v : A) → P v → Q v → R v) → IfOk r R
if-ok-both (Ok v) P Q R p q f = f v p q
if-ok-both (Err e) P Q R p q f = tt

pub if-ok : {A E : Type 0} (r : Result A E) (P R : A → Type 0) → IfOk r P → ((v : A) → P v → R v) → IfOk r R
if-ok (Ok v) P R p f = f v p
if-ok (Err e) P R p f = tt

some_of : (a b : List ℕ) → ◌≡◌ {A = Option (List ℕ)} (Some a) (Some b) → a ≡ b
some_of a b h = cc

-- of two texts that begin with a line, the lines are the same, and what stands behind them
same_line : (l k a b : List ℕ) → HasNo 10 l → HasNo 10 k → l ++ 10 ∷ a ≡ k ++ 10 ∷ b → (l ≡ k) × (a ≡ b)
same_line l k a b p q h = (
  sym (before-word 10 l a p) ∙ ap (before 10) h ∙ before-word 10 k b q,
  some_of a b (sym (behind-word 10 l a p) ∙ ap (behind 10) h ∙ behind-word 10 k b q),
)

-- a line has an LF
some_lf : (l a : List ℕ) → HasNo 10 (l ++ 10 ∷ a) → ⊥
some_lf [] a h = h.0 refl
some_lf (b ∷ l) a h = some_lf l a h.1

phases-many : (x : State) (r : Replayer) → KeepsAt x r → length x.phases ≡ length x.order
phases-many x r k = ap length k.phases ∙ length-map r.places.items phase_in ∙ sym (many-places x r k)

module _ (room : (x : State) → IsReached x → length x.order ≤ x.limit) (x : State) (r : Replayer) where
  pub small : KeepsAt x r → IsSmall x
  small k = record {
    sessions = k.few;
    phases = omega (arith, phases-many x r k, room x k.reached, k.low);
    order = omega (arith, room x k.reached, k.low);
  }

  -- where the line is the text of an event, the marks foretell what the event finds, and then what the text behind it does
  pub foreseen : (line rest : List ℕ) (e : Event) → HasNo 10 line → Replays r x (line ++ 10 ∷ rest) → Needs x e → line ≡ event_text x e
      → (found : List Finding) × AreFindings rest found × Foretells x (lost_later r.marks.items) (ending_of x e ∷ found)
  foreseen line rest e plain replays needs text = go replays.found replays.are replays.foretell
    where
      go : (found : List Finding) → AreFindings (line ++ 10 ∷ rest) found → Foretells x (lost_later r.marks.items) found
          → (found : List Finding) × AreFindings rest found × Foretells x (lost_later r.marks.items) (ending_of x e ∷ found)
      go [] are tells = absurd (some_lf line rest are)
      go (f ∷ found) are tells =
          let same : (are.0 ≡ line) × (are.1 ≡ rest) = same_line are.0 line are.1 rest are.2.plain plain (sym are.2.split) in
          let is : f ≡ ending_of x e = are.3 x e (small replays.keeps) needs (same.0 ∙ text) in
          (found, subst (λ t. AreFindings t found) same.1 are.4, subst (λ g. Foretells x (lost_later r.marks.items) (g ∷ found)) is tells)

  pub told-before : (text : List ℕ) → Replays r x text → AreForetold (lost_later r.marks.items) x
  told-before text replays = foretold x (lost_later r.marks.items) replays.found replays.foretell

  -- an event that has come is taken
  pub comes : (d : Replayer) (line rest : List ℕ) (e : Event) → HasNo 10 line → Replays r x (line ++ 10 ∷ rest) → HasCome x e line d → d.marks ≡ r.marks
      → IsTaken x line (λ y. Replays d y rest)
  comes d line rest e plain replays come marks =
      let seen = foreseen line rest e plain replays come.needs come.text in (
        e,
        come.needs,
        come.has,
        come.text,
        record {
          keeps = come.keeps;
          found = seen.0;
          are = seen.1;
          foretell = subst (λ m. Foretells (change x e) (lost_later m.items) seen.0) (sym marks)
              (foretells-on x (phases-many x r replays.keeps) (lost_later r.marks.items) seen.0 e come.needs seen.2);
        },
      )

  -- a place that is lost later does not end at its start
  pub runs-later : (line rest : List ℕ) (n : ℕ) → HasNo 10 line → Replays r x (line ++ 10 ∷ rest) → MayStart x n → line ≡ event_text x (Starts n)
      → lost_later r.marks.items n ≡ true → is_done (past_at x n).answer ≡ true
  runs-later line rest n plain replays may text later =
      let seen = foreseen line rest (Starts n) plain replays may text in
      runs-first x (phases-many x r replays.keeps) (lost_later r.marks.items) seen.0 n may seen.2 later

  -- nor with its answer
  pub ends-open : (line rest : List ℕ) (n : ℕ) → HasNo 10 line → Replays r x (line ++ 10 ∷ rest) → IsTrue (runs x n) → line ≡ event_text x (Ends n)
      → lost_later r.marks.items n ≡ false
  ends-open line rest n plain replays running text =
      let seen = foreseen line rest (Ends n) plain replays running text in
      ends-first x (phases-many x r replays.keeps) (lost_later r.marks.items) seen.0 n running seen.2

-- which event a line asks for
pub asked-starts : (x : State) (e : Event) (n : ℕ) (w : List ℕ) → starts n w ≡ asked_for x e → e ≡ Starts n
asked-starts x (Opens s) n w h = absurd (cc)
asked-starts x (Admits i k v) n w h = absurd (cc)
asked-starts x (Starts m) n w h = ap Starts (sym (same h))
  where
    same : {a b : List ℕ} → starts n a ≡ starts m b → n ≡ m
    same q = cc
asked-starts x (Ends m) n w h = absurd (cc)
asked-starts x (Loses m) n w h = absurd (cc)

pub asked-ends : (x : State) (e : Event) (n : ℕ) → ends n ≡ asked_for x e → e ≡ Ends n
asked-ends x (Opens s) n h = absurd (cc)
asked-ends x (Admits i k v) n h = absurd (cc)
asked-ends x (Starts m) n h = absurd (cc)
asked-ends x (Ends m) n h = ap Ends (sym (same h))
  where
    same : ends n ≡ ends m → n ≡ m
    same q = cc
asked-ends x (Loses m) n h = absurd (cc)

pub asked-loses : (x : State) (e : Event) (n : ℕ) → loses n ≡ asked_for x e → e ≡ Loses n
asked-loses x (Opens s) n h = absurd (cc)
asked-loses x (Admits i k v) n h = absurd (cc)
asked-loses x (Starts m) n h = absurd (cc)
asked-loses x (Ends m) n h = absurd (cc)
asked-loses x (Loses m) n h = ap Loses (sym (same h))
  where
    same : loses n ≡ loses m → n ≡ m
    same q = cc

pub asked-opens : (x : State) (e : Event) (name : List ℕ) → opens name ≡ asked_for x e → (s : ℕ) × (e ≡ Opens s) × (name ≡ slice_index_or x.setup.names.subjects s [])
asked-opens x (Opens s) name h = (s, refl, same h)
  where
    same : {a b : List ℕ} → opens a ≡ opens b → a ≡ b
    same q = cc
asked-opens x (Admits i k v) name h = absurd (cc)
asked-opens x (Starts m) name h = absurd (cc)
asked-opens x (Ends m) name h = absurd (cc)
asked-opens x (Loses m) name h = absurd (cc)

pub asked-admits : (x : State) (e : Event) (i k : ℕ) (t : List ℕ) → admits i k t ≡ asked_for x e
    → (w : Work) × (e ≡ Admits i k w) × (t ≡ canonical_line x.setup.names (asked.Work w))
asked-admits x (Opens s) i k t h = absurd (cc)
asked-admits x (Admits j l w) i k t h = (w, ap (λ a. Admits a l w) (sym (first h)) ∙ ap (λ a. Admits i a w) (sym (second h)), third h)
  where
    first : {a b : List ℕ} → admits i k a ≡ admits j l b → i ≡ j
    first q = cc

    second : {a b : List ℕ} → admits i k a ≡ admits j l b → k ≡ l
    second q = cc

    third : {a b : List ℕ} → admits i k a ≡ admits j l b → a ≡ b
    third q = cc
asked-admits x (Starts m) i k t h = absurd (cc)
asked-admits x (Ends m) i k t h = absurd (cc)
asked-admits x (Loses m) i k t h = absurd (cc)

pub asked-nothing : (x : State) (e : Event) → nothing ≡ asked_for x e → ⊥
asked-nothing x (Opens s) h = absurd (cc)
asked-nothing x (Admits i k v) h = absurd (cc)
asked-nothing x (Starts m) h = absurd (cc)
asked-nothing x (Ends m) h = absurd (cc)
asked-nothing x (Loses m) h = absurd (cc)

-- what has words says them at its start, and runs as they say
pub says-words : (names : KnownNames) (a : Answer) (w : Words) → words_of a ≡ Some w → start_words names a ≡ words_text names w
says-words names (answer.Done shown) w h = go w h
  where
    go : (v : Words) → ◌≡◌ {A = Option Words} (Some said.Run) (Some v) → codes " run" ≡ words_text names v
    go said.Run q = refl
    go said.Rule q = absurd (cc)
    go (said.Denied d) q = absurd (cc)
says-words names answer.RuleDone w h = go w h
  where
    go : (v : Words) → ◌≡◌ {A = Option Words} (Some said.Rule) (Some v) → codes " rule" ≡ words_text names v
    go said.Run q = absurd (cc)
    go said.Rule q = refl
    go (said.Denied d) q = absurd (cc)
says-words names (answer.Denied denial) w h = ap (words_text names) (same (said.Denied denial) w h)
  where
    same : (v u : Words) → ◌≡◌ {A = Option Words} (Some v) (Some u) → v ≡ u
    same v u q = cc
says-words names answer.Lost w h = absurd (cc)

pub runs-words : (a : Answer) (w : Words) → words_of a ≡ Some w → is_done a ≡ words_run w
runs-words (answer.Done shown) w h = ap words_run (same said.Run w h)
  where
    same : (v u : Words) → ◌≡◌ {A = Option Words} (Some v) (Some u) → v ≡ u
    same v u q = cc
runs-words answer.RuleDone w h = ap words_run (same said.Rule w h)
  where
    same : (v u : Words) → ◌≡◌ {A = Option Words} (Some v) (Some u) → v ≡ u
    same v u q = cc
runs-words (answer.Denied denial) w h = ap words_run (same (said.Denied denial) w h)
  where
    same : (v u : Words) → ◌≡◌ {A = Option Words} (Some v) (Some u) → v ≡ u
    same v u q = cc
runs-words answer.Lost w h = absurd (cc)
