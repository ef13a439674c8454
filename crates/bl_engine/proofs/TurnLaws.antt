-- Laws of the lines of a session: what opens it, what is skipped, and what is refused.
use Rattle.std.proofs.Common.{◌≡◌, ℕ, true, false, List, [], ◌∷◌, ◌++◌, refl, ap, ◌∙◌, Some, None}
use Rattle.bl_wire.specs.declared.turn.Turn.{Turn}
use Rattle.bl_wire.specs.declared.turn.Turn.TheVariants.{Skip, Wait, Greets, Bad, Ask}
use Rattle.bl_wire.specs.Turns.{AreSkips, IsOpening, IsRefusal, StopsAtRefusal, is_skip, greeted}
use Rattle.bl_wire.specs.Texts.{text_of, session_text, ok_line, bye_line, refused_hello}
use Rattle.bl_engine.specs.Requests.{Opens, Settles, told_of, told_by}

-- what opens a session is skipped lines and a greeting
pub opened_text : (r : ℕ → List ℕ) (subject : ℕ) (head turns : List Turn) → IsOpening subject head → session_text r (head ++ turns) ≡ ok_line ++ (text_of r 0 turns ++ bye_line)
opened_text r subject [] turns opens = absurd opens
opened_text r subject (Skip ∷ head) turns opens = opened_text r subject head turns opens
opened_text r subject (Greets named ∷ head) turns opens = ap (λ l. ok_line ++ (text_of r 0 (l ++ turns) ++ bye_line)) opens.1
opened_text r subject (Wait ∷ head) turns opens = absurd opens
opened_text r subject (Bad fault ∷ head) turns opens = absurd opens
opened_text r subject (Ask work ∷ head) turns opens = absurd opens

pub opened_told : (subject : ℕ) (head turns : List Turn) → IsOpening subject head → told_by (head ++ turns) ≡ Opens subject ∷ (told_of 0 turns ++ Settles ∷ [])
opened_told subject [] turns opens = absurd opens
opened_told subject (Skip ∷ head) turns opens = opened_told subject head turns opens
opened_told subject (Greets named ∷ head) turns opens = ap (λ s. Opens s ∷ (told_of 0 (head ++ turns) ++ Settles ∷ [])) opens.0 ∙ ap (λ l. Opens subject ∷ (told_of 0 (l ++ turns) ++ Settles ∷ [])) opens.1
opened_told subject (Wait ∷ head) turns opens = absurd opens
opened_told subject (Bad fault ∷ head) turns opens = absurd opens
opened_told subject (Ask work ∷ head) turns opens = absurd opens

pub opens_after : (subject : ℕ) (skips : List Turn) (t : Turn) → AreSkips skips → greeted t ≡ Some subject → IsOpening subject (skips ++ t ∷ [])
opens_after subject [] Skip quiet greets = cc
opens_after subject [] Wait quiet greets = cc
opens_after subject [] (Greets named) quiet greets = (cc, refl)
opens_after subject [] (Bad fault) quiet greets = cc
opens_after subject [] (Ask work) quiet greets = cc
opens_after subject (Skip ∷ skips) t quiet greets = opens_after subject skips t quiet greets
opens_after subject (Wait ∷ skips) t quiet greets = absurd quiet
opens_after subject (Greets named ∷ skips) t quiet greets = absurd quiet
opens_after subject (Bad fault ∷ skips) t quiet greets = absurd quiet
opens_after subject (Ask work ∷ skips) t quiet greets = absurd quiet

-- lines that are skipped are answered by nothing, and tell nothing
pub skipped_text : (r : ℕ → List ℕ) (skips : List Turn) → AreSkips skips → session_text r skips ≡ bye_line
skipped_text r [] quiet = refl
skipped_text r (Skip ∷ skips) quiet = skipped_text r skips quiet
skipped_text r (Wait ∷ skips) quiet = absurd quiet
skipped_text r (Greets named ∷ skips) quiet = absurd quiet
skipped_text r (Bad fault ∷ skips) quiet = absurd quiet
skipped_text r (Ask work ∷ skips) quiet = absurd quiet

pub skipped_told : (skips : List Turn) → AreSkips skips → told_by skips ≡ []
skipped_told [] quiet = refl
skipped_told (Skip ∷ skips) quiet = skipped_told skips quiet
skipped_told (Wait ∷ skips) quiet = absurd quiet
skipped_told (Greets named ∷ skips) quiet = absurd quiet
skipped_told (Bad fault ∷ skips) quiet = absurd quiet
skipped_told (Ask work ∷ skips) quiet = absurd quiet

-- a session that was opened, or of which no line was heard, had no refused first line
pub stops_opened : (subject : ℕ) (head turns : List Turn) → IsOpening subject head → StopsAtRefusal (head ++ turns)
stops_opened subject [] turns opens = absurd opens
stops_opened subject (Skip ∷ head) turns opens = stops_opened subject head turns opens
stops_opened subject (Greets named ∷ head) turns opens = tt
stops_opened subject (Wait ∷ head) turns opens = absurd opens
stops_opened subject (Bad fault ∷ head) turns opens = absurd opens
stops_opened subject (Ask work ∷ head) turns opens = absurd opens

pub stops_skipped : (skips : List Turn) → AreSkips skips → StopsAtRefusal skips
stops_skipped [] quiet = tt
stops_skipped (Skip ∷ skips) quiet = stops_skipped skips quiet
stops_skipped (Wait ∷ skips) quiet = absurd quiet
stops_skipped (Greets named ∷ skips) quiet = absurd quiet
stops_skipped (Bad fault ∷ skips) quiet = absurd quiet
stops_skipped (Ask work ∷ skips) quiet = absurd quiet

-- nor is the last line one
pub not_refused_opened : (subject : ℕ) (head turns : List Turn) → IsOpening subject head → IsRefusal (head ++ turns) → ⊥
not_refused_opened subject [] turns opens refused = opens
not_refused_opened subject (Skip ∷ head) turns opens refused = not_refused_opened subject head turns opens refused
not_refused_opened subject (Greets named ∷ head) turns opens refused = refused
not_refused_opened subject (Wait ∷ head) turns opens refused = opens
not_refused_opened subject (Bad fault ∷ head) turns opens refused = opens
not_refused_opened subject (Ask work ∷ head) turns opens refused = opens

pub not_refused_skipped : (skips : List Turn) → AreSkips skips → IsRefusal skips → ⊥
not_refused_skipped [] quiet refused = refused
not_refused_skipped (Skip ∷ skips) quiet refused = not_refused_skipped skips quiet refused
not_refused_skipped (Wait ∷ skips) quiet refused = quiet
not_refused_skipped (Greets named ∷ skips) quiet refused = quiet
not_refused_skipped (Bad fault ∷ skips) quiet refused = quiet
not_refused_skipped (Ask work ∷ skips) quiet refused = quiet

-- a first line that is no greeting is refused
pub record Refuses (turns : List Turn) : Type 0 where
  pub text : (r : ℕ → List ℕ) → session_text r turns ≡ refused_hello ++ bye_line
  pub told : told_by turns ≡ []
  pub last : IsRefusal turns
  pub stops : StopsAtRefusal turns

pub refuses_after : (skips : List Turn) (t : Turn) → AreSkips skips → is_skip t ≡ false → greeted t ≡ None → Refuses (skips ++ t ∷ [])
refuses_after [] Skip quiet some none' = cc
refuses_after [] Wait quiet some none' = record { text = λ r. refl; told = refl; last = refl; stops = refl }
refuses_after [] (Greets named) quiet some none' = cc
refuses_after [] (Bad fault) quiet some none' = record { text = λ r. refl; told = refl; last = refl; stops = refl }
refuses_after [] (Ask work) quiet some none' = record { text = λ r. refl; told = refl; last = refl; stops = refl }
refuses_after (Skip ∷ skips) t quiet some none' =
    let rest = refuses_after skips t quiet some none' in record { text = rest.text; told = rest.told; last = rest.last; stops = rest.stops }
refuses_after (Wait ∷ skips) t quiet some none' = absurd quiet
refuses_after (Greets named ∷ skips) t quiet some none' = absurd quiet
refuses_after (Bad fault ∷ skips) t quiet some none' = absurd quiet
refuses_after (Ask work ∷ skips) t quiet some none' = absurd quiet

pub skips-more : (skips : List Turn) (t : Turn) → AreSkips skips → is_skip t ≡ true → AreSkips (skips ++ t ∷ [])
skips-more [] Skip quiet skip = tt
skips-more [] Wait quiet skip = cc
skips-more [] (Greets named) quiet skip = cc
skips-more [] (Bad fault) quiet skip = cc
skips-more [] (Ask work) quiet skip = cc
skips-more (Skip ∷ skips) t quiet skip = skips-more skips t quiet skip
skips-more (Wait ∷ skips) t quiet skip = absurd quiet
skips-more (Greets named ∷ skips) t quiet skip = absurd quiet
skips-more (Bad fault ∷ skips) t quiet skip = absurd quiet
skips-more (Ask work ∷ skips) t quiet skip = absurd quiet
