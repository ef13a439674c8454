-- What the text of an event asks.
use Rattle.std.proofs.Common.{◌≡◌, ◌≢◌, ℕ, ◌<◌, List, ◌∷◌, ◌++◌, drop, refl, ap, arith, lit<}
use Rattle.std.specs.Prelude.{codes, decimal}
use Rattle.bl_work.specs.Names.{KnownNames}
use Rattle.bl_work.specs.declared.answer.Answer.{Answer}
use Rattle.bl_work.specs.declared.answer.Answer.TheVariants.{Done, RuleDone, Denied, Lost}
use Rattle.bl_order.specs.Machine.{State, Event, Opens, Admits, Starts, Ends, Loses, Needs, past_at}
use Rattle.bl_trail.specs.Asks.{Asked, IsAsked}
use Rattle.bl_trail.specs.Asking.{asked_for}
use Rattle.bl_trail.specs.EventText.{event_text, start_words}
use Rattle.bl_wire.specs.Replies.{answer_text}
use Rattle.bl_trail.specs.OneEvent.{IsSmall}
use Rattle.bl_trail.proofs.OneEventLaw.{start_small, run_small, loss_small, session_small}

-- what is said behind a number begins with a space
start-cut : (names : KnownNames) (a : Answer) → start_words names a ≡ 32 ∷ drop 1 (start_words names a)
start-cut names (Done shown) = refl
start-cut names RuleDone = refl
start-cut names (Denied d) = refl
start-cut names Lost = refl

answer-cut : (names : KnownNames) (a : Answer) → answer_text names a ≡ 32 ∷ drop 1 (answer_text names a)
answer-cut names (Done shown) = refl
answer-cut names RuleDone = refl
answer-cut names (Denied d) = refl
answer-cut names Lost = refl

-- a word without a space, byte by byte
plain : (n : ℕ) → 32 < n → n ≢ 32
plain n lt e = absurd (omega (arith, e))

module _ (x : State) (small : IsSmall x) where
  -- the text of an event asks for that event
  pub asks-event : (e : Event) (line : List ℕ) (asked : Asked) → Needs x e → IsAsked line asked → line ≡ event_text x e → asked ≡ asked_for x e
  asks-event (Opens s) line asked step is text = (is (codes "open") _ (plain 111 (lit< tt), (plain 112 (lit< tt), (plain 101 (lit< tt), (plain 110 (lit< tt), tt)))) text).opened refl
  asks-event (Admits i k w) line asked step is text =
      (is (codes "line") _ (plain 108 (lit< tt), (plain 105 (lit< tt), (plain 110 (lit< tt), (plain 101 (lit< tt), tt)))) text).admitted refl i k _ (session_small x small i step.0) step.3 refl
  asks-event (Starts n) line asked step is text =
      (is (codes "start") _ (plain 115 (lit< tt), (plain 116 (lit< tt), (plain 97 (lit< tt), (plain 114 (lit< tt), (plain 116 (lit< tt), tt))))) text).started refl n _ (start_small x small n step)
      (ap (λ w. decimal n ++ w) (start-cut x.setup.names (past_at x n).answer))
  asks-event (Ends n) line asked step is text =
      (is (codes "end") _ (plain 101 (lit< tt), (plain 110 (lit< tt), (plain 100 (lit< tt), tt))) text).ended refl n _ (run_small x small n step)
      (ap (λ w. decimal n ++ w) (answer-cut x.setup.names (past_at x n).answer))
  asks-event (Loses n) line asked step is text =
      (is (codes "lost") _ (plain 108 (lit< tt), (plain 111 (lit< tt), (plain 115 (lit< tt), (plain 116 (lit< tt), tt)))) text).lost refl n (loss_small x small n step) refl
