-- A session is opened.
use Rattle.std.proofs.Common.{◌≡◌, ℕ, ◌+◌, ◌<◌, List, [], ◌∷◌, ◌++◌, length, refl, sym, ◌∙◌, ap, subst, arith, length-append}
use Rattle.std.specs.Prelude.{All, map}
use Rattle.std.proofs.lemmas.List.{map-append}
use Rattle.std.proofs.lemmas.List.Elements.{All-push}
use Rattle.bl_order.specs.Headline.{IsReached}
use Rattle.bl_order.specs.Machine.{State, Event, Opens, Needs, change}
use Rattle.bl_order.specs.Machine as machine
use Rattle.bl_replay.specs.Keeps.{KeepsAt, session_in, setup_in}
use Rattle.bl_replay.specs.Kept.{KnowsPlace, entry_in, phase_in, place_in, queued_as, task_in}
use Rattle.bl_replay.specs.declared.replayer.Replayer.{Replayer}
use Rattle.bl_replay.specs.declared.replayer.Session.{Session}
use Rattle.bl_replay.proofs.Moving.{keeps-moved}

append-nil : {X : Type 0} (xs : List X) → xs ≡ xs ++ []
append-nil [] = refl
append-nil (x ∷ xs) = ap (λ l. x ∷ l) (append-nil xs)

pub record Opened (r d : Replayer) (subject : ℕ) : Type 0 where
  pub setup : setup_in d ≡ setup_in r
  pub limit : d.limit ≡ r.limit
  pub weight : d.weight ≡ r.weight
  pub marks : d.marks ≡ r.marks
  pub monitor : d.monitor ≡ r.monitor
  pub answers : d.answers ≡ r.answers
  pub places : d.places ≡ r.places
  pub queues : d.queues ≡ r.queues
  pub sessions : d.sessions.items ≡ r.sessions.items ++ record { subject = subject; last = 0 } ∷ []

pub keeps-opened : (x : State) (subject : ℕ) (r d : Replayer) → KeepsAt x r → Needs x (Opens subject) → ((y : State) (f : Event) → IsReached y → Needs y f → IsReached (change y f))
    → Opened r d subject → KeepsAt (change x (Opens subject)) d
keeps-opened x subject r d k needs next v = keeps-moved x (Opens subject) r d k needs next (record {
  setup_stays = refl;
  limit_stays = refl;
  setup = v.setup;
  limit = v.limit;
  marks = v.marks;
  monitor = v.monitor;
  answers = v.answers;
  sessions = ap (λ (l : List machine.Session). l ++ record { subject = subject; last = 0 } ∷ []) k.sessions
      ∙ sym (map-append session_in r.sessions.items (record { subject = subject; last = 0 } ∷ [])) ∙ ap (map session_in) (sym v.sessions);
  few = omega (arith, needs.1, length-append x.sessions (record { subject = subject; last = 0 } ∷ []));
  speakers = subst (All (λ (s : Session). s.subject < length x.setup.policy.subjects)) (sym v.sessions)
      (All-push (λ (s : Session). s.subject < length x.setup.policy.subjects) r.sessions.items (record { subject = subject; last = 0 }) k.speakers needs.0);
  order = k.order ∙ ap (λ p. map entry_in p.items) (sym v.places);
  phases = k.phases ∙ ap (λ p. map phase_in p.items) (sym v.places);
  weight = v.weight ∙ k.weight;
  more = [];
  entries = ap (λ p. map entry_in p.items) v.places ∙ append-nil (map entry_in r.places.items);
  old = λ n lt. ap (λ p. task_in (place_in p.items n)) v.places;
  new = λ n ge lt. absurd (omega (arith, ge, lt, ap (λ p. length p.items) v.places));
  known = subst (λ p. All (KnowsPlace x.setup) p.items) (sym v.places) k.known;
  queues = v.queues ∙ k.queues ∙ ap (λ p. record { cowns = length x.setup.policy.documents + 1; limit = x.limit; entries = map queued_as p.items }) (sym v.places);
})
