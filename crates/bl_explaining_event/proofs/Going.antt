-- Events that were followed on a hall.
use Rattle.std.proofs.Common.{◌≡◌, ◌++◌, ◌∷◌, ◌∙◌, ◌+◌, ℕ, suc, List, [], ap, append-nil, arith, length, refl, subst, sym}
use Rattle.std.specs.Prelude.{IfSome, Option}
use Rattle.bl_order.specs.Machine.{Event, IsTrail, Needs, State, start, state_after}
use Rattle.bl_setup.specs.Setup.{Setup}
use Rattle.bl_trail.specs.EventText.{event_text}
use Rattle.bl_trail.specs.Versions.{HasEvent}
use Rattle.bl_trail.proofs.Following.{followed-more, setup-end}
use Rattle.bl_hall.specs.Chronicle.{Chronicle, state_now, with_event}
use Rattle.bl_rebuild.specs.Following.{Course, HasTaken}
use Rattle.bl_rebuild.proofs.Stepping.{one-event-more, state-with}
use Rattle.bl_explain.specs.Run.{rules_of}
use Rattle.bl_explain.specs.Since.{KnowsApplied}
use Rattle.bl_explain.specs.declared.since.Applied.{Applied}
use Rattle.bl_ruled.specs.Noting.{listed, rules_at}
use Rattle.bl_ruled.proofs.Knowing.{more-known, none-known}
use Rattle.bl_ruled.proofs.More.{rules-more}
use Rattle.bl_explaining_event.specs.Courses.{HasGone, HasHappened}

-- no event was followed
pub gone-none : (course : Course) (rules : List Applied) → rules ≡ [] → HasGone course course rules []
gone-none course rules none = record {
  followed = record { steps = tt; has = tt; plain = tt; split = refl };
  hall = ap (λ (t : List Event). record { setup = course.hall.setup; limit = course.hall.limit; trail = t }) (sym (append-nil course.hall.trail));
  rules_are = none;
  known = none-known course.hall.setup.policy rules none;
}

module _ (before mid after : Course) (rules : List Applied) (events : List Event) (none : before.hall.trail ≡ [])
    (gone : HasGone before mid rules events) (taken : HasTaken mid after) where
  abbrev pub first : State
  first = state_now before.hall

  first-is : first ≡ start before.hall.setup before.hall.limit
  first-is = ap (state_after (start before.hall.setup before.hall.limit)) none

  pub leads : state_now mid.hall ≡ state_after first events
  leads = ap state_now gone.hall ∙ state-with before.hall events

  -- the last event, and what it found
  pub happened : HasHappened after.hall (state_now mid.hall) taken.event
  happened = record {
    before = mid.hall;
    finds = refl;
    hall_is = taken.hall;
    needs = taken.needs;
    reached = record {
      setup = before.hall.setup;
      limit = before.hall.limit;
      events = events;
      trail = subst (λ y. IsTrail y events) first-is gone.followed.steps;
      leads = leads ∙ ap (λ y. state_after y events) first-is;
    };
  }

  setup-now : (state_now after.hall).setup ≡ before.hall.setup
  setup-now =
      sym (setup-end (start after.hall.setup after.hall.limit) after.hall.trail) ∙ ap (λ (h : Chronicle). h.setup) taken.hall
      ∙ ap (λ (h : Chronicle). h.setup) gone.hall

  -- one event more
  pub gone-more : (number : ℕ) (found : Option Applied) (more : List Applied) → number ≡ suc (length events)
      → listed found ≡ rules_at number (state_now mid.hall) taken.event → IfSome found (KnowsApplied (state_now after.hall).setup.policy)
      → more ≡ rules ++ listed found → HasGone before after more (events ++ taken.event ∷ [])
  gone-more number found more counted noted known are = record {
    followed =
        followed-more first before.rest mid.rest (event_text (state_now mid.hall) taken.event) after.rest events taken.event gone.followed
        (record { plain = taken.plain; split = taken.line })
        (subst (λ y. Needs y taken.event) leads taken.needs)
        (subst (λ y. HasEvent y.setup.version taken.event) leads taken.has)
        (ap (λ y. event_text y taken.event) leads);
    hall = taken.hall ∙ ap (λ h. with_event h taken.event) gone.hall ∙ one-event-more before.hall events taken.event;
    rules_are = are ∙ ap (λ (l : List Applied). l ++ listed found) gone.rules_are
        ∙ ap (λ (l : List Applied). rules_of 0 first events ++ l) (noted ∙ ap (λ y. rules_at number y taken.event) leads)
        ∙ sym (rules-more 0 number first events taken.event (omega (arith, counted)));
    known = more-known before.hall.setup.policy rules more found are gone.known
        (subst (λ (s : Setup). IfSome found (KnowsApplied s.policy)) setup-now known);
  }
