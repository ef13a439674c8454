-- A member stays where it is while its pass goes on for others.
use Rattle.std.proofs.Common.{◌≡◌, ℕ, inl, inr, List, [], length, refl, sym, ap, subst, ◌∙◌, arith, Option, Some, None}
use Rattle.std.proofs.lemmas.List.Elements.{All-nil}
use Rattle.bl_work.specs.Names.{KnownNames}
use Rattle.bl_setup.specs.Agreement.{Agree}
use Rattle.bl_order.specs.Machine.{Event, Opens, Admits, Starts, Ends, Loses}
use Rattle.bl_hall.specs.Chronicle.{Chronicle, HasTrail}
use Rattle.bl_gate.specs.Gates.{PassView, Follows, hall_seen, state_seen}
use Rattle.bl_gate.proofs.Following.{base_stays, follows_itself, follows_then}
use Rattle.bl_worker.specs.Turns.{AdmitsNoLine, IsNoLine}
use Rattle.bl_worker.proofs.Adding.{adds_as}
use Rattle.bl_wire.specs.declared.fault.SessionFault.{SessionFault}
use Rattle.bl_wire.specs.declared.turn.Turn.{Turn}
use Rattle.bl_engine.specs.declared.request.Request.{Request}
use Rattle.bl_serve.specs.Courses.{AdmitsNoLineOf, IsCourse, IsNoLineOf, SpeaksForItsOwn}
use Rattle.bl_serve.specs.Together.{AreOnCourse, GoesOnTo, Standing}
use Rattle.bl_serve.specs.Visits.{IsCrowded}
use Rattle.bl_serve.proofs.Going.{state_is}
use Rattle.bl_serve.proofs.Opened.{sessions_grow}
use Rattle.bl_serve.proofs.Together.{all_stay, stays}
use Rattle.bl_crowd.specs.Members.{Account, HasCourse, course_of}
use Rattle.bl_crowd.specs.Ways.{HasFailed, IsHome, IsMember, IsUnderWay, StandsSo, account_of}
use Rattle.bl_crowd.specs.declared.member.Member.{Member}
use Rattle.bl_crowd.specs.declared.member.Reception.{Reception}
use Rattle.bl_crowd.specs.declared.member.Reception.TheVariants.{Awaited, Open, Full}

-- as many sessions as there may be stay so many
pub crowded_on : (p q : PassView) → GoesOnTo p q → IsCrowded p → IsCrowded q
crowded_on p q on full = record {
  trail = on.trail;
  full =
      let is = ap (λ y. length y.sessions) (state_is p q on.follows on.trail) in
      let grown = sessions_grow (state_seen p) on.follows.seen.0 in
      let most = full.full in
      omega (arith, is, grown, most);
}

-- the pass stays at its hall
pub home_on : (names : KnownNames) (p q : PassView) → Follows p q → IsHome names p → IsHome names q
home_on names p q follows home = record {
  agree = subst (λ (b : Chronicle). Agree b.setup) (sym (base_stays p q follows)) home.agree;
  names_are = home.names_are ∙ ap (λ (b : Chronicle). b.setup.names) (sym (base_stays p q follows));
}

pub goes_itself : (p : PassView) → HasTrail (hall_seen p) → GoesOnTo p p
goes_itself p legal = record { follows = follows_itself p; trail = legal }

pub goes_then : (p q r : PassView) → GoesOnTo p q → GoesOnTo q r → GoesOnTo p r
goes_then p q r f g = record { follows = follows_then p q r f.follows g.follows; trail = g.trail }

-- what admits no line admits none of a session
pub none_of : (session : ℕ) (p q : PassView) → AdmitsNoLine p q → AdmitsNoLineOf session p q
none_of session p q none = adds_as (λ _. IsNoLine) (λ _. IsNoLineOf session) p q none (λ i. by)
  where
    by : (e : Event) → IsNoLine e → IsNoLineOf session e
    by (Opens u) h = tt
    by (Admits s k w) h = absurd h
    by (Starts n) h = tt
    by (Ends n) h = tt
    by (Loses n) h = tt

-- no session stands alone
pub speaks_alone : (names : KnownNames) (first p : PassView) → SpeaksForItsOwn first p → AreOnCourse names first p []
speaks_alone names first p speaks = record {
  speaks = speaks;
  each = All-nil (λ (s : Standing). IsCourse names first p s.course s.told);
  differ = λ i j d lt inside. absurd (omega (arith, inside));
}

-- what admits no line speaks for none
pub speaks_on : (names : KnownNames) (first p q : PassView) → GoesOnTo p q → AdmitsNoLine p q → SpeaksForItsOwn first p → SpeaksForItsOwn first q
speaks_on names first p q on none speaks = (all_stay names first p q [] (speaks_alone names first p speaks) on none).speaks

module _ (names : KnownNames) (first p q : PassView) (on : GoesOnTo p q) where
  pub course_goes : (account : Account) (turns : List Turn) (asked : Option Request) (reception : Reception)
      → ((session : ℕ) → reception ≡ Open session → AdmitsNoLineOf session p q)
      → HasCourse names first p account turns asked reception → HasCourse names first q account turns asked reception
  course_goes account turns asked Awaited none c = c
  course_goes account turns asked (Open session) none c = stays names first p q (course_of names account session) account.done on (none session refl) c
  course_goes account turns asked Full none c = record {
    crowded = crowded_on p q on c.crowded;
    subject = c.subject;
    opened = c.opened;
    done_is = c.done_is;
    none = c.none;
  }

  module _ {S : Type 0} (remaining contents : S → Option (List ℕ)) (member : Member S) (none : (session : ℕ) → member.reception ≡ Open session → AdmitsNoLineOf session p q) where
    pub way_goes : (asked : Option Request) → IsUnderWay remaining contents names first p member asked → IsUnderWay remaining contents names first q member asked
    way_goes asked w = record {
      x = w.x;
      replies = w.replies;
      done = w.done;
      joined = w.joined;
      course = course_goes (account_of member w.replies w.done) w.x.turns asked member.reception none w.course;
      asks = w.asks;
      told = w.told;
      block = w.block;
      names_are = w.names_are;
    }

    failed_goes : (fault : SessionFault) → HasFailed remaining contents names first p member fault → HasFailed remaining contents names first q member fault
    failed_goes fault f = record {
      begun = f.begun;
      x = f.x;
      replies = f.replies;
      course = course_goes (account_of member f.replies f.x.asked) f.x.turns None member.reception none f.course;
      told = f.told;
      kind = f.kind;
      kind_is = f.kind_is;
      stopped = f.stopped;
    }

    stands_on : (fault : Option SessionFault) → StandsSo remaining contents names first p member fault → StandsSo remaining contents names first q member fault
    stands_on None w = way_goes member.asked w
    stands_on (Some fault) (inl w) = inl (way_goes member.asked w)
    stands_on (Some fault) (inr f) = inr (failed_goes fault f)

    pub member_goes : IsMember remaining contents names first p member → IsMember remaining contents names first q member
    member_goes = stands_on member.fault
