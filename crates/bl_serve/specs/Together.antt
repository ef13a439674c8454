-- Many sessions of one pass.
use Rattle.std.specs.Prelude.{◌≡◌, ◌≢◌, ◌<◌, ℕ, List, [], ◌∷◌, ◌++◌, All, AllPairs, get_or, length}
use Rattle.bl_work.specs.Names.{KnownNames}
use Rattle.bl_order.specs.Machine.{Event, Opens, Admits, Starts, Ends, Loses}
use Rattle.bl_hall.specs.Chronicle.{HasTrail}
use Rattle.bl_gate.specs.Gates.{Calls, PassView, Follows, hall_seen}
use Rattle.bl_worker.specs.Turns.{Adds}
use Rattle.bl_engine.specs.declared.request.Request.{Request}
use Rattle.bl_engine.specs.declared.request.Request.TheVariants as request
use Rattle.bl_serve.specs.Told.{told_text}
use Rattle.bl_serve.specs.Courses.{Course, IsCourse, SpeaksForItsOwn}

-- no line of another session
abbrev pub IsNoLineBut : ℕ → Event → Type 0
IsNoLineBut session (Opens subject) = Unit {0}
IsNoLineBut session (Admits other ordinal work) = other ≡ session
IsNoLineBut session (Starts n) = Unit {0}
IsNoLineBut session (Ends n) = Unit {0}
IsNoLineBut session (Loses n) = Unit {0}

-- the pass has spoken for no session but this one since then
abbrev pub SpeaksForNoOther : ℕ → PassView → PassView → Type 0
SpeaksForNoOther session before after = Adds (λ _. IsNoLineBut session) before after

-- the same pass later, when it has seen a trail
pub record GoesOnTo (before after : PassView) : Type 0 where
  pub follows : Follows before after
  pub trail : HasTrail (hall_seen after)

-- how a session stands, and what was told of it
pub record Standing : Type 0 where
  pub course : Course
  pub told : List Request

-- a session that was just opened
abbrev pub just_opened : KnownNames → (subject session : ℕ) → Standing
just_opened names subject session = record {
  course = record { session = session; last = 0; upto = 0; replies = told_text names [] };
  told = request.Opens subject ∷ [];
}

-- Sessions that share a pass: since `first` it spoke for no session but such as it opened, each of these is on course
-- with it, and no two have the same number.
pub record AreOnCourse (names : KnownNames) (first pass : PassView) (sessions : List Standing) : Type 0 where
  pub speaks : SpeaksForItsOwn first pass
  pub each : All (λ (s : Standing). IsCourse names first pass s.course s.told) sessions
  pub differ : AllPairs (λ (s t : Standing). s.course.session ≢ t.course.session) sessions

-- a course is one with the pass still, after it has gone on
abbrev pub StaysOnCourse : Course → (before after : PassView) → Type 0
StaysOnCourse course before after =
    (names : KnownNames) (first : PassView) (told : List Request) → IsCourse names first before course told
    → IsCourse names first after course told

-- after it has gone on, sessions that were on course are these, on course
abbrev pub StayOnCourse : (before after : PassView) → List Standing → (KnownNames → List Standing) → Type 0
StayOnCourse before after was now =
    (names : KnownNames) (first : PassView) → AreOnCourse names first before was
    → AreOnCourse names first after (now names)

-- of these sessions the one at a place comes to stand so, and the pass speaks for no other one
pub record OneGoesOn (sessions : List Standing) (i : ℕ) (s : Standing) (before after : PassView) : Type 0 where
  pub there : i < length sessions
  pub same : s.course.session ≡ (get_or sessions i s).course.session
  pub alone : SpeaksForNoOther s.course.session before after

-- a session with this number is opened for a subject: it is that of the sessions before it
abbrev pub OpensSession : (subject session : ℕ) → (before after : PassView) → Type 0
OpensSession subject session before after = Calls before (Opens subject) (λ x. session ≡ length x.sessions) after

-- these sessions, and it
abbrev pub with_opened : List Standing → (subject session : ℕ) → KnownNames → List Standing
with_opened sessions subject session names = sessions ++ just_opened names subject session ∷ []
