-- How a visit goes on: what was told brings it from one call to the next.
use Rattle.std.proofs.Common.{◌≡◌, ℕ, ◌<◌, ◌≤◌, ◌⊎◌, inl, inr, Bool, true, false, true≢false, List, [], ◌∷◌, ◌++◌, length, map, refl, sym, ap, subst, ◌∙◌, append-nil, arith, Option, Some, None, All, Result, Ok, Err}
use Rattle.std.specs.Prelude.{OnErr}
use Rattle.std.proofs.lemmas.List.Elements.{All-nil}
use Rattle.bl_work.specs.Names.{KnownNames}
use Rattle.bl_work.specs.Readable.{IsReadable}
use Rattle.bl_work.specs.declared.work.Work.{Work}
use Rattle.bl_setup.specs.Agreement.{Agree}
use Rattle.bl_order.specs.Machine.{State, Opens, Admits, start}
use Rattle.bl_core.specs.Answers.{IsCause}
use Rattle.bl_core.specs.declared.refusal.Cause.{Cause}
use Rattle.bl_core.specs.declared.refusal.Cause.TheVariants as cause
use Rattle.bl_hall.specs.Chronicle.{HasTrail}
use Rattle.bl_hall.specs.Told.{AreAnswers, reply_of}
use Rattle.bl_hall.specs.declared.reply.Reply as owned
use Rattle.bl_gate.specs.Gates.{GateId, PassView, Calls, Follows, hall_seen, state_seen}
use Rattle.bl_gate.proofs.Following.{base_stays, follows_itself, follows_then}
use Rattle.bl_worker.proofs.Adding.{adds_itself}
use Rattle.bl_wire.specs.Replies.{line_or_full, line_text}
use Rattle.bl_engine.specs.declared.request.Request.TheVariants as request
use Rattle.bl_engine.specs.declared.request.Request.{Request}
use Rattle.bl_engine.specs.Requests.{SameUpTo}
use Rattle.bl_session.proofs.RunLaws.{setup_after}
use Rattle.bl_serve.specs.Courses.{IsNoLineOf, IsOwn, IsCourse, KeepsQuiet, SpeaksAlone, Course}
use Rattle.bl_serve.specs.Told.{line_of, told_text, IsTold}
use Rattle.bl_serve.specs.Visits.{HasCome, HasTold, IsOf, IsSilent, course_of}
use Rattle.bl_serve.specs.declared.visit.Visit.{Visit}
use Rattle.bl_serve.proofs.Opened.{last_low}
use Rattle.bl_serve.proofs.Going.{block_text, course_asked, course_full, course_on, course_opened, course_settled}
use Rattle.bl_serve.proofs.Telling.{GoByLines}
use Rattle.bl_serve.proofs.ToldLaws.{text_new, text_stays, told_on}
use Rattle.bl_serve.proofs.Owning.{own_first, own_line, own_opened, own_then, own_turns, turns_no_line_of}
use Rattle.bl_serve.proofs.Transcribing.{heard}

-- what holds whatever a call gave holds where it gave an error
pub on_err : {A E P : Type 0} (r : Result A E) → P → OnErr r P
on_err (Ok x) p = tt
on_err (Err e) p = p

-- a visit that has just begun
pub come_first : (gate : GateId) (first : PassView) (visit : Visit) → Agree gate.base.setup → visit.pass.gate ≡ gate → first ≡ visit.pass → visit.session ≡ None → visit.last ≡ 0 → visit.upto ≡ 0 → HasCome gate first visit [] []
come_first gate first visit agree is same session last upto = record {
  own = record {
    agree = agree;
    gate_is = is;
    follows = subst (λ p. Follows p visit.pass) (sym same) (follows_itself visit.pass);
    told = All-nil (IsTold gate.base.setup.names 0 visit.upto);
    within = omega (arith, last, upto);
  };
  course = subst (λ o. HasTold gate first visit [] o []) (sym session) (record { none = refl; own = ap (λ p. p.own) (sym same); quiet = refl; last = last });
}

-- the same with these replies, as they are known
pub come_cut : (gate : GateId) (first : PassView) (visit : Visit) (replies more cut : List owned.Reply) (told : List Request) → cut ≡ more → HasCome gate first visit (replies ++ more) told → HasCome gate first visit (replies ++ cut) told
come_cut gate first visit replies more cut told is come = subst (λ (l : List owned.Reply). HasCome gate first visit (replies ++ l) told) (sym is) come

pub come_no_more : (gate : GateId) (first : PassView) (visit : Visit) (replies : List owned.Reply) (told : List Request) → HasCome gate first visit replies told → HasCome gate first visit (replies ++ []) told
come_no_more gate first visit replies told come = subst (λ (l : List owned.Reply). HasCome gate first visit l told) (sym (append-nil replies)) come

abbrev is_full : Cause → Bool
is_full cause.Stranger = false
is_full cause.Session = false
is_full cause.Ordinal = false
is_full cause.Full = true

-- a cause other than that there is no room
pub not_full : (why : Cause) → (why ≡ cause.Stranger) ⊎ ((why ≡ cause.Session) ⊎ (why ≡ cause.Ordinal)) → why ≡ cause.Full → ⊥
not_full why (inl is) full = true≢false (sym (ap is_full full) ∙ ap is_full is)
not_full why (inr (inl is)) full = true≢false (sym (ap is_full full) ∙ ap is_full is)
not_full why (inr (inr is)) full = true≢false (sym (ap is_full full) ∙ ap is_full is)

module _ (gate : GateId) (first : PassView) (old : Visit) (replies : List owned.Reply) where
  -- a visit that has told nothing has no session
  pub silent : HasCome gate first old replies [] → (old.session ≡ None) × IsSilent first old replies []
  silent c = go old.session refl c.course
    where
      go : (s : Option ℕ) → old.session ≡ s → HasTold gate first old replies s [] → (old.session ≡ None) × IsSilent first old replies []
      go None is course = (is, course)
      go (Some s) is course = absurd (omega (arith, ap length course.1.opened))

  -- and no line
  pub come_zero : HasCome gate first old replies [] → (old.last ≡ 0) × (old.upto ≡ 0)
  come_zero c = let last : old.last ≡ 0 = (silent c).1.last in (last, omega (arith, c.own.within, last))

  of_later : (new : Visit) → IsOf gate first old replies → Follows old.pass new.pass → new.upto ≡ old.upto → old.upto ≤ new.last → IsOf gate first new replies
  of_later new own follows upto within = record {
    agree = own.agree;
    gate_is = follows.gate ∙ own.gate_is;
    follows = follows_then first old.pass new.pass own.follows follows;
    told = subst (λ n. All (IsTold gate.base.setup.names 0 n) replies) (sym upto) own.told;
    within = subst (λ n. n ≤ new.last) (sym upto) within;
  }

  -- the session was opened
  pub come_opened : (new : Visit) (s u : ℕ) → HasCome gate first old replies [] → old.upto ≡ 0 → Follows old.pass new.pass → HasTrail (hall_seen new.pass)
      → Calls old.pass (Opens u) (λ x. s ≡ length x.sessions) new.pass → new.session ≡ Some s → new.upto ≡ old.upto → new.last ≡ old.last
      → HasCome gate first new replies (request.Opens u ∷ [])
  come_opened new s u c zero_upto follows legal call session upto last =
      let quiet = (silent c).1 in
      record {
        own = of_later new c.own follows upto (subst (λ n. old.upto ≤ n) (sym last) c.own.within);
        course = subst (λ o. HasTold gate first new replies o (request.Opens u ∷ [])) (sym session) (
          own_first first old.pass new.pass s quiet.own (own_opened old.pass new.pass s u (base_stays old.pass new.pass follows) call),
          subst (λ t. IsCourse gate.base.setup.names first new.pass t (request.Opens u ∷ []))
              (λ i. record { session = s; last = sym (last ∙ quiet.last) i; upto = sym (upto ∙ zero_upto) i; replies = told_text gate.base.setup.names replies })
              (course_opened gate.base.setup.names first old.pass new.pass [] (quiet.own ∙ sym (append-nil first.own)) (λ i some. absurd (omega (arith, some)))
              s u (told_text gate.base.setup.names replies) legal (base_stays old.pass new.pass follows) call (ap (λ l. told_text gate.base.setup.names l 0) quiet.quiet)),
        );
      }

  module _ (s : ℕ) (session : old.session ≡ Some s) (told : List Request) (c : HasCome gate first old replies told) where
    told_is : HasTold gate first old replies (Some s) told
    told_is = subst (λ o. HasTold gate first old replies o told) session c.course

    -- the session is the pass's own
    own_is : IsOwn first old.pass s
    own_is = told_is.0

    pub course_is : IsCourse gate.base.setup.names first old.pass (course_of gate.base.setup.names old replies s) told
    course_is = told_is.1

    -- while it keeps quiet
    pub come_quiet : (new : Visit) → KeepsQuiet old.pass new.pass → new.session ≡ old.session → new.upto ≡ old.upto → new.last ≡ old.last → HasCome gate first new replies told
    come_quiet new quiet same upto last = record {
      own = of_later new c.own quiet.follows upto (subst (λ n. old.upto ≤ n) (sym last) c.own.within);
      course = subst (λ o. HasTold gate first new replies o told) (sym (same ∙ session)) (
        own_turns first old.pass new.pass s own_is quiet.follows quiet.adds,
        subst (λ t. IsCourse gate.base.setup.names first new.pass t told)
            (λ i. record { session = s; last = sym last i; upto = sym upto i; replies = told_text gate.base.setup.names replies })
            (course_on old.pass new.pass quiet.follows (quiet.trail course_is.trail) gate.base.setup.names first (course_of gate.base.setup.names old replies s) told course_is (turns_no_line_of s old.pass new.pass quiet.adds)),
      );
    }

    module _ (new : Visit) (k : ℕ) (w : Work) (lt : old.last < k) (follows : Follows old.pass new.pass) (legal : HasTrail (hall_seen new.pass))
        (same : new.session ≡ old.session) (upto : new.upto ≡ old.upto) where
      later : Course
      later = record { session = s; last = k; upto = old.upto; replies = told_text gate.base.setup.names replies }

      -- a line was admitted
      pub come_asked : (A : State → Type 0) → Calls old.pass (Admits s k w) A new.pass → new.last ≡ k → HasCome gate first new replies (told ++ request.Admits k w ∷ [])
      come_asked A call last = record {
        own = of_later new c.own follows upto (omega (arith, c.own.within, lt, last));
        course = subst (λ o. HasTold gate first new replies o (told ++ request.Admits k w ∷ [])) (sym (same ∙ session)) (
          own_line first old.pass new.pass s k w A own_is follows call,
          subst (λ t. IsCourse gate.base.setup.names first new.pass t (told ++ request.Admits k w ∷ []))
              (λ i. record { session = s; last = sym last i; upto = sym upto i; replies = told_text gate.base.setup.names replies })
              (course_asked old.pass new.pass follows legal gate.base.setup.names first (course_of gate.base.setup.names old replies s) told course_is k w A lt c.own.within call),
        );
      }

      -- a line was refused
      module _ (own : new.pass.own ≡ old.pass.own) where
        after_quiet : IsCourse gate.base.setup.names first new.pass (course_of gate.base.setup.names old replies s) told
        after_quiet = course_on old.pass new.pass follows legal gate.base.setup.names first (course_of gate.base.setup.names old replies s) told course_is (adds_itself (λ _. IsNoLineOf s) old.pass new.pass own)

        -- the session is the pass's own still
        pub own_here : IsOwn first new.pass s
        own_here = own_then first old.pass new.pass s own_is follows (adds_itself _ old.pass new.pass own)

        -- since there was no room
        pub come_full : IsCause (state_seen new.pass) s k w cause.Full → new.last ≡ k → HasCome gate first new replies (told ++ request.Admits k w ∷ [])
        come_full is last = record {
          own = of_later new c.own follows upto (omega (arith, c.own.within, lt, last));
          course = subst (λ o. HasTold gate first new replies o (told ++ request.Admits k w ∷ [])) (sym (same ∙ session)) (
            own_here,
            subst (λ t. IsCourse gate.base.setup.names first new.pass t (told ++ request.Admits k w ∷ []))
                (λ i. record { session = s; last = sym last i; upto = sym upto i; replies = told_text gate.base.setup.names replies })
                (course_full gate.base.setup.names first new.pass (course_of gate.base.setup.names old replies s) told after_quiet k w lt is.3),
          );
        }

        names : gate.base.setup.names ≡ new.pass.gate.base.setup.names
        names = sym (ap (λ (g : GateId). g.base.setup.names) (follows.gate ∙ c.own.gate_is))

        -- for another cause: then another pass spoke for the session
        pub spoken_for : (why : Cause) → IsCause (state_seen new.pass) s k w why → (why ≡ cause.Full → ⊥) → IsReadable gate.base.setup.names w
            → SpeaksAlone first new.pass s → ⊥
        spoken_for cause.Stranger is other readable alone = is (subst (λ n. IsReadable n w) (names ∙ sym (ap (λ m. m.names) (setup_after (start new.pass.gate.base.setup new.pass.gate.base.limit) new.pass.seen))) readable)
        spoken_for cause.Session is other readable alone = let there = after_quiet.there in omega (arith, is.1, there)
        spoken_for cause.Ordinal is other readable alone =
            let h = heard gate.base.setup.names first new.pass (course_of gate.base.setup.names old replies s) told after_quiet names alone in
            let low = last_low (start new.pass.gate.base.setup new.pass.gate.base.limit) new.pass.seen s old.last (omega arith)
            (subst (All (λ (a : ℕ × Work). a.0 ≤ old.last)) (sym h.lines) after_quiet.admits.works_low)
            in
            omega (arith, is.2, low, lt)
        spoken_for cause.Full is other readable alone = other refl

    -- its lines were answered
    pub come_settled : GoByLines → (new : Visit) (more all : List owned.Reply) (ordinal : ℕ) → KeepsQuiet old.pass new.pass → HasTrail (hall_seen new.pass) → AreAnswers (state_seen new.pass) s old.upto (map reply_of all)
        → ((k : ℕ) → k ≤ ordinal → line_of k more ≡ line_of k all) → All (IsTold gate.base.setup.names old.upto ordinal) more → old.last ≤ ordinal → new.session ≡ old.session → new.upto ≡ ordinal → new.last ≡ ordinal
        → HasCome gate first new (replies ++ more) (told ++ request.Settles ∷ [])
    come_settled by_lines new more all ordinal quiet legal answers cut are le same upto last = record {
      own = record {
        agree = c.own.agree;
        gate_is = quiet.follows.gate ∙ c.own.gate_is;
        follows = follows_then first old.pass new.pass c.own.follows quiet.follows;
        told = subst (λ n. All (IsTold gate.base.setup.names 0 n) (replies ++ more)) (sym upto)
            (told_on gate.base.setup.names old.upto ordinal replies more (omega (arith, c.own.within, le)) c.own.told are);
        within = omega (arith, upto, last);
      };
      course = subst (λ o. HasTold gate first new (replies ++ more) o (told ++ request.Settles ∷ [])) (sym (same ∙ session)) (
        own_turns first old.pass new.pass s own_is quiet.follows quiet.adds,
        subst (λ t. IsCourse gate.base.setup.names first new.pass t (told ++ request.Settles ∷ []))
            (λ i. record { session = s; last = sym last i; upto = sym upto i; replies = told_text gate.base.setup.names (replies ++ more) })
            (course_settled gate.base.setup.names first new.pass (course_of gate.base.setup.names old replies s) told after_quiet ordinal (told_text gate.base.setup.names (replies ++ more)) le answers.waits
            (λ names was k low. either_side names was k low (below_or_not k old.upto))),
      );
    }
      where
        after_quiet : IsCourse gate.base.setup.names first new.pass (course_of gate.base.setup.names old replies s) told
        after_quiet = course_on old.pass new.pass quiet.follows legal gate.base.setup.names first (course_of gate.base.setup.names old replies s) told course_is (turns_no_line_of s old.pass new.pass quiet.adds)

        below_or_not : (a b : ℕ) → (a ≤ b) ⊎ (b < a)
        below_or_not a b = grind arith

        either_side : gate.base.setup.names ≡ new.pass.gate.base.setup.names → SameUpTo old.upto (told_text gate.base.setup.names replies) (line_text (state_seen new.pass) s)
            → (k : ℕ) → k ≤ ordinal → (k ≤ old.upto) ⊎ (old.upto < k) → line_text (state_seen new.pass) s k ≡ told_text gate.base.setup.names (replies ++ more) k
        either_side names was k low (inl before) = was k before ∙ sym (text_stays gate.base.setup.names old.upto ordinal replies more are k before)
        either_side names was k low (inr after) =
            sym (text_new gate.base.setup.names old.upto replies more c.own.told k after
            ∙ (ap (λ n. line_or_full n k (map reply_of (line_of k more))) (names ∙ sym (ap (λ m. m.names) (setup_after (start new.pass.gate.base.setup new.pass.gate.base.limit) new.pass.seen)))
            ∙ (ap (λ l. line_or_full (state_seen new.pass).setup.names k (map reply_of l)) (cut k low) ∙ block_text by_lines (state_seen new.pass) s all old.upto k after answers)))
