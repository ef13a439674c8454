use Rattle.std.proofs.Common.{◌≡◌, ap, subst, ◌∙◌, arith, length, length-append, refl, [], ◌∷◌, sym}
use Rattle.bl_setup.specs.Setup.{Setup}
use Rattle.bl_order.specs.Machine.{Session, State, Opens, change, session_at, start}
use Rattle.bl_core.specs.Answers.{IsNotOpened}
use Rattle.bl_hall.specs.Chronicle.{state_now}
use Rattle.bl_session.specs.declared.entries.Pages.{Pages}
use Rattle.bl_session.proofs.PageLaws.{state_next, came_state, came_opened, session_born}
use Rattle.bl_session.proofs.RunLaws.{setup_after}
use Rattle.bl_session.proofs.entries.Alone.open.Goals as goal

pub unreachable-requires : goal.unreachable-requires
unreachable-requires c =
    let s = c.args.pages.now in
    let x = state_now s.hall in
    let full = subst (IsNotOpened x c.args.subject) c.in-Err-Stranger.field-0-is c.in-Err-Stranger.ensures.cause in
    let same : x.setup ≡ c.args.self.now.setup = setup_after (start s.hall.setup s.hall.limit) s.hall.trail ∙ c.requires.came.1.stands.setup_is in
    omega (arith, full, c.requires.subject, ap (λ (k : Setup). length k.policy.subjects) same)

pub unreachable-requires-in-Err-SessionsFull : goal.unreachable-requires-in-Err-SessionsFull
unreachable-requires-in-Err-SessionsFull c =
    let s = c.args.pages.now in
    let x = state_now s.hall in
    let came = c.requires.came.1 in
    let full = subst (IsNotOpened x c.args.subject) c.in-Err-SessionsFull.field-0-is c.in-Err-SessionsFull.ensures.cause in
    let none : x ≡ state_now c.requires.came.0 = came_state c.args.self.now.setup c.requires.came.0 s [] came in
    omega (arith, full.1, ap (λ (y : State). length y.sessions) none, came.began.room, came.began.session_is)

pub returns-clause-came : goal.returns-clause-came
returns-clause-came c begun came =
    let s = c.args.pages.now in
    let t : Pages = record { hall = c.open.new.self; next = s.next; session = s.session } in
    came_opened c.args.self.now.setup begun s t c.args.subject came c.in-Ok.ensures.ok.1 refl refl c.in-Ok.ensures.continues.trail

pub returns-clause-opened : goal.returns-clause-opened
returns-clause-opened c =
    let s = c.args.pages.now in
    let x = state_now s.hall in
    let begun = c.requires.came.0 in
    let came = c.requires.came.1 in
    let t : Pages = record { hall = c.open.new.self; next = s.next; session = s.session } in
    let at : state_now t.hall ≡ change x (Opens c.args.subject) = ap state_now c.in-Ok.ensures.ok.1 ∙ state_next s.hall (Opens c.args.subject) in
    let none : x ≡ state_now begun = came_state c.args.self.now.setup begun s [] came in
    record {
      stands = (came_opened c.args.self.now.setup begun s t c.args.subject came c.in-Ok.ensures.ok.1 refl refl c.in-Ok.ensures.continues.trail).stands;
      there = omega (arith, ap (λ (y : State). length y.sessions) at, length-append x.sessions (record { subject = c.args.subject; last = 0 } ∷ []), came.began.session_is, ap (λ (y : State). length y.sessions) none);
    }

pub returns-clause-last : goal.returns-clause-last
returns-clause-last c =
    let s = c.args.pages.now in
    let x = state_now s.hall in
    let begun = c.requires.came.0 in
    let came = c.requires.came.1 in
    let none : x ≡ state_now begun = came_state c.args.self.now.setup begun s [] came in
    let number : s.session ≡ length x.sessions = came.began.session_is ∙ sym (ap (λ (y : State). length y.sessions) none) in
    ap (λ (y : State). (session_at y s.session).last) (ap state_now c.in-Ok.ensures.ok.1 ∙ state_next s.hall (Opens c.args.subject))
    ∙ ap (λ i. (session_at (change x (Opens c.args.subject)) i).last) number
    ∙ ap (λ (r : Session). r.last) (session_born x.sessions (record { subject = c.args.subject; last = 0 }))

pub returns-clause-settled : goal.returns-clause-settled
returns-clause-settled c n =
    let s = c.args.pages.now in
    let begun = c.requires.came.0 in
    let came = c.requires.came.1 in
    let none : state_now s.hall ≡ state_now begun = came_state c.args.self.now.setup begun s [] came in
    let at : state_now c.open.new.self ≡ change (state_now s.hall) (Opens c.args.subject) = ap state_now c.in-Ok.ensures.ok.1 ∙ state_next s.hall (Opens c.args.subject) in
    λ p low lt. absurd (omega (arith, low, lt, ap (λ (y : State). length y.order) at, ap (λ (y : State). length y.order) none, came.began.over))
