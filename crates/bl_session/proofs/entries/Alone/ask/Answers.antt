use Rattle.std.proofs.Common.{◌≡◌, ◌<◌, length, sym, ap, subst, ◌∙◌, arith, refl}
use Rattle.bl_work.specs.Readable.{IsReadable}
use Rattle.bl_setup.specs.Setup.{Setup}
use Rattle.bl_order.specs.Machine.{State, Admits, Needs, change, session_at, start}
use Rattle.bl_core.specs.Answers.{IsCause}
use Rattle.bl_hall.specs.Chronicle.{state_now, with_event}
use Rattle.bl_engine.specs.Requests.{SameUpTo}
use Rattle.bl_wire.specs.Replies.{line_text}
use Rattle.bl_session.specs.declared.entries.Pages.{Pages}
use Rattle.bl_session.specs.Pages.{AreLater}
use Rattle.bl_session.proofs.PageLaws.{only_full, state_next, asked_stands, asked_settled, came_asked, came_full}
use Rattle.bl_session.proofs.RunLaws.{setup_after}
use Rattle.bl_session.proofs.TrailLaws.{last_set}
use Rattle.bl_session.proofs.entries.Alone.ask.Goals as goal

pub readable_line-requires : goal.readable_line-requires
readable_line-requires c =
    let s = c.args.pages.now in
    let same : (state_now s.hall).setup ≡ c.args.self.now.setup = setup_after (start s.hall.setup s.hall.limit) s.hall.trail ∙ c.requires.opened.stands.setup_is in
    subst (λ (k : Setup). IsReadable k.names c.args.work) (sym same) c.requires.readable

pub returns-in-Ok-clause-opened : goal.returns-in-Ok-clause-opened
returns-in-Ok-clause-opened c =
    let opened = c.requires.opened in
    let s = c.args.pages.now in
    let x = state_now s.hall in
    let t : Pages = record { hall = c.readable_line.new.self; next = s.next; session = s.session } in
    let hall = c.in-Ok.ensures.ok.1 ∙ ap (λ j. with_event s.hall (Admits j c.args.ordinal c.args.work)) c.new.ensures in
    let at : state_now t.hall ≡ change x (Admits s.session c.args.ordinal c.args.work) = ap state_now hall ∙ state_next s.hall (Admits s.session c.args.ordinal c.args.work) in
    record {
      stands = asked_stands c.args.self.now.setup s.hall s t c.args.ordinal c.args.work opened.stands hall refl c.in-Ok.ensures.continues.trail;
      there = subst (λ (y : State). s.session < length y.sessions) (sym at) (last_set x.sessions s.session c.args.ordinal opened.there).0;
    }

pub returns-in-Ok-clause-came : goal.returns-in-Ok-clause-came
returns-in-Ok-clause-came c begun told came =
    let s = c.args.pages.now in
    let t : Pages = record { hall = c.readable_line.new.self; next = s.next; session = s.session } in
    let hall = c.in-Ok.ensures.ok.1 ∙ ap (λ j. with_event s.hall (Admits j c.args.ordinal c.args.work)) c.new.ensures in
    let needs = subst (λ j. Needs (state_now s.hall) (Admits j c.args.ordinal c.args.work)) c.new.ensures c.in-Ok.ensures.cause in
    came_asked c.args.self.now.setup begun s t c.args.ordinal c.args.work told came hall refl refl c.in-Ok.ensures.continues.trail needs

pub returns-in-Ok-clause-last : goal.returns-in-Ok-clause-last
returns-in-Ok-clause-last c =
    let s = c.args.pages.now in
    let x = state_now s.hall in
    let hall = c.in-Ok.ensures.ok.1 ∙ ap (λ j. with_event s.hall (Admits j c.args.ordinal c.args.work)) c.new.ensures in
    let needs = subst (λ j. Needs x (Admits j c.args.ordinal c.args.work)) c.new.ensures c.in-Ok.ensures.cause in
    let last = ap (λ (y : State). (session_at y s.session).last) (ap state_now hall ∙ state_next s.hall (Admits s.session c.args.ordinal c.args.work)) ∙ (last_set x.sessions s.session c.args.ordinal needs.0).1 in
    omega (arith, last)

pub returns-in-Ok-clause-settled : goal.returns-in-Ok-clause-settled
returns-in-Ok-clause-settled c n lt later =
    let s = c.args.pages.now in
    let x = state_now s.hall in
    let hall = c.in-Ok.ensures.ok.1 ∙ ap (λ j. with_event s.hall (Admits j c.args.ordinal c.args.work)) c.new.ensures in
    let at : state_now c.readable_line.new.self ≡ change x (Admits s.session c.args.ordinal c.args.work) = ap state_now hall ∙ state_next s.hall (Admits s.session c.args.ordinal c.args.work) in
    let still = asked_settled x s.session s.next c.args.ordinal n c.args.work c.requires.opened.stands.ran lt later in
    record {
      number = refl;
      later = subst (λ (y : State). AreLater s.next y.order n) (sym at) still.0;
      same = subst (λ (y : State). SameUpTo n (line_text x s.session) (line_text y s.session)) (sym at) still.1;
    }

pub returns-in-Full-clause-came : goal.returns-in-Full-clause-came
returns-in-Full-clause-came c begun told came =
    let s = c.args.pages.now in
    let t : Pages = record { hall = c.readable_line.new.self; next = s.next; session = s.session } in
    let full = subst (IsCause (state_now s.hall) c.new.result c.args.ordinal c.args.work) c.in-Full.is c.in-Err.ensures.cause.0 in
    came_full c.args.self.now.setup begun s t c.args.ordinal c.args.work told came c.in-Err.ensures.err refl refl full.3

pub unreachable-requires : goal.unreachable-requires
unreachable-requires c =
    let s = c.args.pages.now in
    let x = state_now s.hall in
    let opened = c.requires.opened in
    let same : x.setup ≡ c.args.self.now.setup = setup_after (start s.hall.setup s.hall.limit) s.hall.trail ∙ opened.stands.setup_is in
    let why = subst (λ j. IsCause x j c.args.ordinal c.args.work c.in-Err.refused.cause) c.new.ensures c.in-Err.ensures.cause.0 in
    only_full x s.session c.args.ordinal c.args.work c.in-Err.refused.cause opened.there (subst (λ (k : Setup). IsReadable k.names c.args.work) (sym same) c.requires.readable) c.requires.last why c.in-Stranger.is
