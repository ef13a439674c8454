use Rattle.std.proofs.Common.{rules, ◌≡◌, ◌<◌, ◌≤◌, ◌++◌, ◌∷◌, [], ℕ, List, length, sym, ap, subst, ◌∙◌, codes, decimal, slice_index_or, true≢false}
use Rattle.std.specs.Prelude.{IsSome, Option, option_copied}
use Rattle.std.specs.Borrow.{Bor}
use Rattle.bl_work.specs.declared.answer.Answer.{Answer}
use Rattle.bl_work.specs.Names.{KnownNames, AreNames}
use Rattle.bl_work.specs.declared.asked.Line.TheVariants as asked
use Rattle.bl_work.specs.declared.work.Work.{Work}
use Rattle.bl_write.specs.CanonicalLine.{canonical_line}
use Rattle.bl_setup.specs.Agreement.{Agree}
use Rattle.bl_setup.specs.Setup.{Setup}
use Rattle.bl_order.specs.Machine.{State, Event, Opens, Admits, Starts, Ends, Loses}
use Rattle.bl_hall.specs.Chronicle.{kept_of}
use Rattle.bl_wire.specs.Named.{NamesAnswer}
use Rattle.bl_wire.specs.Replies.{answer_text}
use Rattle.bl_wire.specs.Watch.{EndState, Puts, end_state}
use Rattle.bl_trail.specs.StartWords.{NamesWords, words_text}
use Rattle.bl_trail.specs.TrueText.{HasNoLf}
use Rattle.bl_trail.specs.declared.text.Words.{Words}
use Rattle.bl_audit.specs.Comes.{Comes, HasLine, NumbersFit, lines_from, words_later, works_in}
use Rattle.bl_audit.proofs.Later.{told_of}
use Rattle.bl_wire.proofs.Naming.{names-answer}
use Rattle.bl_audit.proofs.Telling.{names-told, ok-four, told-is}
use Rattle.bl_audit.proofs.Texts.{admitted-line, end-line, ended-so, is-end, is-line, is-loss, is-open, is-start, loss-line, open-line, start-line, subject-there}
use Rattle.bl_audit.proofs.event.put_text.Goals as goal

-- the event that a kept one is, in place of it
as-event : (x : State) (e d : Event) (later : List Event) (end : State) (at : ℕ) → e ≡ d → Comes x e later end at → Comes x d later end at
as-event x e d later end at is comes = subst (λ (f : Event). Comes x f later end at) is comes

as-line : (x : State) (e d : Event) (later : List Event) (end : State) (next : ℕ) (old new : EndState) → e ≡ d → HasLine x d later end next old new → HasLine x e later end next old new
as-line x e d later end next old new is line = subst (λ (f : Event). HasLine x f later end next old new) (sym is) line

pub put_open-requires : goal.put_open-requires
put_open-requires g c =
    let s = c.in-Open.subject in
    let names : c.names-names.result.now ≡ c.args.core.now.setup.names = c.names-names.ensures.value ∙ ap (λ (u : Setup). u.names) c.setup.ensures in
    let agree : Agree c.args.core.now.setup = subst Agree c.setup.ensures c.names-names.ensures.agree in
    let is = is-open c.requires.1 s (c.requires.4 ∙ c.in-Open.is) in
    subst (λ (k : KnownNames). s < length k.subjects) (sym names)
    (subject-there c.requires.0 c.requires.2 c.args.core.now c.args.at s (as-event _ _ _ _ _ _ is c.requires.3) agree)

pub returns-in-Open-clause-told : goal.returns-in-Open-clause-told
returns-in-Open-clause-told g c x e later comes kept =
    let s = c.in-Open.subject in
    let end = c.args.core.now in
    let old = end_state g.W.Write.contents c.args.writer.now in
    let new = end_state g.W.Write.contents c.put_open.new.writer in
    let names : c.names-names.result.now ≡ end.setup.names = c.names-names.ensures.value ∙ ap (λ (u : Setup). u.names) c.setup.ensures in
    let agree : Agree end.setup = subst Agree c.setup.ensures c.names-names.ensures.agree in
    let are : AreNames end.setup.names = subst AreNames names c.scheme-scheme.ensures.names in
    let is = is-open e s (kept ∙ c.in-Open.is) in
    as-line x e (Opens s) later end c.args.at old new is
    (open-line x later end c.args.at old new s (as-event x e (Opens s) later end c.args.at is comes) agree are
    (subst (λ (k : KnownNames). Puts ((codes "open " ++ slice_index_or k.subjects s []) ++ 10 ∷ []) old new) names c.put_open.ensures))

pub put_next_line-requires : goal.put_next_line-requires
put_next_line-requires g c =
    let is = is-line c.requires.1 c.in-Line.session c.in-Line.ordinal (c.requires.4 ∙ c.in-Line.is) in
    (is.0, works_in c.requires.2, c.requires.3.lines ∙ ap (λ (d : Event). works_in (d ∷ c.requires.2)) is.1)

pub returns-in-Line-clause-told : goal.returns-in-Line-clause-told
returns-in-Line-clause-told g c =
    let i = c.in-Line.session in
    let k = c.in-Line.ordinal in
    let end = c.args.core.now in
    let old = end_state g.W.Write.contents c.args.writer.now in
    let new = end_state g.W.Write.contents c.put_next_line.new.writer in
    let same : c.new-session.result ≡ i = search rules in
    ok-four c.put_next_line.result
    (λ next. (w : Work) (rest : List Work) → lines_from end c.args.at ≡ w ∷ rest
    → Puts ((codes "line " ++ (decimal c.new-session.result ++ (32 ∷ (decimal k ++ (32 ∷ canonical_line end.setup.names (asked.Work w)))))) ++ 10 ∷ []) old new)
    (λ next. (w : Work) (rest : List Work) → lines_from end c.args.at ≡ w ∷ rest → HasNoLf (canonical_line end.setup.names (asked.Work w)))
    (λ next. next ≤ length end.order)
    (λ next. (w : Work) (rest : List Work) → lines_from end c.args.at ≡ w ∷ rest → lines_from end next ≡ rest)
    (λ next. (x : State) (e : Event) (later : List Event) → Comes x e later end c.args.at → kept_of e ≡ c.args.event.now → HasLine x e later end next old new)
    (λ next puts plain place more x e later comes kept.
    let is = is-line e i k (kept ∙ c.in-Line.is) in
    let lines : lines_from end c.args.at ≡ is.0 ∷ works_in later = comes.lines ∙ ap (λ (d : Event). works_in (d ∷ later)) is.1 in
    as-line x e (Admits i k is.0) later end next old new is.1
    (admitted-line x later end c.args.at old new i k next is.0 (as-event x e (Admits i k is.0) later end c.args.at is.1 comes)
    (subst NumbersFit c.in-Line.is c.numbers_fit.ensures).0 (subst NumbersFit c.in-Line.is c.numbers_fit.ensures).1
    (subst (λ (n : ℕ). Puts ((codes "line " ++ (decimal n ++ (32 ∷ (decimal k ++ (32 ∷ canonical_line end.setup.names (asked.Work is.0)))))) ++ 10 ∷ []) old new) same (puts is.0 (works_in later) lines)) (plain is.0 (works_in later) lines) place (more is.0 (works_in later) lines)))
    c.put_next_line.ensures.text c.put_next_line.ensures.plain c.put_next_line.ensures.place c.put_next_line.ensures.next

pub put_start-requires : goal.put_start-requires
put_start-requires g c =
    let names : c.names-names.result.now ≡ c.args.core.now.setup.names = c.names-names.ensures.value ∙ ap (λ (u : Setup). u.names) c.setup.ensures in
    let agree : Agree c.args.core.now.setup = subst Agree c.setup.ensures c.names-names.ensures.agree in
    subst (λ (k : KnownNames). NamesWords k c.start_words.result) (sym names)
    (subst (NamesWords c.args.core.now.setup.names) (sym c.start_words.ensures) (names-told c.args.core.now.setup agree c.answer.result c.answer.ensures.known))

pub returns-in-Start-clause-told : goal.returns-in-Start-clause-told
returns-in-Start-clause-told g c x e later comes kept =
    let n = c.in-Start.n in
    let end = c.args.core.now in
    let old = end_state g.W.Write.contents c.args.writer.now in
    let new = end_state g.W.Write.contents c.put_start.new.writer in
    let names : c.names-names.result.now ≡ end.setup.names = c.names-names.ensures.value ∙ ap (λ (u : Setup). u.names) c.setup.ensures in
    let agree : Agree end.setup = subst Agree c.setup.ensures c.names-names.ensures.agree in
    let are : AreNames end.setup.names = subst AreNames names c.scheme-scheme.ensures.names in
    let is = is-start e n (kept ∙ c.in-Start.is) in
    let told : option_copied c.answer.result ≡ told_of end n = told-is c.answer.result end n c.answer.ensures.value c.answer.ensures.some in
    let words : c.start_words.result ≡ words_later (told_of end n) = c.start_words.ensures ∙ ap words_later told in
    as-line x e (Starts n) later end c.args.at old new is
    (start-line x later end c.args.at old new n (as-event x e (Starts n) later end c.args.at is comes) (subst NumbersFit c.in-Start.is c.numbers_fit.ensures) are
    (subst (λ o. NamesWords end.setup.names (words_later o)) told (names-told end.setup agree c.answer.result c.answer.ensures.known))
    (subst (λ (w : Words). Puts ((codes "start " ++ (decimal n ++ words_text end.setup.names w)) ++ 10 ∷ []) old new) words
    (subst (λ (k : KnownNames). Puts ((codes "start " ++ (decimal n ++ words_text k c.start_words.result)) ++ 10 ∷ []) old new) names c.put_start.ensures)))

pub answer_is_plain-requires : goal.answer_is_plain-requires
answer_is_plain-requires g c =
    let names : c.names-names.result.now ≡ c.args.core.now.setup.names = c.names-names.ensures.value ∙ ap (λ (u : Setup). u.names) c.setup.ensures in
    let agree : Agree c.args.core.now.setup = subst Agree c.setup.ensures c.names-names.ensures.agree in
    subst (λ (k : KnownNames). NamesAnswer k c.in-Some.answer.now) (sym names) (names-answer c.args.core.now.setup agree c.in-Some.answer.now c.in-Some.ensures.known)

pub put_end-requires : goal.put_end-requires
put_end-requires g c =
    let names : c.names-names.result.now ≡ c.args.core.now.setup.names = c.names-names.ensures.value ∙ ap (λ (u : Setup). u.names) c.setup.ensures in
    let agree : Agree c.args.core.now.setup = subst Agree c.setup.ensures c.names-names.ensures.agree in
    subst (λ (k : KnownNames). NamesAnswer k c.in-Some.answer.now) (sym names) (names-answer c.args.core.now.setup agree c.in-Some.answer.now c.in-Some.ensures.known)

pub unreachable-requires : goal.unreachable-requires
unreachable-requires g c =
    let n = c.in-End.n in
    let is = is-end c.requires.1 n (c.requires.4 ∙ c.in-End.is) in
    let over = ended-so c.requires.0 c.requires.2 c.args.core.now c.args.at n (as-event c.requires.0 c.requires.1 (Ends n) c.requires.2 c.args.core.now c.args.at is c.requires.3) in
    true≢false (sym (subst (λ (r : Option (Bor Answer)). IsSome r) c.in_default.is (c.answer-in-End.ensures.some.1 over.0)))

pub returns-in-Some-clause-told : goal.returns-in-Some-clause-told
returns-in-Some-clause-told g c x e later comes kept =
    let n = c.in-End.n in
    let end = c.args.core.now in
    let old = end_state g.W.Write.contents c.args.writer.now in
    let new = end_state g.W.Write.contents c.put_end.new.writer in
    let names : c.names-names.result.now ≡ end.setup.names = c.names-names.ensures.value ∙ ap (λ (u : Setup). u.names) c.setup.ensures in
    let is = is-end e n (kept ∙ c.in-End.is) in
    as-line x e (Ends n) later end c.args.at old new is
    (end-line x later end c.args.at old new n (as-event x e (Ends n) later end c.args.at is comes) c.in-Some.answer.now c.in-Some.ensures.value (subst NumbersFit c.in-End.is c.numbers_fit.ensures)
    (subst (λ (k : KnownNames). Puts ((codes "end " ++ (decimal n ++ answer_text k c.in-Some.answer.now)) ++ 10 ∷ []) old new) names c.put_end.ensures)
    (subst (λ (k : KnownNames). HasNoLf (answer_text k c.in-Some.answer.now)) names c.answer_is_plain.ensures))

pub returns-in-Lost-clause-told : goal.returns-in-Lost-clause-told
returns-in-Lost-clause-told g c x e later comes kept =
    let n = c.in-Lost.n in
    let end = c.args.core.now in
    let old = end_state g.W.Write.contents c.args.writer.now in
    let new = end_state g.W.Write.contents c.put_loss.new.writer in
    let is = is-loss e n (kept ∙ c.in-Lost.is) in
    as-line x e (Loses n) later end c.args.at old new is
    (loss-line x later end c.args.at old new n (as-event x e (Loses n) later end c.args.at is comes) (subst NumbersFit c.in-Lost.is c.numbers_fit.ensures) c.put_loss.ensures)
