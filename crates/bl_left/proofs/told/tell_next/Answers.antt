use Rattle.std.proofs.Common.{◌≡◌, ◌++◌, ◌∷◌, [], ℕ, List, length, sym, subst, ap, ◌∙◌, arith, get_or}
use Rattle.std.specs.Prelude.{Err, map}
use Rattle.bl_work.specs.declared.answer.Answer.{Answer}
use Rattle.bl_monitor.specs.Heard.{Heard, MayCome, answer_at, with_entry}
use Rattle.bl_replay.specs.Fed.{IsFed}
use Rattle.bl_replay.specs.Kept.{entry_in, entry_told}
use Rattle.bl_replay.specs.Marks.{lost_later}
use Rattle.bl_replay.proofs.Feeding.{fed-next, may-come}
use Rattle.bl_left.proofs.told.tell_next.Goals as goal

pub unreachable-requires : goal.unreachable-requires
unreachable-requires c =
    let h : Heard = c.args.monitor.now in
    let answers : List Answer = c.args.answers.now.items in
    let same : c.len-n.result ≡ length answers = omega (arith, c.len-n.ensures, c.args.answers.now.ok.0) in
    let told : c.in_ok-entry.entry ≡ entry_told c.index-places-n.result (lost_later c.args.marks.now (length answers)) =
    c.in_ok-entry.ensures ∙ ap (entry_told c.index-places-n.result) (c.is_lost_later.ensures ∙ ap (lost_later c.args.marks.now) same) in
    (c.in-Err-NoChild.ensures.no_child).0 (ap Err c.in-Err-NoChild.field-0-is)
    (subst (MayCome h) (sym told)
    (may-come h.setup (lost_later c.args.marks.now) c.args.places.now h answers c.index-places-n.result c.index-places-n.result c.requires.fed c.requires.come c.requires.more
    (c.index-places-n.is ∙ ap (λ (m : ℕ). get_or c.args.places.now m c.index-places-n.result) same)))

pub returns-clause-fed : goal.returns-clause-fed
returns-clause-fed c =
    let h : Heard = c.args.monitor.now in
    let answers : List Answer = c.args.answers.now.items in
    let same : c.len-n.result ≡ length answers = omega (arith, c.len-n.ensures, c.args.answers.now.ok.0) in
    let told : c.in_ok-entry.entry ≡ entry_told c.index-places-n.result (lost_later c.args.marks.now (length answers)) =
    c.in_ok-entry.ensures ∙ ap (entry_told c.index-places-n.result) (c.is_lost_later.ensures ∙ ap (lost_later c.args.marks.now) same) in
    let next : c.next.new.self ≡ with_entry h (entry_told c.index-places-n.result (lost_later c.args.marks.now (length answers))) =
    c.in-Ok.ensures.order ∙ ap (with_entry h) told in
    subst (λ (a : List Answer). IsFed h.setup (lost_later c.args.marks.now) (map entry_in c.args.places.now) c.next.new.self a) (sym c.in_ok-push.ensures.items)
    (subst (λ (m : Heard). IsFed h.setup (lost_later c.args.marks.now) (map entry_in c.args.places.now) m (answers ++ c.in-Ok.answer ∷ [])) (sym next)
    (fed-next h.setup (lost_later c.args.marks.now) c.args.places.now h answers c.in-Ok.answer c.index-places-n.result c.index-places-n.result c.requires.fed c.requires.more (c.index-places-n.is ∙ ap (λ (m : ℕ). get_or c.args.places.now m c.index-places-n.result) same)
    (c.in-Ok.ensures.answer ∙ ap (λ (m : Heard). answer_at m (length h.order)) next) c.in-Ok.ensures.ids))
