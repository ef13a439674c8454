use Rattle.std.proofs.Common.{◌≡◌, List, sym, ◌∙◌, ap, subst}
use Rattle.std.specs.Prelude.{IfSome, map}
use Rattle.std.proofs.lemmas.List.{get_or_read}
use Rattle.bl_setup.specs.Setup.{Setup}
use Rattle.bl_order.specs.Order.{Entry, is_rule, unnamed}
use Rattle.bl_replay.specs.Fed.{IsFed}
use Rattle.bl_replay.specs.Kept.{entry_in, no_place, task_in}
use Rattle.bl_replay.specs.Marks.{lost_later}
use Rattle.bl_replay.specs.Words.{AreWords, KnowsWords}
use Rattle.bl_work.specs.declared.answer.Answer.{Answer}
use Rattle.bl_replay.specs.declared.mark.Mark.{Mark}
use Rattle.bl_replay.specs.declared.place.Place.{Place}
use Rattle.bl_replay.proofs.Naming.{knows-by}
use Rattle.bl_replay.proofs.Queueing.{told-within}
use Rattle.bl_replay.proofs.replayer.Replayer.words.Goals as goal

pub returns-clause-words : goal.returns-clause-words
returns-clause-words c x keeps foretold may =
    let later : c.is_lost_later-later.result ≡ lost_later c.args.self.now.marks.items c.args.n =
    c.is_lost_later-later.ensures ∙ ap (λ (m : List Mark). lost_later m c.args.n) c.deref.ensures.value in
    subst (λ b. AreWords x c.args.n b c.start_words.result) later
    (c.start_words.ensures.words x (lost_later c.args.self.now.marks.items)
    (subst (λ (a : List Answer). IsFed x.setup (lost_later c.args.self.now.marks.items) (map unnamed x.order) c.args.self.now.monitor a) (sym c.deref-2.ensures.value)
    (subst (λ (o : List Entry). IsFed x.setup (lost_later c.args.self.now.marks.items) o c.args.self.now.monitor c.args.self.now.answers.items) (sym keeps.order) keeps.fed))
    foretold (c.what_is_at_hand_rests_on_ended_places.ensures.rests x keeps.reached) may later
    (c.is_rule-rule.ensures
    ∙ ap (λ (p : Place). is_rule (task_in p)) (get_or_read c.args.self.now.places.items c.args.n c.index.result.now (told-within x c.args.self.now keeps c.args.n c.requires.told) c.index.ensures no_place)
    ∙ ap is_rule (sym (keeps.tasks c.args.n (told-within x c.args.self.now keeps c.args.n c.requires.told)))))

pub returns-clause-known : goal.returns-clause-known
returns-clause-known c =
    knows-by c.args.self.now.version c.args.self.now.setup c.start_words.result (subst (λ (s : Setup). IfSome c.start_words.result (KnowsWords s)) (sym c.requires.keeps.1.setup)
    (c.start_words.ensures.known c.requires.keeps.0.setup (lost_later c.args.self.now.marks.items) (map entry_in c.args.self.now.places.items)
    (subst (λ (a : List Answer). IsFed c.requires.keeps.0.setup (lost_later c.args.self.now.marks.items) (map entry_in c.args.self.now.places.items) c.args.self.now.monitor a) (sym c.deref-2.ensures.value) c.requires.keeps.1.fed)))
