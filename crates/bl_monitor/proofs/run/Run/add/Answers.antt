use Rattle.std.proofs.Common.{◌≡◌, ◌<◌, ◌≤◌, [], ◌∷◌, ◌++◌, length, set, refl, ◌∙◌, ap, arith}
use Rattle.std.proofs.lemmas.List.{length-set}
use Rattle.bl_work.specs.Content.{most_bytes, added}
use Rattle.bl_monitor.specs.declared.run.Undo.TheVariants.{Cut}
use Rattle.bl_monitor.specs.Undoing.{content_listed, without}
use Rattle.bl_monitor.proofs.Runs.{run_added, read_content}
use Rattle.bl_monitor.proofs.Undoes.{one_back, cut_back}
use Rattle.bl_monitor.proofs.run.Run.add.Goals as goal

-- the content that is read is the document's
at : (c : goal.After-push_reserved) → c.index-contents-position.result ≡ content_listed c.args.contents.now c.args.doc
at c = read_content c.args.contents.now c.args.doc c.position.result c.index-contents-position.result c.index-contents-position.is c.position.ensures c.requires

-- and the text is added to it
put : (c : goal.After-push_reserved) → set c.args.contents.now c.position.result c.add.new.self ≡ set c.args.contents.now c.args.doc (added (content_listed c.args.contents.now c.args.doc) c.args.text.now)
put c =
    let grown : c.add.new.self ≡ added (content_listed c.args.contents.now c.args.doc) c.args.text.now = cc (c.in_ok-add.ensures.ok, at c, c.index-contents-position.is, c.bytes.ensures.value) in
    ap (λ i. set c.args.contents.now i c.add.new.self) c.position.ensures ∙ ap (set c.args.contents.now c.args.doc) grown

pub returns-clause-ran : goal.returns-clause-ran
returns-clause-ran c = λ start so_far stands. run_added start so_far c.args.contents.now c.args.self.now stands _ _ c.args.doc refl refl c.args.text.now (put c)

pub returns-clause-back : goal.returns-clause-back
returns-clause-back c =
    let same : c.bytes-len.result.now ≡ content_listed c.args.contents.now c.args.doc = cc (c.bytes-len.ensures.value, at c, c.index-contents-position.is) in
    let short : length (content_listed c.args.contents.now c.args.doc) ≤ most_bytes = omega (arith, c.bytes-len.ensures.content.short, ap length (at c), ap length c.index-contents-position.is) in
    let lt : c.args.doc < length c.args.contents.now = c.requires in
    one_back c.args.contents.now _ c.args.self.now _ (Cut c.args.doc (length c.bytes-len.result.now))
    (c.push_reserved.ensures.items ∙ ap (λ l. l ++ Cut c.args.doc (length c.bytes-len.result.now) ∷ []) c.in_ok-reserve.ensures.items)
    (length-set c.args.contents.now c.position.result c.add.new.self)
    (ap (λ n. without (Cut c.args.doc n) (set c.args.contents.now c.position.result c.add.new.self)) (ap length same)
    ∙ ap (without (Cut c.args.doc (length (content_listed c.args.contents.now c.args.doc)))) (put c)
    ∙ cut_back c.args.contents.now c.args.doc c.args.text.now lt short)
    (omega (arith, lt, length-set c.args.contents.now c.position.result c.add.new.self))
