use Rattle.std.proofs.Common.{◌≡◌, ◌<◌, [], ◌∷◌, ◌++◌, length, set, ◌∙◌, ap, arith}
use Rattle.std.proofs.lemmas.List.{length-set}
use Rattle.bl_monitor.specs.declared.run.Undo.TheVariants.{Put}
use Rattle.bl_monitor.specs.Undoing.{content_listed, without}
use Rattle.bl_monitor.proofs.Runs.{read_content}
use Rattle.bl_monitor.proofs.Undoes.{one_back, put_back}
use Rattle.bl_monitor.proofs.run.Run.put.Goals as goal

pub returns-clause-back : goal.returns-clause-back
returns-clause-back c =
    let at : c.index-contents-position.result ≡ content_listed c.args.contents.now c.args.doc = read_content c.args.contents.now c.args.doc c.position.result c.index-contents-position.result c.index-contents-position.is c.position.ensures c.requires in
    let was : c.replace-was.result ≡ content_listed c.args.contents.now c.args.doc = cc (c.replace-was.ensures.value, at, c.index-contents-position.is) in
    let lt : c.args.doc < length c.args.contents.now = c.requires in
    one_back c.args.contents.now _ c.args.self.now _ (Put c.args.doc c.replace-was.result)
    (c.push_reserved.ensures.items ∙ ap (λ l. l ++ Put c.args.doc c.replace-was.result ∷ []) c.in_ok-reserve.ensures.items)
    (length-set c.args.contents.now c.position.result c.replace-was.new.dest)
    (ap (λ t. without (Put c.args.doc t) (set c.args.contents.now c.position.result c.replace-was.new.dest)) was
    ∙ ap (λ i. without (Put c.args.doc (content_listed c.args.contents.now c.args.doc)) (set c.args.contents.now i c.replace-was.new.dest)) c.position.ensures
    ∙ put_back c.args.contents.now c.args.doc c.replace-was.new.dest)
    (omega (arith, lt, length-set c.args.contents.now c.position.result c.replace-was.new.dest))
