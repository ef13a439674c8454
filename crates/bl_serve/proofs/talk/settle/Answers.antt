use Rattle.std.proofs.Common.{◌≡◌, ◌<◌, ◌∙◌, Bool, true, false, if◌then◌else◌, nat_le, ℕ, All, List, [], refl, sym, ap, subst, arith}
use Rattle.std.proofs.lemmas.Bool.Decides.{nat_tests}
use Rattle.bl_engine.proofs.Outcomes.{on_ok-map, if_err-both}
use Rattle.bl_work.specs.Names.{KnownNames}
use Rattle.bl_hall.specs.declared.reply.Reply.{Reply}
use Rattle.bl_serve.specs.declared.talk.Told.{Told}
use Rattle.bl_engine.specs.View.{ends}
use Rattle.bl_wire.specs.declared.fault.SessionFault.{SessionFault}
use Rattle.bl_wire.specs.declared.fault.SessionFault.TheVariants.{Memory, Write}
use Rattle.bl_serve.specs.Told.{told_text, IsBlock}
use Rattle.bl_serve.specs.Talks.{HasStopped}
use Rattle.bl_serve.specs.Telling.{left_of}
use Rattle.bl_wire.specs.Named.{NamesAnswer}
use Rattle.bl_serve.proofs.Faults.{memory_alone}
use Rattle.bl_serve.proofs.ToldLaws.{all_named, page_first}
use Rattle.bl_serve.proofs.TalkEnds.{stopped_as, talk_unsettled, talk_untold}
use Rattle.bl_serve.proofs.TalkLaws.{has_settled, settled_spoke, settling_open}
use Rattle.bl_serve.proofs.talk.settle.Goals as goal

pub settle-requires-clause-opened : goal.settle-requires-clause-opened
settle-requires-clause-opened g c =
    let asks = c.requires.asks in
    settling_open c.args.visitor.now.gate.now c.args.visitor.now.first.value _ c.args.conv.now c.args.visit.now asks.3

pub returns-in_err-replies-clause-err : goal.returns-in_err-replies-clause-err
returns-in_err-replies-clause-err g c =
    let gate = c.args.visitor.now.gate.now in
    let first = c.args.visitor.now.first.value in
    let w = g.W.Write.contents c.args.writer.now.inner in
    memory_alone c.from_residual.result _ c.from_residual.ensures.1 (λ start rest written a.
    stopped_as Memory gate first (ends start rest written w) c.settle.new.visit false false false c.args.writer.now.failed refl (sym c.requires.writer)
    (talk_unsettled gate first start rest written w c.args.conv.now c.args.visit.now c.settle.new.visit a c.settle.ensures.session c.in_err-replies.ensures.same c.in_err-replies.ensures.kept))

-- above the last ordinal before the block nothing was taken
not_le : (k n : ℕ) → n < k → nat_le k n ≡ false
not_le k n lt = grind (arith, nat_tests)

left_is : (b : Told) (names : KnownNames) (block : List Reply) (after : ℕ) → b.names.now ≡ names → b.replies.items ≡ block → b.upto ≡ after → (k : ℕ) → after < k → left_of b k ≡ told_text names block k
left_is b names block after n t u k lt =
    ap (λ (o : Bool). if o then [] else told_text b.names.now b.replies.items k) (not_le k b.upto (omega (arith, u, lt)))
    ∙ ap (λ (m : KnownNames). told_text m b.replies.items k) n ∙ ap (λ (l : List Reply). told_text names l k) t

pub tell_all-requires-clause-stands : goal.tell_all-requires-clause-stands
tell_all-requires-clause-stands g c =
    let gate = c.args.visitor.now.gate.now in
    let block = c.in_ok-replies.ensures.block in (
      c.args.conv.now.after,
      omega (arith, c.answered.ensures.block.after),
      record {
        upto = omega (arith, c.after-upto.ensures);
        page = page_first c.in_ok-replies.replies.items c.args.conv.now.after block.order;
        named = subst (λ (n : KnownNames). All (λ (r : Reply). NamesAnswer n r.answer) c.in_ok-replies.replies.items) (sym c.names.ensures.value)
            (all_named gate.base.setup.names c.args.visit.now.upto c.ordinal.result c.in_ok-replies.replies.items block.are);
      },
    )

pub returns-clause-ok : goal.returns-clause-ok
returns-clause-ok g c =
    let gate = c.args.visitor.now.gate.now in
    let first = c.args.visitor.now.first.value in
    let conv = c.args.conv.now in
    let block = c.in_ok-replies.replies.items in
    let w = g.W.Write.contents c.args.writer.now.inner in
    let told_by : Told = record { names = c.names.result; replies = c.in_ok-replies.replies; next = 0; upto = c.after-upto.result } in
    on_ok-map c.tell_all.result (λ told start rest written a.
    has_settled gate first start rest written w conv c.answered.new.self c.args.visit.now c.settle.new.visit block a c.settle.ensures.session (c.in_ok-replies.ensures.upto.0 ∙ c.ordinal.ensures)
    (subst (λ (n : ℕ). IsBlock gate.base.setup.names c.args.visit.now.upto n block) c.ordinal.ensures c.in_ok-replies.ensures.block)
    c.answered.ensures.block c.answered.ensures.answered (left_of told_by) (left_is told_by gate.base.setup.names block conv.after c.names.ensures.value refl c.after-upto.ensures)
    _ c.tell_all.new.conv (g.W.Write.contents c.tell_all.new.writer.inner) told c.in_ok-replies.ensures.come (omega (arith, c.settle.ensures.last, c.ordinal.ensures)))
    c.tell_all.ensures.ok

pub returns-clause-err : goal.returns-clause-err
returns-clause-err g c =
    let gate = c.args.visitor.now.gate.now in
    let first = c.args.visitor.now.first.value in
    let conv = c.args.conv.now in
    let t = c.settle.new.visit in
    let block = c.in_ok-replies.replies.items in
    let w = g.W.Write.contents c.args.writer.now.inner in
    let w' = g.W.Write.contents c.tell_all.new.writer.inner in
    let told_by : Told = record { names = c.names.result; replies = c.in_ok-replies.replies; next = 0; upto = c.after-upto.result } in
    if_err-both c.tell_all.result (λ fault part write start rest written a.
    subst (λ (f : SessionFault). HasStopped f gate first (ends start rest written w') false c.tell_all.new.writer.failed t) (sym write.0)
    (stopped_as Write gate first (ends start rest written w') t false true false c.tell_all.new.writer.failed refl (sym write.1)
    (talk_untold gate first start rest written w conv c.args.visit.now t block c.answered.new.self (left_of told_by) w' a c.answered.ensures.block.ended
    (settled_spoke gate first start rest written w conv c.answered.new.self c.args.visit.now t block a c.settle.ensures.session (c.in_ok-replies.ensures.upto.0 ∙ c.ordinal.ensures)
    (subst (λ (n : ℕ). IsBlock gate.base.setup.names c.args.visit.now.upto n block) c.ordinal.ensures c.in_ok-replies.ensures.block)
    c.answered.ensures.block c.answered.ensures.answered (left_of told_by) (left_is told_by gate.base.setup.names block conv.after c.names.ensures.value refl c.after-upto.ensures))
    c.in_ok-replies.ensures.come part)))
    c.tell_all.ensures.part c.tell_all.ensures.write
