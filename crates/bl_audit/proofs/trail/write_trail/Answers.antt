use Rattle.std.proofs.Common.{◌≡◌, ◌∙◌, ℕ, sym, ap, subst, codes}
use Rattle.std.specs.Prelude.{false}
use Rattle.bl_setup.specs.Setup.{Setup}
use Rattle.bl_setup.specs.declared.version.Version.{Version}
use Rattle.bl_setup.specs.declared.version.Version.TheVariants.{Two}
use Rattle.bl_order.specs.Machine.{State}
use Rattle.bl_hall.specs.Chronicle.{Chronicle, state_now}
use Rattle.bl_wire.specs.Watch.{EndState, Puts}
use Rattle.bl_wire.proofs.PutLaws.{puts-all}
use Rattle.bl_trail.specs.TrueText.{HasNoLf, head_lines, joined}
use Rattle.std.specs.List.{AllByRecursion}
use Rattle.std.specs.Io.KnownBytes.{Appends}
use Rattle.bl_audit.specs.Written.{AppendsPart}
use Rattle.bl_audit.proofs.Trails.{all-after, limit-now, on_err, part-events, part-head, part-put, part-stop, part-taken, setup-now, true-text, wrote-whole}
use Rattle.bl_audit.proofs.trail.write_trail.Goals as goal

-- the setup of a hall's core is the hall's
by-two : (h : Chronicle) (core : State) (s : Setup) → s ≡ core.setup → core ≡ state_now h → s.version ≡ Two → h.setup.version ≡ Two
by-two h core s is now two = sym (ap (λ (u : Setup). u.version) (is ∙ ap (λ (x : State). x.setup) now ∙ setup-now h)) ∙ two

-- the head was put by version 2 and under the hall's limit
head : (v : Version) (h : Chronicle) (core : State) (m : ℕ) (x y : EndState) → v ≡ Two → m ≡ core.limit → core ≡ state_now h
    → Puts (joined (head_lines v m)) x y → Puts (joined (head_lines Two h.limit)) x y
head v h core m x y by is now puts =
    subst (λ n. Puts (joined (head_lines Two n)) x y) (is ∙ ap (λ (s : State). s.limit) now ∙ limit-now h) (subst (λ w. Puts (joined (head_lines w m)) x y) by puts)

pub returns-then-failed-clause-part : goal.returns-then-failed-clause-part
returns-then-failed-clause-part g c =
    let h = c.args.hall.now in
    let two : h.setup.version ≡ Two = by-two h c.core-core.result.now c.setup.result.now c.setup.ensures c.core-core.ensures.value c.version.ensures.two in
    part-head h two _ _ (part-put (joined (head_lines Two h.limit)) _ _
    (head c.version.result h c.core-core.result.now c.limit.result _ _ (c.version.ensures.value ∙ c.version.ensures.two) c.limit.ensures c.core-core.ensures.value c.put_head.ensures))

pub returns-in_err-write_lines-clause-part : goal.returns-in_err-write_lines-clause-part
returns-in_err-write_lines-clause-part g c =
    let h = c.args.hall.now in
    let two : h.setup.version ≡ Two = by-two h c.core-core.result.now c.setup.result.now c.setup.ensures c.core-core.ensures.value c.version.ensures.two in
    let fine : c.put_head.new.writer.failed ≡ false = sym c.failed.ensures ∙ c.if-failed.false in
    on_err c.from_residual.result _
    (part-events h two _ _ _ (puts-all (joined (head_lines Two h.limit)) _ _
    (head c.version.result h c.core-core.result.now c.limit.result _ _ (c.version.ensures.value ∙ c.version.ensures.two) c.limit.ensures c.core-core.ensures.value c.put_head.ensures) fine)
    (all-after h (λ l. AppendsPart (g.W.Write.contents c.put_head.new.writer.inner) (g.W.Write.contents c.write_lines.new.writer.inner) (joined l)) c.first-bookmark.result.written c.first-bookmark.ensures.none c.in_err-write_lines.ensures.part))

pub returns-then-put_out-clause-text : goal.returns-then-put_out-clause-text
returns-then-put_out-clause-text g c =
    let h = c.args.hall.now in
    let two : h.setup.version ≡ Two = by-two h c.core-core.result.now c.setup.result.now c.setup.ensures c.core-core.ensures.value c.version.ensures.two in
    let fine : c.put_head.new.writer.failed ≡ false = sym c.failed.ensures ∙ c.if-failed.false in
    wrote-whole h two _ _ _ _ (puts-all (joined (head_lines Two h.limit)) _ _
    (head c.version.result h c.core-core.result.now c.limit.result _ _ (c.version.ensures.value ∙ c.version.ensures.two) c.limit.ensures c.core-core.ensures.value c.put_head.ensures) fine)
    (all-after h (λ l. Appends (g.W.Write.contents c.put_head.new.writer.inner) (g.W.Write.contents c.write_lines.new.writer.inner) (joined l)) c.first-bookmark.result.written c.first-bookmark.ensures.none c.in_ok-write_lines.ensures.text) (c.put_out.ensures.all c.if-put_out.true)

pub returns-then-put_out-clause-true_text : goal.returns-then-put_out-clause-true_text
returns-then-put_out-clause-true_text g c =
    let h = c.args.hall.now in
    true-text h (by-two h c.core-core.result.now c.setup.result.now c.setup.ensures c.core-core.ensures.value c.version.ensures.two)
    c.core-core.ensures.trail (all-after h (AllByRecursion HasNoLf) c.first-bookmark.result.written c.first-bookmark.ensures.none c.in_ok-write_lines.ensures.plain) c.core-core.ensures.limit

pub returns-then-put_out-clause-accepted : goal.returns-then-put_out-clause-accepted
returns-then-put_out-clause-accepted g c verdict is =
    let h = c.args.hall.now in
    c.true_texts_are_accepted.ensures h.setup _ _ verdict
    (true-text h (by-two h c.core-core.result.now c.setup.result.now c.setup.ensures c.core-core.ensures.value c.version.ensures.two)
    c.core-core.ensures.trail (all-after h (AllByRecursion HasNoLf) c.first-bookmark.result.written c.first-bookmark.ensures.none c.in_ok-write_lines.ensures.plain) c.core-core.ensures.limit) is

pub returns-else-put_out-clause-part : goal.returns-else-put_out-clause-part
returns-else-put_out-clause-part g c =
    let h = c.args.hall.now in
    let two : h.setup.version ≡ Two = by-two h c.core-core.result.now c.setup.result.now c.setup.ensures c.core-core.ensures.value c.version.ensures.two in
    let fine : c.put_head.new.writer.failed ≡ false = sym c.failed.ensures ∙ c.if-failed.false in
    part-stop h two _ _ _ _ (puts-all (joined (head_lines Two h.limit)) _ _
    (head c.version.result h c.core-core.result.now c.limit.result _ _ (c.version.ensures.value ∙ c.version.ensures.two) c.limit.ensures c.core-core.ensures.value c.put_head.ensures) fine)
    (all-after h (λ l. Appends (g.W.Write.contents c.put_head.new.writer.inner) (g.W.Write.contents c.write_lines.new.writer.inner) (joined l)) c.first-bookmark.result.written c.first-bookmark.ensures.none c.in_ok-write_lines.ensures.text) (part-taken (codes "stop\n") _ _ c.put_out.ensures.some)
