use Rattle.std.proofs.Common.{◌≡◌, ◌∷◌, length, sym, ap, subst, ◌∙◌, arith}
use Rattle.std.specs.Prelude.{All}
use Rattle.std.proofs.lemmas.List.Elements.{All-head, All-tail}
use Rattle.std.specs.Vec.Iter.{into_iter_items}
use Rattle.bl_host.specs.Threads.{IsPart}
use Rattle.bl_host.proofs.Passes.{remains_then}
use Rattle.bl_host.proofs.threads.join_threads.Goals as goal

pub loop-running-preserved : goal.loop-running-preserved
loop-running-preserved g c =
    let at = c.loop-running in
    let steps : into_iter_items at.running-iterator ≡ c.in-Some.running ∷ into_iter_items c.next.new.self = c.in-Some.ensures.steps.0 in
    let all : All (λ running. IsPart c.args.pass.now.gate running.promise.0.value) (c.in-Some.running ∷ into_iter_items c.next.new.self) = subst (All (λ running. IsPart c.args.pass.now.gate running.promise.0.value)) steps at.invariant.3 in
    let part = All-head (λ running. IsPart c.args.pass.now.gate running.promise.0.value) c.in-Some.running (into_iter_items c.next.new.self) all in
    let gone = c.in-Some.ensures.steps.1 in
    let short = ap length steps in
    let was = at.invariant.2 in
    let sum = at.invariant.1 in
    let met = c.meet.ensures.parts in
    let one = c.join-part.ensures.parts ∙ part.one in (
      remains_then _ _ _ at.invariant.0 (record {
        gate = c.meet.ensures.gate ∙ sym c.requires.gate ∙ sym at.invariant.0.gate;
        seen = c.meet.ensures.seen.0;
      }),
      omega arith,
      omega arith,
      All-tail (λ running. IsPart c.args.pass.now.gate running.promise.0.value) c.in-Some.running (into_iter_items c.next.new.self) all,
    )
