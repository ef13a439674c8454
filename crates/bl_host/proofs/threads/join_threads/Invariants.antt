use Rattle.std.proofs.Common.{◌≡◌, ◌+◌, length}
use Rattle.std.specs.Prelude.{All}
use Rattle.std.specs.Vec.Iter.{into_iter_len, into_iter_items}
use Rattle.bl_host.specs.Threads.{IsPart, Remains}
use Rattle.bl_host.proofs.threads.join_threads.Given as goal

-- who was joined has given back its part, and who was not has one
abbrev pub invariant-loop-running : goal.invariant-loop-running
invariant-loop-running g l =
    Remains l.initial.pass l.pass
    × (l.pass.parts + into_iter_len l.running-iterator ≡ l.initial.pass.parts + into_iter_len l.initial.running-iterator)
    × (into_iter_len l.running-iterator ≡ length (into_iter_items l.running-iterator))
    × All (λ running. IsPart l.initial.pass.gate running.promise.0.value) (into_iter_items l.running-iterator)
