use Rattle.std.proofs.Common.{◌≡◌, ◌+◌}
use Rattle.std.specs.Prelude.{All, vec_len}
use Rattle.bl_host.specs.Threads.{IsPart, Remains}
use Rattle.bl_host.proofs.threads.start_workers.Given as goal

-- each thread that was started has a part of the pass
abbrev pub invariant-loop : goal.invariant-loop
invariant-loop g l =
    Remains l.initial.pass l.pass
    × (l.pass.parts + l.counter ≡ l.initial.pass.parts)
    × (vec_len l.threads ≡ vec_len l.initial.threads + l.counter)
    × All (λ running. IsPart l.initial.pass.gate running.promise.0.value) l.threads.items
