use Rattle.std.proofs.Common.{◌≡◌, ◌+◌}
use Rattle.std.specs.Prelude.{All, vec_len}
use Rattle.bl_host.specs.Threads.{IsPart, Remains}
use Rattle.bl_host.proofs.threads.start_sessions.Given as goal

-- each thread that was started has a part of the pass
abbrev pub invariant-loop-watch : goal.invariant-loop-watch
invariant-loop-watch g l =
    Remains l.initial.pass l.pass
    × (l.pass.parts + vec_len l.initial.watches ≡ l.initial.pass.parts + vec_len l.watches)
    × (vec_len l.threads + vec_len l.watches ≡ vec_len l.initial.threads + vec_len l.initial.watches)
    × All (λ running. IsPart l.initial.pass.gate running.promise.0.value) l.threads.items

abbrev pub decreases-loop-watch : goal.decreases-loop-watch
decreases-loop-watch g l = vec_len l.watches
