use Rattle.std.proofs.Common.{◌≡◌, ◌++◌, take, drop}
use Rattle.std.specs.Prelude.{map}
use Rattle.bl_entrance.specs.Calling.{calling_of, greeted_by}
use Rattle.bl_entrance.proofs.callers.Callers.greet.Given as goal

-- those so far have heard it, and the others are as they were
abbrev pub invariant-loop-caller : goal.invariant-loop-caller
invariant-loop-caller l =
    map calling_of l.caller-items ≡ map (greeted_by l.number) (take l.caller-index (map calling_of l.initial.caller-items)) ++ drop l.caller-index (map calling_of l.initial.caller-items)
