-- What a session tells whose trail is kept, and its status.
use Rattle.std.proofs.Common.{◌≡◌, ◌++◌, ◌∙◌, ℕ, Bool, true, List, Option, Result, ap}
use Rattle.std.specs.Prelude.{IsSome, None, Ok, Err, OnOk, is_some}
use Rattle.std.specs.List.{flat_map}
use Rattle.std.specs.Option.{option_to_list}
use Rattle.std.specs.Result.{result_err}
use Rattle.bl_setup.specs.Setup.{Setup}
use Rattle.bl_wire.specs.Watch.{EndState, Puts, Use}
use Rattle.bl_wire.proofs.PutLaws.{puts-all, puts-append}
use Rattle.bl_status.specs.declared.fault.ProgramFault.{ProgramFault}
use Rattle.bl_keep.specs.declared.ended.Finished.{Finished}
use Rattle.bl_alone.specs.AloneKept.{HasSat}
use Rattle.bl_alone.specs.Runs.{HasEnded}
use Rattle.bl_keep.specs.Unkept.{unkept_faults, unkept_text}
use Rattle.bl_keep.specs.Ending.{TellsTrail}
use Rattle.bl_status.specs.Message.{fault_line}
use Rattle.bl_status.specs.Status.{status_after}
use Rattle.bl_keep.proofs.Ending.{status-append}

-- a session with no fault has kept something
pub begins : {K : Type 0} (served : Result (Unit {0}) ProgramFault) (kept : Option K) → OnOk served (IsSome kept) → result_err served ≡ None → is_some kept ≡ true
begins (Ok done) kept has none' = has
begins (Err fault) kept has none' = cc

-- the session's fault is told, and then what became of the trail
pub sat : (limit : ℕ) (name : List ℕ) (begun : Setup) (fault : Option ProgramFault) (input output : Use)
    → HasEnded begun limit fault input output → (has_one : Bool) → (fault ≡ None → has_one ≡ true) → (r : ℕ) (finished : Finished) (x y z : EndState)
    → r ≡ status_after 0 (option_to_list fault) → Puts (flat_map fault_line (option_to_list fault)) x y → TellsTrail name has_one r finished y z
    → HasSat begun limit name (is_some finished.kept) (record { status = finished.status; input = input; output = output; errors = record { before = x.bytes; after = z.bytes; failed = z.failed } })
sat limit name begun fault input output ended has_one begins' r finished x y z status puts then = record {
  fault = fault;
  ended = ended;
  trail = then.trail;
  kept = λ none' untold. then.kept (begins' none') untold;
  status_is = then.status_is ∙ ap (λ q. status_after q (unkept_faults then.trail)) status ∙ status-append 0 (option_to_list fault) (unkept_faults then.trail);
  said = λ fine. puts-all (flat_map fault_line (option_to_list fault) ++ unkept_text name then.trail) x z
      (puts-append (flat_map fault_line (option_to_list fault)) (unkept_text name then.trail) x y z puts then.puts) fine;
}
