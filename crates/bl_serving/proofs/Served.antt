-- What a run of `serve` tells, and its status.
use Rattle.std.proofs.Common.{◌≡◌, ◌<◌, ◌++◌, ◌∷◌, ◌∙◌, [], ℕ, ◌+◌, Bool, List, length, take, get_or, ap, add-one, append-nil}
use Rattle.std.specs.Prelude.{is_some, not}
use Rattle.std.specs.List.{flat_map}
use Rattle.std.proofs.Math.Seq.{take-suc}
use Rattle.std.proofs.lemmas.Grind.{flat_map-append}
use Rattle.bl_entrance.specs.declared.ended.Ended.{Ended}
use Rattle.bl_wire.specs.Watch.{EndState, Puts}
use Rattle.bl_wire.proofs.PutLaws.{puts-all, puts-append}
use Rattle.bl_status.specs.declared.fault.ProgramFault.TheVariants.{NoMemory}
use Rattle.bl_live.specs.Telling.{ToldLive, ended_line}
use Rattle.bl_keep.specs.declared.ended.Finished.{Finished}
use Rattle.bl_keep.specs.Unkept.{unkept_faults, unkept_text}
use Rattle.bl_keep.specs.Ending.{TellsTrail}
use Rattle.bl_serving.specs.Serving.{HasHosted, faults_found, found, hosted_text}
use Rattle.bl_status.specs.Status.{status_after}
use Rattle.bl_keep.proofs.Ending.{status-append}

-- the lines of one session more
pub lines-on : (es : List Ended) (i : ℕ) (d : Ended) → i < length es
    → flat_map ended_line (take (i + 1) es) ≡ flat_map ended_line (take i es) ++ ended_line (get_or es i d)
lines-on es i d lt =
    ap (λ k. flat_map ended_line (take k es)) (add-one i) ∙ ap (flat_map ended_line) (take-suc es i d lt)
    ∙ flat_map-append ended_line (take i es) (get_or es i d ∷ []) ∙ ap (λ l. flat_map ended_line (take i es) ++ l) (append-nil (ended_line (get_or es i d)))

-- two steps of a status, as one
pub status-two : (whole memory : Bool) (r s : ℕ) → r ≡ status_after 0 (found (not whole) NoMemory) → s ≡ status_after r (found memory NoMemory)
    → s ≡ status_after 0 (faults_found whole memory)
status-two whole memory r s one two =
    let a = found (not whole) NoMemory in
    let b = found memory NoMemory in
    two ∙ ap (λ q. status_after q b) one ∙ status-append 0 a b

-- what was met while others ran was told then, what was found by the end of the threads is told, and then what became of
-- the trail
pub hosted : (name : List ℕ) (whole : Bool) (es : List Ended) (memory : Bool) (r : ℕ) (finished : Finished) (x l y z : EndState)
    → ToldLive x l → r ≡ status_after 0 (faults_found whole memory) → Puts (hosted_text whole es memory) l y
    → TellsTrail name whole r finished y z → HasHosted name finished.status (is_some finished.kept) (record { before = x.bytes; after = z.bytes; failed = z.failed })
hosted name whole es memory r finished x l y z (live, during, told) status puts later = record {
  whole = whole;
  ended = es;
  memory = memory;
  live = live;
  during = during;
  trail = later.trail;
  unwritten = later.unwritten;
  kept = later.kept;
  status_is = later.status_is ∙ ap (λ q. status_after q (unkept_faults later.trail)) status ∙ status-append 0 (faults_found whole memory) (unkept_faults later.trail);
  said = λ fine. puts-all (live ++ (hosted_text whole es memory ++ unkept_text name later.trail)) x z
      (puts-append live (hosted_text whole es memory ++ unkept_text name later.trail) x l z told
      (puts-append (hosted_text whole es memory) (unkept_text name later.trail) l y z puts later.puts)) fine;
}
