-- How a run keeps its trail, and what it has of that at its end.
use Rattle.std.specs.Prelude.{◌≡◌, Bool, true, false}
use Rattle.bl_disk.specs.File.{File, seen}
use Rattle.bl_record.specs.Torn.{IsTornHead}
use Rattle.bl_trail_run.specs.Files.{is_whole}
use Rattle.bl_trail_run.specs.declared.begin.Start.{Start}
use Rattle.bl_trail_run.specs.declared.plan.TrailEnd.{TrailEnd}
use Rattle.bl_trail_run.specs.declared.plan.TrailEnd.TheVariants as ends
use Rattle.bl_trail_run.specs.declared.plan.TrailPlan.{TrailPlan}
use Rattle.bl_trail_run.specs.declared.plan.TrailPlan.TheVariants.{AtEnd, AsItGoes}

-- what holds of the file that the trail is kept in as the run goes, where it is
abbrev pub IfAsItGoes : {T D : Type 0} → TrailPlan T D → (Start D → Type 0) → Type 0
IfAsItGoes (AtEnd at_end) holds = Unit {0}
IfAsItGoes (AsItGoes start) holds = holds start

-- a run may start from this: the file has not failed, and has nothing, or a torn head, where nothing in it is gone on with
abbrev pub MayStart : {D : Type 0} → (D → File) → (D → Bool) → Start D → Type 0
MayStart now has_failed start =
    (has_failed start.device ≡ false) × (start.resumes ≡ false → IsTornHead (seen (now start.device)))

-- whether a trail was written whole, and has its name
abbrev pub is_kept : {D : Type 0} → TrailEnd D → Bool
is_kept ends.NotKept = false
is_kept (ends.Kept kept) = true
is_kept (ends.InFile file) = false

-- whether the trail is whole in the file that it was kept in
abbrev pub is_whole_in : {D : Type 0} → TrailEnd D → Bool
is_whole_in ends.NotKept = false
is_whole_in (ends.Kept kept) = false
is_whole_in (ends.InFile file) = is_whole file

-- the trail is kept as was planned; one that is kept as the run goes is whole in its file
abbrev pub IsKeptBy : {T D : Type 0} → TrailPlan T D → TrailEnd D → Type 0
IsKeptBy (AtEnd at_end) trail = is_kept trail ≡ true
IsKeptBy (AsItGoes start) trail = is_whole_in trail ≡ true
