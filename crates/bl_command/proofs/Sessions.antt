-- What was asked of the trail of a session.
use Rattle.std.proofs.Common.{◌≡◌, ℕ, Bool, true, Option, Some, None}
use Rattle.bl_alone.specs.AloneKept.{IsAloneKeptOver}
use Rattle.bl_asked.specs.declared.trail.TrailFile.{TrailFile}
use Rattle.bl_file.specs.declared.kept.Keeping.{Keeping}
use Rattle.bl_setup.specs.Setup.{Setup}
use Rattle.bl_status.specs.Runs.{Run}
use Rattle.bl_options.specs.declared.trail.TrailKeeping.{TrailKeeping}
use Rattle.bl_options.specs.declared.trail.TrailKeeping.TheVariants.{AtEnd, Written, Synced}
use Rattle.bl_command.specs.Asked.{keeping_asked}
use Rattle.bl_command.specs.Runs.{EndsAlone}

pub none_is_no_keeping : (keeping : Keeping) → None ≡ Some keeping → ⊥
none_is_no_keeping keeping is = cc

-- the trail was written at the end
pub ends_at_end : (trail : TrailFile) (keeping : TrailKeeping) (setup : Setup) (limit : ℕ) (run : Run)
    → ((is_kept : Bool) × (run.status ≡ 0 → is_kept ≡ true) × IsAloneKeptOver setup limit trail.name.now is_kept run) → EndsAlone (Some trail) keeping setup limit run
ends_at_end trail AtEnd setup limit run ends = ends
ends_at_end trail Written setup limit run ends = tt
ends_at_end trail Synced setup limit run ends = tt

-- it was kept as the session went
pub ends_recorded : (trail : TrailFile) (asked : TrailKeeping) (setup : Setup) (limit : ℕ) (run : Run) (keeping : Keeping) → keeping_asked asked ≡ Some keeping
    → EndsAlone (Some trail) asked setup limit run
ends_recorded trail AtEnd setup limit run keeping is = absurd (none_is_no_keeping keeping is)
ends_recorded trail Written setup limit run keeping is = tt
ends_recorded trail Synced setup limit run keeping is = tt
