-- The moments of a call on a file of the system.
use Rattle.std.proofs.Common.{◌≡◌, [], ◌∷◌, ◌++◌, sym, subst, ap, ◌∙◌}
use Rattle.bl_disk.specs.File.{File}
use Rattle.bl_disk.specs.Moments.{Passes}
use Rattle.bl_disk.proofs.Passing.{stays, steps}
use Rattle.bl_file.specs.Files.{file_now, file_past}
use Rattle.bl_file.specs.Standing.{stand_now, stand_past}
use Rattle.bl_file.specs.declared.device.SystemFile.{SystemFile}
use Rattle.bl_file.specs.declared.stand.Stand.{Stand}

module _ {F : Type 0} (P : File → Type 0) where
  -- nothing was noted
  pub nothing-noted : (from to : SystemFile F) → to.stand ≡ from.stand → P (file_now from) → Passes file_now file_past from to P
  nothing-noted from to same here = stays file_now file_past from to P (ap stand_past same) (subst (λ (s : Stand). P (stand_now s)) (sym same) here)

  -- what the system answered was noted
  pub noted : (from to : SystemFile F) (stand : Stand) → to.stand ≡ stand → stand_past stand ≡ file_past from ++ file_now from ∷ [] → P (file_now from) → P (stand_now stand)
      → Passes file_now file_past from to P
  noted from to stand same longer before here =
      steps file_now file_past from to P (ap stand_past same ∙ longer) before (subst (λ (s : Stand). P (stand_now s)) (sym same) here)
