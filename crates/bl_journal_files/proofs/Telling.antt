-- What a recovery tells.
use Rattle.std.proofs.Common.{◌≡◌, ◌≢◌, ℕ, zero, suc, ◌++◌, codes, decimal, refl}
use Rattle.bl_journal_files.specs.Telling.{cut_line}

-- where some bytes were cut off they are told
pub some-cut : (n : ℕ) → n ≢ 0 → cut_line n ≡ codes "cut " ++ (decimal n ++ codes " bytes\n")
some-cut zero some = absurd (some refl)
some-cut (suc n) some = refl
