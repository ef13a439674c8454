use Rattle.std.proofs.Common.{rules, ◌≡◌, false, inl, refl, subst, sym, true≢false}
use Rattle.bl_disk.specs.File.{seen}
use Rattle.bl_record.specs.Torn.{IsTornHead, head_front}
use Rattle.bl_chain_run.proofs.start.resumes.Goals as goal

-- a new journal has nothing
pub returns-then-not-is_begun : goal.returns-then-not-is_begun
returns-then-not-is_begun g c =
    let new : c.args.is_begun ≡ false = search rules in
    record {
      torn = λ _. subst (λ file. IsTornHead (seen file)) (sym (c.requires new)) (inl (head_front, refl));
      begun = λ t. absurd (true≢false (sym t));
    }
