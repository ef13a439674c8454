-- What is wrong with a subject.
use Rattle.std.proofs.Common.{◌≡◌, ◌↔◌, ℕ, ◌<◌, ◌≤◌, length, Result, Err, Contains, refl, subst, inl, inr, arith}
use Rattle.bl_level.specs.Level.{SecurityLevel, Dominates}
use Rattle.bl_level.specs.LevelText.{LevelText, Means}
use Rattle.bl_level.specs.Scheme.{SchemeNames}
use Rattle.bl_policy.specs.declared.policy.AddFault.{AddFault}
use Rattle.bl_policy.specs.declared.policy.AddFault.TheVariants as add
use Rattle.bl_declare.specs.Declaration.{SubjectText, subject}
use Rattle.bl_declare.specs.Faults.{UnlessMemory, kind_of_add}
use Rattle.bl_setup.specs.FirstSetupFault.{declared, DeclarationFault, IsTooMuch, FirstFails, asked_of_level}
use Rattle.bl_setup.specs.Setup.{Setup}
use Rattle.bl_declare.specs.declared.fault.SetupFaultKind.{SetupFaultKind}
use Rattle.bl_setup.proofs.FaultLemmas.{fails_left, fails_right, hold_both, level_holds}

subject_fits : (b : Setup) (s : SubjectText) → length b.names.subjects < 256 → IsTooMuch (declared b) (subject s) → ⊥
subject_fits b s room many = omega arith

-- the words of a level, asked in the same scheme
pub same_scheme : (scheme other : SchemeNames) (text : LevelText) (kind : SetupFaultKind) → scheme ≡ other → FirstFails (asked_of_level scheme text) kind
    → FirstFails (asked_of_level other text) kind
same_scheme scheme other text kind e f = subst (λ x. FirstFails (asked_of_level x text) kind) e f

-- the first word at fault stands in the greatest level
pub subject_greatest : (b : Setup) (s : SubjectText) (kind : SetupFaultKind) → length b.names.subjects < 256 → (Contains b.names.subjects s.name → ⊥)
    → FirstFails (asked_of_level b.names.scheme s.greatest) kind → UnlessMemory kind (DeclarationFault (declared b) (subject s) kind)
subject_greatest b s kind room new f =
    inr (inr (subject_fits b s room, inl (inr (new, fails_left (asked_of_level b.names.scheme s.greatest) (asked_of_level b.names.scheme s.current) kind f))))

-- or in the current one
pub subject_current : (b : Setup) (s : SubjectText) (g : SecurityLevel) (kind : SetupFaultKind) → length b.names.subjects < 256 → (Contains b.names.subjects s.name → ⊥)
    → Means b.names.scheme s.greatest g → FirstFails (asked_of_level b.names.scheme s.current) kind → UnlessMemory kind (DeclarationFault (declared b) (subject s) kind)
subject_current b s g kind room new mg f =
    inr (inr (
      subject_fits b s room,
      inl (inr (
        new,
        fails_right (asked_of_level b.names.scheme s.greatest) (asked_of_level b.names.scheme s.current) kind (level_holds b.names.scheme s.greatest g mg) f,
      )),
    ))

-- where there is room, the policy's fault is that the greatest level does not dominate
pub subject_above : {I : Type 0} (b : Setup) (s : SubjectText) (g c : SecurityLevel) (f : AddFault) (n : ℕ) → length b.names.subjects < 256 → (Contains b.names.subjects s.name → ⊥)
    → Means b.names.scheme s.greatest g → Means b.names.scheme s.current c → n < 256
    → ((◌≡◌ {A = Result I AddFault} (Err f) (Err add.TooMany)) ↔ (256 ≤ n))
    → ((◌≡◌ {A = Result I AddFault} (Err f) (Err add.CurrentAboveGreatest)) ↔ ((n < 256) × (Dominates g c → ⊥)))
    → UnlessMemory (kind_of_add f) (DeclarationFault (declared b) (subject s) (kind_of_add f))
subject_above b s g c add.TooMany n room new mg mc few many above = let h : 256 ≤ n = many.0 refl in absurd (omega arith)
subject_above b s g c add.CurrentAboveGreatest n room new mg mc few many above =
    inr (inr (
      subject_fits b s room,
      inr (
        (
          new,
          hold_both (asked_of_level b.names.scheme s.greatest) (asked_of_level b.names.scheme s.current) (level_holds b.names.scheme s.greatest g mg)
              (level_holds b.names.scheme s.current c mc),
        ),
        refl,
        (g, c, mg, mc, (above.0 refl).1),
      ),
    ))
