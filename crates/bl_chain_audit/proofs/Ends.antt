-- Where the closed runs end, by the runs of which files stand.
use Rattle.std.proofs.Common.{◌≡◌, ◌<◌, ◌≤◌, ℕ, suc, Option, None, Some, subst, sym, inl, inr, arith}
use Rattle.std.specs.Prelude.{IsSome}
use Rattle.bl_folder.specs.Names.{setup_of, trail_of}
use Rattle.bl_folder.specs.Standing.{Contents, IsSpan}
use Rattle.bl_folder.specs.declared.name.FileKind.{FileKind}
use Rattle.bl_folder.specs.declared.name.FileKind.TheVariants.{Setup, Trail}
use Rattle.bl_folder.specs.declared.span.RunSpan.{RunSpan}
use Rattle.bl_chain.specs.Faulty.{IsGap}
use Rattle.bl_chain.specs.Setups.{IsFirst}
use Rattle.bl_chain.proofs.Spans.{none-where, not-none}
use Rattle.bl_chain_audit.specs.Closed.{IsEnd}
use Rattle.bl_chain_audit.specs.Noted.{IsBeginning, IsLookedAt}
use Rattle.bl_chain_audit.specs.declared.noted.NotedRun.{NotedRun}

module _ (there : Contents) where
  pub end-none : (first : ℕ) → ((run : ℕ) → there (trail_of run) ≡ None) → IsEnd there first first
  end-none first none = record {
    up = omega arith;
    all = λ run some. absurd (not-none (there (trail_of run)) some (none run));
    later = λ run up less. absurd (omega (arith, up, less));
  }

  -- all trails are before the first run
  pub end-before : (first : ℕ) (span : RunSpan) → IsSpan there Trail span → span.last < first → IsEnd there first first
  end-before first span is before = record {
    up = omega arith;
    all = λ run some. let below : run ≤ span.last = (is.within run some).1 in omega (arith, before, below);
    later = λ run up less. absurd (omega (arith, up, less));
  }

  pub end-span : (first end : ℕ) (span : RunSpan) → IsSpan there Trail span → first ≤ span.last → end ≡ suc span.last → IsEnd there first end
  end-span first end span is up next = record {
    up = omega (arith, up, next);
    all = λ run some. let below : run ≤ span.last = (is.within run some).1 in omega (arith, next, below);
    later = λ run above less. (span.last, omega (arith, next, less), is.last);
  }

  -- a trail before the first setup
  before-first : (first : ℕ) (span : RunSpan) → IsFirst there first → IsSpan there Trail span → span.first < first → IsGap there span.first
  before-first first span is_first is less = record {
    later = span.first;
    has = inl (omega arith, is.first);
    missing = inl (none-where (there (setup_of span.first)) (λ some. let up : first ≤ span.first = is_first.least span.first some in omega (arith, less, up)));
  }

  pub stray : (noted : Option NotedRun) (first : ℕ) (span : RunSpan) → noted ≡ None → IsBeginning there noted first → IsSpan there Trail span → span.first < first
      → IsLookedAt noted span.first × IsGap there span.first
  stray noted first span none beginning is less =
      subst (λ (o : Option NotedRun). IsLookedAt o span.first × IsGap there span.first) (sym none)
      (tt, before-first first span (subst (λ (o : Option NotedRun). IsBeginning there o first) none beginning) is less)

  -- a setup behind the end, where no trail is
  pub gap-end : (setups : RunSpan) (first end : ℕ) → IsSpan there Setup setups → IsEnd there first end → end < setups.last → IsGap there end
  gap-end setups first end is is_end less = record {
    later = setups.last;
    has = inr (omega (arith, less), is.last);
    missing = inr (none-where (there (trail_of end)) (λ some. let below : suc end ≤ end = is_end.all end some in omega (arith, below)));
  }

  -- no trail is at the end
  pub no-trail : (first end : ℕ) → IsEnd there first end → there (trail_of end) ≡ None
  no-trail first end is = none-where (there (trail_of end)) (λ some. let below : suc end ≤ end = is.all end some in omega (arith, below))

  -- or none
  pub up-to-end : (setups : RunSpan) (end : ℕ) → IsSpan there Setup setups → setups.last ≤ end → (run : ℕ) → IsSome (there (setup_of run)) → run ≤ end
  up-to-end setups end is to run some = let below : run ≤ setups.last = (is.within run some).1 in omega (arith, to, below)

  -- a number is left behind a run that is there
  pub room : (kind : FileKind) (span : RunSpan) → IsSpan there kind span → 999999999 < span.last → ⊥
  room kind span is full = let below : span.last ≤ 999999999 = is.runs.1 in omega (arith, full, below)

-- a run that is not before the first is looked at
pub looked-at : (there : Contents) (noted : Option NotedRun) (first run : ℕ) → IsBeginning there noted first → first ≤ run → IsLookedAt noted run
looked-at there None first run beginning up = tt
looked-at there (Some one) first run beginning up = let is : first ≡ one.run = beginning in omega (arith, is, up)
