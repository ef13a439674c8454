-- Of which runs files stand, and what follows of it.
use Rattle.std.proofs.Common.{◌≡◌, ◌<◌, ◌≤◌, ◌+◌, ◌-◌, ◌∙◌, ℕ, suc, Bool, true, false, Option, None, Some, refl, sym, ap, subst, inl, inr, arith, true≢false, below_more}
use Rattle.std.specs.Prelude.{◌↔◌, IsSome, IsTrue, is_some, not}
use Rattle.bl_folder.specs.Names.{setup_of, trail_of}
use Rattle.bl_folder.specs.Standing.{Contents, IsSpan}
use Rattle.bl_folder.specs.declared.name.FileKind.TheVariants.{Setup, Trail}
use Rattle.bl_folder.specs.declared.span.RunSpan.{RunSpan}
use Rattle.bl_chain.specs.Setups.{IsFirst}
use Rattle.bl_chain.specs.Faulty.{IsGap}
use Rattle.bl_chain.specs.Refused.{HasNoGap, IsFull, IsLast, IsMissing, IsUnbroken}

-- nothing is there where something cannot be
pub none-where : {A : Type 0} (o : Option A) → (IsSome o → ⊥) → o ≡ None
none-where None cannot = refl
none-where (Some a) cannot = absurd (cannot refl)

pub some-of : {A : Type 0} (o : Option A) (a : A) → o ≡ Some a → IsSome o
some-of o a is = ap is_some is

pub not-none : {A : Type 0} (o : Option A) → IsSome o → o ≡ None → ⊥
not-none o some none = true≢false (sym some ∙ ap is_some none)

module _ (there : Contents) where
  pub first-of : (span : RunSpan) → IsSpan there Setup span → IsFirst there span.first
  first-of span is = record { has = is.first; least = λ run some. (is.within run some).0 }

  pub last-of : (span : RunSpan) → IsSpan there Setup span → IsLast there span.last
  last-of span is = record { has = is.last; most = λ run some. (is.within run some).1 }

  -- a trail behind the last setup
  pub gap-behind : (setups trails : RunSpan) → IsSpan there Setup setups → IsSpan there Trail trails → setups.last < trails.last → IsGap there trails.last
  gap-behind setups trails is are less = record {
    later = trails.last;
    has = inl (omega arith, are.last);
    missing = inl (none-where (there (setup_of trails.last)) (λ some. let below : trails.last ≤ setups.last = (is.within trails.last some).1 in omega (arith, less, below)));
  }

  -- a run before the last setup, of which a file is missing
  pub gap-before : (setups : RunSpan) (run : ℕ) → IsSpan there Setup setups → run < setups.last → IsMissing there run → IsGap there run
  gap-before setups run is less missing = record { later = setups.last; has = inr (omega (arith, less), is.last); missing = missing }

  -- all are there
  pub unbroken : (setups trails : RunSpan) → IsSpan there Setup setups → IsSpan there Trail trails
      → setups.count ≡ (setups.last - setups.first) + 1 → trails.count ≡ (trails.last - trails.first) + 1
      → trails.first ≤ setups.first → setups.last - 1 ≤ trails.last → IsUnbroken there setups.first setups.last
  unbroken setups trails is are whole all from to run up less =
      (is.whole whole run up (omega (arith, less)), are.whole all run (omega (arith, from, up)) (omega (arith, less, to)))

  pub no-gap : (setups : RunSpan) → IsSpan there Setup setups → IsUnbroken there setups.first setups.last → ((run : ℕ) → setups.last < run → there (trail_of run) ≡ None)
      → HasNoGap there setups.last
  no-gap setups is unbroken none =
      record { is_last = last-of setups is; first = setups.first; is_first = first-of setups is; unbroken = unbroken; none = none }

  -- no trail is there behind the last
  pub none-behind : (trails : RunSpan) (last : ℕ) → IsSpan there Trail trails → trails.last ≤ last → (run : ℕ) → last < run → there (trail_of run) ≡ None
  none-behind trails last are to run less =
      none-where (there (trail_of run)) (λ some. let below : run ≤ trails.last = (are.within run some).1 in omega (arith, to, less, below))

  -- none is left behind the highest setup
  pub full : (last : ℕ) → HasNoGap there last → 999999999 ≤ last → IsFull there
  full last gapless up = (last, gapless.is_last, up)

  -- a run is missing where its trail is
  pub miss-trail : (run : ℕ) (trail : Bool) → (IsTrue trail ↔ IsSome (there (trail_of run))) → IsTrue (not trail) → IsMissing there run
  miss-trail run false is t = inr (none-where (there (trail_of run)) (λ some. true≢false (sym (is.1 some))))
  miss-trail run true is t = absurd (true≢false (sym t))

  -- of no runs, of one more, and of fewer
  pub unbroken-none : (first : ℕ) → IsUnbroken there first first
  unbroken-none first run up less = absurd (omega (arith, up, less))

  pub unbroken-more : (first run : ℕ) → IsUnbroken there first run → IsSome (there (setup_of run)) × IsSome (there (trail_of run)) → IsUnbroken there first (run + 1)
  unbroken-more first run is here other up less =
      below_more (λ k. first ≤ k → IsSome (there (setup_of k)) × IsSome (there (trail_of k))) run (λ k below from. is k from below) (λ from. here) other less up

  pub unbroken-to : (first run last : ℕ) → IsUnbroken there first run → last ≤ run → IsUnbroken there first last
  unbroken-to first run last is to other up less = is other up (omega (arith, to, less))

  -- the last of these, where no trail is behind it
  pub last-before : (setups : RunSpan) (last : ℕ) → last ≡ setups.last → IsSpan there Setup setups → IsUnbroken there setups.first last
      → ((run : ℕ) → setups.last < run → there (trail_of run) ≡ None) → HasNoGap there last
  last-before setups last e is all none = subst (HasNoGap there) (sym e) (no-gap setups is (subst (IsUnbroken there setups.first) e all) none)

pub not-missing : (trail : Bool) → not trail ≡ false → trail ≡ true
not-missing true f = refl
not-missing false f = absurd (true≢false f)
