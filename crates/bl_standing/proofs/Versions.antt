-- The version that a true text names, and what stands at the end of its trail.
use Rattle.std.proofs.Common.{◌≡◌, ◌∙◌, ℕ, List, Bool, true, false, ap, refl, sym, true≢false, codes, eqb}
use Rattle.std.specs.List.{starts_with}
use Rattle.bl_setup.specs.Setup.{Setup, by_version}
use Rattle.bl_setup.specs.declared.version.Version.{Version}
use Rattle.bl_setup.specs.declared.version.Version.TheVariants.{One, Two}
use Rattle.bl_order.specs.Machine.{State, start}
use Rattle.bl_order.specs.Standing.{HaveAllEnded, setup_now}
use Rattle.bl_trail.specs.TrueText.{IsTrueText, joined, trail_lines}
use Rattle.bl_trail.proofs.Following.{setup-end}
use Rattle.bl_left.specs.Left.{end_of}
use Rattle.bl_standing.specs.Standing.{LeadsTo, StandsAtEnd}

module _ (begun : Setup) (trail : List ℕ) (count : ℕ) (text : IsTrueText begun trail count) where
  -- whether the text of a version begins as one of version 1
  abbrev pub begins : Version → Bool
  begins version = starts_with eqb (joined (trail_lines version begun text.limit text.events)) (codes "trail 1\n")

  pub named : starts_with eqb trail (codes "trail 1\n") ≡ begins text.version
  named = ap (λ t. starts_with eqb t (codes "trail 1\n")) text.is

  of-one : (version : Version) → text.version ≡ version → starts_with eqb trail (codes "trail 1\n") ≡ true → text.version ≡ One
  of-one One is old = is
  of-one Two is old = absurd (true≢false (sym old ∙ named ∙ ap begins is))

  of-two : (version : Version) → text.version ≡ version → starts_with eqb trail (codes "trail 1\n") ≡ false → text.version ≡ Two
  of-two One is new = absurd (true≢false (sym (named ∙ ap begins is) ∙ new))
  of-two Two is new = is

  pub leads-one : starts_with eqb trail (codes "trail 1\n") ≡ true → LeadsTo begun trail One (end_of begun trail count text)
  leads-one old = record { count = count; true_text = text; version_is = of-one text.version refl old; end_is = refl }

  pub leads-two : starts_with eqb trail (codes "trail 1\n") ≡ false → LeadsTo begun trail Two (end_of begun trail count text)
  leads-two new = record { count = count; true_text = text; version_is = of-two text.version refl new; end_is = refl }

  end-version : (end_of begun trail count text).setup.version ≡ text.version
  end-version = ap (λ (s : Setup). s.version) (sym (setup-end (start (by_version text.version begun) text.limit) text.events))

  pub stands-two : starts_with eqb trail (codes "trail 1\n") ≡ false → (left : Setup) → HaveAllEnded (end_of begun trail count text)
      → left ≡ by_version Two (setup_now (end_of begun trail count text)) → StandsAtEnd begun trail left
  stands-two new left ended is = record {
    x = end_of begun trail count text;
    leads = leads-two new;
    ended = ended;
    left_is = is
        ∙ ap (λ version. by_version version (setup_now (end_of begun trail count text))) (sym (end-version ∙ of-two text.version refl new));
  }
