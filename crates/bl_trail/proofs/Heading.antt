-- The head lines, and texts whose head is not right.
use Rattle.std.proofs.Common.{◌≡◌, ◌≢◌, ℕ, ◌<◌, List, [], ◌∷◌, ◌++◌, length, get_or, refl, sym, ◌∙◌, ap, inl, inr, arith, ◌⊎◌, append_assoc, lit<, lit≤}
use Rattle.std.specs.Prelude.{codes, decimal}
use Rattle.bl_setup.specs.Setup.{Setup}
use Rattle.bl_setup.specs.declared.version.Version.{Version}
use Rattle.bl_setup.specs.declared.version.Version.TheVariants.{One, Two}
use Rattle.bl_trail.specs.Asks.{HasNo, behind}
use Rattle.bl_trail.specs.Follow.{IsLine}
use Rattle.bl_trail.specs.Heads.{IsNoLimitLine, IsNoVersionLine}
use Rattle.bl_trail.specs.TrueText.{AreAll, FirstWrong, GoesOn, IsWrong, head_lines, joined, trail_lines, version_line}
use Rattle.bl_trail.specs.Versions.{HasSetup}

-- a run of no event
empty-run : (setup : Setup) → GoesOn setup [] (trail_lines Two setup 1 [])
empty-run setup = record { version = Two; has_setup = tt; limit = 1; is_limit = (lit≤ tt, lit≤ tt); events = []; steps = tt; has_events = tt; is = refl }

first-of : (setup : Setup) (line : List ℕ) (more : List (List ℕ)) (g : GoesOn setup (line ∷ []) more) → version_line g.version ≡ line
first-of setup line more g = ap (λ l. get_or l 0 []) g.is

-- the text has no first line, or one that names no version that has the setup
abbrev HasNoVersion : Setup → List ℕ → Type 0
HasNoVersion setup text = HasNo 10 text ⊎ ((line : List ℕ) × (rest : List ℕ) × IsLine text line rest × IsNoVersionLine setup line)

-- a text that does not begin with a version that has the setup
pub no-version : (setup : Setup) (text : List ℕ) → HasNoVersion setup text → FirstWrong setup text 1
no-version setup text how = record {
  before = [];
  behind = text;
  whole = tt;
  split = refl;
  right = (trail_lines Two setup 1 [], empty-run setup);
  wrong = wrong how;
  is = refl;
}
  where
    wrong : HasNoVersion setup text → IsWrong setup [] text
    wrong (inl none) = inl (none, λ empty all. no-lines all)
      where
        no-lines : AreAll setup [] → ⊥
        no-lines all = absurd (omega (arith, ap length all.is))
    wrong (inr t) = inr (t.0, t.1, t.2.plain, t.2.split, λ right. t.3 right.1.version right.1.has_setup (sym (first-of setup t.0 right.0 right.1)))

second-of : (setup : Setup) (first line : List ℕ) (more : List (List ℕ)) (g : GoesOn setup (first ∷ line ∷ []) more) → codes "limit " ++ decimal g.limit ≡ line
second-of setup first line more g = ap (λ l. get_or l 1 []) g.is

no_lf : (n : ℕ) → 10 < n → n ≢ 10
no_lf n lt e = absurd (omega (arith, e))

-- `trail `, and what stands after it
trail-plain : (rest : List ℕ) → HasNo 10 rest → HasNo 10 (codes "trail " ++ rest)
trail-plain rest plain = (no_lf 116 (lit< tt), (no_lf 114 (lit< tt), (no_lf 97 (lit< tt), (no_lf 105 (lit< tt), (no_lf 108 (lit< tt), (no_lf 32 (lit< tt), plain))))))

pub version-plain : (version : Version) → HasNo 10 (version_line version)
version-plain One = trail-plain (codes "1") (no_lf 49 (lit< tt), tt)
version-plain Two = trail-plain (codes "2") (no_lf 50 (lit< tt), tt)

append-nil : (a : List ℕ) → a ≡ a ++ []
append-nil [] = refl
append-nil (x ∷ a) = ap (λ l. x ∷ l) (append-nil a)

-- the first line of a text, in other words
pub with-line : {text line rest is : List ℕ} → line ≡ is → IsLine text line rest → text ≡ is ++ 10 ∷ rest
with-line {rest = rest} same cut = cut.split ∙ ap (λ l. l ++ 10 ∷ rest) same

-- one line, and what stands behind it
one-line : (l rest : List ℕ) → l ++ 10 ∷ rest ≡ joined (l ∷ []) ++ rest
one-line l rest = sym (ap (λ t. t ++ rest) (sym (append-nil (l ++ 10 ∷ []))) ∙ append_assoc l (10 ∷ []) rest)

-- two lines
pub two-lines : (version : Version) (limit : ℕ) (text behind rest : List ℕ) → text ≡ version_line version ++ 10 ∷ behind
    → behind ≡ (codes "limit " ++ decimal limit) ++ 10 ∷ rest → text ≡ joined (head_lines version limit) ++ rest
two-lines version limit text behind rest a b =
    let first : List ℕ = version_line version in
    let second : List ℕ = codes "limit " ++ decimal limit in
    a ∙ ap (λ t. first ++ 10 ∷ t) (b ∙ one-line second rest) ∙ sym (append_assoc first (10 ∷ []) (joined (second ∷ []) ++ rest))
    ∙ sym (append_assoc (first ++ 10 ∷ []) (joined (second ∷ [])) rest)

-- a text whose second line is not the text of a limit
pub no-limit : (setup : Setup) (version : Version) (text behind : List ℕ) → HasSetup version setup → text ≡ version_line version ++ 10 ∷ behind
    → (HasNo 10 behind ⊎ ((line : List ℕ) × (rest : List ℕ) × IsLine behind line rest × IsNoLimitLine line)) → FirstWrong setup text 2
no-limit setup version text behind has is how = record {
  before = version_line version ∷ [];
  behind = behind;
  whole = (version-plain version, tt);
  split = is ∙ one-line (version_line version) behind;
  right = ((codes "limit " ++ decimal 1) ∷ codes "stop" ∷ [], record { version = version; has_setup = has; limit = 1; is_limit = (lit≤ tt, lit≤ tt); events = []; steps = tt; has_events = tt; is = refl });
  wrong = wrong how;
  is = refl;
}
  where
    wrong : (HasNo 10 behind ⊎ ((line : List ℕ) × (rest : List ℕ) × IsLine behind line rest × IsNoLimitLine line)) → IsWrong setup (version_line version ∷ []) behind
    wrong (inl none) = inl (none, λ empty all. no-lines all)
      where
        no-lines : AreAll setup (version_line version ∷ []) → ⊥
        no-lines all = absurd (omega (arith, ap length all.is))
    wrong (inr t) = inr (t.0, t.1, t.2.plain, t.2.split, λ right. t.3 right.1.limit right.1.is_limit (sym (second-of setup (version_line version) t.0 right.0 right.1)))
