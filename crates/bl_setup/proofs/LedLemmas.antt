-- A setup is what the lines of its text lead to.
use Rattle.std.proofs.Common.{◌≡◌, ◌↔◌, ℕ, ◌≤◌, Bool, true, false, not, if◌then◌else◌, List, [], ◌∷◌, length, refl, sym, subst, ◌∙◌, inl, inr}
use Rattle.bl_level.specs.Scheme.{SchemeNames}
use Rattle.bl_setup.specs.Agreement.{of_scheme}
use Rattle.bl_setup.specs.FirstSetupFault.{SoFar, nothing, ranked, declared, Passes, LeadTo}
use Rattle.bl_setup.specs.Grammar.{IsSetupWithin}
use Rattle.bl_setup.specs.Heads.{DeclaresRanks, BeginsWith, Remain}
use Rattle.bl_setup.specs.Lines.{is_skipped, kept, lines_read, file_lines}
use Rattle.bl_setup.specs.Setup.{Setup}
use Rattle.bl_setup.proofs.FileLemmas.{setup_found}
use Rattle.bl_setup.proofs.FirstLemmas.{ReadTo, setup_leads}

-- of the lines that lead on, those that are read do
from_read : (before : SoFar) (line : List ℕ) (lines : List (List ℕ)) (after : SoFar) (b : Bool) → is_skipped line ≡ b → (next : SoFar) → Passes before line next → ReadTo next (kept lines) after
    → ReadTo before (if not b then line ∷ kept lines else kept lines) after
from_read before line lines after true skipped next (inl p) r = subst (λ x. ReadTo x (kept lines) after) p.1 r
from_read before line lines after true skipped next (inr p) r = let e : true ≡ false = sym skipped ∙ p.0 in absurd (cc)
from_read before line lines after false read next (inl p) r = let e : false ≡ true = sym read ∙ p.0 in absurd (cc)
from_read before line lines after false read next (inr p) r = (next, p.1, r)

leads_read : (before : SoFar) (lines : List (List ℕ)) (after : SoFar) → LeadTo before lines after → ReadTo before (kept lines) after
leads_read before [] after l = l
leads_read before (line ∷ lines) after (next, p, l) = from_read before line lines after (is_skipped line) refl next p (leads_read next lines after l)

-- lines that lead from one setup to another are spelled as declarations that do
remain_from : (before : Setup) (lines : List (List ℕ)) (after : Setup) → ReadTo (declared before) lines (declared after) → Remain lines before after
remain_from before [] after is =
    let same : after ≡ before = cc in
    record { declarations = []; spelled = refl; leads = same }
remain_from before (line ∷ lines) after (so_far, (next, (d, spelled, adds), is), r) =
    let rest : Remain lines next after = remain_from next lines after (subst (λ x. ReadTo x lines (declared after)) is r) in
    record { declarations = d ∷ rest.declarations; spelled = (d, rest.declarations, refl, spelled, rest.spelled); leads = (next, adds, rest.leads) }

-- the first two lines declare the scheme
record Begun (lines : List (List ℕ)) (setup : Setup) : Type 0 where
  rest : List (List ℕ)
  scheme : SchemeNames
  begins : BeginsWith lines rest scheme
  remain : Remain rest (of_scheme scheme) setup

begun_second : (first : List ℕ) (names : List (List ℕ)) → DeclaresRanks first names → (lines : List (List ℕ)) (setup : Setup) → ReadTo (ranked names) lines (declared setup) → Begun (first ∷ lines) setup
begun_second first names ranks [] setup is = absurd (cc)
begun_second first names ranks (second ∷ lines) setup (so_far, (scheme, categories, is), r) = record {
  rest = lines;
  scheme = scheme;
  begins = record { first = first; second = second; names = names; split = refl; ranks = ranks; categories = categories };
  remain = remain_from (of_scheme scheme) lines setup (subst (λ x. ReadTo x lines (declared setup)) is r);
}

begun : (lines : List (List ℕ)) (setup : Setup) → ReadTo nothing lines (declared setup) → Begun lines setup
begun [] setup is = absurd (cc)
begun (first ∷ lines) setup (so_far, (names, ranks, is), r) = begun_second first names ranks lines setup (subst (λ x. ReadTo x lines (declared setup)) is r)

pub led_is_setup : (most : ℕ) (bytes : List ℕ) (setup : Setup) → length bytes ≤ most → LeadTo nothing (file_lines bytes) (declared setup) → IsSetupWithin most bytes setup
led_is_setup most bytes setup size l =
    let b : Begun (lines_read bytes) setup = begun (lines_read bytes) setup (leads_read nothing (file_lines bytes) (declared setup) l) in
    setup_found most bytes b.rest b.scheme setup size b.begins b.remain

pub is_setup_led : (most : ℕ) (bytes : List ℕ) (setup : Setup) → IsSetupWithin most bytes setup ↔ ((length bytes ≤ most) × LeadTo nothing (file_lines bytes) (declared setup))
is_setup_led most bytes setup = (λ s. (s.size, setup_leads most bytes setup s), λ l. led_is_setup most bytes setup l.0 l.1)
