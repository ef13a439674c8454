-- What is told of a declaration with a fault.
use Rattle.std.proofs.Common.{◌≡◌, ◌≤◌, ℕ, List, [], length, Option, Some, None, refl, sym, ap, subst, ◌∙◌, inl, inr, ◌⊎◌}
use Rattle.bl_level.specs.Cutting.{Cut}
use Rattle.bl_level.specs.Lexing.{Begins}
use Rattle.bl_level.specs.Token.{Tok}
use Rattle.bl_declare.specs.Declaration.{Declaration, ranks, categories, subject, document, allow, spell_declaration}
use Rattle.bl_declare.specs.declared.fault.SetupFaultKind.{SetupFaultKind}
use Rattle.bl_declare.specs.declared.fault.SetupFaultKind.TheVariants as kinds
use Rattle.bl_setup.specs.FirstSetupFault.{SoFar, nothing, ranked, declared, IsDue, AllHold, FirstFails, asked, IsTooMuch, IsAbove, DeclarationFault, LineFault}
use Rattle.bl_setup.proofs.FaultLemmas.{fails_not, fails_one}
use Rattle.bl_setup.proofs.WholeLemmas.{one_spelled}
use Rattle.std.specs.Prelude.{IfSome, MatchOption}
use Rattle.bl_spot.specs.declared.locate.Fault.{Fault}
use Rattle.bl_spot.specs.declared.located.Spot.{Spot}
use Rattle.bl_spot.specs.declared.asked.Asked.{Asked}
use Rattle.bl_spot.specs.declared.located.Excess.{Excess}
use Rattle.bl_spot.specs.declared.located.Excess.TheVariants.{Names, Content}
use Rattle.bl_spot.specs.declared.located.Named.TheVariants as named
use Rattle.bl_spot.specs.declared.located.Reason.{Reason}
use Rattle.bl_spot.specs.declared.located.Reason.TheVariants as reason
use Rattle.bl_spot.specs.Asking.{ask, questions_of, FailsFirst}
use Rattle.bl_spot.specs.Located.{IsCurrent, IsExcess, IsExtent, IsNoSubject, IsReasonOf, IsSpot, AreAtFault}
use Rattle.bl_spot.proofs.Failing.{asks_what_is_asked, first_kind}
use Rattle.bl_spot.proofs.Places.{whole_cut}

-- what is too much is too much
pub excess_is_much : (after : SoFar) (d : Declaration) (token : ℕ) (e : Excess) → IsExcess after d token e → IsTooMuch after d
excess_is_much nothing (ranks lowest higher) token (Names named.Rank) x = x.0
excess_is_much nothing (ranks lowest higher) token (Names named.Category) x = absurd x
excess_is_much nothing (ranks lowest higher) token (Names named.Subject) x = absurd x
excess_is_much nothing (ranks lowest higher) token (Names named.Document) x = absurd x
excess_is_much nothing (ranks lowest higher) token Content x = absurd x
excess_is_much nothing (categories words) token e x = absurd x
excess_is_much nothing (subject s) token e x = absurd x
excess_is_much nothing (document d) token e x = absurd x
excess_is_much nothing (allow a) token e x = absurd x
excess_is_much (ranked names) (ranks lowest higher) token e x = absurd x
excess_is_much (ranked names) (categories words) token (Names named.Rank) x = absurd x
excess_is_much (ranked names) (categories words) token (Names named.Category) x = x.0
excess_is_much (ranked names) (categories words) token (Names named.Subject) x = absurd x
excess_is_much (ranked names) (categories words) token (Names named.Document) x = absurd x
excess_is_much (ranked names) (categories words) token Content x = absurd x
excess_is_much (ranked names) (subject s) token e x = absurd x
excess_is_much (ranked names) (document d) token e x = absurd x
excess_is_much (ranked names) (allow a) token e x = absurd x
excess_is_much (declared setup) (ranks lowest higher) token e x = absurd x
excess_is_much (declared setup) (categories words) token e x = absurd x
excess_is_much (declared setup) (subject s) token (Names named.Rank) x = absurd x
excess_is_much (declared setup) (subject s) token (Names named.Category) x = absurd x
excess_is_much (declared setup) (subject s) token (Names named.Subject) x = x.0
excess_is_much (declared setup) (subject s) token (Names named.Document) x = absurd x
excess_is_much (declared setup) (subject s) token Content x = absurd x
excess_is_much (declared setup) (document d) token (Names named.Rank) x = absurd x
excess_is_much (declared setup) (document d) token (Names named.Category) x = absurd x
excess_is_much (declared setup) (document d) token (Names named.Subject) x = absurd x
excess_is_much (declared setup) (document d) token (Names named.Document) x = inl x.0
excess_is_much (declared setup) (document d) token Content x = inr x.1
excess_is_much (declared setup) (allow a) token e x = absurd x

module _ (after : SoFar) (d : Declaration) (kind : SetupFaultKind) (fault : DeclarationFault after d kind) where
  pub over_told : (token : ℕ) (e : Excess) → IsExcess after d token e → AreAtFault after d kind token token (reason.TooMany e)
  over_told token e x = (go fault, refl, x)
    where
      go : DeclarationFault after d kind → kind ≡ kinds.TooMany
      go (inl f) = f.0
      go (inr f) = absurd (f.0 (excess_is_much after d token e x))

  name_kind : (IsTooMuch after d → ⊥) → (a : Asked) → FailsFirst (ask after d) a → a.kind ≡ kind
  name_kind few a f = go fault
    where
      mine : FirstFails (asked after d) a.kind
      mine = subst (λ qs. FirstFails qs a.kind) (asks_what_is_asked after d) (first_kind (ask after d) a f)

      go : DeclarationFault after d kind → a.kind ≡ kind
      go (inl g) = absurd (few g.1)
      go (inr (g, inl h)) = fails_one (asked after d) kind a.kind h mine
      go (inr (g, inr h)) = absurd (fails_not (asked after d) a.kind mine h.0)

  pub name_told : (IsTooMuch after d → ⊥) → (a : Asked) → FailsFirst (ask after d) a → (r : Reason) → IsReasonOf after (spell_declaration d) a r
      → AreAtFault after d kind a.token a.token r
  name_told few a f (reason.Unknown of_it near) is = (refl, (a, f, refl, name_kind few a f, is))
  name_told few a f (reason.Repeated of_it) is = (refl, (a, f, refl, name_kind few a f, is))
  name_told few a f reason.CurrentAboveGreatest is = absurd is
  name_told few a f (reason.TooMany e) is = absurd is

  above_left : (IsTooMuch after d → ⊥) → AllHold (questions_of (ask after d)) → (kind ≡ kinds.CurrentAboveGreatest) × IsAbove after d
  above_left few hold = go fault
    where
      go : DeclarationFault after d kind → (kind ≡ kinds.CurrentAboveGreatest) × IsAbove after d
      go (inl g) = absurd (few g.1)
      go (inr (g, inl h)) = absurd (fails_not (asked after d) kind h (subst AllHold (asks_what_is_asked after d) hold))
      go (inr (g, inr h)) = (h.1, h.2)

  pub current_told : (IsTooMuch after d → ⊥) → AllHold (questions_of (ask after d)) → (first last : ℕ) → IsCurrent d first last → AreAtFault after d kind first last reason.CurrentAboveGreatest
  current_told few hold first last is = ((above_left few hold).0, is)

-- what is told where no name is at fault and nothing is too much
module _ (after : SoFar) (d : Declaration) (kind : SetupFaultKind) (fault : DeclarationFault after d kind) (few : IsTooMuch after d → ⊥) (hold : AllHold (questions_of (ask after d))) where
  current_with : (first last : ℕ) (r : Reason) → IsCurrent d first last → r ≡ reason.CurrentAboveGreatest → AreAtFault after d kind first last r
  current_with first last r is e = subst (AreAtFault after d kind first last) (sym e) (current_told after d kind fault few hold first last is)

  pub current_of_all : (o : Option Fault) → MatchOption o (IsNoSubject d) (λ f. IsCurrent d f.first f.last) → IfSome o (λ f. f.reason ≡ reason.CurrentAboveGreatest)
      → IfSome o (λ f. AreAtFault after d kind f.first f.last f.reason)
  current_of_all None is e = tt
  current_of_all (Some f) is e = current_with f.first f.last f.reason is e

-- a line that spells a declaration has one that is due, with this fault
pub record HasFault (after : SoFar) (d : Declaration) (kind : SetupFaultKind) : Type 0 where
  pub due : IsDue after d
  pub fault : DeclarationFault after d kind

pub line_has : (after : SoFar) (line : List ℕ) (kind : SetupFaultKind) (d : Declaration) → Begins line (spell_declaration d) [] → (kind ≡ kinds.Syntax → ⊥) → LineFault after line kind → HasFault after d kind
line_has after line kind d spelled other (inl f) = absurd (other f.0)
line_has after line kind d spelled other (inr (e, spells, due, fault)) =
    let same = one_spelled line e d spells spelled in
    record { due = subst (IsDue after) same due; fault = subst (λ x. DeclarationFault after x kind) same fault }

-- its tokens at fault are some bytes of the line
pub spot_there : (after : SoFar) (line : List ℕ) (kind : SetupFaultKind) (d : Declaration) (ts : List Tok) (ks : List ℕ) (place : Option ℕ) (first last : ℕ) (spot : Spot)
    → Begins line (spell_declaration d) [] → Cut (length line) line ts ks place → IsDue after d → AreAtFault after d kind first last spot.reason → IsExtent ts ks first last spot.at spot.len
    → IsSpot after line kind spot
spot_there after line kind d ts ks place first last spot spelled cut due tells extent =
    let whole = whole_cut line ts ks place d cut spelled in
    record {
      declaration = d;
      spelled = spelled;
      due = due;
      first = first;
      last = last;
      tells = tells;
      places = ks;
      cut = subst (λ x. Cut (length line) line (spell_declaration d) ks x) whole.1 (subst (λ x. Cut (length line) line x ks place) whole.0 cut);
      extent = subst (λ x. IsExtent x ks first last spot.at spot.len) whole.0 extent;
    }
