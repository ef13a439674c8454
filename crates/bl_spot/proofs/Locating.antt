-- Where a file is at fault that is cut before its line at fault.
use Rattle.std.proofs.Common.{◌≡◌, ◌<◌, ◌≤◌, ◌⊎◌, ℕ, List, [], ◌∷◌, length, refl, sym, ap, subst, ◌∙◌, inl, inr, arith}
use Rattle.std.specs.Prelude.{◌^◌}
use Rattle.bl_declare.specs.declared.fault.SetupFault.{SetupFault}
use Rattle.bl_setup.specs.FirstSetupFault.{SoFar, nothing, LeadTo, StopsAt, FaultNext, LineFault, IsBegun, FirstSetupFault}
use Rattle.bl_setup.specs.Grammar.{most_setup_bytes}
use Rattle.bl_setup.specs.Lines.{file_lines, lines_read}
use Rattle.bl_spot.specs.declared.before.Before.{Before}
use Rattle.bl_spot.specs.declared.cut.Parted.{Parted}
use Rattle.bl_spot.specs.declared.located.Located.{Located}
use Rattle.bl_spot.specs.declared.located.Located.TheVariants as located
use Rattle.bl_spot.specs.Located.{IsBefore, IsLocated, IsLocatedIn, IsLocatedNext, missing_behind, section_of}
use Rattle.bl_spot.specs.Parts.{BeginsWithLine, IsParted}
use Rattle.bl_spot.proofs.Leading.{leads_read, missing_is, read_so}
use Rattle.bl_spot.proofs.Lines.{Here, here_is, stops_here, front_short, rest_short}
use Rattle.bl_spot.proofs.Parting.{line_short}

module _ (bytes : List ℕ) (fault : SetupFault) (p : Parted) (first : FirstSetupFault bytes fault) (some : fault.line ≡ 0 → ⊥) (parted : IsParted bytes fault.line p) where
  stops : (length bytes ≤ most_setup_bytes) × StopsAt (FaultNext fault.kind) nothing 0 (file_lines bytes) fault.line
  stops = go first
    where
      go : FirstSetupFault bytes fault → (length bytes ≤ most_setup_bytes) × StopsAt (FaultNext fault.kind) nothing 0 (file_lines bytes) fault.line
      go (inl f) = absurd (some f.1)
      go (inr f) = f

  here : Here (FaultNext fault.kind) (file_lines p.front.now) (file_lines p.rest.now) fault.line
  here = here_is (FaultNext fault.kind) bytes fault.line p parted stops.1

  located_at : (l : Located) → IsLocatedNext fault.kind l here.after (file_lines p.rest.now) → IsLocated bytes fault l
  located_at l at = inr (stops_here (FaultNext fault.kind) (IsLocatedNext fault.kind l) bytes fault.line p parted here at)

  -- nothing is left
  pub ends_there : p.rest.now ≡ [] → IsLocated bytes fault (located.End (missing_behind p.read))
  ends_there e =
      let early : IsBegun here.after → ⊥ = (subst (λ r. FaultNext fault.kind here.after (file_lines r)) e here.holds).1 in
      let reads = read_so (lines_read p.front.now) here.after (leads_read nothing (file_lines p.front.now) here.after here.leads) in
      let missing : missing_behind p.read ≡ section_of here.after = ap missing_behind parted.read ∙ missing_is (length (lines_read p.front.now)) here.after reads early in
      located_at (located.End (missing_behind p.read)) (subst (λ r. IsLocatedNext fault.kind (located.End (missing_behind p.read)) here.after (file_lines r)) (sym e) missing)

  -- a line is left, and this is told of it
  pub is_there : (line : List ℕ) → BeginsWithLine p.rest.now line → (before : Before)
      → ((after : SoFar) → length p.front.now ≤ most_setup_bytes → LeadTo nothing (file_lines p.front.now) after → IsBefore after before)
      → (l : Located) → ((after : SoFar) → IsBefore after before → LineFault after line fault.kind → IsLocatedIn fault.kind l after line) → IsLocated bytes fault l
  is_there line (lines, begins) before is l told =
      let before_is = is here.after (front_short bytes fault.line p most_setup_bytes parted stops.0) here.leads in
      let f : FaultNext fault.kind here.after (line ∷ lines) = subst (FaultNext fault.kind here.after) begins here.holds in
      located_at l (subst (IsLocatedNext fault.kind l here.after) (sym begins) (told here.after before_is f.1))

  -- the line is short
  pub is_short : (line : List ℕ) → BeginsWithLine p.rest.now line → length line < 2 ^ 32
  is_short line begins =
      let short = line_short p.rest.now line begins in
      let rest = rest_short bytes fault.line p most_setup_bytes parted stops.0 in
      omega (arith, short, rest)
