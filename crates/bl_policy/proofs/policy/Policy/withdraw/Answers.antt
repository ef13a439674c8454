use Rattle.std.proofs.Common.{◌≡◌, sym, subst, ap, ◌∙◌, ◌<◌}
use Rattle.bitflags.specs.Sets.{without}
use Rattle.bl_policy.specs.declared.access.ModeSet.{ModeSet}
use Rattle.bl_policy.specs.Mode.{flag_of}
use Rattle.bl_policy.specs.Policy.{SecurityPolicy, Clearance, clearance_of, level_of}
use Rattle.bl_policy.specs.Cells.{cell_of}
use Rattle.bl_policy.specs.Fields.{policy_of}
use Rattle.bl_policy.proofs.ModeLemmas.{without-small}
use Rattle.bl_policy.proofs.FirstFailed.{is_cell-made}
use Rattle.bl_policy.proofs.FieldLemmas.{AreThere, Writes, clearance-read, level-read, modes-small, IsSound-written, policy_of-taken}
use Rattle.bl_policy.proofs.policy.Policy.withdraw.Goals as goal

are_there : (c : goal.After-self-1) → AreThere (policy_of c.self.inside) c.args.subject c.args.doc
are_there c = subst (λ (p : SecurityPolicy). AreThere p c.args.subject c.args.doc) (sym c.self.view_is) (record { known = c.requires.known; there = c.requires.there })

-- the modes that are left
left : (c : goal.After-self-1) → c.cell.result.modes ≡ record { 0 = without 8 c.index.result.now.modes.0 (flag_of c.args.mode) }
left c = ap (λ (cell : _). cell.modes) c.cell.ensures ∙ (λ i. record { 0 = (c.difference-modes.ensures tt ∙ ap (λ n. without 8 c.index.result.now.modes.0 n) c.from.ensures) i })

writes : (c : goal.After-self-1) → Writes c.self.inside c.args.subject c.args.doc c.cell_place-place.result c.index.result.now c.cell.result
writes c =
    let are = are_there c in
    record {
      are = are;
      at = c.cell_place-place.ensures;
      was = c.index.ensures;
      is = is_cell-made (clearance_of (policy_of c.self.inside) c.args.subject) (level_of (policy_of c.self.inside) c.args.doc) c.difference-modes.result c.cell.result
          (c.cell.ensures
          ∙ ap (λ (k : Clearance). cell_of k c.index-level.result.now c.difference-modes.result) (clearance-read c.self.inside c.args.subject c.position-2.result c.index-2.result.now are.known c.position-2.ensures c.index-2.ensures)
          ∙ ap (λ level. cell_of (clearance_of (policy_of c.self.inside) c.args.subject) level c.difference-modes.result) (level-read c.self.inside c.args.doc c.position.result c.index-level.result.now are.there c.position.ensures c.index-level.ensures));
    }

pub invariant_of-self : goal.invariant_of-self
invariant_of-self c =
    IsSound-written c.self.inside c.self.invariant c.args.subject c.args.doc c.cell_place-place.result c.index.result.now c.cell.result (writes c)
    (subst (λ (modes : ModeSet). modes.0 < 8) (sym (left c))
    (without-small c.index.result.now.modes.0 (flag_of c.args.mode) (modes-small c.self.inside c.self.invariant c.args.subject c.args.doc c.cell_place-place.result c.index.result.now (are_there c) c.cell_place-place.ensures c.index.ensures)))

pub returns : goal.returns
returns c =
    rw (← c.self.view_is) (policy_of-taken c.self.inside c.self.invariant c.args.subject c.args.doc c.cell_place-place.result c.index.result.now c.cell.result c.args.mode (writes c) (left c))
