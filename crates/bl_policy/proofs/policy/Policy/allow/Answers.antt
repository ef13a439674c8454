use Rattle.std.proofs.Common.{◌≡◌, sym, subst, ap, ◌∙◌, ◌<◌}
use Rattle.std.specs.Prelude.{bit_and, bit_or}
use Rattle.bitflags.specs.Sets.{known_from}
use Rattle.bl_policy.specs.declared.access.ModeSet.{ModeSet}
use Rattle.bl_policy.specs.Policy.{SecurityPolicy, Clearance, clearance_of, level_of, allows}
use Rattle.bl_policy.specs.Matrix.{triple}
use Rattle.bl_policy.specs.Cells.{cell_of}
use Rattle.bl_policy.specs.Fields.{policy_of}
use Rattle.bl_policy.proofs.Triples.{is_in-put_modes}
use Rattle.bl_policy.proofs.ModeLemmas.{or-small}
use Rattle.bl_policy.proofs.FirstFailed.{is_cell-made}
use Rattle.bl_policy.proofs.FieldLemmas.{AreThere, Writes, clearance-read, level-read, modes-small, IsSound-written, policy_of-added}
use Rattle.bl_policy.proofs.policy.Policy.allow.Goals as goal

are_there : (c : goal.After-self-1) → AreThere (policy_of c.self.inside) c.args.subject c.args.doc
are_there c = subst (λ (p : SecurityPolicy). AreThere p c.args.subject c.args.doc) (sym c.self.view_is) (record { known = c.requires.known; there = c.requires.there })

-- the modes that the cell is given
added : (c : goal.After-self-1) → c.cell.result.modes ≡ record { 0 = bit_or c.index.result.now.modes.0 (bit_and c.args.modes.0 7) }
unfolding known_from
added c =
    let named : c.intersection-added.result.0 ≡ bit_and c.args.modes.0 7 = c.intersection-added.ensures tt ∙ ap (λ n. bit_and c.args.modes.0 n) (c.all.ensures tt) in
    ap (λ (cell : _). cell.modes) c.cell.ensures ∙ (λ i. record { 0 = (c.union-modes.ensures tt ∙ ap (λ n. bit_or c.index.result.now.modes.0 n) named) i })

writes : (c : goal.After-self-1) → Writes c.self.inside c.args.subject c.args.doc c.cell_place-place.result c.index.result.now c.cell.result
writes c =
    let are = are_there c in
    record {
      are = are;
      at = c.cell_place-place.ensures;
      was = c.index.ensures;
      is = is_cell-made (clearance_of (policy_of c.self.inside) c.args.subject) (level_of (policy_of c.self.inside) c.args.doc) c.union-modes.result c.cell.result
          (c.cell.ensures
          ∙ ap (λ (k : Clearance). cell_of k c.index-level.result.now c.union-modes.result) (clearance-read c.self.inside c.args.subject c.position-2.result c.index-2.result.now are.known c.position-2.ensures c.index-2.ensures)
          ∙ ap (λ level. cell_of (clearance_of (policy_of c.self.inside) c.args.subject) level c.union-modes.result) (level-read c.self.inside c.args.doc c.position.result c.index-level.result.now are.there c.position.ensures c.index-level.ensures));
    }

pub invariant_of-self : goal.invariant_of-self
invariant_of-self c =
    IsSound-written c.self.inside c.self.invariant c.args.subject c.args.doc c.cell_place-place.result c.index.result.now c.cell.result (writes c)
    (subst (λ (modes : ModeSet). modes.0 < 8) (sym (added c))
    (or-small c.index.result.now.modes.0 c.args.modes.0 (modes-small c.self.inside c.self.invariant c.args.subject c.args.doc c.cell_place-place.result c.index.result.now (are_there c) c.cell_place-place.ensures c.index.ensures)))

pub returns-clause-policy : goal.returns-clause-policy
returns-clause-policy c =
    rw (← c.self.view_is) (policy_of-added c.self.inside c.self.invariant c.args.subject c.args.doc c.cell_place-place.result c.index.result.now c.cell.result c.args.modes (writes c) (added c))

pub returns-clause-members : goal.returns-clause-members
returns-clause-members c = λ s o m.
    ap (λ (p : SecurityPolicy). allows p s o m) (returns-clause-policy c)
    ∙ is_in-put_modes c.args.self.now.matrix c.args.subject c.args.doc c.args.modes (triple s o m)
