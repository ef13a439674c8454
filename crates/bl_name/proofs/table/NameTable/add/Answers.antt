use Rattle.std.proofs.Common.{rules, ◌≡◌, true, false, sym, ap, ◌∙◌, true≢false, false, cond, subst, ◌++◌, ◌∷◌, []}
use Rattle.std.specs.List.{list_any}
use Rattle.bl_name.proofs.Tables.{found, same, IsTable-push, absent}
use Rattle.bl_name.proofs.table.NameTable.add.Goals.{in-Ok, in-Err}
use Rattle.bl_name.specs.Table.{IsTable}
use Rattle.bl_name.proofs.table.NameTable.add.Goals as goal

pub returns-then-contains-clause-repeated : goal.returns-then-contains-clause-repeated
returns-then-contains-clause-repeated c =
    let ks = c.self.inside.names.keys in
    let q = c.args.name in
    let e : true ≡ list_any (same q) ks = search (rules, c.contains.ensures) in
    let k = found q ks in
    rw (← c.self.view_is) ((λ _. k.0 (sym e)), (λ h. search rules))

pub returns-clause-repeated : goal.returns-clause-repeated
returns-clause-repeated c =
    let ks = c.self.inside.names.keys in
    let q = c.args.name in
    let e : list_any (same q) ks ≡ false = sym c.contains.ensures ∙ c.if-contains.false in
    let k = found q ks in
    rw (← c.self.view_is) (
      (λ h. elim c.match-insert.branch [
        | in-Ok w ↦ absurd (search (rules, h, w.result-is))
        | in-Err w ↦ absurd (search (rules, h, w.result-is))
      ]),
      (λ h. absurd (true≢false (sym (k.1 h) ∙ e))),
    )

pub invariant_of-self : goal.invariant_of-self
invariant_of-self c =
    let ks = c.self.inside.names.keys in
    let name = c.args.name in
    let fresh : list_any (same name) ks ≡ false = sym c.contains.ensures ∙ c.if-contains.false in
    elim c.match-insert.branch [
      | in-Ok w ↦
          let e : c.insert.new.self.keys ≡ ks ++ name ∷ [] = w.in-Ok.ensures.keys ∙ ap (λ b. cond b ks (ks ++ name ∷ [])) fresh in
          subst IsTable (sym e) (IsTable-push ks name c.self.invariant c.bytes.ensures.name (absent name ks fresh))
      | in-Err w ↦
          let e : c.insert.new.self.keys ≡ ks = w.in-Err.ensures.err in
          subst IsTable (sym e) c.self.invariant
    ]

pub returns-clause-table : goal.returns-clause-table
returns-clause-table c = invariant_of-self c
