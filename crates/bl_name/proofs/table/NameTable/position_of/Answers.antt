use Rattle.std.proofs.Common.{rules, ◌≡◌, is_some, sym, ◌∙◌}
use Rattle.std.specs.List.{list_any, position}
use Rattle.bl_name.proofs.Tables.{found, place, same}
use Rattle.bl_name.proofs.table.NameTable.position_of.Goals as goal

pub returns-clause-found : goal.returns-clause-found
returns-clause-found c =
    let ks = c.self.inside.names.keys in
    let q = c.args.bytes.now in
    let e : is_some c.get_index_of.result ≡ list_any (same q) ks = c.get_index_of.ensures.found in
    let k = found q ks in
    rw (← c.self.view_is) ((λ s. k.0 (sym e ∙ search (rules, s))), (λ h. search (rules, e ∙ k.1 h)))

pub returns-clause-place : goal.returns-clause-place
returns-clause-place c =
    let ks = c.self.inside.names.keys in
    let q = c.args.bytes.now in
    let e : c.get_index_of.result ≡ position (same q) ks = c.get_index_of.ensures.index in
    rw (← c.self.view_is) (search (rules, e, place q ks))
