use Rattle.std.proofs.Common.{rules, ◌≡◌, ◌++◌, [], ap, codes, slice_index_or}
use Rattle.std.specs.Prelude.{Some}
use Rattle.std.proofs.lemmas.Option.{gets}
use Rattle.bl_trail.proofs.Comparing.{is-whole, left-two}
use Rattle.bl_trail.proofs.compare.is_open.Goals as goal

pub returns : goal.returns
returns c =
    let name : slice_index_or c.args.names.now.subjects c.args.subject [] ≡ c.bytes.result.now = search (rules, gets) in
    is-whole (codes "open " ++ slice_index_or c.args.names.now.subjects c.args.subject []) c.args.line.now _ _
    (left-two (codes "open " ++ slice_index_or c.args.names.now.subjects c.args.subject []) (codes "open ") c.bytes.result.now (Some c.args.line.now) _ _
    (ap (λ l. codes "open " ++ l) name) c.after-rest.ensures c.after.ensures) c.is_over.ensures
