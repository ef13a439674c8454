use Rattle.std.proofs.Common.{rules, ◌≡◌, ℕ, ◌+◌, ◌%◌, ◌^◌, List, [], ◌∷◌, Option, Some, refl, sym, ap, ◌∙◌, subst}
use mathlib.Core.Option.{none}
use Rattle.atomic_table.specs.Table.{step, Allows, rest}
use Rattle.bl_gate.specs.Turns.{Kept, Sat, Passes}
use Rattle.bl_gate.proofs.Steps.{passes}
use Rattle.bl_gate.proofs.gate.Gate.put_back.Goals as goal

pub fetch_add-requires : goal.fetch_add-requires
fetch_add-requires c =
    let m : Sat = (c.args.seat.now.me.0, (0, Some c.args.hall) ∷ []) in
    let e : c.exchange.new.seat.me ≡ m = c.exchange.ensures.3 ∙ ap (λ (l : List (ℕ × Option _)). (c.args.seat.now.me.0, (0, Some c.args.hall) ∷ rest l)) c.requires.turn.1 in
    let turn = c.requires.turn.0 in (
      search rules,
      search rules,
      subst (λ (x : Sat). Allows (Kept c.self.inside.table.shared.key.value) c.self.inside.table.shared.table_id.slots c.exchange.new.seat.id x 1 (λ n. (n + 1) % 2 ^ 64) (Passes (step c.self.inside.table.shared.table_id.slots 1 1 0 none) x)) (sym e)
          (passes _ _ _ m c.args.hall refl turn.0 turn.2 turn.1 c.requires.on),
    )

pub returns-clause-went : goal.returns-clause-went
returns-clause-went c = search rules
