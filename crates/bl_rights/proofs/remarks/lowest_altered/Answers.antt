use Rattle.std.proofs.Common.{◌≡◌, true, false, ap, sym, ◌∙◌, arith, length, Some}
use Rattle.std.specs.Prelude.{◌&&◌}
use Rattle.std.specs.List.{list_any, range_with_len}
use Rattle.bl_level.specs.Level.{SecurityLevel, dominates}
use Rattle.bl_policy.specs.Policy.{level_of}
use Rattle.bl_rights.specs.Remarks.{alters_below, can_alter, is_above}
use Rattle.bl_rights.proofs.Lowest.{altered, unaltered}
use Rattle.bl_rights.proofs.remarks.lowest_altered.Goals as goal
use Rattle.bl_rights.proofs.remarks.lowest_altered.Goals.{then-can_alter, else-can_alter}

pub loop-place-preserved : goal.loop-place-preserved
loop-place-preserved c =
    let p = c.args.policy.now in
    let s = c.args.subject in
    let place = c.loop-place.place in
    let low = c.loop-place.low in
    let same = c.new-doc.ensures in
    elim c.if-can_alter.branch [
      | then-can_alter w ↦ λ l.
          rw w.low-is
          (altered (can_alter p s) (level_of p) low (Some w.lowered.result) place l (sym (ap (can_alter p s) same) ∙ sym c.can_alter.ensures ∙ w.if-can_alter.true)
          (w.lowered.ensures l ∙ ap (λ (x : SecurityLevel). is_above low l && dominates x l) (w.level.ensures ∙ ap (level_of p) same)) (c.loop-place.invariant l))
      | else-can_alter w ↦ λ l.
          rw w.low-is
          (unaltered (can_alter p s) (level_of p) low place l (sym (ap (can_alter p s) same) ∙ sym c.can_alter.ensures ∙ w.if-can_alter.false) (c.loop-place.invariant l))
    ]

pub returns : goal.returns
returns c = λ l.
    let p = c.args.policy.now in
    let all : c.loop-place.place ≡ length p.documents = omega (arith, c.loop-place-test.false, c.loop-place.auto.place-end, c.documents-many.ensures.value) in
    sym (ap (λ n. list_any (λ o. alters_below p c.args.subject l o) (range_with_len 0 n)) all) ∙ c.loop-place.invariant l
