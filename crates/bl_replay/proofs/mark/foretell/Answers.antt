use Rattle.std.proofs.Common.{◌≡◌, ◌∷◌, [], ℕ, ◌<◌, Bool, false, not, length, codes, true≢false, sym, ◌∙◌, ap, arith}
use Rattle.std.specs.Prelude.{Option, Some, None, is_some}
use Rattle.memchr.specs.Find.{FindsNeedle, OccursAt}
use Rattle.bl_order.specs.Machine.{State, Event, Needs}
use Rattle.bl_trail.specs.OneEvent.{IsSmall}
use Rattle.bl_replay.specs.Marks.{Finding, first_end, lost_later, mark_in, unless_marked, ending_of}
use Rattle.bl_replay.proofs.Finding.{ends-small}
use Rattle.bl_replay.proofs.Lossless.{lossless}
use Rattle.bl_replay.proofs.Noting.{noted-finding, none-left}
use Rattle.bl_replay.proofs.mark.foretell.Goals as goal

pub lines-init : goal.lines-init
lines-init c more are = (more, are, λ k. sym (ap (λ l. unless_marked (mark_in l k) (first_end more k)) c.new-marks.ensures.items))

pub returns-in_default : goal.returns-in_default
returns-in_default c =
    let inv = c.lines.invariant [] c.in_default.ensures in
    (inv.0, inv.1, λ k. none-left (mark_in c.lines.marks.items k) ∙ sym (inv.2 k))

pub lines-preserved-in_ok-note : goal.lines-preserved-in_ok-note
lines-preserved-in_ok-note c more are =
    let n : ℕ = c.in-Some-ending_in.n in
    let lost : Bool = c.in-Some-ending_in.lost in
    let inv = c.lines.invariant (Some (n, lost) ∷ more) (c.in-Some.line.now, c.in-Some.behind.now, c.in-Some.ensures, c.in-Some-ending_in.ensures, are) in
    (inv.0, inv.1, λ k. inv.2 k ∙ noted-finding c.lines.marks.items n lost more k ∙ ap (λ m. unless_marked m (first_end more k)) (sym (c.in_ok-note.ensures k)))

pub lines-preserved-else-n-lt-MOST_PLACES : goal.lines-preserved-else-n-lt-MOST_PLACES
lines-preserved-else-n-lt-MOST_PLACES c more are =
    c.lines.invariant (None ∷ more) (
      c.in-Some.line.now,
      c.in-Some.behind.now,
      c.in-Some.ensures,
      (λ x event small needs text. absurd (too-large x small event needs (c.in-Some-ending_in.ensures x event small needs text))),
      are,
    )
  where
    too-large : (x : State) (small : IsSmall x) (event : Event) → Needs x event → ◌≡◌ {A = Finding} (Some (c.in-Some-ending_in.n, c.in-Some-ending_in.lost)) (ending_of x event) → ⊥
    too-large x small event needs is =
        let lt : c.in-Some-ending_in.n < 100000 = ends-small x small event c.in-Some-ending_in.n c.in-Some-ending_in.lost needs is in
        absurd (omega (arith, lt, c.if-n-lt-MOST_PLACES.false))

pub lines-preserved : goal.lines-preserved
lines-preserved c more are = c.lines.invariant (None ∷ more) (c.in-Some.line.now, c.in-Some.behind.now, c.in-Some.ensures, c.in_default-ending_in.ensures, are)

pub returns-then-is_none : goal.returns-then-is_none
returns-then-is_none c =
    let found = lossless (length c.args.text.now) c.args.text.now (omega arith) (no-loss c.find.result c.find.ensures (c.is_none.ensures ∙ ap not c.if-is_none.true)) in
    (found.0, found.1, λ k. ap (λ l. lost_later l k) c.new-marks.ensures.items ∙ sym (found.2 k))
  where
    no-loss : (r : Option ℕ) → FindsNeedle c.args.text.now (codes "lost ") 0 r → is_some r ≡ false → (k : ℕ) → OccursAt c.args.text.now (codes "lost ") k → ⊥
    no-loss None finds is k at = finds k (omega arith) (omega (arith, at.fits)) at
    no-loss (Some i) finds is k at = true≢false is
