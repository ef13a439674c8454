-- Whose line an entry is, or descends from.
use Rattle.std.proofs.Common.{◌≡◌, ◌<◌, ◌∙◌, ℕ, ap, arith, length, sym}
use Rattle.std.specs.Prelude.{Some, option_map, slice_get}
use Rattle.bl_order.specs.Headline.{IsReached}
use Rattle.bl_order.specs.Labels.{Tag, tag}
use Rattle.bl_order.specs.Machine.{State}
use Rattle.bl_core.specs.Origins.{origin_of}
use Rattle.bl_core.specs.declared.origin.Origin.{Origin}
use Rattle.bl_core.specs.declared.origin.Origin.TheVariants.{Line, Child}
use Rattle.bl_hall.proofs.Answering.{child-there, line-there}
use Rattle.bl_hall.proofs.Tags.{parent-of, tag-child, tag-line}
use Rattle.bl_explaining_event.specs.Origins.{above_of}
use Rattle.bl_explaining_event.specs.declared.labels.Above.TheVariants.{Session, Parent}

module _ (x : State) (reached : IsReached x) (n : ℕ) where
  pub parent-up : (o : Origin) (p : ℕ) → Some o ≡ option_map origin_of (slice_get x.order n) → above_of o ≡ Parent p
      → (p < n) × ((p < length x.order) × ((tag x.order n).session ≡ (tag x.order p).session))
  parent-up (Line session ordinal) p found is = absurd (cc)
  parent-up (Child parent which) p found is =
      let same : parent ≡ p = cc in
      let child = child-there x.order n parent which found in
      let behind = (parent-of x reached n parent which child.0 child.1).0 in (
        omega (arith, behind, same),
        (
          omega (arith, behind, same, child.0),
          ap (λ (t : Tag). t.session) (tag-child x.order n parent which behind child.1)
              ∙ ap (λ k. (tag x.order k).session) same,
        ),
      )

  pub session-up : (o : Origin) (s : ℕ) → Some o ≡ option_map origin_of (slice_get x.order n) → above_of o ≡ Session s
      → s ≡ (tag x.order n).session
  session-up (Line session ordinal) s found is =
      let same : session ≡ s = cc in
      let line = line-there x.order n session ordinal found in
      sym (ap (λ (t : Tag). t.session) (tag-line x.order n session ordinal line.1.0 line.1.1 line.1.2) ∙ same)
  session-up (Child parent which) s found is = absurd (cc)
