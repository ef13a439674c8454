-- Each entry of the order may come next to a monitor that was told those before it.
use Rattle.std.proofs.Common.{◌≡◌, ℕ, ◌<◌, ◌≤◌, Bool, List, length, get_or, sym, ◌∙◌, ap, subst, inl, arith}
use Rattle.std.specs.Prelude.{IsTrue, Some, map, slice_get}
use Rattle.std.proofs.lemmas.List.{get_or-map}
use Rattle.std.proofs.lemmas.Option.{slice_get-get_or}
use Rattle.bl_work.specs.Effects.{children}
use Rattle.bl_work.specs.declared.work.Work.{Work}
use Rattle.bl_order.specs.AtHand.{ParentsHaveEnded, RestsOnEndedPlaces}
use Rattle.bl_order.specs.Legal.{HasPlace, IsLegal}
use Rattle.bl_order.specs.Machine.{State, has_ended, is_lost, past_at}
use Rattle.bl_order.specs.Order.{Entry, unnamed}
use Rattle.bl_order.specs.Order as orders
use Rattle.bl_order.specs.Past.{Past, is_done, no_entry}
use Rattle.bl_monitor.specs.Heard.{Heard, IsChild, MayCome, place_at}
use Rattle.bl_replay.specs.Fed.{ComeInOrder}
use Rattle.bl_replay.specs.Keeps.{KeepsAt}
use Rattle.bl_replay.specs.Kept.{entry_by, entry_in, no_place, place_in, told_by}
use Rattle.bl_replay.specs.Marks.{AreForetold, lost_later}
use Rattle.bl_replay.specs.Told.{IsTold}
use Rattle.bl_replay.specs.declared.place.Origin.{Origin}
use Rattle.bl_replay.specs.declared.place.Origin.TheVariants.{Line, Child}
use Rattle.bl_replay.specs.declared.place.Place.{Place}
use Rattle.bl_replay.specs.declared.replayer.Replayer.{Replayer}
use Rattle.bl_replay.proofs.Foresight.{get-unnamed, told-now}
use Rattle.bl_replay.proofs.Moving.{many-places}

-- a child has neither session nor ordinal
child-unnamed : (e : Entry) (parent which : ℕ) → unnamed e ≡ orders.Child parent which → e ≡ orders.Child parent which
child-unnamed (orders.Line session ordinal subject work) parent which is = absurd (cc)
child-unnamed (orders.Child p w) parent which is = is

module _ (x : State) (r : Replayer) (k : KeepsAt x r) (foretold : AreForetold (lost_later r.marks.items) x)
    (rests : RestsOnEndedPlaces x) (parents : ParentsHaveEnded x) (legal : IsLegal x.setup (is_lost x) x.order) where
  module _ (h : Heard) (told : IsTold x.setup (lost_later r.marks.items) (map entry_in r.places.items) h) where
    told-order : IsTold x.setup (lost_later r.marks.items) (map unnamed x.order) h
    told-order = subst (λ (o : List Entry). IsTold x.setup (lost_later r.marks.items) o h) (sym k.order) told

    -- where the next entry is a child, its parent has ended, and spawned it
    child-comes : (parent which : ℕ) → slice_get x.order (length h.order) ≡ Some (orders.Child parent which) → IsChild h parent which
    child-comes parent which at =
        let placed : HasPlace x.setup (is_lost x) x.order (length h.order) parent which = legal.placed (length h.order) parent which at in
        let ended : IsTrue (has_ended x parent) = (parents (length h.order) parent which at).1 in
        let now : place_at h parent ≡ past_at x parent =
        told-now x rests (lost_later r.marks.items) foretold h told-order parent placed.behind (inl ended) (foretold parent ended) in
        record {
          from_one = omega (arith, placed.from_one);
          behind = placed.behind;
          done = ap (λ (p : Past). is_done p.answer) now ∙ placed.done;
          spawned = subst (λ (p : Past). which ≤ length (children p.effects)) (sym now) placed.spawned;
        }

    comes-by : (w : Work) (lost : Bool) (o : Origin) → length h.order < length x.order → unnamed (get_or x.order (length h.order) no_entry) ≡ entry_by w o → MayCome h (told_by w lost o)
    comes-by w lost (Line subject) lt is = tt
    comes-by w lost (Child parent which) lt is =
        child-comes parent which
        (slice_get-get_or x.order (length h.order) no_entry lt ∙ ap Some (child-unnamed (get_or x.order (length h.order) no_entry) parent which is))

  pub come-in-order : ComeInOrder x.setup (lost_later r.marks.items) r.places.items
  come-in-order h told lt =
      let p : Place = place_in r.places.items (length h.order) in
      comes-by h told p.work (lost_later r.marks.items (length h.order)) p.origin (omega (arith, lt, many-places x r k))
      (sym (get-unnamed x.order (length h.order)) ∙ ap (λ l. get_or l (length h.order) no_entry) k.order
      ∙ get_or-map entry_in r.places.items (length h.order) no_place no_entry lt)
