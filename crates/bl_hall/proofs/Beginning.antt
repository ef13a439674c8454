-- A hall in which nothing has happened.
use Rattle.std.proofs.Common.{◌≡◌, ℕ, ◌+◌, ◌*◌, ◌≤◌, List, [], length, refl, sym, ap, subst, ◌∙◌, arith}
use Rattle.std.specs.Prelude.{Some, None, slice_get, option_map}
use Rattle.std.specs.Vec.{vec_capacity}
use Rattle.bl_setup.specs.Setup.{Setup}
use Rattle.bl_order.specs.Machine.{State, most_sessions, start, state_after}
use Rattle.bl_order.specs.Order.{Entry}
use Rattle.bl_order.specs.Past.{no_entry}
use Rattle.bl_core.specs.Origins.{origin_of}
use Rattle.bl_hall.specs.declared.hall.Hall.TheInside.{Inside}
use Rattle.bl_hall.specs.Chronicle.{HasTrail}
use Rattle.bl_hall.specs.Keeps.{AreLinks, AreTallies, Keeps}
use Rattle.bl_hall.specs.Linked.{line_ordinal}
use Rattle.bl_hall.specs.Recalled.{lines_in, recalled, works_of}
use Rattle.std.proofs.Common.{◌∷◌, zero, suc, get_or}

-- the fields of a new hall
pub record Begun (d : Inside) (setup : Setup) (limit : ℕ) : Type 0 where
  pub core : d.core ≡ start setup limit
  pub events : d.events.items ≡ []
  pub links : d.links.items ≡ []
  pub tallies : d.tallies.items ≡ []
  pub some : 1 ≤ limit
  pub small : limit ≤ 100000
  pub events_room : most_sessions + 3 * limit ≤ vec_capacity d.events
  pub links_room : limit ≤ vec_capacity d.links
  pub tallies_room : most_sessions ≤ vec_capacity d.tallies

no-links : AreLinks [] []
no-links = record {
  as_many = refl;
  session = λ n lt. absurd (omega (arith, lt));
  families = λ n s k u w h. absurd (nothing n h);
}
  where
    nothing : {e : Entry} (n : ℕ) → slice_get [] n ≡ Some e → ⊥
    nothing n h = cc

no-tallies : (setup : Setup) (limit : ℕ) → AreTallies (start setup limit) [] []
no-tallies setup limit = record {
  as_many = refl;
  awaited = λ s lt. absurd (omega (arith, lt));
  lines = λ s lt. absurd (omega (arith, lt));
}

pub begun-kept : (d : Inside) (setup : Setup) (limit : ℕ) → Begun d setup limit → Keeps d
begun-kept d setup limit b = record {
  trail = subst (λ es. HasTrail (record { setup = d.core.setup; limit = d.core.limit; trail = recalled (works_of d.core.order) es })) (sym b.events) tt;
  leads =
      b.core ∙ sym (ap (λ (y : State). start y.setup y.limit) b.core)
      ∙ sym (ap (λ es. state_after (start d.core.setup d.core.limit) (recalled (works_of d.core.order) es)) b.events);
  lines = ap lines_in b.events ∙ sym (ap (λ (y : State). length (works_of y.order)) b.core);
  links = subst (λ (y : State). AreLinks y.order d.links.items) (sym b.core) (subst (AreLinks []) (sym b.links) no-links);
  tallies =
      subst (λ (y : State). AreTallies y d.links.items d.tallies.items) (sym b.core)
      (subst (λ l. AreTallies (start setup limit) l d.tallies.items) (sym b.links) (subst (AreTallies (start setup limit) []) (sym b.tallies) (no-tallies setup limit)));
  some = let same : d.core.limit ≡ limit = ap (λ (y : State). y.limit) b.core in omega (arith, same, b.some);
  limited = let same : d.core.limit ≡ limit = ap (λ (y : State). y.limit) b.core in omega (arith, same, b.small);
  opened = let none : length d.core.sessions ≡ 0 = ap (λ (y : State). length y.sessions) b.core in omega (arith, none);
  happened = let none : length d.events.items ≡ 0 = ap length b.events in omega (arith, none);
  events_room = let same : d.core.limit ≡ limit = ap (λ (y : State). y.limit) b.core in omega (arith, same, b.events_room);
  links_room = let same : d.core.limit ≡ limit = ap (λ (y : State). y.limit) b.core in omega (arith, same, b.links_room);
  tallies_room = b.tallies_room;
}

-- where there is no entry there is no ordinal
pub no-ordinal : (xs : List Entry) (n : ℕ) → None ≡ option_map origin_of (slice_get xs n) → 0 ≡ line_ordinal (get_or xs n no_entry)
no-ordinal [] n h = refl
no-ordinal (x ∷ xs) zero h = absurd (cc)
no-ordinal (x ∷ xs) (suc n) h = no-ordinal xs n h
