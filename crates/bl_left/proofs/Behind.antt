-- What stands behind all entries that a monitor was told is what stands in a state in which all has ended.
use Rattle.std.proofs.Common.{◌≡◌, ℕ, zero, suc, ◌≤◌, Bool, ◌∷◌, length, refl, sym, ◌∙◌, ap, arith}
use Rattle.std.specs.Prelude.{map}
use Rattle.bl_order.specs.Machine.{State, is_lost}
use Rattle.bl_order.specs.Order.{unnamed}
use Rattle.bl_order.specs.Past.{content_of, earlier, policy_of}
use Rattle.bl_order.specs.Standing.{HaveAllEnded, setup_after, tabled}
use Rattle.bl_order.proofs.PlaceLaws.{earlier-lost}
use Rattle.bl_monitor.specs.Heard.{Heard}
use Rattle.bl_monitor.specs.Heard as heard
use Rattle.bl_replay.specs.Marks.{AreForetold}
use Rattle.bl_replay.specs.Told.{IsTold}
use Rattle.bl_replay.proofs.Foresight.{told-place}

module _ (x : State) (marks : ℕ → Bool) (h : Heard) (told : IsTold x.setup marks (map unnamed x.order) h) (all_told : length h.order ≡ length x.order)
    (foretold : AreForetold marks x) (all : HaveAllEnded x) where
  earlier-told : (n : ℕ) → n ≤ length h.order → earlier h.setup (heard.is_lost h) h.order n ≡ earlier x.setup marks x.order n
  earlier-told zero le = refl
  earlier-told (suc n) le =
      λ i. told-place x.setup marks x.order h told n (omega (arith, le)) i ∷ earlier-told n (omega (arith, le)) i

  all-earlier : earlier h.setup (heard.is_lost h) h.order (length h.order) ≡ earlier x.setup (is_lost x) x.order (length x.order)
  all-earlier =
      earlier-told (length h.order) (omega arith)
      ∙ ap (earlier x.setup marks x.order) all_told
      ∙ earlier-lost x.setup marks (is_lost x) x.order (length x.order) (λ k lt. sym (foretold k (all k lt)))

  pub stands-behind : setup_after h.setup (heard.is_lost h) h.order ≡ setup_after x.setup (is_lost x) x.order
  stands-behind = λ i. record {
    names = (told.setup_is i).names;
    policy = policy_of (told.setup_is i) (all-earlier i);
    contents = tabled 0 (length (told.setup_is i).contents) (content_of (told.setup_is i) (all-earlier i));
    version = (told.setup_is i).version;
  }
