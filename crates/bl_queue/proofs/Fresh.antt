-- Queues before any entry.
use Rattle.std.proofs.Common.{◌≡◌, ℕ, ◌<◌, ◌≤◌, [], length, replicate, sym, subst, refl, arith, lit<}
use Rattle.std.proofs.lemmas.List.{length-replicate, get_or-replicate}
use Rattle.bl_queue.specs.declared.cown.Cown.{Cown}
use Rattle.bl_queue.specs.Queues.{most_cowns, most_entries}
use Rattle.bl_queue.specs.Holders.{cown_at, no_cown, no_holders, IsCown, IsSettled, AreHeld, AreSettled}
use Rattle.bl_queue.specs.Queued.{Roster, no_roster, AreQueued, IsKept}
use Rattle.bl_queue.proofs.Join.{none-some}

fresh_cown : (k : ℕ) → IsCown [] [] k no_cown
fresh_cown k = record {
  held = refl;
  alike = λ p lt t. absurd (omega (arith, lt));
  alone = λ e. omega arith;
  first = λ h e. absurd (none-some h e);
  over_before = λ p lt on t. absurd (omega (arith, lt));
  last_on = λ l e. absurd (none-some l e);
  last = λ q lt on. absurd (omega (arith, lt));
}

fresh_at : (cowns k : ℕ) → k < length (replicate cowns no_cown) → cown_at (replicate cowns no_cown) k ≡ no_cown
fresh_at cowns k lt =
    let size : length (replicate cowns no_cown) ≡ cowns = length-replicate cowns no_cown in
    get_or-replicate cowns k no_cown no_cown (omega (arith, lt, size))

pub fresh_held : (cowns limit : ℕ) → AreHeld (no_holders cowns limit) 0
fresh_held cowns limit = record {
  over = refl;
  next = refl;
  small = lit< tt;
  cown_known = λ p lt. absurd (omega (arith, lt));
  entry_known = λ p lt. absurd (omega (arith, lt));
  links = record { on = λ p q lt e. absurd (omega (arith, lt)); least = λ p q less lt on. absurd (omega (arith, lt)) };
  cowns = λ k lt. subst (λ (c : Cown). IsCown [] [] k c) (sym (fresh_at cowns k lt)) (fresh_cown k);
  waits = λ n lt. absurd (omega (arith, lt));
  free = record { listed = λ n lt z. absurd (omega (arith, lt)); right = λ i lt. absurd (omega (arith, lt)); count = refl };
}

pub fresh_settled : (cowns limit : ℕ) → AreSettled (no_holders cowns limit)
fresh_settled cowns limit k lt =
    subst (λ (c : Cown). IsSettled [] c) (sym (fresh_at cowns k lt)) (λ h e. absurd (none-some h e))

pub fresh_queued : (cowns limit : ℕ) → AreQueued [] [] (no_holders cowns limit) 0
fresh_queued cowns limit = record {
  kept = fresh_held cowns limit;
  settled = fresh_settled cowns limit;
  sizes = refl;
  placed = record {
    sizes = refl;
    few = omega arith;
    within = λ n lt. absurd (omega (arith, lt));
    held = λ n j lt below. absurd (omega (arith, lt));
    known = λ p lt. absurd (omega (arith, lt));
    behind = λ p lt. absurd (omega (arith, lt));
    before = λ p lt. absurd (omega (arith, lt));
    order = λ p q less lt. absurd (omega (arith, lt));
  };
  over = λ p lt. absurd (omega (arith, lt));
  begun = λ n lt gone. absurd (omega (arith, lt));
  bounded = omega arith;
  passed = λ i lt. absurd (omega (arith, lt));
  next = λ lt. absurd (omega (arith, lt));
}

-- the queues as they are made
pub fresh_kept : (cowns limit : ℕ) (r : Roster) → cowns ≤ most_cowns → limit ≤ most_entries → r ≡ no_roster cowns limit → IsKept cowns limit r
fresh_kept cowns limit r c l is =
    subst (λ (x : Roster). IsKept cowns limit x) (sym is) (record {
      right = record { cowns = c; limit = l; few = omega arith; each = λ k d lt. absurd (omega (arith, lt)) };
      limits = refl;
      held_limit = refl;
      held_cowns = length-replicate cowns no_cown;
      queued = fresh_queued cowns limit;
    })
