-- The run at hand is under way.
use Rattle.std.proofs.Common.{◌≡◌, ◌≢◌, ◌↔◌, ◌<◌, ◌≤◌, ◌-◌, ◌∙◌, ℕ, List, [], None, Some, refl, ap, sym, subst, arith}
use Rattle.std.specs.Prelude.{IsSome, IsTrue, MatchOption}
use Rattle.bl_disk.specs.File.{File, all_kept, seen}
use Rattle.bl_setup.specs.Setup.{Setup}
use Rattle.bl_folder.specs.Names.{setup_of, setup_part_of, trail_of, trail_part_of}
use Rattle.bl_folder.specs.Standing.{Becomes, IsKept, Standing, StandsSo}
use Rattle.bl_chain.specs.declared.look.Lag.{Lag}
use Rattle.bl_chain.specs.declared.look.Lag.TheVariants.{Nothing, NextSetup, Name}
use Rattle.bl_chain.specs.declared.look.Looked.{Looked}
use Rattle.bl_chain_run.specs.Starting.{HasBegun, IsCaughtUp, IsCleared, IsMade}
use Rattle.bl_chain_run.specs.Writing.{IsNamed, IsWritten}
use Rattle.bl_chain_run.proofs.Apart.{part-setup, part-trail, parts, runs, setup-part, setup-parts, setup-trail-part, trail-part, trail-setup, trail-setup-part}

module _ {F : Type 0} (stands : F → Standing → Type 0) where
  -- nothing is missing
  pub stayed : (before : Standing) (run : ℕ) (setup : Setup) (f : F) → stands f before → StandsSo stands f (IsCaughtUp before Nothing run setup)
  stayed before run setup f is = record {
    standing = before;
    is = is;
    so = record { setup_is = refl; trail_is = refl; journal = refl; others = λ file apart. refl };
  }

  -- said of an equal lag
  pub at-lag : (before : Standing) (lag other : Lag) (run : ℕ) (setup : Setup) (f : F) → lag ≡ other → StandsSo stands f (IsCaughtUp before other run setup)
      → StandsSo stands f (IsCaughtUp before lag run setup)
  at-lag before lag other run setup f is up = subst (λ l. StandsSo stands f (IsCaughtUp before l run setup)) (sym is) up

  -- the setup is written
  pub wrote : (before : Standing) (run : ℕ) (setup : Setup) (f : F) → StandsSo stands f (IsWritten run setup before)
      → StandsSo stands f (IsCaughtUp before NextSetup run setup)
  wrote before run setup f w = record {
    standing = w.standing;
    is = w.is;
    so = record {
      setup_is = w.so.there.seen;
      trail_is = (w.so.others (trail_of (run - 1)) (trail-setup (run - 1) run) (trail-setup-part (run - 1) run)).seen;
      journal = (w.so.others (trail_part_of run) (part-setup run run) (parts run run)).seen;
      others = λ file apart. (w.so.others file apart.setup apart.part).seen;
    };
  }

  -- the trail of the run before is named, and the setup is written
  pub named : (before : Standing) (run : ℕ) (setup : Setup) (f g : F) → 0 < run
      → (n : StandsSo stands f (IsNamed (run - 1) (before.seen (trail_part_of (run - 1))) before)) → StandsSo stands g (IsWritten run setup n.standing)
      → StandsSo stands g (IsCaughtUp before Name run setup)
  named before run setup f g some n w =
      let last = run - 1 in
      let other : run ≢ last = λ e. omega (arith, e, some) in
      record {
        standing = w.standing;
        is = w.is;
        so = record {
          setup_is = w.so.there.seen;
          trail_is = (w.so.others (trail_of last) (trail-setup last run) (trail-setup-part last run)).seen ∙ n.so.there.seen;
          journal = (w.so.others (trail_part_of run) (part-setup run run) (parts run run)).seen
              ∙ (n.so.others (trail_part_of run) (part-trail run last) (runs run last other)).seen;
          others = λ file apart. (w.so.others file apart.setup apart.part).seen ∙ (n.so.others file apart.trail apart.last).seen;
        };
      }

  -- what a crash left beside is removed: the setup alone where there is no run before
  pub cleared-one : (before : Standing) (run : ℕ) (f g : F) → run ≤ 1 → (k : StandsSo stands f (IsKept before))
      → StandsSo stands g (Becomes (setup_part_of run) None k.standing) → StandsSo stands g (IsCleared run before)
  cleared-one before run f g first k a = record {
    standing = a.standing;
    is = a.is;
    so = record {
      alone = a.so.is;
      named = λ more. absurd (omega (arith, first, more));
      others = λ file no_setup no_trail. a.so.same.others file no_setup ∙ ap (λ h. h file) k.so.seen;
    };
  }

  pub cleared-two : (before : Standing) (run : ℕ) (f g h : F) → 1 < run → (k : StandsSo stands f (IsKept before))
      → (a : StandsSo stands g (Becomes (setup_part_of run) None k.standing)) → StandsSo stands h (Becomes (trail_part_of (run - 1)) None a.standing)
      → StandsSo stands h (IsCleared run before)
  cleared-two before run f g h more k a b = record {
    standing = b.standing;
    is = b.is;
    so = record {
      alone = b.so.same.others (setup_part_of run) (setup-parts run (run - 1)) ∙ a.so.is;
      named = λ _. b.so.is;
      others = λ file no_setup no_trail. b.so.same.others file (no_trail more) ∙ a.so.same.others file no_setup ∙ ap (λ u. u file) k.so.seen;
    };
  }

  -- the journal that was there is opened
  pub opened : (before : Standing) (run : ℕ) (bytes : List ℕ) (g : F) → before.seen (trail_part_of run) ≡ Some bytes
      → StandsSo stands g (IsKept before) → StandsSo stands g (HasBegun run bytes before)
  opened before run bytes g has k = record {
    standing = k.standing;
    is = k.is;
    so = record {
      journal = subst (λ o. MatchOption o (bytes ≡ []) (λ text. bytes ≡ text)) (sym has) refl;
      there = ap (λ u. u (trail_part_of run)) k.so.seen ∙ has;
      others = λ other no. ap (λ u. u other) k.so.seen;
      kept = k.so.kept ∙ sym k.so.seen;
    };
  }

  -- or one is made
  pub made : (before : Standing) (run : ℕ) (file : File) (f g : F) → before.seen (trail_part_of run) ≡ None → file ≡ all_kept []
      → (m : StandsSo stands f (Becomes (trail_part_of run) (Some []) before)) → StandsSo stands g (IsKept m.standing)
      → StandsSo stands g (HasBegun run (seen file) before)
  made before run file f g none empty m k =
      let bytes : seen file ≡ [] = ap seen empty in
      record {
        standing = k.standing;
        is = k.is;
        so = record {
          journal = subst (λ o. MatchOption o (seen file ≡ []) (λ text. seen file ≡ text)) (sym none) bytes;
          there = ap (λ u. u (trail_part_of run)) k.so.seen ∙ m.so.is ∙ ap Some (sym bytes);
          others = λ other no. ap (λ u. u other) k.so.seen ∙ m.so.same.others other no;
          kept = k.so.kept ∙ sym k.so.seen;
        };
      }

  module _ (before : Standing) (looked : Looked) (f g : F)
      (u : StandsSo stands f (IsCaughtUp before looked.lag looked.run looked.setup)) (c : StandsSo stands g (IsCleared looked.run u.standing)) where
    -- its journal is as it was all the while
    journal-stays : c.standing.seen (trail_part_of looked.run) ≡ before.seen (trail_part_of looked.run)
    journal-stays =
        c.so.others (trail_part_of looked.run) (parts looked.run looked.run) (λ more. runs looked.run (looked.run - 1) (λ e. omega (arith, e, more))) ∙ u.so.journal

    pub still-there : IsTrue looked.is_begun ↔ IsSome (before.seen (trail_part_of looked.run)) → IsTrue looked.is_begun ↔ IsSome (c.standing.seen (trail_part_of looked.run))
    still-there is = subst (λ o. IsTrue looked.is_begun ↔ IsSome o) (sym journal-stays) is

    -- all is ready for it
    pub is-made : (h : F) (bytes : List ℕ) → StandsSo stands h (HasBegun looked.run bytes c.standing) → IsMade stands before looked bytes h
    is-made h bytes b =
        let run = looked.run in
        let last = looked.run - 1 in
        record {
          ready = record {
            standing = b.standing;
            is = b.is;
            so = record {
              setup_is = b.so.others (setup_of run) (setup-trail-part run run) ∙ c.so.others (setup_of run) (setup-part run run) (λ _. setup-trail-part run last)
                  ∙ u.so.setup_is;
              trail_is = b.so.others (trail_of last) (trail-part last run) ∙ c.so.others (trail_of last) (trail-setup-part last run) (λ _. trail-part last last)
                  ∙ u.so.trail_is;
              journal = b.so.there;
              alone = b.so.others (setup_part_of run) (setup-parts run run) ∙ c.so.alone;
              named = λ more. b.so.others (trail_part_of last) (runs last run (λ e. omega (arith, e, more))) ∙ c.so.named more;
              others = λ file apart. b.so.others file apart.journal ∙ c.so.others file apart.part (λ _. apart.last) ∙ u.so.others file apart;
              kept = b.so.kept;
            };
          };
          journal = subst (λ o. MatchOption o (bytes ≡ []) (λ text. bytes ≡ text)) journal-stays b.so.journal;
        }
