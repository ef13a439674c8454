-- How a file takes its name, call by call.
use Rattle.std.proofs.Common.{◌≡◌, ◌≢◌, ◌∙◌, ℕ, List, Option, None, ap, subst, sym}
use Rattle.bl_folder.specs.Standing.{Becomes, IsKept, Standing, StandsSo}
use Rattle.bl_folder.specs.declared.name.RunFile.{RunFile}
use Rattle.bl_chain_run.specs.Writing.{HasTaken, IsKeptWithout}

module _ {F : Type 0} (stands : F → Standing → Type 0) where
  -- names are kept, and one is removed
  pub kept-without : (part : RunFile) (f g : F) (a : Standing) (k : StandsSo stands f (IsKept a)) → StandsSo stands g (Becomes part None k.standing)
      → StandsSo stands g (IsKeptWithout part a)
  kept-without part f g a k r = record {
    standing = r.standing;
    is = r.is;
    so = record {
      kept = r.so.same.kept ∙ k.so.kept;
      gone = r.so.is;
      others = λ other no. r.so.same.others other no ∙ ap (λ h. h other) k.so.seen;
    };
  }

  module _ (file part : RunFile) (apart : file ≢ part) (bytes : Option (List ℕ)) where
    -- it is named, that is kept, and the other name is taken from it
    pub taken : (before : Standing) (f g : F) → before.seen file ≡ None → (a : StandsSo stands f (Becomes file bytes before))
        → StandsSo stands g (IsKeptWithout part a.standing) → StandsSo stands g (HasTaken file part bytes before)
    taken before f g free a b = record {
      standing = b.standing;
      is = b.is;
      so = record {
        free = free;
        there = record { seen = b.so.others file apart ∙ a.so.is; kept = ap (λ h. h file) b.so.kept ∙ a.so.is };
        gone = b.so.gone;
        others = λ other no_file no_part. record {
          seen = b.so.others other no_part ∙ a.so.same.others other no_file;
          kept = ap (λ h. h other) b.so.kept ∙ a.so.same.others other no_file;
        };
      };
    }

    -- it is written beside its name before
    pub written : (before : Standing) (e f g : F) (w : StandsSo stands e (Becomes part bytes before)) → w.standing.seen file ≡ None
        → (l : StandsSo stands f (Becomes file (w.standing.seen part) w.standing)) → StandsSo stands g (IsKeptWithout part l.standing)
        → StandsSo stands g (HasTaken file part bytes before)
    written before e f g w free l b = record {
      standing = b.standing;
      is = b.is;
      so = record {
        free = sym (w.so.same.others file apart) ∙ free;
        there = record { seen = b.so.others file apart ∙ l.so.is ∙ w.so.is; kept = ap (λ h. h file) b.so.kept ∙ l.so.is ∙ w.so.is };
        gone = b.so.gone;
        others = λ other no_file no_part. record {
          seen = b.so.others other no_part ∙ l.so.same.others other no_file ∙ w.so.same.others other no_part;
          kept = ap (λ h. h other) b.so.kept ∙ l.so.same.others other no_file ∙ w.so.same.others other no_part;
        };
      };
    }

    -- said of equal bytes
    pub taken-as : (before : Standing) (g : F) (found : Option (List ℕ)) → found ≡ bytes → StandsSo stands g (HasTaken file part bytes before)
        → StandsSo stands g (HasTaken file part found before)
    taken-as before g found is b = subst (λ o. StandsSo stands g (HasTaken file part o before)) (sym is) b
