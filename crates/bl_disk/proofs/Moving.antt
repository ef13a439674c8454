-- Before a call changes a file, and after it.
use Rattle.std.proofs.Common.{◌≡◌, ℕ, List, [], ◌++◌, take, drop, refl, sym, ◌∙◌, ap, append_assoc, append-nil, take-append-drop}
use Rattle.bl_disk.specs.File.{File, seen}
use Rattle.bl_disk.specs.Moments.{IsAdding, IsCutting, IsSyncing}
use Rattle.bl_disk.proofs.Fronts.{itself}

-- nothing of a text is added yet
pub none-added : (before : File) (text : List ℕ) → IsAdding before text before
none-added before text = record { kept = itself before.kept; part = []; is_part = (text, refl); there = sym (append-nil (seen before)) }

-- all of it is
pub all-added : (before file : File) (text : List ℕ) → file.kept ≡ before.kept → file.loose ≡ before.loose ++ text → IsAdding before text file
all-added before file text kept loose = record {
  kept = ([], kept ∙ sym (append-nil before.kept));
  part = text;
  is_part = itself text;
  there = ap (λ k. k ++ file.loose) kept ∙ ap (λ l. before.kept ++ l) loose ∙ sym (append_assoc before.kept before.loose text);
}

-- nothing is cut yet
pub none-cut : (before : File) (len : ℕ) → IsCutting before len before
none-cut before len = record {
  kept = (drop len before.kept, sym (take-append-drop len before.kept));
  there = (drop len (seen before), sym (take-append-drop len (seen before)));
}

pub all-cut : (before file : File) (len : ℕ) → file.kept ≡ take len before.kept → seen file ≡ take len (seen before) → IsCutting before len file
all-cut before file len kept there = record {
  kept = ([], kept ∙ sym (append-nil (take len before.kept)));
  there = ([], there ∙ sym (append-nil (take len (seen before))));
}

pub all-synced : (before file : File) → file.kept ≡ seen before → IsSyncing before file
all-synced before file kept = (before.loose, kept)
