-- What is noted of a file of the system.
use Rattle.std.proofs.Common.{◌≡◌, ◌≤◌, ◌<◌, ◌-◌, ℕ, List, ◌++◌, length, take, drop, refl, sym, ap, ◌∙◌, arith, ⊎_elim, append_assoc, append-nil}
use Rattle.std.proofs.Math.Nat.{sub-eq-zero_of_le}
use Rattle.std.proofs.Math.Seq.{take-append-add}
use Rattle.std.proofs.lemmas.Bool.{cases_lt}
use Rattle.std.proofs.lemmas.List.{take_all, take-append-le}
use Rattle.bl_disk.specs.File.{Begins, File, seen}
use Rattle.bl_disk.specs.Moments.{IsAdding, IsCutting}
use Rattle.bl_disk.proofs.Fronts.{itself}
use Rattle.bl_disk.proofs.Moving.{all-cut}
use Rattle.bl_file.specs.Stands.{added, cut_to}

-- a text that was added is read after what was there
pub added-seen : (file : File) (text : List ℕ) → seen (added file text) ≡ seen file ++ text
added-seen file text = sym (append_assoc file.kept file.loose text)

-- a first part of it was added, or all
pub adds : (before : File) (text part : List ℕ) → Begins part text → IsAdding before text (added before part)
adds before text part is = record { kept = itself before.kept; part = part; is_part = is; there = added-seen before part }

-- the first bytes of two lists, one after the other
both : (n : ℕ) (a b : List ℕ) → take n a ++ take (n - length a) b ≡ take n (a ++ b)
both n a b =
    ⊎_elim (λ (less : n < length a).
    ap (λ k. take n a ++ take k b) (sub-eq-zero_of_le (omega (arith, less))) ∙ append-nil (take n a) ∙ sym (take-append-le n a b (omega (arith, less))))
    (λ (le : length a ≤ n).
    ap (λ l. l ++ take (n - length a) b) (take_all n a le) ∙ sym (take-append-add a b (n - length a)) ∙ ap (λ k. take k (a ++ b)) (omega (arith, le)))
    (cases_lt n (length a))

-- a file that was cut has its first bytes
pub cut-seen : (len : ℕ) (file : File) → seen (cut_to len file) ≡ take len (seen file)
cut-seen len file = both len file.kept file.loose

pub cuts : (before : File) (len : ℕ) → IsCutting before len (cut_to len before)
cuts before len = all-cut before (cut_to len before) len refl (cut-seen len before)
