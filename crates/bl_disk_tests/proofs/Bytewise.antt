-- A text that is added byte by byte.
use Rattle.std.proofs.Common.{◌≡◌, ℕ, suc, ◌+◌, ◌<◌, List, [], ◌∷◌, ◌++◌, length, take, drop, get_or, refl, sym, ◌∙◌, ap, subst, append_assoc, append-nil, take-append-drop, arith}
use Rattle.std.proofs.Math.Seq.{drop-cons, take-suc}
use Rattle.bl_disk.specs.File.{File, seen}
use Rattle.bl_disk_tests.specs.InMemory.{memory_now, memory_past}
use Rattle.bl_disk.specs.Moments.{IsAdding, Passes}
use Rattle.bl_disk_tests.specs.declared.memory.Memory.{Memory}
use Rattle.bl_disk.proofs.Fronts.{through}
use Rattle.bl_disk.proofs.Moving.{none-added}
use Rattle.bl_disk.proofs.Passing.{goes-on, stays, weaker}

-- what holds of the file in memory holds of who has it
pub lift : {D : Type 0} (memory : D → Memory) (from to : D) (P : File → Type 0) → Passes memory_now memory_past (memory from) (memory to) P
    → Passes (λ d. memory_now (memory d)) (λ d. memory_past (memory d)) from to P
lift memory from to P p = record { moments = p.moments; longer = p.longer; each = p.each; last = p.last }

-- So many bytes of the text are added.
pub record HasAdded (from to : Memory) (text : List ℕ) (i : ℕ) : Type 0 where
  pub passes : Passes memory_now memory_past from to (IsAdding (memory_now from) text)
  pub there : seen (memory_now to) ≡ seen (memory_now from) ++ take i text

pub none : (from : Memory) (text : List ℕ) → HasAdded from from text 0
none from text = record {
  passes = stays memory_now memory_past from from (IsAdding (memory_now from) text) refl (none-added (memory_now from) text);
  there = sym (append-nil (seen (memory_now from)));
}

-- the text is the bytes before, the byte, and those behind it
cut-at : (text : List ℕ) (i byte : ℕ) → i < length text → get_or text i 0 ≡ byte → text ≡ take i text ++ byte ∷ drop (suc i) text
cut-at text i byte lt is = sym (take-append-drop i text) ∙ ap (λ l. take i text ++ l) (drop-cons text i 0 lt ∙ ap (λ b. b ∷ drop (suc i) text) is)

-- while the byte is added, the text is
within : (from to : Memory) (text : List ℕ) (i byte : ℕ) → i < length text → get_or text i 0 ≡ byte → HasAdded from to text i
    → (file : File) → IsAdding (memory_now to) (byte ∷ []) file → IsAdding (memory_now from) text file
within from to text i byte lt is so_far file adding = record {
  kept = through (memory_now from).kept (memory_now to).kept file.kept so_far.passes.last.kept adding.kept;
  part = take i text ++ adding.part;
  is_part = (
    adding.is_part.0 ++ drop (suc i) text,
    cut-at text i byte lt is
        ∙ ap (λ l. take i text ++ (l ++ drop (suc i) text)) adding.is_part.1
        ∙ ap (λ l. take i text ++ l) (append_assoc adding.part adding.is_part.0 (drop (suc i) text))
        ∙ sym (append_assoc (take i text) adding.part (adding.is_part.0 ++ drop (suc i) text)),
  );
  there = adding.there ∙ ap (λ l. l ++ adding.part) so_far.there ∙ append_assoc (seen (memory_now from)) (take i text) adding.part;
}

-- whatever comes of the byte
pub at-byte : (from to next : Memory) (text : List ℕ) (i byte : ℕ) → i < length text → get_or text i 0 ≡ byte → HasAdded from to text i
    → Passes memory_now memory_past to next (IsAdding (memory_now to) (byte ∷ [])) → Passes memory_now memory_past from next (IsAdding (memory_now from) text)
at-byte from to next text i byte lt is so_far passes =
    goes-on memory_now memory_past from to next (IsAdding (memory_now from) text) so_far.passes
    (weaker memory_now memory_past to next (IsAdding (memory_now to) (byte ∷ [])) (IsAdding (memory_now from) text) (within from to text i byte lt is so_far) passes)

one-behind : (from to next : Memory) (text : List ℕ) (i byte : ℕ) → i < length text → get_or text i 0 ≡ byte → HasAdded from to text i
    → Passes memory_now memory_past to next (IsAdding (memory_now to) (byte ∷ [])) → seen (memory_now next) ≡ seen (memory_now to) ++ byte ∷ []
    → HasAdded from next text (suc i)
one-behind from to next text i byte lt is so_far passes added = record {
  passes = at-byte from to next text i byte lt is so_far passes;
  there = added
      ∙ ap (λ l. l ++ byte ∷ []) so_far.there
      ∙ append_assoc (seen (memory_now from)) (take i text) (byte ∷ [])
      ∙ ap (λ l. seen (memory_now from) ++ l) (ap (λ b. take i text ++ b ∷ []) (sym is) ∙ sym (take-suc text i 0 lt));
}

pub one-more : (from to next : Memory) (text : List ℕ) (i byte : ℕ) → i < length text → get_or text i 0 ≡ byte → HasAdded from to text i
    → Passes memory_now memory_past to next (IsAdding (memory_now to) (byte ∷ [])) → seen (memory_now next) ≡ seen (memory_now to) ++ byte ∷ []
    → HasAdded from next text (i + 1)
one-more from to next text i byte lt is so_far passes added =
    let next_place : suc i ≡ i + 1 = omega arith in
    subst (HasAdded from next text) next_place (one-behind from to next text i byte lt is so_far passes added)
