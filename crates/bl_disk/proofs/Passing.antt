-- How the moments of calls run on, one call after another.
use Rattle.std.proofs.Common.{◌≡◌, List, [], ◌∷◌, ◌++◌, sym, ◌∙◌, ap, append_assoc, append-nil}
use Rattle.std.specs.List.{AllByRecursion}
use Rattle.bl_disk.specs.File.{File}
use Rattle.bl_disk.specs.Moments.{Passes}

all-append : (P : File → Type 0) (a b : List File) → AllByRecursion P a → AllByRecursion P b → AllByRecursion P (a ++ b)
all-append P [] b h k = k
all-append P (x ∷ a) b h k = (h.0, all-append P a b h.1 k)

all-map : (P Q : File → Type 0) → ((file : File) → P file → Q file) → (a : List File) → AllByRecursion P a → AllByRecursion Q a
all-map P Q then [] h = tt
all-map P Q then (x ∷ a) h = (then x h.0, all-map P Q then a h.1)

module _ {D : Type 0} (now : D → File) (past : D → List File) where
  -- moments that have one thing have what follows from it
  pub weaker : (from to : D) (P Q : File → Type 0) → ((file : File) → P file → Q file) → Passes now past from to P → Passes now past from to Q
  weaker from to P Q then passes =
      record { moments = passes.moments; longer = passes.longer; each = all-map P Q then passes.moments passes.each; last = then (now to) passes.last }

  -- two calls pass through the moments of both
  pub goes-on : (from mid to : D) (P : File → Type 0) → Passes now past from mid P → Passes now past mid to P → Passes now past from to P
  goes-on from mid to P first second = record {
    moments = first.moments ++ second.moments;
    longer = second.longer ∙ ap (λ l. l ++ second.moments) first.longer ∙ append_assoc (past from) first.moments second.moments;
    each = all-append P first.moments second.moments first.each second.each;
    last = second.last;
  }

  -- where nothing happens
  pub stays : (from to : D) (P : File → Type 0) → past to ≡ past from → P (now to) → Passes now past from to P
  stays from to P same here = record { moments = []; longer = same ∙ sym (append-nil (past from)); each = tt; last = here }

  -- one moment goes by
  pub steps : (from to : D) (P : File → Type 0) → past to ≡ past from ++ now from ∷ [] → P (now from) → P (now to) → Passes now past from to P
  steps from to P longer before here = record { moments = now from ∷ []; longer = longer; each = (before, tt); last = here }
