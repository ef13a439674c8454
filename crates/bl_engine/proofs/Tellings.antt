-- What is told of a block, part by part.
use Rattle.std.proofs.Common.{◌≡◌, ℕ, suc, ◌+◌, ◌<◌, ◌≤◌, List, [], ◌∷◌, ◌++◌, length, refl, sym, ap, ◌∙◌, append_assoc, arith, drop, get_or, drop-cons, add-one}
use Rattle.bl_wire.specs.declared.turn.Pending.{Pending}
use Rattle.bl_wire.specs.declared.turn.Pending.TheVariants.{Again, Refused, Asked}
use Rattle.bl_engine.specs.BlockText.{block_text, reply_to}
use Rattle.bl_engine.specs.Parts.{SameAbove}
use Rattle.bl_engine.specs.Conversations.{Talk, lines_left}

-- the text of a block above an ordinal up to which alone replies were taken
pub block_above : (f g : ℕ → List ℕ) (n k : ℕ) (pending : List Pending) → SameAbove n f g → n ≤ k → block_text g k pending ≡ block_text f k pending
block_above f g n k [] same le = refl
block_above f g n k (Again ∷ pending) same le = ap (λ l. reply_to f (k + 1) Again ++ l) (block_above f g n (k + 1) pending same (omega arith))
block_above f g n k (Refused fault ∷ pending) same le = ap (λ l. reply_to f (k + 1) (Refused fault) ++ l) (block_above f g n (k + 1) pending same (omega arith))
block_above f g n k (Asked ∷ pending) same le =
    ap (λ l. l ++ block_text g (k + 1) pending) (same (k + 1) (omega arith)) ∙ ap (λ l. f (k + 1) ++ l) (block_above f g n (k + 1) pending same (omega arith))

module _ (was left : ℕ → List ℕ) (talk : Talk) (p : Pending) (ordinal : ℕ) (some : talk.line < length talk.pending) (is : p ≡ get_or talk.pending talk.line p)
    (at : ordinal ≡ talk.after + talk.line + 1) (same : SameAbove ordinal was left) where
  front : (f : ℕ → List ℕ) → lines_left f talk ≡ reply_to f ordinal p ++ block_text f ordinal (drop (talk.line + 1) talk.pending)
  front f =
      ap (block_text f (talk.after + talk.line)) (drop-cons talk.pending talk.line p some ∙ ap (λ q. q ∷ drop (suc talk.line) talk.pending) (sym is) ∙ ap (λ n. p ∷ drop n talk.pending) (sym (add-one talk.line)))
      ∙ ap (λ n. reply_to f n p ++ block_text f n (drop (talk.line + 1) talk.pending)) (sym at)

  behind : block_text was ordinal (drop (talk.line + 1) talk.pending) ≡ block_text left ordinal (drop (talk.line + 1) talk.pending)
  behind = sym (block_above was left ordinal ordinal (drop (talk.line + 1) talk.pending) same (omega arith))

  -- more of the line was told, and all of it
  pub part_more : (more : List ℕ) → reply_to was ordinal p ≡ more ++ reply_to left ordinal p → lines_left was talk ≡ more ++ lines_left left talk
  part_more more split =
      let rest = block_text left ordinal (drop (talk.line + 1) talk.pending) in
      front was ∙ ap (λ l. reply_to was ordinal p ++ l) behind ∙ ap (λ l. l ++ rest) split ∙ append_assoc more (reply_to left ordinal p) rest ∙ ap (λ l. more ++ l) (sym (front left))

  pub part_last : (new : Talk) (more : List ℕ) → reply_to was ordinal p ≡ more → new ≡ record talk { line = talk.line + 1 } → lines_left was talk ≡ more ++ lines_left left new
  part_last new more split next =
      front was ∙ ap (λ l. reply_to was ordinal p ++ l) behind
      ∙ ap (λ l. l ++ block_text left ordinal (drop (talk.line + 1) talk.pending)) split
      ∙ ap (λ n. more ++ block_text left n (drop (talk.line + 1) talk.pending)) (omega (arith, at))
      ∙ ap (λ t. more ++ lines_left left t) (sym next)
