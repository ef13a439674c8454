-- Laws of texts, of ordinals and of what is told.
use Rattle.std.proofs.Common.{get_or, ◌<◌, zero, suc, take, append-nil, ◌≡◌, ℕ, ◌+◌, ◌≤◌, List, [], ◌∷◌, ◌++◌, length, refl, sym, ap, ◌∙◌, append_assoc, arith, codes}
use Rattle.bl_wire.specs.declared.turn.Turn.{Turn}
use Rattle.bl_wire.specs.declared.turn.Turn.TheVariants.{Skip, Wait, Greets, Bad, Ask}
use Rattle.bl_engine.specs.Requests.{told_of, Admits, Settles, SameUpTo}
use Rattle.bl_wire.specs.Texts.{text_of, ordinal_after, refusal, ok_line, fault_words}
use Rattle.bl_wire.specs.Turns.{HasNoWait}
use Rattle.bl_wire.specs.declared.turn.Pending.{Pending}
use Rattle.bl_wire.specs.declared.turn.Pending.TheVariants.{Again, Refused, Asked}
use Rattle.bl_engine.specs.BlockText.{pending_of, block_text, reply_to}

-- one reply in front
front : (a x y z : List ℕ) → x ≡ y ++ z → a ++ x ≡ (a ++ y) ++ z
front a x y z e = ap (λ l. a ++ l) e ∙ sym (append_assoc a y z)

pub text-append : (r : ℕ → List ℕ) (k : ℕ) (a b : List Turn) → text_of r k (a ++ b) ≡ text_of r k a ++ text_of r (ordinal_after k a) b
text-append r k [] b = refl
text-append r k (Skip ∷ a) b = text-append r k a b
text-append r k (Wait ∷ a) b = front ok_line _ (text_of r k a) (text_of r (ordinal_after k a) b) (text-append r k a b)
text-append r k (Greets _ ∷ a) b = front (refusal (k + 1) (codes "hello")) _ (text_of r (k + 1) a) (text_of r (ordinal_after (k + 1) a) b) (text-append r (k + 1) a b)
text-append r k (Bad why ∷ a) b = front (refusal (k + 1) (fault_words why)) _ (text_of r (k + 1) a) (text_of r (ordinal_after (k + 1) a) b) (text-append r (k + 1) a b)
text-append r k (Ask w ∷ a) b = front (r (k + 1)) _ (text_of r (k + 1) a) (text_of r (ordinal_after (k + 1) a) b) (text-append r (k + 1) a b)

pub ordinal-append : (k : ℕ) (a b : List Turn) → ordinal_after k (a ++ b) ≡ ordinal_after (ordinal_after k a) b
ordinal-append k [] b = refl
ordinal-append k (Skip ∷ a) b = ordinal-append k a b
ordinal-append k (Wait ∷ a) b = ordinal-append k a b
ordinal-append k (Greets _ ∷ a) b = ordinal-append (k + 1) a b
ordinal-append k (Bad _ ∷ a) b = ordinal-append (k + 1) a b
ordinal-append k (Ask _ ∷ a) b = ordinal-append (k + 1) a b

pub told-append : (k : ℕ) (a b : List Turn) → told_of k (a ++ b) ≡ told_of k a ++ told_of (ordinal_after k a) b
told-append k [] b = refl
told-append k (Skip ∷ a) b = told-append k a b
told-append k (Wait ∷ a) b = ap (λ l. Settles ∷ l) (told-append k a b)
told-append k (Greets _ ∷ a) b = told-append (k + 1) a b
told-append k (Bad _ ∷ a) b = told-append (k + 1) a b
told-append k (Ask w ∷ a) b = ap (λ l. Admits (k + 1) w ∷ l) (told-append (k + 1) a b)

pub ordinal-le : (k : ℕ) (a : List Turn) → k ≤ ordinal_after k a
ordinal-le k [] = omega arith
ordinal-le k (Skip ∷ a) = ordinal-le k a
ordinal-le k (Wait ∷ a) = ordinal-le k a
ordinal-le k (Greets _ ∷ a) = omega (arith, ordinal-le (k + 1) a)
ordinal-le k (Bad _ ∷ a) = omega (arith, ordinal-le (k + 1) a)
ordinal-le k (Ask _ ∷ a) = omega (arith, ordinal-le (k + 1) a)

-- what stands stays as it is
pub text-same : (n : ℕ) (f g : ℕ → List ℕ) → SameUpTo n f g → (k : ℕ) (a : List Turn) → ordinal_after k a ≤ n → text_of g k a ≡ text_of f k a
text-same n f g same k [] h = refl
text-same n f g same k (Skip ∷ a) h = text-same n f g same k a h
text-same n f g same k (Wait ∷ a) h = ap (λ l. ok_line ++ l) (text-same n f g same k a h)
text-same n f g same k (Greets _ ∷ a) h = ap (λ l. refusal (k + 1) (codes "hello") ++ l) (text-same n f g same (k + 1) a h)
text-same n f g same k (Bad why ∷ a) h = ap (λ l. refusal (k + 1) (fault_words why) ++ l) (text-same n f g same (k + 1) a h)
text-same n f g same k (Ask w ∷ a) h =
    ap (λ l. l ++ text_of g (k + 1) a) (same (k + 1) (omega (arith, h, ordinal-le (k + 1) a)))
    ∙ ap (λ l. f (k + 1) ++ l) (text-same n f g same (k + 1) a h)

-- a block's text is that of its turns
pub text-block : (r : ℕ → List ℕ) (k : ℕ) (a : List Turn) → HasNoWait a → text_of r k a ≡ block_text r k (pending_of a)
text-block r k [] h = refl
text-block r k (Skip ∷ a) h = text-block r k a h
text-block r k (Wait ∷ a) h = absurd h
text-block r k (Greets _ ∷ a) h = ap (λ l. refusal (k + 1) (codes "hello") ++ l) (text-block r (k + 1) a h)
text-block r k (Bad why ∷ a) h = ap (λ l. refusal (k + 1) (fault_words why) ++ l) (text-block r (k + 1) a h)
text-block r k (Ask w ∷ a) h = ap (λ l. r (k + 1) ++ l) (text-block r (k + 1) a h)

pub ordinal-block : (k : ℕ) (a : List Turn) → ordinal_after k a ≡ k + length (pending_of a)
ordinal-block k [] = omega arith
ordinal-block k (Skip ∷ a) = ordinal-block k a
ordinal-block k (Wait ∷ a) = ordinal-block k a
ordinal-block k (Greets _ ∷ a) = omega (arith, ordinal-block (k + 1) a)
ordinal-block k (Bad _ ∷ a) = omega (arith, ordinal-block (k + 1) a)
ordinal-block k (Ask _ ∷ a) = omega (arith, ordinal-block (k + 1) a)

pub pending-append : (a b : List Turn) → pending_of (a ++ b) ≡ pending_of a ++ pending_of b
pending-append [] b = refl
pending-append (Skip ∷ a) b = pending-append a b
pending-append (Wait ∷ a) b = pending-append a b
pending-append (Greets _ ∷ a) b = ap (λ l. Again ∷ l) (pending-append a b)
pending-append (Bad why ∷ a) b = ap (λ l. Refused why ∷ l) (pending-append a b)
pending-append (Ask _ ∷ a) b = ap (λ l. Asked ∷ l) (pending-append a b)

pub no_wait-append : (a b : List Turn) → HasNoWait a → HasNoWait b → HasNoWait (a ++ b)
no_wait-append [] b h k = k
no_wait-append (Skip ∷ a) b h k = no_wait-append a b h k
no_wait-append (Wait ∷ a) b h k = absurd h
no_wait-append (Greets _ ∷ a) b h k = no_wait-append a b h k
no_wait-append (Bad _ ∷ a) b h k = no_wait-append a b h k
no_wait-append (Ask _ ∷ a) b h k = no_wait-append a b h k

-- the text of a block whose replies stand
pub block-same : (n : ℕ) (f g : ℕ → List ℕ) → SameUpTo n f g → (k : ℕ) (pending : List Pending) → k + length pending ≤ n → block_text g k pending ≡ block_text f k pending
block-same n f g same k [] h = refl
block-same n f g same k (Again ∷ pending) h = ap (λ l. refusal (k + 1) (codes "hello") ++ l) (block-same n f g same (k + 1) pending (omega arith))
block-same n f g same k (Refused why ∷ pending) h = ap (λ l. refusal (k + 1) (fault_words why) ++ l) (block-same n f g same (k + 1) pending (omega arith))
block-same n f g same k (Asked ∷ pending) h =
    ap (λ l. l ++ block_text g (k + 1) pending) (same (k + 1) (omega arith))
    ∙ ap (λ l. f (k + 1) ++ l) (block-same n f g same (k + 1) pending (omega arith))

pub same_refl : (n : ℕ) (f : ℕ → List ℕ) → SameUpTo n f f
same_refl n f k h = refl

-- the text of one reply more
pub block-step : (r : ℕ → List ℕ) (k : ℕ) (pending : List Pending) (i ordinal : ℕ) (p : Pending) → i < length pending → p ≡ get_or pending i p → ordinal ≡ k + suc i
    → block_text r k (take (suc i) pending) ≡ block_text r k (take i pending) ++ reply_to r ordinal p
block-step r k [] i ordinal p lt is at = absurd (omega (arith, lt))
block-step r k (q ∷ pending) zero ordinal p lt is at = append-nil (reply_to r (k + 1) q) ∙ ap (λ n. reply_to r n q) (omega (arith, at)) ∙ ap (reply_to r ordinal) (sym is)
block-step r k (q ∷ pending) (suc i) ordinal p lt is at =
    ap (λ l. reply_to r (k + 1) q ++ l) (block-step r (k + 1) pending i ordinal p (omega (arith, lt)) is (omega (arith, at)))
    ∙ sym (append_assoc (reply_to r (k + 1) q) (block_text r (k + 1) (take i pending)) (reply_to r ordinal p))
