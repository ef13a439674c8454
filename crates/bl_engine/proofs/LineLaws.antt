-- Laws of lines.
use Rattle.std.proofs.Common.{◌≡◌, ◌≢◌, ℕ, false, cond, List, [], ◌∷◌, ◌++◌, refl, sym, ap, ◌∙◌, append_assoc, append-nil, ne_eqb, eqb}
use Rattle.std.proofs.lemmas.List.Elements.{All-head, All-tail}
use Rattle.bl_work.specs.Names.{KnownNames}
use Rattle.bl_wire.specs.Lines.{onto, lines_of, AreLines, HasNoLf}
use Rattle.bl_wire.specs.Turns.{AreTurns}
use Rattle.bl_wire.specs.declared.turn.Turn.{Turn}

pub head_plain : (b : ℕ) (line : List ℕ) → HasNoLf (b ∷ line) → eqb b 10 ≡ false
head_plain b line h = ne_eqb b 10 (All-head (λ y. y ≢ 10) b line h)

pub tail_plain : (b : ℕ) (line : List ℕ) → HasNoLf (b ∷ line) → HasNoLf line
tail_plain b line h = All-tail (λ y. y ≢ 10) b line h

-- a line with its LF is a line
pub AreLines-whole : (line : List ℕ) → HasNoLf line → AreLines (line ++ 10 ∷ []) (line ∷ [])
AreLines-whole [] h more = refl
AreLines-whole (b ∷ line) h more =
    ap (λ t. cond t ([] ∷ lines_of ((line ++ 10 ∷ []) ++ more)) (onto b (lines_of ((line ++ 10 ∷ []) ++ more)))) (head_plain b line h)
    ∙ ap (onto b) (AreLines-whole line (tail_plain b line h) more)

-- a last line without LF is a line, unless it is empty
pub lines-last : (b : ℕ) (line : List ℕ) → HasNoLf (b ∷ line) → lines_of (b ∷ line) ≡ (b ∷ line) ∷ []
lines-last b [] h = ap (λ t. cond t ([] ∷ []) (onto b [])) (head_plain b [] h)
lines-last b (c ∷ line) h =
    ap (λ t. cond t ([] ∷ lines_of (c ∷ line)) (onto b (lines_of (c ∷ line)))) (head_plain b (c ∷ line) h)
    ∙ ap (onto b) (lines-last c line (tail_plain b (c ∷ line) h))

pub AreLines-nil : AreLines [] []
AreLines-nil more = refl

pub AreLines-append : (a b : List ℕ) (x y : List (List ℕ)) → AreLines a x → AreLines b y → AreLines (a ++ b) (x ++ y)
AreLines-append a b x y one two more =
    ap lines_of (append_assoc a b more) ∙ one (b ++ more) ∙ ap (λ l. x ++ l) (two more) ∙ sym (append_assoc x y (lines_of more))

pub turns-append : (names : KnownNames) (lines more : List (List ℕ)) (turns rest : List Turn) → AreTurns names lines turns → AreTurns names more rest → AreTurns names (lines ++ more) (turns ++ rest)
turns-append names [] more [] rest are also = also
turns-append names [] more (t ∷ turns) rest are also = absurd are
turns-append names (l ∷ lines) more [] rest are also = absurd are
turns-append names (l ∷ lines) more (t ∷ turns) rest are also = (are.0, turns-append names lines more turns rest are.1 also)

-- the lines at the end of what was read
pub lines-now : (bytes : List ℕ) (lines : List (List ℕ)) → AreLines bytes lines → lines_of bytes ≡ lines
lines-now bytes lines cut = ap lines_of (sym (append-nil bytes)) ∙ cut [] ∙ append-nil lines
