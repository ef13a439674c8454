-- What the look of a line and its text tell of its turn.
use Rattle.std.proofs.Common.{◌≡◌, ℕ, ◌<◌, true, false, List, length, sym, ap, ◌∙◌, arith, subst, take, take_all, ltb-false, Result, Ok, Err, IfOk}
use Rattle.bl_wire.specs.declared.held.Held.{Held}
use Rattle.bl_wire.specs.HoldsLine.{HoldsLine}
use Rattle.bl_work.specs.Names.{KnownNames}
use Rattle.bl_work.specs.declared.asked.LineFault.TheVariants.{Long}
use Rattle.bl_wire.specs.Lines.{without_cr, is_blank}
use Rattle.bl_wire.specs.Look.{look_of}
use Rattle.bl_wire.specs.declared.held.Look.{Look}
use Rattle.bl_wire.specs.declared.held.Look.TheVariants.{Filled}
use Rattle.bl_wire.specs.declared.turn.Turn.{Turn}
use Rattle.bl_wire.specs.declared.turn.Turn.TheVariants.{Skip, Wait, Greets, Bad, Ask}
use Rattle.bl_wire.specs.Turns.{IsSaid, IsTurn}
use Rattle.bl_wire.proofs.HeldLines.{look-tells, long_without, is_empty_look}

pub turn_blank : (names : KnownNames) (line : List ℕ) (look : Look) → look ≡ look_of line → is_empty_look look ≡ true → IsTurn names line Skip
turn_blank names line look e blank = look-tells line ∙ ap is_empty_look (sym e) ∙ blank

filled : (line : List ℕ) → Filled ≡ look_of line → is_blank (without_cr line) ≡ false
filled line e = look-tells line ∙ ap is_empty_look (sym e)

pub turn_long : (names : KnownNames) (line : List ℕ) → Filled ≡ look_of line → 8193 < length line → IsTurn names line (Bad Long)
turn_long names line e long = (filled line e, (omega (arith, long, long_without line), λ is. cc))

pub turn_said : (names : KnownNames) (line : List ℕ) (turn : Turn) → Filled ≡ look_of line → IsSaid names (without_cr line) turn → IsTurn names line turn
turn_said names line Skip e is = absurd is
turn_said names line Wait e is = (filled line e, is)
turn_said names line (Greets subject) e is = (filled line e, is)
turn_said names line (Bad fault) e is = (filled line e, is)
turn_said names line (Ask work) e is = (filled line e, is)

pub all_said : {E : Type 0} → (names : KnownNames) (held : Held) (text : List ℕ) → Filled ≡ held.look → held.over ≡ false → text ≡ without_cr held.bytes.items
    → (r : Result Turn E) → IfOk r (IsSaid names text) → IfOk r (λ turn. (line : List ℕ) → HoldsLine held line → IsTurn names line turn)
all_said names held text look over is (Err e) said = tt
all_said names held text look over is (Ok turn) said = λ line h.
    let all : take 8193 line ≡ line = take_all 8193 line (ltb-false 8193 (length line) (sym h.over ∙ over)) in
    turn_said names line turn (look ∙ h.look) (subst (λ t. IsSaid names t turn) (is ∙ ap without_cr (h.front ∙ all)) said)

pub text_said : {E : Type 0} → (names : KnownNames) (line text : List ℕ) → Filled ≡ look_of line → text ≡ without_cr line
    → (r : Result Turn E) → IfOk r (IsSaid names text) → IfOk r (IsTurn names line)
text_said names line text look is (Err e) said = tt
text_said names line text look is (Ok turn) said = turn_said names line turn look (subst (λ t. IsSaid names t turn) is said)
