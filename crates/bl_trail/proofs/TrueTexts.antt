-- A true text has one number of events.
use Rattle.std.proofs.Common.{◌≡◌, ℕ, suc, ◌+◌, List, [], ◌∷◌, ◌++◌, length, refl, sym, ◌∙◌, ap, arith, length-append, append-nil}
use Rattle.std.specs.Prelude.{codes}
use Rattle.bl_setup.specs.Setup.{Setup, by_version}
use Rattle.bl_setup.specs.declared.version.Version.{Version}
use Rattle.bl_order.specs.Machine.{State, Event, change, start}
use Rattle.bl_trail.specs.Follow.{IsVerdict}
use Rattle.bl_trail.specs.TrueText.{event_texts, joined, trail_lines, IsTrueText, FirstWrong}
use Rattle.bl_trail.specs.declared.verdict.Verdict.{Verdict}
use Rattle.bl_trail.specs.declared.verdict.Verdict.TheVariants.{Accepted, Rejected}
use Rattle.bl_trail.proofs.OneVerdict.{Splits, splits}

-- an event has one text
pub texts-count : (x : State) (events : List Event) → length (event_texts x events) ≡ length events
texts-count x [] = refl
texts-count x (e ∷ events) = ap suc (texts-count (change x e) events)

lines-count : (version : Version) (setup : Setup) (limit : ℕ) (events : List Event) → length (trail_lines version setup limit events) ≡ length events + 3
lines-count version setup limit events =
    let x : State = start (by_version version setup) limit in
    omega (arith, length-append (event_texts x events) (codes "stop" ∷ []), texts-count x events)

-- no lines have no text
none-left : (lines : List (List ℕ)) → [] ≡ joined lines → lines ≡ []
none-left [] h = refl
none-left (l ∷ lines) h = absurd (omega (arith, ap length h, length-append (l ++ 10 ∷ []) (joined lines), length-append l (10 ∷ [])))

one-count : (setup : Setup) (text : List ℕ) (m n : ℕ) → IsTrueText setup text m → IsTrueText setup text n → n ≡ m
one-count setup text m n a b =
    let s : Splits (trail_lines b.version setup b.limit b.events) (trail_lines a.version setup a.limit a.events) [] =
    splits (trail_lines b.version setup b.limit b.events) (trail_lines a.version setup a.limit a.events) [] b.plain a.plain (sym b.is ∙ a.is ∙ sym (append-nil (joined (trail_lines a.version setup a.limit a.events)))) in
    omega (
      arith,
      a.counted,
      b.counted,
      lines-count a.version setup a.limit a.events,
      lines-count b.version setup b.limit b.events,
      ap length s.lines,
      length-append (trail_lines a.version setup a.limit a.events) s.more,
      ap length (none-left s.more s.rest),
    )

pub accepts : ((setup : Setup) (text : List ℕ) (count number : ℕ) → IsTrueText setup text count → FirstWrong setup text number → ⊥)
    → (setup : Setup) (text : List ℕ) (count : ℕ) (verdict : Verdict) → IsTrueText setup text count → IsVerdict setup text verdict → verdict ≡ Accepted count
accepts one setup text count (Accepted n) a b = ap Accepted (one-count setup text count n a b)
accepts one setup text count (Rejected n) a wrong = absurd (one setup text count n a wrong)
