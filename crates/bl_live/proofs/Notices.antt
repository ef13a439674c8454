-- What is told while a server runs, one line after the other.
use Rattle.std.proofs.Common.{◌≡◌, ◌++◌, ◌∷◌, ◌∙◌, [], ℕ, List, Bool, true, false, if◌then◌else◌, refl, sym, ap, inl, inr, append-nil, append_assoc, codes}
use Rattle.std.specs.List.{All, concat}
use Rattle.std.proofs.lemmas.List.Elements.{All-append, All-cons, All-nil}
use Rattle.bl_wire.specs.Watch.{EndState, Puts}
use Rattle.bl_wire.proofs.PutLaws.{puts-append, puts-nil}
use Rattle.bl_clock.specs.Telling.{clock_text}
use Rattle.bl_clock.specs.declared.clock.ClockFaults.{ClockFaults}
use Rattle.bl_entrance.specs.declared.ended.Ended.{Ended}
use Rattle.bl_entrance.specs.declared.ended.Why.{Why}
use Rattle.bl_log.specs.Telling.{cut_line}
use Rattle.bl_live.specs.Telling.{AreNotices, IsNotice, ToldLive, count_line, ended_line}

-- nothing is told
pub live-none : (x y : EndState) → y ≡ x → ToldLive x y
live-none x y is = ([], ([], All-nil IsNotice, refl), puts-nil x y is)

one : (line : List ℕ) → IsNotice line → All IsNotice (line ∷ [])
one line is = All-cons IsNotice line [] is (All-nil IsNotice)

-- one line is told
pub live-line : (line : List ℕ) (x y : EndState) → IsNotice line → Puts line x y → ToldLive x y
live-line line x y is puts = (line, (line ∷ [], one line is, sym (append-nil line)), puts)

concat-both : (xs ys : List (List ℕ)) → concat (xs ++ ys) ≡ concat xs ++ concat ys
concat-both [] ys = refl
concat-both (x ∷ xs) ys = ap (λ l. x ++ l) (concat-both xs ys) ∙ sym (append_assoc x (concat xs) (concat ys))

-- and then more
pub live-then : (x y z : EndState) → ToldLive x y → ToldLive y z → ToldLive x z
live-then x y z (a, (as', all, is), p) (b, (bs, more, same), q) = (
  a ++ b,
  (as' ++ bs, All-append IsNotice as' bs all more, ap (λ l. l ++ b) is ∙ ap (λ l. concat as' ++ l) same ∙ sym (concat-both as' bs)),
  puts-append a b x y z p q,
)

-- a session that ended early, and so many more
pub live-ended : (ended : Ended) (x y : EndState) → Puts (ended_line ended) x y → ToldLive x y
live-ended ended x y puts = live-line (ended_line ended) x y (inl (ended, refl)) puts

pub live-count : (why : Why) (count : ℕ) (x y : EndState) → Puts (count_line why count) x y → ToldLive x y
live-count why count x y puts = live-line (count_line why count) x y (inr (inl (why, count, refl))) puts

-- the log takes no more
pub live-log : (x y : EndState) → Puts cut_line x y → ToldLive x y
live-log x y puts = live-line cut_line x y (inr (inr (inr (inr refl)))) puts

clock-lines : (is_cut went_back : Bool) → AreNotices ((if is_cut then codes "clock cut short\n" else []) ++ (if went_back then codes "clock went back\n" else []))
clock-lines true true = (
  codes "clock cut short\n" ∷ codes "clock went back\n" ∷ [],
  All-cons IsNotice (codes "clock cut short\n") (codes "clock went back\n" ∷ []) (inr (inr (inl refl))) (one (codes "clock went back\n") (inr (inr (inr (inl refl))))),
  ap (λ l. codes "clock cut short\n" ++ l) (sym (append-nil (codes "clock went back\n"))),
)
clock-lines true false = (codes "clock cut short\n" ∷ [], one (codes "clock cut short\n") (inr (inr (inl refl))), refl)
clock-lines false true = (codes "clock went back\n" ∷ [], one (codes "clock went back\n") (inr (inr (inr (inl refl)))), sym (append-nil (codes "clock went back\n")))
clock-lines false false = ([], All-nil IsNotice, refl)

-- the clock takes no more, or went back
pub live-clock : (faults : ClockFaults) (x y : EndState) → Puts (clock_text faults) x y → ToldLive x y
live-clock faults x y puts = (clock_text faults, clock-lines faults.is_cut faults.went_back, puts)
