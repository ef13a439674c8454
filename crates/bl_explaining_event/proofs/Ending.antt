-- What stands behind the events that are right.
use Rattle.std.proofs.Common.{◌≡◌, ◌≢◌, ◌+◌, ◌++◌, ◌∷◌, ◌∙◌, [], ℕ, List, ap, arith, inl, inr, length, refl, subst, sym}
use Rattle.std.specs.Prelude.{codes}
use Rattle.bl_order.specs.Machine.{Event, State, state_after}
use Rattle.bl_journal.specs.Journals.{GoesNoFurther}
use Rattle.bl_trail.specs.Asks.{HasNo}
use Rattle.bl_trail.specs.Follow.{Followed, IsLine, IsMore, IsNoEvent}
use Rattle.bl_trail.specs.TrueText.{HasNoLf}
use Rattle.bl_trail.specs.declared.verdict.Verdict.TheVariants.{Accepted, Rejected}
use Rattle.bl_explaining_event.specs.Courses.{EndsBehind}

module _ (x : State) (text rest : List ℕ) (events : List Event) (followed : Followed x text rest events)
    (none : GoesNoFurther (state_after x events) rest) (count : ℕ) (counted : count ≡ length events) where
  pub no-line : HasNo 10 rest → EndsBehind x text count (Rejected (count + 3))
  no-line torn = ((events, rest, inl (followed, inl torn, omega (arith, counted))), sym counted)

  no-event : (line behind : List ℕ) → IsLine rest line behind → IsNoEvent (state_after x events) line
  no-event line behind cut event needs has is =
      none event behind needs has (subst HasNoLf is cut.plain) (cut.split ∙ ap (λ l. l ++ 10 ∷ behind) is)

  pub wrong-line : (line behind : List ℕ) → IsLine rest line behind → line ≢ codes "stop" → EndsBehind x text count (Rejected (count + 3))
  wrong-line line behind cut other =
      ((events, rest, inl (followed, inr (line, behind, cut, other, no-event line behind cut), omega (arith, counted))), sym counted)

  pub all-over : rest ≡ codes "stop" ++ 10 ∷ [] → EndsBehind x text count (Accepted count)
  all-over is = ((events, subst (λ r. Followed x text r events) is followed, counted), refl)

  pub more-there : (behind : List ℕ) → rest ≡ codes "stop" ++ 10 ∷ behind → IsMore behind → EndsBehind x text count (Rejected (count + 4))
  more-there behind is more =
      ((events, behind, inr (subst (λ r. Followed x text r events) is followed, more, omega (arith, counted))), sym counted)
