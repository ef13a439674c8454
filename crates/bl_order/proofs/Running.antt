-- What runs goes on: no event but its own end and its own loss changes what it is lent.
use Rattle.std.proofs.Common.{◌≡◌, ◌≢◌, ℕ, ◌<◌, ◌≤◌, Bool, true, false, cond, ◌||◌, List, [], ◌∷◌, ◌++◌, length, refl, sym, ◌∙◌, ap, subst, arith, true≢false}
use Rattle.std.specs.Prelude.{◌==◌}
use Rattle.std.proofs.lemmas.Bool.Decides.{nat_tests}
use Rattle.bl_work.specs.declared.work.Work.{Work}
use Rattle.bl_setup.specs.Setup.{Setup}
use Rattle.bl_order.specs.Order.{Entry, Line, accesses_of, is_declared}
use Rattle.bl_order.specs.Past.{earlier, content_of, is_done}
use Rattle.bl_order.specs.Machine.{State, Event, Opens, Admits, Starts, Ends, Loses, Phase, Waiting, Running, Ended, Gone, is_running, is_waiting, is_gone, phase_at, past_at, is_lost, runs, has_ended, MayStart, Needs, change, children_at, session_at}
use Rattle.bl_order.specs.Now.{content_at}
use Rattle.bl_order.specs.Headline.{IsReached}
use Rattle.bl_order.proofs.Sound.{IsSound}
use Rattle.bl_order.proofs.Steps.{Moves, other, equal_self, not_over_is_not_gone}
use Rattle.bl_order.proofs.Trails.{moves-start, moves-end, within, past-begun, past-started, phases-admitted}
use Rattle.bl_order.proofs.Places.{earlier-grown}
use Rattle.bl_order.proofs.PlaceLaws.{earlier-lost}
use Rattle.bl_order.proofs.Conflicts.{or_left}
use Rattle.bl_order.proofs.Reached.{sound-reached, reached-next}
use Rattle.bl_order.proofs.HeadlineProof.{holds-reached}
use Rattle.bl_order.proofs.Present.{moves_on-reached, moves-gone}
use Rattle.bl_order.specs.Running.{GoesOn}

-- a place where no other is lost, and none before it is new, finds what it found
same_content : (s : Setup) (l m : ℕ → Bool) (A more : List Entry) (doc n : ℕ) → ((k : ℕ) → k < n → m k ≡ l k) → n ≤ length A
    → content_of s (earlier s m (A ++ more) n) doc ≡ content_of s (earlier s l A n) doc
same_content s l m A more doc n same le =
    ap (λ h. content_of s h doc) (earlier-lost s m l (A ++ more) n same) ∙ ap (λ h. content_of s h doc) (earlier-grown s l A more n le)

-- a move to a phase that is not lost loses nothing
none_lost : (x y : State) (k : ℕ) (p : Phase) → IsSound x → Moves x y k p → is_gone p ≡ false → (m : ℕ) → is_lost y m ≡ is_lost x m
none_lost x y k p sound moves alive m = by (m == k) refl
  where
    by : (b : Bool) → (m == k) ≡ b → is_lost y m ≡ is_lost x m
    by true e = ap is_gone (moves.phases m ∙ ap (λ b. cond b p (phase_at x m)) e) ∙ (alive ∙ sym (not_over_is_not_gone (phase_at x m) (ap (has_ended x) (same_place e) ∙ moves.unended)))
      where
        same_place : (m == k) ≡ true → m ≡ k
        same_place h = grind (arith, nat_tests)
    by false e = ap is_gone (moves.phases m ∙ ap (λ b. cond b p (phase_at x m)) e)

alive_if : (b : Bool) → is_gone (cond b Running Ended) ≡ false
alive_if true = refl
alive_if false = refl

runs_only : (f : Phase) → is_running f ≡ true → is_waiting f ≡ true → ⊥
runs_only Waiting r w = true≢false (sym r)
runs_only Running r w = true≢false (sym w)
runs_only Ended r w = true≢false (sym r)
runs_only Gone r w = true≢false (sym r)

-- a start changes no content at a place
start_content : (x : State) → (sound : IsSound x) → (k : ℕ) → MayStart x k → (doc n : ℕ) → content_at (change x (Starts k)) doc n ≡ content_at x doc n
start_content x sound k may doc n =
    ap (λ h. content_of x.setup h doc)
    (earlier-lost x.setup (is_lost (change x (Starts k))) (is_lost x) x.order n
    (λ m _. none_lost x (change x (Starts k)) k _ sound (moves-start x sound k may) (alive_if (is_done (past_at x k).answer)) m))

module _ (x : State) (n : ℕ) (reached : IsReached x) (running : runs x n ≡ true) where
  sound : IsSound x
  sound = sound-reached x reached

  here : n < length x.order
  here = within x sound n running

  begun : (runs x n || has_ended x n) ≡ true
  begun = or_left (runs x n) (has_ended x n) running

  -- a move of another place
  still : (y : State) (k : ℕ) (p : Phase) → Moves x y k p → n ≢ k → runs y n ≡ true
  still y k p moves apart = ap is_running (other x y k p sound moves n apart) ∙ running

  goes_on_start : (k : ℕ) → (may : MayStart x k) → GoesOn x (change x (Starts k)) n
  goes_on_start k may = record {
    running = still (change x (Starts k)) k _ (moves-start x sound k may) (λ e. runs_only (phase_at x n) running (ap (λ j. is_waiting (phase_at x j)) e ∙ may.waits));
    past = past-begun x (Starts k) sound may n here begun (λ e. absurd (cc));
    contents = λ doc d. start_content x sound k may doc n;
  }

  goes_on_end : (k : ℕ) → (r : runs x k ≡ true) → n ≢ k → GoesOn x (change x (Ends k)) n
  goes_on_end k r apart = record {
    running = still y k Ended moves apart;
    past = past-begun x (Ends k) sound r n here begun (λ e. absurd (cc));
    contents = λ doc d. same_content x.setup (is_lost x) (is_lost y) x.order (children_at x k) doc n (λ m _. none_lost x y k Ended sound moves refl m) (omega (arith, here));
  }
    where
      y : State
      y = change x (Ends k)

      moves : Moves x y k Ended
      moves = moves-end x sound k r

  goes_on_line : (i o : ℕ) (w : Work) → (needs : Needs x (Admits i o w)) → GoesOn x (change x (Admits i o w)) n
  goes_on_line i o w needs = record {
    running = ap is_running (phases-admitted x sound i o w n) ∙ running;
    past = past-begun x (Admits i o w) sound needs n here begun (λ e. absurd (cc));
    contents = λ doc d. same_content x.setup (is_lost x) (is_lost (change x (Admits i o w))) x.order (Line i o (session_at x i).subject w ∷ []) doc n
        (λ m _. ap is_gone (phases-admitted x sound i o w m)) (omega (arith, here));
  }

  goes_on_loss : (k : ℕ) → (needs : Needs x (Loses k)) → n ≢ k → GoesOn x (change x (Loses k)) n
  goes_on_loss k needs apart = record {
    running = now;
    past = past;
    contents = λ doc d.
        sym ((holds-reached y after).content_at_running n doc there now (subst (λ q. is_declared (accesses_of q.task) doc ≡ true) (sym past) d))
        ∙ (moves_on-reached x reached).loss_content k doc needs
        ∙ (holds-reached x reached).content_at_running n doc here running d;
  }
    where
      y : State
      y = change x (Loses k)

      after : IsReached y
      after = reached-next x (Loses k) reached needs

      now : runs y n ≡ true
      now = still y k Gone (moves-gone x k sound needs) apart

      past : past_at y n ≡ past_at x n
      past = past-begun x (Loses k) sound needs n here begun (λ e. apart (sym (of_loss e)))
        where
          of_loss : Loses k ≡ Loses n → k ≡ n
          of_loss e = cc

      there : n < length y.order
      there = here

-- no event but its own end and its own loss ends it
pub goes_on-reached : (x : State) (event : Event) (n : ℕ) → IsReached x → Needs x event → runs x n ≡ true → (event ≡ Ends n → ⊥) → (event ≡ Loses n → ⊥) → GoesOn x (change x event) n
goes_on-reached x (Opens s) n reached needs running no_end no_loss = record { running = running; past = refl; contents = λ doc d. refl }
goes_on-reached x (Admits i o w) n reached needs running no_end no_loss = goes_on_line x n reached running i o w needs
goes_on-reached x (Starts k) n reached needs running no_end no_loss = goes_on_start x n reached running k needs
goes_on-reached x (Ends k) n reached needs running no_end no_loss = goes_on_end x n reached running k needs (λ e. no_end (ap Ends (sym e)))
goes_on-reached x (Loses k) n reached needs running no_end no_loss = goes_on_loss x n reached running k needs (λ e. no_loss (ap Loses (sym e)))

-- what starts, and may run, runs as it was said
pub goes_on-started : (x : State) (n : ℕ) → IsSound x → MayStart x n → is_done (past_at x n).answer ≡ true → GoesOn x (change x (Starts n)) n
goes_on-started x n sound may done = record {
  running =
      ap is_running
      ((moves-start x sound n may).phases n
      ∙ ap (λ b. cond b (cond (is_done (past_at x n).answer) Running Ended) (phase_at x n)) (equal_self n)
      ∙ ap (λ b. cond b Running Ended) done);
  past = past-started x sound n may n;
  contents = λ doc d. start_content x sound n may doc n;
}
