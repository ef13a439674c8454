-- What callers see of a thread's connections, where one comes, leaves, stirs or is told of.
use Rattle.std.proofs.Common.{◌≡◌, ◌≢◌, ◌<◌, ◌⊎◌, ◌∙◌, ℕ, List, [], ◌∷◌, ◌++◌, Option, Some, None, length, length-append, vec_len, get_or, refl, sym, ap, subst, true, false, arith}
use Rattle.std.specs.List.{remove}
use Rattle.std.proofs.lemmas.List.{get_or_read_under, map-append}
use Rattle.std.proofs.lemmas.List.Edits.{length-remove}
use Rattle.bl_crowd.specs.Crowds.{IsCrowd}
use Rattle.bl_crowd.specs.Steps.{greeted_as}
use Rattle.bl_crowd.specs.declared.crowd.Crowd.{Crowd}
use Rattle.bl_crowd.specs.declared.member.Member.{Member}
use Rattle.bl_rounds.specs.Going.{AreSeated, HaveSeats, IsAtRest, IsOpen, IsWithout, StandSo}
use Rattle.bl_rounds.specs.Seats.{HasJoined, IsGreeted, IsOneOut, IsUntold, Table, numbers, sessions_of}
use Rattle.bl_rounds.specs.declared.rounds.Greeting.{Greeting}
use Rattle.bl_rounds.specs.declared.rounds.Hand.{Hand}
use Rattle.bl_rounds.specs.declared.seat.Seat.{Seat}
use Rattle.bl_rounds.specs.declared.seat.Stage.TheVariants.{Goes}
use Rattle.bl_rounds.proofs.Going.{rest_on}
use Rattle.bl_rounds.proofs.Seating.{map_remove, same_stage, stand_along, stand_more, stand_out}

nobody_there : (xs : List Seat) → length xs ≡ 0 → xs ≡ []
nobody_there [] none = refl
nobody_there (x ∷ xs) none = absurd (omega arith)

-- as many as before, or fewer
open_along : (hand : Option Hand) (seats after : List Seat) → length after ≡ length seats → IsOpen hand seats → IsOpen hand after
open_along None seats after same is = nobody_there after (same ∙ ap length is)
open_along (Some hand) seats after same is = tt

open_out : (hand : Option Hand) (seats after : List Seat) (i : ℕ) → i < length seats → IsOpen hand seats → IsOpen hand after
open_out None seats after i low is = (let none = ap length is in absurd (omega arith))
open_out (Some hand) seats after i low is = tt

-- the value of its parts
abbrev pub table_of : {S : Type 0} → Crowd S → List Seat → ℕ → Table
table_of crowd seats time = record { first = crowd.first.value; seats = seats; sessions = sessions_of crowd.members.items; time = time }

module _ {S : Type 0} (remaining contents : S → Option (List ℕ)) where
  -- stages change, but not to one at which something is known
  pub seated_along : (crowd : Crowd S) (seats after : List Seat) (hand : Option Hand) → length after ≡ length seats
      → ((j : ℕ) (d : Seat) → ((get_or after j d).stage ≡ (get_or seats j d).stage) ⊎ ((get_or after j d).stage ≡ Goes))
      → AreSeated remaining contents crowd seats hand → AreSeated remaining contents crowd after hand
  seated_along crowd seats after hand same stages s = record {
    have = record {
      crowd_is = s.have.crowd_is;
      seated = same ∙ s.have.seated;
      stand = subst (λ (n : ℕ). StandSo n after crowd.members.items) (sym same) (stand_along (length seats) seats after crowd.members.items stages s.have.stand);
    };
    rest = s.rest;
    opened = open_along hand seats after same s.opened;
  }

  -- nobody comes or leaves
  pub seated_kept : (old new : Crowd S) (seats after : List Seat) (hand : Option Hand) → IsCrowd remaining contents new → new.pass ≡ old.pass → new.first ≡ old.first
      → new.members.items ≡ old.members.items → after ≡ seats → HaveSeats remaining contents old seats → IsAtRest old.first.value old.pass hand → IsOpen hand seats
      → AreSeated remaining contents new after hand
  seated_kept old new seats after hand crowd pass first members is have rest opened =
      let all = have.seated ∙ old.members.ok.0 in
      let count = ap length is in
      let now = ap length members in
      let last = new.members.ok.0 in
      record {
        have = record {
          crowd_is = crowd;
          seated = omega arith;
          stand = subst (λ (xs : List Seat). StandSo (length xs) xs new.members.items) (sym is) (subst (λ (ms : List (Member S)). StandSo (length seats) seats ms) (sym members) have.stand);
        };
        rest = rest_on old new hand pass first rest;
        opened = subst (IsOpen hand) (sym is) opened;
      }

  -- one leaves
  pub seated_out : (old new : Crowd S) (seats after : List Seat) (hand : Option Hand) (i : ℕ) → i < length seats → after ≡ remove seats i
      → IsWithout remaining contents old new i → AreSeated remaining contents old seats hand → AreSeated remaining contents new after hand
  seated_out old new seats after hand i low is out s =
      let all : length seats ≡ length old.members.items = s.have.seated ∙ old.members.ok.0 in
      let there : i < length old.members.items = subst (λ (n : ℕ). i < n) all low in
      let less = length-remove seats i low in
      let fewer = length-remove old.members.items i there in
      let members = ap length out.members in
      let count = ap length is in
      let last = new.members.ok.0 in
      record {
        have = record {
          crowd_is = out.crowd_is;
          seated = omega arith;
          stand = subst (λ (xs : List Seat). StandSo (length xs) xs new.members.items) (sym is)
              (subst (λ (ms : List (Member S)). StandSo (length (remove seats i)) (remove seats i) ms) (sym out.members) (stand_out seats old.members.items i low there s.have.stand));
        };
        rest = rest_on old new hand out.pass out.first s.rest;
        opened = open_out hand seats after i low s.opened;
      }

  pub one_out : (WasSo : Seat → Type 0) (number : ℕ) (old new : Crowd S) (seats after : List Seat) (time : ℕ) (view : Table) (i : ℕ) (seat : Seat)
      → table_of old seats time ≡ view → i < length seats → seat ≡ get_or seats i seat → number ≡ seat.number → ((d : Seat) → WasSo (get_or seats i d))
      → IsWithout remaining contents old new i → after ≡ remove seats i → IsOneOut WasSo number view (table_of new after time)
  one_out WasSo number old new seats after time view i seat view_is low there same so out is = subst (λ (t : Table). IsOneOut WasSo number t (table_of new after time)) view_is (record {
    first = rw out.first refl;
    time = refl;
    i = i;
    within = low;
    number_is = λ d. same ∙ ap (λ (s : Seat). s.number) (get_or_read_under seats i (length seats) seat d there low refl);
    was_so = so;
    seats = is;
    sessions = ap (λ (ms : List (Member S)). sessions_of ms) out.members ∙ map_remove (λ (m : Member S). greeted_as m) old.members.items i;
  })

  -- one comes
  pub seated_more : (old new : Crowd S) (seats after : List Seat) (seat : Seat) (hand : Option Hand) → IsCrowd remaining contents new → new.pass ≡ old.pass → new.first ≡ old.first
      → (member : Member S) → new.members.items ≡ old.members.items ++ member ∷ [] → seat.stage ≡ Goes → after ≡ seats ++ seat ∷ []
      → IsAtRest old.first.value old.pass hand → ((xs : List Seat) → IsOpen hand xs) → length seats ≡ vec_len old.members → StandSo (length seats) seats old.members.items
      → AreSeated remaining contents new after hand
  seated_more old new seats after seat hand crowd pass first member joined goes is rest opened seated stand =
      let all = seated ∙ old.members.ok.0 in
      let more = length-append seats (seat ∷ []) in
      let members = length-append old.members.items (member ∷ []) in
      let count = ap length is in
      let now = ap length joined in
      let last = new.members.ok.0 in
      record {
        have = record {
          crowd_is = crowd;
          seated = omega arith;
          stand = subst (λ (xs : List Seat). StandSo (length xs) xs new.members.items) (sym is)
              (subst (λ (ms : List (Member S)). StandSo (length (seats ++ seat ∷ [])) (seats ++ seat ∷ []) ms) (sym joined) (stand_more seats old.members.items seat member goes all stand));
        };
        rest = rest_on old new hand pass first rest;
        opened = opened after;
      }

  pub one_more : (number : ℕ) (old new : Crowd S) (seats after : List Seat) (time : ℕ) (view : Table) (seat : Seat) (member : Member S)
      → table_of old seats time ≡ view → new.first ≡ old.first → new.members.items ≡ old.members.items ++ member ∷ [] → after ≡ seats ++ seat ∷ []
      → seat ≡ record { number = number; stage = Goes; moved = None; greeted = false } → HasJoined number view (table_of new after time)
  one_more number old new seats after time view seat member view_is first joined is seat_is = subst (λ (t : Table). HasJoined number t (table_of new after time)) view_is (record {
    first = rw first refl;
    time = refl;
    seat = seat;
    seats = is;
    seat_is = seat_is;
    session = greeted_as member;
    sessions = ap (λ (ms : List (Member S)). sessions_of ms) joined ∙ map-append (λ (m : Member S). greeted_as m) old.members.items (member ∷ []);
  })

  -- one is told of
  pub one_told : (greeting : Greeting) (crowd : Crowd S) (seats after : List Seat) (time : ℕ) (view : Table) (i : ℕ)
      → table_of crowd seats time ≡ view → IsUntold greeting seats (sessions_of crowd.members.items) i
      → ((d : Seat) → get_or after i d ≡ record (get_or seats i d) { greeted = true }) → ((j : ℕ) (d : Seat) → j ≢ i → get_or after j d ≡ get_or seats j d)
      → numbers after ≡ numbers seats → IsGreeted greeting view (table_of crowd after time)
  one_told greeting crowd seats after time view i view_is was told others same = subst (λ (t : Table). IsGreeted greeting t (table_of crowd after time)) view_is (record {
    first = refl;
    time = refl;
    i = i;
    was = was;
    told = told;
    others = others;
    numbers_are = same;
    sessions = refl;
  })
