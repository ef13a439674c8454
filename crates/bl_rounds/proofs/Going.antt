-- How a member of a crowd that leaves has gone, and how one round follows another.
use Rattle.std.proofs.Common.{◌≡◌, ◌<◌, ◌⊎◌, ◌∙◌, ◌-◌, ℕ, Bool, true, false, List, [], length, vec_len, get_or, refl, sym, ap, subst, Option, Some, None, inl, inr}
use Rattle.std.specs.Prelude.{All}
use Rattle.std.proofs.lemmas.List.Elements.{All-get_or}
use Rattle.bl_work.specs.Names.{KnownNames}
use Rattle.bl_gate.specs.Gates.{Follows, GateId, PassView}
use Rattle.bl_worker.specs.Batches.{AllRan, HasRoom, IsBatch, IsIdle, loans_in}
use Rattle.bl_worker.specs.Turns.{Settles}
use Rattle.bl_worker.specs.declared.batch.Batch.{Batch}
use Rattle.bl_worker.proofs.Batching.{batch_itself, batch_settles}
use Rattle.bl_engine.specs.Conversations.{last_ordinal}
use Rattle.bl_wire.specs.declared.fault.SessionFault.{SessionFault}
use Rattle.bl_crowd.specs.Crowds.{IsCrowd}
use Rattle.bl_crowd.specs.Departures.{Departs, IsServedAmong}
use Rattle.bl_crowd.specs.Ways.{IsMember}
use Rattle.bl_crowd.specs.declared.crowd.Crowd.{Crowd}
use Rattle.bl_crowd.specs.declared.member.Member.{Member}
use Rattle.bl_rounds.specs.Going.{GoesOn, HasRun, IsAtRest, StepsAt, TurnsOn}
use Rattle.bl_rounds.specs.Leaving.{HasGone, HasParted, LeavesAs}
use Rattle.bl_rounds.specs.declared.rounds.Gone.{Gone}
use Rattle.bl_rounds.specs.declared.rounds.Hand.{Hand}
use Rattle.bl_rounds.specs.declared.seat.Seat.{Seat}
use Rattle.bl_rounds.proofs.Seating.{at_index}

none_is_not : {T : Type 0} (a : T) → None ≡ Some a → ⊥
none_is_not a is = cc

false_is_not : false ≡ true → ⊥
false_is_not is = cc

-- nothing is in hand where none runs and none was run
none_in : (batch : Batch) → IsIdle batch → loans_in batch ≡ []
none_in batch idle = rw (idle.0, idle.1) refl

module _ {S : Type 0} (remaining contents : S → Option (List ℕ)) (crowd : Crowd S) (i : ℕ) where
  -- the names of its gate are those of its pass
  names_are : IsCrowd remaining contents crowd → crowd.gate.now.base.setup.names ≡ crowd.pass.gate.base.setup.names
  names_are is = sym (ap (λ (g : GateId). g.base.setup.names) is.gate_is)

  -- what stands there, whatever stands where there is none, is a member
  member_there : (is : IsCrowd remaining contents crowd) (lt : i < length crowd.members.items)
      → IsMember remaining contents crowd.pass.gate.base.setup.names crowd.first.value crowd.pass (at_index crowd.members.items i lt).0
  member_there is lt =
      let there = at_index crowd.members.items i lt in
      let Here : KnownNames → Member S → Type 0 = λ names m. IsMember remaining contents names crowd.first.value crowd.pass m in
      subst (λ names. Here names there.0) (names_are is)
      (subst (Here crowd.gate.now.base.setup.names) (there.1 there.0) (All-get_or (Here crowd.gate.now.base.setup.names) crowd.members.items i there.0 lt is.members.each))

  -- one whose session was over
  pub gone_over : (gone : Gone S) → IsCrowd remaining contents crowd → Follows crowd.first.value crowd.pass → i < length crowd.members.items → gone.fault ≡ None → gone.full ≡ false
      → ((d : Member S) → (get_or crowd.members.items i d).fault ≡ None) → ((d : Member S) → gone.stream ≡ (get_or crowd.members.items i d).connection.stream)
      → ((d : Member S) → gone.lines ≡ last_ordinal (get_or crowd.members.items i d).connection.conv)
      → ((d : Member S) → gone.refused ≡ last_ordinal (get_or crowd.members.items i d).connection.conv - (get_or crowd.members.items i d).tally.admitted)
      → ((d : Member S) → IsServedAmong remaining contents crowd.gate.now.base.setup.names crowd.first.value crowd.pass (get_or crowd.members.items i d).connection)
      → HasGone remaining contents crowd.first.value gone
  gone_over gone is follows lt none room fine stream lines refused served =
      let there = at_index crowd.members.items i lt in
      let Left : KnownNames → Member S → Type 0 = λ names m. IsServedAmong remaining contents names crowd.first.value crowd.pass m.connection in
      record {
        pass = crowd.pass;
        follows = follows;
        member = there.0;
        was = member_there is lt;
        stream_is = stream there.0 ∙ ap (λ (m : Member S). m.connection.stream) (there.1 there.0);
        fault_is = none ∙ sym (sym (ap (λ (m : Member S). m.fault) (there.1 there.0)) ∙ fine there.0);
        lines_is = lines there.0 ∙ ap (λ (m : Member S). last_ordinal m.connection.conv) (there.1 there.0);
        refused_is = refused there.0 ∙ ap (λ (m : Member S). last_ordinal m.connection.conv - m.tally.admitted) (there.1 there.0);
        leaves = subst (λ full. LeavesAs remaining contents crowd.first.value crowd.pass there.0 full gone.fault) (sym room)
            (subst (LeavesAs remaining contents crowd.first.value crowd.pass there.0 false) (sym none)
            (subst (λ names. Left names there.0) (names_are is) (subst (Left crowd.gate.now.base.setup.names) (there.1 there.0) (served there.0))));
      }

  -- one that was put out
  pub gone_out : (gone : Gone S) → IsCrowd remaining contents crowd → Follows crowd.first.value crowd.pass → i < length crowd.members.items
      → ((d : Member S) → gone.stream ≡ (get_or crowd.members.items i d).connection.stream)
      → ((d : Member S) → gone.fault ≡ (get_or crowd.members.items i d).fault)
      → ((d : Member S) → gone.full ≡ (get_or crowd.members.items i d).full)
      → ((d : Member S) → gone.lines ≡ last_ordinal (get_or crowd.members.items i d).connection.conv)
      → ((d : Member S) → gone.refused ≡ last_ordinal (get_or crowd.members.items i d).connection.conv - (get_or crowd.members.items i d).tally.admitted)
      → ((d : Member S) → Departs remaining contents crowd.gate.now.base.setup.names crowd.first.value crowd.pass (get_or crowd.members.items i d).connection
      (get_or crowd.members.items i d).reception gone.fault)
      → HasParted remaining contents crowd.first.value gone
  gone_out gone is follows lt stream same room lines refused departs =
      let there = at_index crowd.members.items i lt in
      let Left : KnownNames → Member S → Type 0 = λ names m. Departs remaining contents names crowd.first.value crowd.pass m.connection m.reception gone.fault in
      record {
        pass = crowd.pass;
        follows = follows;
        member = there.0;
        was = member_there is lt;
        stream_is = stream there.0 ∙ ap (λ (m : Member S). m.connection.stream) (there.1 there.0);
        fault_is = same there.0 ∙ ap (λ (m : Member S). m.fault) (there.1 there.0);
        lines_is = lines there.0 ∙ ap (λ (m : Member S). last_ordinal m.connection.conv) (there.1 there.0);
        refused_is = refused there.0 ∙ ap (λ (m : Member S). last_ordinal m.connection.conv - m.tally.admitted) (there.1 there.0);
        full_is = room there.0 ∙ ap (λ (m : Member S). m.full) (there.1 there.0);
        departs = subst (λ names. Left names there.0) (names_are is) (subst (Left crowd.gate.now.base.setup.names) (there.1 there.0) (departs there.0));
      }

-- one that had failed, or whose line would never have fitted
module _ {S : Type 0} (remaining contents : S → Option (List ℕ)) (first : PassView) where
  leaves_so : (pass : PassView) (member : Member S) (full : Bool) (fault : Option SessionFault) → full ≡ member.full
      → ((of : SessionFault) × (fault ≡ Some of)) ⊎ (full ≡ true)
      → Departs remaining contents pass.gate.base.setup.names first pass member.connection member.reception fault
      → LeavesAs remaining contents first pass member full fault
  leaves_so pass member true fault is why departs = (sym is, departs)
  leaves_so pass member false (Some fault) is why departs = departs
  leaves_so pass member false None is why departs = elim why [
    | inl failed ↦ absurd (none_is_not (failed.0) (failed.1))
    | inr full ↦ absurd (false_is_not full)
  ]

  pub gone_early : (gone : Gone S) → ((of : SessionFault) × (gone.fault ≡ Some of)) ⊎ (gone.full ≡ true) → HasParted remaining contents first gone
      → HasGone remaining contents first gone
  gone_early gone why p = record {
    pass = p.pass;
    follows = p.follows;
    member = p.member;
    was = p.was;
    stream_is = p.stream_is;
    fault_is = p.fault_is;
    lines_is = p.lines_is;
    refused_is = p.refused_is;
    leaves = leaves_so p.pass p.member gone.full gone.fault p.full_is why p.departs;
  }

-- ---- one after another

module _ {S : Type 0} (remaining contents : S → Option (List ℕ)) where
  -- before the first step
  pub steps_itself : (a : Crowd S) (i : ℕ) → IsCrowd remaining contents a → StepsAt remaining contents a a i
  steps_itself a i is = record { crowd_is = is; len = refl; others = λ j e other. refl; first = refl; gate = refl; pass = refl }

  pub steps_then : (a b c : Crowd S) (i : ℕ) → StepsAt remaining contents a b i → StepsAt remaining contents b c i → StepsAt remaining contents a c i
  steps_then a b c i f s = record {
    crowd_is = s.crowd_is;
    len = s.len ∙ f.len;
    others = λ j e other. s.others j e other ∙ f.others j e other;
    first = s.first ∙ f.first;
    gate = s.gate ∙ f.gate;
    pass = s.pass ∙ f.pass;
  }

  -- before any has gone on
  pub goes_itself : (a : Crowd S) (xs : List Seat) → IsCrowd remaining contents a → length xs ≡ vec_len a.members → GoesOn remaining contents a a xs xs
  goes_itself a xs is seated = record { crowd_is = is; seated = seated; first = refl; gate = refl; pass = refl; same = refl }

  pub goes_then : (a b c : Crowd S) (xs ys zs : List Seat) → GoesOn remaining contents a b xs ys → GoesOn remaining contents b c ys zs → GoesOn remaining contents a c xs zs
  goes_then a b c xs ys zs f s = record {
    crowd_is = s.crowd_is;
    seated = s.seated;
    first = s.first ∙ f.first;
    gate = s.gate ∙ f.gate;
    pass = s.pass ∙ f.pass;
    same = s.same ∙ f.same;
  }

  -- before the first turn
  pub turns_itself : (a : Crowd S) (xs : List Seat) (hand : Hand) → IsCrowd remaining contents a → length xs ≡ vec_len a.members → HasRun a.first.value a.pass hand → TurnsOn remaining contents a a xs xs hand
  turns_itself a xs hand is seated run = record { crowd_is = is; seated = seated; first = refl; gate = refl; same = refl; run = run }

  -- what was run is so, where the connections have gone on since
  pub run_there : (a b c : Crowd S) (xs ys zs : List Seat) (hand : Hand) → TurnsOn remaining contents a b xs ys hand → GoesOn remaining contents b c ys zs → HasRun c.first.value c.pass hand
  run_there a b c xs ys zs hand t g = rw (g.pass, g.first, t.first) t.run

  pub turns_then : (a b c d : Crowd S) (xs ys zs ws : List Seat) (before after : Hand) → TurnsOn remaining contents a b xs ys before → GoesOn remaining contents b c ys zs
      → TurnsOn remaining contents c d zs ws after → TurnsOn remaining contents a d xs ws after
  turns_then a b c d xs ys zs ws before after f g s = record {
    crowd_is = s.crowd_is;
    seated = s.seated;
    first = s.first ∙ (g.first ∙ f.first);
    gate = s.gate ∙ (g.gate ∙ f.gate);
    same = s.same ∙ (g.same ∙ f.same);
    run = rw (sym f.first, sym g.first) s.run;
  }

-- ---- at rest

-- nothing is in hand, so all has ended
pub rest_settles : (first pass : PassView) (hand : Option Hand) → IsAtRest first pass hand → Settles first pass
rest_settles first pass None batch = batch_settles first pass batch
rest_settles first pass (Some hand) rest = batch_settles first pass (subst (IsBatch first pass) (none_in hand.batch rest.1) rest.0.batch)

pub rest_follows : (first pass : PassView) (hand : Option Hand) → IsAtRest first pass hand → Follows first pass
rest_follows first pass None batch = batch.follows
rest_follows first pass (Some hand) rest = rest.0.batch.follows

-- at first
pub rest_first : (first pass : PassView) → pass ≡ first → IsAtRest first pass None
rest_first first pass same = subst (λ p. IsBatch first p []) (sym same) (batch_itself first)

-- room was made for what is in hand
pub rest_made : (first pass : PassView) (was : Option Hand) (made : Hand) → was ≡ None → HasRun pass pass made × IsIdle made.batch → IsAtRest first pass was → IsAtRest first pass (Some made)
rest_made first pass was made none is rest = (
  record { batch = subst (IsBatch first pass) (sym (none_in made.batch is.1)) (subst (IsAtRest first pass) none rest); ran = is.0.ran; room = is.0.room },
  is.1,
)

-- the crowd has the same passes
pub rest_on : {S : Type 0} (old new : Crowd S) (hand : Option Hand) → new.pass ≡ old.pass → new.first ≡ old.first → IsAtRest old.first.value old.pass hand → IsAtRest new.first.value new.pass hand
rest_on old new hand pass first rest = rw (pass, first) rest

-- after its turns
pub rest_turned : {S : Type 0} (remaining contents : S → Option (List ℕ)) (old new : Crowd S) (xs ys : List Seat) (was now : Hand) → TurnsOn remaining contents old new xs ys was → IsIdle was.batch
    → now.batch ≡ was.batch → IsAtRest new.first.value new.pass (Some now)
rest_turned remaining contents old new xs ys was now turned idle same =
    let is : HasRun new.first.value new.pass was = rw turned.first turned.run in (
      record {
        batch = subst (λ (b : Batch). IsBatch new.first.value new.pass (loans_in b)) (sym same) is.batch;
        ran = subst AllRan (sym same) is.ran;
        room = subst HasRoom (sym same) is.room;
      },
      subst IsIdle (sym same) idle,
    )

pub rest_noted : (first pass : PassView) (was now : Hand) → now.batch ≡ was.batch → IsAtRest first pass (Some was) → IsAtRest first pass (Some now)
rest_noted first pass was now same rest = (
  record {
    batch = subst (λ (b : Batch). IsBatch first pass (loans_in b)) (sym same) rest.0.batch;
    ran = subst AllRan (sym same) rest.0.ran;
    room = subst HasRoom (sym same) rest.0.room;
  },
  subst IsIdle (sym same) rest.1,
)
