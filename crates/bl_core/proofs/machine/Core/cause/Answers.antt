use Rattle.std.proofs.lemmas.Grind.{common_steps}
use Rattle.std.proofs.Common.{◌≡◌, ℕ, ◌+◌, ◌-◌, ◌<◌, ◌≤◌, length, get_or, subst, ap, ◌∙◌, arith}
use Rattle.std.specs.Vec.{vec_len}
use Rattle.std.specs.Prelude.{sum_by}
use Rattle.bl_work.specs.declared.work.Work.{Work}
use Rattle.bl_order.specs.Machine.{State, entry_weight, session_at, weight_of}
use Rattle.bl_order.specs.Room.{HasRoom}
use Rattle.bl_core.specs.View.{state_of}
use Rattle.bl_core.specs.Keeps.{Keeps}
use Rattle.bl_core.specs.declared.session.Session.{Session}
use Rattle.bl_core.specs.declared.machine.Core.TheInside.{Inside}
use Rattle.bl_core.proofs.Admitting.{last-read, length-sessions}
use Rattle.bl_core.proofs.machine.Core.cause.Goals as goal

module _ (i : Inside) (x : State) (is : state_of i ≡ x) (session number : ℕ) (same : number ≡ session) where
  -- the session is not open
  not_there : (len : ℕ) → len ≡ vec_len i.sessions → len ≤ number → length x.sessions ≤ session
  not_there len count le = subst (λ (y : State). length y.sessions ≤ session) is (omega (arith, length-sessions i, i.sessions.ok.0))

  -- it is, and the last ordinal that it gave is read
  module _ (within : number < vec_len i.sessions) where
    within_items : session < length i.sessions.items
    within_items = omega (arith, i.sessions.ok.0)

    is_there : session < length x.sessions
    is_there = subst (λ (y : State). session < length y.sessions) is (omega (arith, within_items, length-sessions i))

    last_is : (row : Session) → row ≡ get_or i.sessions.items number row → row.last ≡ (session_at x session).last
    last_is row at =
        last-read i session row within_items (at ∙ ap (λ (j : ℕ). get_or i.sessions.items j row) same)
        ∙ ap (λ (y : State). (session_at y session).last) is

-- the line fits
room_left : (i : Inside) (x : State) → state_of i ≡ x → Keeps i → HasRoom (state_of i) → (w : Work) (more : ℕ) → more ≡ weight_of w → more ≤ i.limit - i.weight
    → sum_by entry_weight x.order + weight_of w ≤ x.limit
room_left i x is k room w more weighs fits = subst (λ (y : State). sum_by entry_weight y.order + weight_of w ≤ y.limit) is (omega (arith, k.weight, room.within_limit, weighs, fits))

pub overflow_sub-self-inside : goal.overflow_sub-self-inside
overflow_sub-self-inside c =
    omega (arith, c.self.invariant.weight, (c.the_order_has_room.ensures.room (state_of c.self.inside) c.self.invariant.reached).within_limit)

pub returns-then-weight-self : goal.returns-then-weight-self
returns-then-weight-self c = grind (arith, common_steps)

pub index-requires : goal.index-requires
index-requires c = subst (λ (m : ℕ). c.number-number.result < m) c.len.ensures c.if-number-len.false

pub returns-then-number-len : goal.returns-then-number-len
returns-then-number-len c =
    (c.requires, not_there c.self.inside c.args.self.now c.self.view_is c.args.session c.number-number.result c.number-number.ensures c.len.result c.len.ensures c.if-number-len.true)

pub returns-then-ordinal-index : goal.returns-then-ordinal-index
returns-then-ordinal-index c =
    let within = subst (λ (m : ℕ). c.number-number.result < m) c.len.ensures c.if-number-len.false in (
      c.requires,
      is_there c.self.inside c.args.self.now c.self.view_is c.args.session c.number-number.result c.number-number.ensures within,
      subst (λ (last : ℕ). c.args.ordinal ≤ last)
          (last_is c.self.inside c.args.self.now c.self.view_is c.args.session c.number-number.result c.number-number.ensures within c.index.result.now c.index.ensures)
          c.if-ordinal-index.true,
    )

pub returns : goal.returns
returns c =
    let within = subst (λ (m : ℕ). c.number-number.result < m) c.len.ensures c.if-number-len.false in (
      is_there c.self.inside c.args.self.now c.self.view_is c.args.session c.number-number.result c.number-number.ensures within,
      c.requires,
      subst (λ (last : ℕ). last < c.args.ordinal)
          (last_is c.self.inside c.args.self.now c.self.view_is c.args.session c.number-number.result c.number-number.ensures within c.index.result.now c.index.ensures)
          c.if-ordinal-index.false,
      c.ranges.ordinal.fits,
      room_left c.self.inside c.args.self.now c.self.view_is c.self.invariant (c.the_order_has_room.ensures.room (state_of c.self.inside) c.self.invariant.reached)
          c.args.work.now c.weight.result c.weight.ensures.number c.if-weight-self.false,
    )
