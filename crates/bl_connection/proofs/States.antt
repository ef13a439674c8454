-- What the state of a connection says of it.
use Rattle.std.proofs.Common.{◌≡◌, ◌≤◌, ◌<◌, ◌==◌, ◌⊎◌, ◌||◌, ap, inl, inr, Bool, true, false, ℕ, List, [], length, drop, nat_lt, ltb-false, ltb-true, refl, arith}
use Rattle.std.specs.Prelude.{if◌then◌else◌}
use Rattle.std.proofs.lemmas.Bool.Decides.{nat_tests}
use Rattle.std.proofs.lemmas.List.{drop_all, length-drop}
use Rattle.bl_engine.specs.declared.conversation.Need.{Need}
use Rattle.bl_engine.specs.declared.conversation.Need.TheVariants as needs
use Rattle.bl_engine.specs.Conversations.{need_of}
use Rattle.bl_connection.specs.Connections.{IsHeard, state_by, state_of, unheard, unwritten}
use Rattle.bl_connection.specs.declared.connection.Connection.{Connection}
use Rattle.bl_connection.specs.declared.connection.State.{State}
use Rattle.bl_connection.specs.declared.connection.State.TheVariants as states

abbrev pub state_at : Bool → Need → Bool → State
state_at b need more = if b then states.Writes else state_by need more

pub reads_is : (b : Bool) (need : Need) (more : Bool) → state_at b need more ≡ states.Reads → (b ≡ false) × (need ≡ needs.Input) × (more ≡ false)
reads_is true need more is = cc
reads_is false needs.Input true is = cc
reads_is false needs.Input false is = (refl, refl, refl)
reads_is false needs.End more is = cc
reads_is false needs.Opening more is = cc
reads_is false needs.Replies more is = cc
reads_is false needs.Room more is = cc
reads_is false needs.Over more is = cc

pub hears_is : (b : Bool) (need : Need) (more : Bool) → state_at b need more ≡ states.Hears → (b ≡ false) × (((need ≡ needs.Input) × (more ≡ true)) ⊎ (need ≡ needs.End))
hears_is true need more is = cc
hears_is false needs.Input true is = (refl, inl (refl, refl))
hears_is false needs.Input false is = cc
hears_is false needs.End more is = (refl, inr refl)
hears_is false needs.Opening more is = cc
hears_is false needs.Replies more is = cc
hears_is false needs.Room more is = cc
hears_is false needs.Over more is = cc

pub opens_is : (b : Bool) (need : Need) (more : Bool) → state_at b need more ≡ states.Opens → (b ≡ false) × (need ≡ needs.Opening)
opens_is true need more is = cc
opens_is false needs.Input true is = cc
opens_is false needs.Input false is = cc
opens_is false needs.End more is = cc
opens_is false needs.Opening more is = (refl, refl)
opens_is false needs.Replies more is = cc
opens_is false needs.Room more is = cc
opens_is false needs.Over more is = cc

pub settles_is : (b : Bool) (need : Need) (more : Bool) → state_at b need more ≡ states.Settles → (b ≡ false) × (need ≡ needs.Replies)
settles_is true need more is = cc
settles_is false needs.Input true is = cc
settles_is false needs.Input false is = cc
settles_is false needs.End more is = cc
settles_is false needs.Opening more is = cc
settles_is false needs.Replies more is = (refl, refl)
settles_is false needs.Room more is = cc
settles_is false needs.Over more is = cc

pub tells_is : (b : Bool) (need : Need) (more : Bool) → state_at b need more ≡ states.Tells → (b ≡ false) × (need ≡ needs.Room)
tells_is true need more is = cc
tells_is false needs.Input true is = cc
tells_is false needs.Input false is = cc
tells_is false needs.End more is = cc
tells_is false needs.Opening more is = cc
tells_is false needs.Replies more is = cc
tells_is false needs.Room more is = (refl, refl)
tells_is false needs.Over more is = cc

pub over_is : (b : Bool) (need : Need) (more : Bool) → state_at b need more ≡ states.Over → (b ≡ false) × (need ≡ needs.Over)
over_is true need more is = cc
over_is false needs.Input true is = cc
over_is false needs.Input false is = cc
over_is false needs.End more is = cc
over_is false needs.Opening more is = cc
over_is false needs.Replies more is = cc
over_is false needs.Room more is = cc
over_is false needs.Over more is = (refl, refl)

pub writes_is : (b : Bool) (need : Need) (more : Bool) → state_at b need more ≡ states.Writes → b ≡ true
writes_is true need more is = refl
writes_is false needs.Input true is = cc
writes_is false needs.Input false is = cc
writes_is false needs.End more is = cc
writes_is false needs.Opening more is = cc
writes_is false needs.Replies more is = cc
writes_is false needs.Room more is = cc
writes_is false needs.Over more is = cc

or_none : (a b : Bool) → (a || b) ≡ false → (a ≡ false) × (b ≡ false)
or_none true b is = cc
or_none false b is = (refl, is)

or_some : (a b : Bool) → (a || b) ≡ true → (a ≡ true) ⊎ (b ≡ true)
or_some true b is = inl refl
or_some false b is = inr is

-- none is left behind a place where there is none
nothing_after : (n : ℕ) (xs : List ℕ) → nat_lt n (length xs) ≡ false → drop n xs ≡ []
nothing_after n xs is = drop_all n xs (ltb-false n (length xs) is)

module _ {S : Type 0} (conn : Connection S) where
  pub reads_at : state_of conn ≡ states.Reads → (unwritten conn ≡ []) × (need_of conn.conv ≡ needs.Input) × (unheard conn ≡ []) × (conn.ended ≡ false)
  reads_at is =
      let at = reads_is (nat_lt conn.written (length conn.output.items)) (need_of conn.conv) (nat_lt conn.heard (length conn.input.items) || conn.ended) is in
      let none = or_none (nat_lt conn.heard (length conn.input.items)) conn.ended at.2 in
      (nothing_after conn.written conn.output.items at.0, at.1, nothing_after conn.heard conn.input.items none.0, none.1)

  pub hears_at : state_of conn ≡ states.Hears
      → (unwritten conn ≡ []) × (((need_of conn.conv ≡ needs.Input) × ((conn.heard < length conn.input.items) ⊎ (conn.ended ≡ true))) ⊎ (need_of conn.conv ≡ needs.End))
  hears_at is =
      let at = hears_is (nat_lt conn.written (length conn.output.items)) (need_of conn.conv) (nat_lt conn.heard (length conn.input.items) || conn.ended) is in (
        nothing_after conn.written conn.output.items at.0,
        elim at.1 [
          | inl input ↦ inl (
            input.0,
            elim (or_some (nat_lt conn.heard (length conn.input.items)) conn.ended input.1) [
              | inl less ↦ inl (ltb-true conn.heard (length conn.input.items) less)
              | inr end ↦ inr end
            ],
          )
          | inr end ↦ inr end
        ],
      )

  pub opens_at : state_of conn ≡ states.Opens → (unwritten conn ≡ []) × (need_of conn.conv ≡ needs.Opening)
  opens_at is =
      let at = opens_is (nat_lt conn.written (length conn.output.items)) (need_of conn.conv) (nat_lt conn.heard (length conn.input.items) || conn.ended) is in
      (nothing_after conn.written conn.output.items at.0, at.1)

  pub settles_at : state_of conn ≡ states.Settles → (unwritten conn ≡ []) × (need_of conn.conv ≡ needs.Replies)
  settles_at is =
      let at = settles_is (nat_lt conn.written (length conn.output.items)) (need_of conn.conv) (nat_lt conn.heard (length conn.input.items) || conn.ended) is in
      (nothing_after conn.written conn.output.items at.0, at.1)

  pub tells_at : state_of conn ≡ states.Tells → (unwritten conn ≡ []) × (need_of conn.conv ≡ needs.Room)
  tells_at is =
      let at = tells_is (nat_lt conn.written (length conn.output.items)) (need_of conn.conv) (nat_lt conn.heard (length conn.input.items) || conn.ended) is in
      (nothing_after conn.written conn.output.items at.0, at.1)

  pub over_at : state_of conn ≡ states.Over → (unwritten conn ≡ []) × (need_of conn.conv ≡ needs.Over)
  over_at is =
      let at = over_is (nat_lt conn.written (length conn.output.items)) (need_of conn.conv) (nat_lt conn.heard (length conn.input.items) || conn.ended) is in
      (nothing_after conn.written conn.output.items at.0, at.1)

  pub writes_at : state_of conn ≡ states.Writes → conn.written < length conn.output.items
  writes_at is =
      ltb-true conn.written (length conn.output.items)
      (writes_is (nat_lt conn.written (length conn.output.items)) (need_of conn.conv) (nat_lt conn.heard (length conn.input.items) || conn.ended) is)

pub state_so : (b c : Bool) (n m : Need) (p q : Bool) → b ≡ c → n ≡ m → p ≡ q → state_at c m q ≡ state_at b n p
state_so b c n m p q one two three = cc

-- who hears at the end has heard all that was read
pub heard_all : {S : Type 0} (conn : Connection S) → state_of conn ≡ states.Hears → (need_of conn.conv ≡ needs.Input → conn.heard ≡ length conn.input.items) → IsHeard conn
heard_all conn is all = elim (hears_at conn is).1 [
  | inl input ↦ inr (
    input.0,
    drop_all conn.heard conn.input.items (omega (arith, all input.0)),
    elim input.1 [ inl less ↦ absurd (omega (arith, all input.0, less)) | inr end ↦ end ],
  )
  | inr end ↦ inl end
]

pub heard_some : {S : Type 0} (conn : Connection S) → conn.heard ≤ length conn.input.items → (conn.heard ≡ length conn.input.items → ⊥) → conn.heard < length conn.input.items
heard_some conn within other = omega (arith, within, other)

pub still_reads : {S : Type 0} (conn : Connection S) → state_of conn ≡ states.Reads → (nat_lt conn.written (length conn.output.items) ≡ false) × (need_of conn.conv ≡ needs.Input)
still_reads conn is =
    let at = reads_is (nat_lt conn.written (length conn.output.items)) (need_of conn.conv) (nat_lt conn.heard (length conn.input.items) || conn.ended) is in
    (at.0, at.1)

-- something was read, or the end
pub more_read : (n len : ℕ) → len ≡ n → (nat_lt 0 len || (n == 0)) ≡ true
more_read n len is = grind (arith, nat_tests)

pub some_left : (n : ℕ) (xs : List ℕ) → n < length xs → drop n xs ≡ [] → ⊥
some_left n xs less none = omega (arith, length-drop n xs, ap length none, less)
