-- What runs of the machine leave may be chained.
use Rattle.std.proofs.Common.{◌≡◌, ℕ, zero, suc, List, [], ◌∷◌, map, refl, sym, ◌∙◌, ap, subst}
use Rattle.std.specs.Prelude.{Some, if◌then◌else◌}
use Rattle.std.proofs.lemmas.Option.{slice_get-get_or}
use Rattle.bl_setup.specs.Setup.{Setup}
use Rattle.bl_order.specs.AtHand.{ParentsHaveEnded}
use Rattle.bl_order.specs.Headline.{IsReached}
use Rattle.bl_order.specs.Labels.{is_of, put_in, replies_to, tag}
use Rattle.bl_order.specs.Machine.{State, is_lost}
use Rattle.bl_order.specs.Past.{no_entry, place}
use Rattle.bl_order.specs.Standing.{setup_after, setup_now}
use Rattle.bl_state.specs.Whole.{IsWhole}
use Rattle.bl_state.specs.Told.{StandBehindParents, replies_in}
use Rattle.bl_state.specs.Chains.{AreRuns, IsChain, IsLast, Last, MayRun, run_of, setup_behind}
use Rattle.bl_state.proofs.Standing.{StateLaws, nothing-beyond, now-after, whole-now}

pub replies-are : (x : State) (session ordinal n : ℕ) → replies_to x session ordinal n ≡ replies_in x.setup (is_lost x) x.order session ordinal n
replies-are x session ordinal zero = refl
replies-are x session ordinal (suc n) =
    ap (λ replies. if is_of session ordinal (tag x.order n)
    then put_in (record { label = (tag x.order n).label; answer = (place x.setup (is_lost x) x.order n).answer }) replies else replies)
    (replies-are x session ordinal n)

module _ (laws : StateLaws) (parents : (x : State) → IsReached x → ParentsHaveEnded x) where
  behind-parents : (x : State) → IsReached x → StandBehindParents x.order
  behind-parents x reached n parent which lt e = (parents x reached n parent which (slice_get-get_or x.order n no_entry lt ∙ ap Some e)).0

  may-run : (setup : Setup) (last : Last) → IsWhole setup → IsLast setup last → MayRun setup (run_of last)
  may-run setup last whole is = subst (λ s. MayRun s (run_of last)) is.setup_is (record {
    empty = nothing-beyond laws last.state is.reached is.ended (subst IsWhole (sym is.setup_is) whole);
    parents = behind-parents last.state is.reached;
    apart = is.apart;
  })

  next-is : (setup : Setup) (last : Last) → IsLast setup last → setup_now last.state ≡ setup_behind setup (run_of last)
  next-is setup last is =
      now-after last.state is.ended ∙ ap (λ s. setup_after s (is_lost last.state) last.state.order) is.setup_is

  pub chained : (setup : Setup) (lasts : List Last) → IsWhole setup → IsChain setup lasts → AreRuns setup (map run_of lasts)
  chained setup [] whole chain = tt
  chained setup (last ∷ more) whole chain = (
    may-run setup last whole chain.0,
    subst (λ s. AreRuns s (map run_of more)) (next-is setup last chain.0)
        (chained (setup_now last.state) more
        (whole-now laws last.state chain.0.reached chain.0.ended (subst IsWhole (sym chain.0.setup_is) whole)) chain.1),
  )
