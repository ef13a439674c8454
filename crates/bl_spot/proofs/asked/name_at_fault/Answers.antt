use Rattle.std.proofs.Common.{◌≡◌, [], ◌∷◌, ap, sym, subst}
use Rattle.std.proofs.lemmas.Result.{IfOk-weaker}
use Rattle.bl_declare.specs.Declaration.{ranks}
use Rattle.bl_declare.specs.Words.{declaration_of, names_of}
use Rattle.bl_setup.specs.FirstSetupFault.{SoFar, IsDue}
use Rattle.bl_spot.specs.Asking.{Fails, ask, ask_names}
use Rattle.bl_spot.specs.Located.{IsBefore}
use Rattle.bl_spot.specs.declared.located.Named.TheVariants as named
use Rattle.bl_spot.proofs.Failing.{ranks_asked}
use Rattle.bl_spot.proofs.asked.name_at_fault.Goals as goal

pub returns-in-Ranks : goal.returns-in-Ranks
returns-in-Ranks c =
    let lowest = c.in-Ranks.lowest.now in
    let higher = c.in-Ranks.higher.items in
    let is : declaration_of c.args.words.now ≡ ranks lowest (names_of higher) = ap declaration_of c.in-Ranks.is in
    IfOk-weaker c.rank_at_fault.result (λ asked. Fails (ask_names 1 named.Rank [] (lowest ∷ names_of c.as_slice.result.now)) asked)
    (λ asked. (after : SoFar) → IsBefore after c.args.before.now → IsDue after (declaration_of c.args.words.now) → Fails (ask after (declaration_of c.args.words.now)) asked)
    (λ asked f after before due. subst (λ d. Fails (ask after d) asked) (sym is)
    (ranks_asked after lowest (names_of higher) asked (subst (IsDue after) is due)
    (subst (λ names. Fails (ask_names 1 named.Rank [] (lowest ∷ names_of names)) asked) c.as_slice.ensures.value f)))
    c.rank_at_fault.ensures
