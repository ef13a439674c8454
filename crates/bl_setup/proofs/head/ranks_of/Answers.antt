use Rattle.std.proofs.Common.{◌≡◌, ◌∷◌, suc, length, ap, refl, ◌∙◌, arith}
use Rattle.std.proofs.lemmas.List.{length-map}
use Rattle.bl_setup.specs.FirstSetupFault.{nothing}
use Rattle.bl_declare.specs.Words.{names_of}
use Rattle.bl_declare.proofs.Parts.{exits}
use Rattle.bl_setup.proofs.HeadFaults.{too_many_ranks, ranks_refused}
use Rattle.bl_setup.proofs.HeadLemmas.{names_proper}
use Rattle.bl_setup.proofs.TakingLemmas.{spells_nothing}
use Rattle.bl_setup.proofs.head.ranks_of.Goals as goal

pub returns-in_err-lowest-clause-fault : goal.returns-in_err-lowest-clause-fault
returns-in_err-lowest-clause-fault c = exits _ _ _ _ c.from_residual.ensures.1 (spells_nothing nothing c.args.line.now _ c.in_err-lowest.ensures.fault)

pub returns-then-len-ge-MOST_RANKS-clause-fault : goal.returns-then-len-ge-MOST_RANKS-clause-fault
returns-then-len-ge-MOST_RANKS-clause-fault c =
    too_many_ranks c.args.line.now c.in-Ranks.lowest.now (names_of c.in-Ranks.higher.items) (rw c.in-Ranks.is at c.in_ok-lowest.ensures.spelled) (rw length-map (omega arith))

pub add_names-requires : goal.add_names-requires
add_names-requires c =
    rw c.as_slice.ensures.value (names_proper (names_of c.in-Ranks.higher.items) (rw c.in-Ranks.is at c.in_ok-lowest.ensures.proper).1.1)

pub returns-in_err-table_of-clause-fault : goal.returns-in_err-table_of-clause-fault
returns-in_err-table_of-clause-fault c =
    let name = rw c.unwrap.ensures at c.new.ensures.value in
    exits _ _ _ _ c.from_residual-in_err-table_of.ensures.1
    (ranks_refused c.args.line.now c.in-Ranks.lowest.now (names_of c.in-Ranks.higher.items) c.as_slice-2.result.now c.in_err-table_of.field-0.0
    (c.as_slice-2.ensures.value ∙ c.in_ok-add_names.ensures ∙ rw (c.in_ok-push.ensures.items, c.new-names.ensures.items, name, c.as_slice.ensures.value) refl) (rw c.in-Ranks.is at c.in_ok-lowest.ensures.spelled) (rw length-map (omega arith)) c.in_err-table_of.ensures.err)

pub returns-clause-ok : goal.returns-clause-ok
returns-clause-ok c =
    let name = rw c.unwrap.ensures at c.new.ensures.value in
    let whole : c.add_names.new.names.items ≡ c.in-Ranks.lowest.now ∷ names_of c.in-Ranks.higher.items =
    c.in_ok-add_names.ensures ∙ rw (c.in_ok-push.ensures.items, c.new-names.ensures.items, name, c.as_slice.ensures.value) refl in
    let count : length c.add_names.new.names.items ≡ suc (length c.in-Ranks.higher.items) = ap length whole ∙ rw length-map refl in
    record {
      lowest = c.in-Ranks.lowest.now;
      higher = names_of c.in-Ranks.higher.items;
      is = whole;
      spelled = rw c.in-Ranks.is at c.in_ok-lowest.ensures.spelled;
      fit = record { some = omega arith; fit = omega arith; table = rw c.as_slice-2.ensures.value at c.in_ok-table_of.ensures.ok.1 };
    }
