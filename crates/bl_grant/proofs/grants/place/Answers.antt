use Rattle.std.proofs.Common.{◌≢◌, get_or, ap, sym, ◌∙◌, arith, below_more}
use Rattle.std.specs.Prelude.{map}
use Rattle.std.proofs.lemmas.List.{length-map}
use Rattle.bl_grant.specs.Loaned.{Loaned, no_loan}
use Rattle.bl_grant.specs.Granted.{loaned_of}
use Rattle.bl_grant.proofs.Places.{read-at, no-place, same, is-same}
use Rattle.bl_grant.proofs.grants.place.Goals as goal

pub returns-then-eq : goal.returns-then-eq
returns-then-eq c =
    let read = read-at c.args.grants.now c.loop-place.place c.index-grants-place.result (omega arith) c.index-grants-place.is in
    record {
      within = omega (arith, length-map c.args.grants.now loaned_of);
      found = ap (λ (l : Loaned). l.access.doc) read ∙ ap (λ a. a.doc) (sym c.access.ensures) ∙ is-same c.access.result.doc c.args.doc (sym c.eq.ensures ∙ c.if-eq.true);
      first = c.loop-place.invariant;
    }

pub loop-place-preserved : goal.loop-place-preserved
loop-place-preserved c =
    let read = read-at c.args.grants.now c.loop-place.place c.index-grants-place.result (omega arith) c.index-grants-place.is in
    below_more (λ k. (get_or (map loaned_of c.args.grants.now) k no_loan).access.doc ≢ c.args.doc) _ c.loop-place.invariant
    (λ e. cc (same c.access.result.doc c.args.doc (ap (λ a. a.doc) c.access.ensures ∙ ap (λ (l : Loaned). l.access.doc) (sym read) ∙ e), c.eq.ensures, c.if-eq.false))

pub unreachable-requires : goal.unreachable-requires
unreachable-requires c =
    no-place (map loaned_of c.args.grants.now) c.args.doc (λ k lt. c.loop-place.invariant k (omega (arith, length-map c.args.grants.now loaned_of))) c.requires
