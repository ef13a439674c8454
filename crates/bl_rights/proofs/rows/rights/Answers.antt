use Rattle.std.proofs.Common.{◌≡◌, ◌+◌, ◌∙◌, ap, ap₂, arith, length, sym}
use Rattle.std.specs.Prelude.{sum_by}
use Rattle.std.specs.List.{range_with_len}
use Rattle.std.proofs.lemmas.List.Sums.{sum_by_push}
use Rattle.bl_rights.specs.Rows.{rights_of}
use Rattle.bl_rights.proofs.Numbers.{one-more}
use Rattle.bl_rights.proofs.rows.rights.Goals as goal

pub loop-place-preserved : goal.loop-place-preserved
loop-place-preserved c =
    let p = c.args.policy.now in
    let place = c.loop-place.place in
    let more : c.rights_of-count.result ≡ rights_of p place = c.rights_of-count.ensures.value ∙ ap (λ s. rights_of p s) c.new-subject.ensures in
    record {
      counted = ap₂ (λ a b. a + b) c.loop-place.invariant.counted more
          ∙ sym (ap (sum_by (λ s. rights_of p s)) (one-more place) ∙ sum_by_push (λ s. rights_of p s) (range_with_len 0 place) place);
      within = omega (arith, c.loop-place.invariant.within, c.rights_of-count.ensures.within);
    }

pub returns-clause-value : goal.returns-clause-value
returns-clause-value c =
    let p = c.args.policy.now in
    let all : c.loop-place.place ≡ length p.subjects = omega (arith, c.loop-place-test.false, c.loop-place.auto.place-end, c.subjects-many.ensures.value) in
    c.loop-place.invariant.counted ∙ ap (λ n. sum_by (λ s. rights_of p s) (range_with_len 0 n)) all

pub returns-clause-within : goal.returns-clause-within
returns-clause-within c = omega (arith, c.loop-place.invariant.within, c.loop-place.auto.place-end, c.subjects-many.ensures.within)
