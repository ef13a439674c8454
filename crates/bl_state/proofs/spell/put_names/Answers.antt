use Rattle.std.proofs.Common.{◌≡◌, ◌+◌, ◌<◌, [], drop, length, get_or, sym, ap, ◌∙◌, subst, Some, slice_get, IfSome}
use Rattle.std.specs.List.{fold}
use Rattle.std.proofs.lemmas.List.{drop_more}
use Rattle.std.proofs.lemmas.Option.{get_or_from_slice_get}
use Rattle.bl_level.specs.Token.{name}
use Rattle.bl_declare.specs.Declaration.{spell_names}
use Rattle.bl_state.proofs.spell.put_names.Goals as goal

pub loop-place-preserved : goal.loop-place-preserved
loop-place-preserved g c =
    let taken = g.S.Sink.taken in
    let names = c.args.names.now in
    let place = c.loop-place.place in
    let rest = spell_names (drop (place + 1) names) in
    let within : place < length names = subst (λ n. place < n) c.len-place-end.ensures.value c.loop-place-test.true in
    let got : slice_get names place ≡ Some c.unwrap-name.result.now =
    subst (λ o. IfSome o (λ name. slice_get names place ≡ Some name.now)) c.unwrap-name.ensures c.get.ensures.value in
    let called : c.bytes.result.now ≡ get_or names place [] =
    c.bytes.ensures.value ∙ sym (get_or_from_slice_get names place c.unwrap-name.result.now [] got) in
    ap (λ s. fold taken s rest) (c.in_ok-put.ensures ∙ ap (λ b. taken c.loop-place.sink (name b)) called)
    ∙ sym (ap (λ ns. fold taken c.loop-place.sink (spell_names ns)) (drop_more names place [] within))
    ∙ c.loop-place.invariant
