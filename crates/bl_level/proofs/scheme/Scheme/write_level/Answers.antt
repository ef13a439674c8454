use Rattle.std.proofs.Common.{◌≡◌, ◌++◌, ℕ, List, [], get_or, sym, ap, ◌∙◌, subst, false, IfSome, Some, slice_get}
use Rattle.std.proofs.lemmas.Option.{get_or_from_slice_get}
use Rattle.bl_level.specs.LevelText.{held_names}
use Rattle.bl_level.specs.LevelFronts.{tail_of}
use Rattle.bl_level.proofs.WritingLevels.{level_bytes, level_reads_back}
use Rattle.bl_level.proofs.scheme.Scheme.write_level.Goals as goal

pub returns-clause-text : goal.returns-clause-text
returns-clause-text c =
    let names = held_names c.args.level.now 0 c.args.self.now.categories in
    let rank = get_or c.args.self.now.ranks c.args.level.now.rank [] in
    let place = c.args.level.now.rank in
    let got : slice_get c.ranks-2.result.now c.from.result ≡ Some c.unwrap-rank.result.now =
    subst (λ o. IfSome o (λ name. slice_get c.ranks-2.result.now c.from.result ≡ Some name.now)) c.unwrap-rank.ensures c.get.ensures.value in
    let there : slice_get c.args.self.now.ranks place ≡ Some c.unwrap-rank.result.now =
    ap (λ (ns : List (List ℕ)). slice_get ns place) (sym c.ranks-2.ensures.value) ∙ ap (slice_get c.ranks-2.result.now) (sym (c.from.ensures ∙ c.rank.ensures.value)) ∙ got in
    let rank_is : c.bytes.result.now ≡ rank = c.bytes.ensures.value ∙ sym (get_or_from_slice_get c.args.self.now.ranks place c.unwrap-rank.result.now [] there) in
    let written : c.write_categories.new.text.items ≡ rank ++ tail_of false names =
    c.in_ok-write_categories.ensures ∙ ap (λ t. t ++ tail_of false names) (c.in_ok-extend_from_slice.ensures.items ∙ ap (λ t. t ++ c.bytes.result.now) c.new-text.ensures.items ∙ rank_is) in
    written ∙ sym (level_bytes rank names)

pub returns-clause-again : goal.returns-clause-again
returns-clause-again c = level_reads_back c.args.self.now c.args.level.now c.ranks.ensures.scheme c.requires c.write_categories.new.text.items (returns-clause-text c)
