use Rattle.std.proofs.Common.{◌≡◌, ◌+◌, ◌-◌, ◌≤◌, length, Some, sym, ap, ◌∙◌, arith}
use Rattle.std.specs.Prelude.{slice_get}
use Rattle.bl_level.specs.Token.{tok, toks}
use Rattle.bl_spot.proofs.Places.{cut_fits, cut_order}
use Rattle.bl_spot.proofs.extent.extent_of.Goals as goal

pub overflow_add-end : goal.overflow_add-end
overflow_add-end c =
    let lexed = c.args.lexed.now in
    let last_is : slice_get lexed.places.items c.args.last ≡ Some c.in_ok-last_at.last_at = sym (c.in_ok-last_at.ensures ∙ ap (λ l. slice_get l c.args.last) c.as_slice-2.ensures.value) in
    let token_is : slice_get (toks lexed.tokens.items) c.args.last ≡ Some (tok c.in_ok-token.token) =
    sym (c.in_ok-token.ensures ∙ ap (λ l. slice_get (toks l) c.args.last) c.as_slice-3.ensures.value)
    in
    let fits = cut_fits (length c.args.line.now) c.args.line.now (toks lexed.tokens.items) lexed.places.items lexed.broken c.requires.cut c.args.last (tok c.in_ok-token.token)
    c.in_ok-last_at.last_at token_is last_is
    in
    omega (arith, fits, c.width.ensures, c.requires.few)

pub overflow_sub-result : goal.overflow_sub-result
overflow_sub-result c =
    let lexed = c.args.lexed.now in
    let first_is : slice_get lexed.places.items c.args.first ≡ Some c.in_ok-at.at = sym (c.in_ok-at.ensures ∙ ap (λ l. slice_get l c.args.first) c.as_slice.ensures.value) in
    let last_is : slice_get lexed.places.items c.args.last ≡ Some c.in_ok-last_at.last_at = sym (c.in_ok-last_at.ensures ∙ ap (λ l. slice_get l c.args.last) c.as_slice-2.ensures.value) in
    let order = cut_order (length c.args.line.now) c.args.line.now (toks lexed.tokens.items) lexed.places.items lexed.broken c.requires.cut c.args.first c.args.last
    c.in_ok-at.at c.in_ok-last_at.last_at c.requires.order first_is last_is
    in
    omega (arith, order)

pub returns : goal.returns
returns c =
    let lexed = c.args.lexed.now in
    let at = c.in_ok-at.at in
    let last_at = c.in_ok-last_at.last_at in
    let first_is : slice_get lexed.places.items c.args.first ≡ Some at = sym (c.in_ok-at.ensures ∙ ap (λ l. slice_get l c.args.first) c.as_slice.ensures.value) in
    let last_is : slice_get lexed.places.items c.args.last ≡ Some last_at = sym (c.in_ok-last_at.ensures ∙ ap (λ l. slice_get l c.args.last) c.as_slice-2.ensures.value) in
    let token_is : slice_get (toks lexed.tokens.items) c.args.last ≡ Some (tok c.in_ok-token.token) =
    sym (c.in_ok-token.ensures ∙ ap (λ l. slice_get (toks l) c.args.last) c.as_slice-3.ensures.value)
    in
    let order = cut_order (length c.args.line.now) c.args.line.now (toks lexed.tokens.items) lexed.places.items lexed.broken c.requires.cut c.args.first c.args.last
    at last_at c.requires.order first_is last_is
    in
    record { begins = first_is; token = tok c.in_ok-token.token; last_is = token_is; last_at = last_at; last_place = last_is; ends = omega (arith, order, c.width.ensures) }
