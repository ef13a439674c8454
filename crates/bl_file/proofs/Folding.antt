-- The folder of a path: all up to its last slash.
use Rattle.std.proofs.Common.{◌≡◌, ◌≢◌, ◌<◌, ◌+◌, ◌++◌, ◌∷◌, ◌∙◌, [], ℕ, suc, List, T, get_or, take, drop, length, not, ◌&&◌, eqb, sym, ap, subst, inl, arith, ne_eqb}
use Rattle.std.specs.Path.{HasNoSlash, has_no_slash, slash}
use Rattle.std.specs.Str.Pattern.{HasCharAt}
use Rattle.std.specs.Str.{NoCharPasses}
use Rattle.std.proofs.lemmas.List.{take-append-drop, take_more}
use Rattle.std.proofs.lemmas.Str.{len_utf8_ascii}
use Rattle.std.proofs.lemmas.Str.Pattern.{NoCharPasses-char}
use Rattle.bl_file.specs.Folders.{IsFolderOf}

lacks : (bs : List ℕ) → ((i : ℕ) → i < length bs → get_or bs i 0 ≢ slash) → HasNoSlash bs
lacks [] h = tt
lacks (b ∷ bs) h = subst (λ t. T (not t && has_no_slash bs)) (sym (ne_eqb b slash (h 0 (omega arith)))) (lacks bs (λ i l. h (suc i) (omega arith)))

no_slash : (bs : List ℕ) → NoCharPasses (λ d. eqb d slash) bs → HasNoSlash bs
no_slash bs none' = lacks bs (λ i l. NoCharPasses-char slash bs i none' (omega arith) l)

-- a path with no slash is in the folder that the program runs in
pub without_slash : (path : List ℕ) → NoCharPasses (λ d. eqb d slash) path → HasNoSlash path
without_slash path none' = no_slash path none'

-- the folder is what stands up to the last slash
pub after_slash : (path : List ℕ) (at end : ℕ) → HasCharAt slash path at end → NoCharPasses (λ d. eqb d slash) (drop end path) → IsFolderOf path (take (at + 1) path)
after_slash path at end found none' =
    let one = len_utf8_ascii slash (omega arith) in
    let ends : end ≡ at + 1 = found.ends ∙ ap (λ n. at + n) one in
    let within : at < length path = omega (arith, one, found.after.0) in
    inl (
      take at path,
      drop (at + 1) path,
      take_more path at 0 within ∙ ap (λ b. take at path ++ b ∷ []) (found.byte (omega arith)),
      sym (take-append-drop (at + 1) path),
      subst (λ n. HasNoSlash (drop n path)) ends (no_slash (drop end path) none'),
    )
