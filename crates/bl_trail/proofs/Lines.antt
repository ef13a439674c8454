-- Texts that an LF ends, and those of what was shown.
use Rattle.std.proofs.Common.{◌≡◌, ◌∙◌, ◌<◌, ◌+◌, List, ℕ, [], ◌∷◌, ◌++◌, add-one, ap, append-nil, append_assoc, get_or, length, sym, take}
use Rattle.std.proofs.Math.Seq.{take-suc}
use Rattle.std.specs.List.{flat_map}
use Rattle.std.proofs.lemmas.Grind.{flat_map-append}
use Rattle.bl_wire.specs.Replies.{output_text}

-- what stands after three texts stands after the last of them
pub after-three : (a b c l : List ℕ) → (a ++ (b ++ c)) ++ l ≡ a ++ (b ++ (c ++ l))
after-three a b c l = append_assoc a (b ++ c) l ∙ ap (λ t. a ++ t) (append_assoc b c l)

-- one text more that was shown
pub one-more-output : (xs : List (List ℕ)) (i : ℕ) (text d : List ℕ) → i < length xs → text ≡ get_or xs i d
    → flat_map output_text (take (i + 1) xs) ≡ flat_map output_text (take i xs) ++ output_text text
one-more-output xs i text d lt is =
    ap (λ k. flat_map output_text (take k xs)) (add-one i) ∙ ap (flat_map output_text) (take-suc xs i d lt ∙ ap (λ t. take i xs ++ t ∷ []) (sym is))
    ∙ flat_map-append output_text (take i xs) (text ∷ []) ∙ ap (λ l. flat_map output_text (take i xs) ++ l) (append-nil (output_text text))

-- a front of three parts, of which the last grows by one text
pub front-grows : (a b c : List ℕ) (xs : List (List ℕ)) (i : ℕ) (text d : List ℕ) → i < length xs → text ≡ get_or xs i d
    → (a ++ (b ++ (c ++ flat_map output_text (take i xs)))) ++ output_text text ≡ a ++ (b ++ (c ++ flat_map output_text (take (i + 1) xs)))
front-grows a b c xs i text d lt is =
    let shown : List ℕ = flat_map output_text (take i xs) in
    after-three a b (c ++ shown) (output_text text) ∙ ap (λ t. a ++ (b ++ t)) (append_assoc c shown (output_text text))
    ∙ ap (λ t. a ++ (b ++ (c ++ t))) (sym (one-more-output xs i text d lt is))
