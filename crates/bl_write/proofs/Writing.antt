-- What is written token by token is the canonical text.
use Rattle.std.proofs.Common.{◌≡◌, ℕ, Bool, false, List, [], ◌∷◌, ◌++◌, refl, sym, ap, ◌∙◌, append_assoc}
use Rattle.std.specs.Prelude.{◌&&◌, if◌then◌else◌, Err, Ok, OnOk, Result}
use Rattle.std.specs.List.{fold}
use Rattle.std.proofs.lemmas.List.{append-nil}
use Rattle.bl_level.specs.Token.{Tok}
use Rattle.bl_level.specs.Canonical.{spelled, is_word, gap, canonical}
use Rattle.bl_write.specs.Writing.{Written, with_token, nothing_written}

-- the gap before tokens, behind what is a word or none
abbrev lead : Bool → List Tok → List ℕ
lead word [] = []
lead word (t ∷ ts) = if word && is_word t then 32 ∷ [] else []

lead_gap : (t : Tok) (ts : List Tok) → lead (is_word t) ts ≡ gap t ts
lead_gap t [] = refl
lead_gap t (u ∷ us) = refl

written : (w : Written) (ts : List Tok) → (fold with_token w ts).bytes ≡ w.bytes ++ (lead w.word ts ++ canonical ts)
written w [] = sym (append-nil w.bytes)
written w (t ∷ ts) =
    let before = lead w.word (t ∷ ts) in
    let behind = gap t ts ++ canonical ts in
    written (with_token w t) ts
    ∙ ap (λ l. (w.bytes ++ (before ++ spelled t)) ++ (l ++ canonical ts)) (lead_gap t ts)
    ∙ append_assoc w.bytes (before ++ spelled t) behind
    ∙ ap (λ l. w.bytes ++ l) (append_assoc before (spelled t) behind)

pub written_is_canonical : (ts : List Tok) → (fold with_token nothing_written ts).bytes ≡ canonical ts
written_is_canonical [] = refl
written_is_canonical (t ∷ ts) = written nothing_written (t ∷ ts)

-- the same behind other bytes, which end with no word
pub written_behind : (before : List ℕ) (ts : List Tok) → (fold with_token (record { bytes = before; word = false }) ts).bytes ≡ before ++ canonical ts
written_behind before [] = written (record { bytes = before; word = false }) []
written_behind before (t ∷ ts) = written (record { bytes = before; word = false }) (t ∷ ts)

-- what follows where a call went well
pub on_ok : {T E : Type 0} (r : Result T E) (P Q : Type 0) → (P → Q) → OnOk r P → OnOk r Q
on_ok (Ok t) P Q follows h = follows h
on_ok (Err e) P Q follows h = tt
