-- That a setup stays one whole with each declaration.
use Rattle.std.proofs.Common.{◌≡◌, ℕ, zero, suc, ◌+◌, Bool, false, List, [], ◌∷◌, ◌++◌, length, length-append, get_or, Option, Some, None, unwrap_or, refl, sym, ap, subst, ◌∙◌, arith}
use Rattle.std.specs.Prelude.{IsTrue, is_some}
use Rattle.bl_level.specs.Scheme.{SchemeNames}
use Rattle.bl_declare.specs.Declaration.{SubjectText, DocumentText}
use Rattle.bl_setup.specs.Agreement.{Agree, of_scheme}
use Rattle.bl_setup.specs.Grammar.{AddsSubject, AddsDocument}
use Rattle.bl_setup.specs.Setup.{Setup}

one_longer : {X Y : Type 0} (xs : List X) (ys : List Y) (x : X) (y : Y) → length xs ≡ length ys → length (xs ++ x ∷ []) ≡ length (ys ++ y ∷ [])
one_longer xs ys x y e = length-append xs (x ∷ []) ∙ ap (λ n. n + 1) e ∙ sym (length-append ys (y ∷ []))

one_less : (m n : ℕ) → suc m ≡ suc n → m ≡ n
one_less m n e = omega (arith, e)

-- what is not present is empty
abbrev AreEmpty : List Bool → List (List ℕ) → Type 0
AreEmpty present contents = (o : ℕ) → ¬ IsTrue (get_or present o false) → get_or contents o [] ≡ []

-- so it is with one document more, which is present where it has a content
empty_more : (present : List Bool) (contents : List (List ℕ)) (content : Option (List ℕ)) → length present ≡ length contents → AreEmpty present contents
    → AreEmpty (present ++ is_some content ∷ []) (contents ++ unwrap_or content [] ∷ [])
empty_more [] [] None same old zero none = refl
empty_more [] [] (Some x) same old zero none = absurd (none refl)
empty_more [] [] content same old (suc o) none = refl
empty_more [] (c ∷ contents) content same old o none = absurd (cc)
empty_more (p ∷ present) [] content same old o none = absurd (cc)
empty_more (p ∷ present) (c ∷ contents) content same old zero none = old zero none
empty_more (p ∷ present) (c ∷ contents) content same old (suc o) none =
    empty_more present contents content (one_less (length present) (length contents) same) (λ k. old (suc k)) o none

pub agree_first : (scheme : SchemeNames) → Agree (of_scheme scheme)
agree_first scheme = record { subjects = refl; documents = refl; presence = refl; contents = refl; absent = λ o none. refl }

pub agree_subject : (before : Setup) (s : SubjectText) (after : Setup) → Agree before → AddsSubject before s after → Agree after
agree_subject before s after h a =
    subst Agree (sym a.is) (record {
      subjects = one_longer before.names.subjects before.policy.subjects _ _ h.subjects;
      documents = h.documents;
      presence = h.presence;
      contents = h.contents;
      absent = h.absent;
    })

pub agree_document : (before : Setup) (d : DocumentText) (after : Setup) → Agree before → AddsDocument before d after → Agree after
agree_document before d after h a =
    subst Agree (sym a.is) (record {
      subjects = h.subjects;
      documents = one_longer before.names.documents before.policy.documents _ _ h.documents;
      presence = one_longer before.names.documents before.policy.present _ _ h.presence;
      contents = one_longer before.names.documents before.contents _ _ h.contents;
      absent = empty_more before.policy.present before.contents d.content (sym h.presence ∙ h.contents) h.absent;
    })
