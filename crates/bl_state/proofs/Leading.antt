-- The lines of subjects and documents lead to them.
use Rattle.std.proofs.Common.{◌≡◌, ℕ, suc, ◌≤◌, Bool, true, false, cond, Some, None, unwrap_or, List, [], ◌∷◌, ◌++◌, length, get_or, refl, sym, ◌∙◌, ap, subst, arith, append_assoc, append-nil, length-append, true≢false}
use Rattle.std.specs.Prelude.{Contains, is_some}
use Rattle.std.specs.List.{AllByRecursion}
use Rattle.std.proofs.lemmas.List.{get_or_append_left, get_or_at}
use Rattle.bl_name.specs.Table.{AreDistinct}
use Rattle.bl_level.specs.Level.{SecurityLevel}
use Rattle.bl_level.specs.Scheme.{SchemeNames, IsScheme, HoldsLevel}
use Rattle.bl_level.proofs.WritingLevels.{text_means}
use Rattle.bl_policy.specs.Matrix.{Matrix, no_triple}
use Rattle.bl_policy.specs.Policy.{Clearance}
use Rattle.bl_declare.specs.Declaration.{Declaration}
use Rattle.bl_setup.specs.Grammar.{AddsSubject, AddsDocument, Leads}
use Rattle.bl_setup.specs.Setup.{Setup}
use Rattle.bl_setup.specs.declared.version.Version.TheVariants.{Two}
use Rattle.bl_work.specs.Content.{IsContent}
use Rattle.bl_state.specs.Texts.{subject_lines, document_lines, subject_text_of, document_text_of}
use Rattle.bl_state.specs.Whole.{IsCleared}

pub leads-append : (a b c : Setup) (ds es : List Declaration) → Leads a ds b → Leads b es c → Leads a (ds ++ es) c
leads-append a b c [] es p q = subst (λ x. Leads x es c) p q
leads-append a b c (d ∷ ds) es p q = (p.0, p.1, leads-append p.0 b c ds es p.2 q)

-- a name that stands behind others is none of them
new-name : (done ns : List (List ℕ)) (n : List ℕ) → AreDistinct (done ++ n ∷ ns) → Contains done n → ⊥
new-name done ns n apart (k, within, is) =
    apart k (length done) n within (omega (arith, length-append done (n ∷ ns)))
    (get_or_append_left done (n ∷ ns) n k within ∙ is ∙ sym (get_or_at done n ns n (length done) refl))

-- what is not present is empty
abbrev pub AreEmpty : List Bool → List (List ℕ) → Type 0
AreEmpty [] xs = Unit {0}
AreEmpty (p ∷ ps) [] = Unit {0}
AreEmpty (p ∷ ps) (x ∷ xs) = (p ≡ false → x ≡ []) × AreEmpty ps xs

pub empty-each : (ps : List Bool) (xs : List (List ℕ)) → ((o : ℕ) → (get_or ps o false ≡ true → ⊥) → get_or xs o [] ≡ []) → AreEmpty ps xs
empty-each [] xs h = tt
empty-each (p ∷ ps) [] h = tt
empty-each (p ∷ ps) (x ∷ xs) h = ((λ e. h 0 (λ t. true≢false (sym t ∙ e))), empty-each ps xs (λ o none. h (suc o) none))

-- a line has a content just where the document is present
there-is : (p : Bool) (x : List ℕ) → p ≡ is_some (cond p (Some x) None)
there-is true x = refl
there-is false x = refl

content-is : (p : Bool) (x : List ℕ) → (p ≡ false → x ≡ []) → x ≡ unwrap_or (cond p (Some x) None) []
content-is true x none = refl
content-is false x none = none refl

short-is : (p : Bool) (x : List ℕ) → length x ≤ 65536 → length (unwrap_or (cond p (Some x) None) []) ≤ 65536
short-is true x h = h
short-is false x h = omega arith

module _ (scheme : SchemeNames) (is : IsScheme scheme) where
  -- a setup with these subjects, documents and rights
  abbrev pub made : List (List ℕ) → List Clearance → List (List ℕ) → List SecurityLevel → List Bool → List (List ℕ) → Matrix → Setup
  made ns cs ms ls ps xs m = record {
    names = record { scheme = scheme; subjects = ns; documents = ms };
    policy = record { subjects = cs; documents = ls; present = ps; matrix = m };
    contents = xs;
    version = Two;
  }

  abbrev with_subjects : List (List ℕ) → List Clearance → Setup
  with_subjects ns cs = made ns cs [] [] [] [] no_triple

  pub subjects-lead : (done : List (List ℕ)) (dcs : List Clearance) (ns : List (List ℕ)) (cs : List Clearance) → length ns ≡ length cs → length (done ++ ns) ≤ 256
      → AreDistinct (done ++ ns) → AllByRecursion (IsCleared scheme) cs
      → Leads (with_subjects done dcs) (subject_lines scheme ns cs) (with_subjects (done ++ ns) (dcs ++ cs))
  subjects-lead done dcs [] [] same fits apart all = λ i. with_subjects (append-nil done i) (append-nil dcs i)
  subjects-lead done dcs [] (c ∷ cs) same fits apart all = absurd (omega (arith, same))
  subjects-lead done dcs (n ∷ ns) [] same fits apart all = absurd (omega (arith, same))
  subjects-lead done dcs (n ∷ ns) (c ∷ cs) same fits apart all =
      let more : done ++ n ∷ ns ≡ (done ++ n ∷ []) ++ ns = sym (append_assoc done (n ∷ []) ns) in
      let more_cs : dcs ++ c ∷ cs ≡ (dcs ++ c ∷ []) ++ cs = sym (append_assoc dcs (c ∷ []) cs) in
      let adds : AddsSubject (with_subjects done dcs) (subject_text_of scheme n c) (with_subjects (done ++ n ∷ []) (dcs ++ c ∷ [])) = record {
        room = omega (arith, fits, length-append done (n ∷ ns));
        is_new = new-name done ns n apart;
        greatest = c.greatest;
        current = c.current;
        means_greatest = text_means scheme c.greatest is all.0.greatest;
        means_current = text_means scheme c.current is all.0.current;
        dominates = all.0.dominates;
        is = refl;
      } in
      let rest = subjects-lead (done ++ n ∷ []) (dcs ++ c ∷ []) ns cs (omega (arith, same)) (omega (arith, fits, ap length more)) (subst AreDistinct more apart) all.1 in (
        with_subjects (done ++ n ∷ []) (dcs ++ c ∷ []),
        adds,
        subst (λ x. Leads (with_subjects (done ++ n ∷ []) (dcs ++ c ∷ [])) (subject_lines scheme ns cs) x) (λ i. with_subjects (sym more i) (sym more_cs i)) rest,
      )

  module _ (subjects : List (List ℕ)) (cleared : List Clearance) where
    abbrev with_documents : List (List ℕ) → List SecurityLevel → List Bool → List (List ℕ) → Setup
    with_documents ns ls ps xs = made subjects cleared ns ls ps xs no_triple

    pub documents-lead : (done : List (List ℕ)) (dls : List SecurityLevel) (dps : List Bool) (dxs : List (List ℕ))
        (ns : List (List ℕ)) (ls : List SecurityLevel) (ps : List Bool) (xs : List (List ℕ))
        → length ns ≡ length ls → length ns ≡ length ps → length ns ≡ length xs → length (done ++ ns) ≤ 1024 → AreDistinct (done ++ ns)
        → AllByRecursion (HoldsLevel scheme) ls → AllByRecursion IsContent xs → AreEmpty ps xs
        → Leads (with_documents done dls dps dxs) (document_lines scheme ns ls ps xs) (with_documents (done ++ ns) (dls ++ ls) (dps ++ ps) (dxs ++ xs))
    documents-lead done dls dps dxs [] [] [] [] same as_many each fits apart held plain none =
        λ i. with_documents (append-nil done i) (append-nil dls i) (append-nil dps i) (append-nil dxs i)
    documents-lead done dls dps dxs [] (l ∷ ls) ps xs same as_many each fits apart held plain none = absurd (omega (arith, same))
    documents-lead done dls dps dxs [] [] (p ∷ ps) xs same as_many each fits apart held plain none = absurd (omega (arith, as_many))
    documents-lead done dls dps dxs [] [] [] (x ∷ xs) same as_many each fits apart held plain none = absurd (omega (arith, each))
    documents-lead done dls dps dxs (n ∷ ns) [] ps xs same as_many each fits apart held plain none = absurd (omega (arith, same))
    documents-lead done dls dps dxs (n ∷ ns) (l ∷ ls) [] xs same as_many each fits apart held plain none = absurd (omega (arith, as_many))
    documents-lead done dls dps dxs (n ∷ ns) (l ∷ ls) (p ∷ ps) [] same as_many each fits apart held plain none = absurd (omega (arith, each))
    documents-lead done dls dps dxs (n ∷ ns) (l ∷ ls) (p ∷ ps) (x ∷ xs) same as_many each fits apart held plain none =
        let more : done ++ n ∷ ns ≡ (done ++ n ∷ []) ++ ns = sym (append_assoc done (n ∷ []) ns) in
        let more_ls : dls ++ l ∷ ls ≡ (dls ++ l ∷ []) ++ ls = sym (append_assoc dls (l ∷ []) ls) in
        let more_ps : dps ++ p ∷ ps ≡ (dps ++ p ∷ []) ++ ps = sym (append_assoc dps (p ∷ []) ps) in
        let more_xs : dxs ++ x ∷ xs ≡ (dxs ++ x ∷ []) ++ xs = sym (append_assoc dxs (x ∷ []) xs) in
        let next : Setup = with_documents (done ++ n ∷ []) (dls ++ l ∷ []) (dps ++ p ∷ []) (dxs ++ x ∷ []) in
        let adds : AddsDocument (with_documents done dls dps dxs) (document_text_of scheme n l p x) next = record {
          room = omega (arith, fits, length-append done (n ∷ ns));
          short = short-is p x plain.0.short;
          is_new = new-name done ns n apart;
          level = l;
          means = text_means scheme l is held.0;
          is = λ i. with_documents (done ++ n ∷ []) (dls ++ l ∷ []) (dps ++ there-is p x i ∷ []) (dxs ++ content-is p x none.0 i ∷ []);
        } in
        let rest = documents-lead (done ++ n ∷ []) (dls ++ l ∷ []) (dps ++ p ∷ []) (dxs ++ x ∷ []) ns ls ps xs (omega (arith, same)) (omega (arith, as_many)) (omega (arith, each))
        (omega (arith, fits, ap length more)) (subst AreDistinct more apart) held.1 plain.1 none.1 in (
          next,
          adds,
          subst (λ y. Leads next (document_lines scheme ns ls ps xs) y) (λ i. with_documents (sym more i) (sym more_ls i) (sym more_ps i) (sym more_xs i)) rest,
        )
