-- What declarations add, in whole lists.
use Rattle.std.proofs.Common.{◌≡◌, ℕ, List, [], ◌∷◌, ◌++◌, map, refl, sym, ap, subst, ◌∙◌, append_assoc}
use Rattle.std.specs.Prelude.{is_some}
use Rattle.std.proofs.lemmas.List.{append-nil}
use Rattle.bl_level.specs.Level.{SecurityLevel}
use Rattle.bl_level.specs.Scheme.{SchemeNames}
use Rattle.bl_policy.specs.Policy.{Clearance}
use Rattle.bl_setup.specs.Setup.{Setup}
use Rattle.bl_setup.specs.Agreement.{of_scheme}
use Rattle.bl_declare.specs.Declaration.{Declaration, SubjectText, DocumentText, declared_content, AllowText, ranks, categories, subject, document, allow}
use Rattle.bl_setup.specs.Grammar.{AddsSubject, AddsDocument, AddsModes, Leads, IsSetupWithin}
use Rattle.bl_setup.proofs.RightsLemmas.{rights_are_named}
use Rattle.bl_setup.specs.WholeLists.{subjects_of, documents_of, HaveClearances, HaveLevels, IsDeclared}

-- behind what was there stands what the declarations add
record Added (before : Setup) (ds : List Declaration) (after : Setup) : Type 0 where
  pub scheme : after.names.scheme ≡ before.names.scheme
  pub subjects : after.names.subjects ≡ before.names.subjects ++ map (λ s. s.name) (subjects_of ds)
  pub documents : after.names.documents ≡ before.names.documents ++ map (λ d. d.name) (documents_of ds)
  pub contents : after.contents ≡ before.contents ++ map declared_content (documents_of ds)
  pub present : after.policy.present ≡ before.policy.present ++ map (λ d. is_some d.content) (documents_of ds)
  pub clearances : List Clearance
  pub subjects_grown : after.policy.subjects ≡ before.policy.subjects ++ clearances
  pub have_clearances : HaveClearances before.names.scheme (subjects_of ds) clearances
  pub levels : List SecurityLevel
  pub documents_grown : after.policy.documents ≡ before.policy.documents ++ levels
  pub have_levels : HaveLevels before.names.scheme (documents_of ds) levels

one_more : {X : Type 0} (whole next before rest : List X) (x : X) → next ≡ before ++ x ∷ [] → whole ≡ next ++ rest → whole ≡ before ++ x ∷ rest
one_more whole next before rest x e f = f ∙ ap (λ y. y ++ rest) e ∙ append_assoc before (x ∷ []) rest

same_front : {X : Type 0} (whole next before rest : List X) → next ≡ before → whole ≡ next ++ rest → whole ≡ before ++ rest
same_front whole next before rest e f = f ∙ ap (λ y. y ++ rest) e

added_subject : (before : Setup) (s : SubjectText) (ds : List Declaration) (next after : Setup) → AddsSubject before s next → Added next ds after → Added before (subject s ∷ ds) after
added_subject before s ds next after a r =
    let scheme : next.names.scheme ≡ before.names.scheme = ap (λ x. x.names.scheme) a.is in
    let clearance : Clearance = record { greatest = a.greatest; current = a.current; trusted = s.trusted; admin = s.admin } in
    record {
      scheme = r.scheme ∙ scheme;
      subjects = one_more after.names.subjects next.names.subjects before.names.subjects _ s.name (ap (λ x. x.names.subjects) a.is) r.subjects;
      documents = same_front after.names.documents next.names.documents before.names.documents _ (ap (λ x. x.names.documents) a.is) r.documents;
      contents = same_front after.contents next.contents before.contents _ (ap (λ x. x.contents) a.is) r.contents;
      present = same_front after.policy.present next.policy.present before.policy.present _ (ap (λ x. x.policy.present) a.is) r.present;
      clearances = clearance ∷ r.clearances;
      subjects_grown = one_more after.policy.subjects next.policy.subjects before.policy.subjects r.clearances clearance (ap (λ x. x.policy.subjects) a.is) r.subjects_grown;
      have_clearances = (
        clearance,
        r.clearances,
        refl,
        record { greatest = a.means_greatest; current = a.means_current; dominates = a.dominates; trusted = refl; admin = refl },
        subst (λ x. HaveClearances x (subjects_of ds) r.clearances) scheme r.have_clearances,
      );
      levels = r.levels;
      documents_grown = same_front after.policy.documents next.policy.documents before.policy.documents r.levels (ap (λ x. x.policy.documents) a.is) r.documents_grown;
      have_levels = subst (λ x. HaveLevels x (documents_of ds) r.levels) scheme r.have_levels;
    }

added_document : (before : Setup) (d : DocumentText) (ds : List Declaration) (next after : Setup) → AddsDocument before d next → Added next ds after → Added before (document d ∷ ds) after
added_document before d ds next after a r =
    let scheme : next.names.scheme ≡ before.names.scheme = ap (λ x. x.names.scheme) a.is in
    record {
      scheme = r.scheme ∙ scheme;
      subjects = same_front after.names.subjects next.names.subjects before.names.subjects _ (ap (λ x. x.names.subjects) a.is) r.subjects;
      documents = one_more after.names.documents next.names.documents before.names.documents _ d.name (ap (λ x. x.names.documents) a.is) r.documents;
      contents = one_more after.contents next.contents before.contents _ (declared_content d) (ap (λ x. x.contents) a.is) r.contents;
      present = one_more after.policy.present next.policy.present before.policy.present _ (is_some d.content) (ap (λ x. x.policy.present) a.is) r.present;
      clearances = r.clearances;
      subjects_grown = same_front after.policy.subjects next.policy.subjects before.policy.subjects r.clearances (ap (λ x. x.policy.subjects) a.is) r.subjects_grown;
      have_clearances = subst (λ x. HaveClearances x (subjects_of ds) r.clearances) scheme r.have_clearances;
      levels = a.level ∷ r.levels;
      documents_grown = one_more after.policy.documents next.policy.documents before.policy.documents r.levels a.level (ap (λ x. x.policy.documents) a.is) r.documents_grown;
      have_levels = (a.level, r.levels, refl, a.means, subst (λ x. HaveLevels x (documents_of ds) r.levels) scheme r.have_levels);
    }

added_modes : (before : Setup) (m : AllowText) (ds : List Declaration) (next after : Setup) → AddsModes before m next → Added next ds after → Added before (allow m ∷ ds) after
added_modes before m ds next after a r =
    let scheme : next.names.scheme ≡ before.names.scheme = ap (λ x. x.names.scheme) a.is in
    record {
      scheme = r.scheme ∙ scheme;
      subjects = same_front after.names.subjects next.names.subjects before.names.subjects _ (ap (λ x. x.names.subjects) a.is) r.subjects;
      documents = same_front after.names.documents next.names.documents before.names.documents _ (ap (λ x. x.names.documents) a.is) r.documents;
      contents = same_front after.contents next.contents before.contents _ (ap (λ x. x.contents) a.is) r.contents;
      present = same_front after.policy.present next.policy.present before.policy.present _ (ap (λ x. x.policy.present) a.is) r.present;
      clearances = r.clearances;
      subjects_grown = same_front after.policy.subjects next.policy.subjects before.policy.subjects r.clearances (ap (λ x. x.policy.subjects) a.is) r.subjects_grown;
      have_clearances = subst (λ x. HaveClearances x (subjects_of ds) r.clearances) scheme r.have_clearances;
      levels = r.levels;
      documents_grown = same_front after.policy.documents next.policy.documents before.policy.documents r.levels (ap (λ x. x.policy.documents) a.is) r.documents_grown;
      have_levels = subst (λ x. HaveLevels x (documents_of ds) r.levels) scheme r.have_levels;
    }

added : (ds : List Declaration) (before after : Setup) → Leads before ds after → Added before ds after
added [] before after e =
    record {
      scheme = ap (λ x. x.names.scheme) e;
      subjects = ap (λ x. x.names.subjects) e ∙ sym (append-nil before.names.subjects);
      documents = ap (λ x. x.names.documents) e ∙ sym (append-nil before.names.documents);
      contents = ap (λ x. x.contents) e ∙ sym (append-nil before.contents);
      present = ap (λ x. x.policy.present) e ∙ sym (append-nil before.policy.present);
      clearances = [];
      subjects_grown = ap (λ x. x.policy.subjects) e ∙ sym (append-nil before.policy.subjects);
      have_clearances = refl;
      levels = [];
      documents_grown = ap (λ x. x.policy.documents) e ∙ sym (append-nil before.policy.documents);
      have_levels = refl;
    }
added (ranks lowest higher ∷ ds) before after (next, a, l) = absurd a
added (categories names ∷ ds) before after (next, a, l) = absurd a
added (subject s ∷ ds) before after (next, a, l) = added_subject before s ds next after a (added ds next after l)
added (document d ∷ ds) before after (next, a, l) = added_document before d ds next after a (added ds next after l)
added (allow m ∷ ds) before after (next, a, l) = added_modes before m ds next after a (added ds next after l)

-- a setup is what its text declares
pub setup_is_declared : (most : ℕ) (bytes : List ℕ) (setup : Setup) → IsSetupWithin most bytes setup → IsDeclared bytes setup
setup_is_declared most bytes setup s =
    let scheme : SchemeNames = record { ranks = s.lowest ∷ s.higher; categories = s.names } in
    let a = added s.declarations (of_scheme scheme) setup s.leads in
    record {
      declarations = ranks s.lowest s.higher ∷ categories s.names ∷ s.declarations;
      spelled = s.spelled;
      subjects = a.subjects;
      documents = a.documents;
      contents = a.contents;
      present = a.present;
      clearances = subst (λ x. HaveClearances x (subjects_of s.declarations) setup.policy.subjects) (sym a.scheme)
          (subst (HaveClearances scheme (subjects_of s.declarations)) (sym a.subjects_grown) a.have_clearances);
      levels = subst (λ x. HaveLevels x (documents_of s.declarations) setup.policy.documents) (sym a.scheme)
          (subst (HaveLevels scheme (documents_of s.declarations)) (sym a.documents_grown) a.have_levels);
      rights = rights_are_named scheme s.declarations setup s.leads;
    }
