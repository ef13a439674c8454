-- A file is one setup at most, and reading it line by line finds it.
use Rattle.std.proofs.Common.{◌≡◌, ℕ, List, [], ◌∷◌, ◌++◌, Option, Some, None, unwrap_or, refl, sym, subst, ◌∙◌, inl, inr}
use Rattle.std.specs.Prelude.{is_some}
use Rattle.bl_level.specs.Lexing.{Begins}
use Rattle.bl_level.specs.Token.{Tok, text}
use Rattle.bl_level.specs.Name.{AreProper, IsProper}
use Rattle.bl_level.specs.LevelText.{spell_level}
use Rattle.bl_policy.specs.Policy.{with_declared, with_modes}
use Rattle.bl_setup.specs.Setup.{Setup}
use Rattle.bl_declare.specs.Declaration.{Declaration, SubjectText, DocumentText, declared_content, AllowText, ranks, categories, subject, document, allow, spell_declaration, spell_content, spell_document}
use Rattle.bl_setup.specs.Grammar.{Adds, AddsSubject, AddsDocument, AddsModes, LineAdds, Leads, Spells}
use Rattle.bl_setup.specs.Heads.{Remain}
use Rattle.bl_declare.specs.declared.fault.SetupFaultKind.{SetupFaultKind}
use Rattle.bl_declare.specs.Faults.{UnlessMemory}
use Rattle.bl_setup.proofs.MeaningLemmas.{one_level}
use Rattle.bl_setup.proofs.ModeLemmas.{same_modes, same_put}
use Rattle.bl_declare.proofs.LineLemmas.{begins_one}
use Rattle.bl_declare.proofs.Spelling.{spelled_alike}

one_subject : (b : Setup) (s : SubjectText) (x y : Setup) → AddsSubject b s x → AddsSubject b s y → x ≡ y
one_subject b s x y p q =
    let g = one_level b.names.scheme s.greatest p.greatest q.greatest p.means_greatest q.means_greatest in
    let c = one_level b.names.scheme s.current p.current q.current p.means_current q.means_current in
    p.is ∙ (λ i. record b {
      names = record b.names { subjects = b.names.subjects ++ s.name ∷ [] };
      policy = record b.policy { subjects = b.policy.subjects ++ (record { greatest = g i; current = c i; trusted = s.trusted; admin = s.admin }) ∷ [] };
    }) ∙ sym q.is

one_document : (b : Setup) (d : DocumentText) (x y : Setup) → AddsDocument b d x → AddsDocument b d y → x ≡ y
one_document b d x y p q =
    let l = one_level b.names.scheme d.level p.level q.level p.means q.means in
    p.is ∙ (λ i. record b {
      names = record b.names { documents = b.names.documents ++ d.name ∷ [] };
      policy = with_declared b.policy (l i) (is_some d.content);
      contents = b.contents ++ declared_content d ∷ [];
    }) ∙ sym q.is

one_modes : (b : Setup) (a : AllowText) (x y : Setup) → AddsModes b a x → AddsModes b a y → x ≡ y
one_modes b a x y p q =
    let s : Some p.subject ≡ Some q.subject = sym p.subject_is ∙ q.subject_is in
    let o : Some p.document ≡ Some q.document = sym p.document_is ∙ q.document_is in
    let s' : p.subject ≡ q.subject = cc in
    let o' : p.document ≡ q.document = cc in
    let m = same_put b.policy.matrix q.subject q.document p.modes q.modes (same_modes p.modes q.modes (a.mode ∷ a.modes) p.modes_are q.modes_are) in
    p.is ∙ (λ i. record b { policy = with_modes b.policy (s' i) (o' i) p.modes }) ∙ (λ i. record b { policy = record b.policy { matrix = m i } }) ∙ sym q.is

-- a declaration adds one thing
pub adds_one : (b : Setup) (d : Declaration) (x y : Setup) → Adds b d x → Adds b d y → x ≡ y
adds_one b (ranks lowest higher) x y p q = absurd p
adds_one b (categories names) x y p q = absurd p
adds_one b (subject s) x y p q = one_subject b s x y p q
adds_one b (document d) x y p q = one_document b d x y p q
adds_one b (allow a) x y p q = one_modes b a x y p q

-- a line spells one declaration
pub one_spelled : (line : List ℕ) (d e : Declaration) → Begins line (spell_declaration d) [] → Begins line (spell_declaration e) [] → d ≡ e
one_spelled line d e p q = spelled_alike d e (begins_one line (spell_declaration d) (spell_declaration e) p q)

-- so a line adds one thing
pub line_adds_one : (b : Setup) (line : List ℕ) (x y : Setup) → LineAdds b line x → LineAdds b line y → x ≡ y
line_adds_one b line x y (d, s, p) (e, t, q) =
    let same = one_spelled line e d t s in
    adds_one b d x y p (subst (λ z. Adds b z y) same q)

pub remain_same : (lines : List (List ℕ)) (s after : Setup) → lines ≡ [] → Remain lines s after → after ≡ s
remain_same lines s after e r = go lines e r.declarations r.spelled r.leads
  where
    go : (lines : List (List ℕ)) → lines ≡ [] → (ds : List Declaration) → Spells lines ds → Leads s ds after → after ≡ s
    go [] e [] sp l = l
    go [] e (d ∷ ds) sp l = absurd (cc)
    go (x ∷ xs) e ds sp l = absurd (cc)

-- a line more in front
pub remain_more : (lines rest : List (List ℕ)) (line : List ℕ) (b s after : Setup) → lines ≡ line ∷ rest → LineAdds b line s → Remain rest s after → Remain lines b after
remain_more lines rest line b s after e (d, spells, adds) r =
    rw e (record { declarations = d ∷ r.declarations; spelled = (d, r.declarations, refl, spells, r.spelled); leads = (s, adds, r.leads) })

-- the first line of those that are left adds something, and the others lead on
pub record First (rest : List (List ℕ)) (line : List ℕ) (b after : Setup) : Type 0 where
  pub next : Setup
  pub adds : LineAdds b line next
  pub remain : Remain rest next after

pub remain_first : (lines rest : List (List ℕ)) (line : List ℕ) (b after : Setup) → lines ≡ line ∷ rest → Remain lines b after → First rest line b after
remain_first lines rest line b after e r = go (rw e at r.spelled)
  where
    go : Spells (line ∷ rest) r.declarations → First rest line b after
    go (d, ds, is, spells, sp) =
        let P : List Declaration → Type 0 = λ xs. Leads b xs after in
        let l = subst P is r.leads in
        record { next = l.0; adds = (d, spells, l.1); remain = record { declarations = ds; spelled = sp; leads = l.2 } }

pub remain_next : (lines rest : List (List ℕ)) (line : List ℕ) (b s after : Setup) → lines ≡ line ∷ rest → LineAdds b line s → Remain lines b after → Remain rest s after
remain_next lines rest line b s after e adds r =
    let f = remain_first lines rest line b after e r in
    subst (λ x. Remain rest x after) (line_adds_one b line f.next s f.adds adds) f.remain

proper_behind : (xs ys : List Tok) → AreProper (xs ++ ys) → AreProper ys
proper_behind [] ys p = p
proper_behind (x ∷ xs) ys p = proper_behind xs ys p.1

proper_inside : (content : Option (List ℕ)) → AreProper (spell_content content) → IsProper (text (unwrap_or content []))
proper_inside (Some x) p = p.0
proper_inside None p = refl

-- the content of a document that is spelled is of content bytes
pub content_proper : (d : DocumentText) → AreProper (spell_document d) → IsProper (text (declared_content d))
content_proper d p = proper_inside d.content (proper_behind (spell_level d.level) (spell_content d.content) p.1.1)

pub unless : {P Q : Type 0} {e : SetupFaultKind} → (P → Q) → UnlessMemory e P → UnlessMemory e Q
unless f (inl m) = inl m
unless f (inr p) = inr (f p)
