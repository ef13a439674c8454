-- The subjects and documents of a line that is read are known.
use Rattle.std.proofs.Common.{ℕ, ◌+◌, ◌<◌, List, [], ◌∷◌, ◌++◌, length, subst, sym}
use Rattle.std.specs.Prelude.{All, Contains, map, unwrap_or}
use Rattle.std.specs.Str.{bytes_eq}
use Rattle.std.proofs.lemmas.List.Elements.{All-cons, All-nil, All-head, All-tail, All-append}
use Rattle.std.proofs.lemmas.List.Quantifiers.{position-Some}
use Rattle.bl_policy.specs.declared.access.Access.{Access}
use Rattle.bl_policy.specs.declared.rule.Rule as asked_rule
use Rattle.bl_policy.specs.declared.rule.Rule.TheVariants as asked
use Rattle.bl_policy.specs.RuleEffect.{HasIdsBelow}
use Rattle.bl_work.specs.declared.asked.Line.{Line}
use Rattle.bl_work.specs.declared.asked.Line.TheVariants as line
use Rattle.bl_work.specs.declared.work.Work.TheVariants.{Behaviour, Rule}
use Rattle.bl_work.specs.Names.{KnownNames}
use Rattle.bl_work.specs.Spelled.{SpelledAccess, SpelledBody, empty, show, say, add, set, copy, pour, if_then, if_else, spawn}
use Rattle.bl_work.specs.Grammar.{SpelledLine, hello, wait, when, rule}
use Rattle.bl_work.specs.KnownLine.{IsKnownDocument, DeclaresKnown, AreKnown, IsKnownLine}
use Rattle.bl_work.specs.LineGrammar.{Means, LineOf}
use Rattle.bl_work.specs.Meaning.{whens, document_of, access_of, numbered, spawned_from, script_of}
use Rattle.bl_work.specs.RuleMeaning.{MeansRule}
use Rattle.bl_work.specs.SpelledRules.{SpelledRule, give, rescind, current, classify, create, delete}
use Rattle.bl_work.specs.WhenFaults.{documents_in, names_in, IsFaultless}
use Rattle.bl_work.proofs.Behaviours.{all_left, all_right, has_place}
use Rattle.bl_work.proofs.Widths.{place_within}

module _ (names : KnownNames) where
  -- the name is a document's
  abbrev IsName : List ℕ → Type 0
  IsName = Contains names.documents

  -- the document of a name that is known
  document_known : (name : List ℕ) → IsName name → IsKnownDocument names (document_of names name)
  document_known name there =
      let place = has_place names.documents name there in
      subst (λ p. unwrap_or p 0 < length names.documents) (sym place.0) place.1

  -- the accesses of documents whose names are known
  accesses_known : (list : List SpelledAccess) → All IsName (documents_in list) → All (λ (a : Access). IsKnownDocument names a.doc) (map (access_of names) list)
  accesses_known [] known = All-nil (λ (a : Access). IsKnownDocument names a.doc)
  accesses_known (a ∷ list) known =
      All-cons (λ (a : Access). IsKnownDocument names a.doc) (access_of names a) (map (access_of names) list)
      (document_known a.document (All-head IsName a.document (documents_in list) known))
      (accesses_known list (All-tail IsName a.document (documents_in list) known))

  -- each behaviour that a body spawns declares what is known
  spawned_known : (b : SpelledBody) (next : ℕ) → All IsName (names_in b) → AreKnown names (spawned_from names next b)
  spawned_known empty next known = All-nil (DeclaresKnown names)
  spawned_known (show d rest) next known = spawned_known rest next (All-tail IsName d (names_in rest) known)
  spawned_known (say w rest) next known = spawned_known rest next known
  spawned_known (add d w rest) next known = spawned_known rest next (All-tail IsName d (names_in rest) known)
  spawned_known (set d w rest) next known = spawned_known rest next (All-tail IsName d (names_in rest) known)
  spawned_known (copy d e rest) next known = spawned_known rest next (all_right IsName (d ∷ e ∷ []) (names_in rest) known)
  spawned_known (pour d e rest) next known = spawned_known rest next (all_right IsName (d ∷ e ∷ []) (names_in rest) known)
  spawned_known (if_then d a w t rest) next known =
      let inner = All-tail IsName d (names_in t ++ names_in rest) known in
      All-append (DeclaresKnown names) (spawned_from names next t) (spawned_from names (next + whens t) rest)
      (spawned_known t next (all_left IsName (names_in t) (names_in rest) inner))
      (spawned_known rest (next + whens t) (all_right IsName (names_in t) (names_in rest) inner))
  spawned_known (if_else d a w t e rest) next known =
      let inner = All-tail IsName d (names_in t ++ (names_in e ++ names_in rest)) known in
      let later = all_right IsName (names_in t) (names_in e ++ names_in rest) inner in
      All-append (DeclaresKnown names) (spawned_from names next t) (spawned_from names (next + whens t) e ++ spawned_from names (next + whens t + whens e) rest)
      (spawned_known t next (all_left IsName (names_in t) (names_in e ++ names_in rest) inner))
      (All-append (DeclaresKnown names) (spawned_from names (next + whens t) e) (spawned_from names (next + whens t + whens e) rest)
      (spawned_known e (next + whens t) (all_left IsName (names_in e) (names_in rest) later))
      (spawned_known rest (next + whens t + whens e) (all_right IsName (names_in e) (names_in rest) later)))
  spawned_known (spawn f m b rest) next known =
      let inner = all_right IsName (documents_in (f ∷ m)) (names_in b ++ names_in rest) known in
      All-cons (DeclaresKnown names) (record { accesses = map (access_of names) (f ∷ m); body = numbered names (next + 1) b })
      (spawned_from names (next + 1) b ++ spawned_from names (next + 1 + whens b) rest)
      (accesses_known (f ∷ m) (all_left IsName (documents_in (f ∷ m)) (names_in b ++ names_in rest) known))
      (All-append (DeclaresKnown names) (spawned_from names (next + 1) b) (spawned_from names (next + 1 + whens b) rest)
      (spawned_known b (next + 1) (all_left IsName (names_in b) (names_in rest) inner))
      (spawned_known rest (next + 1 + whens b) (all_right IsName (names_in b) (names_in rest) inner)))

  -- the script of a `when` whose names are known
  when_known : (first : SpelledAccess) (more : List SpelledAccess) (body : SpelledBody) → IsFaultless names first more body → AreKnown names (script_of names first more body)
  when_known first more body faultless =
      All-cons (DeclaresKnown names) (record { accesses = map (access_of names) (first ∷ more); body = numbered names 1 body }) (spawned_from names 1 body)
      (accesses_known (first ∷ more) (all_left IsName (documents_in (first ∷ more)) (names_in body) faultless.known))
      (spawned_known body 1 (all_right IsName (documents_in (first ∷ more)) (names_in body) faultless.known))

  -- what a spelled rule asks
  rule_known : (spelled : SpelledRule) (r : asked_rule.Rule) → MeansRule names spelled r → HasIdsBelow (length names.subjects) (length names.documents) r
  rule_known (give s o m) (asked.Give t d k) means = (place_within names.subjects s t means.0, place_within names.documents o d means.1)
  rule_known (give s o m) _ means = absurd means
  rule_known (rescind s o m) (asked.Rescind t d k) means = (place_within names.subjects s t means.0, place_within names.documents o d means.1)
  rule_known (rescind s o m) _ means = absurd means
  rule_known (current text) (asked.Current l) means = tt
  rule_known (current text) _ means = absurd means
  rule_known (classify o text) (asked.Classify d l) means = place_within names.documents o d means.0
  rule_known (classify o text) _ means = absurd means
  rule_known (create o) (asked.Create d) means = place_within names.documents o d means
  rule_known (create o) _ means = absurd means
  rule_known (delete o) (asked.Delete d) means = place_within names.documents o d means
  rule_known (delete o) _ means = absurd means

  -- what a spelled line asks
  means_known : (spelled : SpelledLine) (asked : Line) → Means names spelled asked → IsKnownLine names asked
  means_known (hello name) (line.Hello subject) means = (position-Some (bytes_eq name) names.subjects subject name means).0
  means_known (hello name) _ means = absurd means
  means_known wait line.Wait means = tt
  means_known wait _ means = absurd means
  means_known (when first more body) (line.Work (Behaviour script)) means = subst (AreKnown names) (sym means.1) (when_known first more body means.0)
  means_known (when first more body) _ means = absurd means
  means_known (rule spelled) (line.Work (Rule r)) means = rule_known spelled r means
  means_known (rule spelled) _ means = absurd means

  -- what the bytes of a line ask
  pub line_known : (bytes : List ℕ) (asked : Line) → LineOf names bytes asked → IsKnownLine names asked
  line_known bytes asked is = means_known is.spelled asked is.means
