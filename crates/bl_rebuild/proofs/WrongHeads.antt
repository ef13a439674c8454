-- Where the head is wrong, no journal is recovered.
use Rattle.std.proofs.Common.{◌≡◌, ℕ, ◌≤◌, List, [], ◌∷◌, ◌++◌, length, sym, ◌∙◌, ap, subst, inl, inr, arith}
use Rattle.std.specs.Prelude.{codes, decimal}
use Rattle.std.specs.List.{AllByRecursion}
use Rattle.bl_setup.specs.Setup.{Setup}
use Rattle.bl_setup.specs.declared.version.Version.{Version}
use Rattle.bl_trail.specs.Asks.{HasNo}
use Rattle.bl_trail.specs.TrueText.{AreRight, FirstWrong, HasNoLf, IsLimit, IsWrong, joined, version_line}
use Rattle.bl_trail.specs.Versions.{HasSetup}
use Rattle.bl_trail.proofs.Verdicts.{head-plain}
use Rattle.bl_journal.specs.Journals.{IsRecovered, Journal, journal_text, lines_of_events}
use Rattle.bl_journal.proofs.Heading.{regroup, same_line, split}
use Rattle.bl_rebuild.proofs.Stepping.{has-lf}

-- the line of a limit
abbrev limit_line : ℕ → List ℕ
limit_line limit = codes "limit " ++ decimal limit

-- the lines of a head stand in front, and are right
parts : (setup : Setup) (journal : Journal) (rest : List ℕ)
    → journal_text setup journal ++ rest
    ≡ version_line journal.version ++ 10 ∷ (limit_line journal.limit ++ 10 ∷ (joined (lines_of_events setup journal) ++ rest))
parts setup journal rest =
    let tail : List ℕ = joined (lines_of_events setup journal) ++ rest in
    split setup journal rest
    ∙ regroup (version_line journal.version) (limit_line journal.limit ∷ []) tail
    ∙ ap (λ t. version_line journal.version ++ 10 ∷ t) (regroup (limit_line journal.limit) [] tail)

module _ (setup : Setup) (version : Version) (has : HasSetup version setup) (limit : ℕ) (is_limit : IsLimit limit) where
  first-right : (line : List ℕ) → line ≡ version_line version → AreRight setup (line ∷ [])
  first-right line is = (
    limit_line limit ∷ codes "stop" ∷ [],
    record {
      version = version;
      has_setup = has;
      limit = limit;
      is_limit = is_limit;
      events = [];
      steps = tt;
      has_events = tt;
      is = ap (λ l. l ∷ limit_line limit ∷ codes "stop" ∷ []) (sym is);
    },
  )

  both-right : (first line : List ℕ) → first ≡ version_line version → line ≡ limit_line limit → AreRight setup (first ∷ line ∷ [])
  both-right first line is also = (
    codes "stop" ∷ [],
    record {
      version = version;
      has_setup = has;
      limit = limit;
      is_limit = is_limit;
      events = [];
      steps = tt;
      has_events = tt;
      is = ap (λ l. l ∷ limit_line limit ∷ codes "stop" ∷ []) (sym is) ∙ ap (λ l. first ∷ l ∷ codes "stop" ∷ []) (sym also);
    },
  )

  -- a text that begins with a head has no wrong line in front of that head's end
  no-wrong : (text tail behind : List ℕ) → text ≡ version_line version ++ 10 ∷ (limit_line limit ++ 10 ∷ tail) → (before : List (List ℕ)) → AllByRecursion HasNoLf before
      → text ≡ joined before ++ behind → IsWrong setup before behind → length before ≤ 1 → ⊥
  no-wrong text tail behind is [] whole cut (inl none) le = has-lf (version_line version) (limit_line limit ++ 10 ∷ tail) (subst (HasNo 10) (sym cut ∙ is) none.0)
  no-wrong text tail behind is [] whole cut (inr t) le =
      t.4 (first-right t.0 (same_line t.0 (version_line version) t.1 (limit_line limit ++ 10 ∷ tail) t.2 (head-plain version limit is_limit).0 (sym t.3 ∙ sym cut ∙ is)).0)
  no-wrong text tail behind is (b ∷ []) whole cut how le =
      let same : (b ≡ version_line version) × (behind ≡ limit_line limit ++ 10 ∷ tail) =
      same_line b (version_line version) behind (limit_line limit ++ 10 ∷ tail) whole.0 (head-plain version limit is_limit).0 (sym (cut ∙ regroup b [] behind) ∙ is) in
      go same.0 same.1 how
    where
      go : b ≡ version_line version → behind ≡ limit_line limit ++ 10 ∷ tail → IsWrong setup (b ∷ []) behind → ⊥
      go first rest (inl none) = has-lf (limit_line limit) tail (subst (HasNo 10) rest none.0)
      go first rest (inr t) =
          t.4 (both-right b t.0 first (same_line t.0 (limit_line limit) t.1 tail t.2 (head-plain version limit is_limit).1.0 (sym t.3 ∙ rest)).0)
  no-wrong text tail behind is (b ∷ d ∷ before) whole cut how le = absurd (omega (arith, le))

pub no-journal : (setup : Setup) (text : List ℕ) (number : ℕ) → FirstWrong setup text number → number ≤ 2 → (journal : Journal) → IsRecovered setup text journal → ⊥
no-journal setup text number wrong low journal recovered =
    no-wrong setup journal.version recovered.history.has_setup journal.limit recovered.history.is_limit text (joined (lines_of_events setup journal) ++ recovered.rest) wrong.behind
    (recovered.split ∙ parts setup journal recovered.rest) wrong.before wrong.whole wrong.split wrong.wrong (omega (arith, wrong.is, low))
