-- Statements with bodies that were walked, a whole `when`, and the line that it is.
use Rattle.std.proofs.Common.{◌≡◌, ◌≢◌, ℕ, ◌+◌, ◌<◌, ◌≤◌, List, [], ◌∷◌, ◌++◌, length, set, map, refl, sym, ap, ◌∙◌, subst, arith, append_assoc, length-append}
use Rattle.std.specs.Prelude.{All, AllPairs, Contains}
use Rattle.std.proofs.lemmas.List.{length-map}
use Rattle.std.proofs.lemmas.List.Elements.{All-cons, All-append}
use Rattle.bl_name.specs.declared.token.Keyword.TheVariants.{When, Do, End, If, Then, Else, Spawn}
use Rattle.bl_name.specs.declared.token.Sign.TheVariants.{Semicolon}
use Rattle.bl_level.specs.Lexing.{past_blanks}
use Rattle.bl_level.specs.Token.{Tok, reserved, name, text, sign}
use Rattle.bl_policy.specs.declared.access.Access.{Access}
use Rattle.bl_work.specs.Body.{statements_of}
use Rattle.bl_work.specs.Building.{when_from, IsBuilt}
use Rattle.bl_work.specs.FirstWhenFault.{HasFewAccesses}
use Rattle.bl_work.specs.Grammar.{when}
use Rattle.bl_work.specs.LineGrammar.{LineOf, most_line_bytes}
use Rattle.bl_work.specs.Meaning.{whens, document_of, access_of, numbered, spawned_from}
use Rattle.bl_work.specs.Modes.{observes}
use Rattle.bl_work.specs.Names.{KnownNames}
use Rattle.bl_work.specs.Script.{most_depth}
use Rattle.bl_work.specs.Spelled as spelled
use Rattle.bl_work.specs.Spelled.{SpelledAccess, SpelledBody, mode_word, asks_word, spell_access, spell_more, spell_body}
use Rattle.bl_work.specs.Statements as statement
use Rattle.bl_work.specs.Statements.{Statements, Part}
use Rattle.bl_work.specs.WhenFaults.{lists_in, documents_in, names_in, declarations_behind, declarations_in, IsOnce}
use Rattle.bl_work.specs.declared.asked.Line.TheVariants as line
use Rattle.bl_work.specs.declared.work.Work.TheVariants.{Behaviour}
use Rattle.bl_work.specs.declared.script.Stmt.{Stmt}
use Rattle.bl_work.specs.declared.script.Stmt.TheVariants as made
use Rattle.bl_work.proofs.Numbering.{spawned_long}
use Rattle.bl_walk.specs.declared.plain.Test.{Test}
use Rattle.bl_walk.specs.Placed.{name_at, spelled_access, spelled_accesses, spell_accesses, IsOfDocument, TakesAccesses, TakesDeclared}
use Rattle.bl_walk.specs.Spawned.{with_outermost}
use Rattle.bl_walk.specs.Takes.{Takes}
use Rattle.bl_walk.specs.Walked.{IsPlain, Walked, WalkedStatement, WalkedBody, WalkedWhen, TakesTest}
use Rattle.bl_walk.proofs.Built.{put, put_built, built_long, built_spawned, built_script}
use Rattle.bl_walk.proofs.Placings.{more_then, accesses_placed, documents_known, accesses_once, document_placed}
use Rattle.bl_walk.proofs.Faultless.{IsUsed, plain_empty, plain_if_then, plain_if_else, plain_spawn}
use Rattle.bl_walk.proofs.Statements.{walked_built}
use Rattle.bl_walk.proofs.Takings.{takes_join, takes_then, takes_begins, takes_less, takes_within}

module _ (names : KnownNames) where
  -- the behaviours of what stands behind a body stand behind those of the body
  behind_body : (t : SpelledBody) (old new : List Part) (y : Statements) (more : SpelledBody) → IsBuilt names t old new y
      → new ++ spawned_from names (length new) more ≡ old ++ (spawned_from names (length old) t ++ spawned_from names (length old + whens t) more)
  behind_body t old new y more b =
      ap (λ n. new ++ spawned_from names n more) (built_long names t old new y b)
      ∙ ap (λ l. l ++ spawned_from names (length old + whens t) more) b.behaviours
      ∙ append_assoc old (spawned_from names (length old) t) (spawned_from names (length old + whens t) more)

  accesses_then : (first : SpelledAccess) (more : List SpelledAccess) (ts : List Tok) (b m r : List ℕ) → Takes b (spell_access first (spell_more more [])) m → Takes m ts r
      → Takes b (spell_access first (spell_more more ts)) r
  accesses_then first more ts b m r h k =
      subst (λ l. Takes b (spell_access first l) r) (sym (more_then more ts)) (takes_join (spell_access first (spell_more more [])) ts b m r h k)

  -- the tokens of a body up to its end, and then these
  body_then : (body : SpelledBody) (ts : List Tok) (b m r : List ℕ) → Takes b (spell_body body ++ reserved End ∷ []) m → Takes m ts r
      → Takes b (spell_body body ++ reserved End ∷ ts) r
  body_then body ts b m r h k =
      subst (λ l. Takes b l r) (append_assoc (spell_body body) (reserved End ∷ []) ts) (takes_join (spell_body body ++ reserved End ∷ []) ts b m r h k)

  module _ (accesses : List Access) (depth : ℕ) where
    used_in : (bytes mid : List ℕ) (doc : ℕ) → TakesDeclared names accesses observes bytes mid doc → IsUsed names accesses observes doc
    used_in bytes mid doc t = record { placed = t.placed; declared = t.declared }

    -- a body that was walked is one with nothing wrong
    pub body_plain : (bytes rest : List ℕ) (old new : List Part) (xs : List Stmt) → depth ≤ most_depth → (w : Walked names accesses depth bytes rest old new xs)
        → IsPlain names (spelled_accesses names accesses) depth (w.before spelled.empty)
    body_plain bytes rest old new xs shallow w = w.plain spelled.empty (plain_empty names accesses depth shallow)

    -- the tokens of an `if` up to its first body
    test_taken : (from bytes mid end : List ℕ) (test : Test) (ts : List Tok) → Takes from (reserved If ∷ []) bytes → TakesTest names accesses bytes mid test
        → Takes mid ts end
        → Takes from (reserved If ∷ name (name_at names test.doc) ∷ reserved (asks_word test.test) ∷ text test.text ∷ reserved Then ∷ ts) end
    test_taken from bytes mid end test ts begins t later =
        takes_then (reserved If) (name (name_at names test.doc) ∷ reserved (asks_word test.test) ∷ text test.text ∷ reserved Then ∷ ts) from bytes end begins
        (takes_then (name (name_at names test.doc)) (reserved (asks_word test.test) ∷ text test.text ∷ reserved Then ∷ ts) bytes t.mid end t.document.takes
        (takes_join (reserved (asks_word test.test) ∷ text test.text ∷ reserved Then ∷ []) ts t.mid mid end t.takes later))

  module _ (accesses : List Access) (depth : ℕ) (shallow : depth < most_depth) where
    -- an `if` without an `else`
    pub walked_if_then : (bytes mid rest : List ℕ) (old new : List Part) (test : Test) (xs : List Stmt) (s : Stmt) → TakesTest names accesses bytes mid test
        → WalkedBody names accesses (depth + 1) End mid rest old new xs
        → statements_of (s ∷ []) ≡ statement.If test.doc test.test test.text (statements_of xs) statement.Nothing statement.Nothing
        → WalkedStatement names accesses depth If bytes rest old new s
    walked_if_then bytes mid rest old new test xs s t body is from behind begins ends =
        let w = body.walked in
        let then_body = w.before spelled.empty in
        let built : IsBuilt names then_body old new (statements_of xs) = walked_built names accesses (depth + 1) mid body.mid old new xs w in
        record {
          before = λ more. spelled.if_then (name_at names test.doc) test.test test.text then_body more;
          takes = λ more end later.
              test_taken accesses depth from bytes mid end test (spell_body then_body ++ reserved End ∷ sign Semicolon ∷ spell_body more) begins t
              (takes_join (spell_body then_body) (reserved End ∷ sign Semicolon ∷ spell_body more) mid body.mid end (w.takes spelled.empty body.mid refl)
              (takes_then (reserved End) (sign Semicolon ∷ spell_body more) body.mid rest end body.ends (takes_then (sign Semicolon) (spell_body more) rest behind end ends later)));
          plain = λ more p.
              plain_if_then names accesses depth test.doc test.test test.text then_body more (used_in accesses depth bytes t.mid test.doc t.document)
              (body_plain accesses (depth + 1) mid body.mid old new xs (omega (arith, shallow)) w) p;
          statements = λ more later e.
              put_built s later ∙ ap (λ x. put x (statements_of later)) is
              ∙ (λ i. statement.If (document_placed names test.doc t.document.placed i) test.test test.text (built.statements i) statement.Nothing (e i))
              ∙ ap (λ n. statement.If (document_of names (name_at names test.doc)) test.test test.text (numbered names (length old) then_body) statement.Nothing (numbered names n more))
              (built_long names then_body old new (statements_of xs) built);
          behaviours = λ more. behind_body then_body old new (statements_of xs) more built;
          few = w.few;
          less = omega (arith, takes_less (reserved If) [] from bytes begins, takes_less (name (name_at names test.doc)) [] bytes t.mid t.document.takes, takes_within (reserved (asks_word test.test) ∷ text test.text ∷ reserved Then ∷ []) t.mid mid t.takes, w.less, takes_less (reserved End) [] body.mid rest body.ends, takes_less (sign Semicolon) [] rest behind ends);
        }

    -- an `if` with an `else`
    pub walked_if_else : (bytes mid between rest : List ℕ) (old half new : List Part) (test : Test) (xs ys : List Stmt) (s : Stmt) → TakesTest names accesses bytes mid test
        → WalkedBody names accesses (depth + 1) Else mid between old half xs → WalkedBody names accesses (depth + 1) End between rest half new ys
        → statements_of (s ∷ []) ≡ statement.If test.doc test.test test.text (statements_of xs) (statements_of ys) statement.Nothing
        → WalkedStatement names accesses depth If bytes rest old new s
    walked_if_else bytes mid between rest old half new test xs ys s t body other is from behind begins ends =
        let w = body.walked in
        let v = other.walked in
        let then_body = w.before spelled.empty in
        let else_body = v.before spelled.empty in
        let first : IsBuilt names then_body old half (statements_of xs) = walked_built names accesses (depth + 1) mid body.mid old half xs w in
        let second : IsBuilt names else_body half new (statements_of ys) = walked_built names accesses (depth + 1) between other.mid half new ys v in
        let long : length half ≡ length old + whens then_body = built_long names then_body old half (statements_of xs) first in
        let longer : length new ≡ length half + whens else_body = built_long names else_body half new (statements_of ys) second in
        record {
          before = λ more. spelled.if_else (name_at names test.doc) test.test test.text then_body else_body more;
          takes = λ more end later.
              let close = reserved End ∷ sign Semicolon ∷ spell_body more in
              test_taken accesses depth from bytes mid end test (spell_body then_body ++ reserved Else ∷ (spell_body else_body ++ close)) begins t
              (takes_join (spell_body then_body) (reserved Else ∷ (spell_body else_body ++ close)) mid body.mid end (w.takes spelled.empty body.mid refl)
              (takes_then (reserved Else) (spell_body else_body ++ close) body.mid between end body.ends
              (takes_join (spell_body else_body) close between other.mid end (v.takes spelled.empty other.mid refl)
              (takes_then (reserved End) (sign Semicolon ∷ spell_body more) other.mid rest end other.ends (takes_then (sign Semicolon) (spell_body more) rest behind end ends later)))));
          plain = λ more p.
              plain_if_else names accesses depth test.doc test.test test.text then_body else_body more (used_in accesses depth bytes t.mid test.doc t.document)
              (body_plain accesses (depth + 1) mid body.mid old half xs (omega (arith, shallow)) w) (body_plain accesses (depth + 1) between other.mid half new ys (omega (arith, shallow)) v) p;
          statements = λ more later e.
              put_built s later ∙ ap (λ x. put x (statements_of later)) is
              ∙ (λ i. statement.If (document_placed names test.doc t.document.placed i) test.test test.text (first.statements i)
              ((second.statements ∙ ap (λ n. numbered names n else_body) long) i)
              ((e ∙ ap (λ n. numbered names n more) (longer ∙ ap (λ n. n + whens else_body) long)) i));
          behaviours = λ more.
              behind_body else_body half new (statements_of ys) more second
              ∙ (λ i. half ++ (spawned_from names (long i) else_body ++ spawned_from names (long i + whens else_body) more))
              ∙ ap (λ l. l ++ (spawned_from names (length old + whens then_body) else_body ++ spawned_from names (length old + whens then_body + whens else_body) more)) first.behaviours
              ∙ append_assoc old (spawned_from names (length old) then_body)
              (spawned_from names (length old + whens then_body) else_body ++ spawned_from names (length old + whens then_body + whens else_body) more);
          few = v.few;
          less = omega (arith, takes_less (reserved If) [] from bytes begins, takes_less (name (name_at names test.doc)) [] bytes t.mid t.document.takes, takes_within (reserved (asks_word test.test) ∷ text test.text ∷ reserved Then ∷ []) t.mid mid t.takes, w.less, takes_less (reserved Else) [] body.mid between body.ends, v.less, takes_less (reserved End) [] other.mid rest other.ends, takes_less (sign Semicolon) [] rest behind ends);
        }

    -- the behaviours of what stands behind a spawned `when`
    behind_spawn : (first : SpelledAccess) (others : List SpelledAccess) (b : SpelledBody) (old new : List Part) (more : SpelledBody) → new ≡ old ++ when_from names (length old) first others b
        → (length new ≡ length old + 1 + whens b)
        × (new ++ spawned_from names (length old + 1 + whens b) more
        ≡ old ++ (record { accesses = map (access_of names) (first ∷ others); body = numbered names (length old + 1) b }
        ∷ (spawned_from names (length old + 1) b ++ spawned_from names (length old + 1 + whens b) more)))
    behind_spawn first others b old new more is =
        let n = length old in (
          omega (arith, ap length is, length-append old (when_from names n first others b), spawned_long names b (n + 1)),
          ap (λ l. l ++ spawned_from names (n + 1 + whens b) more) is ∙ append_assoc old (when_from names n first others b) (spawned_from names (n + 1 + whens b) more),
        )

    -- a spawned `when`, whose place was taken first
    pub walked_spawn : (bytes inner rest : List ℕ) (old pushed mid new : List Part) (place : ℕ) (unbuilt part : Part)
        → Takes bytes (reserved When ∷ []) inner → place ≡ length old → pushed ≡ old ++ unbuilt ∷ []
        → WalkedWhen names (depth + 1) inner rest (with_outermost pushed) (with_outermost mid) part → new ≡ set mid place part → length new ≡ length mid
        → WalkedStatement names accesses depth Spawn bytes rest (with_outermost old) (with_outermost new) (made.Spawn (1 + place))
    walked_spawn bytes inner rest old pushed mid new place unbuilt part key at push w put_there same from behind begins ends = go part.accesses refl
      where
        go : (list : List Access) → part.accesses ≡ list → Walked names accesses depth from behind (with_outermost old) (with_outermost new) (made.Spawn (1 + place) ∷ [])
        go [] e = absurd (omega (arith, w.accesses.some, ap length e))
        go (a ∷ others) e =
            let first = spelled_access names a in
            let more_accesses = spelled_accesses names others in
            let placed : All (IsOfDocument names) (a ∷ others) = subst (All (IsOfDocument names)) e w.accesses.placed in
            let b = w.body in
            let built = built_spawned names first more_accesses b old pushed mid new unbuilt part part.accesses part.body place at push refl
            (e ∙ accesses_placed names (a ∷ others) placed) w.built put_there in
            let n = length (with_outermost old) in
            let sizes = (behind_spawn first more_accesses b (with_outermost old) (with_outermost new) spelled.empty built).0 in
            let number : 1 + place ≡ n = omega (arith, at) in
            let plain : IsPlain names (first ∷ more_accesses) (depth + 1) b = subst (λ l. IsPlain names (spelled_accesses names l) (depth + 1) b) e w.plain in
            let short : HasFewAccesses (first ∷ more_accesses) = omega (arith, w.accesses.few, ap length e, length-map others (spelled_access names)) in
            let listed = subst (λ l. Takes inner (spell_accesses (spelled_accesses names l) []) w.mid) e w.accesses.takes in
            record {
              before = λ more. spelled.spawn first more_accesses b more;
              takes = λ more end later.
                  let close = reserved Do ∷ (spell_body b ++ reserved End ∷ sign Semicolon ∷ spell_body more) in
                  takes_then (reserved Spawn) (reserved When ∷ spell_access first (spell_more more_accesses close)) from bytes end begins
                  (takes_then (reserved When) (spell_access first (spell_more more_accesses close)) bytes inner end key
                  (accesses_then first more_accesses close inner w.mid end listed
                  (takes_then (reserved Do) (spell_body b ++ reserved End ∷ sign Semicolon ∷ spell_body more) w.mid w.inner end w.begins
                  (body_then b (sign Semicolon ∷ spell_body more) w.inner rest end w.takes (takes_then (sign Semicolon) (spell_body more) rest behind end ends later)))));
              plain = λ more p.
                  plain_spawn names accesses depth first more_accesses b more short (documents_known names (a ∷ others) placed)
                  (accesses_once names (a ∷ others) placed (subst (λ (l : List Access). AllPairs (λ (x y : Access). x.doc ≢ y.doc) l) e w.accesses.apart)) plain p;
              statements = λ more later e. (λ i. statement.Spawn (number i) ((e ∙ ap (λ k. numbered names k more) sizes) i));
              behaviours = λ more.
                  ap (λ k. with_outermost new ++ spawned_from names k more) sizes
                  ∙ (behind_spawn first more_accesses b (with_outermost old) (with_outermost new) more built).1;
              few = omega (arith, w.few, same);
              less = omega (arith, takes_less (reserved Spawn) [] from bytes begins, takes_less (reserved When) [] bytes inner key, takes_within (spell_accesses (spelled_accesses names part.accesses) []) inner w.mid w.accesses.takes, takes_less (reserved Do) [] w.mid w.inner w.begins, takes_within (spell_body b ++ reserved End ∷ []) w.inner rest w.takes, takes_less (sign Semicolon) [] rest behind ends);
            }

  -- a `when` behind its first word
  pub walked_when : (depth : ℕ) (bytes mid inner rest : List ℕ) (old new : List Part) (accesses : List Access) (xs : List Stmt) (part : Part) → depth ≤ most_depth
      → TakesAccesses names bytes mid accesses → Takes mid (reserved Do ∷ []) inner → WalkedBody names accesses depth End inner rest old new xs
      → part ≡ record { accesses = accesses; body = statements_of xs } → WalkedWhen names depth bytes rest old new part
  walked_when depth bytes mid inner rest old new accesses xs part shallow taken key body is =
      let w = body.walked in
      let whole : WalkedWhen names depth bytes rest old new (record { accesses = accesses; body = statements_of xs }) = record {
        mid = mid;
        inner = inner;
        accesses = taken;
        begins = key;
        body = w.before spelled.empty;
        takes = takes_join (spell_body (w.before spelled.empty)) (reserved End ∷ []) inner body.mid rest (w.takes spelled.empty body.mid refl) body.ends;
        plain = body_plain accesses depth inner body.mid old new xs shallow w;
        built = walked_built names accesses depth inner body.mid old new xs w;
        few = w.few;
      } in
      subst (WalkedWhen names depth bytes rest old new) (sym is) whole

  -- the line that it is
  pub walked_line : (bytes inner rest : List ℕ) (old new : List Part) (part : Part) → length bytes ≤ most_line_bytes → Takes bytes (reserved When ∷ []) inner → old ≡ []
      → WalkedWhen names 1 inner rest (with_outermost old) (with_outermost new) part → past_blanks rest ≡ [] → LineOf names bytes (line.Work (Behaviour (part ∷ new)))
  walked_line bytes inner rest old new part short key none w over = go part.accesses refl
    where
      go : (list : List Access) → part.accesses ≡ list → LineOf names bytes (line.Work (Behaviour (part ∷ new)))
      go [] e = absurd (omega (arith, w.accesses.some, ap length e))
      go (a ∷ others) e =
          let first = spelled_access names a in
          let more = spelled_accesses names others in
          let placed : All (IsOfDocument names) (a ∷ others) = subst (All (IsOfDocument names)) e w.accesses.placed in
          let b = w.body in
          let plain : IsPlain names (first ∷ more) 1 b = subst (λ l. IsPlain names (spelled_accesses names l) 1 b) e w.plain in
          let listed = subst (λ l. Takes inner (spell_accesses (spelled_accesses names l) []) w.mid) e w.accesses.takes in
          let count : length (with_outermost new) ≡ length (with_outermost old) + whens b = built_long names b (with_outermost old) (with_outermost new) part.body w.built in
          record {
            short = short;
            spelled = when first more b;
            reads = takes_begins (reserved When ∷ spell_access first (spell_more more (reserved Do ∷ (spell_body b ++ reserved End ∷ [])))) bytes rest
                (takes_then (reserved When) (spell_access first (spell_more more (reserved Do ∷ (spell_body b ++ reserved End ∷ [])))) bytes inner rest key
                (accesses_then first more (reserved Do ∷ (spell_body b ++ reserved End ∷ [])) inner w.mid rest listed
                (takes_then (reserved Do) (spell_body b ++ reserved End ∷ []) w.mid w.inner rest w.begins w.takes))) over;
            means = (
              record {
                shallow = plain.shallow;
                few = record {
                  whens = omega (arith, w.few, count, ap length none);
                  accesses = All-cons HasFewAccesses (first ∷ more) (lists_in b) (omega (arith, w.accesses.few, ap length e, length-map others (spelled_access names))) plain.few;
                };
                known = All-append (Contains names.documents) (documents_in (first ∷ more)) (names_in b) (documents_known names (a ∷ others) placed) plain.known;
                once = All-append IsOnce (declarations_behind [] (first ∷ more)) (declarations_in b)
                    (accesses_once names (a ∷ others) placed (subst (λ (l : List Access). AllPairs (λ (x y : Access). x.doc ≢ y.doc) l) e w.accesses.apart)) plain.once;
                declared = plain.declares;
              },
              built_script names first more b old new part.accesses part.body part refl (e ∙ accesses_placed names (a ∷ others) placed) none w.built,
            );
          }
