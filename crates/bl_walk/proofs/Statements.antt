-- Statements that were walked, one behind the other, and each that has no body.
use Rattle.std.proofs.Common.{ℕ, ◌≤◌, Bool, List, [], ◌∷◌, ◌++◌, length, refl, sym, ap, ◌∙◌, append_assoc, arith, length-append}
use Rattle.std.proofs.lemmas.List.{append-nil}
use Rattle.bl_name.specs.declared.token.Keyword.{Keyword}
use Rattle.bl_name.specs.declared.token.Keyword.TheVariants.{Show, Say, Add, Set, Copy, Pour, To}
use Rattle.bl_name.specs.declared.token.Sign.TheVariants.{Semicolon}
use Rattle.bl_level.specs.Token.{reserved, name, text, sign}
use Rattle.bl_policy.specs.declared.access.Access.{Access}
use Rattle.bl_policy.specs.declared.access.Mode.{Mode}
use Rattle.bl_work.specs.Body.{statements_of}
use Rattle.bl_work.specs.Building.{IsBuilt}
use Rattle.bl_work.specs.Modes.{observes, alters, is_write}
use Rattle.bl_work.specs.Names.{KnownNames}
use Rattle.bl_work.specs.Script.{most_behaviours}
use Rattle.bl_work.specs.Spelled as spelled
use Rattle.bl_work.specs.Spelled.{SpelledBody, spell_body}
use Rattle.bl_work.specs.Statements as statement
use Rattle.bl_work.specs.Statements.{Part}
use Rattle.bl_work.specs.declared.script.Stmt.{Stmt}
use Rattle.bl_work.specs.declared.script.Stmt.TheVariants as made
use Rattle.bl_walk.specs.Placed.{name_at, TakesDeclared}
use Rattle.bl_walk.specs.Takes.{Takes}
use Rattle.bl_walk.specs.Walked.{Walked, WalkedStatement}
use Rattle.bl_walk.proofs.Placings.{document_placed}
use Rattle.bl_walk.proofs.Faultless.{IsUsed, plain_show, plain_say, plain_add, plain_set, plain_copy, plain_pour}
use Rattle.bl_walk.proofs.Takings.{takes_then, takes_less}

module _ (names : KnownNames) (accesses : List Access) (depth : ℕ) where
  -- no statement yet
  pub walked_none : (bytes : List ℕ) (old : List Part) → length old ≤ most_behaviours → Walked names accesses depth bytes bytes old old []
  walked_none bytes old few = record {
    before = λ more. more;
    takes = λ more end t. t;
    plain = λ more p. p;
    statements = λ more later e. e;
    behaviours = λ more. refl;
    few = few;
    less = omega arith;
  }

  -- these, and those behind them
  pub walked_more : (bytes mid rest : List ℕ) (old between new : List Part) (xs ys : List Stmt) → Walked names accesses depth bytes mid old between xs
      → Walked names accesses depth mid rest between new ys → Walked names accesses depth bytes rest old new (xs ++ ys)
  walked_more bytes mid rest old between new xs ys first second = record {
    before = λ more. first.before (second.before more);
    takes = λ more end t. first.takes (second.before more) end (second.takes more end t);
    plain = λ more p. first.plain (second.before more) (second.plain more p);
    statements = λ more later e. ap statements_of (append_assoc xs ys later) ∙ first.statements (second.before more) (ys ++ later) (second.statements more later e);
    behaviours = λ more. second.behaviours more ∙ first.behaviours (second.before more);
    few = second.few;
    less = omega (arith, first.less, second.less, length-append xs ys);
  }

  -- what was built of them alone
  pub walked_built : (bytes rest : List ℕ) (old new : List Part) (xs : List Stmt) (w : Walked names accesses depth bytes rest old new xs)
      → IsBuilt names (w.before spelled.empty) old new (statements_of xs)
  walked_built bytes rest old new xs w = record {
    statements = ap statements_of (sym (append-nil xs)) ∙ w.statements spelled.empty [] refl;
    behaviours = sym (append-nil new) ∙ w.behaviours spelled.empty;
  }

  used_by : (test : Mode → Bool) (bytes rest : List ℕ) (doc : ℕ) → TakesDeclared names accesses test bytes rest doc → IsUsed names accesses test doc
  used_by test bytes rest doc t = record { placed = t.placed; declared = t.declared }

  pub walked_show : (bytes rest : List ℕ) (old : List Part) (doc : ℕ) → length old ≤ most_behaviours → TakesDeclared names accesses observes bytes rest doc
      → WalkedStatement names accesses depth Show bytes rest old old (made.Show doc)
  walked_show bytes rest old doc few u from behind begins ends = record {
    before = λ more. spelled.show (name_at names doc) more;
    takes = λ more end t.
        takes_then (reserved Show) (name (name_at names doc) ∷ sign Semicolon ∷ spell_body more) from bytes end begins
        (takes_then (name (name_at names doc)) (sign Semicolon ∷ spell_body more) bytes rest end u.takes (takes_then (sign Semicolon) (spell_body more) rest behind end ends t));
    plain = λ more p. plain_show names accesses depth doc more (used_by observes bytes rest doc u) p;
    statements = λ more later e. λ i. statement.Show (document_placed names doc u.placed i) (e i);
    behaviours = λ more. refl;
    few = few;
    less = omega (arith, takes_less (reserved Show) [] from bytes begins, takes_less (name (name_at names doc)) [] bytes rest u.takes, takes_less (sign Semicolon) [] rest behind ends);
  }

  pub walked_say : (bytes rest : List ℕ) (old : List Part) (words : List ℕ) → length old ≤ most_behaviours → Takes bytes (text words ∷ []) rest
      → WalkedStatement names accesses depth Say bytes rest old old (made.Say words)
  walked_say bytes rest old words few u from behind begins ends = record {
    before = λ more. spelled.say words more;
    takes = λ more end t.
        takes_then (reserved Say) (text words ∷ sign Semicolon ∷ spell_body more) from bytes end begins
        (takes_then (text words) (sign Semicolon ∷ spell_body more) bytes rest end u (takes_then (sign Semicolon) (spell_body more) rest behind end ends t));
    plain = λ more p. plain_say names accesses depth words more p;
    statements = λ more later e. ap (statement.Say words) e;
    behaviours = λ more. refl;
    few = few;
    less = omega (arith, takes_less (reserved Say) [] from bytes begins, takes_less (text words) [] bytes rest u, takes_less (sign Semicolon) [] rest behind ends);
  }

  pub walked_add : (bytes mid rest : List ℕ) (old : List Part) (doc : ℕ) (words : List ℕ) → length old ≤ most_behaviours → TakesDeclared names accesses alters bytes mid doc
      → Takes mid (text words ∷ []) rest → WalkedStatement names accesses depth Add bytes rest old old (made.Add doc words)
  walked_add bytes mid rest old doc words few u v from behind begins ends = record {
    before = λ more. spelled.add (name_at names doc) words more;
    takes = λ more end t.
        takes_then (reserved Add) (name (name_at names doc) ∷ text words ∷ sign Semicolon ∷ spell_body more) from bytes end begins
        (takes_then (name (name_at names doc)) (text words ∷ sign Semicolon ∷ spell_body more) bytes mid end u.takes
        (takes_then (text words) (sign Semicolon ∷ spell_body more) mid rest end v (takes_then (sign Semicolon) (spell_body more) rest behind end ends t)));
    plain = λ more p. plain_add names accesses depth doc words more (used_by alters bytes mid doc u) p;
    statements = λ more later e. λ i. statement.Add (document_placed names doc u.placed i) words (e i);
    behaviours = λ more. refl;
    few = few;
    less = omega (arith, takes_less (reserved Add) [] from bytes begins, takes_less (name (name_at names doc)) [] bytes mid u.takes, takes_less (text words) [] mid rest v, takes_less (sign Semicolon) [] rest behind ends);
  }

  pub walked_set : (bytes mid rest : List ℕ) (old : List Part) (doc : ℕ) (words : List ℕ) → length old ≤ most_behaviours → TakesDeclared names accesses is_write bytes mid doc
      → Takes mid (text words ∷ []) rest → WalkedStatement names accesses depth Set bytes rest old old (made.Set doc words)
  walked_set bytes mid rest old doc words few u v from behind begins ends = record {
    before = λ more. spelled.set (name_at names doc) words more;
    takes = λ more end t.
        takes_then (reserved Set) (name (name_at names doc) ∷ text words ∷ sign Semicolon ∷ spell_body more) from bytes end begins
        (takes_then (name (name_at names doc)) (text words ∷ sign Semicolon ∷ spell_body more) bytes mid end u.takes
        (takes_then (text words) (sign Semicolon ∷ spell_body more) mid rest end v (takes_then (sign Semicolon) (spell_body more) rest behind end ends t)));
    plain = λ more p. plain_set names accesses depth doc words more (used_by is_write bytes mid doc u) p;
    statements = λ more later e. λ i. statement.Set (document_placed names doc u.placed i) words (e i);
    behaviours = λ more. refl;
    few = few;
    less = omega (arith, takes_less (reserved Set) [] from bytes begins, takes_less (name (name_at names doc)) [] bytes mid u.takes, takes_less (text words) [] mid rest v, takes_less (sign Semicolon) [] rest behind ends);
  }

  -- the tokens of a statement of two documents
  two_taken : (start : Keyword) (test : Mode → Bool) (from bytes mid between rest behind end : List ℕ) (doc to : ℕ) (more : SpelledBody) → Takes from (reserved start ∷ []) bytes
      → TakesDeclared names accesses observes bytes mid doc → Takes mid (reserved To ∷ []) between → TakesDeclared names accesses test between rest to
      → Takes rest (sign Semicolon ∷ []) behind → Takes behind (spell_body more) end
      → Takes from (reserved start ∷ name (name_at names doc) ∷ reserved To ∷ name (name_at names to) ∷ sign Semicolon ∷ spell_body more) end
  two_taken start test from bytes mid between rest behind end doc to more begins u k v ends t =
      takes_then (reserved start) (name (name_at names doc) ∷ reserved To ∷ name (name_at names to) ∷ sign Semicolon ∷ spell_body more) from bytes end begins
      (takes_then (name (name_at names doc)) (reserved To ∷ name (name_at names to) ∷ sign Semicolon ∷ spell_body more) bytes mid end u.takes
      (takes_then (reserved To) (name (name_at names to) ∷ sign Semicolon ∷ spell_body more) mid between end k
      (takes_then (name (name_at names to)) (sign Semicolon ∷ spell_body more) between rest end v.takes
      (takes_then (sign Semicolon) (spell_body more) rest behind end ends t))))

  pub walked_copy : (bytes mid between rest : List ℕ) (old : List Part) (doc to : ℕ) → length old ≤ most_behaviours → TakesDeclared names accesses observes bytes mid doc
      → Takes mid (reserved To ∷ []) between → TakesDeclared names accesses is_write between rest to → WalkedStatement names accesses depth Copy bytes rest old old (made.Copy doc to)
  walked_copy bytes mid between rest old doc to few u k v from behind begins ends = record {
    before = λ more. spelled.copy (name_at names doc) (name_at names to) more;
    takes = λ more end t. two_taken Copy is_write from bytes mid between rest behind end doc to more begins u k v ends t;
    plain = λ more p. plain_copy names accesses depth doc to more (used_by observes bytes mid doc u) (used_by is_write between rest to v) p;
    statements = λ more later e. λ i. statement.Copy (document_placed names doc u.placed i) (document_placed names to v.placed i) (e i);
    behaviours = λ more. refl;
    few = few;
    less = omega (arith, takes_less (reserved Copy) [] from bytes begins, takes_less (name (name_at names doc)) [] bytes mid u.takes, takes_less (reserved To) [] mid between k, takes_less (name (name_at names to)) [] between rest v.takes, takes_less (sign Semicolon) [] rest behind ends);
  }

  pub walked_pour : (bytes mid between rest : List ℕ) (old : List Part) (doc to : ℕ) → length old ≤ most_behaviours → TakesDeclared names accesses observes bytes mid doc
      → Takes mid (reserved To ∷ []) between → TakesDeclared names accesses alters between rest to → WalkedStatement names accesses depth Pour bytes rest old old (made.Pour doc to)
  walked_pour bytes mid between rest old doc to few u k v from behind begins ends = record {
    before = λ more. spelled.pour (name_at names doc) (name_at names to) more;
    takes = λ more end t. two_taken Pour alters from bytes mid between rest behind end doc to more begins u k v ends t;
    plain = λ more p. plain_pour names accesses depth doc to more (used_by observes bytes mid doc u) (used_by alters between rest to v) p;
    statements = λ more later e. λ i. statement.Pour (document_placed names doc u.placed i) (document_placed names to v.placed i) (e i);
    behaviours = λ more. refl;
    few = few;
    less = omega (arith, takes_less (reserved Pour) [] from bytes begins, takes_less (name (name_at names doc)) [] bytes mid u.takes, takes_less (reserved To) [] mid between k, takes_less (name (name_at names to)) [] between rest v.takes, takes_less (sign Semicolon) [] rest behind ends);
  }
