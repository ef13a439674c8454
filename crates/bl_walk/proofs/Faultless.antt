-- A body stays one with nothing wrong where a statement with nothing wrong stands before it.
use Rattle.std.proofs.Common.{◌≡◌, ℕ, ◌+◌, ◌≤◌, true, Bool, List, [], ◌∷◌, ◌++◌, arith}
use Rattle.std.specs.Prelude.{All, Contains}
use Rattle.std.proofs.lemmas.List.Elements.{All-cons, All-nil, All-append}
use Rattle.bl_policy.specs.declared.access.Access.{Access}
use Rattle.bl_policy.specs.declared.access.Mode.{Mode}
use Rattle.bl_work.specs.FirstWhenFault.{HasFewAccesses}
use Rattle.bl_work.specs.Modes.{observes, alters, is_write, declares}
use Rattle.bl_work.specs.Names.{KnownNames}
use Rattle.bl_work.specs.Script.{most_depth}
use Rattle.bl_work.specs.Spelled.{SpelledAccess, SpelledBody, empty, show, say, add, set, copy, pour, if_then, if_else, spawn}
use Rattle.bl_work.specs.WhenFaults.{lists_in, documents_in, names_in, declarations_behind, declarations_in, IsOnce, Usage, uses_in, IsDeclared}
use Rattle.bl_work.specs.declared.script.Condition.{Condition}
use Rattle.bl_walk.specs.Placed.{name_at, IsPlaced, spelled_accesses}
use Rattle.bl_walk.specs.Walked.{IsPlain}
use Rattle.bl_walk.proofs.Placings.{known_placed, use_declared}

module _ (names : KnownNames) (accesses : List Access) where
  abbrev pub spelled : List SpelledAccess
  spelled = spelled_accesses names accesses

  -- a document in a statement
  abbrev used : (Mode → Bool) → ℕ → Usage
  used test doc = record { declared = spelled; asked = test; document = name_at names doc }

  -- the accesses declare the document as is asked
  pub record IsUsed (test : Mode → Bool) (doc : ℕ) : Type 0 where
    pub placed : IsPlaced names doc
    pub declared : declares test accesses doc ≡ true

  module _ (depth : ℕ) where
    pub plain_empty : depth ≤ most_depth → IsPlain names spelled depth empty
    plain_empty shallow = record {
      shallow = omega (arith, shallow);
      few = All-nil HasFewAccesses;
      known = All-nil (Contains names.documents);
      once = All-nil IsOnce;
      declares = All-nil IsDeclared;
    }

    -- one more document that is used, before these
    known_more : (test : Mode → Bool) (doc : ℕ) (more : List (List ℕ)) → IsUsed test doc → All (Contains names.documents) more → All (Contains names.documents) (name_at names doc ∷ more)
    known_more test doc more u p = All-cons (Contains names.documents) (name_at names doc) more (known_placed names doc u.placed) p

    declared_more : (test : Mode → Bool) (doc : ℕ) (more : List Usage) → IsUsed test doc → All IsDeclared more → All IsDeclared (used test doc ∷ more)
    declared_more test doc more u p = All-cons IsDeclared (used test doc) more (use_declared names test accesses doc u.declared) p

    pub plain_show : (doc : ℕ) (more : SpelledBody) → IsUsed observes doc → IsPlain names spelled depth more → IsPlain names spelled depth (show (name_at names doc) more)
    plain_show doc more u p = record {
      shallow = p.shallow;
      few = p.few;
      known = known_more observes doc (names_in more) u p.known;
      once = p.once;
      declares = declared_more observes doc (uses_in spelled more) u p.declares;
    }

    pub plain_say : (words : List ℕ) (more : SpelledBody) → IsPlain names spelled depth more → IsPlain names spelled depth (say words more)
    plain_say words more p = record { shallow = p.shallow; few = p.few; known = p.known; once = p.once; declares = p.declares }

    pub plain_add : (doc : ℕ) (words : List ℕ) (more : SpelledBody) → IsUsed alters doc → IsPlain names spelled depth more
        → IsPlain names spelled depth (add (name_at names doc) words more)
    plain_add doc words more u p = record {
      shallow = p.shallow;
      few = p.few;
      known = known_more alters doc (names_in more) u p.known;
      once = p.once;
      declares = declared_more alters doc (uses_in spelled more) u p.declares;
    }

    pub plain_set : (doc : ℕ) (words : List ℕ) (more : SpelledBody) → IsUsed is_write doc → IsPlain names spelled depth more
        → IsPlain names spelled depth (set (name_at names doc) words more)
    plain_set doc words more u p = record {
      shallow = p.shallow;
      few = p.few;
      known = known_more is_write doc (names_in more) u p.known;
      once = p.once;
      declares = declared_more is_write doc (uses_in spelled more) u p.declares;
    }

    pub plain_copy : (from to : ℕ) (more : SpelledBody) → IsUsed observes from → IsUsed is_write to → IsPlain names spelled depth more
        → IsPlain names spelled depth (copy (name_at names from) (name_at names to) more)
    plain_copy from to more u v p = record {
      shallow = p.shallow;
      few = p.few;
      known = known_more observes from (name_at names to ∷ names_in more) u (known_more is_write to (names_in more) v p.known);
      once = p.once;
      declares = declared_more observes from (used is_write to ∷ uses_in spelled more) u (declared_more is_write to (uses_in spelled more) v p.declares);
    }

    pub plain_pour : (from to : ℕ) (more : SpelledBody) → IsUsed observes from → IsUsed alters to → IsPlain names spelled depth more
        → IsPlain names spelled depth (pour (name_at names from) (name_at names to) more)
    plain_pour from to more u v p = record {
      shallow = p.shallow;
      few = p.few;
      known = known_more observes from (name_at names to ∷ names_in more) u (known_more alters to (names_in more) v p.known);
      once = p.once;
      declares = declared_more observes from (used alters to ∷ uses_in spelled more) u (declared_more alters to (uses_in spelled more) v p.declares);
    }

    pub plain_if_then : (doc : ℕ) (asks : Condition) (words : List ℕ) (t more : SpelledBody) → IsUsed observes doc → IsPlain names spelled (depth + 1) t
        → IsPlain names spelled depth more → IsPlain names spelled depth (if_then (name_at names doc) asks words t more)
    plain_if_then doc asks words t more u q p = record {
      shallow = omega (arith, q.shallow, p.shallow);
      few = All-append HasFewAccesses (lists_in t) (lists_in more) q.few p.few;
      known = known_more observes doc (names_in t ++ names_in more) u (All-append (Contains names.documents) (names_in t) (names_in more) q.known p.known);
      once = All-append IsOnce (declarations_in t) (declarations_in more) q.once p.once;
      declares = declared_more observes doc (uses_in spelled t ++ uses_in spelled more) u (All-append IsDeclared (uses_in spelled t) (uses_in spelled more) q.declares p.declares);
    }

    pub plain_if_else : (doc : ℕ) (asks : Condition) (words : List ℕ) (t e more : SpelledBody) → IsUsed observes doc → IsPlain names spelled (depth + 1) t
        → IsPlain names spelled (depth + 1) e → IsPlain names spelled depth more → IsPlain names spelled depth (if_else (name_at names doc) asks words t e more)
    plain_if_else doc asks words t e more u q r p = record {
      shallow = omega (arith, q.shallow, r.shallow, p.shallow);
      few = All-append HasFewAccesses (lists_in t) (lists_in e ++ lists_in more) q.few (All-append HasFewAccesses (lists_in e) (lists_in more) r.few p.few);
      known = known_more observes doc (names_in t ++ (names_in e ++ names_in more)) u
          (All-append (Contains names.documents) (names_in t) (names_in e ++ names_in more) q.known (All-append (Contains names.documents) (names_in e) (names_in more) r.known p.known));
      once = All-append IsOnce (declarations_in t) (declarations_in e ++ declarations_in more) q.once (All-append IsOnce (declarations_in e) (declarations_in more) r.once p.once);
      declares = declared_more observes doc (uses_in spelled t ++ (uses_in spelled e ++ uses_in spelled more)) u
          (All-append IsDeclared (uses_in spelled t) (uses_in spelled e ++ uses_in spelled more) q.declares
          (All-append IsDeclared (uses_in spelled e) (uses_in spelled more) r.declares p.declares));
    }

    pub plain_spawn : (first : SpelledAccess) (others : List SpelledAccess) (b more : SpelledBody) → HasFewAccesses (first ∷ others)
        → All (Contains names.documents) (documents_in (first ∷ others)) → All IsOnce (declarations_behind [] (first ∷ others))
        → IsPlain names (first ∷ others) (depth + 1) b → IsPlain names spelled depth more → IsPlain names spelled depth (spawn first others b more)
    plain_spawn first others b more few known once q p = record {
      shallow = omega (arith, q.shallow, p.shallow);
      few = All-cons HasFewAccesses (first ∷ others) (lists_in b ++ lists_in more) few (All-append HasFewAccesses (lists_in b) (lists_in more) q.few p.few);
      known = All-append (Contains names.documents) (documents_in (first ∷ others)) (names_in b ++ names_in more) known
          (All-append (Contains names.documents) (names_in b) (names_in more) q.known p.known);
      once = All-append IsOnce (declarations_behind [] (first ∷ others)) (declarations_in b ++ declarations_in more) once
          (All-append IsOnce (declarations_in b) (declarations_in more) q.once p.once);
      declares = All-append IsDeclared (uses_in (first ∷ others) b) (uses_in spelled more) q.declares p.declares;
    }
