-- The access matrix of Bell and La Padula 1976, as a finite set of triples.
use Rattle.std.specs.Prelude.{ℕ, Bool, not, ◌==◌, T, List, [], is_some, if◌then◌else◌}
use Rattle.std.specs.Ordering.{nat_cmp, on, then_cmp, eq_by_cmp}
use Rattle.std.specs.declared.cmp.Ordering.{Ordering}
use Rattle.std.specs.FinMap.Entries.{put, find, where_key, is_sorted, is_sorted-put, is_sorted-where_key}
use Rattle.std.specs.Cmp.{IsTotalOrder, nat_cmp_total, on_total, then_total}
use Rattle.bl_policy.specs.declared.access.Mode.{Mode}
use Rattle.bl_policy.specs.declared.access.Mode.TheVariants.{Read, Append, Write}
use Rattle.bl_policy.specs.declared.access.ModeSet.{ModeSet}
use Rattle.bl_policy.specs.Mode.{place_of, has_mode}

-- the subject may use the document in the mode
pub record Triple : Type 0 where
  pub subject : ℕ
  pub document : ℕ
  pub mode : Mode

-- the triple of this subject, document and mode
abbrev pub triple : ℕ → ℕ → Mode → Triple
triple s o m = record { subject = s; document = o; mode = m }

-- own choice: a set's triples stand by subject, then document, then mode, so that a set has one form
abbrev pub triple_cmp : Triple → Triple → Ordering
triple_cmp = then_cmp (on (λ t. t.subject) nat_cmp) (then_cmp (on (λ t. t.document) nat_cmp) (on (λ t. place_of t.mode) nat_cmp))

-- that order is total
pub triple_cmp_total : IsTotalOrder triple_cmp
triple_cmp_total = then_total (on_total (λ t. t.subject) nat_cmp_total) (then_total (on_total (λ t. t.document) nat_cmp_total) (on_total (λ t. place_of t.mode) nat_cmp_total))

-- a finite set of triples, each of them once
pub record Matrix : Type 0 where
  pub triples : List (Triple × Unit {0})
  pub in_order : T (is_sorted triple_cmp triples)

-- no triple
abbrev pub no_triple : Matrix
no_triple = record { triples = []; in_order = tt }

-- the triple is in the set
abbrev pub is_in : Matrix → Triple → Bool
is_in matrix t = is_some (find triple_cmp t matrix.triples)

-- the set with this triple
abbrev pub put_in : Matrix → Triple → Matrix
put_in matrix t = record { triples = put triple_cmp t tt matrix.triples; in_order = is_sorted-put triple_cmp triple_cmp_total t tt matrix.triples matrix.in_order }

-- the set without this triple
abbrev pub take_out : Matrix → Triple → Matrix
take_out matrix t =
    record {
      triples = where_key triple_cmp (λ u. not (eq_by_cmp triple_cmp t u)) matrix.triples;
      in_order = is_sorted-where_key triple_cmp (λ u. not (eq_by_cmp triple_cmp t u)) matrix.triples matrix.in_order;
    }

-- the set without the triples of this document
abbrev pub without_document : Matrix → ℕ → Matrix
without_document matrix o =
    record {
      triples = where_key triple_cmp (λ t. not (t.document == o)) matrix.triples;
      in_order = is_sorted-where_key triple_cmp (λ t. not (t.document == o)) matrix.triples matrix.in_order;
    }

-- the set with this triple, where the test holds
abbrev pub put_where : Bool → Triple → Matrix → Matrix
put_where b t matrix = if b then put_in matrix t else matrix

-- the set with a triple of this subject and document for each mode of a set of modes
abbrev pub put_modes : Matrix → ℕ → ℕ → ModeSet → Matrix
put_modes matrix s o modes =
    put_where (has_mode modes Read) (triple s o Read)
    (put_where (has_mode modes Append) (triple s o Append)
    (put_where (has_mode modes Write) (triple s o Write) matrix))
