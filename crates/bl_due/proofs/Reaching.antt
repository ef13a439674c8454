-- The tokens that were read of a line lead to a point.
use Rattle.std.proofs.Common.{◌≡◌, ℕ, ◌+◌, ◌≤◌, Bool, true, false, List, [], ◌∷◌, ◌++◌, length, Option, Some, None, refl, sym, ap, subst, ◌∙◌, append_assoc, length-append, arith}
use Rattle.std.proofs.lemmas.Bool.{false≢true}
use Rattle.std.proofs.lemmas.List.{append-nil}
use Rattle.std.specs.Option.{is_some}
use Rattle.std.specs.Prelude.{◌↔◌, IsTrue}
use Rattle.bl_name.specs.declared.lexer.Class.TheVariants as class
use Rattle.bl_level.specs.Canonical.{spelled}
use Rattle.bl_level.specs.Lexing.{nothing, token, broken, front, past_blanks, Begins}
use Rattle.bl_level.specs.Token.{Tok}
use Rattle.bl_name.proofs.Fronts.{front_shorter, front_splits, front_nothing}
use Rattle.bl_name.proofs.Runs.{past_le}
use Rattle.bl_due.specs.declared.due.Due.{Due}
use Rattle.bl_due.specs.declared.due.Section.{Section}
use Rattle.bl_due.specs.declared.misfit.Misfit.{Misfit}
use Rattle.bl_due.specs.Due.{is_allowed, has_end, AreDue, AreWhole, GoOn, Spells}
use Rattle.bl_due.specs.Misfits.{IsMisfit, StandsAt, broken_length}
use Rattle.bl_due.specs.Points.{Point, start, next, may_stop, due_at, reads_from}
use Rattle.bl_due.proofs.Going.{leads_on, next_is_due, end_is_due}
use Rattle.bl_due.proofs.Whole.{are_read, whole_read, read_whole}

-- some tokens were read, and lead from the start of the section to the point
pub record Reached (s : Section) (line rest : List ℕ) (p : Point) : Type 0 where
  pub read : List Tok
  pub begins : (us : List Tok) (r : List ℕ) → Begins rest us r → Begins line (read ++ us) r
  pub same : (us : List Tok) → are_read s (read ++ us) ≡ reads_from (Some p) us
  pub within : length rest ≤ length line

pub reached_start : (s : Section) (line : List ℕ) → Reached s line line (start s)
reached_start s line = record { read = []; begins = λ us r b. b; same = λ us. refl; within = omega arith }

-- one token more
pub reached_more : (s : Section) (line rest more : List ℕ) (p q : Point) (t : Tok) → Reached s line rest p → front (past_blanks rest) ≡ token t more
    → next p t ≡ Some q → Reached s line more q
reached_more s line rest more p q t r f e = record {
  read = r.read ++ t ∷ [];
  begins = λ us x b. subst (λ ts. Begins line ts x) (sym (append_assoc r.read (t ∷ []) us)) (r.begins (t ∷ us) x (more, f, b));
  same = λ us. ap (are_read s) (append_assoc r.read (t ∷ []) us) ∙ r.same (t ∷ us) ∙ ap (λ o. reads_from o us) e;
  within = omega (arith, r.within, front_shorter (past_blanks rest) t more f, past_le class.Blank rest);
}

-- a token and what is behind it fit into the line
pub token_fits : (s : Section) (line rest more : List ℕ) (p : Point) (t : Tok) → Reached s line rest p → front (past_blanks rest) ≡ token t more
    → length (spelled t) + length more ≤ length line
token_fits s line rest more p t r f =
    let whole = ap length ((front_splits (past_blanks rest) t more f).whole) ∙ length-append (spelled t) more in
    omega (arith, whole, r.within, past_le class.Blank rest)

none_reads : (o : Option Point) (us : List Tok) → reads_from o us ≡ true → is_some o ≡ true
none_reads (Some p) us e = refl
none_reads None us e = absurd (false≢true e)

some_leads : (o : Option Point) → is_some o ≡ true → (us : List Tok) × (reads_from o us ≡ true)
some_leads (Some p) e = leads_on p
some_leads None e = absurd (false≢true e)

module _ (s : Section) (line rest : List ℕ) (p : Point) (r : Reached s line rest p) where
  goes_on : GoOn s r.read
  goes_on = let l = leads_on p in (l.0, read_whole s (r.read ++ l.0) (r.same l.0 ∙ l.1))

  goes_from : (t : Tok) → is_some (next p t) ≡ true → GoOn s (r.read ++ t ∷ [])
  goes_from t e =
      let l = some_leads (next p t) e in
      (l.0, subst (AreWhole s) (sym (append_assoc r.read (t ∷ []) l.0)) (read_whole s (r.read ++ t ∷ l.0) (r.same (t ∷ l.0) ∙ l.1)))

  goes_to : (t : Tok) → GoOn s (r.read ++ t ∷ []) → is_some (next p t) ≡ true
  goes_to t (more, whole) =
      none_reads (next p t) more (sym (r.same (t ∷ more)) ∙ whole_read s (r.read ++ t ∷ more) (subst (AreWhole s) (append_assoc r.read (t ∷ []) more) whole))

  whole_from : may_stop p ≡ true → AreWhole s r.read
  whole_from e = subst (AreWhole s) (append-nil r.read) (read_whole s (r.read ++ []) (r.same [] ∙ e))

  whole_to : AreWhole s r.read → may_stop p ≡ true
  whole_to whole = sym (r.same []) ∙ whole_read s (r.read ++ []) (subst (AreWhole s) (sym (append-nil r.read)) whole)

  are_due : (ds : List Due) → ds ≡ due_at p → AreDue s r.read ds
  are_due ds e = subst (AreDue s r.read) (sym e) (record {
    next = λ t. ((λ h. goes_from t (next_is_due p t ∙ h)), (λ g. sym (next_is_due p t) ∙ goes_to t g));
    end = ((λ h. whole_from (end_is_due p ∙ h)), (λ w. sym (end_is_due p) ∙ whole_to w));
  })

  begins_read : Begins line r.read (past_blanks rest)
  begins_read = subst (λ ts. Begins line ts (past_blanks rest)) (append-nil r.read) (r.begins [] (past_blanks rest) refl)

  -- the line ends where it may
  pub spells_whole : front (past_blanks rest) ≡ nothing → may_stop p ≡ true → Spells s line
  spells_whole f e =
      let w = whole_from e in
      let b = subst (λ x. Begins line r.read x) (front_nothing (past_blanks rest) f) begins_read in
      (w.0, w.1, subst (λ ts. Begins line ts []) (sym w.2) b)

  misfit : (m : Misfit) → StandsAt s (length line) r.read (front (past_blanks rest)) m → m.due.items ≡ due_at p → IsMisfit s line m
  misfit m stands due = record { read = r.read; rest = past_blanks rest; begins = begins_read; goes_on = goes_on; stands = stands; due = are_due m.due.items due }

  -- the line ends too early
  pub misfit_end : (m : Misfit) → front (past_blanks rest) ≡ nothing → may_stop p ≡ false → m.at ≡ length line → m.len ≡ 0 → m.due.items ≡ due_at p → IsMisfit s line m
  misfit_end m f e at len due =
      misfit m (subst (λ x. StandsAt s (length line) r.read x m) (sym f) (at, len, λ w. false≢true (sym e ∙ whole_to w))) due

  -- no token begins there
  pub misfit_broken : (m : Misfit) (from : List ℕ) → front (past_blanks rest) ≡ broken from → m.at + length from ≡ length line → m.len ≡ broken_length from
      → m.due.items ≡ due_at p → IsMisfit s line m
  misfit_broken m from f at len due = misfit m (subst (λ x. StandsAt s (length line) r.read x m) (sym f) (at, len)) due

  none_some : (o : Option Point) → o ≡ None → is_some o ≡ true → ⊥
  none_some o e h = false≢true (sym (ap is_some e) ∙ h)

  -- the token may not stand there
  pub misfit_token : (m : Misfit) (t : Tok) (more : List ℕ) → front (past_blanks rest) ≡ token t more → next p t ≡ None
      → m.at + (m.len + length more) ≡ length line → m.len ≡ length (spelled t) → m.due.items ≡ due_at p → IsMisfit s line m
  misfit_token m t more f e at len due =
      misfit m (subst (λ x. StandsAt s (length line) r.read x m) (sym f) (at, len, λ g. none_some (next p t) e (goes_to t g))) due
