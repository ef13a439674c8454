-- What goes on from a history that was kept.
use Rattle.std.proofs.Common.{◌≡◌, ℕ, ◌≤◌, List, [], ◌∷◌, ◌++◌, length, take, refl, sym, ◌∙◌, ap, subst, arith, append_assoc, append-nil, length-append}
use Rattle.std.specs.Prelude.{Result, Ok, Err, IfOk, IfErr}
use Rattle.bl_audit.specs.Bookmarks.{IsBookmark}
use Rattle.bl_audit.specs.declared.bookmark.Bookmark.{Bookmark}
use Rattle.bl_disk.proofs.Fronts.{itself, take-behind, through}
use Rattle.bl_disk.proofs.Passing.{goes-on, weaker}
use Rattle.bl_disk.specs.File.{Begins, File, Keeps, MayLeave, all_kept, seen}
use Rattle.bl_disk.specs.Moments.{Passes}
use Rattle.bl_hall.specs.Chronicle.{Chronicle}
use Rattle.bl_journal.specs.Journals.{GoesOnFrom, IsHistory, IsRecovered, Journal, first_state, journal_text, last_state, lines_of_events}
use Rattle.bl_rebuild.specs.Rebuilds.{journal_of}
use Rattle.bl_record.proofs.Growing.{texts-both}
use Rattle.bl_record.proofs.Keeping.{CrashLaw, keeps-loses}
use Rattle.bl_record.specs.Kept.{IsKept, LosesNothing}
use Rattle.bl_record.specs.Recovering.{LosesNoHistory}
use Rattle.bl_setup.specs.Agreement.{Agree}
use Rattle.bl_setup.specs.Setup.{Setup}
use Rattle.bl_setup.specs.declared.version.Version.TheVariants.{Two}
use Rattle.bl_trail.proofs.Following.{joined-append}
use Rattle.bl_trail.specs.TrueText.{event_texts, head_lines, joined}
use Rattle.bl_work.specs.Names.{AreNames}

over : (a b c : Journal) → GoesOnFrom a b → GoesOnFrom b c → GoesOnFrom a c
over a b c first second = record {
  version = second.version ∙ first.version;
  limit = second.limit ∙ first.limit;
  events = through a.events b.events c.events first.events second.events;
}

begins-text : (setup : Setup) (kept found : Journal) → GoesOnFrom kept found → Begins (journal_text setup kept) (journal_text setup found)
begins-text setup kept found goes =
    subst (λ (j : Journal). Begins (journal_text setup kept) (journal_text setup j)) (sym same) (
      joined (event_texts (last_state setup kept) goes.events.0),
      ap (λ l. joined (head_lines kept.version kept.limit ++ l)) (texts-both (first_state setup kept) kept.events goes.events.0)
          ∙ ap joined (sym (append_assoc (head_lines kept.version kept.limit) (lines_of_events setup kept) (event_texts (last_state setup kept) goes.events.0)))
          ∙ joined-append (head_lines kept.version kept.limit ++ lines_of_events setup kept) (event_texts (last_state setup kept) goes.events.0),
    )
  where
    same : found ≡ record { version = kept.version; limit = kept.limit; events = kept.events ++ goes.events.0 }
    same = λ i. record { version = goes.version i; limit = goes.limit i; events = goes.events.1 i }

pub take-front : (a b : List ℕ) (n : ℕ) → n ≡ length a → take n (a ++ b) ≡ a
take-front a b n is = ap (λ m. take m (a ++ b)) is ∙ go a
  where
    go : (a : List ℕ) → take (length a) (a ++ b) ≡ a
    go [] = refl
    go (x ∷ a) = ap (λ l. x ∷ l) (go a)

-- what is right of a file is kept when it was opened again
pub reopened : (setup : Setup) → setup.version ≡ Two → (found : Chronicle) → found.setup ≡ setup → (b : Bookmark) (before after : File) (right : ℕ)
    → IsRecovered setup (seen before) (journal_of found) → right ≡ length (journal_text setup (journal_of found)) → IsBookmark found b → b.written ≡ length found.trail
    → after ≡ all_kept (take right (seen before)) → IsKept found b after
reopened setup two found same b before after right recovered is bookmark all cut = record {
  two = ap (λ (s : Setup). s.version) same ∙ two;
  history = subst (λ (s : Setup). IsHistory s (journal_of found)) (sym same) recovered.history;
  text = cut
      ∙ ap (λ t. all_kept (take right t)) recovered.split
      ∙ ap all_kept (take-front (journal_text setup (journal_of found)) recovered.rest right is)
      ∙ ap (λ (s : Setup). all_kept (journal_text s (journal_of found))) (sym same);
  bookmark = bookmark;
  all = all;
}

no-line : (a b : List ℕ) → [] ≡ a ++ 10 ∷ b → ⊥
no-line [] b h = cc
no-line (x ∷ a) b h = cc

-- of the text of a history just that history is recovered
itself-recovered : (setup : Setup) (journal : Journal) → IsHistory setup journal → IsRecovered setup (journal_text setup journal) journal
itself-recovered setup journal history = record {
  history = history;
  rest = [];
  split = sym (append-nil (journal_text setup journal));
  no_further = λ event more needs has plain is. no-line _ more is;
}

module _ {D : Type 0} (now : D → File) (past : D → List File) (law : CrashLaw) (setup : Setup) (agree : Agree setup) (names : AreNames setup.names) where
  module _ (kept : Journal) (history : IsHistory setup kept) where
    -- what is recovered goes on from what was kept
    pub found-on : (found : Journal) (file : File) → Keeps (journal_text setup kept) file → IsRecovered setup (seen file) found → GoesOnFrom kept found
    found-on found file keeps recovered = law setup kept found file (seen file) agree names history keeps (file.loose, refl) recovered

    -- nothing is lost while a file is opened again
    pub lost-opening : (found : Journal) (from to : D) (right : ℕ) → Keeps (journal_text setup kept) (now from) → IsRecovered setup (seen (now from)) found
        → right ≡ length (journal_text setup found) → Passes now past from to (Keeps (take right (now from).kept)) → Passes now past from to (LosesNothing setup kept)
    lost-opening found from to right keeps recovered is passes =
        weaker now past from to (Keeps (take right (now from).kept)) (LosesNothing setup kept)
        (λ file there. keeps-loses law setup agree names kept file history (λ left may. through (journal_text setup kept) (take right (now from).kept) left front (there left may)))
        passes
      where
        text : Begins (journal_text setup kept) (journal_text setup found)
        text = begins-text setup kept found (found-on found (now from) keeps recovered)

        here : Begins (journal_text setup kept) (now from).kept
        here = keeps (now from).kept (itself (now from).kept)

        long : length (journal_text setup kept) ≤ right
        long = omega (arith, is, ap length text.1, length-append (journal_text setup kept) text.0)

        front : Begins (journal_text setup kept) (take right (now from).kept)
        front = subst (λ t. Begins (journal_text setup kept) (take right t)) (sym here.1) (take-behind (journal_text setup kept) here.0 right long)

    -- nor while nothing is lost of what goes on from it
    pub lost-later : (found : Journal) (from to : D) → GoesOnFrom kept found → Passes now past from to (LosesNothing setup found) → Passes now past from to (LosesNothing setup kept)
    lost-later found from to goes passes =
        weaker now past from to (LosesNothing setup found) (LosesNothing setup kept)
        (λ file loses left later may recovered. over kept found later goes (loses left later may recovered)) passes

    -- nor where the file stays as it is
    pub lost-nowhere : (from to : D) → Keeps (journal_text setup kept) (now from) → Passes now past from to (λ file. file ≡ now from) → Passes now past from to (LosesNothing setup kept)
    lost-nowhere from to keeps passes =
        weaker now past from to (λ file. file ≡ now from) (LosesNothing setup kept)
        (λ file same. keeps-loses law setup agree names kept file history (subst (Keeps (journal_text setup kept)) (sym same) keeps)) passes

    -- nor while something is added to the text of a hall of which nothing was lost
    pub lost-closing : (h : Chronicle) (b : Bookmark) (from to : D) → h.setup ≡ setup → IsKept h b (now from) → LosesNothing setup kept (now from)
        → Passes now past from to (Keeps (now from).kept) → Passes now past from to (LosesNothing setup kept)
    lost-closing h b from to same is loses passes =
        lost-later (journal_of h) from to goes (
        weaker now past from to (Keeps (now from).kept) (LosesNothing setup (journal_of h))
        (λ file keeps. keeps-loses law setup agree names (journal_of h) file there (subst (λ (f : File). Keeps f.kept file) text keeps)) passes)
      where
        text : now from ≡ all_kept (journal_text setup (journal_of h))
        text = is.text ∙ ap (λ (s : Setup). all_kept (journal_text s (journal_of h))) same

        there : IsHistory setup (journal_of h)
        there = subst (λ (s : Setup). IsHistory s (journal_of h)) same is.history

        may : MayLeave (now from) (journal_text setup (journal_of h))
        may = subst (λ (f : File). Begins f.kept (journal_text setup (journal_of h))) (sym text) (itself (journal_text setup (journal_of h)))

        goes : GoesOnFrom kept (journal_of h)
        goes = loses (journal_text setup (journal_of h)) (journal_of h) may (itself-recovered setup (journal_of h) there)

  -- no history is lost where the file stays as it is
  pub none-nowhere : (from to : D) → Passes now past from to (λ file. file ≡ now from) → LosesNoHistory now past setup from to
  none-nowhere from to passes kept history keeps = lost-nowhere kept history from to keeps passes

  -- nor after that, where none is lost later
  pub none-after : (from mid to : D) → Passes now past from mid (λ file. file ≡ now from) → LosesNoHistory now past setup mid to → LosesNoHistory now past setup from to
  none-after from mid to passes loses kept history keeps =
      goes-on now past from mid to (LosesNothing setup kept) (lost-nowhere kept history from mid keeps passes)
      (loses kept history (subst (Keeps (journal_text setup kept)) (sym passes.last) keeps))

  -- nor where a file is opened again after what is right of it
  pub none-opening : (found : Journal) (from to : D) (right : ℕ) → IsRecovered setup (seen (now from)) found → right ≡ length (journal_text setup found)
      → Passes now past from to (Keeps (take right (now from).kept)) → LosesNoHistory now past setup from to
  none-opening found from to right recovered is passes kept history keeps = lost-opening kept history found from to right keeps recovered is passes

  -- and the lines of a hall that has gone on are written
  pub none-writing : (found : Chronicle) → found.setup ≡ setup → (from mid to : D) (right : ℕ) → IsRecovered setup (seen (now from)) (journal_of found)
      → right ≡ length (journal_text setup (journal_of found)) → Passes now past from mid (Keeps (take right (now from).kept))
      → Passes now past mid to (LosesNothing found.setup (journal_of found)) → LosesNoHistory now past setup from to
  none-writing found same from mid to right recovered is opening writing kept history keeps =
      goes-on now past from mid to (LosesNothing setup kept) (lost-opening kept history (journal_of found) from mid right keeps recovered is opening)
      (lost-later kept history (journal_of found) mid to (found-on kept history (journal_of found) (now from) keeps recovered)
      (subst (λ (s : Setup). Passes now past mid to (LosesNothing s (journal_of found))) same writing))

  -- and closed
  pub none-closing : (h : Chronicle) (b : Bookmark) (from mid to : D) → h.setup ≡ setup → IsKept h b (now mid) → LosesNoHistory now past setup from mid
      → Passes now past mid to (Keeps (now mid).kept) → LosesNoHistory now past setup from to
  none-closing h b from mid to same is loses closing kept history keeps =
      let first : Passes now past from mid (LosesNothing setup kept) = loses kept history keeps in
      goes-on now past from mid to (LosesNothing setup kept) first (lost-closing kept history h b mid to same is first.last closing)

-- ---- what holds of an outcome, by what held of it

pub ok-on : {T E : Type 0} (r : Result T E) (P Q : T → Type 0) → ((t : T) → P t → Q t) → IfOk r P → IfOk r Q
ok-on (Ok t) P Q then h = then t h
ok-on (Err e) P Q then h = tt

pub ok-both : {T E : Type 0} (r : Result T E) (P Q R : T → Type 0) → ((t : T) → P t → Q t → R t) → IfOk r P → IfOk r Q → IfOk r R
ok-both (Ok t) P Q R then h k = then t h k
ok-both (Err e) P Q R then h k = tt

pub err-on : {T E : Type 0} (r : Result T E) (P Q : E → Type 0) → ((e : E) → P e → Q e) → IfErr r P → IfErr r Q
err-on (Ok t) P Q then h = tt
err-on (Err e) P Q then h = then e h
