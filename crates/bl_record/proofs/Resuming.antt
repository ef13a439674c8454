-- What a completed text makes of its file.
use Rattle.std.proofs.Common.{◌≡◌, ℕ, suc, ◌<◌, ◌≤◌, Bool, true, false, List, [], ◌∷◌, ◌++◌, length, drop, take, refl, sym, ◌∙◌, ap, subst, arith, length-append}
use Rattle.std.specs.Prelude.{codes}
use Rattle.bl_audit.specs.declared.bookmark.Bookmark.{Bookmark}
use Rattle.bl_disk.specs.File.{File, all_kept, seen}
use Rattle.bl_hall.specs.Chronicle.{Chronicle}
use Rattle.bl_journal.specs.Journals.{IsHistory, journal_text}
use Rattle.bl_rebuild.specs.Rebuilds.{journal_of}
use Rattle.bl_record.proofs.Histories.{take-front}
use Rattle.bl_record.specs.Completing.{IsCompleted, IsRefused, MayGoOn}
use Rattle.bl_record.specs.Kept.{IsKept}
use Rattle.bl_record.specs.Recovering.{IsClosed, IsNotResumed, IsResumed, lines_in}
use Rattle.bl_record.specs.declared.complete.Completed.{Completed}
use Rattle.bl_record.specs.declared.fault.ResumeFault.{ResumeFault}
use Rattle.bl_record.specs.declared.fault.ResumeFault.TheVariants.{Unrecovered, Over, Wrong}
use Rattle.bl_setup.specs.Setup.{Setup}
use Rattle.bl_trail.specs.TrueText.{IsTrueText}

drop-front : (a b : List ℕ) (n : ℕ) → n ≡ length a → drop n (a ++ b) ≡ b
drop-front a b n is = ap (λ m. drop m (a ++ b)) is ∙ go a
  where
    go : (a : List ℕ) → drop (length a) (a ++ b) ≡ b
    go [] = refl
    go (x ∷ a) = go a

module _ (setup : Setup) (text : List ℕ) (c : Completed) (is : IsCompleted setup text c) where
  -- the setup of a completed hall
  pub its-setup : c.hall.setup ≡ setup
  its-setup = is.finished.on.grown.setup ∙ is.finished.setup_is

  -- the right part is a front of the text
  pub within : c.right ≤ length text
  within = omega (arith, is.right, ap length is.finished.recovered.split, length-append (journal_text setup (journal_of is.finished.found)) is.finished.recovered.rest)

  -- what the text has after its right part is what was not recovered of it
  rest-is : drop c.right text ≡ is.finished.recovered.rest
  rest-is =
      ap (drop c.right) is.finished.recovered.split
      ∙ drop-front (journal_text setup (journal_of is.finished.found)) is.finished.recovered.rest c.right is.right

  front-is : take c.right text ≡ journal_text setup (journal_of is.finished.found)
  front-is =
      ap (take c.right) is.finished.recovered.split
      ∙ take-front (journal_text setup (journal_of is.finished.found)) is.finished.recovered.rest c.right is.right

  is-over : c.rest.is_stop ≡ true → is.finished.recovered.rest ≡ codes "stop\n"
  is-over stop = sym rest-is ∙ is.rest.is_stop stop

  not-over : c.rest.is_stop ≡ false → is.finished.recovered.rest ≡ codes "stop\n" → ⊥
  not-over none stop = is.rest.no_stop none (rest-is ∙ stop)

  cut-is : c.rest.bytes ≡ length is.finished.recovered.rest
  cut-is = is.rest.bytes ∙ ap length rest-is

  lines-are : c.rest.lines ≡ lines_in is.finished.recovered.rest
  lines-are = is.rest.lines ∙ ap lines_in rest-is

  -- a run that goes on
  pub resumes : MayGoOn c.rest → (h : Chronicle) → h ≡ c.hall → (cut : ℕ) → cut ≡ c.rest.bytes → IsResumed setup text h cut
  resumes may h same cut bytes =
      subst (λ (h : Chronicle). IsResumed setup text h cut) (sym same) (record {
        finished = is.finished;
        was_cut = bytes ∙ cut-is;
        not_over = not-over may.no_stop;
        few = subst (λ n. n ≤ 1) lines-are may.few;
      })

  -- one that does not
  pub refused : (fault : ResumeFault) → IsRefused c.rest fault → IsNotResumed setup text fault
  refused (Unrecovered fault) none = absurd none
  refused Over stop = record { found = journal_of is.finished.found; recovered = is.finished.recovered; stop = is-over stop }
  refused (Wrong line) (more, first) = record {
    found = journal_of is.finished.found;
    recovered = is.finished.recovered;
    more = subst (λ n. 1 < n) lines-are more;
    is = first ∙ is.rest.first ∙ ap (λ t. suc (lines_in t)) front-is;
  }

  -- a file that was closed
  pub closes : (b : Bookmark) (mid file : File) (events cut : ℕ) → IsKept c.hall b mid → events ≡ length c.hall.trail
      → file ≡ all_kept (journal_text c.hall.setup (journal_of c.hall) ++ codes "stop\n") → IsTrueText c.hall.setup (seen file) (length c.hall.trail)
      → (c.rest.is_stop ≡ true → cut ≡ 0) → (c.rest.is_stop ≡ false → cut ≡ c.rest.bytes) → IsClosed setup text events cut file
  closes b mid file events cut kept counted there true_text over torn = record {
    closed = c.hall;
    finished = is.finished;
    history = subst (λ (s : Setup). IsHistory s (journal_of c.hall)) its-setup kept.history;
    there = there ∙ ap (λ (s : Setup). all_kept (journal_text s (journal_of c.hall) ++ codes "stop\n")) its-setup;
    true_text = subst (λ (s : Setup). IsTrueText s (seen file) events) its-setup (subst (IsTrueText c.hall.setup (seen file)) (sym counted) true_text);
    counted = counted;
    was_over = λ stop. either (c.rest.is_stop) refl stop;
    was_cut = λ none. neither (c.rest.is_stop) refl none;
  }
    where
      either : (b : Bool) → c.rest.is_stop ≡ b → is.finished.recovered.rest ≡ codes "stop\n" → cut ≡ 0
      either true h stop = over h
      either false h stop = absurd (not-over h stop)

      neither : (b : Bool) → c.rest.is_stop ≡ b → (is.finished.recovered.rest ≡ codes "stop\n" → ⊥) → cut ≡ length is.finished.recovered.rest
      neither true h none = absurd (none (is-over h))
      neither false h none = torn h ∙ cut-is
