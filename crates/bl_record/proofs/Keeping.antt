-- What a journal keeps.
use Rattle.std.proofs.Common.{◌≡◌, ℕ, List, [], ◌++◌, length, refl, sym, ◌∙◌, ap, subst, append_assoc, append-nil}
use Rattle.std.specs.Prelude.{codes}
use Rattle.std.specs.List.{AllByRecursion}
use Rattle.bl_audit.specs.Bookmarks.{HasGrown, IsBookmark, texts_after}
use Rattle.bl_audit.specs.declared.bookmark.Bookmark.{Bookmark}
use Rattle.bl_audit.proofs.Trails.{setup-now}
use Rattle.bl_disk.proofs.Fronts.{crash-keeps, itself}
use Rattle.bl_disk.proofs.Passing.{stays, weaker}
use Rattle.bl_disk.specs.File.{File, Keeps, MayLeave, all_kept, seen}
use Rattle.bl_disk.specs.Moments.{Passes}
use Rattle.bl_hall.specs.Chronicle.{Chronicle, HasTrail, state_now}
use Rattle.bl_journal.specs.Journals.{GoesOnFrom, IsHistory, IsRecovered, Journal, journal_text}
use Rattle.bl_order.specs.Machine.{State, Event}
use Rattle.bl_rebuild.specs.Rebuilds.{journal_of}
use Rattle.bl_record.proofs.Growing.{as-longer, longer, longer-history, longer-text}
use Rattle.bl_record.specs.Kept.{AreLines, IsKept, LosesNothing}
use Rattle.bl_record.specs.declared.journal.Lines.{Lines}
use Rattle.bl_setup.specs.Agreement.{Agree}
use Rattle.bl_setup.specs.Setup.{Setup}
use Rattle.bl_setup.specs.declared.version.Version.TheVariants.{Two}
use Rattle.bl_trail.specs.TrueText.{HasNoLf, IsLimit, IsTrueText, head_lines, joined}
use Rattle.bl_work.specs.Names.{AreNames}

-- a bookmark after all that was kept stands there when more has happened
pub kept-longer : (h : Chronicle) (more : List Event) (b c : Bookmark) (file later : File) → IsKept h b file → IsBookmark (longer h more) c
    → c.written ≡ length (h.trail ++ more) → HasTrail (longer h more) → AllByRecursion HasNoLf (texts_after (longer h more) b.written)
    → later ≡ all_kept (seen file ++ joined (texts_after (longer h more) b.written)) → IsKept (longer h more) c later
kept-longer h more b c file later kept bookmark all trail plain is = record {
  two = kept.two;
  history = longer-history h more kept.two kept.history trail (subst (λ n. AllByRecursion HasNoLf (texts_after (longer h more) n)) kept.all plain);
  text = is
      ∙ ap all_kept (
      ap (λ (f : File). seen f ++ joined (texts_after (longer h more) b.written)) kept.text
      ∙ ap (λ t. t ++ joined (texts_after (longer h more) b.written)) (append-nil (journal_text h.setup (journal_of h)))
      ∙ ap (λ n. journal_text h.setup (journal_of h) ++ joined (texts_after (longer h more) n)) kept.all
      ∙ sym (longer-text h more kept.two)
      );
  bookmark = bookmark;
  all = all;
}

pub kept-on : (before after : Chronicle) (b c : Bookmark) (file later : File) → HasGrown before after → IsKept before b file → IsBookmark after c
    → c.written ≡ length after.trail → HasTrail after → AllByRecursion HasNoLf (texts_after after b.written)
    → later ≡ all_kept (seen file ++ joined (texts_after after b.written)) → IsKept after c later
kept-on before after b c file later grown kept =
    subst (λ (h : Chronicle). IsBookmark h c → c.written ≡ length h.trail → HasTrail h → AllByRecursion HasNoLf (texts_after h b.written)
    → later ≡ all_kept (seen file ++ joined (texts_after h b.written)) → IsKept h c later) (sym (as-longer before after grown))
    (kept-longer before grown.more b c file later kept)

-- lines that were written have been kept
pub written : (before after : Chronicle) (b : Bookmark) (lines : Lines) (file later : File) → HasGrown before after → IsKept before b file → AreLines after b lines
    → later ≡ all_kept (seen file ++ lines.text.items) → IsKept after lines.bookmark later
written before after b lines file later grown kept are is =
    kept-on before after b lines.bookmark file later grown kept are.bookmark are.all are.trail are.plain (is ∙ ap (λ text. all_kept (seen file ++ text)) are.text)

-- and where there are none, all has been
pub unwritten : (before after : Chronicle) (b : Bookmark) (lines : Lines) (file : File) → HasGrown before after → IsKept before b file → AreLines after b lines
    → lines.text.items ≡ [] → IsKept after lines.bookmark file
unwritten before after b lines file grown kept are none =
    let text = journal_text before.setup (journal_of before) in
    written before after b lines file file grown kept are (
    kept.text
    ∙ ap all_kept (sym (append-nil text) ∙ sym (append-nil (text ++ [])))
    ∙ ap (λ (f : File). all_kept (seen f ++ [])) (sym kept.text)
    ∙ ap (λ t. all_kept (seen file ++ t)) (sym none)
    )

-- the law of what a crash leaves
abbrev pub CrashLaw : Type 0
CrashLaw = (setup : Setup) (kept found : Journal) (file : File) (left : List ℕ) → Agree setup → AreNames setup.names →
    IsHistory setup kept → Keeps (journal_text setup kept) file → MayLeave file left → IsRecovered setup left found →
    GoesOnFrom kept found

pub keeps-loses : CrashLaw → (setup : Setup) → Agree setup → AreNames setup.names → (kept : Journal) (file : File) → IsHistory setup kept
    → Keeps (journal_text setup kept) file → LosesNothing setup kept file
keeps-loses law setup agree names kept file history keeps left found may recovered = law setup kept found file left agree names history keeps may recovered

-- what has the text of a history on the disk keeps it
pub keeps-kept : (h : Chronicle) (b : Bookmark) (file : File) → IsKept h b file → Keeps (journal_text h.setup (journal_of h)) file
keeps-kept h b file kept =
    subst (Keeps (journal_text h.setup (journal_of h))) (sym kept.text)
    (crash-keeps (journal_text h.setup (journal_of h)) (all_kept (journal_text h.setup (journal_of h))) (itself (journal_text h.setup (journal_of h))))

module _ {D : Type 0} (now : D → File) (past : D → List File) (law : CrashLaw) (h : Chronicle) (agree : Agree h.setup) (names : AreNames h.setup.names) where
  -- where nothing happens, nothing is lost
  pub loses-idle : (b : Bookmark) (d : D) → IsKept h b (now d) → Passes now past d d (LosesNothing h.setup (journal_of h))
  loses-idle b d kept =
      stays now past d d (LosesNothing h.setup (journal_of h)) (λ i. past d)
      (keeps-loses law h.setup agree names (journal_of h) (now d) kept.history (keeps-kept h b (now d) kept))

  -- nor while what is on the disk stays there
  pub loses-none : (b : Bookmark) (from to : D) → IsKept h b (now from) → Passes now past from to (Keeps (now from).kept) → Passes now past from to (LosesNothing h.setup (journal_of h))
  loses-none b from to kept passes =
      weaker now past from to (Keeps (now from).kept) (LosesNothing h.setup (journal_of h))
      (λ file keeps. keeps-loses law h.setup agree names (journal_of h) file kept.history (subst (λ (f : File). Keeps f.kept file) kept.text keeps))
      passes

-- ---- the beginning and the end

pub begun : (setup : Setup) → setup.version ≡ Two → (limit : ℕ) → IsLimit limit → (b : Bookmark) → ((hall : Chronicle) → IsBookmark hall b) → b.written ≡ 0
    → (cut file : File) (text : List ℕ) → cut ≡ all_kept [] → text ≡ joined (head_lines Two limit) → file ≡ all_kept (seen cut ++ text)
    → IsKept (record { setup = setup; limit = limit; trail = [] }) b file
begun setup two limit is_limit b bookmark none cut file text empty head is = record {
  two = two;
  history = record { has_setup = tt; is_limit = is_limit; steps = tt; has_events = tt; plain = tt };
  text = is
      ∙ ap (λ (f : File). all_kept (seen f ++ text)) empty
      ∙ ap all_kept (head ∙ ap joined (sym (append-nil (head_lines Two limit))));
  bookmark = bookmark (record { setup = setup; limit = limit; trail = [] });
  all = none;
}

module _ (h : Chronicle) (b : Bookmark) (file later : File) (kept : IsKept h b file) (is : later ≡ all_kept (seen file ++ codes "stop\n")) where
  pub closed-text : later ≡ all_kept (journal_text h.setup (journal_of h) ++ codes "stop\n")
  closed-text =
      is
      ∙ ap (λ (f : File). all_kept (seen f ++ codes "stop\n")) kept.text
      ∙ ap (λ t. all_kept (t ++ codes "stop\n")) (append-nil (journal_text h.setup (journal_of h)))

  pub closed-true : IsTrueText h.setup (journal_text h.setup (journal_of h) ++ codes "stop\n") (length h.trail) → IsTrueText h.setup (seen later) (length h.trail)
  closed-true true_text =
      subst (λ t. IsTrueText h.setup t (length h.trail)) (sym (append-nil (journal_text h.setup (journal_of h) ++ codes "stop\n")) ∙ ap seen (sym closed-text)) true_text

-- what happened last was written, and then the line that closes it: as if one were after the other
module _ (before hall : Chronicle) (from : Bookmark) (lines : Lines) (file later : File) (grown : HasGrown before hall) (kept : IsKept before from file)
    (are : AreLines hall from lines) (is : later ≡ all_kept (seen file ++ (lines.text.items ++ codes "stop\n"))) where
  mid : File
  mid = all_kept (seen file ++ lines.text.items)

  kept-mid : IsKept hall lines.bookmark mid
  unfolding mid
  kept-mid = written before hall from lines file mid grown kept are refl

  as-after : later ≡ all_kept (seen mid ++ codes "stop\n")
  unfolding mid
  as-after =
      is
      ∙ ap all_kept (sym (append_assoc (seen file) lines.text.items (codes "stop\n")))
      ∙ ap (λ t. all_kept (t ++ codes "stop\n")) (sym (append-nil (seen file ++ lines.text.items)))

  pub last-text : later ≡ all_kept (journal_text hall.setup (journal_of hall) ++ codes "stop\n")
  last-text = closed-text hall lines.bookmark mid later kept-mid as-after

  pub last-true : (IsHistory hall.setup (journal_of hall) → IsTrueText hall.setup (journal_text hall.setup (journal_of hall) ++ codes "stop\n") (length hall.trail))
      → IsTrueText hall.setup (seen later) (length hall.trail)
  last-true law = closed-true hall lines.bookmark mid later kept-mid as-after (law kept-mid.history)

-- the setup of a hall's core is the hall's
pub setup-of : (h : Chronicle) (core : State) (s : Setup) → s ≡ core.setup → core ≡ state_now h → s ≡ h.setup
setup-of h core s is here = is ∙ ap (λ (x : State). x.setup) here ∙ setup-now h
