-- What a journal has kept of a gate's hall, while a pass sees more of that.
use Rattle.std.proofs.Common.{◌≡◌, ◌++◌, ◌∙◌, ap, append-nil, append_assoc, refl, sym, subst, []}
use Rattle.bl_audit.proofs.Staying.{stays}
use Rattle.bl_audit.specs.Bookmarks.{HasGrown, IsBookmark}
use Rattle.bl_audit.specs.declared.bookmark.Bookmark.{Bookmark}
use Rattle.bl_disk.specs.File.{File}
use Rattle.bl_gate.specs.Gates.{Follows, GateId, PassView, hall_seen}
use Rattle.bl_hall.specs.Chronicle.{Chronicle}
use Rattle.bl_keeper.specs.Keeping.{HasKept}
use Rattle.bl_record.specs.Kept.{AreLines, IsKept}
use Rattle.bl_record.specs.declared.journal.Lines.{Lines}

-- a hall has grown where a pass has seen more of it
pub grown_later : (before : Chronicle) (p q : PassView) → HasGrown before (hall_seen p) → Follows p q → HasGrown before (hall_seen q)
grown_later before p q grown follows = record {
  setup = ap (λ (g : GateId). g.base.setup) follows.gate ∙ grown.setup;
  limit = ap (λ (g : GateId). g.base.limit) follows.gate ∙ grown.limit;
  more = grown.more ++ follows.seen.0;
  trail = follows.seen.1 ∙ (ap (λ t. t ++ follows.seen.0) grown.trail ∙ append_assoc before.trail grown.more follows.seen.0);
}

-- what was kept is kept
pub kept_later : (p q : PassView) (b : Bookmark) (file : File) → HasKept (hall_seen p) b file → Follows p q → HasKept (hall_seen q) b file
kept_later p q b file kept follows = record {
  before = kept.before;
  kept = kept.kept;
  grown = grown_later kept.before p q kept.grown follows;
}

-- the bookmark stands in the hall as it is seen
pub stands : (h : Chronicle) (b : Bookmark) (file : File) → HasKept h b file → IsBookmark h b
stands h b file kept = stays kept.before h b kept.grown kept.kept.bookmark

-- all of it was kept
pub kept_now : (h : Chronicle) (b : Bookmark) (file : File) → IsKept h b file → HasKept h b file
kept_now h b file kept = record {
  before = h;
  kept = kept;
  grown = record { setup = refl; limit = refl; more = []; trail = sym (append-nil h.trail) };
}

-- the bookmark stands in the hall of a turn that has seen more
pub stands_later : (p q : PassView) (h : Chronicle) (b : Bookmark) (file : File) → HasKept (hall_seen p) b file → Follows p q → h ≡ hall_seen q → IsBookmark h b
stands_later p q h b file kept follows is = subst (λ (x : Chronicle). IsBookmark x b) (sym is) (stands (hall_seen q) b file (kept_later p q b file kept follows))

-- a pass is taken for a turn, and left
pub follows_through : (p taken turn left : PassView) → taken ≡ p → Follows taken turn → left ≡ turn → Follows p left
follows_through p taken turn left is follows same = subst (λ (x : PassView). Follows p x) (sym same) (subst (λ (x : PassView). Follows x turn) is follows)

-- lines of the hall of a turn were written
pub kept_by : (p q : PassView) (h : Chronicle) (b c : Bookmark) (lines : Lines) (file later : File) → HasKept (hall_seen p) b file → Follows p q → h ≡ hall_seen q
    → ((before hall : Chronicle) → IsKept before b file → HasGrown before hall → AreLines hall b lines → IsKept hall c later) → AreLines h b lines
    → IsKept (hall_seen q) c later
kept_by p q h b c lines file later kept follows is writes are =
    writes kept.before (hall_seen q) kept.kept (grown_later kept.before p q kept.grown follows) (subst (λ (x : Chronicle). AreLines x b lines) is are)
