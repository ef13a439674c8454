-- What a journal has kept of a gate's hall before and after its sessions.
use Rattle.std.proofs.Common.{◌≡◌, ◌++◌, ◌∙◌, List, ap, append_assoc, append-nil, refl, sym, subst, [], ℕ, Option, Some, None}
use Rattle.std.proofs.KnownBytes.{Appends-nil}
use Rattle.std.specs.Io.KnownBytes.{Appends}
use Rattle.bl_audit.specs.Bookmarks.{HasGrown}
use Rattle.bl_audit.specs.declared.bookmark.Bookmark.{Bookmark}
use Rattle.bl_disk.specs.File.{File}
use Rattle.bl_gate.specs.Counts.{StartsWith}
use Rattle.bl_gate.specs.Gates.{GateId, PassView, hall_seen, hall_with}
use Rattle.bl_hall.specs.Chronicle.{Chronicle}
use Rattle.bl_keeper.specs.Keeping.{HasKept}
use Rattle.bl_record.specs.Kept.{IsKept}
use Rattle.bl_serving.specs.Hosted.{IsLeft, IsLeftOf}
use Rattle.bl_status.specs.declared.fault.ProgramFault.{ProgramFault}
use Rattle.bl_trail_run.specs.Recording.{IsWhole}

-- a hall has grown where another pass of its gate has seen more of it
pub grown_on : (before : Chronicle) (p q : PassView) → HasGrown before (hall_seen p) → q.gate ≡ p.gate → StartsWith q.seen p.seen → HasGrown before (hall_seen q)
grown_on before p q grown gate seen = record {
  setup = ap (λ (g : GateId). g.base.setup) gate ∙ grown.setup;
  limit = ap (λ (g : GateId). g.base.limit) gate ∙ grown.limit;
  more = grown.more ++ seen.0;
  trail = seen.1 ∙ (ap (λ t. t ++ seen.0) grown.trail ∙ append_assoc before.trail grown.more seen.0);
}

pub grown_self : (h : Chronicle) → HasGrown h h
grown_self h = record { setup = refl; limit = refl; more = []; trail = sym (append-nil h.trail) }

-- what was kept is kept
pub kept_on : (p q : PassView) (b : Bookmark) (file : File) → HasKept (hall_seen p) b file → q.gate ≡ p.gate → StartsWith q.seen p.seen → HasKept (hall_seen q) b file
kept_on p q b file kept gate seen = record { before = kept.before; kept = kept.kept; grown = grown_on kept.before p q kept.grown gate seen }

-- a pass of the same gate that has seen the same sees the same hall
pub seen_same : (p q : PassView) → q.gate ≡ p.gate → q.seen ≡ p.seen → hall_seen q ≡ hall_seen p
seen_same p q gate seen = ap (λ (g : GateId). hall_with g.base q.seen) gate ∙ ap (hall_with p.gate.base) seen

-- all that a pass has seen was kept, and so of another that has seen the same
pub kept_of : (p q : PassView) (b : Bookmark) (file : File) → IsKept (hall_seen p) b file → q.gate ≡ p.gate → q.seen ≡ p.seen → HasKept (hall_seen q) b file
kept_of p q b file kept gate seen = record {
  before = hall_seen p;
  kept = kept;
  grown = subst (HasGrown (hall_seen p)) (sym (seen_same p q gate seen)) (grown_self (hall_seen p));
}

-- a list that starts with one that starts with a third starts with that
pub starts_on : {A : Type 0} (whole front first same : List A) → StartsWith whole front → StartsWith front first → first ≡ same → StartsWith whole same
starts_on whole front first same w f is = (
  f.0 ++ w.0,
  w.1 ∙ (ap (λ l. l ++ w.0) (f.1 ∙ ap (λ l. l ++ f.0) is) ∙ append_assoc same f.0 w.0),
)

-- the hall of a new gate is the one that it was made over
pub hall_of_new : (pass : PassView) (gate : GateId) (hall : Chronicle) → pass.gate ≡ gate → gate.base ≡ hall → pass.seen ≡ hall.trail → hall_seen pass ≡ hall
hall_of_new pass gate hall of base seen =
    ap (λ (g : GateId). hall_with g.base pass.seen) of ∙ ap (hall_with gate.base) seen ∙ ap (λ (h : Chronicle). hall_with h hall.trail) base

-- nothing was told
pub nothing_appended : (a : Option (List ℕ)) → Appends a a []
nothing_appended a = Appends-nil a

-- what is left of the trail of a hall that has grown from the first one
pub left_on : (begun hall : Chronicle) (fault : Option ProgramFault) (file : File) → HasGrown begun hall → IsLeftOf hall fault file → IsLeft begun fault file
left_on begun hall None file grown whole = (hall, grown, whole)
left_on begun hall (Some fault) file grown left = tt

-- where there is no fault it is whole
pub whole_of : (hall : Chronicle) (fault : Option ProgramFault) (file : File) → IsLeftOf hall fault file → fault ≡ None → IsWhole hall file
whole_of hall None file left is = left
whole_of hall (Some fault) file left is = cc
