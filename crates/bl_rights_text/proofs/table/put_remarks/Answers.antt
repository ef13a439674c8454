use Rattle.std.proofs.Common.{◌≡◌, ◌++◌, List, ℕ, [], ap, refl, sym, subst, append-nil}
use Rattle.bl_wire.specs.Watch.{EndState, Puts, end_state}
use Rattle.bl_state.proofs.Putting.{on-err}
use Rattle.bl_rights_text.specs.Stretches.{listing_text, stretch_text}
use Rattle.bl_rights_text.specs.Remarks.{admin_line}
use Rattle.bl_rights_text.specs.Table.{remarks_text}
use Rattle.bl_rights_text.specs.declared.overview.Overview.{Overview}
use Rattle.bl_rights_text.specs.declared.stretches.Listing.TheVariants.{Never}
use Rattle.bl_rights_text.specs.declared.stretches.Stretch.TheVariants.{WaysDown, Unread, Idle}
use Rattle.bl_rights_text.proofs.Putting.{HasPut, front-within, put-next, put-none, put-over}
use Rattle.bl_rights_text.proofs.Telling.{nevers-told}
use Rattle.bl_rights_text.proofs.table.put_remarks.Goals as goal

-- what is left behind each stretch
module _ (t : Overview) where
  abbrev last : List ℕ
  last = admin_line t.setup.now

  abbrev from-idle : List ℕ
  from-idle = stretch_text t Idle ++ last

  abbrev from-unread : List ℕ
  from-unread = stretch_text t Unread ++ from-idle

  abbrev from-ways : List ℕ
  from-ways = stretch_text t WaysDown ++ from-unread

  begins : remarks_text t.setup.now ≡ listing_text t Never ++ from-ways
  begins = ap (λ l. l ++ from-ways) (sym (nevers-told t))

  module _ (old a b d e : EndState) where
    nevers : Puts (listing_text t Never) old a → HasPut from-ways (remarks_text t.setup.now) old a
    nevers p = put-next (remarks_text t.setup.now) old (remarks_text t.setup.now) (listing_text t Never) from-ways old a begins (put-none (remarks_text t.setup.now) old) p

    ways : Puts (listing_text t Never) old a → Puts (stretch_text t WaysDown) a b → HasPut from-unread (remarks_text t.setup.now) old b
    ways p q = put-next (remarks_text t.setup.now) old from-ways (stretch_text t WaysDown) from-unread a b refl (nevers p) q

    unread : Puts (listing_text t Never) old a → Puts (stretch_text t WaysDown) a b → Puts (stretch_text t Unread) b d → HasPut from-idle (remarks_text t.setup.now) old d
    unread p q r = put-next (remarks_text t.setup.now) old from-unread (stretch_text t Unread) from-idle b d refl (ways p q) r

    idle : Puts (listing_text t Never) old a → Puts (stretch_text t WaysDown) a b → Puts (stretch_text t Unread) b d → Puts (stretch_text t Idle) d e
        → HasPut last (remarks_text t.setup.now) old e
    idle p q r s = put-next (remarks_text t.setup.now) old from-idle (stretch_text t Idle) last d e refl (unread p q r) s

pub returns-in_err-put_listing-clause-front : goal.returns-in_err-put_listing-clause-front
returns-in_err-put_listing-clause-front g c =
    let old : EndState = end_state g.W.Write.contents c.args.writer.now in
    let t = c.args.overview.now in
    let a : EndState = end_state g.W.Write.contents c.put_listing.new.writer in
    on-err c.from_residual.result _
    (front-within (remarks_text t.setup.now) old (remarks_text t.setup.now) (listing_text t Never) (from-ways t) old a (begins t) (put-none (remarks_text t.setup.now) old) c.in_err-put_listing.ensures.front)

pub returns-in_err-put_stretch-clause-front : goal.returns-in_err-put_stretch-clause-front
returns-in_err-put_stretch-clause-front g c =
    let old : EndState = end_state g.W.Write.contents c.args.writer.now in
    let t = c.args.overview.now in
    let a : EndState = end_state g.W.Write.contents c.put_listing.new.writer in
    let b : EndState = end_state g.W.Write.contents c.put_stretch.new.writer in
    on-err c.from_residual-in_err-put_stretch.result _
    (front-within (remarks_text t.setup.now) old (from-ways t) (stretch_text t WaysDown) (from-unread t) a b refl (nevers t old a b b b c.in_ok-put_listing.ensures.puts)
    c.in_err-put_stretch.ensures.front)

pub returns-in_err-put_stretch-2-clause-front : goal.returns-in_err-put_stretch-2-clause-front
returns-in_err-put_stretch-2-clause-front g c =
    let old : EndState = end_state g.W.Write.contents c.args.writer.now in
    let t = c.args.overview.now in
    let a : EndState = end_state g.W.Write.contents c.put_listing.new.writer in
    let b : EndState = end_state g.W.Write.contents c.put_stretch.new.writer in
    let d : EndState = end_state g.W.Write.contents c.put_stretch-2.new.writer in
    on-err c.from_residual-in_err-put_stretch-2.result _
    (front-within (remarks_text t.setup.now) old (from-unread t) (stretch_text t Unread) (from-idle t) b d refl
    (ways t old a b d d c.in_ok-put_listing.ensures.puts c.in_ok-put_stretch.ensures.puts) c.in_err-put_stretch-2.ensures.front)

pub returns-in_err-put_stretch-3-clause-front : goal.returns-in_err-put_stretch-3-clause-front
returns-in_err-put_stretch-3-clause-front g c =
    let old : EndState = end_state g.W.Write.contents c.args.writer.now in
    let t = c.args.overview.now in
    let a : EndState = end_state g.W.Write.contents c.put_listing.new.writer in
    let b : EndState = end_state g.W.Write.contents c.put_stretch.new.writer in
    let d : EndState = end_state g.W.Write.contents c.put_stretch-2.new.writer in
    let e : EndState = end_state g.W.Write.contents c.put_stretch-3.new.writer in
    on-err c.from_residual-in_err-put_stretch-3.result _
    (front-within (remarks_text t.setup.now) old (from-idle t) (stretch_text t Idle) (last t) d e refl
    (unread t old a b d e c.in_ok-put_listing.ensures.puts c.in_ok-put_stretch.ensures.puts c.in_ok-put_stretch-2.ensures.puts) c.in_err-put_stretch-3.ensures.front)

pub returns-clause-puts : goal.returns-clause-puts
returns-clause-puts g c =
    let old : EndState = end_state g.W.Write.contents c.args.writer.now in
    let t = c.args.overview.now in
    let a : EndState = end_state g.W.Write.contents c.put_listing.new.writer in
    let b : EndState = end_state g.W.Write.contents c.put_stretch.new.writer in
    let d : EndState = end_state g.W.Write.contents c.put_stretch-2.new.writer in
    let e : EndState = end_state g.W.Write.contents c.put_stretch-3.new.writer in
    let f : EndState = end_state g.W.Write.contents c.put.new.writer in
    let so_far = idle t old a b d e c.in_ok-put_listing.ensures.puts c.in_ok-put_stretch.ensures.puts c.in_ok-put_stretch-2.ensures.puts c.in_ok-put_stretch-3.ensures.puts in
    put-over (remarks_text t.setup.now) old [] f refl
    (put-next (remarks_text t.setup.now) old (last t) (last t) [] e f (sym (append-nil (last t))) so_far
    (subst (λ (l : List ℕ). Puts l e f) c.admin_line.ensures c.put.ensures.puts))
