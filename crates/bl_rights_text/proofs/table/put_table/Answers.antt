use Rattle.std.proofs.Common.{rules, ◌≡◌, ◌++◌, ◌∙◌, List, ℕ, [], ap, refl, sym, subst, append-nil}
use Rattle.bl_wire.specs.Watch.{EndState, Puts, end_state}
use Rattle.bl_setup.specs.Setup.{Setup}
use Rattle.bl_state.proofs.Putting.{on-err}
use Rattle.bl_rights_text.specs.Fronts.{IsFrontPut}
use Rattle.bl_rights_text.specs.Stretches.{listing_text}
use Rattle.bl_rights_text.specs.Table.{first_line, head_texts, is_told, remarks_head, remarks_text, row_line, rows_text, table_text, widths_of}
use Rattle.bl_rights_text.specs.declared.cells.Widths.{Widths}
use Rattle.bl_rights_text.specs.declared.overview.Overview.{Overview}
use Rattle.bl_rights_text.specs.declared.stretches.Listing.TheVariants.{Rows}
use Rattle.bl_rights_text.proofs.Putting.{HasPut, front-here, front-within, put-next, put-none, put-over}
use Rattle.bl_rights_text.proofs.Telling.{rows-told}
use Rattle.bl_rights_text.proofs.table.put_table.Goals as goal

-- what is left behind each stretch
module _ (name : List ℕ) (setup : Setup) where
  abbrev whole : List ℕ
  whole = table_text name setup

  abbrev heads : List ℕ
  heads = row_line (widths_of setup) head_texts

  abbrev heading : List ℕ
  heading = remarks_head (is_told (remarks_text setup))

  abbrev from-remarks : List ℕ
  from-remarks = heading ++ remarks_text setup

  abbrev from-rows : List ℕ
  from-rows = rows_text setup ++ from-remarks

  abbrev from-heads : List ℕ
  from-heads = heads ++ from-rows

  module _ (old a b d e : EndState) where
    first-put : Puts (first_line name setup) old a → HasPut from-heads whole old a
    first-put p = put-next whole old whole (first_line name setup) from-heads old a refl (put-none whole old) p

    heads-put : Puts (first_line name setup) old a → Puts heads a b → HasPut from-rows whole old b
    heads-put p q = put-next whole old from-heads heads from-rows a b refl (first-put p) q

    rows-put : Puts (first_line name setup) old a → Puts heads a b → Puts (rows_text setup) b d → HasPut from-remarks whole old d
    rows-put p q r = put-next whole old from-rows (rows_text setup) from-remarks b d refl (heads-put p q) r

    remarks-begun : Puts (first_line name setup) old a → Puts heads a b → Puts (rows_text setup) b d → Puts heading d e
        → HasPut (remarks_text setup) whole old e
    remarks-begun p q r s = put-next whole old from-remarks heading (remarks_text setup) d e refl (rows-put p q r) s

pub returns-in_err-widths-clause-front : goal.returns-in_err-widths-clause-front
returns-in_err-widths-clause-front g c =
    let old : EndState = end_state g.W.Write.contents c.args.writer.now in
    let setup = c.args.setup.now in
    let name = c.args.name.now in
    on-err c.from_residual.result _ (front-here (whole name setup) old (whole name setup) old (put-none (whole name setup) old))

pub returns-in_err-first-clause-front : goal.returns-in_err-first-clause-front
returns-in_err-first-clause-front g c =
    let old : EndState = end_state g.W.Write.contents c.args.writer.now in
    let setup = c.args.setup.now in
    let name = c.args.name.now in
    on-err c.from_residual-in_err-first.result _ (front-here (whole name setup) old (whole name setup) old (put-none (whole name setup) old))

pub returns-in_err-heads-clause-front : goal.returns-in_err-heads-clause-front
returns-in_err-heads-clause-front g c =
    let old : EndState = end_state g.W.Write.contents c.args.writer.now in
    let setup = c.args.setup.now in
    let name = c.args.name.now in
    on-err c.from_residual-in_err-heads.result _ (front-here (whole name setup) old (whole name setup) old (put-none (whole name setup) old))

pub returns-in_err-some-clause-front : goal.returns-in_err-some-clause-front
returns-in_err-some-clause-front g c =
    let old : EndState = end_state g.W.Write.contents c.args.writer.now in
    let setup = c.args.setup.now in
    let name = c.args.name.now in
    on-err c.from_residual-in_err-some.result _ (front-here (whole name setup) old (whole name setup) old (put-none (whole name setup) old))

pub returns-in_err-put_listing-clause-front : goal.returns-in_err-put_listing-clause-front
returns-in_err-put_listing-clause-front g c =
    let old : EndState = end_state g.W.Write.contents c.args.writer.now in
    let setup = c.args.setup.now in
    let name = c.args.name.now in
    let a : EndState = end_state g.W.Write.contents c.put.new.writer in
    let b : EndState = end_state g.W.Write.contents c.put-2.new.writer in
    let d : EndState = end_state g.W.Write.contents c.put_listing.new.writer in
    let first-is : c.in_ok-first.first.items ≡ c.deref.result.now = search rules in
    let heads-is : c.in_ok-heads.heads.items ≡ c.deref-2.result.now = search rules in
    let wide : c.in_ok-widths.widths ≡ widths_of setup = c.in_ok-widths.ensures in
    let p : Puts (first_line name setup) old a = subst (λ (l : List ℕ). Puts l old a) (sym first-is ∙ c.in_ok-first.ensures) c.put.ensures.puts in
    let q : Puts (heads name setup) a b = subst (λ (l : List ℕ). Puts l a b)
    (sym heads-is ∙ c.in_ok-heads.ensures ∙ ap (λ (w : Widths). row_line w head_texts) wide) c.put-2.ensures.puts in
    let t : Overview = record { alloc = c.args.alloc; setup = c.args.setup; widths = c.in_ok-widths.widths } in
    let told : listing_text t Rows ≡ rows_text setup = rows-told t wide in
    on-err c.from_residual-in_err-put_listing.result _
    (front-within (whole name setup) old (from-rows name setup) (rows_text setup) (from-remarks name setup) b d refl (heads-put name setup old a b d d p q)
    (subst (λ (l : List ℕ). IsFrontPut l b d) told c.in_err-put_listing.ensures.front))

pub returns-in_err-put_remarks-clause-front : goal.returns-in_err-put_remarks-clause-front
returns-in_err-put_remarks-clause-front g c =
    let old : EndState = end_state g.W.Write.contents c.args.writer.now in
    let setup = c.args.setup.now in
    let name = c.args.name.now in
    let a : EndState = end_state g.W.Write.contents c.put.new.writer in
    let b : EndState = end_state g.W.Write.contents c.put-2.new.writer in
    let d : EndState = end_state g.W.Write.contents c.put_listing.new.writer in
    let e : EndState = end_state g.W.Write.contents c.put-3.new.writer in
    let f : EndState = end_state g.W.Write.contents c.put_remarks.new.writer in
    let first-is : c.in_ok-first.first.items ≡ c.deref.result.now = search rules in
    let heads-is : c.in_ok-heads.heads.items ≡ c.deref-2.result.now = search rules in
    let wide : c.in_ok-widths.widths ≡ widths_of setup = c.in_ok-widths.ensures in
    let p : Puts (first_line name setup) old a = subst (λ (l : List ℕ). Puts l old a) (sym first-is ∙ c.in_ok-first.ensures) c.put.ensures.puts in
    let q : Puts (heads name setup) a b = subst (λ (l : List ℕ). Puts l a b)
    (sym heads-is ∙ c.in_ok-heads.ensures ∙ ap (λ (w : Widths). row_line w head_texts) wide) c.put-2.ensures.puts in
    let t : Overview = record { alloc = c.args.alloc; setup = c.args.setup; widths = c.in_ok-widths.widths } in
    let told : listing_text t Rows ≡ rows_text setup = rows-told t wide in
    let h : Puts (heading name setup) d e = subst (λ (l : List ℕ). Puts l d e) (c.remarks_head.ensures ∙ ap remarks_head c.in_ok-some.ensures) c.put-3.ensures.puts in
    let r : Puts (rows_text setup) b d = subst (λ (l : List ℕ). Puts l b d) told c.in_ok-put_listing.ensures.puts in
    on-err c.from_residual-in_err-put_remarks.result _
    (front-within (whole name setup) old (remarks_text setup) (remarks_text setup) [] e f (sym (append-nil (remarks_text setup)))
    (remarks-begun name setup old a b d e p q r h) c.in_err-put_remarks.ensures.front)

pub returns-clause-puts : goal.returns-clause-puts
returns-clause-puts g c =
    let old : EndState = end_state g.W.Write.contents c.args.writer.now in
    let setup = c.args.setup.now in
    let name = c.args.name.now in
    let a : EndState = end_state g.W.Write.contents c.put.new.writer in
    let b : EndState = end_state g.W.Write.contents c.put-2.new.writer in
    let d : EndState = end_state g.W.Write.contents c.put_listing.new.writer in
    let e : EndState = end_state g.W.Write.contents c.put-3.new.writer in
    let f : EndState = end_state g.W.Write.contents c.put_remarks.new.writer in
    let first-is : c.in_ok-first.first.items ≡ c.deref.result.now = search rules in
    let heads-is : c.in_ok-heads.heads.items ≡ c.deref-2.result.now = search rules in
    let wide : c.in_ok-widths.widths ≡ widths_of setup = c.in_ok-widths.ensures in
    let p : Puts (first_line name setup) old a = subst (λ (l : List ℕ). Puts l old a) (sym first-is ∙ c.in_ok-first.ensures) c.put.ensures.puts in
    let q : Puts (heads name setup) a b = subst (λ (l : List ℕ). Puts l a b)
    (sym heads-is ∙ c.in_ok-heads.ensures ∙ ap (λ (w : Widths). row_line w head_texts) wide) c.put-2.ensures.puts in
    let t : Overview = record { alloc = c.args.alloc; setup = c.args.setup; widths = c.in_ok-widths.widths } in
    let told : listing_text t Rows ≡ rows_text setup = rows-told t wide in
    let h : Puts (heading name setup) d e = subst (λ (l : List ℕ). Puts l d e) (c.remarks_head.ensures ∙ ap remarks_head c.in_ok-some.ensures) c.put-3.ensures.puts in
    let r : Puts (rows_text setup) b d = subst (λ (l : List ℕ). Puts l b d) told c.in_ok-put_listing.ensures.puts in
    put-over (whole name setup) old [] f refl
    (put-next (whole name setup) old (remarks_text setup) (remarks_text setup) [] e f (sym (append-nil (remarks_text setup)))
    (remarks-begun name setup old a b d e p q r h) c.in_ok-put_remarks.ensures.puts)
