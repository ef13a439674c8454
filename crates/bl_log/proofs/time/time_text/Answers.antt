use Rattle.std.proofs.Common.{◌≡◌, ◌++◌, ◌∙◌, ap, codes, false, Some}
use Rattle.jiff_fmt.specs.Text.{datetime_text, zulu_text}
use Rattle.bl_log.specs.Lines.{letter_t}
use Rattle.bl_log.proofs.time.time_text.Goals as goal

pub returns : goal.returns
returns c =
    let p = c.precision.result in
    let is = c.timestamp_text.ensures in
    let lower : p.lowercase ≡ false = ap (λ o. o.0) c.precision.ensures ∙ ap (λ o. o.0) c.new.ensures in
    let between : p.separator ≡ letter_t = ap (λ o. o.1) c.precision.ensures ∙ ap (λ o. o.1) c.new.ensures in
    let digits : p.precision ≡ Some 3 = ap (λ o. o.2) c.precision.ensures in
    let letters = ap (λ l. datetime_text l p.separator p.precision is.0 ++ zulu_text l) lower in
    let middle = ap (λ s. datetime_text false s p.precision is.0 ++ codes "Z") between in
    let places = ap (λ d. datetime_text false letter_t d is.0 ++ codes "Z") digits in
    (is.0, is.1, is.2 ∙ letters ∙ middle ∙ places)
