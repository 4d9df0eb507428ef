-- A line after the other: the first that is wrong is the pair's.
use Rattle.std.specs.Prelude.{Some}
use mathlib.Core.Path.{◌≡◌, sym, ap, ◌∙◌}
use mathlib.Core.List.{List}
use Prim.Native.Nat.{ℕ}
use Rattle.text_lines.specs.Lines.{taken_by, decimal_from}
use Rattle.text_lines.proofs.Laws.{taken_inside}
use Rattle.settings_text.specs.Text.{share_name, limit_name, least_limit}
use Rattle.settings_text.proofs.Laws.{share_wrong, limit_wrong, both_read}
use Rattle.settings_text.proofs.pair_lines.Goals as goal

pub returns-in_default : goal.returns-in_default
returns-in_default c =
    let a = c.args in
    share_wrong a.ordered a.bytes.now a.from a.t a.n (sym c.in_default.is ∙ (let h : c.number.result ≡ taken_by (share_name c.args.t) (decimal_from 1 512) c.args.bytes.now c.args.from = let a = c.args in
    c.number.ensures ∙ ap (λ (name : List ℕ). taken_by name (decimal_from 1 512) a.bytes.now a.from) c.share_name-share.ensures in h))

pub number-requires-2 : goal.number-requires-2
number-requires-2 c =
    let a = c.args in
    taken_inside (share_name a.t) (decimal_from 1 512) a.bytes.now a.from c.in-Some.s c.in-Some.next (sym ((let h : Some (c.in-Some.s, c.in-Some.next) ≡ taken_by (share_name c.args.t) (decimal_from 1 512) c.args.bytes.now c.args.from = sym c.in-Some.is ∙ (let h : c.number.result ≡ taken_by (share_name c.args.t) (decimal_from 1 512) c.args.bytes.now c.args.from = let a = c.args in
    c.number.ensures ∙ ap (λ (name : List ℕ). taken_by name (decimal_from 1 512) a.bytes.now a.from) c.share_name-share.ensures in h) in h)))

pub returns-in_default-number : goal.returns-in_default-number
returns-in_default-number c =
    let a = c.args in
    limit_wrong a.ordered a.bytes.now a.from a.t a.n c.in-Some.s c.in-Some.next ((let h : Some (c.in-Some.s, c.in-Some.next) ≡ taken_by (share_name c.args.t) (decimal_from 1 512) c.args.bytes.now c.args.from = sym c.in-Some.is ∙ (let h : c.number.result ≡ taken_by (share_name c.args.t) (decimal_from 1 512) c.args.bytes.now c.args.from = let a = c.args in
    c.number.ensures ∙ ap (λ (name : List ℕ). taken_by name (decimal_from 1 512) a.bytes.now a.from) c.share_name-share.ensures in h) in h)) (sym c.in_default-number.is ∙ (let h : (let a = c.args in
    c.number-2.result ≡ taken_by (limit_name a.t) (decimal_from (least_limit a.ordered c.in-Some.s) 512) a.bytes.now c.in-Some.next) = let a = c.args in
    c.number-2.ensures
    ∙ ap (λ (least : ℕ). taken_by c.limit_name-limit.result (decimal_from least 512) a.bytes.now c.in-Some.next) c.least_limit.ensures
    ∙ ap (λ (name : List ℕ). taken_by name (decimal_from (least_limit a.ordered c.in-Some.s) 512) a.bytes.now c.in-Some.next) c.limit_name-limit.ensures in h))

pub returns : goal.returns
returns c =
    let a = c.args in
    both_read a.ordered a.bytes.now a.from a.t a.n c.in-Some.s c.in-Some.next ((let h : Some (c.in-Some.s, c.in-Some.next) ≡ taken_by (share_name c.args.t) (decimal_from 1 512) c.args.bytes.now c.args.from = sym c.in-Some.is ∙ (let h : c.number.result ≡ taken_by (share_name c.args.t) (decimal_from 1 512) c.args.bytes.now c.args.from = let a = c.args in
    c.number.ensures ∙ ap (λ (name : List ℕ). taken_by name (decimal_from 1 512) a.bytes.now a.from) c.share_name-share.ensures in h) in h)) c.in-Some-number.l c.in-Some-number.last (sym c.in-Some-number.is ∙ (let h : (let a = c.args in
    c.number-2.result ≡ taken_by (limit_name a.t) (decimal_from (least_limit a.ordered c.in-Some.s) 512) a.bytes.now c.in-Some.next) = let a = c.args in
    c.number-2.ensures
    ∙ ap (λ (least : ℕ). taken_by c.limit_name-limit.result (decimal_from least 512) a.bytes.now c.in-Some.next) c.least_limit.ensures
    ∙ ap (λ (name : List ℕ). taken_by name (decimal_from (least_limit a.ordered c.in-Some.s) 512) a.bytes.now c.in-Some.next) c.limit_name-limit.ensures in h))
