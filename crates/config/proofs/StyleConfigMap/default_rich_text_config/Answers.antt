-- `StyleConfigMap::default_rich_text_config` meets its contract: after the n-th insertion the table is the first n names. Assumes nothing.
use mathlib.Core.Path.{◌≡◌, ap, ◌∙◌}
use Rattle.std.specs.Prelude.{Option}
use Prim.Native.Nat.{ℕ}
use lib.ListN.{take}
use Rattle.text.specs.Bytes.{bytes, holds, starts_of, same_of}
use Rattle.richtext.specs.declared.ExpandType.TheVariants.{After, None}
use Rattle.config.specs.Table.{Table, known, entered, with_entry}
use Rattle.config.specs.BuiltIn.{growing, built_ins}
use Rattle.config.specs.Meaning.{configured}
use Rattle.config.proofs.StyleConfigMap.default_rich_text_config.Goals as goal

-- the first n names, with no default
abbrev first_of : ℕ → Table
first_of n = record { entries = take n built_ins; default = Option.None }

pub returns : goal.returns
unfolding holds known entered starts_of same_of
returns c =
    let after_1 : configured c.with-map.result ≡ first_of 1 = c.with-map.ensures.means ∙ ap (with_entry (bytes "bold") (growing "bold" After).style) c.new-map.ensures.means in
    let after_2 : configured c.with-map-2.result ≡ first_of 2 = c.with-map-2.ensures.means ∙ ap (with_entry (bytes "italic") (growing "italic" After).style) after_1 in
    let after_3 : configured c.with-map-3.result ≡ first_of 3 = c.with-map-3.ensures.means ∙ ap (with_entry (bytes "underline") (growing "underline" After).style) after_2 in
    let after_4 : configured c.with-map-4.result ≡ first_of 4 = c.with-map-4.ensures.means ∙ ap (with_entry (bytes "link") (growing "link" None).style) after_3 in
    let after_5 : configured c.with-map-5.result ≡ first_of 5 = c.with-map-5.ensures.means ∙ ap (with_entry (bytes "highlight") (growing "highlight" None).style) after_4 in
    let after_6 : configured c.with-map-6.result ≡ first_of 6 = c.with-map-6.ensures.means ∙ ap (with_entry (bytes "comment") (growing "comment" None).style) after_5 in
    record { sound = c.with.ensures.sound; means = c.with.ensures.means ∙ ap (with_entry (bytes "code") (growing "code" None).style) after_6 }
