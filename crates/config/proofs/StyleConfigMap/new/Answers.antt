-- `StyleConfigMap::new` meets its contract: 32 blank places are sound and mean no entry. Assumes nothing.
use mathlib.Core.Path.{refl}
use lib.ListN.{get_or-replicate}
use borrow.Author.Rules.{rules}
use Rattle.config.specs.Table.{once}
use Rattle.config.specs.Meaning.{blank_entry, no_entry}
use Rattle.config.proofs.EntryLaws.{tidy_blank}
use Rattle.config.proofs.StyleConfigMap.new.Goals as goal

pub returns : goal.returns
unfolding once
returns c =
    record {
      sound = record { wide = refl; within = search rules; tidy = λ i h. rw (get_or-replicate 32 i blank_entry no_entry h) tidy_blank; rest = refl; names = refl };
      means = refl;
    }
