-- An insertion and a new default of a retired type are refused by 18, after 19; of any other they are what they were. Assumes nothing.
use mathlib.Core.Path.{◌≡◌, refl}
use mathlib.Core.Bool.{Bool, true, false, cond}
use mathlib.Core.List.{List}
use Prim.Native.Nat.{ℕ}
use Rattle.std.specs.Prelude.{Option, Result}
use Rattle.config.specs.Table.{Table, refuses, with_entry, with_default, retired_style}
use Rattle.config.specs.Meaning.{configured, Sound, Means, SetsDefault, Inserts}
use Rattle.config.specs.declared.ConfigRefusal.{ConfigRefusal}
use Rattle.config.specs.declared.StyleConfig.{StyleConfig}
use Rattle.config.specs.declared.StyleConfigMap.{StyleConfigMap}

same_table : (b : Bool) (t : Table) → t ≡ cond b t t
same_table true t = refl
same_table false t = refl

module _ (m : StyleConfigMap) (s : StyleConfig) where
  -- a name that is refused, whatever the type
  pub name_refused : Sound m → (k : List ℕ) → refuses k (configured m) ≡ true → Inserts m k s (Result.Err ConfigRefusal.UnfitName) m
  name_refused ok k r = record { refusal = rw r; table = record { sound = ok; means = rw r (same_table (retired_style s) (configured m)) } }

  -- a retired type, of a name that is not
  pub type_refused : Sound m → (k : List ℕ) → refuses k (configured m) ≡ false → retired_style s ≡ true
      → Inserts m k s (Result.Err ConfigRefusal.RetiredType) m
  type_refused ok k r q = record { refusal = rw (r, q); table = record { sound = ok; means = rw q } }

  pub plain_inserts : (k : List ℕ) (d : StyleConfigMap) → Means (with_entry k s (configured m)) d → refuses k (configured m) ≡ false → retired_style s ≡ false
      → Inserts m k s (Result.Ok tt) d
  plain_inserts k d done r q = record { refusal = rw (r, q); table = record { sound = done.sound; means = rw q done.means } }

  pub retired_default : Sound m → retired_style s ≡ true → SetsDefault m s (Result.Err ConfigRefusal.RetiredType) m
  retired_default ok q = record { refusal = rw q; table = record { sound = ok; means = rw q } }

  pub plain_default : (d : StyleConfigMap) → Means (with_default (Option.Some s) (configured m)) d → retired_style s ≡ false
      → SetsDefault m s (Result.Ok tt) d
  plain_default d done q = record { refusal = rw q; table = record { sound = done.sound; means = rw q done.means } }
