-- Laws of entries: an entry and its name with its style say the same. Assumes nothing.
use mathlib.Core.Path.{◌≡◌, refl, sym, ap, ◌∙◌}
use mathlib.Core.Bool.{false}
use mathlib.Core.List.{List, ◌++◌}
use Prim.Native.Nat.{ℕ, ◌-◌, ◌≤◌}
use native.Mathlib.Omega.{arith}
use lib.ListN.{length, take-append-drop}
use lib.Seq.{take-append_seam, drop-append_seam, length-take-le}
use Rattle.text.specs.Bytes.{holds}
use Rattle.laws.proofs.Lists.{length_filled}
use Rattle.config.specs.Names.{holds_colon, zeros}
use Rattle.config.specs.Table.{Named}
use Rattle.config.specs.Meaning.{blank_entry, entry_of, name_in, named_of, Tidy}
use Rattle.config.specs.declared.Entry.{Entry}
use Rattle.config.specs.declared.StyleConfig.{StyleConfig}

pub name_entry : (k : List ℕ) (s : StyleConfig) → name_in (entry_of k s) ≡ k
name_entry k s = take-append_seam k (zeros (32 - length k))

pub tidy_entry : (k : List ℕ) (s : StyleConfig) → length k ≤ 32 → holds_colon k ≡ false → Tidy (entry_of k s)
tidy_entry k s h c =
    record {
      wide = length_filled 0 32 k h;
      within = h;
      rest = drop-append_seam k (zeros (32 - length k));
      plain = rw (name_entry k s) c;
    }

pub tidy_blank : Tidy blank_entry
unfolding holds
tidy_blank = record { wide = refl; within = omega arith; rest = refl; plain = refl }

-- a tidy entry is the entry of its name
pub entry_name : (e : Entry) → Tidy e → entry_of (name_in e) e.style ≡ e
entry_name e t =
    let l : length (name_in e) ≡ e.len = length-take-le e.len e.name (omega arith) in
    let n : name_in e ++ zeros (32 - length (name_in e)) ≡ e.name = rw (l, ← t.rest) (take-append-drop e.len e.name) in
    λ i. record { name = n i; len = l i; style = e.style }

-- two tidy entries of one name and one style are one
pub one_entry : (e f : Entry) → Tidy e → Tidy f → named_of e ≡ named_of f → e ≡ f
one_entry e f t u p = sym (entry_name e t) ∙ (ap (λ (x : Named). entry_of x.name x.style) p ∙ entry_name f u)
