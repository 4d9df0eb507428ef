-- The steps that the edits of a tank are made of.
use Rattle.std.specs.Prelude.{ℕ, ◌+◌, ◌≤◌, ◌<◌, ◌^◌, ◌≡◌, true, false, cond, List}
use Rattle.styles.specs.declared.Mark.{Mark}
use Rattle.styles.specs.Order.{id_of}
use Rattle.styles.specs.Values.{value_nan}
use Rattle.styles.specs.declared.Party.{Party}
use Rattle.styles.specs.Marks.{member, place_of, is_of}
use Rattle.styles.specs.Bits.{MaskOf}
use Rattle.runs.specs.Gather.{gather}
use Rattle.runs.specs.Scan.{common_at}
use Rattle.tank.specs.declared.Tank.{Tank}
use Rattle.tank.specs.declared.Room.{Room}
use Rattle.tank.specs.declared.Room.TheVariants.{Known, New, Clash, Full}
use Rattle.tank.specs.Rules.{View, other_of, clash, crowded}
use Rattle.tank.specs.State.{runs_of, table_of, view, Laid, Formed}

-- a tank laid out that means v, over the marks ms, of which `all` are carried
pub record Stepped (v : View) (ms : List Mark) (all : ℕ) (r : Tank) : Type 0 where
  pub laid : Laid r
  pub is : view r ≡ v
  pub table_is : table_of r ≡ ms
  pub all_is : gather (runs_of r) ≡ all

-- what any change of the positions start .. end asks
pub record OnRange (t : Tank) (start end : ℕ) : Type 0 where
  pub laid : Laid t
  pub room : t.runs ≤ 512
  pub up : start ≤ end
  pub fits : end ≤ t.length

-- what laying mark i on a range asks: there is such a mark, and some position gets it
pub record CanLay (t : Tank) (start end i : ℕ) : Type 0 where
  pub range : OnRange t start end
  pub there : i < t.marks
  pub some : start < end

-- what a new mark asks: room for it, and its place in the order
pub record CanAdmit (t : Tank) (i : ℕ) (m : Mark) : Type 0 where
  pub laid : Laid t
  pub few : t.marks < 64
  pub new : member (id_of m) (table_of t) ≡ false
  pub place : i ≡ place_of (id_of m) (table_of t)
  pub number : value_nan m.value ≡ false
  pub room : crowded m (table_of t) ≡ false

-- a tank in form that means the same
pub record Trimmed (t r : Tank) : Type 0 where
  pub formed : Formed r
  pub is : view r ≡ view t

-- what taking a range away asks
pub record CanCut (t : Tank) (start end : ℕ) : Type 0 where
  pub range : OnRange t start end
  pub touched : t.touched ≡ true

-- how a mark stands to the marks that a tank carries
unfoldable pub room_for : Mark → List Mark → Room
room_for m ms =
    cond (member (id_of m) ms)
    (cond (clash m ms) Clash (Known (place_of (id_of m) ms)))
    (cond (crowded m ms) Full (New (place_of (id_of m) ms)))

-- what new positions at pos ask: the set that they get is what its neighbours have in common
pub record CanGrow (t : Tank) (pos len s : ℕ) : Type 0 where
  pub laid : Laid t
  pub touched : t.touched ≡ true
  pub room : t.runs ≤ 512
  pub fits : pos ≤ t.length
  pub small : t.length + len < 2 ^ 63
  pub common : s ≡ common_at (runs_of t) pos

-- what taking mark i off a range asks
pub record CanStrip (t : Tank) (start end i : ℕ) : Type 0 where
  pub range : OnRange t start end
  pub there : i < t.marks

-- what showing a party's marks alone asks: the bits of the other's
pub record CanNarrow (t : Tank) (who : Party) (gone : ℕ) : Type 0 where
  pub range : OnRange t 0 t.length
  pub mask : MaskOf (is_of (other_of who)) (table_of t) gone
