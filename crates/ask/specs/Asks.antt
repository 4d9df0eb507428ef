-- A party's question of one of eight tanks: document 01's of what it is shown, or refusal 1 where there is no such tank.
use Rattle.std.specs.Prelude.{ℕ, ◌≡◌, false, cond, []}
use Rattle.styles.specs.declared.Party.{Party}
use Rattle.styles.specs.declared.Value.{Value}
use Rattle.questions.specs.declared.Asked.{Asked}
use Rattle.questions.specs.declared.Extent.{Extent}
use Rattle.questions.specs.declared.SetAsked.{SetAsked}
use Rattle.questions.specs.declared.Shared.{Shared}
use Rattle.questions.specs.declared.Shown.{Shown}
use Rattle.questions.specs.declared.Told.{Told}
use Rattle.questions.specs.Questions.{set_of, shared_of, extent_of, value_at, styles_at, style_at, stretch_at, styles_for_insert, style_for_insert, range_contains_key, range_has_key_value, styles_of_range}
use Rattle.lists.specs.declared.Listed.{Listed}
use Rattle.lists.specs.Lists.{range_needed, whole_needed, filled_beside}
use Rattle.lists.specs.Anchors.{anchors_needed}
use Rattle.tank.specs.Rules.{View}
use Rattle.tank.specs.declared.Tank.{Tank}
use Rattle.tank.specs.State.{view, Sound}
use Rattle.tanks.specs.declared.Tanks.{Tanks}
use Rattle.tanks.specs.House.{House, no_tank, shown_at}
use Rattle.tanks.specs.Pool.{meaning}

-- of a tank that there is, what the question says of what the party is shown of it; of no such tank (refusal 1), what is handed in for that
abbrev pub ask_at : {R : Type 0} → House → ℕ → Party → R → (View → R) → R
ask_at h t who refused asks = cond (no_tank t) refused (asks (shown_at h who t))

-- what a party is shown of tank t, as a tank by itself
pub record ShownIn (s : Tanks) (t : ℕ) (who : Party) (x : Tank) : Type 0 where
  pub is : view x ≡ shown_at (meaning s) who t
  pub sound : Sound x

-- ---- Questions
-- the value shown for a key at a position
abbrev pub value_asked : House → ℕ → Party → ℕ → ℕ → Shown
value_asked h t who p key = ask_at h t who (Shown.Refused 1) (value_at p key)

-- the marks that a position carries
abbrev pub marks_asked : House → ℕ → Party → ℕ → SetAsked
marks_asked h t who p = ask_at h t who (set_of 1 []) (styles_at p)

-- the j-th of them
abbrev pub mark_asked : House → ℕ → Party → ℕ → ℕ → Asked
mark_asked h t who p j = ask_at h t who (Asked.Refused 1) (style_at p j)

-- from where to where the marks of a position hold
abbrev pub stretch_asked : House → ℕ → Party → ℕ → Extent
stretch_asked h t who p = ask_at h t who (extent_of 1 0 0) (stretch_at p)

-- the marks that an insertion would get
abbrev pub inherit_asked : House → ℕ → Party → ℕ → SetAsked
inherit_asked h t who pos = ask_at h t who (set_of 1 []) (styles_for_insert pos)

-- the j-th of them
abbrev pub inherited_asked : House → ℕ → Party → ℕ → ℕ → Asked
inherited_asked h t who pos j = ask_at h t who (Asked.Refused 1) (style_for_insert pos j)

-- has any position of a .. b a mark with this key?
abbrev pub key_asked : House → ℕ → Party → ℕ → ℕ → ℕ → Told
key_asked h t who a b key = ask_at h t who (Told.Refused 1) (range_contains_key a b key)

-- does every position of a .. b show this value for this key?
abbrev pub all_value_asked : House → ℕ → Party → ℕ → ℕ → ℕ → Value → Told
all_value_asked h t who a b key w = ask_at h t who (Told.Refused 1) (range_has_key_value a b key w)

-- the set that all positions of a .. b share
abbrev pub same_asked : House → ℕ → Party → ℕ → ℕ → Shared
same_asked h t who a b = ask_at h t who (shared_of 1 false []) (styles_of_range a b)

-- ---- Lists
-- no such tank: nothing is listed
abbrev pub no_list : Listed
no_list = filled_beside {A = ℕ} 1 []

-- the count needed for the stretches of a .. b
abbrev pub range_needed_asked : House → ℕ → Party → ℕ → ℕ → Listed
range_needed_asked h t who a b = ask_at h t who no_list (range_needed a b)

-- for those of the whole tank
abbrev pub whole_needed_asked : House → ℕ → Party → Listed
whole_needed_asked h t who = ask_at h t who no_list whole_needed

-- and for its anchors
abbrev pub anchors_needed_asked : House → ℕ → Party → Listed
anchors_needed_asked h t who = ask_at h t who no_list anchors_needed
