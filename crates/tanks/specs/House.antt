-- Document 01 over eight tanks: the settings and what each tank means, with nothing of how they are stored.
use Rattle.std.specs.Prelude.{ℕ, ◌+◌, ◌≤◌, ◌<◌, ◌≡◌, Bool, true, false, cond, ◌&&◌, leb, eqb, get_or, set, replicate}
use mathlib.Core.List.{List, [], ◌∷◌, ◌++◌, foldl}
use Rattle.styles.specs.declared.Identity.{Identity}
use Rattle.styles.specs.declared.Mark.{Mark}
use Rattle.styles.specs.declared.Party.{Party}
use Rattle.tank.specs.Rules.{View, fresh_view, runs_held, Edit, inserting, removing, shown_to, made_by, after, refusal, passes_share, for_insert, back_from, first_refusal, when_accepted}
use Rattle.tank.specs.Lengths.{annotates}
use Rattle.tanks.specs.declared.Setting.{Setting}
use Rattle.tanks.specs.Settings.{share_of, limit_of, accepted, claims, held_after, judgement}

-- the settings, and eight tanks
pub record House : Type 0 where
  pub settings : List Setting
  pub tanks : List View

-- what tank t means; past the last a fresh one, so that any number has an answer (refusal 1 goes before it)
abbrev pub tank_at : House → ℕ → View
tank_at h t = get_or h.tanks t fresh_view

-- the runs that a tank holds, counted from its positions
abbrev pub held : House → ℕ → ℕ
held h t = runs_held (tank_at h t)

-- what a party is shown of it
abbrev pub shown_at : House → Party → ℕ → View
shown_at h who t = shown_to who (tank_at h t)

-- ---- Opening
-- eight fresh tanks
abbrev pub fresh_house : List Setting → House
fresh_house st = record { settings = st; tanks = replicate 8 fresh_view }

-- the pair (1, 1), the smallest that keeps the rule
abbrev pub smallest : Setting
smallest = record { share = 1; limit = 1 }

-- eight of them
abbrev pub smallest_settings : List Setting
smallest_settings = replicate 8 smallest

-- 2: settings break the rule
unfoldable pub open_number : List Setting → ℕ
open_number st = cond (accepted st) 0 2

-- beside 2 stands the state of eight pairs (1, 1)
unfoldable pub opening : List Setting → House
opening st = fresh_house (cond (accepted st) st smallest_settings)

-- ---- Refusals
-- 1: tank is 8 or more
abbrev pub no_tank : ℕ → Bool
no_tank t = leb 8 t

-- the questions for length, touched and runs are refused by 1 alone
abbrev pub ask_number : ℕ → ℕ
ask_number t = cond (no_tank t) 1 0

-- 17: an edit of the lab's that raises its tank's runs would leave it over its share
abbrev pub share_number : Party → ℕ → ℕ → ℕ → ℕ
share_number who share before n = cond (passes_share who share before n) 17 0

-- what an edit is refused by within its tank: the tank's own (`refusal`), then 17
abbrev pub own_at : House → ℕ → Edit → ℕ
own_at h t e =
    first_refusal (refusal e (tank_at h t))
    (share_number (made_by e) (share_of h.settings t) (held h t) (runs_held (after e (tank_at h t))))

-- an edit's number, the first that applies, 0 for none: 1, then those, then 9 and 10 by the runs that it would hold
unfoldable pub refusal_at : House → ℕ → Edit → ℕ
refusal_at h t e =
    cond (no_tank t) 1
    (first_refusal (own_at h t e)
    (judgement h.settings (held h) t (runs_held (after e (tank_at h t)))))

-- ---- Edits
-- tank t becomes v
abbrev pub with_tank : House → ℕ → View → House
with_tank h t v = record { settings = h.settings; tanks = set h.tanks t v }

-- the house after a call: a refused one leaves it as it was
unfoldable pub after_at : House → ℕ → Edit → House
after_at h t e = when_accepted (refusal_at h t e) (with_tank h t (after e (tank_at h t))) h

-- the answer of an insert: of the set that the new positions carry, what the party is shown; refused: the empty one
unfoldable pub inserted_set_at : House → ℕ → Party → ℕ → ℕ → List Mark
inserted_set_at h t who pos len = when_accepted (refusal_at h t (inserting who pos len)) (for_insert pos (shown_at h who t)) []

-- the answer of a removal: the first position of the stretch, or last + 1; refused: 0
unfoldable pub removed_first_at : House → ℕ → Identity → ℕ → ℕ
removed_first_at h t id last = when_accepted (refusal_at h t (removing id last)) (back_from id last (tank_at h t)) 0

-- ---- Calls one after another, refused ones among them
-- an edit, and the tank that it is for
pub record Call : Type 0 where
  pub tank : ℕ
  pub edit : Edit

-- the house after all of them
unfoldable pub after_all : House → List Call → House
after_all = foldl λ h c. after_at h c.tank c.edit

-- ---- What the theorems speak of
-- opened with these settings, after any calls, refused ones among them
unfoldable pub reached : List Setting → List Call → House
reached st cs = after_all (opening st) cs

-- when 10 is due: no number before it applies, and the sum over tanks of max(runs after, share) would pass 512
pub record Ten (h : House) (t : ℕ) (e : Edit) : Type 0 where
  pub tank : t < 8
  pub own : own_at h t e ≡ 0
  pub limit : runs_held (after e (tank_at h t)) ≤ limit_of h.settings t
  pub over : 512 < claims h.settings (held_after (held h) t (runs_held (after e (tank_at h t)))) 8

-- of calls one after another, the sum of f over the accepted ones on tank t
unfoldable pub sum_on : (Edit → ℕ) → ℕ → House → List Call → ℕ
sum_on f t h [] = 0
sum_on f t h (c ∷ cs) =
    cond (eqb c.tank t && eqb (refusal_at h c.tank c.edit) 0) (f c.edit) 0
    + sum_on f t (after_at h c.tank c.edit) cs

-- the first accepted annotate of tank t among calls one after another: those before it leave the tank untouched
pub record FirstOn (t : ℕ) (h : House) (cs : List Call) : Type 0 where
  pub before : List Call
  pub edit : Edit
  pub later : List Call
  pub split : cs ≡ before ++ (record { tank = t; edit = edit } ∷ later)
  pub untouched : (tank_at (after_all h before) t).touched ≡ false
  pub annotate : annotates edit ≡ true
  pub made : refusal_at (after_all h before) t edit ≡ 0

-- the house right after it
abbrev pub house_then : {t : ℕ} {h : House} {cs : List Call} → FirstOn t h cs → House
house_then {t} {h} f = after_at (after_all h f.before) t f.edit
