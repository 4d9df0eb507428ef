-- Calls one after another with restores and openings among the edits. Change request 6: demand 3 and the length sum count from an opening or an
-- accepted restore, which replaces all tanks at once.
use Rattle.std.specs.Prelude.{ℕ}
use mathlib.Core.List.{List, [], ◌∷◌, ◌++◌, foldl}
use Rattle.text_lines.specs.Lines.{Got, bad, got}
use Rattle.tanks.specs.declared.Setting.{Setting}
use Rattle.tanks.specs.declared.Tanks.{Tanks}
use Rattle.tanks.specs.declared.Opened.{Opened}
use Rattle.tanks.specs.House.{House, opening, after_at, Call}
use Rattle.tanks.specs.Promises.{Opens, CalledAt}
use Rattle.saved.specs.declared.Restored.{Restored}
use Rattle.saved.specs.Saying.{newest, Said, saying, house_in}
use Rattle.saved.specs.Reads.{restored, Restores}

-- ---- Over the rules
-- a call: an edit of a tank, a restore of a text, or an opening with settings
pub data Step : Type 0 where
  an_edit : Call → Step
  a_restore : List ℕ → Step
  an_opening : List Setting → Step

-- the house after it: a refused edit or restore leaves it as it was; an opening (beside 2 with eight pairs (1, 1)) or an accepted restore replaces all tanks at once
unfoldable pub after_step : House → Step → House
after_step h (an_edit c) = after_at h c.tank c.edit
after_step h (a_restore text) = restored h (saying newest text)
after_step h (an_opening st) = opening st

-- the house after calls one after another
unfoldable pub after_steps : House → List Step → House
after_steps = foldl after_step

-- ---- From where it counts
-- the house that the last opening or accepted restore made (where there is none, the first of all), and the edits since then, refused ones among them
pub record Since : Type 0 where
  pub from : House
  pub edits : List Call

-- counting anew from a house
abbrev pub anew : House → Since
anew h = record { from = h; edits = [] }

-- a text that is refused changes nothing; from what an accepted one says it counts anew
abbrev pub since_text : Since → Got Said → Since
since_text q (bad n) = q
since_text q (got s n text) = anew (house_in s)

-- a call more
unfoldable pub since_step : Since → Step → Since
since_step q (an_edit c) = record { from = q.from; edits = q.edits ++ c ∷ [] }
since_step q (a_restore text) = since_text q (saying newest text)
since_step q (an_opening st) = anew (opening st)

-- after calls one after another from a house
unfoldable pub since_last : House → List Step → Since
since_last h = foldl since_step (anew h)

-- ---- Over the code's own states
-- call after call, whatever the contracts allow: each takes the state that the one before it handed back, accepted or refused
pub data Course : Tanks → List Step → Tanks → Type 0 where
  no_step : {s : Tanks} → Course s [] s
  edited : {s next last : Tanks} {c : Call} {xs : List Step} {number : ℕ} → CalledAt s c.tank c.edit number next → Course next xs last → Course s (an_edit c ∷ xs) last
  restored_by : {s last : Tanks} {text : List ℕ} {r : Restored} {xs : List Step} → Restores s text r → Course r.tanks xs last → Course s (a_restore text ∷ xs) last
  opened_by : {s last : Tanks} {st : List Setting} {r : Opened} {xs : List Step} → Opens st r → Course r.tanks xs last → Course s (an_opening st ∷ xs) last
