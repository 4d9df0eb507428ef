-- Change request 6 over calls one after another, with restores and openings among the edits, refused ones among them: demand 3 in every house and
-- every state that is reached, and the length sum from the last opening or accepted restore.
use Prim.Native.Nat.{ℕ, ◌+◌, ◌≤◌, ◌<◌}
use mathlib.Core.Path.{◌≡◌, refl, sym, ap, ◌∙◌, subst}
use mathlib.Core.Bool.{true, false}
use mathlib.Core.Logic.{◌≢◌}
use mathlib.Core.List.{List, [], ◌∷◌, ◌++◌, map, foldl, foldl-append, append_assoc, append-nil}
use native.Mathlib.Omega.{arith}
use Rattle.text_lines.specs.Lines.{Got, bad, got, line}
use Rattle.styles.specs.declared.Party.{Party}
use Rattle.styles.specs.declared.Party.TheVariants.{Lab}
use Rattle.styles.specs.Answers.{styles_of}
use Rattle.runs.specs.Positions.{sum_below}
use Rattle.tank.specs.Rules.{fresh_length, fresh_view, runs_held, Edit, annotating, inserting, deleting, removing, made_by, after}
use Rattle.tank.specs.Lengths.{gained, lost}
use Rattle.tank.specs.State.{table_of}
use Rattle.tanks.specs.declared.Setting.{Setting}
use Rattle.tanks.specs.declared.Tanks.{Tanks}
use Rattle.tanks.specs.Settings.{share_of, limit_of, claims}
use Rattle.tanks.specs.House.{House, tank_at, held, opening, refusal_at, after_at, inserted_set_at, removed_first_at, Call, after_all, Ten, sum_on, FirstOn, house_then}
use Rattle.tanks.specs.Pool.{runs_in, tank_of, meaning, Sound}
use Rattle.tanks.specs.Promises.{Coming, CalledAt, Calls, set_beside, first_beside, DoneAt}
use Rattle.tanks.proofs.SettingLaws.{runs_claims}
use Rattle.tanks.proofs.Theorems.{Kept, kept_sound, settings_stay, others_stay, number_stays, set_stays, first_stays, NoWant, share_free, delete_no_want, lab_never_9_or_10, ten_then, ten_only}
use Rattle.tanks.proofs.Sequences.{calls_mean}
use Rattle.tanks.proofs.Lengths.{has_first}
use Rattle.tanks.proofs.Unique as states
use Rattle.saved.specs.declared.Restored.{Restored}
use Rattle.saved.specs.Saved.{house_text}
use Rattle.saved.specs.Saying.{newest, Said, saying, house_in}
use Rattle.saved.specs.Reads.{restore_number, restored, Restores}
use Rattle.saved.specs.Courses.{Step, an_edit, a_restore, an_opening, after_step, after_steps, Since, anew, since_text, since_step, since_last, Course, no_step, edited, restored_by, opened_by}
use Rattle.saved.proofs.MarksBack.{AllFit}
use Rattle.saved.proofs.Again as again
use Rattle.text.specs.Bytes.{up_to, holds, starts_of}
use Rattle.saved.proofs.Forms.{InForm, form_sound, form_opening, form_said, still_touched, length_from, settings_all, form_all, length_first}

-- ---- it counts from the last opening or accepted restore
abbrev house_now : Since → House
house_now q = after_all q.from q.edits

since_step_lem : (q : Since) (x : Step) → house_now (since_step q x) ≡ after_step (house_now q) x
unfolding since_step after_step after_all
since_step_lem q (an_edit c) = foldl-append _ q.from q.edits (c ∷ [])
since_step_lem q (a_restore text) = go (saying newest text)
  where
    go : (g : Got Said) → house_now (since_text q g) ≡ restored (house_now q) g
    go (bad n) = refl
    go (got s n rest) = refl
since_step_lem q (an_opening st) = refl

since_steps : (q : Since) (xs : List Step) → house_now (foldl since_step q xs) ≡ after_steps (house_now q) xs
unfolding after_steps
since_steps q [] = refl
since_steps q (x ∷ xs) = since_steps (since_step q x) xs ∙ ap (λ (h : House). after_steps h xs) (since_step_lem q x)

-- the house is what the edits since then make of the one that it made
pub counts_since : (h : House) (xs : List Step) → after_steps h xs ≡ after_all (since_last h xs).from (since_last h xs).edits
unfolding since_last after_all
counts_since h xs = sym (since_steps (anew h) xs)

from_step : (q : Since) (x : Step) → InForm q.from → InForm (since_step q x).from
unfolding since_step
from_step q (an_edit c) form = form
from_step q (a_restore text) form = go (saying newest text) refl
  where
    go : (g : Got Said) → saying newest text ≡ g → InForm (since_text q g).from
    go (bad n) e = form
    go (got s n rest) e = form_said newest text s n rest e
from_step q (an_opening st) form = form_opening st

from_steps : (q : Since) (xs : List Step) → InForm q.from → InForm (foldl since_step q xs).from
from_steps q [] form = form
from_steps q (x ∷ xs) form = from_steps (since_step q x) xs (from_step q x form)

-- and that one is in form
pub form_since : (h : House) (xs : List Step) → InForm h → InForm (since_last h xs).from
unfolding since_last
form_since h xs form = from_steps (anew h) xs form

-- so every house that is reached is
pub form_steps : (h : House) (xs : List Step) → InForm h → InForm (after_steps h xs)
form_steps h xs form = subst InForm (sym (counts_since h xs)) (form_all (since_last h xs).from (since_last h xs).edits (form_since h xs form))

edits_since : (q : Since) (cs : List Call) → foldl since_step q (map an_edit cs) ≡ record { from = q.from; edits = q.edits ++ cs }
unfolding since_step
edits_since q [] = λ i. record { from = q.from; edits = sym (append-nil q.edits) i }
edits_since q (c ∷ cs) =
    edits_since (record { from = q.from; edits = q.edits ++ c ∷ [] }) cs
    ∙ (λ i. record { from = q.from; edits = append_assoc q.edits (c ∷ []) cs i })

-- whatever was before: an accepted restore and then edits count from the house that the text says
pub since_restore : (h : House) (before : List Step) (text : List ℕ) (s : Said) (m : ℕ) (rest : List ℕ) → saying newest text ≡ got s m rest → (cs : List Call)
    → since_last h (before ++ a_restore text ∷ map an_edit cs) ≡ record { from = house_in s; edits = cs }
unfolding since_last since_step
since_restore h before text s m rest e cs =
    foldl-append since_step (anew h) before (a_restore text ∷ map an_edit cs)
    ∙ ap (λ (g : Got Said). foldl since_step (since_text (foldl since_step (anew h) before) g) (map an_edit cs)) e
    ∙ edits_since (anew (house_in s)) cs

-- a refused one is no step
pub since_refused : (h : House) (before after : List Step) (text : List ℕ) (n : ℕ) → saying newest text ≡ bad n
    → since_last h (before ++ a_restore text ∷ after) ≡ since_last h (before ++ after)
unfolding since_last since_step
since_refused h before after text n e =
    foldl-append since_step (anew h) before (a_restore text ∷ after)
    ∙ ap (λ (g : Got Said). foldl since_step (since_text (foldl since_step (anew h) before) g) after) e
    ∙ sym (foldl-append since_step (anew h) before after)

-- an opening and then edits count from its fresh tanks
pub since_opening : (h : House) (before : List Step) (st : List Setting) (cs : List Call)
    → since_last h (before ++ an_opening st ∷ map an_edit cs) ≡ record { from = opening st; edits = cs }
unfolding since_last since_step
since_opening h before st cs =
    foldl-append since_step (anew h) before (an_opening st ∷ map an_edit cs) ∙ edits_since (anew (opening st)) cs

-- ---- over the rules: from a house in form, after any calls, restores and openings, refused ones among them
module _ (h : House) (form : InForm h) (xs : List Step) where
  -- the house that is reached, and the last opening or accepted restore with the edits since then
  abbrev now : House
  now = after_steps h xs

  abbrev last : Since
  last = since_last h xs

  -- the settings are those that the last opening or accepted restore brought
  pub steps_settings : now.settings ≡ last.from.settings
  steps_settings = ap (λ (g : House). g.settings) (counts_since h xs) ∙ settings_all last.from last.edits

  steps_kept : Kept now
  steps_kept = (form_steps h xs form).kept

  -- no tank holds more runs than its limit
  pub steps_limits : (u : ℕ) → u < 8 → held now u ≤ limit_of now.settings u
  steps_limits u l = steps_kept.limits u l

  -- the sum over tanks of the larger of runs held and share is within 512, and so are the runs
  pub steps_512 : claims now.settings (held now) 8 ≤ 512
  steps_512 = steps_kept.sum

  pub steps_runs_512 : sum_below (held now) 8 ≤ 512
  steps_runs_512 = omega (arith, runs_claims now.settings (held now) 8, steps_512)

  -- an edit that leaves its tank at or under its share is refused by neither 9 nor 10
  pub steps_share : (t : ℕ) (e : Edit) → t < 8 → runs_held (after e (tank_at now t)) ≤ share_of now.settings t → NoWant (refusal_at now t e)
  steps_share t e l le = (share_free now t e steps_kept l le).1

  -- nor is a deletion, or an edit of the lab's
  pub steps_delete : (t : ℕ) (who : Party) (a b : ℕ) → NoWant (refusal_at now t (deleting who a b))
  steps_delete t who a b = delete_no_want now t who a b steps_kept

  pub steps_lab : (t : ℕ) (e : Edit) → made_by e ≡ Lab → NoWant (refusal_at now t e)
  steps_lab t e lab = lab_never_9_or_10 now t e steps_kept lab

  -- ---- the length sum
  module _ (t : ℕ) (t8 : t < 8) where
    -- a tank that is touched after the last opening or accepted restore stays so, and its length is the one that it had then, plus all lengths inserted
    -- and less all lengths deleted by the accepted calls on it since
    pub touched_since : (tank_at last.from t).touched ≡ true → (tank_at now t).touched ≡ true
    touched_since e = ap (λ (g : House). (tank_at g t).touched) (counts_since h xs) ∙ still_touched last.from (form_since h xs form) last.edits t t8 e

    pub length_since : (tank_at last.from t).touched ≡ true
        → (tank_at now t).length + sum_on lost t last.from last.edits ≡ (tank_at last.from t).length + sum_on gained t last.from last.edits
    length_since e =
        ap (λ (g : House). (tank_at g t).length + sum_on lost t last.from last.edits) (counts_since h xs)
        ∙ length_from last.from (form_since h xs form) last.edits t t8 e

    -- one that is untouched then, and touched now, has a first accepted annotate, and its length is T, plus and less those since
    pub first_since : (tank_at last.from t).touched ≡ false → (tank_at now t).touched ≡ true → FirstOn t last.from last.edits
    first_since un to =
        has_first last.from last.edits t t8 (form_since h xs form).kept.eight un
        (sym (ap (λ (g : House). (tank_at g t).touched) (counts_since h xs)) ∙ to)

    pub length_since_first : (f : FirstOn t last.from last.edits)
        → (tank_at now t).length + sum_on lost t (house_then f) f.later ≡ fresh_length + sum_on gained t (house_then f) f.later
    length_since_first f =
        ap (λ (g : House). (tank_at g t).length + sum_on lost t (house_then f) f.later) (counts_since h xs)
        ∙ length_first last.from (form_since h xs form) last.edits t t8 f

    -- one that is untouched now is a fresh one: its length is T
    pub fresh_since : (tank_at now t).touched ≡ false → tank_at now t ≡ fresh_view
    fresh_since e = (form_steps h xs form).fresh t t8 e

-- ---- over the code's own states
-- what the contracts allow, call after call, means the same calls of the rules
pub course_means : {s last : Tanks} {xs : List Step} → Course s xs last → meaning last ≡ after_steps (meaning s) xs
unfolding after_steps after_step
course_means no_step = refl
course_means (edited {xs = xs} p c) = course_means c ∙ ap (λ (h : House). after_steps h xs) p.is
course_means (restored_by {xs = xs} p c) = course_means c ∙ ap (λ (h : House). after_steps h xs) p.is
course_means (opened_by {xs = xs} p c) = course_means c ∙ ap (λ (h : House). after_steps h xs) p.is

-- and leaves a sound state
pub course_sound : {s last : Tanks} {xs : List Step} → Sound s → Course s xs last → Sound last
course_sound ok no_step = ok
course_sound ok (edited p c) = course_sound p.sound c
course_sound ok (restored_by p c) = course_sound p.sound c
course_sound ok (opened_by p c) = course_sound p.sound c

-- any two courses of the same calls end in the same state
pub one_course : {s a b : Tanks} {xs : List Step} → Sound s → Course s xs a → Course s xs b → a ≡ b
one_course {a = a} {b = b} ok p q = states.unique a b (course_sound ok p) (course_sound ok q) (course_means p ∙ sym (course_means q))

-- a restore of a sound state: a refused one is no step, and hands back the very same state
pub restore_refused : (s : Tanks) → Sound s → (text : List ℕ) (r : Restored) → Restores s text r → 0 < r.number → r.tanks ≡ s
restore_refused s ok text r p h = again.refused_same s ok text r p (go (saying newest text) p.number_is)
  where
    go : (g : Got Said) → r.number ≡ restore_number g → r.number ≡ 13
    go (bad n) e = e
    go (got x n rest) e = absurd (omega arith)

-- what an accepted one hands back: the settings and all eight tanks of the text, and nothing of what there was
pub record Replaced (text : List ℕ) (r : Restored) : Type 0 where
  pub said : Said
  pub lines : ℕ
  pub rest : List ℕ
  pub is : saying newest text ≡ got said lines rest
  pub means : meaning r.tanks ≡ house_in said

pub restore_replaces : (s : Tanks) (text : List ℕ) (r : Restored) → Restores s text r → r.number ≡ 0 → Replaced text r
restore_replaces s text r p z = go (saying newest text) refl
  where
    go : (g : Got Said) → saying newest text ≡ g → Replaced text r
    go (bad n) e = let k : r.number ≡ 13 = p.number_is ∙ ap restore_number e in absurd (omega arith)
    go (got x n rest) e = record { said = x; lines = n; rest = rest; is = e; means = p.is ∙ ap (restored (meaning s)) e }

-- ---- demand 3 in every state that is reached from a sound one, as one that an opening or a restore hands back
module _ (s : Tanks) (ok : Sound s) (xs : List Step) (u : Tanks) (course : Course s xs u) where
  reached_sound : Sound u
  reached_sound = course_sound ok course

  reached_kept : Kept (meaning u)
  reached_kept = kept_sound u reached_sound

  -- no tank holds more runs than its limit
  pub course_limits : (t : ℕ) → t < 8 → held (meaning u) t ≤ limit_of u.settings t
  unfolding meaning
  course_limits t l = reached_kept.limits t l

  -- the sum over tanks of the larger of runs held and share is within 512, and so are the runs
  pub course_512 : claims u.settings (held (meaning u)) 8 ≤ 512
  unfolding meaning
  course_512 = reached_kept.sum

  pub course_runs_512 : sum_below (held (meaning u)) 8 ≤ 512
  course_runs_512 = omega (arith, runs_claims u.settings (held (meaning u)) 8, course_512)

  -- and so for the runs that the code counts
  pub course_counted : (t : ℕ) → t < 8 → runs_in u.heads t ≤ limit_of u.settings t
  course_counted t l = reached_sound.limits t l

  -- ---- an edit of a state that is reached
  module _ (t : ℕ) (e : Edit) (number : ℕ) (next : Tanks) (called : CalledAt u t e number next) where
    -- one that leaves its tank at or under its share is refused by neither 9 nor 10
    pub course_share : t < 8 → runs_held (after e (tank_at (meaning u) t)) ≤ share_of u.settings t → NoWant number
    unfolding meaning
    course_share l le = subst NoWant (sym called.number_is) (share_free (meaning u) t e reached_kept l le).1

    -- nor is one of the lab's
    pub course_lab : made_by e ≡ Lab → NoWant number
    course_lab lab = subst NoWant (sym called.number_is) (lab_never_9_or_10 (meaning u) t e reached_kept lab)

    -- 10 comes exactly when no earlier number applies and the sum would pass 512
    pub course_ten_then : Ten (meaning u) t e → number ≡ 10
    course_ten_then p = called.number_is ∙ ten_then (meaning u) t e p

    pub course_ten_only : number ≡ 10 → Ten (meaning u) t e
    course_ten_only p = ten_only (meaning u) t e (sym called.number_is ∙ p)

    -- a refused one hands back the very same state
    pub course_refused : 0 < number → next ≡ u
    course_refused p = states.refused_same u t e number next reached_sound called p

    -- no edit changes the settings
    pub course_settings : next.settings ≡ u.settings
    unfolding meaning
    course_settings = ap (λ (h : House). h.settings) called.is ∙ settings_stay (meaning u) t e

    -- it changes no other tank
    pub course_others : (w : ℕ) → w ≢ t → tank_at (meaning next) w ≡ tank_at (meaning u) w
    course_others w ne = ap (λ (h : House). tank_at h w) called.is ∙ others_stay (meaning u) t e w ne

    -- and no answer of another, refusal 10 aside
    pub course_answers : (w : ℕ) → w ≢ t → (d : Edit) (a b : Coming) → DoneAt u w d a → DoneAt next w d b → a.number ≢ 10 → b.number ≢ 10
        → (b.number ≡ a.number) × (b.styles ≡ a.styles) × (b.first ≡ a.first)
    course_answers w ne d a b p q na nb =
        let g : House = after_at (meaning u) t e in
        let before : a.number ≡ refusal_at (meaning u) w d = p.called.number_is in
        let behind : b.number ≡ refusal_at g w d = q.called.number_is ∙ ap (λ (h : House). refusal_at h w d) called.is in
        let no : refusal_at (meaning u) w d ≢ 10 = λ z. na (before ∙ z) in
        let nor : refusal_at g w d ≢ 10 = λ z. nb (behind ∙ z) in (
          behind ∙ number_stays (meaning u) t e w ne d nor no ∙ sym before,
          q.styles_are ∙ ap (λ (h : House). styles_of (set_beside (inserted_set_at h w) d)) called.is ∙ ap styles_of (sets d nor no) ∙ sym p.styles_are,
          q.first_is ∙ ap (λ (h : House). first_beside (removed_first_at h w) d) called.is ∙ firsts d nor no ∙ sym p.first_is,
        )
      where
        sets : (d : Edit) → refusal_at (after_at (meaning u) t e) w d ≢ 10 → refusal_at (meaning u) w d ≢ 10
            → set_beside (inserted_set_at (after_at (meaning u) t e) w) d ≡ set_beside (inserted_set_at (meaning u) w) d
        sets (annotating x y m) p q = refl
        sets (inserting who pos len) p q = set_stays (meaning u) t e w ne who pos len p q
        sets (deleting who x y) p q = refl
        sets (removing id last) p q = refl

        firsts : (d : Edit) → refusal_at (after_at (meaning u) t e) w d ≢ 10 → refusal_at (meaning u) w d ≢ 10
            → first_beside (removed_first_at (after_at (meaning u) t e) w) d ≡ first_beside (removed_first_at (meaning u) w) d
        firsts (annotating x y m) p q = refl
        firsts (inserting who pos len) p q = refl
        firsts (deleting who x y) p q = refl
        firsts (removing id last) p q = first_stays (meaning u) t e w ne id last p q

  -- a deletion is refused by neither 9 nor 10
  pub course_delete : (t : ℕ) (who : Party) (a b number : ℕ) (next : Tanks) → CalledAt u t (deleting who a b) number next → NoWant number
  course_delete t who a b number next called = subst NoWant (sym called.number_is) (delete_no_want (meaning u) t who a b reached_kept)

  -- ---- the length sum
  -- the last opening or accepted restore, and the edits since then
  abbrev since : Since
  since = since_last (meaning s) xs

  means : meaning u ≡ after_steps (meaning s) xs
  means = course_means course

  -- the settings are those that it brought
  pub course_settings_since : u.settings ≡ since.from.settings
  unfolding meaning
  course_settings_since = ap (λ (h : House). h.settings) means ∙ steps_settings (meaning s) (form_sound s ok) xs

  module _ (t : ℕ) (t8 : t < 8) where
    -- touched then: touched now, and the length that it had then, plus all lengths inserted and less all lengths deleted by the accepted calls on it since
    pub course_touched : (tank_at since.from t).touched ≡ true → (tank_at (meaning u) t).touched ≡ true
    course_touched e = ap (λ (h : House). (tank_at h t).touched) means ∙ touched_since (meaning s) (form_sound s ok) xs t t8 e

    pub course_length : (tank_at since.from t).touched ≡ true
        → (tank_at (meaning u) t).length + sum_on lost t since.from since.edits ≡ (tank_at since.from t).length + sum_on gained t since.from since.edits
    course_length e =
        ap (λ (h : House). (tank_at h t).length + sum_on lost t since.from since.edits) means ∙ length_since (meaning s) (form_sound s ok) xs t t8 e

    -- untouched then and touched now: there is a first accepted annotate, and it is T, plus and less those since
    pub course_first : (tank_at since.from t).touched ≡ false → (tank_at (meaning u) t).touched ≡ true → FirstOn t since.from since.edits
    course_first un to = first_since (meaning s) (form_sound s ok) xs t t8 un (sym (ap (λ (h : House). (tank_at h t).touched) means) ∙ to)

    pub course_length_first : (f : FirstOn t since.from since.edits)
        → (tank_at (meaning u) t).length + sum_on lost t (house_then f) f.later ≡ fresh_length + sum_on gained t (house_then f) f.later
    course_length_first f =
        ap (λ (h : House). (tank_at h t).length + sum_on lost t (house_then f) f.later) means ∙ length_since_first (meaning s) (form_sound s ok) xs t t8 f

    -- untouched now: a fresh one, of length T
    pub course_fresh : (tank_at (meaning u) t).touched ≡ false → tank_at (meaning u) t ≡ fresh_view
    course_fresh e = (form_sound u reached_sound).fresh t t8 e

-- ---- the same from any sound state by edits alone, as from what an accepted restore handed back
module _ (s : Tanks) (ok : Sound s) (cs : List Call) (u : Tanks) (calls : Calls s cs u) (t : ℕ) (t8 : t < 8) where
  edits_mean : meaning u ≡ after_all (meaning s) cs
  edits_mean = calls_mean calls

  pub calls_touched : (tank_at (meaning s) t).touched ≡ true → (tank_at (meaning u) t).touched ≡ true
  calls_touched e = ap (λ (h : House). (tank_at h t).touched) edits_mean ∙ still_touched (meaning s) (form_sound s ok) cs t t8 e

  pub calls_length : (tank_at (meaning s) t).touched ≡ true
      → (tank_at (meaning u) t).length + sum_on lost t (meaning s) cs ≡ (tank_at (meaning s) t).length + sum_on gained t (meaning s) cs
  calls_length e = ap (λ (h : House). (tank_at h t).length + sum_on lost t (meaning s) cs) edits_mean ∙ length_from (meaning s) (form_sound s ok) cs t t8 e

  pub calls_first : (tank_at (meaning s) t).touched ≡ false → (tank_at (meaning u) t).touched ≡ true → FirstOn t (meaning s) cs
  calls_first un to =
      has_first (meaning s) cs t t8 (form_sound s ok).kept.eight un (sym (ap (λ (h : House). (tank_at h t).touched) edits_mean) ∙ to)

  pub calls_length_first : (f : FirstOn t (meaning s) cs)
      → (tank_at (meaning u) t).length + sum_on lost t (house_then f) f.later ≡ fresh_length + sum_on gained t (house_then f) f.later
  calls_length_first f =
      ap (λ (h : House). (tank_at h t).length + sum_on lost t (house_then f) f.later) edits_mean ∙ length_first (meaning s) (form_sound s ok) cs t t8 f

-- ---- a restore, then edits: whatever was before it, the restored length stands in place of T
module _ (s : Tanks) (ok : Sound s) (before : List Step) (text : List ℕ) (x : Said) (m : ℕ) (rest : List ℕ) (said : saying newest text ≡ got x m rest) (cs : List Call) (u : Tanks) (course : Course s (before ++ a_restore text ∷ map an_edit cs) u) (t : ℕ) (t8 : t < 8) where
  by_restore : since_last (meaning s) (before ++ a_restore text ∷ map an_edit cs) ≡ record { from = house_in x; edits = cs }
  by_restore = since_restore (meaning s) before text x m rest said cs

  -- touched in the text: its length there, plus all lengths inserted and less all lengths deleted by the accepted calls on it since
  pub restored_length : (tank_at (house_in x) t).touched ≡ true
      → (tank_at (meaning u) t).length + sum_on lost t (house_in x) cs ≡ (tank_at (house_in x) t).length + sum_on gained t (house_in x) cs
  restored_length =
      subst
      (λ (q : Since). (tank_at q.from t).touched ≡ true
      → (tank_at (meaning u) t).length + sum_on lost t q.from q.edits ≡ (tank_at q.from t).length + sum_on gained t q.from q.edits)
      by_restore
      (course_length s ok (before ++ a_restore text ∷ map an_edit cs) u course t t8)

  -- untouched in the text: T, plus and less those since its first accepted annotate
  pub restored_length_first : (f : FirstOn t (house_in x) cs)
      → (tank_at (meaning u) t).length + sum_on lost t (house_then f) f.later ≡ fresh_length + sum_on gained t (house_then f) f.later
  restored_length_first =
      subst
      (λ (q : Since). (f : FirstOn t q.from q.edits)
      → (tank_at (meaning u) t).length + sum_on lost t (house_then f) f.later ≡ fresh_length + sum_on gained t (house_then f) f.later)
      by_restore
      (course_length_first s ok (before ++ a_restore text ∷ map an_edit cs) u course t t8)

-- ---- a spare box that restores what was written of a state goes on as the first box would: after the same calls it is in the very same state
pub spare_box : (s : Tanks) → Sound s → ((t : ℕ) → t < 8 → AllFit (table_of (tank_of s t))) → {v a b : Tanks} {xs : List Step} → Course v (a_restore (house_text newest (meaning s)) ∷ xs) a → Course s xs b → a ≡ b
spare_box s ok fit {v} {a} {b} {xs} (restored_by {r = r} p c) q =
    one_course ok (subst (λ (x : Tanks). Course x xs a) (again.newest_same s ok fit v r p).2 c) q

-- ---- closed examples
-- an empty text is wrong at line 1
empty_text : saying newest [] ≡ bad 1
unfolding saying line up_to holds starts_of
empty_text = refl

module _ (h : House) (c d : Call) (st : List Setting) where
  -- so a restore of it is no step, and the edits before it and behind it count from one house
  refused_between : (since_last h (an_edit c ∷ a_restore [] ∷ an_edit d ∷ []) ≡ record { from = h; edits = c ∷ d ∷ [] })
      × (after_steps h (an_edit c ∷ a_restore [] ∷ []) ≡ after_at h c.tank c.edit)
  unfolding since_last since_step after_steps after_step saying line up_to holds starts_of
  refused_between = (refl, refl)

  -- behind an opening only the edits since then count
  opened_between : (since_last h (an_edit c ∷ an_opening st ∷ an_edit d ∷ []) ≡ record { from = opening st; edits = d ∷ [] })
      × (after_steps h (an_edit c ∷ an_opening st ∷ an_edit d ∷ []) ≡ after_at (opening st) d.tank d.edit)
  unfolding since_last since_step after_steps after_step
  opened_between = (refl, refl)
