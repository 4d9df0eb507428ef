-- Exactly once, for any list of runs: however many runs there were over a log that may grow, each from the place on that the file said, each seeing
-- any front of the log, and any of them cut off before its file was replaced, the last file is that of one undisturbed run over the longest front
-- that a run saw which was done.
use mathlib.Core.Path.{◌≡◌, refl, sym, ap, subst, ◌∙◌}
use mathlib.Core.Bool.{Bool, true, false, cond}
use mathlib.Core.List.{List, [], ◌∷◌, ◌++◌}
use Prim.Native.Nat.{ℕ, ◌+◌, ◌-◌, ◌^◌, ◌≤◌, ◌<◌, min, max}
use native.Mathlib.Decide.{dec_lt}
use native.Mathlib.Omega.{arith}
use lib.Dec.{eqb}
use lib.ListN.{length, take, drop, length-take, length-drop, take-append-drop, drop_of_length-le}
use lib.Seq.{take-append-le, take-add, drop-append-le, drop-drop}
use Rattle.tanks.specs.declared.Tanks.{Tanks}
use Rattle.tanks.specs.House.{House, refusal_at, after_at}
use Rattle.tanks.specs.Pool.{Sound, meaning}
use Rattle.tanks.proofs.Unique.{unique}
use Rattle.script.specs.declared.Call.{Call}
use Rattle.script.specs.declared.Event.{Event}
use Rattle.script.specs.declared.Progress.{Progress}
use Rattle.script.specs.Lines.{has_end, grown_of, State, read_of, brings_of, after_of, turned_of, counted_of}
use Rattle.day_log.specs.declared.Stop.{Stop}
use Rattle.day_log.specs.declared.Took.{Took}
use Rattle.day_log.specs.Log.{Course, logged, going, call_of, read_on, stopped, on_line, after_line, after_byte, after_bytes}
use Rattle.day_log.specs.Groups.{Between, begun, after_first, TakesGroups}
use Rattle.day_log.proofs.Grouping.{first_more}
use Rattle.keeper_file.specs.declared.Back.{Back}
use Rattle.keeper_file.specs.declared.Fed.{Fed}
use Rattle.keeper_file.specs.File.{file_of, further_by, most_bytes, kept_then, FiledAgain, ReadsBack, Reads}
use Rattle.keeper_file.proofs.Kept.{read_written}
use Rattle.keeper_file.proofs.Once.{Like, Once, once, begins, like_bytes, between_left, between_right}
use Rattle.keeper_file.proofs.Renewal.{file_fits, renewed_kept}

-- ---- What the theorem speaks of
-- a run: cut off before its file is replaced, or done, and it saw so many bytes of the log from its start on
pub data Run : Type 0 where
  cut_off : Run
  done : ℕ → Run

-- the most that a run saw which was done
abbrev pub longest : List Run → ℕ
longest [] = 0
longest (cut_off ∷ more) = longest more
longest (done seen ∷ more) = max seen (longest more)

-- a run that is done, from the text of the file before it to the text after it: the file is read back, what is seen of the log behind its place is
-- read, and the file is replaced where that is to be
pub record Done (log : List ℕ) (seen : ℕ) (before after : List ℕ) : Type 0 where
  pub tanks : Tanks
  pub back : Back
  pub fed : Fed
  pub buffer : List ℕ
  pub out : List ℕ
  pub room : most_bytes ≤ length buffer
  pub says : ReadsBack tanks before back
  pub reads : Reads back.tanks back.place (drop back.place (take seen log)) before buffer fed out
  pub is : after ≡ kept_then fed.file out before

-- runs one after another, from text to text; one that is cut off leaves the file as it was
pub data Runs (log : List ℕ) : List Run → List ℕ → List ℕ → Type 0 where
  no_run : {text : List ℕ} → Runs log [] text text
  cut_run : {runs : List Run} {before after : List ℕ} → Runs log runs before after → Runs log (cut_off ∷ runs) before after
  done_run : {runs : List Run} {seen : ℕ} {before next after : List ℕ} → Done log seen before next → Runs log runs next after → Runs log (done seen ∷ runs) before after

-- the last file says the tanks and the place of taking it all at once
pub record AsOne (place : ℕ) (whole : Took) (last : List ℕ) : Type 0 where
  pub is : last ≡ file_of (place + whole.at) (meaning whole.tanks)
  pub again : FiledAgain (place + whole.at) (meaning whole.tanks)

-- ---- Lines are counted as far as 64 bits go
turned_few : (n : ℕ) (p : Progress) (c : Call) → n < 2 ^ 64 → (turned_of n p c).newlines < 2 ^ 64
turned_few n Progress.Bad c h = h
turned_few n Progress.More c h = omega arith
turned_few n Progress.Ready c h = omega arith

after_few : (s : State) (rest : List ℕ) → s.newlines < 2 ^ 64 → (after_of s rest).newlines < 2 ^ 64
unfolding after_of
after_few s rest h = by (has_end rest) where
  by : (b : Bool) → (cond {A = State} b (turned_of s.newlines (read_of s rest).progress (read_of s rest).call) (record { held = grown_of s.held rest; call = s.call; newlines = s.newlines })).newlines < 2 ^ 64
  by true = turned_few s.newlines (read_of s rest).progress (read_of s rest).call h
  by false = h

on_few : (e : Event) (x : Course) (r : State) (c : Call) → r.newlines < 2 ^ 64 → (on_line e x r c).reader.newlines < 2 ^ 64
unfolding on_line
on_few Event.Nothing x r c h = by (logged c.op) where
  by : (b : Bool) → (cond {A = Course} b (read_on x r) (stopped x r.newlines 13)).reader.newlines < 2 ^ 64
  by true = h
  by false = omega arith
on_few Event.Bad x r c h = omega arith
on_few Event.Call x r c h = by (logged c.op) (eqb (refusal_at x.house (call_of c).tank (call_of c).edit) 0) where
  number : ℕ
  number = refusal_at x.house (call_of c).tank (call_of c).edit

  by : (known good : Bool)
      → (cond {A = Course} known (cond {A = Course} good (record { house = after_at x.house (call_of c).tank (call_of c).edit; reader = r; edits = counted_of x.edits; stop = Stop.Going }) (stopped x r.newlines number)) (stopped x r.newlines 13)).reader.newlines < 2 ^ 64
  by true true = h
  by true false = omega arith
  by false good = omega arith

byte_few : (x : Course) (byte : ℕ) → x.reader.newlines < 2 ^ 64 → (after_byte x byte).reader.newlines < 2 ^ 64
unfolding after_byte
byte_few x byte h = by (going x.stop) where
  by : (b : Bool) → (cond {A = Course} b (after_line x (byte ∷ [])) x).reader.newlines < 2 ^ 64
  by true = on_few (brings_of x.reader (byte ∷ [])) x (after_of x.reader (byte ∷ [])) (read_of x.reader (byte ∷ [])).call (after_few x.reader (byte ∷ []) h)
  by false = h

bytes_few : (x : Course) (bytes : List ℕ) → x.reader.newlines < 2 ^ 64 → (after_bytes x bytes).reader.newlines < 2 ^ 64
unfolding after_bytes
bytes_few x [] h = h
bytes_few x (b ∷ more) h = bytes_few (after_byte x b) more (byte_few x b h)

-- ---- A log goes on from a place between two groups as one that begins there
go_on : (h g : House) (bytes : List ℕ) (p : ℕ) → Between (after_first h p bytes) → g ≡ (after_first h p bytes).house
    → (k : ℕ) → Like (after_first h p bytes).reader.newlines (after_first h (p + k) bytes) (after_first g k (drop p bytes))
go_on h g bytes p b e k =
    subst (λ (y : Course). Like (after_first h p bytes).reader.newlines y (after_first g k (drop p bytes))) (sym (first_more h bytes p k))
    (like_bytes (after_first h p bytes).reader.newlines (after_first h p bytes) (begun g) (take k (drop p bytes)) (begins (after_first h p bytes) g (sym e) (bytes_few (begun h) (take p bytes) (omega arith)) b))

-- ---- What a run reads of the log
module _ (log : List ℕ) (seen q k : ℕ) where
  seen_length : length (drop q (take seen log)) ≡ min seen (length log) - q
  seen_length = length-drop q (take seen log) ∙ ap (λ (n : ℕ). n - q) (length-take seen log)

  seen_here : q ≤ length (take seen log) → k ≤ length (drop q (take seen log)) → take k (drop q (take seen log)) ≡ take k (drop q log)
  seen_here h l =
      sym (take-append-le k (drop q (take seen log)) (drop seen log) l)
      ∙ ap (take k) (sym (drop-append-le q (take seen log) (drop seen log) h) ∙ ap (drop q) (take-append-drop seen log))

  -- as far as it is seen it is the log's own
  seen_same : k ≤ length (drop q (take seen log)) → take k (drop q (take seen log)) ≡ take k (drop q log)
  seen_same l =
      elim (dec_lt (length (take seen log)) q) [
        | yes h ↦ let z : k ≡ 0 = omega (arith, length-drop q (take seen log)) in ap (λ (n : ℕ). take n (drop q (take seen log))) z ∙ ap (λ (n : ℕ). take n (drop q log)) (sym z)
        | no h ↦ seen_here (omega arith) l
      ]

-- a longer front of the log is a shorter one and what came behind it
record Longer (log : List ℕ) (n m place : ℕ) : Type 0 where
  behind : List ℕ
  is : drop place (take m log) ≡ drop place (take n log) ++ behind

longer : (log : List ℕ) (n m place : ℕ) → n ≤ m → Longer log n m place
longer log n m place h =
    let e : m ≡ n + (m - n) = omega arith in
    elim (dec_lt (length (take n log)) place) [
      | yes l ↦ record { behind = drop place (take m log); is = ap (λ (a : List ℕ). a ++ drop place (take m log)) (sym (drop_of_length-le (take n log) {i = place} (omega arith))) }
      | no l ↦ record { behind = take (m - n) (drop n log); is = ap (λ (k : ℕ). drop place (take k log)) e ∙ ap (drop place) (take-add n (m - n) log) ∙ drop-append-le place (take n log) (take (m - n) (drop n log)) (omega arith) }
    ]

-- ---- Where runs have left the file
module _ (h : House) (place : ℕ) (log : List ℕ) where
  -- p bytes behind the first place: the last place between two groups in what was seen, and the tanks there
  record Left (seen p : ℕ) (t : Tanks) : Type 0 where
    sound : Sound t
    inside : p ≤ length log - place
    near : p ≤ seen - place
    between : Between (after_first h p (drop place log))
    last : (n : ℕ) → p < n → n ≤ seen - place → n ≤ length log - place → Between (after_first h n (drop place log)) → ⊥
    house : meaning t ≡ (after_first h p (drop place log)).house

  -- it is one place, and one state
  left_once : (seen p q : ℕ) (t u : Tanks) → Left seen p t → Left seen q u → (p ≡ q) × (t ≡ u)
  left_once seen p q t u a b =
      let e : p ≡ q = elim (dec_lt p q) [
        | yes l ↦ absurd (a.last q l b.near b.inside b.between)
        | no l ↦ elim (dec_lt q p) [
          | yes k ↦ absurd (b.last p k a.near a.inside a.between)
          | no k ↦ omega arith
        ]
      ] in
      (e, unique t u a.sound b.sound (a.house ∙ ap (λ (n : ℕ). (after_first h n (drop place log)).house) e ∙ sym b.house))

  -- before the first run
  left_first : (s : Tanks) → Sound s → meaning s ≡ h → Left 0 0 s
  unfolding after_bytes
  left_first s k e =
      record {
        sound = k;
        inside = omega arith;
        near = omega arith;
        between = record { on = refl; reader = refl };
        last = λ n a b. absurd (omega arith);
        house = e;
      }

  -- one run more: what it takes of what it sees behind the place
  module _ (seen p : ℕ) (t : Tanks) (l : Left seen p t) (more : ℕ) (r : Took) (g : TakesGroups t (drop (place + p) (take more log)) r) where
    abbrev rest : List ℕ
    rest = drop (place + p) (take more log)

    rest_length : length rest ≡ min more (length log) - (place + p)
    rest_length = seen_length log more (place + p) 0

    -- so many bytes behind the place
    same_at : (k : ℕ) → k ≤ length rest → after_first (meaning t) k rest ≡ after_first (meaning t) k (drop p (drop place log))
    same_at k e = ap (after_bytes (begun (meaning t))) (seen_same log more (place + p) k e ∙ ap (take k) (sym (drop-drop p place log)))

    abbrev lines : ℕ
    lines = (after_first h p (drop place log)).reader.newlines

    like_at : (k : ℕ) → k ≤ length rest → Like lines (after_first h (p + k) (drop place log)) (after_first (meaning t) k rest)
    like_at k e = subst (λ (x : Course). Like lines (after_first h (p + k) (drop place log)) x) (sym (same_at k e)) (go_on h (meaning t) (drop place log) p l.between l.house k)

    none_seen : (n : ℕ) → p + r.at < n → n ≤ more - place → n ≤ length log - place → Between (after_first h n (drop place log)) → ⊥
    none_seen n a b c k =
        let e : n ≡ p + (n - p) = omega arith in
        let f : n - p ≤ length rest = omega (arith, rest_length) in
        g.last (n - p) (omega arith) f (between_right lines (after_first h (p + (n - p)) (drop place log)) (after_first (meaning t) (n - p) rest) (like_at (n - p) f) (subst (λ (j : ℕ). Between (after_first h j (drop place log))) e k))

    none_more : (n : ℕ) → p + r.at < n → n ≤ max seen more - place → n ≤ length log - place → Between (after_first h n (drop place log)) → ⊥
    none_more n a b c k =
        elim (dec_lt (more - place) n) [
          | yes e ↦ l.last n (omega arith) (omega arith) c k
          | no e ↦ none_seen n a (omega arith) c k
        ]

    left_more : Left (max seen more) (p + r.at) r.tanks
    left_more =
        record {
          sound = g.sound;
          inside = omega (arith, g.inside, rest_length, l.inside);
          near = omega (arith, g.inside, rest_length, l.near);
          between = between_left lines (after_first h (p + r.at) (drop place log)) (after_first (meaning t) r.at rest) (like_at r.at g.inside) g.between;
          last = none_more;
          house = g.house ∙ sym (like_at r.at g.inside).house;
        }

  -- ---- From file to file
  -- a file that runs have left
  record LeftFile (seen : ℕ) (text : List ℕ) : Type 0 where
    p : ℕ
    tanks : Tanks
    left : Left seen p tanks
    again : FiledAgain (place + p) (meaning tanks)
    is : text ≡ file_of (place + p) (meaning tanks)

  module _ (small : place < 2 ^ 64) (few : length log < 2 ^ 64) where
    -- the place behind what a run took
    place_more : (p at to : ℕ) → p + at ≤ length log - place → to ≡ further_by (place + p) at → to ≡ place + (p + at)
    place_more p at to e f = omega (arith, small, few)

    module _ (seen p more : ℕ) (t : Tanks) (before buffer out : List ℕ) (fed : Fed) (room : most_bytes ≤ length buffer) (l : Left seen p t) (r : Reads t (place + p) (drop (place + p) (take more log)) before buffer fed out) where
      after : Left (max seen more) (p + fed.took.at) fed.took.tanks
      after = left_more seen p t l more fed.took r.groups

      place_is : fed.place ≡ place + (p + fed.took.at)
      place_is = place_more p fed.took.at fed.place after.inside r.place_is

      fits : fed.file.number ≡ 0
      fits = r.renewed.number_is ∙ file_fits fed.took.tanks fed.place (length buffer) after.sound (omega (arith, r.place_is)) room

      file_after : (text : List ℕ) → text ≡ kept_then fed.file out before → LeftFile (max seen more) text
      file_after text e =
          record {
            p = p + fed.took.at;
            tanks = fed.took.tanks;
            left = after;
            again = subst (λ (q : ℕ). FiledAgain q (meaning fed.took.tanks)) place_is (r.renewed.again fits);
            is = e
                ∙ renewed_kept fed.place (meaning fed.took.tanks) before buffer out fed.file r.renewed fits
                ∙ ap (λ (q : ℕ). file_of q (meaning fed.took.tanks)) place_is;
          }

    -- a run that is done
    file_done : (seen more : ℕ) (before text : List ℕ) → LeftFile seen before → Done log more before text → LeftFile (max seen more) text
    file_done seen more before text f d =
        let b = read_written f.tanks d.tanks (place + f.p) d.back f.left.sound f.again (subst (λ (x : List ℕ). ReadsBack d.tanks x d.back) f.is d.says) in
        let r : Reads f.tanks (place + f.p) (drop (place + f.p) (take more log)) before d.buffer d.fed d.out =
        subst (λ (x : Tanks). Reads x (place + f.p) (drop (place + f.p) (take more log)) before d.buffer d.fed d.out) b.2
        (subst (λ (q : ℕ). Reads d.back.tanks q (drop q (take more log)) before d.buffer d.fed d.out) b.1 d.reads)
        in
        file_after seen f.p more f.tanks before d.buffer d.out d.fed d.room f.left r text d.is

    -- any runs
    file_runs : (seen : ℕ) {runs : List Run} {before text : List ℕ} → LeftFile seen before → Runs log runs before text → LeftFile (max seen (longest runs)) text
    file_runs seen {text = text} f no_run = let e : seen ≡ max seen 0 = omega arith in subst (λ (n : ℕ). LeftFile n text) e f
    file_runs seen f (cut_run r) = file_runs seen f r
    file_runs seen {text = text} f (done_run {runs = runs} {seen = more} {before = before} {next = next} d r) =
        let e : max (max seen more) (longest runs) ≡ max seen (max more (longest runs)) = omega arith in
        subst (λ (n : ℕ). LeftFile n text) e (file_runs (max seen more) (file_done seen more before next f d) r)

    -- two files that runs have left over one front of the log are one file
    one_left : (seen : ℕ) (a b : List ℕ) → LeftFile seen a → LeftFile seen b → a ≡ b
    one_left seen a b f g =
        let e = left_once seen f.p g.p f.tanks g.tanks f.left g.left in
        f.is ∙ ap (λ (n : ℕ). file_of (place + n) (meaning f.tanks)) e.0 ∙ ap (λ (t : Tanks). file_of (place + g.p) (meaning t)) e.1 ∙ sym g.is

-- ---- Exactly once
module _ (s : Tanks) (place : ℕ) (log : List ℕ) (runs : List Run) (first last : List ℕ) (sound : Sound s) (small : place < 2 ^ 64) (few : length log < 2 ^ 64) (again : FiledAgain place (meaning s)) (is : first ≡ file_of place (meaning s)) (r : Runs log runs first last) where
  file_first : LeftFile (meaning s) place log 0 first
  file_first =
      let e : place ≡ place + 0 = omega arith in
      record {
        p = 0;
        tanks = s;
        left = left_first (meaning s) place log s sound refl;
        again = subst (λ (q : ℕ). FiledAgain q (meaning s)) e again;
        is = is ∙ ap (λ (q : ℕ). file_of q (meaning s)) e;
      }

  file_last : LeftFile (meaning s) place log (longest runs) last
  file_last = let e : max 0 (longest runs) ≡ longest runs = omega arith in subst (λ (n : ℕ). LeftFile (meaning s) place log n last) e (file_runs (meaning s) place log small few 0 file_first r)

  -- the last file is the one that a single run leaves which sees as much
  pub as_one_run : (single : List ℕ) → Done log (longest runs) first single → last ≡ single
  as_one_run single d =
      let e : max 0 (longest runs) ≡ longest runs = omega arith in
      one_left (meaning s) place log small few (longest runs) last single file_last
      (subst (λ (n : ℕ). LeftFile (meaning s) place log n single) e (file_done (meaning s) place log small few 0 (longest runs) first single file_first d))

  module _ (whole : Took) (w : TakesGroups s (drop place (take (longest runs) log)) whole) where
    left_whole : Left (meaning s) place log (longest runs) whole.at whole.tanks
    left_whole =
        let e : place ≡ place + 0 = omega arith in
        let m : max 0 (longest runs) ≡ longest runs = omega arith in
        let a : 0 + whole.at ≡ whole.at = omega arith in
        let l = left_more (meaning s) place log 0 0 s (left_first (meaning s) place log s sound refl) (longest runs) whole (subst (λ (q : ℕ). TakesGroups s (drop q (take (longest runs) log)) whole) e w) in
        subst (λ (k : ℕ). Left (meaning s) place log (longest runs) k whole.tanks) a (subst (λ (n : ℕ). Left (meaning s) place log n (0 + whole.at) whole.tanks) m l)

    same_left : (file_last.p ≡ whole.at) × (file_last.tanks ≡ whole.tanks)
    same_left = left_once (meaning s) place log (longest runs) file_last.p whole.at file_last.tanks whole.tanks file_last.left left_whole

    -- so it is the file of the tanks and the place of taking all of it at once
    pub any_runs : AsOne place whole last
    any_runs =
        let e = same_left in
        record {
          is = file_last.is ∙ ap (λ (n : ℕ). file_of (place + n) (meaning file_last.tanks)) e.0 ∙ ap (λ (t : Tanks). file_of (place + whole.at) (meaning t)) e.1;
          again = subst (λ (t : Tanks). FiledAgain (place + whole.at) (meaning t)) e.1 (subst (λ (n : ℕ). FiledAgain (place + n) (meaning file_last.tanks)) e.0 file_last.again);
        }

    -- and reading it back gives both
    pub last_says : (t : Tanks) (b : Back) → ReadsBack t last b → (b.number ≡ 0) × (b.place ≡ place + whole.at) × (b.tanks ≡ whole.tanks)
    last_says t b k = read_written whole.tanks t (place + whole.at) b w.sound any_runs.again (subst (λ (x : List ℕ). ReadsBack t x b) any_runs.is k)

    -- one run more, which sees at least as much: it comes to what one run over all of it comes to, and stops where that does
    pub once_more : (seen : ℕ) (text : List ℕ) (d : Done log seen last text) (all : Took) → longest runs ≤ seen → TakesGroups s (drop place (take seen log)) all → Once whole d.fed.took all
    once_more seen text d all h v =
        let b = last_says d.tanks d.back d.says in
        let x = longer log (longest runs) seen place h in
        let g : TakesGroups whole.tanks (drop (place + whole.at) (take seen log)) d.fed.took =
        subst (λ (t : Tanks). TakesGroups t (drop (place + whole.at) (take seen log)) d.fed.took) b.2 (subst (λ (q : ℕ). TakesGroups d.back.tanks (drop q (take seen log)) d.fed.took) b.1 d.reads.groups)
        in
        once s (drop place (take (longest runs) log)) x.behind whole d.fed.took all
        (omega (arith, w.lines, bytes_few (begun (meaning s)) (take whole.at (drop place (take (longest runs) log))) (omega arith)))
        w
        (subst (λ (l : List ℕ). TakesGroups whole.tanks (drop whole.at l) d.fed.took) x.is (subst (λ (l : List ℕ). TakesGroups whole.tanks l d.fed.took) (sym (drop-drop whole.at place (take seen log))) g))
        (subst (λ (l : List ℕ). TakesGroups s l all) x.is v)

-- ---- An example
-- of three runs the second is cut off, and the third sees less than the first
example_longest : longest (done 300 ∷ cut_off ∷ done 200 ∷ []) ≡ 300
example_longest = refl
