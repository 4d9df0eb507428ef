-- What a read, and the end of the input, hand back.
use mathlib.Core.Path.{◌≡◌, refl, sym, ap, ap₂, subst, ◌∙◌}
use mathlib.Core.Bool.{Bool, true, false, cond}
use mathlib.Core.List.{List, [], ◌∷◌, ◌++◌, append-nil, foldl-append}
use Prim.Native.Nat.{ℕ, ◌+◌, ◌≤◌}
use lib.ListN.{length, drop, length-append, drop_of_length-le}
use Rattle.tanks.specs.declared.Tanks.{Tanks}
use Rattle.tanks.specs.House.{House, smallest_settings, opening}
use Rattle.tanks.specs.Pool.{meaning, Sound}
use Rattle.script.specs.declared.Ending.{Ending}
use Rattle.script.specs.declared.Inlet.{Inlet}
use Rattle.script.specs.Reading.{fresh_of}
use Rattle.script.specs.Writing.{most_written}
use Rattle.script.specs.Lines.{reader_at, state_of}
use Rattle.script.specs.Bodies.{ending_in, stage_of, Fits, resting}
use Rattle.answers.specs.Waiting.{Pieces, Waiting, waiting, piece_room, with_all, Short, Adds}
use Rattle.clerk.specs.declared.Eaten.{Eaten}
use Rattle.clerk.specs.declared.Side.{Side}
use Rattle.clerk.specs.declared.Stand.{Stand}
use Rattle.clerk.specs.Desk.{empty_side, Settled}
use Rattle.clerk.specs.Course.{Course, malformed_says, after_bytes, said_bytes, said_ending, ended_as, at_end, said_at_end, after_read, said_read, written, written_after, after_reads, said_reads, course_of, Ready, Eats, Closes, Reads, Leads, most_reads, RunsFrom, going, RunsWhole}
use Rattle.clerk.proofs.Bytes.{standing, Left}
use Rattle.answers.proofs.Laws.{short_append}
use Rattle.clerk.proofs.Cuts.{some_by, said_append}

-- what stands is in form where its parts are
ready : {t : Tanks} {inlet : Inlet} {side : Side} {k : ℕ} {over : Bool} (memory : List ℕ) {r : Eaten} → Sound t → Settled side → Fits inlet memory → (r.tanks ≡ t) × (r.stand ≡ record { inlet = inlet; side = side; at = k; over = over }) → Ready r memory
ready memory ok kept fits stands =
    record {
      sound = subst Sound (sym stands.0) ok;
      settled = subst (λ (st : Stand). Settled st.side) (sym stands.1) kept;
      fits = subst (λ (st : Stand). Fits st.inlet memory) (sym stands.1) fits;
    }

-- how an input ends that ends at a stand
abbrev ending_by : Stand → Ending
ending_by stand = ending_in stand.inlet.left (state_of stand.inlet.reader)

module _ {s : Tanks} {stand : Stand} (memory d : List ℕ) {r : Eaten} (out : List ℕ) {k : ℕ} (ok : Sound s) (kept : Settled stand.side) (fits : Fits stand.inlet memory) (goes : stand.over ≡ false)
    (stands : (r.tanks ≡ s) × (r.stand ≡ record { inlet = stand.inlet; side = stand.side; at = k; over = true })) where
  ends_as : (e : Ending) → ending_by stand ≡ e → Adds d stand.at (said_ending e (state_of stand.inlet.reader)) k out → Closes s stand memory d r out
  unfolding at_end said_at_end
  ends_as e h w =
      record {
        ready = ready memory ok kept fits stands;
        is =
            ap₂ (λ (t : Tanks) (st : Stand). course_of t st memory out) stands.0 stands.1
            ∙ ap (λ (v : Waiting). record { house = meaning s; side = stand.side; stage = stage_of stand.inlet memory; waits = v; over = true }) w.is
            ∙ ap (λ (v : Ending). ended_as v (course_of s stand memory d)) (sym h)
            ∙ ap (λ (b : Bool). cond b (course_of s stand memory d) (ended_as (ending_by stand) (course_of s stand memory d))) (sym goes);
        short =
            subst
            Short
            (ap (λ (v : Ending). said_ending v (state_of stand.inlet.reader)) (sym h) ∙ ap {B = Pieces} (λ (b : Bool). cond b [] (said_ending (ending_by stand) (state_of stand.inlet.reader))) (sym goes))
            w.short;
      }

  pub ends_clean : ending_by stand ≡ Ending.Clean → waiting out k ≡ waiting d stand.at → Closes s stand memory d r out
  unfolding with_all Short
  ends_clean h w = ends_as Ending.Clean h (record { is = w; short = tt })

  pub ends_cut : ending_by stand ≡ Ending.Cut → Adds d stand.at (malformed_says (state_of stand.inlet.reader)) k out → Closes s stand memory d r out
  ends_cut h w = ends_as Ending.Cut h w

-- ---- a read
-- all bytes are taken
pub all_taken : (x : Course) (from : ℕ) (input : List ℕ) {y : Course} {all : List ℕ} → length input ≤ from → Left x (drop from input) y all → Left x [] y all
all_taken x from input {y} {all} h l = subst (λ (left : List ℕ). Left x left y all) (drop_of_length-le input {i = from} h) l

pub eats_as : {s t : Tanks} {stand : Stand} (memory d : List ℕ) (input : List ℕ) {r : Eaten} (after out : List ℕ) {inlet : Inlet} {side : Side} {k : ℕ} {over : Bool} → stand.over ≡ false → Sound t → Settled side → Fits inlet after → (r.tanks ≡ t) × (r.stand ≡ record { inlet = inlet; side = side; at = k; over = over }) → Left (record { house = meaning t; side = side; stage = stage_of inlet after; waits = waiting out k; over = over }) [] (standing s stand.side stand.inlet memory stand.at d) input → Eats s stand memory d input r after out
unfolding after_bytes said_bytes Short
eats_as {s} {t} {stand} memory d input {r} after out {inlet} {side} {k} {over} fresh ok kept fits stands x =
    record {
      ready = ready after ok kept fits stands;
      is =
          ap₂ (λ (u : Tanks) (st : Stand). course_of u st after out) stands.0 stands.1
          ∙ x.is
          ∙ ap (λ (b : Bool). after_bytes (record { house = meaning s; side = stand.side; stage = stage_of stand.inlet memory; waits = waiting d stand.at; over = b }) input) (sym fresh);
      short = subst (λ (b : Bool). Short (said_bytes (record { house = meaning s; side = stand.side; stage = stage_of stand.inlet memory; waits = waiting d stand.at; over = b }) input)) (sym fresh) (x.short tt);
    }

-- no bytes, and some
pub reads_none : {s : Tanks} {stand : Stand} {memory d out : List ℕ} {r : Eaten} → Closes s stand memory d r out → Reads s stand memory d r memory out
reads_none x = record { input = []; ready = x.ready; is = x.is; short = x.short }

pub reads_some : {s : Tanks} {stand : Stand} {memory d after out input : List ℕ} {r : Eaten} → (length input ≡ 0 → ⊥) → Eats s stand memory d input r after out → Reads s stand memory d r after out
reads_some {s} {stand} {memory} {d} {after} {out} {input} n x =
    record {
      input = input;
      ready = x.ready;
      is = x.is ∙ sym (some_by _ _ input n);
      short = subst Short (sym (some_by _ _ input n)) x.short;
    }

-- ---- reads one after another
pub leads_none : (x : Course) → Leads 0 x x
unfolding after_reads said_reads Short
leads_none x = record { inputs = []; count = refl; is = refl; short = tt }

pub leads_as : {m n : ℕ} {x y : Course} → m ≡ n → Leads m x y → Leads n x y
leads_as e l = record { inputs = l.inputs; count = l.count ∙ e; is = l.is; short = l.short }

module _ {s : Tanks} {inlet : Inlet} {side : Side} {stand : Stand} {memory d after out : List ℕ} {r : Eaten} {n : ℕ} (x : Course) (fresh : stand ≡ record { inlet = inlet; side = side; at = 0; over = false })
    (came : Leads n x (going s inlet side memory d)) (read : Reads s stand memory d r after out) where
  -- where the run is when the answers to one read more are written out
  pub leads_on : {over : Bool} → r.stand.over ≡ over → Leads (n + 1) x (record { house = meaning r.tanks; side = r.stand.side; stage = stage_of r.stand.inlet after; waits = waiting out 0; over = over })
  unfolding after_reads said_reads
  leads_on e =
      record {
        inputs = came.inputs ++ (read.input ∷ []);
        count = length-append came.inputs (read.input ∷ []) ∙ ap (λ (k : ℕ). k + 1) came.count;
        is =
            ap (λ (b : Bool). record { house = meaning r.tanks; side = r.stand.side; stage = stage_of r.stand.inlet after; waits = waiting out 0; over = b }) (sym e)
            ∙ ap written (read.is ∙ ap (λ (st : Stand). after_read (course_of s st memory d) read.input) fresh)
            ∙ ap (λ (c : Course). written_after c read.input) came.is
            ∙ sym (foldl-append written_after x came.inputs (read.input ∷ []));
        short =
            subst
            Short
            (sym (said_append written_after said_read x came.inputs (read.input ∷ [])))
            (short_append (said_reads x came.inputs) (said_reads (after_reads x came.inputs) (read.input ∷ [])) came.short
            (subst
            Short
            (ap (λ (st : Stand). said_read (course_of s st memory d) read.input) fresh ∙ ap (λ (c : Course). said_read c read.input) came.is ∙ sym (append-nil (said_read (after_reads x came.inputs) read.input)))
            read.short));
      }

-- a run that has come to its end
pub runs_as : {t : Tanks} {inlet : Inlet} {side : Side} {x : Course} {r : Eaten} {n : ℕ} (memory out : List ℕ) {over : Bool} → Sound t → (r.tanks ≡ t) × (r.stand ≡ record { inlet = inlet; side = side; at = 0; over = over }) → Leads n x (record { house = meaning t; side = side; stage = stage_of inlet memory; waits = waiting out 0; over = over }) → (over ≡ false → n ≡ most_reads) → RunsFrom x r memory out
runs_as {t} {inlet} {side} {x} {r} {n} memory out {over} ok stands l most =
    record {
      sound = subst Sound (sym stands.0) ok;
      reads = n;
      leads = record { inputs = l.inputs; count = l.count; is = ap₂ (λ (u : Tanks) (st : Stand). course_of u st memory out) stands.0 stands.1 ∙ l.is; short = l.short };
      ends = λ e. most (sym (ap (λ (st : Stand). st.over) stands.1) ∙ e);
    }

-- from the very beginning
pub runs_whole : {h : House} {first : Inlet} {side : Side} (memory : List ℕ) {after d out : List ℕ} {r : Eaten} → h ≡ opening smallest_settings → first ≡ resting (reader_at (fresh_of 0) 0) → side ≡ empty_side → piece_room ≤ length d → length d ≤ most_written → RunsFrom (record { house = h; side = side; stage = stage_of first memory; waits = waiting d 0; over = false }) r after out → RunsWhole r
runs_whole {h} {first} {side} memory {after} {d} {out} {r} e f g room small x =
    record {
      buffer = d;
      room = room;
      small = small;
      memory = after;
      out = out;
      runs =
          subst
          (λ (c : Course). RunsFrom c r after out)
          (ap₂ (λ (k : House) (i : Inlet). record { house = k; side = side; stage = stage_of i memory; waits = waiting d 0; over = false }) e f
          ∙ ap (λ (kept : Side). record { house = opening smallest_settings; side = kept; stage = stage_of (resting (reader_at (fresh_of 0) 0)) memory; waits = waiting d 0; over = false }) g)
          x;
    }
