-- An edit on the parts of a state, as the code goes: what holds of the parts there, whatever state they are of.
use Prim.Native.Nat.{ℕ, ◌+◌, ◌-◌, ◌≤◌, ◌<◌, ◌^◌, min}
use mathlib.Core.Path.{◌≡◌, refl, sym, ap, ◌∙◌, subst}
use mathlib.Core.Bool.{true, false}
use mathlib.Core.List.{List}
use native.Mathlib.Omega.{arith}
use lib.ListN.{length, get_or, set, take, replicate}
use Rattle.laws.proofs.Lists.{stored}
use Rattle.std.specs.Prelude.{Err}
use lib.Pow.{pow_pos}
use Rattle.refusal.specs.declared.Refusal.{Refusal}
use Rattle.refusal.specs.Numbers.{number_of}
use Rattle.refusal.proofs.NumberLaws.{positive}
use Rattle.styles.specs.declared.Mark.{Mark}
use Rattle.styles.specs.Answers.{styles_of}
use Rattle.styles.specs.Bits.{pick}
use Rattle.runs.proofs.SumLaws.{sum_next}
use Rattle.tank.specs.declared.Tank.{Tank}
use Rattle.tank.specs.declared.lent.Outline.{Outline}
use Rattle.tank.specs.Lending.{Leaving, kept_as, tank_on, tank_made, table_left}
use Rattle.tank.specs.Rules.{Edit, first_refusal, made_by}
use Rattle.tank.specs.State as state
use Rattle.tanks.specs.declared.Setting.{Setting}
use Rattle.tanks.specs.declared.Head.{Head}
use Rattle.tanks.specs.declared.Run.{Run}
use Rattle.tanks.specs.declared.Resize.{Resize}
use Rattle.tanks.specs.declared.Spots.{Spots}
use Rattle.tanks.specs.declared.Table.{Table}
use Rattle.tanks.specs.declared.Tanks.{Tanks}
use Rattle.tanks.specs.Settings.{share_of, judgement}
use Rattle.tanks.specs.House.{share_number}
use Rattle.tanks.specs.Pool.{no_run, no_head, no_table, runs_in, runs_below, lens_in, tank_in, tank_of, spots_of, Sound}
use Rattle.tanks.specs.Promises.{Parting, parted, place_of, PartsOf, PartsOfSome, done_with, PerformsOn, DoneAt, EditsParts, Judged}
use Rattle.tanks.specs.Resizing.{Resizes, Fits, Which, shown_by}
use Rattle.tanks.proofs.LaidLaws.{laid, laid_cong, laid_two}
use Rattle.tanks.proofs.Put.{run_of, run_from, pool_with, puts}
use Rattle.tanks.proofs.SettingLaws.{sound_held, sound_judged, TakenOut, taken}
use Rattle.tanks.proofs.CallLaws.{own_by}
use Rattle.tanks.proofs.WriteLaws.{part, lowest, part_all, run_own, all_written, Inside, inside}
use Rattle.tanks.proofs.PartsLaws.{first_stays, place_in, at_place, on_parts, on_state, outlined, lent_tank, outcome, outcome_made, left_same, performed, performed_made, known_by, Unchanged, Known, parts_refused, parts_same, parts_done}
use Rattle.tanks.proofs.WithinLaws.{Walked, walk_on, walk_room, walk_some, asked_some, Placed, tank_sums, tank_small, found, len_of, Did, did_own}

-- the tank whose runs are taken out
abbrev pub lent_on : List Head → Table → ℕ → List ℕ → List ℕ → Tank
lent_on hs table t lens sets = tank_on (outlined (get_or hs t no_head)) lens sets table.marks

module _ {st : List Setting} {hs : List Head} {pool : List Run} {table : Table} (t : ℕ) (r : PartsOfSome (place_of t) st hs pool table) where
  -- the tanks hold no more than the pool has
  pub held : runs_below hs 8 ≤ 512
  held = on_parts r.parts (λ st hs pool table. runs_below hs 8 ≤ 512) (sound_held r.state r.sound)

  pub pool_512 : length pool ≡ 512
  pool_512 = on_parts r.parts (λ st hs pool table. length pool ≡ 512) r.sound.pool_512

  pub judged : Judged st hs
  judged = on_parts r.parts (λ st hs pool table. Judged st hs) (sound_judged r.state r.sound)

  module _ (h : t < 8) where
    pub own_room : {at : ℕ} → at ≡ runs_below hs t → at + runs_in hs t ≤ 512
    own_room e = omega (arith, e, sum_next (runs_in hs) t 8 h, held)

    -- the tank where it stands
    pub whole : state.Sound (tank_in hs pool table t)
    unfolding tank_of
    whole =
        on_parts (at_place t h r.parts) (λ st hs pool table. state.Sound (tank_in hs pool table t))
        (taken r.state r.sound t (tank_of r.state t) h refl).sound

    -- ---- the walk to the run that an edit may change alone
    module _ {e : Edit} {q : Resize} (asked : Resizes e (get_or hs t no_head) q) {k from to : ℕ} (w : Walked (lens_in hs pool t) (runs_in hs t) k from to) where
      -- it is not at its end
      pub onward : to < q.to → k < runs_in hs t
      onward g = walk_on w (tank_sums hs pool table t whole) asked.reach g

      -- how far the next run reaches
      pub next_end : to < q.to → {at : ℕ} → at ≡ runs_below hs t → to + (get_or pool (at + k) no_run).len < 2 ^ 63
      next_end g i =
          omega (arith, walk_room w (onward g), len_of hs pool table t whole i (onward g), tank_sums hs pool table t whole, tank_small hs pool table t whole)

      -- it is, and the run is found
      pub run_found : q.to ≤ to → {at behind one : ℕ} → at ≡ runs_below hs t → behind ≡ min (at + k) 511
          → (Fits q from to) × (Which q to (get_or pool (at + k - 1) no_run).set (get_or pool behind no_run).set one) → Placed e hs pool table t at q k one
      run_found g i n c =
          found hs pool table t whole e q i (own_room i) w asked g
          refl (ap (λ (j : ℕ). (get_or pool j no_run).set) n) c

      -- a run lies behind the walk
      pub run_passed : q.to ≤ to → 0 < k
      run_passed g = walk_some w (omega (arith, asked_some e (get_or hs t no_head) q asked.is))

    -- ---- what is left is the edit of every state that they are parts of
    pub edits_by : (e : Edit) (p : Parting) → p.shown < 2 ^ (get_or hs t no_head).marks → ((s : Tanks) → Sound s → PartsOf s (place_of t) st hs pool table → DoneAt s t e (done_with s t p))
        → EditsParts st hs pool table t e p
    edits_by e p fits done = record {
      fits = subst (λ (u : ℕ). p.shown < 2 ^ (get_or hs u no_head).marks) (sym (place_in t h)) fits;
      done = λ s ok q. subst (λ (u : ℕ). DoneAt s t e (done_with s u p)) (sym (place_in t h)) (done s ok q);
    }

    -- a refused edit leaves them as they were
    unchanged_by : (x : Refusal) → Unchanged (number_of x) pool table (get_or hs t no_head) (parted hs pool table t (Err x))
    unchanged_by x = (refl, refl, ap (λ (u : ℕ). get_or hs u no_head) (place_in t h), refl, refl, refl)

    -- one run has changed
    pub run_changed : (e : Edit) {at k one : ℕ} {q : Resize} → Placed e hs pool table t at q k one → Resizes e (get_or hs t no_head) q → (p : Parting)
        → p.pool ≡ set pool (at + (k + one - 1)) (record { len = (get_or pool (at + (k + one - 1)) no_run).len - q.less + q.more; set = (get_or pool (at + (k + one - 1)) no_run).set })
        → p.table ≡ table
        → p.head ≡ record { touched = true; length = (get_or hs t no_head).length - q.less + q.more; runs = runs_in hs t; marks = (get_or hs t no_head).marks }
        → p.number ≡ 0
        → p.shown < 2 ^ (get_or hs t no_head).marks
        → pick (take (get_or hs t no_head).marks table.marks) p.shown ≡ shown_by e (pick (take (get_or hs t no_head).marks table.marks) (get_or pool (at + (k + one - 1)) no_run).set)
        → p.first ≡ 0
        → EditsParts st hs pool table t e p
    run_changed e {at} {k} {one} {q} placed asked p pool_is table_is head_is number_is fits shown_is first_is =
        edits_by e p fits
        (λ s ok o. on_parts (at_place t h o) (Did s t e ok h) (did_own s t e ok h) at k one q placed asked p pool_is table_is head_is number_is shown_is first_is)

    -- ---- the runs taken out into lent arrays
    pub taken_out : {at i : ℕ} {lens sets : List ℕ} → at ≡ runs_below hs t → i ≤ runs_in hs t → runs_in hs t ≤ i
        → lens ≡ stored (λ k. (get_or pool (at + k) no_run).len) (replicate 514 0) i
        → sets ≡ stored (λ k. (get_or pool (at + k) no_run).set) (replicate 514 0) i
        → lent_on hs table t lens sets ≡ tank_in hs pool table t
    taken_out {at} {i} s a b l g =
        let e : i ≡ runs_in hs t = omega arith in
        let room : runs_below hs t + runs_in hs t ≤ length pool = omega (arith, own_room refl, pool_512) in
        lent_tank hs pool table t room (omega (arith, own_room refl))
        (l ∙ (λ j. stored (λ k. (get_or pool (s j + k) no_run).len) (replicate 514 0) (e j)))
        (g ∙ (λ j. stored (λ k. (get_or pool (s j + k) no_run).set) (replicate 514 0) (e j)))

    module _ (lens sets : List ℕ) (is : lent_on hs table t lens sets ≡ tank_in hs pool table t) where
      pub own : TakenOut r.state t (lent_on hs table t lens sets)
      unfolding tank_of
      own =
          let x : Tank = lent_on hs table t lens sets in
          taken r.state r.sound t x h (on_state (at_place t h r.parts) (λ st hs pool table. x ≡ tank_in hs pool table t) is)

      -- edited and judged
      module _ (e : Edit) {olens osets : List ℕ} {p : Leaving} (d : PerformsOn e (lent_on hs table t lens sets) olens osets p) {v : ℕ}
          (verdict : v ≡ first_refusal (first_refusal p.number (share_number (made_by e) (share_of st t) (runs_in hs t) p.runs)) (judgement st (runs_in hs) t p.runs)) where
        -- what is known of the parts is known of every state that they are of
        known : (n : ℕ) → p.runs ≡ n → (s : Tanks) → PartsOf s (place_of t) st hs pool table
            → Known t e (lent_on hs table t lens sets) p.number n v s.settings s.heads s.pool (get_or s.tables t no_table)
        known n g s q = on_state (at_place t h q) (Known t e (lent_on hs table t lens sets) p.number n v) (known_by t e p.number st hs pool table is g verdict)

        -- the marks that it shows
        shown : (s : Tanks) → PartsOf s (place_of t) st hs pool table → (m : Parting) → m.shown ≡ p.shown
            → styles_of (pick (take (get_or s.heads t no_head).marks (get_or s.tables t no_table).marks) m.shown) ≡ styles_of (pick (state.table_of (lent_on hs table t lens sets)) p.shown)
        shown s q m b =
            let x : Tank = lent_on hs table t lens sets in
            on_state (at_place t h q) (λ st hs pool table. styles_of (pick (take (get_or hs t no_head).marks table.marks) m.shown) ≡ styles_of (pick (state.table_of x) p.shown))
            (ap (λ (n : ℕ). styles_of (pick (state.table_of x) n)) b)

        -- refused
        pub edit_refused : (m : Parting) → 0 < v → Unchanged v pool table (get_or hs t no_head) m → m.shown < 2 ^ (get_or hs t no_head).marks → EditsParts st hs pool table t e m
        edit_refused m g u fits =
            let x : Tank = lent_on hs table t lens sets in
            edits_by e m fits
            (λ s ok q. parts_refused s t e ok h x (outcome x olens osets p) (performed d) v (known _ d.runs_are_lem s q) m g
            (on_state (at_place t h q) (λ st hs pool table. Unchanged v pool table (get_or hs t no_head) m) u))

        -- so it is answered
        pub refused_by : (x : Refusal) → v ≡ number_of x → EditsParts st hs pool table t e (parted hs pool table t (Err x))
        refused_by x g =
            edit_refused (parted hs pool table t (Err x)) (omega (arith, g, positive x))
            (subst (λ (n : ℕ). Unchanged n pool table (get_or hs t no_head) (parted hs pool table t (Err x))) (sym g) (unchanged_by x)) (pow_pos (get_or hs t no_head).marks)

        -- accepted, and nothing has changed
        pub edit_same : (m : Parting) → v ≡ 0 → p.changed ≡ false → m.pool ≡ pool → m.table ≡ table → m.head ≡ get_or hs t no_head → m.number ≡ 0 → m.shown ≡ p.shown → m.first ≡ p.first
            → EditsParts st hs pool table t e m
        edit_same m z same a b c n b' f =
            let x : Tank = lent_on hs table t lens sets in
            edits_by e m (rw b' d.shown_fits)
            (λ s ok q. let o = at_place t h q in
            parts_same s t e ok h x (outcome x olens osets p) (performed d) v (known _ d.runs_are_lem s q) m z (left_same x olens osets p same)
            (on_state o (λ st hs pool table. m.pool ≡ pool) a) (on_state o (λ st hs pool table. m.table ≡ table) b) (on_state o (λ st hs pool table. m.head ≡ get_or hs t no_head) c)
            n (shown s q m b') f)

        -- accepted, and something has: the runs go back to the pool
        module _ (z : v ≡ 0) (changed : p.changed ≡ true) {q : Spots} (spots_are : q ≡ spots_of hs t p.runs) where
          pub places : Inside (tank_made (lent_on hs table t lens sets) olens osets p) p.runs q.at q.from q.full q.count q.grows
          places =
              inside r.state t (own_by r.state t e p.number p.runs) (tank_made (lent_on hs table t lens sets) olens osets p) r.sound h (performed_made d changed).called.formed
              (sym (known p.runs refl r.state r.parts).1 ∙ z) q (on_state (at_place t h r.parts) (λ st hs pool table. q ≡ spots_of hs t p.runs) spots_are)

          -- those behind the tank's own first, then its own
          module _ {middle last : List Run} {k n : ℕ} (k_least : q.behind ≤ k) (k_most : k ≤ q.behind) (n_least : p.runs ≤ n) (n_most : n ≤ p.runs)
              (behind : middle ≡ part pool (q.at + p.runs) (λ j. run_from pool (tank_made (lent_on hs table t lens sets) olens osets p) q.from q.full (p.runs + j)) (lowest q.grows q.behind k) k)
              (front : last ≡ laid middle q.at (run_of olens osets) n) where
            laid_is : last ≡ pool_with pool (spots_of hs t p.runs) (tank_made (lent_on hs table t lens sets) olens osets p)
            laid_is =
                let y : Tank = tank_made (lent_on hs table t lens sets) olens osets p in
                let f : ℕ → Run = run_from pool y q.from q.full in
                let mine : n ≡ p.runs = omega arith in
                let past : k ≡ q.behind = omega arith in
                let first : middle ≡ laid pool (q.at + p.runs) (λ j. f (p.runs + j)) q.behind = (rw past at behind) ∙ part_all pool (q.at + p.runs) _ q.grows q.behind in
                let then : last ≡ laid middle q.at f p.runs = (rw mine at front) ∙ laid_cong middle q.at _ f p.runs (λ j i. run_own pool y q.from q.full j i) in
                then
                ∙ ap (λ (l : List Run). laid l q.at f p.runs) first
                ∙ laid_two pool q.at f p.runs q.behind
                ∙ ap (λ (s : Spots). laid pool s.at (run_from pool y s.from s.full) (p.runs + s.behind)) spots_are
                ∙ all_written hs pool t y (sum_next (runs_in hs) t 8 h)

            pub edit_done : (m : Parting) → m.pool ≡ last → m.table.marks ≡ table_left p.table (get_or hs t no_head).marks table.marks
                → m.head ≡ record { touched = true; length = p.length; runs = p.runs; marks = p.marks } → m.number ≡ 0 → m.shown ≡ p.shown → m.first ≡ p.first → EditsParts st hs pool table t e m
            unfolding puts
            edit_done m a b c n b' f =
                let x : Tank = lent_on hs table t lens sets in
                let y : Tank = tank_made x olens osets p in
                edits_by e m (rw b' d.shown_fits)
                (λ s ok o. parts_done s t e ok h x (outcome_made x olens osets p) (performed_made d changed) v (known p.runs refl s o) m z
                (on_state (at_place t h o) (λ st hs pool table. m.pool ≡ pool_with pool (spots_of hs t p.runs) y) (a ∙ laid_is))
                (ap (λ (ms : List Mark). record { marks = ms }) b) c n (shown s o m b') f)

      -- refused by the tank's own rules, and not judged
      pub own_refused : (e : Edit) {olens osets : List ℕ} (o : Outline) (x : Refusal) → PerformsOn e (lent_on hs table t lens sets) olens osets (kept_as (number_of x) 0 o)
          → EditsParts st hs pool table t e (parted hs pool table t (Err x))
      own_refused e o x d = refused_by e d (first_stays (number_of x) (share_number (made_by e) (share_of st t) (runs_in hs t) o.runs) (judgement st (runs_in hs) t o.runs) (positive x)) x refl
