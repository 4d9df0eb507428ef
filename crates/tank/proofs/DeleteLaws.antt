-- A deletion by its cases.
use Prim.Native.Nat.{ℕ, ◌≤◌, ◌<◌}
use mathlib.Core.Path.{◌≡◌, refl, sym, ap, ◌∙◌}
use mathlib.Core.Bool.{true, false}
use native.Mathlib.Omega.{arith}
use borrow.Author.Tests.{lt-leb, le-leb, lt-ltb, le-ltb}
use Rattle.styles.specs.declared.Party.{Party}
use Rattle.tank.specs.declared.Tank.{Tank}
use Rattle.tank.specs.Rules.{View, deleting, is_lab, after, after_delete, barred, empty, over, long, own_number, clashes, full, refusal}
use Rattle.tank.specs.State.{view, Laid, Sound, Called}
use Rattle.tank.specs.Steps.{Trimmed, CanCut}
use Rattle.tank.proofs.Calls.{number_16, number_3, number_4, number_0, refused, made}

-- an untouched tank stays as it is
delete_untouched : (a b : ℕ) (v : View) → v.touched ≡ false → after_delete a b v ≡ v
unfolding after_delete
delete_untouched a b v e = rw e

-- and a touched one stays touched
delete_touched : (a b : ℕ) (v : View) → v.touched ≡ true → (after_delete a b v).touched ≡ true
unfolding after_delete
delete_touched a b v e = rw e

module _ {t : Tank} (s : Sound t) (who : Party) (start end : ℕ) where
  pub refused_16 : is_lab who ≡ true → Called (deleting who start end) t 16 t
  unfolding barred
  refused_16 h = refused s 15 (number_16 (deleting who start end) (view t) h)

module _ {t : Tank} (s : Sound t) (who : Party) (plant : is_lab who ≡ false) (start end : ℕ) where
  allowed : barred (deleting who start end) ≡ false
  unfolding barred
  allowed = plant

  pub refused_3 : end ≤ start → Called (deleting who start end) t 3 t
  unfolding empty
  refused_3 h = refused s 2 (number_3 (deleting who start end) (view t) allowed (le-leb end start h))

  module _ (up : start < end) where
    pub refused_4 : t.length < end → Called (deleting who start end) t 4 t
    unfolding empty over view
    refused_4 h = refused s 3 (number_4 (deleting who start end) (view t) allowed (lt-leb end start up) (lt-ltb t.length end h))

    module _ (fits : end ≤ t.length) where
      accepted : refusal (deleting who start end) (view t) ≡ 0
      unfolding empty over long own_number clashes full view
      accepted = number_0 (deleting who start end) (view t) allowed (lt-leb end start up) (le-ltb t.length end fits) refl refl refl refl

      pub untouched : t.touched ≡ false → Called (deleting who start end) t 0 t
      unfolding after view
      untouched e = made accepted s.formed (sym (delete_untouched start end (view t) e))

      module _ (e : t.touched ≡ true) where
        pub can_cut : CanCut t start end
        can_cut = record { range = record { laid = s.formed.laid; room = s.within; up = omega arith; fits = fits }; touched = e }

        module _ {u : Tank} (c : (Laid u) × (view u ≡ after_delete start end (view t))) where
          pub still_touched : u.touched ≡ true
          unfolding view
          still_touched = ap (λ (v : View). v.touched) c.1 ∙ delete_touched start end (view t) e

          pub delete_done : {r : Tank} → Trimmed u r → Called (deleting who start end) t 0 r
          unfolding after
          delete_done d = made accepted d.formed (d.is ∙ c.1)
