-- Whether another refocusing comes after one. Assumes nothing.
use mathlib.Core.Path.{◌≡◌, refl}
use mathlib.Core.Bool.{Bool, true, false}
use mathlib.Core.List.{List}
use Prim.Native.Nat.{ℕ}
use Rattle.run_refocusing.specs.declared.Refocused.{Refocused}
use Rattle.run_refocusing.specs.declared.Way.{Way}
use Rattle.run_refocusing.specs.Inner.Refocusing.{Ended, full_of, refocus_from, ends_at, after_of}

module _ (ws rs : List ℕ) (w : Way) (b : Refocused) (e : Ended) where
  pub last : (more : Bool) → more ≡ false → after_of ws rs more w b e ≡ ends_at b e
  unfolding after_of
  last more q = rw q

  pub last_full : (more : Bool) → full_of e.refocused ≡ true → after_of ws rs more w b e ≡ ends_at b e
  unfolding after_of
  last_full true f = rw f
  last_full false f = refl

  pub another : (more : Bool) → more ≡ true → full_of e.refocused ≡ false
      → after_of ws rs more w b e ≡ after_of ws rs false w e.refocused (refocus_from ws rs w e.stack)
  unfolding after_of
  another more q f = rw (q, f)

  pub both : (more : Bool) → more ≡ true → full_of e.refocused ≡ false → after_of ws rs more w b e ≡ ends_at e.refocused (refocus_from ws rs w e.stack)
  unfolding after_of
  both more q f = rw (q, f)
