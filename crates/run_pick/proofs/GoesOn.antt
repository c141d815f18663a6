-- A move that only goes on elsewhere: its thread is ready, makes no thread, and leaves all but its own head as it was. Assumes nothing.
use Prim.Native.Nat.{ℕ, ◌≤◌}
use native.Mathlib.Omega.{arith}
use mathlib.Core.Path.{◌≡◌, refl}
use mathlib.Core.Bool.{Bool, true, false, cond}
use lib.Dec.{ltb, leb}
use borrow.Author.Tests.{ltb-false, leb-true, ne_eqb}
use Rattle.run_frames.specs.Inner.RedexKinds.{RedexKind as redex, is_redex}
use Rattle.run_frames.specs.declared.refocusing.Refocusing.{Refocusing}
use Rattle.run_state.specs.declared.Setting.{Setting}
use Rattle.run_state.specs.declared.Head.{Head}
use Rattle.run_state.specs.declared.Cell.{Cell}
use Rattle.run_state.specs.declared.Object.{Object}
use Rattle.run_state.specs.declared.Counts.{Counts}
use Rattle.run_state.specs.Inner.Acted.{go_on}
use Rattle.run_look.specs.declared.Sight.TheVariants as sight
use Rattle.run_look.specs.Inner.Look.{about_field, look_by}
use Rattle.run_act.specs.Inner.Act.{goes_on_by, act_pure, act_by}

no_lower : (b x : Bool) → cond b false x ≡ true → b ≡ false
no_lower true x h = absurd (let z : ◌≡◌ {A = ℕ} 0 1 = cc in omega arith)
no_lower false x h = refl

no_higher : (b x : Bool) → cond b false x ≡ true → x ≡ true
no_higher true x h = absurd (let z : ◌≡◌ {A = ℕ} 0 1 = cc in omega arith)
no_higher false x h = h

module _ (p : ℕ) (e : goes_on_by p ≡ true) where
  low : 2 ≤ p
  unfolding goes_on_by
  low = ltb-false p 2 (no_lower (ltb p 2) (leb p 8) e)

  high : p ≤ 8
  unfolding goes_on_by
  high = leb-true p 8 (no_higher (ltb p 2) (leb p 8) e)

  pub no_fork : is_redex redex.Fork p ≡ false
  no_fork = ne_eqb p 12 (λ x. omega (arith, high))

  pub no_signal : is_redex redex.Signal p ≡ false
  no_signal = ne_eqb p 16 (λ x. omega (arith, high))

  pub is_ready : (g : Setting) (h : Head) (c : Cell) (t : Object) (q w : ℕ) → look_by p g h c t q w ≡ sight.Ready
  unfolding look_by about_field
  is_ready g h c t q w =
      simp (
        ne_eqb p 0 (λ x. omega (arith, low)),
        ne_eqb p 1 (λ x. omega (arith, low)),
        ne_eqb p 10 (λ x. omega (arith, high)),
        ne_eqb p 11 (λ x. omega (arith, high)),
        ne_eqb p 13 (λ x. omega (arith, high)),
        ne_eqb p 14 (λ x. omega (arith, high)),
        ne_eqb p 16 (λ x. omega (arith, high)),
        ne_eqb p 17 (λ x. omega (arith, high)),
      )

  pub only_goes : (g : Setting) (n : Counts) (h : Head) (c : Cell) (t : Object) (q : Head) → act_by p g n h c t q ≡ go_on (act_pure h) n h c
  unfolding act_by
  only_goes g n h c t q =
      simp (
        ne_eqb p 9 (λ x. omega (arith, high)),
        ne_eqb p 10 (λ x. omega (arith, high)),
        ne_eqb p 11 (λ x. omega (arith, high)),
        ne_eqb p 12 (λ x. omega (arith, high)),
        ne_eqb p 13 (λ x. omega (arith, high)),
        ne_eqb p 14 (λ x. omega (arith, high)),
        ne_eqb p 15 (λ x. omega (arith, high)),
        ne_eqb p 16 (λ x. omega (arith, high)),
        ne_eqb p 17 (λ x. omega (arith, high)),
      )
