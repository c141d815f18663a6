-- The answer and the area are determined. Assumes nothing.
use Prim.Native.Nat.{ℕ, ◌≤◌, ◌<◌}
use native.Mathlib.Omega.{arith}
use mathlib.Core.Path.{◌≡◌, refl, sym, ap, ◌∙◌}
use mathlib.Core.Bool.{true≢false}
use mathlib.Core.List.{List}
use mathlib.Core.Option.{some, none, none-ne-some}
use lib.ListN.{length}
use Rattle.format.specs.Refusal.{Refusal}
use Rattle.format.specs.Area.{overwrite}
use Rattle.plan_packed.specs.Trees.{program_of}
use Rattle.answers.specs.Answer.{Answer}
use Rattle.side_by_side.specs.Moves.{moves_of}
use Rattle.side_by_side.proofs.Written.{written_once}
use Rattle.witness.specs.Witness.{race_refusal, Witnesses, refused, too_short, wrote}

module _ (plan schedule area : List ℕ) where
  pub witnessed_once : {x y : Answer} {l k : List ℕ} → Witnesses plan schedule area x l → Witnesses plan schedule area y k → (x ≡ y) × (l ≡ k)
  witnessed_once (refused {r} e) (refused {r = s} h) = let q : some r ≡ some s = sym e ∙ h in let z : r ≡ s = cc in (ap Answer.refused z, refl)
  witnessed_once (refused {r} e) (too_short n w h) = absurd (none-ne-some r (sym n ∙ e))
  witnessed_once (refused {r} e) (wrote n w s h) = absurd (none-ne-some r (sym n ∙ e))
  witnessed_once (too_short n w h) (refused {r} e) = absurd (none-ne-some r (sym n ∙ e))
  witnessed_once (too_short n w h) (too_short m v k) = (refl, refl)
  witnessed_once (too_short {qs} n w h) (wrote {qs = ps} m v s k) = let e = ap length (written_once (moves_of (program_of plan) schedule) qs ps w v) in
      absurd (omega arith)
  witnessed_once (wrote n w s h) (refused {r} e) = absurd (none-ne-some r (sym n ∙ e))
  witnessed_once (wrote {qs} n w s h) (too_short {qs = ps} m v k) = let e = ap length (written_once (moves_of (program_of plan) schedule) qs ps w v) in
      absurd (omega arith)
  witnessed_once (wrote {qs} n w s h) (wrote {qs = ps} m v t k) =
      let e : qs ≡ ps = written_once (moves_of (program_of plan) schedule) qs ps w v in
      (ap (λ (q : List ℕ). Answer.value (length q)) e, ap (λ (q : List ℕ). overwrite q area) e)
