-- A run has one text. Assumes nothing.
use Prim.Native.Nat.{ℕ}
use native.Mathlib.Omega.{arith}
use mathlib.Core.Path.{◌≡◌, refl, ap, subst as along}
use mathlib.Core.List.{List, ◌++◌}
use Rattle.format.specs.Version.{Version}
use Rattle.log_order.specs.Chains.{Unordered}
use Rattle.rules.specs.Run.{Run, log}
use Rattle.text_race_lines.specs.Lines.{unordered_lines}
use Rattle.text_race_lines.proofs.Records.{unordered_once}
use Rattle.text_play_lines.specs.Told.{shot_lines, RunTold, no_race, races}

pub told_once : {v : Version} {r : Run} {s t : List ℕ} → RunTold v r s → RunTold v r t → s ≡ t
told_once (no_race x) (no_race y) = refl
told_once (no_race x) (races q l u) = absurd (x q)
told_once (races q l u) (no_race y) = absurd (y q)
told_once {v} {r} (races {j = i} q l u) (races {j = j} p k w) =
    let e : i ≡ j = omega arith in
    ap (λ (t : List ℕ). shot_lines r ++ t)
    (along (λ (n : ℕ). (x : Unordered v (log r) n) → unordered_lines u ≡ unordered_lines x) e (λ x. unordered_once u x) w)
