-- A text at the start of an area. Assumes nothing.
use Prim.Native.Nat.{ℕ, ◌+◌, ◌≤◌}
use native.Mathlib.Omega.{arith}
use mathlib.Core.Path.{◌≡◌, refl, sym, ap, ◌∙◌}
use mathlib.Core.List.{List, ◌++◌}
use lib.ListN.{length, length-append, length-take, length-drop, take, drop}
use lib.Seq.{take-append_seam, drop-append_seam}
use Rattle.format.specs.Area.{overwrite}
use Rattle.text.specs.Inner.Wrote.{Wrote}

pub overwritten : {text area after : List ℕ} {n : ℕ} → n ≡ length text → n ≤ length area → after ≡ overwrite text area → Wrote area 0 text after n
unfolding overwrite
overwritten {text} {area} {after} {n} e h w =
    record {
      next = omega arith;
      kept = ap length w ∙ length-append text (drop (length text) area) ∙ omega (arith, length-drop (length text) area);
      text = ap (take n) w ∙ ap (λ (k : ℕ). take k (text ++ drop (length text) area)) e ∙ take-append_seam text (drop (length text) area);
      rest =
          ap (drop n) w
          ∙ ap (λ (k : ℕ). drop k (text ++ drop (length text) area)) e
          ∙ drop-append_seam text (drop (length text) area)
          ∙ ap (λ (k : ℕ). drop k area) (sym e);
    }

-- a text lies within its area
pub wrote_within : {before text after : List ℕ} {r : ℕ} → Wrote before 0 text after r → r ≤ length after
wrote_within {before} {text} {after} {r} w =
    omega (arith, w.next, ap length w.text, length-append (take 0 before) text, length-take r after, length-take 0 before)
