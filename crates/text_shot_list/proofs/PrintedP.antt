-- The first marked case of document 01's shot list as it is printed, by computation. Assumes nothing.
use Prim.Native.Nat.{ℕ}
use Prim.Native.String.{String}
use mathlib.Core.Path.{◌≡◌, refl}
use mathlib.Core.List.{List, [], ◌∷◌, ◌++◌}
use Rattle.rules.specs.ShotList.{plan_p}
use Rattle.text.specs.Text.{ascii}
use Rattle.text_shot_list.specs.Printed.{printed}

-- a line as the document shows it
abbrev shown : String → List ℕ
shown words = ascii words ++ (10 ∷ [])

-- "With picks 0 0 0 0 0 1 0 it prints, whole": 55 bytes of plan, the plan, the picks
pub printed_p : printed (0x00 ∷ 0x37 ∷ (plan_p ++ (0 ∷ 0 ∷ 0 ∷ 0 ∷ 0 ∷ 1 ∷ 0 ∷ [])))
    ≡ shown "0 new 0 1 0 0" ++ (shown "1 fork 0 2 1 0" ++ (shown "2 write 1 1 1 0" ++ (shown "3 lacks-read 0 1 1 0" ++ shown "race 6 6 4")))
unfolding printed plan_p ascii
printed_p = refl
