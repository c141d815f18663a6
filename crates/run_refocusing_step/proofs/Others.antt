-- What the arms that name no stage say. Assumes nothing.
use mathlib.Core.Path.{◌≡◌, refl}
use mathlib.Core.List.{List, [], ◌∷◌}
use Prim.Native.Nat.{ℕ}
use types.Run.{OneOf, miss}
use denote.Enum.Declared.{tag_of}
use Rattle.run_frames.specs.contracts.refocusing.Stage as stage-type
use Rattle.run_frames.specs.declared.frame.Frame.{Frame}
use Rattle.run_frames.specs.declared.refocusing.Stage.{Stage}
use Rattle.run_frames.specs.declared.refocusing.Stage.TheVariants as stage
use Rattle.run_frames.specs.declared.refocusing.Refocusing.{Refocusing}
use Rattle.run_refocusing_step.specs.Inner.Ahead.{ahead_by, into_by}
use Rattle.run_refocusing_step.specs.Inner.Down.{stay_of, opened_by, wanted_by, down_of, step_by}

pub opened_other : (x : Stage) (ws : List ℕ) (g : Refocusing) → OneOf (0 ∷ 1 ∷ 4 ∷ 5 ∷ 6 ∷ 7 ∷ 8 ∷ []) (tag_of stage-type.the_type x) → opened_by x ws g ≡ g
opened_other stage.Full ws g h = refl
opened_other stage.At ws g h = refl
opened_other stage.Run ws g h = absurd (miss (0 ∷ 1 ∷ 4 ∷ 5 ∷ 6 ∷ 7 ∷ 8 ∷ []) 2 tt h)
opened_other stage.RunCondition ws g h = absurd (miss (0 ∷ 1 ∷ 4 ∷ 5 ∷ 6 ∷ 7 ∷ 8 ∷ []) 3 tt h)
opened_other stage.Want ws g h = refl
opened_other stage.WantCondition ws g h = refl
opened_other stage.List ws g h = refl
opened_other stage.Value ws g h = refl
opened_other stage.Truth ws g h = refl

pub ahead_other : (x : Stage) (n : ℕ) (ws : List ℕ) (g : Refocusing) → OneOf (0 ∷ 1 ∷ 2 ∷ 3 ∷ 4 ∷ 5 ∷ 7 ∷ 8 ∷ []) (tag_of stage-type.the_type x)
    → ahead_by x n ws g ≡ record { left = n; frame = g.frame }
ahead_other stage.Full n ws g h = refl
ahead_other stage.At n ws g h = refl
ahead_other stage.Run n ws g h = refl
ahead_other stage.RunCondition n ws g h = refl
ahead_other stage.Want n ws g h = refl
ahead_other stage.WantCondition n ws g h = refl
ahead_other stage.List n ws g h = absurd (miss (0 ∷ 1 ∷ 2 ∷ 3 ∷ 4 ∷ 5 ∷ 7 ∷ 8 ∷ []) 6 tt h)
ahead_other stage.Value n ws g h = refl
ahead_other stage.Truth n ws g h = refl

pub into_other : (x : Stage) (ws rs : List ℕ) (g : Refocusing) (f : Frame) → OneOf (0 ∷ 1 ∷ 2 ∷ 3 ∷ 4 ∷ 5 ∷ 7 ∷ 8 ∷ []) (tag_of stage-type.the_type x)
    → into_by x ws rs g f ≡ g
into_other stage.Full ws rs g f h = refl
into_other stage.At ws rs g f h = refl
into_other stage.Run ws rs g f h = refl
into_other stage.RunCondition ws rs g f h = refl
into_other stage.Want ws rs g f h = refl
into_other stage.WantCondition ws rs g f h = refl
into_other stage.List ws rs g f h = absurd (miss (0 ∷ 1 ∷ 2 ∷ 3 ∷ 4 ∷ 5 ∷ 7 ∷ 8 ∷ []) 6 tt h)
into_other stage.Value ws rs g f h = refl
into_other stage.Truth ws rs g f h = refl

pub wanted_other : (x : Stage) (ws : List ℕ) (g : Refocusing) (d : ℕ) → OneOf (0 ∷ 1 ∷ 2 ∷ 3 ∷ 6 ∷ 7 ∷ 8 ∷ []) (tag_of stage-type.the_type x)
    → wanted_by x ws g d ≡ stay_of g d
wanted_other stage.Full ws g d h = refl
wanted_other stage.At ws g d h = refl
wanted_other stage.Run ws g d h = refl
wanted_other stage.RunCondition ws g d h = refl
wanted_other stage.Want ws g d h = absurd (miss (0 ∷ 1 ∷ 2 ∷ 3 ∷ 6 ∷ 7 ∷ 8 ∷ []) 4 tt h)
wanted_other stage.WantCondition ws g d h = absurd (miss (0 ∷ 1 ∷ 2 ∷ 3 ∷ 6 ∷ 7 ∷ 8 ∷ []) 5 tt h)
wanted_other stage.List ws g d h = refl
wanted_other stage.Value ws g d h = refl
wanted_other stage.Truth ws g d h = refl

pub step_other : (x : Stage) (ws rs : List ℕ) (g : Refocusing) (d : ℕ) (f : Frame) → OneOf (0 ∷ 1 ∷ 2 ∷ 3 ∷ 4 ∷ 5 ∷ 6 ∷ []) (tag_of stage-type.the_type x)
    → step_by x ws rs g d f ≡ down_of ws rs g d
step_other stage.Full ws rs g d f h = refl
step_other stage.At ws rs g d f h = refl
step_other stage.Run ws rs g d f h = refl
step_other stage.RunCondition ws rs g d f h = refl
step_other stage.Want ws rs g d f h = refl
step_other stage.WantCondition ws rs g d f h = refl
step_other stage.List ws rs g d f h = refl
step_other stage.Value ws rs g d f h = absurd (miss (0 ∷ 1 ∷ 2 ∷ 3 ∷ 4 ∷ 5 ∷ 6 ∷ []) 7 tt h)
step_other stage.Truth ws rs g d f h = absurd (miss (0 ∷ 1 ∷ 2 ∷ 3 ∷ 4 ∷ 5 ∷ 6 ∷ []) 8 tt h)
