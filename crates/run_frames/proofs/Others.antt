-- What the arms that name no kind say. Assumes nothing.
use mathlib.Core.Path.{◌≡◌, refl}
use mathlib.Core.List.{[], ◌∷◌}
use Prim.Native.Nat.{ℕ}
use types.Run.{OneOf, miss}
use denote.Enum.Declared.{tag_of}
use Rattle.run_frames.specs.contracts.frame.Kind as kind-type
use Rattle.run_frames.specs.declared.frame.Kind.{Kind}
use Rattle.run_frames.specs.declared.frame.Kind.TheVariants as kind
use Rattle.run_frames.specs.declared.frame.Frame.{Frame}
use Rattle.run_frames.specs.Inner.Going.{no_rule, go_at, feed_if_by, feed_if_of, feed_condition_by}

pub if_other : (x : Kind) (f : Frame) (b : ℕ) → OneOf (0 ∷ 1 ∷ 2 ∷ 3 ∷ 4 ∷ 5 ∷ 6 ∷ 7 ∷ 8 ∷ 9 ∷ 11 ∷ 12 ∷ 14 ∷ 15 ∷ []) (tag_of kind-type.the_type x)
    → feed_if_by x f b ≡ go_at no_rule
if_other kind.Read f b h = refl
if_other kind.Write1 f b h = refl
if_other kind.Write2 f b h = refl
if_other kind.Call f b h = refl
if_other kind.Let f b h = refl
if_other kind.Synch f b h = refl
if_other kind.Hold f b h = refl
if_other kind.Join f b h = refl
if_other kind.Equal1 f b h = refl
if_other kind.Equal2 f b h = refl
if_other kind.If f b h = absurd (miss (0 ∷ 1 ∷ 2 ∷ 3 ∷ 4 ∷ 5 ∷ 6 ∷ 7 ∷ 8 ∷ 9 ∷ 11 ∷ 12 ∷ 14 ∷ 15 ∷ []) 10 tt h)
if_other kind.And f b h = refl
if_other kind.Not f b h = refl
if_other kind.Test f b h = absurd (miss (0 ∷ 1 ∷ 2 ∷ 3 ∷ 4 ∷ 5 ∷ 6 ∷ 7 ∷ 8 ∷ 9 ∷ 11 ∷ 12 ∷ 14 ∷ 15 ∷ []) 13 tt h)
if_other kind.Body f b h = refl
if_other kind.Signal f b h = refl

pub feed_condition_other : (x : Kind) (f : Frame) (b : ℕ)
    → OneOf (0 ∷ 1 ∷ 2 ∷ 3 ∷ 4 ∷ 5 ∷ 6 ∷ 7 ∷ 8 ∷ 9 ∷ 10 ∷ 13 ∷ 14 ∷ 15 ∷ []) (tag_of kind-type.the_type x) → feed_condition_by x f b ≡ feed_if_of f b
feed_condition_other kind.Read f b h = refl
feed_condition_other kind.Write1 f b h = refl
feed_condition_other kind.Write2 f b h = refl
feed_condition_other kind.Call f b h = refl
feed_condition_other kind.Let f b h = refl
feed_condition_other kind.Synch f b h = refl
feed_condition_other kind.Hold f b h = refl
feed_condition_other kind.Join f b h = refl
feed_condition_other kind.Equal1 f b h = refl
feed_condition_other kind.Equal2 f b h = refl
feed_condition_other kind.If f b h = refl
feed_condition_other kind.And f b h = absurd (miss (0 ∷ 1 ∷ 2 ∷ 3 ∷ 4 ∷ 5 ∷ 6 ∷ 7 ∷ 8 ∷ 9 ∷ 10 ∷ 13 ∷ 14 ∷ 15 ∷ []) 11 tt h)
feed_condition_other kind.Not f b h = absurd (miss (0 ∷ 1 ∷ 2 ∷ 3 ∷ 4 ∷ 5 ∷ 6 ∷ 7 ∷ 8 ∷ 9 ∷ 10 ∷ 13 ∷ 14 ∷ 15 ∷ []) 12 tt h)
feed_condition_other kind.Test f b h = refl
feed_condition_other kind.Body f b h = refl
feed_condition_other kind.Signal f b h = refl
