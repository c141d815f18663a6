-- Refocusing that is full has found more frames than there is room for, and other refocusing the redex that moves next. Assumes nothing.
use Prim.Native.Nat.{ℕ}
use native.Mathlib.Omega.{arith}
use mathlib.Core.Path.{◌≡◌, sym, ap, ◌∙◌}
use mathlib.Core.Bool.{false, true≢false}
use mathlib.Core.List.{List}
use lib.Dec.{ltb}
use lib.ListN.{length}
use borrow.Author.Tests.{lt-ltb, le-ltb}
use Rattle.machine.specs.Inner.Frames.{height}
use Rattle.machine.specs.Inner.Frames as frames
use Rattle.run_frames.specs.Inner.RedexKinds.{RedexKind, RedexKind as redex}
use Rattle.run_frames.specs.declared.refocusing.Ready.{Ready}
use Rattle.run_frames.specs.declared.refocusing.Stage.{Stage}
use Rattle.run_frames.specs.declared.refocusing.Stage.TheVariants as stage
use Rattle.run_refocusing.specs.Inner.Refocusing.{Ended}
use Rattle.run_pick.specs.Inner.Pick.{full_by}
use Rattle.refinement.proofs.Meant.{StandsBy, FoundBy}

stands_height : (b : List ℕ) (P : RedexKind) (r : Ready) (S : List frames.Frame) (X : frames.Found) → StandsBy b P r S X → height X ≡ length S
unfolding height
stands_height b redex.Done r S X h = ap height h.1 ∙ ap length (sym h.0)
stands_height b redex.NoRule r S X h = absurd h
stands_height b redex.Run r S X h = ap height h.2.1
stands_height b redex.RunCondition r S X h = ap height h.2
stands_height b redex.Val r S X h = ap height h.2.1
stands_height b redex.Truth r S X h = ap height h.2.1
stands_height b redex.While r S X h = ap height h.3
stands_height b redex.Body r S X h = ap height h.3
stands_height b redex.Again r S X h = ap height h.3.1
stands_height b redex.New r S X h = ap height h.3
stands_height b redex.Read r S X h = ap height h.4
stands_height b redex.Write r S X h = ap height h.5
stands_height b redex.Fork r S X h = ap height h.2
stands_height b redex.Join r S X h = ap height h.2
stands_height b redex.Synch r S X h = ap height h.3
stands_height b redex.Hold r S X h = ap height h.3
stands_height b redex.Signal r S X h = ap height h.2
stands_height b redex.Waiting r S X h = ap height h.2

-- refocusing is full where there are too many frames
pub found_full : (b : List ℕ) (g : Stage) (E : Ended) (base : ℕ) (X : frames.Found) → FoundBy b g E base X → full_by g ≡ ltb 32 (height X)
found_full b stage.Full E base X h = sym (lt-ltb 32 (height X) h)
found_full b stage.At E base X (S, held, depth, shallow, stands) =
    let e = stands_height b stands.0 E.refocused.ready S X stands.2 in sym (le-ltb 32 (height X) (omega arith))
found_full b stage.Run E base X h = absurd h
found_full b stage.RunCondition E base X h = absurd h
found_full b stage.Want E base X h = absurd h
found_full b stage.WantCondition E base X h = absurd h
found_full b stage.List E base X h = absurd h
found_full b stage.Value E base X h = absurd h
found_full b stage.Truth E base X h = absurd h

-- and else the redex is found
pub found_at : (b : List ℕ) (g : Stage) (E : Ended) (base : ℕ) (X : frames.Found) → FoundBy b g E base X → full_by g ≡ false → FoundBy b stage.At E base X
found_at b stage.Full E base X h e = absurd (true≢false e)
found_at b stage.At E base X h e = h
found_at b stage.Run E base X h e = absurd h
found_at b stage.RunCondition E base X h e = absurd h
found_at b stage.Want E base X h e = absurd h
found_at b stage.WantCondition E base X h e = absurd h
found_at b stage.List E base X h e = absurd h
found_at b stage.Value E base X h e = absurd h
found_at b stage.Truth E base X h e = absurd h
