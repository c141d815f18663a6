-- A thread has finished where its redex says so. Assumes nothing.
use Prim.Native.Nat.{ℕ, ◌<◌}
use mathlib.Core.Path.{◌≡◌, refl, sym, ap, subst as along}
use mathlib.Core.Bool.{cond}
use mathlib.Core.List.{List}
use mathlib.Core.Option.{some, none}
use mathlib.Core.Logic.{◌⊎◌, inl, inr}
use Rattle.machine.specs.Inner.Frames as frames
use Rattle.machine.specs.Inner.Machine as machine
use Rattle.run_frames.specs.Inner.RedexKinds.{RedexKind, RedexKind as redex, number_of as redexNumber, is_redex}
use Rattle.run_frames.specs.declared.refocusing.Ready.{Ready}
use Rattle.run_look.specs.declared.Block.TheVariants as block
use Rattle.run_look.specs.declared.Sight.{Sight}
use Rattle.run_look.specs.declared.Sight.TheVariants as sight
use Rattle.refinement.proofs.Meant.{Stands, StandsBy}

-- what a join of a thread at redex q meets
abbrev pub join_by : ℕ → Sight
join_by q = cond (is_redex redex.Done q) sight.Ready (sight.Blocked block.Join)

-- a thread is finished where its redex says so
abbrev pub Ends : ℕ → ℕ → frames.Found → Type 0
Ends q a X = ((join_by q ≡ sight.Ready) × (machine.finished_with X ≡ some a) × (a < 32)) ⊎
    ((join_by q ≡ sight.Blocked block.Join) × (machine.finished_with X ≡ none))

ends_here : (P : RedexKind) (a : ℕ) (X : frames.Found) (S : List frames.Frame) (R : frames.Ready) → join_by (redexNumber P) ≡ sight.Blocked block.Join
    → X ≡ frames.Found.here S R → Ends (redexNumber P) a X
unfolding machine.finished_with
ends_here P a X S R j e = inr (j, ap machine.finished_with e)

ends_hereᶜ : (P : RedexKind) (a : ℕ) (X : frames.Found) (S : List frames.Frame) (Q : frames.Readyᶜ) → join_by (redexNumber P) ≡ sight.Blocked block.Join
    → X ≡ frames.Found.hereᶜ S Q → Ends (redexNumber P) a X
unfolding machine.finished_with
ends_hereᶜ P a X S Q j e = inr (j, ap machine.finished_with e)

stands_ends : (b : List ℕ) (P : RedexKind) (r : Ready) (S : List frames.Frame) (X : frames.Found) → StandsBy b P r S X → Ends (redexNumber P) r.first X
unfolding machine.finished_with
stands_ends b redex.Done r S X h = inl (refl, ap machine.finished_with h.1, h.2)
stands_ends b redex.NoRule r S X h = absurd h
stands_ends b redex.Run r S X h = ends_here redex.Run r.first X S _ refl h.2.1
stands_ends b redex.RunCondition r S X h = ends_hereᶜ redex.RunCondition r.first X S _ refl h.2
stands_ends b redex.Val r S X h = ends_here redex.Val r.first X S _ refl h.2.1
stands_ends b redex.Truth r S X h = ends_hereᶜ redex.Truth r.first X S _ refl h.2.1
stands_ends b redex.While r S X h = ends_here redex.While r.first X S _ refl h.3
stands_ends b redex.Body r S X h = ends_here redex.Body r.first X S _ refl h.3
stands_ends b redex.Again r S X h = ends_here redex.Again r.first X S _ refl h.3.1
stands_ends b redex.New r S X h = ends_here redex.New r.first X S _ refl h.3
stands_ends b redex.Read r S X h = ends_here redex.Read r.first X S _ refl h.4
stands_ends b redex.Write r S X h = ends_here redex.Write r.first X S _ refl h.5
stands_ends b redex.Fork r S X h = ends_here redex.Fork r.first X S _ refl h.2
stands_ends b redex.Join r S X h = ends_here redex.Join r.first X S _ refl h.2
stands_ends b redex.Synch r S X h = ends_here redex.Synch r.first X S _ refl h.3
stands_ends b redex.Hold r S X h = ends_here redex.Hold r.first X S _ refl h.3
stands_ends b redex.Signal r S X h = ends_here redex.Signal r.first X S _ refl h.2
stands_ends b redex.Waiting r S X h = ends_here redex.Waiting r.first X S _ refl h.2

pub ends : (b : List ℕ) (r : Ready) (S : List frames.Frame) (X : frames.Found) → Stands b r S X → Ends r.redex r.first X
ends b r S X (P, e, h) = along (λ (q : ℕ). Ends q r.first X) (sym e) (stands_ends b P r S X h)
