-- Where writing stands and what stands before a token, as the code keeps both, for inner contracts: no reader of an entry's promise needs it. Assumes nothing.
use Rattle.std.specs.Prelude.{ℕ, ◌+◌, ◌≤◌, ◌≡◌, cond, List, ◌∷◌, length, replicate}
use Rattle.plan_notation.specs.Tokens.{text_of}
use Rattle.plan_notation.specs.Layout as notation
use Rattle.plan_pen.specs.declared.Pen.{Pen}
use Rattle.plan_pen.specs.declared.Gap.{Gap}

-- where writing stands
abbrev pub pen_of : Pen → notation.Pen
pen_of p = record { column = p.column; depth = p.depth; last = p.last }

-- the bytes of a gap
unfoldable pub gap_bytes : Gap → List ℕ
gap_bytes g = cond g.feed (10 ∷ replicate g.spaces 32) (replicate g.spaces 32)

-- a gap is the one that stands before token t, and writing goes on behind it
pub record Parts (p : notation.Pen) (t : ℕ) (g : Gap) : Type 0 where
  pub bytes : gap_bytes g ≡ notation.gap p t
  pub column : cond g.feed g.spaces (p.column + g.spaces) + length (text_of t) ≡ notation.column_after p t
  pub few : g.spaces ≤ 40
