-- The gaps before tokens as marks, a number each, and the text that they make, for inner contracts: no reader of an entry's promise needs it. Assumes nothing.
use Rattle.std.specs.Prelude.{ℕ, zero, suc, ◌+◌, ◌%◌, ◌≤◌, ◌<◌, ◌≡◌, List, [], ◌∷◌, ◌++◌, leb, length, get_or, take, drop}
use Rattle.plan_notation.specs.Tokens.{text_of}
use Rattle.plan_notation.specs.Layout.{laid_out}
use Rattle.plan_pen.specs.declared.Gap.{Gap}
use Rattle.plan_pen.specs.Inner.Pens.{gap_bytes}

-- the gap of a mark: its spaces, and 64 for a line feed
abbrev pub gap_of : ℕ → Gap
gap_of m = record { spaces = m % 64; feed = leb 64 m }

-- the bytes of the first n tokens, each behind the gap of its mark
unfoldable pub text_to : List ℕ → List ℕ → ℕ → List ℕ
unfolding gap_bytes text_of
text_to ts ms zero = []
text_to ts ms (suc n) = text_to ts ms n ++ (gap_bytes (gap_of (get_or ms n 0)) ++ text_of (get_or ts n 0))

-- these are the marks of the gaps in the text of these tokens
pub record Marked (ts ms : List ℕ) : Type 0 where
  pub text : laid_out ts ≡ text_to ts ms (length ts) ++ (10 ∷ [])
  pub few : (i : ℕ) → i < length ts → get_or ms i 0 % 64 ≤ 40

-- bytes were added to the first `at` bytes of an area, which now begins with r bytes of text, is as long as it was, and from `end` on has its old bytes
pub record WroteWithin (before : List ℕ) (at : ℕ) (bytes after : List ℕ) (r end : ℕ) : Type 0 where
  pub next : r ≡ at + length bytes
  pub kept : length after ≡ length before
  pub text : take r after ≡ take at before ++ bytes
  pub rest : drop end after ≡ drop end before

-- a room begins with r bytes, the text of these tokens
pub record LaidWithin (ts room : List ℕ) (r : ℕ) : Type 0 where
  pub within : r ≤ length room
  pub laid : take r room ≡ laid_out ts
