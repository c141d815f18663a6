-- What the inner functions add to a text area. No reader of the entry's promise needs it. Assumes nothing.
use Rattle.std.specs.Prelude.{ℕ, ◌+◌, ◌≡◌, List, ◌++◌, length, take, drop}

-- bytes were added to the first `at` bytes of an area, which now begins with r bytes of text, is as long as it was, and has its old bytes after the text
pub record Wrote (before : List ℕ) (at : ℕ) (bytes after : List ℕ) (r : ℕ) : Type 0 where
  pub next : r ≡ at + length bytes
  pub kept : length after ≡ length before
  pub text : take r after ≡ take at before ++ bytes
  pub rest : drop r after ≡ drop r before
