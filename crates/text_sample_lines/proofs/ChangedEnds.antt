-- Bytes at the end of what was added to a text, changed for as many others. Assumes nothing.
use Prim.Native.Nat.{ℕ, ◌+◌, ◌-◌, ◌≤◌}
use native.Mathlib.Omega.{arith}
use mathlib.Core.Path.{◌≡◌, sym, ap, ◌∙◌}
use mathlib.Core.List.{List, ◌++◌, append_assoc}
use lib.ListN.{length, length-append, take, drop, take-append-drop}
use lib.Seq.{length-take-le, take_at, drop_at}
use borrow.Rule.Slice.PartMut.{mid_of, post_of, put_mid, same_len_mid, drop_put}
use Rattle.text.specs.Inner.Wrote.{Wrote}

module _ (p xs : List ℕ) {a b : List ℕ} {at r : ℕ} (w : Wrote a at (p ++ xs) b r) (room : at + length (p ++ xs) ≤ length a) (n : ℕ) (long : length xs ≡ n) where
  abbrev from : ℕ
  from = r - n

  abbrev first : List ℕ
  first = take at a ++ p

  first_long : length first ≡ from
  first_long = omega (arith, length-append (take at a) p, length-append p xs, length-take-le at a (omega arith), w.next)

  -- they are the last n of the text
  n_bytes : r - from ≡ n
  n_bytes = omega (arith, length-append p xs, w.next)

  whole : b ≡ first ++ (xs ++ drop r b)
  whole = sym (take-append-drop r b) ∙ ap (λ (l : List ℕ). l ++ drop r b) w.text ∙ simp append_assoc

  pub last_bytes : mid_of from (r - from) b ≡ xs
  last_bytes = ap (mid_of from (r - from)) whole ∙ ap (take (r - from)) (drop_at first (xs ++ drop r b) from first_long)
      ∙ take_at xs (drop r b) (r - from) (omega (arith, n_bytes, long))

  -- with others in their place
  module _ (ys : List ℕ) (as_long : length ys ≡ n) where
    before_them : take from b ≡ first
    before_them = ap (take from) whole ∙ take_at first (xs ++ drop r b) from first_long

    pub last_changed : Wrote a at (p ++ ys) (put_mid from (r - from) b ys) r
    last_changed = record {
      next = omega (arith, w.next, length-append p xs, length-append p ys);
      kept = same_len_mid from (r - from) b ys (as_long ∙ sym long ∙ sym (ap length last_bytes)) ∙ w.kept;
      text = ap (take r) (ap (λ (l : List ℕ). l ++ (ys ++ post_of from (r - from) b)) before_them ∙ sym (append_assoc first ys (post_of from (r - from) b)))
          ∙ take_at (first ++ ys) (post_of from (r - from) b) r (omega (arith, length-append first ys, first_long, length-append p xs, w.next))
          ∙ append_assoc (take at a) p ys;
      rest = drop_put from r b ys (omega arith) (omega (arith, w.kept, w.next)) (omega (arith, n_bytes)) ∙ w.rest;
    }
