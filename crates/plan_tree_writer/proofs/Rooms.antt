-- The room that each step leaves to the next: in the numbers and in the area, whose length stays. Assumes nothing.
use Prim.Native.Nat.{ℕ, ◌+◌, ◌*◌, ◌≤◌, ◌<◌}
use native.Mathlib.Omega.{arith}
use mathlib.Core.Path.{◌≡◌, ap, ◌∙◌}
use mathlib.Core.List.{List}
use lib.ListN.{length}
use lib.Seq.{sets, length-sets}
use Rattle.plan_written.specs.Terms.{TermTree, words_from}
use Rattle.plan_written.specs.Written.{bytes_of, word_bytes}
use Rattle.plan_written.proofs.Named.{size_pos}
use Rattle.plan_tree_writer.specs.Inner.Left.{Room, Wrote}
use Rattle.plan_tree_writer.proofs.Shapes.{One, Two, Three}

-- an area keeps its length
pub put_keeps : (area : List ℕ) (i w : ℕ) {area₁ : List ℕ} → area₁ ≡ sets area i (bytes_of 5 w) → length area₁ ≡ length area
put_keeps area i w e = ap length e ∙ length-sets area i (bytes_of 5 w)

pub tree_keeps : {e : TermTree} {base n r : ℕ} {area area₁ : List ℕ} → Wrote e base n area area₁ r → length area₁ ≡ length area
tree_keeps {e} {base} {n} {r} {area} h = ap length h.bytes ∙ length-sets area (base + 5 * n) (word_bytes (words_from n e))

module _ {e : TermTree} {base n : ℕ} {area : List ℕ} (room : Room e base n area) where
  -- for the term's own five bytes
  pub put_room : base + 5 * n + 5 ≤ length area
  put_room = omega (arith, room.placed, size_pos e)

  pub own_number : n < 1024
  own_number = omega (arith, room.numbered, size_pos e)

  -- one child
  module _ {w : ℕ → ℕ} {a : TermTree} (l : One e w a) where
    pub one_small : n + 1 < 1024
    one_small = omega (arith, room.numbered, l.one_size, size_pos a)

    pub one_room : {area₁ : List ℕ} → length area₁ ≡ length area → Room a base (n + 1) area₁
    one_room q = record { numbered = omega (arith, room.numbered, l.one_size); placed = omega (arith, room.placed, l.one_size) }

  -- two
  module _ {w : ℕ → ℕ → ℕ} {a b : TermTree} (l : Two e w a b) where
    pub two_first : Room a base (n + 1) area
    two_first = record { numbered = omega (arith, room.numbered, l.two_size); placed = omega (arith, room.placed, l.two_size) }

    pub two_small : {area₁ : List ℕ} {k : ℕ} → Wrote a base (n + 1) area area₁ k → (n + 1 < 1024) × (k < 1024)
    two_small f = (omega (arith, room.numbered, l.two_size, size_pos b), omega (arith, room.numbered, l.two_size, f.next, size_pos b))

    pub two_second : {area₁ area₂ : List ℕ} {k : ℕ} → Wrote a base (n + 1) area area₁ k → length area₂ ≡ length area₁ → Room b base k area₂
    two_second f q =
        record {
          numbered = omega (arith, room.numbered, l.two_size, f.next);
          placed = omega (arith, room.placed, l.two_size, f.next, tree_keeps f);
        }

  -- three
  module _ {w : ℕ → ℕ → ℕ → ℕ} {a b c : TermTree} (l : Three e w a b c) where
    pub three_first : Room a base (n + 1) area
    three_first = record { numbered = omega (arith, room.numbered, l.three_size); placed = omega (arith, room.placed, l.three_size) }

    module _ {area₁ : List ℕ} {k : ℕ} (f : Wrote a base (n + 1) area area₁ k) where
      pub three_second : Room b base k area₁
      three_second =
          record {
            numbered = omega (arith, room.numbered, l.three_size, f.next);
            placed = omega (arith, room.placed, l.three_size, f.next, tree_keeps f);
          }

      pub three_small : {area₂ : List ℕ} {i : ℕ} → Wrote b base k area₁ area₂ i → (n + 1 < 1024) × (k < 1024) × (i < 1024)
      three_small g = (
        omega (arith, room.numbered, l.three_size, size_pos c),
        omega (arith, room.numbered, l.three_size, f.next, size_pos c),
        omega (arith, room.numbered, l.three_size, f.next, g.next, size_pos c),
      )
