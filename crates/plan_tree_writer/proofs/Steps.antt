-- What is written of a tree and what is left, step by step: the parent's word comes after the words of all its children but the last. Assumes nothing.
use Prim.Native.Nat.{ℕ, suc, ◌+◌, ◌*◌, ◌<◌}
use native.Mathlib.Omega.{arith}
use mathlib.Core.Path.{◌≡◌, refl, sym, ap, ◌∙◌}
use mathlib.Core.List.{List, [], ◌∷◌, ◌++◌, append-nil, append_assoc}
use lib.ListN.{length}
use lib.Seq.{sets}
use Rattle.plan_written.specs.Terms.{TermTree, size, words_from}
use Rattle.plan_written.specs.Written.{bytes_of, word_bytes}
use Rattle.plan_written.proofs.Bytes.{bytes_length, words_length, words_append}
use Rattle.plan_written.proofs.ReadBack.{tree_length}
use Rattle.plan_tree_writer.specs.Inner.Left.{after, Wrote, finished, end_of, Going}
use Rattle.plan_tree_writer.specs.declared.Left.TheVariants.{Done, At}
use Rattle.plan_tree_writer.proofs.Areas.{sets_append, sets_apart}
use Rattle.plan_tree_writer.proofs.Shapes.{Leaf, One, Two, Three}

-- ---- words one after the other

-- a tree's bytes
abbrev block : TermTree → ℕ → List ℕ
block e n = word_bytes (words_from n e)

block_length : (e : TermTree) (n : ℕ) → length (block e n) ≡ 5 * size e
block_length e n = words_length (words_from n e) ∙ ap (λ (m : ℕ). 5 * m) (tree_length e n)

first_word : (w : ℕ) (ws : List ℕ) → word_bytes (w ∷ ws) ≡ bytes_of 5 w ++ word_bytes ws
unfolding word_bytes
first_word w ws = refl

no_words : word_bytes [] ≡ []
unfolding word_bytes
no_words = refl

only_word : (w : ℕ) → word_bytes (w ∷ []) ≡ bytes_of 5 w
only_word w = first_word w [] ∙ ap (λ (l : List ℕ). bytes_of 5 w ++ l) no_words ∙ append-nil (bytes_of 5 w)

module _ (base : ℕ) (area : List ℕ) where
  abbrev at : ℕ → ℕ
  at n = base + 5 * n

  -- a word, and then others
  word_then : (n w : ℕ) (ws : List ℕ) → sets area (at n) (word_bytes (w ∷ ws)) ≡ sets (sets area (at n) (bytes_of 5 w)) (at (suc n)) (word_bytes ws)
  word_then n w ws = ap (sets area (at n)) (first_word w ws)
      ∙ sets_append (bytes_of 5 w) (word_bytes ws) area (at n) (at (suc n)) (omega (arith, bytes_length 5 w))

  -- the words of a tree, and then others
  tree_then : (e : TermTree) (n : ℕ) (ws : List ℕ)
      → sets area (at n) (word_bytes (words_from n e ++ ws)) ≡ sets (after e base n area) (at (n + size e)) (word_bytes ws)
  tree_then e n ws =
      ap (sets area (at n)) (words_append (words_from n e) ws)
      ∙ sets_append (block e n) (word_bytes ws) area (at n) (at (n + size e)) (omega (arith, block_length e n))

  -- a word before those of a later tree
  word_before : (w n m : ℕ) (e : TermTree) → n < m → sets (after e base m area) (at n) (bytes_of 5 w) ≡ after e base m (sets area (at n) (bytes_of 5 w))
  word_before w n m e h = sets_apart (bytes_of 5 w) (block e m) area (at n) (at m) (omega (arith, bytes_length 5 w))

-- ---- trees one after the other, the parent's word after all its children's but the last

module _ (base : ℕ) (area : List ℕ) where
  one_bytes : {e a : TermTree} {w : ℕ → ℕ} → One e w a → (n : ℕ) → after e base n area ≡ after a base (suc n) (sets area (base + 5 * n) (bytes_of 5 (w (suc n))))
  one_bytes {e} {a} {w} l n = ap (λ (ws : List ℕ). sets area (base + 5 * n) (word_bytes ws)) (l.one_words n)
      ∙ word_then base area n (w (suc n)) (words_from (suc n) a)

  two_bytes : {e a b : TermTree} {w : ℕ → ℕ → ℕ} → Two e w a b → (n : ℕ)
      → after e base n area ≡ after b base (suc n + size a) (sets (after a base (suc n) area) (base + 5 * n) (bytes_of 5 (w (suc n) (suc n + size a))))
  two_bytes {e} {a} {b} {w} l n =
      let v = w (suc n) (suc n + size a) in
      let rest = words_from (suc n + size a) b in
      ap (λ (ws : List ℕ). sets area (base + 5 * n) (word_bytes ws)) (l.two_words n)
      ∙ word_then base area n v (words_from (suc n) a ++ rest)
      ∙ tree_then base (sets area (base + 5 * n) (bytes_of 5 v)) a (suc n) rest
      ∙ ap (λ (x : List ℕ). after b base (suc n + size a) x) (sym (word_before base area v n (suc n) a (omega arith)))

  three_bytes_lem : {e a b c : TermTree} {w : ℕ → ℕ → ℕ → ℕ} → Three e w a b c → (n : ℕ)
      → after e base n area
      ≡ after c base (suc n + size a + size b)
      (sets (after b base (suc n + size a) (after a base (suc n) area)) (base + 5 * n) (bytes_of 5 (w (suc n) (suc n + size a) (suc n + size a + size b))))
  three_bytes_lem {e} {a} {b} {c} {w} l n =
      let k = suc n + size a in
      let v = w (suc n) k (k + size b) in
      let start = sets area (base + 5 * n) (bytes_of 5 v) in
      let rest = words_from (k + size b) c in
      ap (λ (ws : List ℕ). sets area (base + 5 * n) (word_bytes ws)) (l.three_words n)
      ∙ ap (λ (ws : List ℕ). sets area (base + 5 * n) (word_bytes (v ∷ ws))) (append_assoc (words_from (suc n) a) (words_from k b) rest)
      ∙ word_then base area n v (words_from (suc n) a ++ (words_from k b ++ rest))
      ∙ tree_then base start a (suc n) (words_from k b ++ rest)
      ∙ tree_then base (after a base (suc n) start) b k rest
      ∙ ap (λ (x : List ℕ). after c base (k + size b) (after b base k x)) (sym (word_before base area v n (suc n) a (omega arith)))
      ∙ ap (λ (x : List ℕ). after c base (k + size b) x) (sym (word_before base (after a base (suc n) area) v n k b (omega arith)))

-- ---- the steps at term t, whose number is n and whose first child's is m

module _ (T : ℕ → TermTree) (base t n m : ℕ) (em : m ≡ suc n) (area : List ℕ) where
  -- no child
  pub leaf_going : {w : ℕ} {area₁ : List ℕ} → Leaf (T t) w → area₁ ≡ sets area (base + 5 * n) (bytes_of 5 w) → Going T base t n area area₁ (Done m)
  unfolding finished end_of
  leaf_going {w} l e =
      record {
        ends = omega (arith, l.leaf_size);
        bytes = e ∙ ap (sets area (base + 5 * n)) (sym (ap word_bytes (l.leaf_words n) ∙ only_word w));
        later = tt;
      }

  -- a child that is left
  pub one_going : (x : ℕ) {w : ℕ → ℕ} {area₁ : List ℕ} → One (T t) w (T x) → t < x → x < 1024 → area₁ ≡ sets area (base + 5 * n) (bytes_of 5 (w m))
      → Going T base t n area area₁ (At x m)
  unfolding finished end_of
  one_going x {w} l h k e =
      record {
        ends = omega (arith, l.one_size);
        bytes = ap (λ (a : List ℕ). after (T x) base m a) e ∙ ap (λ (i : ℕ). after (T x) base i (sets area (base + 5 * n) (bytes_of 5 (w i)))) em
            ∙ sym (one_bytes base area l n);
        later = (h, k);
      }

  -- a child that is written
  pub one_done : {a : TermTree} {w : ℕ → ℕ} {area₁ area₂ : List ℕ} (r : ℕ) → One (T t) w a → area₁ ≡ sets area (base + 5 * n) (bytes_of 5 (w m))
      → Wrote a base m area₁ area₂ r → Going T base t n area area₂ (Done r)
  unfolding finished end_of
  one_done {a} {w} r l e f =
      record {
        ends = omega (arith, l.one_size, f.next);
        bytes = f.bytes ∙ ap (λ (x : List ℕ). after a base m x) e ∙ ap (λ (i : ℕ). after a base i (sets area (base + 5 * n) (bytes_of 5 (w i)))) em
            ∙ sym (one_bytes base area l n);
        later = tt;
      }

  -- two children: what the area holds after the first and the parent's word
  module _ {a : TermTree} {area₁ : List ℕ} (k : ℕ) (f : Wrote a base m area area₁ k) where
    second_number : k ≡ suc n + size a
    second_number = f.next ∙ ap (λ (i : ℕ). i + size a) em

    two_held : {area₂ : List ℕ} (w : ℕ → ℕ → ℕ) → area₂ ≡ sets area₁ (base + 5 * n) (bytes_of 5 (w m k))
        → area₂ ≡ sets (after a base (suc n) area) (base + 5 * n) (bytes_of 5 (w (suc n) (suc n + size a)))
    two_held w e =
        e
        ∙ ap (λ (x : List ℕ). sets x (base + 5 * n) (bytes_of 5 (w m k))) (f.bytes ∙ ap (λ (i : ℕ). after a base i area) em)
        ∙ ap (λ (i : ℕ). sets (after a base (suc n) area) (base + 5 * n) (bytes_of 5 (w i k))) em
        ∙ ap (λ (i : ℕ). sets (after a base (suc n) area) (base + 5 * n) (bytes_of 5 (w (suc n) i))) second_number

    pub two_going : (y : ℕ) {w : ℕ → ℕ → ℕ} {area₂ : List ℕ} → Two (T t) w a (T y) → t < y → y < 1024 → area₂ ≡ sets area₁ (base + 5 * n) (bytes_of 5 (w m k))
        → Going T base t n area area₂ (At y k)
    unfolding finished end_of
    two_going y {w} {area₂} l h g e =
        record {
          ends = omega (arith, l.two_size, second_number);
          bytes = ap (λ (i : ℕ). after (T y) base i area₂) second_number ∙ ap (λ (x : List ℕ). after (T y) base (suc n + size a) x) (two_held w e)
              ∙ sym (two_bytes base area l n);
          later = (h, g);
        }

    pub two_done : {b : TermTree} {w : ℕ → ℕ → ℕ} {area₂ area₃ : List ℕ} (r : ℕ) → Two (T t) w a b → area₂ ≡ sets area₁ (base + 5 * n) (bytes_of 5 (w m k))
        → Wrote b base k area₂ area₃ r → Going T base t n area area₃ (Done r)
    unfolding finished end_of
    two_done {b} {w} {area₂} r l e g =
        record {
          ends = omega (arith, l.two_size, second_number, g.next);
          bytes = g.bytes ∙ ap (λ (i : ℕ). after b base i area₂) second_number ∙ ap (λ (x : List ℕ). after b base (suc n + size a) x) (two_held w e)
              ∙ sym (two_bytes base area l n);
          later = tt;
        }

    -- three children
    pub three_going : {b : TermTree} (z : ℕ) {w : ℕ → ℕ → ℕ → ℕ} {area₂ area₃ : List ℕ} (i : ℕ) → Three (T t) w a b (T z) → t < z → z < 1024
        → Wrote b base k area₁ area₂ i → area₃ ≡ sets area₂ (base + 5 * n) (bytes_of 5 (w m k i)) → Going T base t n area area₃ (At z i)
    unfolding finished end_of
    three_going {b} z {w} {area₂} {area₃} i l h g f₂ e =
        let k' = suc n + size a in
        let third : i ≡ k' + size b = f₂.next ∙ ap (λ (x : ℕ). x + size b) second_number in
        let held : area₂ ≡ after b base k' (after a base (suc n) area) =
        f₂.bytes ∙ ap (λ (x : ℕ). after b base x area₁) second_number
        ∙ ap (λ (x : List ℕ). after b base k' x) (f.bytes ∙ ap (λ (x : ℕ). after a base x area) em) in
        let word : w m k i ≡ w (suc n) k' (k' + size b) = ap (λ (x : ℕ). w x k i) em ∙ ap (λ (x : ℕ). w (suc n) x i) second_number ∙ ap (w (suc n) k') third in
        record {
          ends = omega (arith, l.three_size);
          bytes =
              ap (λ (x : ℕ). after (T z) base x area₃) third
              ∙ ap (λ (x : List ℕ). after (T z) base (k' + size b) x) (e ∙ ap (λ (x : List ℕ). sets x (base + 5 * n) (bytes_of 5 (w m k i))) held
              ∙ ap (λ (x : ℕ). sets (after b base k' (after a base (suc n) area)) (base + 5 * n) (bytes_of 5 x)) word)
              ∙ sym (three_bytes_lem base area l n);
          later = (h, g);
        }
