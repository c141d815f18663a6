-- The turns of a loop that writes a term and goes on with its last child. Assumes nothing.
use Prim.Native.Nat.{ℕ, ◌+◌, ◌-◌, ◌*◌, ◌≤◌, ◌<◌}
use native.Mathlib.Omega.{arith}
use mathlib.Core.Path.{◌≡◌, refl, sym, ap, subst, ◌∙◌}
use mathlib.Core.List.{List}
use lib.ListN.{length}
use lib.Seq.{length-sets}
use Rattle.plan_written.specs.Terms.{TermTree, size, words_from}
use Rattle.plan_written.specs.Written.{word_bytes}
use Rattle.plan_tree_writer.specs.Inner.Left.{Room, after, Wrote, finished, end_of, Going}
use Rattle.plan_tree_writer.specs.declared.Left.{Left}
use Rattle.plan_tree_writer.specs.declared.Left.TheVariants.{Done, At}

-- of the tree at term `from`, the tree at a later term is left, and the area will be the same
pub record Still (T : ℕ → TermTree) (base from first : ℕ) (area₀ : List ℕ) (term number : ℕ) (area : List ℕ) : Type 0 where
  pub later : from ≤ term
  pub inside : term < 1024
  pub same_end : number + size (T term) ≡ first + size (T from)
  pub same_area : after (T term) base number area ≡ after (T from) base first area₀

module _ (T : ℕ → TermTree) (base from first : ℕ) (area₀ : List ℕ) where
  pub start : from < 1024 → Still T base from first area₀ from first area₀
  start h = record { later = omega arith; inside = h; same_end = refl; same_area = refl }

  module _ {term number : ℕ} {area : List ℕ} (s : Still T base from first area₀ term number area) where
    same_length : length area ≡ length area₀
    same_length =
        sym (length-sets area (base + 5 * number) (word_bytes (words_from number (T term)))) ∙ ap length s.same_area
        ∙ length-sets area₀ (base + 5 * first) (word_bytes (words_from first (T from)))

    pub still_room : Room (T from) base first area₀ → Room (T term) base number area
    still_room r = record { numbered = omega (arith, r.numbered, s.same_end); placed = omega (arith, r.placed, s.same_end, same_length) }

    module _ {left : Left} {area₁ : List ℕ} (g : Going T base term number area area₁ left) where
      -- something is left
      pub on : (x n : ℕ) → left ≡ At x n → (1024 - x < 1024 - term) × Still T base from first area₀ x n area₁
      unfolding finished end_of
      on x n e =
          let h = subst (Going T base term number area area₁) e g in
          let l = h.later in (
            omega (arith, s.inside),
            record { later = omega (arith, s.later); inside = l.1; same_end = h.ends ∙ s.same_end; same_area = h.bytes ∙ s.same_area },
          )

      -- nothing is left
      pub done : (r : ℕ) → left ≡ Done r → Wrote (T from) base first area₀ area₁ r
      unfolding finished end_of
      done r e =
          let h = subst (Going T base term number area area₁) e g in
          record { next = h.ends ∙ s.same_end; bytes = h.bytes ∙ s.same_area }
