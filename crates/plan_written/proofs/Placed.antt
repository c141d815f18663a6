-- The trees of a written plan, each term at its number: right, in place, and heading what was written. Assumes nothing.
use Prim.Native.Nat.{ℕ, zero, suc, ◌+◌, ◌*◌, ◌^◌, ◌≤◌, ◌<◌}
use native.Mathlib.Decide.{dec_lt, ℕ_discrete}
use native.Mathlib.Omega.{arith}
use mathlib.Core.Path.{◌≡◌, refl, sym, ap, subst, ◌∙◌}
use mathlib.Core.Bool.{Bool, true, false, ◌||◌, true≢false}
use mathlib.Core.List.{List, [], ◌∷◌, ◌++◌}
use lib.Dec.{eqb}
use lib.ListN.{length, length-append, get_or}
use lib.Seq.{append_snoc, get_or_at}
use Rattle.plan_packed.specs.Format.{procedures, terms, Operand, absent, slot, binder, mask, field_name, procedure, expression, condition, list, width, layout}
use Rattle.plan_packed.specs.Format.{Term, term_at, tag_at}
use Rattle.plan_packed.specs.Refusals.{misplaced, is_child}
use Rattle.plan_packed.specs.Inner.Steps.{word_at, term_in}
use Rattle.plan_packed.proofs.Reading.{term_is}
use Rattle.plan_packed.proofs.Children.{term_of}
use Rattle.plan_written.specs.Terms.{TermTree, term, Part, value, child, size, size_of, value_at, word_of, words_from, words_below}
use Rattle.plan_written.proofs.Words.{Fitting, term_in_word, word_fits}
use Rattle.plan_written.proofs.Heads.{Heads, Holds}
use Rattle.plan_written.proofs.RightTrees.{RightTree, RightPart, head_tag}
use Rattle.plan_written.proofs.ReadBack.{part_length}

-- ---- words from a number on

-- a list has these words from number t on, and they fit 40 bits
abbrev pub Has : List ℕ → ℕ → List ℕ → Type 0
Has ws t [] = Unit {0}
Has ws t (x ∷ xs) = (get_or ws t 0 ≡ x) × Has ws (suc t) xs

pub has_first : (ws : List ℕ) (t : ℕ) (xs ys : List ℕ) → Has ws t (xs ++ ys) → Has ws t xs
has_first ws t [] ys h = tt
has_first ws t (x ∷ xs) ys h = (h.0, has_first ws (suc t) xs ys h.1)

pub has_rest : (ws : List ℕ) (t u : ℕ) (xs ys : List ℕ) → t + length xs ≡ u → Has ws t (xs ++ ys) → Has ws u ys
has_rest ws t u [] ys e h = let z : t ≡ u = omega arith in rw z at h
has_rest ws t u (x ∷ xs) ys e h = has_rest ws (suc t) u xs ys (omega arith) h.1

-- a list has itself, behind others
pub has_own : (p xs : List ℕ) (t : ℕ) → length p ≡ t → Has (p ++ xs) t xs
has_own p [] t e = tt
has_own p (x ∷ xs) t e = (
  get_or_at p x xs 0 t e,
  rw append_snoc at (has_own (p ++ (x ∷ [])) xs (suc t) (omega (arith, length-append p (x ∷ [])))),
)

-- ---- operands of a right tree fit their widths

child_width : (kind : Operand) → is_child kind ≡ true → width kind ≡ 10
child_width absent h = absurd (true≢false (sym h))
child_width slot h = absurd (true≢false (sym h))
child_width binder h = absurd (true≢false (sym h))
child_width mask h = absurd (true≢false (sym h))
child_width field_name h = absurd (true≢false (sym h))
child_width procedure h = absurd (true≢false (sym h))
child_width expression h = refl
child_width condition h = refl
child_width list h = refl

module _ (count : ℕ) (counts : ℕ → ℕ) where
  value_fits : (kind : Operand) (p : Part) (n : ℕ) → RightPart count counts kind p → n + size_of p ≤ 1024 → value_at n p < 2 ^ width kind
  unfolding value_at size
  value_fits kind (value v) n h f = h.1
  value_fits kind (child (term k p q r)) n h f = rw (child_width kind h.0) (omega arith)

  -- the operands of a term whose number is n
  fitting : (k : ℕ) (p q r : Part) (n : ℕ) → RightTree count counts (term k p q r) → n + size (term k p q r) ≤ 1024
      → Fitting (layout k) (value_at (suc n) p) (value_at (suc n + size_of p) q) (value_at (suc n + size_of p + size_of q) r)
  unfolding size
  fitting k p q r n h f =
      record {
        first_fits = value_fits (layout k).first p (suc n) h.1 (omega arith);
        second_fits = value_fits (layout k).second q (suc n + size_of p) h.2 (omega arith);
        third_fits = value_fits (layout k).third r (suc n + size_of p + size_of q) h.3 (omega arith);
      }

-- ---- each term at its number

-- term n of the plan is the root of this tree, and the terms below follow in their order
abbrev mutual
  pub Placed : List ℕ → ℕ → TermTree → Type 0
  Placed b n (term k p q r) =
      (term_at b n ≡ term_of k (value_at (suc n) p) (value_at (suc n + size_of p) q) (value_at (suc n + size_of p + size_of q) r) 0)
      × PlacedPart b (suc n) p × PlacedPart b (suc n + size_of p) q × PlacedPart b (suc n + size_of p + size_of q) r

  pub PlacedPart : List ℕ → ℕ → Part → Type 0
  PlacedPart b n (value v) = Unit {0}
  PlacedPart b n (child e) = Placed b n e

module _ (count : ℕ) (counts : ℕ → ℕ) (b ws : List ℕ) (N : ℕ) (few : N ≤ 1024) (words : (t : ℕ) → t < N → get_or ws t 0 < 2 ^ 40 → word_at b t ≡ get_or ws t 0) where
  mutual
    unfolding words_from size

    pub placed : (e : TermTree) (n : ℕ) → RightTree count counts e → n + size e ≤ N → Has ws n (words_from n e) → Placed b n e
    placed (term k p q r) n h f has =
        let x = value_at (suc n) p in
        let y = value_at (suc n + size_of p) q in
        let z = value_at (suc n + size_of p + size_of q) r in
        let g = fitting count counts k p q r n h (omega arith) in
        let small : get_or ws n 0 < 2 ^ 40 = rw has.0 (word_fits k x y z g (let s = h.0 in omega arith)) in
        let below = has.1 in
        let two = has_first ws (suc n) (words_below (suc n) p ++ words_below (suc n + size_of p) q) (words_below (suc n + size_of p + size_of q) r) below in (
          term_is b n ∙ ap term_in (words n (omega arith) small ∙ has.0) ∙ term_in_word k x y z g,
          placed_part p (suc n) (layout k).first h.1 (omega arith) (has_first ws (suc n) (words_below (suc n) p) (words_below (suc n + size_of p) q) two),
          placed_part q (suc n + size_of p) (layout k).second h.2 (omega arith)
              (has_rest ws (suc n) (suc n + size_of p) (words_below (suc n) p) (words_below (suc n + size_of p) q) (omega (arith, part_length p (suc n))) two),
          placed_part r (suc n + size_of p + size_of q) (layout k).third h.3 (omega arith)
              (has_rest ws (suc n) (suc n + size_of p + size_of q) (words_below (suc n) p ++ words_below (suc n + size_of p) q)
              (words_below (suc n + size_of p + size_of q) r)
              (omega (arith, length-append (words_below (suc n) p) (words_below (suc n + size_of p) q), part_length p (suc n), part_length q (suc n + size_of p)))
              below),
        )

    placed_part : (p : Part) (n : ℕ) (kind : Operand) → RightPart count counts kind p → n + size_of p ≤ N → Has ws n (words_below n p) → PlacedPart b n p
    placed_part (value v) n kind h f has = tt
    placed_part (child e) n kind h f has = placed e n h.2 f has
