-- What the code makes of values is the term of its operands. Assumes nothing.
use Prim.Native.Nat.{ℕ, suc, ◌+◌, ◌-◌, ◌^◌, ◌≤◌, ◌<◌}
use native.Mathlib.Omega.{arith}
use mathlib.Core.Path.{◌≡◌, ap, ◌∙◌}
use mathlib.Core.List.{List}
use lib.ListN.{length, get_or, set, length-set}
use Rattle.plan_packed.specs.Format.{width, layout}
use Rattle.plan_written.specs.Terms.{word_of}
use Rattle.plan_written.proofs.Words.{Fitting}
use Rattle.plan_parsing.specs.Goals.{operand_counts}
use Rattle.plan_parser.specs.Inner.Stacks.{operand_at}
use Rattle.plan_parser.specs.Inner.Making.{Makeable, Makes}
use Rattle.plan_parser.proofs.TermLaws.{operands_there, made_fits, ordered_made, values_made, entries_made, terms_stay}

module _ (words values : List ℕ) (n left k : ℕ) (q : Makeable words values n left k) (count one two first second third : ℕ)
    (c : count ≡ get_or operand_counts k 0)
    (a : one ≡ count - 1) (b : two ≡ count - 2) (f : first ≡ operand_at values n count) (g : second ≡ operand_at values n one)
    (h : third ≡ operand_at values n two) where
  abbrev m : ℕ
  m = left - 1

  next : left ≡ suc m
  next = let s = q.some_left in omega arith

  abbrev count' : ℕ
  count' = get_or operand_counts k 0

  first_is : first ≡ operand_at values n count'
  first_is = f ∙ ap (operand_at values n) c

  second_is : second ≡ operand_at values n (count' - 1)
  second_is = g ∙ ap (operand_at values n) (a ∙ ap (λ (x : ℕ). x - 1) c)

  third_is : third ≡ operand_at values n (count' - 2)
  third_is = h ∙ ap (operand_at values n) (b ∙ ap (λ (x : ℕ). x - 2) c)

  pub word_fits : (k < 21) × (first < 2 ^ width (layout k).first) × (second < 2 ^ width (layout k).second) × (third < 2 ^ width (layout k).third)
  word_fits =
      let t : Fitting (layout k) (operand_at values n count') (operand_at values n (count' - 1)) (operand_at values n (count' - 2)) =
      made_fits words q.ordered q.few_words m left next q.few_left values n k q.tag_known q.operands q.entries
      in
      (q.tag_known, rw first_is t.first_fits, rw second_is t.second_fits, rw third_is t.third_fits)

  abbrev After : ℕ → ℕ → Type 0
  After w j = Makes words values n left k (set words m w) (set values (n - j) m) (n - j + 1)

  made_after : After (word_of k (operand_at values n count') (operand_at values n (count' - 1)) (operand_at values n (count' - 2))) count'
  made_after =
      let d = q.few in
      let there : n - count' < length values = omega arith in
      record {
        values_are = values_made words q.ordered q.few_words m left next q.few_left values n k q.tag_known q.operands q.entries there;
        ordered = ordered_made words q.ordered q.few_words m left next q.few_left values n k q.tag_known q.operands q.entries;
        words_long = length-set words m _;
        values_long = length-set values (n - count') m;
        entries = entries_made words q.ordered q.few_words m left next q.few_left values n k q.tag_known q.operands q.entries there;
        terms_stay = terms_stay words q.ordered q.few_words m left next q.few_left values n k q.tag_known q.operands q.entries;
        few = omega arith;
      }

  pub makes : (w : ℕ) → w ≡ word_of k first second third → After w count
  makes w e = rw (e, c, first_is, second_is, third_is) made_after

pub count_known : (words values : List ℕ) (n left k : ℕ) → Makeable words values n left k → (count : ℕ) → count ≡ get_or operand_counts k 0 → count ≤ n
count_known words values n left k q count c = let t = operands_there words values k n q.tag_known q.operands in omega arith
