-- `log_packing::columns_at` meets its contract: each column is a quotient and a remainder of the 24 bits. Assumes nothing.
use Rattle.log_packing.proofs.Decoded.{kind_of_word, spare_of_word, thread_of_word, object_of_word, field_of_word, value_of_word}
use mathlib.Core.List.{List}
use native.Mathlib.Omega.{arith}
use Prim.Native.Nat.{ℕ}
use borrow.Author.Rules.{rules}
use Rattle.log_packing.proofs.columns_at.Goals as goal

pub returns : goal.returns
returns c =
    let b : List ℕ = c.args.log.now in
    let i : ℕ = c.args.index in
    let w = c.word_at-word.ensures in
    record {
      kind_is = omega (arith, kind_of_word b i);
      thread_is = omega (arith, thread_of_word b i);
      object_is = omega (arith, object_of_word b i);
      field_is = omega (arith, field_of_word b i);
      value_is = omega (arith, value_of_word b i);
      spare_is = omega (arith, spare_of_word b i);
      narrow = record {
        kind_below = omega (arith, w.result_in);
        thread_below = omega arith;
        object_below = omega arith;
        field_below = omega arith;
        value_below =
            omega arith;
      };
    }
