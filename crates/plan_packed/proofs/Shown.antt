-- What a check of a whole plan shows to the next. Assumes nothing.
use mathlib.Core.Path.{◌≡◌}
use mathlib.Core.Bool.{false, not}
use mathlib.Core.List.{List}
use mathlib.Core.Option.{none}
use Prim.Native.Nat.{ℕ, ◌≤◌, ◌<◌}
use native.Mathlib.Omega.{arith}
use lib.Dec.{eqb, ltb}
use lib.ListN.{length, take}
use borrow.Author.Tests.{ltb-false}
use Rattle.format.specs.Refusal.{first_refusal}
use Rattle.format.specs.Inner.Lowest.{Lowest}
use Rattle.format.proofs.RefusalLaws.{neither, head_pass, tail_pass, none_is_pass}
use Rattle.plan_packed.specs.Format
use Rattle.plan_packed.specs.Format.{terms, parameters, root, plan_length}
use Rattle.plan_packed.specs.Refusals.{wrong_length, wrong_term}
use Rattle.plan_packed.specs.Check.{checks}
use Rattle.plan_packed.specs.Inner.Steps.{Sized, Headed, Right}
use Rattle.plan_packed.proofs.Passing.{length_of_lem, header_of_lem, procedure_of_lem}

-- ---- what a check that finds nothing gives to the next

pub long_enough : (b : List ℕ) → wrong_length b ≡ false → 8 ≤ length b
unfolding wrong_length
long_enough b h = ltb-false (length b) 8 (neither (ltb (length b) 8) (not (eqb (length b) (plan_length b))) h).0

pub make_sized : (b : List ℕ) (procedures n : ℕ) → wrong_length b ≡ false → procedures ≡ Format.procedures b → n ≡ terms b → Sized b procedures n
unfolding plan_length
make_sized b procedures n h p q = record { procedures_are = p; terms_are = q; long = rw (p, q) (length_of_lem b h) }

-- checks 1 to 3 find nothing
pub make_headed : (b : List ℕ) (procedures n : ℕ) → procedures ≡ Format.procedures b → n ≡ terms b → first_refusal (take 3 (checks b)) ≡ none
    → Headed b procedures n
unfolding checks
make_headed b procedures n p q h =
    let one = (none_is_pass (take 3 (checks b))).0 h in
    let two = tail_pass one in
    let k = header_of_lem b ((head_pass two).right 0 (omega arith)) in
    record {
      sized = make_sized b procedures n ((head_pass one).right 0 (omega arith)) p q;
      some_term = omega (arith, k.3);
      few = omega (arith, k.4);
      procedures_right = λ i l. (head_pass (tail_pass two)).right i (omega arith);
    }

pub make_right : (b : List ℕ) (procedures n s : ℕ) → Headed b procedures n → Lowest (wrong_term b) n s → n ≤ s → Right b procedures n
make_right b procedures n s h l q = record { headed = h; terms_right = λ i p. l.before i (omega arith) }

-- ---- procedures that are right

pub parameters_small : (b : List ℕ) (procedures n p : ℕ) → Headed b procedures n → p < procedures → parameters b p ≤ 8
parameters_small b procedures n p r h = (procedure_of_lem b p (r.procedures_right p h)).0

pub root_below : (b : List ℕ) (procedures n p : ℕ) → Headed b procedures n → p < procedures → root b p < n
root_below b procedures n p r h = rw r.sized.terms_are (procedure_of_lem b p (r.procedures_right p h)).2
