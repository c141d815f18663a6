-- Check 4: a term of the table, of its 40 bits, and the array of them. Assumes nothing.
use mathlib.Core.Path.{◌≡◌, ap, sym, ◌∙◌}
use mathlib.Core.Bool.{Bool, true, false, ◌||◌, false≢true}
use mathlib.Core.List.{List}
use Prim.Native.Nat.{ℕ, suc, ◌≤◌, ◌<◌}
use native.Mathlib.Omega.{arith}
use lib.Dec.{leb}
use lib.ListN.{get_or, set, length-set, replicate, length-replicate}
use lib.Seq.{get_or-set_other}
use borrow.Author.Tests.{lt-ltb, leb-false}
use Rattle.format.proofs.Filled.{zeros, filled}
use Rattle.format.proofs.RefusalLaws.{neither}
use Rattle.plan_packed.specs.Format
use Rattle.plan_packed.specs.Format.{terms, Operand, absent, slot, binder, mask, field_name, procedure, expression, condition, list, layout, laid_out}
use Rattle.plan_packed.specs.Format.{tag_at}
use Rattle.plan_packed.specs.Format.{term_at, tag_count}
use Rattle.plan_packed.specs.Inner.Operands.{tag_of}
use Rattle.plan_packed.specs.Trees.{node_of, Node}
use Rattle.plan_packed.specs.Refusals.{wrong_operand, breaks_table, wrong_term, is_child}
use Rattle.plan_packed.specs.Inner.Steps.{Sized, Loaded, word_at, in_word, term_in, node_in}
use Rattle.plan_packed.proofs.Passing.{PassesTable, table_of}
use Rattle.plan_packed.proofs.Reading.{term_is}

-- ---- a term in its 40 bits

-- the node of a tag, of the 40 bits w
abbrev pub row_of : ℕ → ℕ → Node
row_of k w = node_of (in_word w k (layout k))

pub row_is : (w k : ℕ) → tag_of w ≡ k → node_of (term_in w) ≡ row_of k w
unfolding term_in
row_is w k e = ap (λ (j : ℕ). node_of (in_word w j (layout j))) e

pub node_in_lem : (ws : List ℕ) (t k : ℕ) → tag_of (get_or ws t 0) ≡ k → node_in ws t ≡ row_of k (get_or ws t 0)
unfolding node_in
node_in_lem ws t k e = row_is (get_or ws t 0) k e

-- the term of the 40 bits, tested as the plan's term is
pub judged : (b : List ℕ) (procedures n t w : ℕ) (r x : Bool) → Sized b procedures n → w ≡ word_at b t → r ≡ breaks_table procedures n t (term_in w) → r ≡ x
    → wrong_term b t ≡ x
unfolding wrong_term
judged b procedures n t w r x z e q h =
    let f : breaks_table procedures n t (term_in w) ≡ breaks_table (Format.procedures b) (terms b) t (term_at b t) =
    rw (z.procedures_are, z.terms_are, e) (ap (breaks_table (Format.procedures b) (terms b) t) (sym (term_is b t))) in
    sym f ∙ sym q ∙ h

-- ---- the array of the terms' 40 bits

pub unloaded : (b ws : List ℕ) → ws ≡ replicate 1024 0 → Loaded b 0 ws
unloaded b ws e =
    rw e
    record { size = length-replicate {A = ℕ} 1024 0; each = λ t h. absurd (omega arith); rest = λ t h. zeros 1024 t }

pub loaded_more : (b : List ℕ) (t : ℕ) (ws : List ℕ) (w : ℕ) → t < 1024 → w ≡ word_at b t → Loaded b t ws → Loaded b (suc t) (set ws t w)
loaded_more b t ws w h e l =
    record {
      size = length-set ws t w ∙ l.size;
      each = λ i q. filled {A = ℕ} ws t w 0 (λ (j x : ℕ). x ≡ word_at b j) (let s = l.size in omega arith) l.each e i (omega arith);
      rest = λ i q. get_or-set_other ws t i w 0 (λ z. omega arith) ∙ l.rest i (omega arith);
    }

-- a tag past the table
pub past_table : (procedures n t w : ℕ) → tag_count ≤ tag_of w → true ≡ breaks_table procedures n t (term_in w)
unfolding breaks_table term_in in_word
past_table procedures n t w h = rw (lt-ltb 20 (tag_of w) h)

pub tested : (procedures n t w k : ℕ) (r : Bool) → tag_of w ≡ k → r ≡ breaks_table procedures n t (in_word w k (layout k))
    → r ≡ breaks_table procedures n t (term_in w)
unfolding term_in
tested procedures n t w k r e q = q ∙ sym (ap (λ (j : ℕ). breaks_table procedures n t (in_word w j (layout j))) e)

-- ---- what is right of a term that passes

pub passes : (b : List ℕ) (t : ℕ) → wrong_term b t ≡ false → PassesTable (Format.procedures b) (terms b) t (term_at b t)
unfolding wrong_term
passes b t h = table_of (Format.procedures b) (terms b) t (term_at b t) h

between : (v t n : ℕ) → (leb v t || leb n v) ≡ false → (t < v) × (v < n)
between v t n h = let p = neither (leb v t) (leb n v) h in (leb-false v t p.0, leb-false n v p.1)

-- a child's index is greater than its parent's, and below the count
pub child_between : (procedures n t : ℕ) (kind : Operand) (v : ℕ) → wrong_operand procedures n t kind v ≡ false → is_child kind ≡ true → (t < v) × (v < n)
child_between procedures n t absent v h k = absurd (false≢true k)
child_between procedures n t slot v h k = absurd (false≢true k)
child_between procedures n t binder v h k = absurd (false≢true k)
child_between procedures n t mask v h k = absurd (false≢true k)
child_between procedures n t field_name v h k = absurd (false≢true k)
child_between procedures n t procedure v h k = absurd (false≢true k)
child_between procedures n t expression v h k = between v t n h
child_between procedures n t condition v h k = between v t n h
child_between procedures n t list v h k = between v t n h

-- an operand that is a child
abbrev pub IfChild : (ℕ → Type 0) → Operand → ℕ → Type 0
IfChild P kind v = is_child kind ≡ true → P v

pub children_between : (b : List ℕ) (t : ℕ) → wrong_term b t ≡ false
    → IfChild (λ v. (t < v) × (v < terms b)) (layout (tag_at b t)).first (term_at b t).value₁
    × IfChild (λ v. (t < v) × (v < terms b)) (layout (tag_at b t)).second (term_at b t).value₂
    × IfChild (λ v. (t < v) × (v < terms b)) (layout (tag_at b t)).third (term_at b t).value₃
unfolding term_at laid_out
children_between b t h =
    let f = passes b t h in (
      child_between (Format.procedures b) (terms b) t (layout (tag_at b t)).first (term_at b t).value₁ f.first_right,
      child_between (Format.procedures b) (terms b) t (layout (tag_at b t)).second (term_at b t).value₂ f.second_right,
      child_between (Format.procedures b) (terms b) t (layout (tag_at b t)).third (term_at b t).value₃ f.third_right,
    )

pub second_between : (b : List ℕ) (procedures n t : ℕ) → Sized b procedures n → wrong_term b t ≡ false → is_child (term_at b t).second ≡ true
    → (t < (term_at b t).value₂) × ((term_at b t).value₂ < n)
second_between b procedures n t z h k =
    rw z.terms_are (child_between (Format.procedures b) (terms b) t (term_at b t).second (term_at b t).value₂ (passes b t h).second_right k)

-- ---- kinds by tag

pub first_is : (b : List ℕ) (t k : ℕ) → tag_at b t ≡ k → (term_at b t).first ≡ (layout k).first
unfolding term_at laid_out
first_is b t k e = ap (λ (x : ℕ). (layout x).first) e

pub second_is : (b : List ℕ) (t k : ℕ) → tag_at b t ≡ k → (term_at b t).second ≡ (layout k).second
unfolding term_at laid_out
second_is b t k e = ap (λ (x : ℕ). (layout x).second) e
