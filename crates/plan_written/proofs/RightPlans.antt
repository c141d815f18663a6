-- The trees of an accepted plan are expressions that a plan can have. Assumes nothing.
use Prim.Native.Nat.{ℕ, zero, suc, ◌+◌, ◌-◌, ◌^◌, ◌≤◌, ◌<◌}
use native.Mathlib.Omega.{arith}
use mathlib.Core.Path.{◌≡◌, refl, sym, ap, ◌∙◌}
use mathlib.Core.Bool.{Bool, true, false, cond}
use mathlib.Core.List.{List, ◌∷◌}
use mathlib.Core.Logic.{inl, inr}
use mathlib.Core.Option.{some, none}
use lib.Dec.{eqb}
use lib.ListN.{length, get_or}
use borrow.Author.Tests.{eqb-false}
use Rattle.format.proofs.BitLaws.{bits_below}
use Rattle.plan_packed.specs.Syntax.{Expression, Condition, Arguments, Procedure}
use Rattle.plan_packed.specs.Format.{procedures, terms, parameters, root, volatiles, mask_bit, fields_from, expression, condition, list, table, layout, term_at}
use Rattle.plan_packed.specs.Format.{tag_at}
use Rattle.plan_packed.specs.Trees.{nodes, node_at, binder_of, expression_of, condition_of, arguments_of, expression_at, condition_at, arguments_at, tree_at}
use Rattle.plan_packed.specs.Trees.{procedures_from, program_of}
use Rattle.plan_packed.specs.Refusals.{list_length}
use Rattle.plan_packed.specs.Check.{refusal}
use Rattle.plan_packed.proofs.WellFormed.{count}
use Rattle.plan_packed.proofs.Passing.{all_right as passes-all}
use Rattle.plan_packed.proofs.Accepted.{OfSort, Child, Readable, accepted, its_trees}
use Rattle.plan_packed.proofs.Decoded.{Cases, done, ◌gives◌then◌, pick, Row, at_tag}
use Rattle.plan_packed.proofs.ListLaws.{list_step, list_stop}
use Rattle.plan_written.specs.Terms.{mask_of}
use Rattle.plan_written.specs.Written.{size_of_all}
use Rattle.plan_written.proofs.Masks.{mask_back}
use Rattle.plan_written.proofs.Original.{mask_small}
use Rattle.plan_written.proofs.Sizes.{program_procedures, all_terms}
use Rattle.plan_written.proofs.RightWritten.{counts_length}
use Rattle.plan_written.proofs.Right.{Ascending, RightFields, RightSlot, RightCall, Right, Rightᶜ, Rightᵃ, counts_in, RightDefinitions, RightProgram}

-- ---- masks and slots

-- the fields of a mask stand in order
pub fields_ascend : (m f n g : ℕ) → f + n ≡ 32 → g < f → Ascending g (fields_from m f n)
unfolding fields_from
fields_ascend m f zero g e h = tt
fields_ascend m f (suc n) g e h =
    go (eqb (mask_bit m f) 1) (fields_ascend m (suc f) n f (omega arith) (omega arith)) (fields_ascend m (suc f) n g (omega arith) (omega arith))
  where
    go : (x : Bool) → Ascending f (fields_from m (suc f) n) → Ascending g (fields_from m (suc f) n)
        → Ascending g (cond x (f ∷ fields_from m (suc f) n) (fields_from m (suc f) n))
    go true p q = (h, omega arith, p)
    go false p q = q

-- a field that a mask does not name
pub not_first : (m f n : ℕ) → eqb (mask_bit m f) 1 ≡ false → fields_from m f (suc n) ≡ fields_from m (suc f) n
unfolding fields_from
not_first m f n h = rw h

right_fields : (m : ℕ) → m < 2 ^ 32 → eqb (mask_bit m 0) 1 ≡ false → length (fields_from m 0 32) ≤ 8 → RightFields (fields_from m 0 32)
right_fields m small h few =
    record {
      ascending = rw (not_first m 0 31 h) (fields_ascend m 1 31 0 (omega arith) (omega arith));
      few = few;
      of_mask = ap (λ (n : ℕ). fields_from n 0 32) (mask_back m small);
    }

pub right_slot : (x : ℕ) → ((x ≡ 15 → ⊥) → x ≤ 7) → RightSlot (binder_of x)
unfolding binder_of
right_slot x h = go (eqb x 15) refl
  where
    go : (y : Bool) → eqb x 15 ≡ y → RightSlot (cond y none (some x))
    go true q = tt
    go false q = omega (arith, h (eqb-false x 15 q))

-- a mask of 32 bits that has field 0
first_field : (m f n : ℕ) → mask_bit m f ≡ 1 → fields_from m f (suc n) ≡ f ∷ fields_from m (suc f) n
unfolding fields_from
first_field m f n h = rw h

mask_more : (f : ℕ) (fs : List ℕ) → mask_of (f ∷ fs) ≡ 2 ^ (31 - f) + mask_of fs
unfolding mask_of
mask_more f fs = refl

pub with_monitor : (m : ℕ) → m < 2 ^ 32 → mask_bit m 0 ≡ 1 → m ≡ 2 ^ 31 + mask_of (fields_from m 1 31)
with_monitor m small h = sym (mask_back m small) ∙ ap mask_of (first_field m 0 31 h) ∙ mask_more 0 (fields_from m 1 31)

-- ---- terms

module _ (b : List ℕ) (a : Readable b) (counts : List ℕ) (few : procedures b ≤ 32) (all : length counts ≡ procedures b)
    (each : (m : ℕ) → m < procedures b → get_or counts m 0 ≡ parameters b m) where
  -- and a list is as long as check 5 counts it
  abbrev RightList : ℕ → Arguments → Type 0
  RightList t es = Rightᵃ counts es × ((m : ℕ) → terms b ≤ t + m → count es ≡ list_length b m t)

  -- every term with at most n terms from it on heads a tree that is right
  record AllRight (n : ℕ) : Type 0 where
    expression_right : (t : ℕ) → t < terms b → terms b ≤ t + n → OfSort expression (tag_at b t) → Right counts (expression_at (node_at b) n t)
    condition_right : (t : ℕ) → t < terms b → terms b ≤ t + n → OfSort condition (tag_at b t) → Rightᶜ counts (condition_at (node_at b) n t)
    list_right : (t : ℕ) → t < terms b → terms b ≤ t + n → OfSort list (tag_at b t) → RightList t (arguments_at (node_at b) n t)

  module _ (n : ℕ) (ih : AllRight n) (t : ℕ) (inside : t < terms b) (near : terms b ≤ t + suc n) where
    abbrev E : ℕ → Expression
    E i = expression_at (node_at b) n i

    abbrev C : ℕ → Condition
    C i = condition_at (node_at b) n i

    abbrev L : ℕ → Arguments
    L i = arguments_at (node_at b) n i

    below : (i : ℕ) → Child b t expression i → Right counts (E i)
    below i c = ih.expression_right i c.below (let s = c.above in omega arith) c.sorted

    belowᶜ : (i : ℕ) → Child b t condition i → Rightᶜ counts (C i)
    belowᶜ i c = ih.condition_right i c.below (let s = c.above in omega arith) c.sorted

    belowᵃ : (i : ℕ) → Child b t list i → RightList i (L i)
    belowᵃ i c = ih.list_right i c.below (let s = c.above in omega arith) c.sorted

    right_call : (m i : ℕ) → m < procedures b → Child b t list i → list_length b (terms b) i ≡ parameters b m → RightCall counts m (L i)
    right_call m i h c e = record { small = omega arith; present = omega arith; each_parameter = (belowᵃ i c).1 (terms b) (omega arith) ∙ e ∙ sym (each m h) }

    expressions : Cases (Row b t (λ m. Right counts (expression_of E C L m))) 0 12
    unfolding nodes layout table expression_of
    expressions =
        0 gives (λ e p q r. refl)
        then 1 gives (λ e p q r. omega arith)
        then 2 gives (λ e p q r. right_fields _ (mask_small b t e) p.0 p.1)
        then 3 gives (λ e p q r. (below _ p, q))
        then 4 gives (λ e p q r. (below _ p, q, below _ r))
        then 5 gives (λ e p q r. (right_slot _ p, below _ q, below _ r))
        then 6 gives (λ e p q r. (belowᶜ _ p, below _ q, below _ r))
        then 7 gives (λ e p q r. (belowᶜ _ p, below _ q))
        then 8 gives (λ e p q r. (right_call _ _ p q ((a.each_term t inside).call_counts e), (belowᵃ _ q).0))
        then 9 gives (λ e p q r. below _ p)
        then 10 gives (λ e p q r. below _ p)
        then 11 gives (λ e p q r. (below _ p, below _ q))
        then done

    signals : Cases (Row b t (λ m. Right counts (expression_of E C L m))) 18 3
    unfolding nodes layout table expression_of
    signals = 18 gives (λ e p q r. below _ p) then 19 gives (λ e p q r. below _ p) then 20 gives (λ e p q r. below _ p) then done

    conditions : Cases (Row b t (λ m. Rightᶜ counts (condition_of E C m))) 12 4
    unfolding nodes layout table condition_of
    conditions =
        12 gives (λ e p q r. tt)
        then 13 gives (λ e p q r. belowᶜ _ p)
        then 14 gives (λ e p q r. (belowᶜ _ p, belowᶜ _ q))
        then 15 gives (λ e p q r. (below _ p, below _ q))
        then done

    longer : (y : ℕ) → y ≡ (term_at b t).value₂ → Child b t list y → tag_at b t ≡ 16 → (m : ℕ) → terms b ≤ t + m → suc (count (L y)) ≡ list_length b m t
    longer y z q e zero h = absurd (omega arith)
    longer y z q e (suc m) h = ap suc ((belowᵃ y q).1 m (let s = q.above in omega arith) ∙ ap (list_length b m) z) ∙ sym (list_step b m t e)

    lists : Cases (Row b t (λ m. RightList t (arguments_of E L m))) 16 2
    unfolding nodes layout table arguments_of
    lists =
        16 gives (λ e p q r. ((below _ p, (belowᵃ _ q).0), longer _ refl q e))
        then 17 gives (λ e p q r. (tt, λ m h. sym (list_stop b m t (λ z. omega arith))))
        then done

    expression_here : OfSort expression (tag_at b t) → Right counts (expression_at (node_at b) (suc n) t)
    unfolding expression_at
    expression_here (inl s) =
        at_tag b t (λ m. Right counts (expression_of E C L m)) (a.each_term t inside) (pick expressions (tag_at b t) (omega arith) (omega arith))
    expression_here (inr s) =
        at_tag b t (λ m. Right counts (expression_of E C L m)) (a.each_term t inside) (pick signals (tag_at b t) s.0 (let h = s.1 in omega arith))

    condition_here : OfSort condition (tag_at b t) → Rightᶜ counts (condition_at (node_at b) (suc n) t)
    unfolding condition_at
    condition_here s =
        at_tag b t (λ m. Rightᶜ counts (condition_of E C m)) (a.each_term t inside) (pick conditions (tag_at b t) s.0 (let h = s.1 in omega arith))

    list_here : OfSort list (tag_at b t) → RightList t (arguments_at (node_at b) (suc n) t)
    unfolding arguments_at
    list_here s = at_tag b t (λ m. RightList t (arguments_of E L m)) (a.each_term t inside) (pick lists (tag_at b t) s.0 (let h = s.1 in omega arith))

  all_right : (n : ℕ) → AllRight n
  all_right zero =
      record {
        expression_right = λ t h q s. absurd (omega arith);
        condition_right = λ t h q s. absurd (omega arith);
        list_right = λ t h q s. absurd (omega arith);
      }
  all_right (suc n) =
      let ih = all_right n in
      record { expression_right = expression_here n ih; condition_right = condition_here n ih; list_right = list_here n ih }

  -- the tree of every root is right
  pub root_right : (p : ℕ) → p < procedures b → Right counts (tree_at b (root b p))
  unfolding tree_at
  root_right p h =
      let r = a.each_root p h in
      (all_right (terms b - root b p)).expression_right (root b p) r.0 (enough (terms b) (root b p)) r.1
    where
      enough : (n t : ℕ) → n ≤ t + (n - t)
      enough n t = omega arith

-- ---- programs

module _ (b : List ℕ) (h : refusal b ≡ none) where
  -- n procedures from procedure p on
  from_counts : (p n m : ℕ) → m < n → get_or (counts_in (procedures_from b p n)) m 0 ≡ parameters b (p + m)
  unfolding procedures_from
  from_counts p zero m q = absurd (omega arith)
  from_counts p (suc n) zero q = ap (parameters b) (omega arith)
  from_counts p (suc n) (suc m) q = from_counts (suc p) n m (omega arith) ∙ ap (parameters b) (omega arith)

  from_right : (counts : List ℕ) (p n : ℕ) → p + n ≤ procedures b → ((m : ℕ) → m < procedures b → Right counts (tree_at b (root b m)))
      → RightDefinitions counts (procedures_from b p n)
  unfolding procedures_from
  from_right counts p zero q r = tt
  from_right counts p (suc n) q r =
      let f = (accepted b h).each_procedure p (omega arith) in
      (record { few_parameters = f.few_parameters; right_body = r p (omega arith); all_bound = f.all_bound }, from_right counts (suc p) n (omega arith) r)

  from_length : (p n : ℕ) → length (procedures_from b p n) ≡ n
  unfolding procedures_from
  from_length p zero = refl
  from_length p (suc n) = ap suc (from_length (suc p) n)

  pub count_is : length (program_of b).procedures ≡ procedures b
  count_is = ap length (program_procedures b) ∙ from_length 0 (procedures b)

  pub total_is : size_of_all (program_of b).procedures ≡ terms b
  total_is = all_terms b (passes-all b h).six (its_trees b (accepted b h))

  pub mask_is : (program_of b).volatiles ≡ volatiles b
  unfolding program_of
  mask_is = refl

  abbrev ds : List Procedure
  ds = procedures_from b 0 (procedures b)

  counts_are : (m : ℕ) → m < procedures b → get_or (counts_in ds) m 0 ≡ parameters b m
  counts_are m q = from_counts 0 (procedures b) m q ∙ ap (parameters b) (omega arith)

  volatiles_small : volatiles b < 2 ^ 32
  unfolding volatiles
  volatiles_small = bits_below b 32 32

  -- the program of an accepted plan is one that a plan can have
  pub right_program : RightProgram (program_of b)
  right_program =
      let a = accepted b h in
      let n = count_is in
      let e = program_procedures b in
      record {
        some_procedure = let q = a.some_procedure in omega arith;
        few_procedures = let q = a.few_procedures in omega arith;
        few_terms = let q = a.few_terms in omega (arith, total_is);
        main_bare = rw e (counts_are 0 a.some_procedure ∙ a.main_bare);
        monitor_volatile = rw mask_is (with_monitor (volatiles b) volatiles_small a.monitor_volatile);
        each_procedure = rw e
            (from_right (counts_in ds) 0 (procedures b) (omega arith)
            (root_right b (its_trees b a) (counts_in ds) a.few_procedures (counts_length ds ∙ sym (ap length e) ∙ n) counts_are));
      }
