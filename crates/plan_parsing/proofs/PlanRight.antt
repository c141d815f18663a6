-- A text that is read as a plan is one of a program that a plan can have. Assumes nothing.
use Prim.Native.Nat.{ℕ, zero, suc, ◌+◌, ◌-◌, ◌^◌, ◌≤◌, ◌<◌}
use native.Mathlib.Nat.{add_assoc}
use native.Mathlib.Omega.{arith}
use mathlib.Core.Path.{◌≡◌, refl, sym, ap, subst, ◌∙◌}
use mathlib.Core.Bool.{Bool, true, false, not, ◌&&◌}
use mathlib.Core.List.{List, [], ◌∷◌, append_assoc}
use mathlib.Core.Option.{none}
use lib.Dec.{eqb, ltb}
use lib.ListN.{length, get_or, drop}
use borrow.Author.Tests.{ltb-true, eqb-true, ne_eqb, not-false}
use Rattle.plan_packed.specs.Syntax.{Procedure, Program}
use Rattle.plan_packed.specs.Trees.{program_of}
use Rattle.plan_packed.specs.Slots.{closed}
use Rattle.plan_packed.specs.Check.{refusal}
use Rattle.plan_written.specs.Terms.{terms_of, size, mask_of}
use Rattle.plan_written.specs.Written.{size_of_all, written}
use Rattle.plan_written.proofs.Right.{Ascending, counts_in, RightDefinition, RightDefinitions, RightProgram}
use Rattle.plan_written.proofs.RightWritten.{right_passes, program_is}
use Rattle.plan_written.proofs.OrderedFields.{fields_behind}
use Rattle.plan_notation.specs.Tokens.{version_word, volatile_word, procedure_word, opening, text_end}
use Rattle.plan_notation.specs.Lexing.{codes_of}
use Rattle.plan_notation.proofs.TextEnd.{Ended, codes_ended}
use Rattle.plan_parsing.specs.Goals.{Value, number}
use Rattle.plan_parsing.specs.Parser.{ahead, Parsed, parsed, stopped, parse}
use Rattle.plan_parsing.specs.Plan.{Fault, Reading, plan, fault, counts_from, counts_of, procedure_goals, Before, program_by, after_procedure, procedures_by}
use Rattle.plan_parsing.specs.Plan.{mask_from, behind_fields, with_volatiles, read_plan}
use Rattle.plan_parsing.proofs.PlanBack.{before, behind}
use Rattle.plan_parsing.proofs.Wanted.{Passed, passed_none, passed_both, passed_token, passed_one, passed_two}
use Rattle.plan_parsing.proofs.Branches.{either_way, both}
use Rattle.plan_parsing.proofs.ReadRight.{ReadProcedure, main_read, ReadBehind, procedure_read}

none_faulty : {A : Type 0} (f : Fault) (ts : List ℕ) (g : Program) → fault f ts ≡ plan g → A
none_faulty f ts g e = absurd (let z : ◌≡◌ {A = ℕ} 0 1 = cc in omega arith)

same_plan : (g g' : Program) → plan g ≡ plan g' → g ≡ g'
same_plan g g' e = cc

-- ---- a procedure

-- the parameter counts of procedure p and those behind it
abbrev counts_at : ℕ → List ℕ → List ℕ
counts_at zero ts = 0 ∷ counts_from ts
counts_at (suc p) ts = counts_from ts

-- what was read of procedure p
record One (counts : List ℕ) (p n m : ℕ) (vs : List Value) (ts rest : List ℕ) : Type 0 where
  parameters : ℕ
  few : parameters ≤ 8
  read : (us : List ℕ) × ReadProcedure counts n m parameters vs us rest
  counts_are : counts_at p ts ≡ parameters ∷ counts_from rest
  still_ended : Ended ts → Ended rest

module _ (counts : List ℕ) (n m : ℕ) (vs : List Value) (ts rest : List ℕ) where
  one_main : ReadProcedure counts n m 0 vs ts rest → One counts 0 n m vs ts rest
  one_main r =
      record { parameters = 0; few = omega arith; read = (ts, r); counts_are = ap (λ (l : List ℕ). 0 ∷ l) (sym r.same_counts); still_ended = r.still_ended }

  one_further : (p : ℕ) → suc p < 32 → ReadBehind counts n m vs rest (procedure_word ∷ suc p ∷ opening ∷ []) ts → One counts (suc p) n m vs ts rest
  unfolding counts_from
  one_further p small r =
      record {
        parameters = r.parameters;
        few = r.few;
        read = (r.tokens, r.read);
        counts_are = ap counts_from r.begins
            ∙ rw (ne_eqb (suc p) procedure_word (λ z. omega arith), ne_eqb r.parameters procedure_word (λ z. let h = r.few in omega arith))
            (ap (λ (l : List ℕ). r.parameters ∷ l) (sym r.read.same_counts));
        still_ended = λ h. r.read.still_ended (subst Ended r.begins h).1.1.1.1;
      }

  one_read : (p : ℕ) → p < 32 → parse counts (procedure_goals p) (number 0 ∷ []) n ts ≡ parsed vs m rest → One counts p n m vs ts rest
  one_read zero small e = one_main (main_read counts n m vs rest ts e)
  one_read (suc p) small e = one_further p small (procedure_read counts n m vs rest p ts small e)

-- behind the end there are no counts
none_left : (rest : List ℕ) → Ended rest → ahead rest 0 ≡ text_end → counts_from rest ≡ []
unfolding counts_from
none_left [] h e = refl
none_left (t ∷ rest) h e = rw (ne_eqb t procedure_word (λ z. omega arith), h.0 e)

-- ---- all procedures

-- procedures from procedure p on, behind those before
record Several (counts : List ℕ) (p : ℕ) (b : Before) (n most : ℕ) (ts : List ℕ) (g : Program) : Type 0 where
  definitions : List Procedure
  program : g ≡ program_by (behind b definitions)
  some : 1 ≤ length definitions
  few : length definitions ≤ most
  sized : size_of_all definitions ≤ n
  right : RightDefinitions counts definitions
  counts_are : counts_in definitions ≡ counts_at p ts

module _ (counts : List ℕ) (p : ℕ) (b : Before) (n most m : ℕ) (ts rest : List ℕ) (g : Program) (d : Procedure) (right : RightDefinition counts d)
    (sized : size (terms_of d.body) + m ≡ n)
    (counts_are : counts_at p ts ≡ d.parameters ∷ counts_from rest) where
  -- the last
  last_one : counts_from rest ≡ [] → plan (program_by (behind b (d ∷ []))) ≡ plan g → Several counts p b n (suc most) ts g
  unfolding size_of_all
  last_one bare e =
      record {
        definitions = d ∷ [];
        program = sym (same_plan _ g e);
        some = omega arith;
        few = omega arith;
        sized = omega arith;
        right = (right, tt);
        counts_are = sym (counts_are ∙ ap (λ (l : List ℕ). d.parameters ∷ l) bare);
      }

  -- one with others behind it
  one_more_lem : Several counts (suc p) (behind b (d ∷ [])) m most rest g → Several counts p b n (suc most) ts g
  unfolding size_of_all
  one_more_lem s =
      record {
        definitions = d ∷ s.definitions;
        program =
            s.program ∙ ap (λ (l : List Procedure). program_by (before b.version b.mask l)) (append_assoc b.procedures (d ∷ []) s.definitions);
        some = omega arith;
        few = let h = s.few in omega arith;
        sized = let h = s.sized in omega arith;
        right = (right, s.right);
        counts_are = ap (λ (l : List ℕ). d.parameters ∷ l) s.counts_are ∙ sym counts_are;
      }

-- those behind procedure p, if they are read
abbrev Next : List ℕ → ℕ → ℕ → Before → ℕ → List ℕ → Program → Type 0
Next counts most p b m rest g = procedures_by counts most (suc p) b m rest ≡ plan g → Several counts (suc p) b m most rest g

module _ (counts : List ℕ) where
  -- a procedure that was read, and what follows it
  after_read : (most p : ℕ) (b : Before) (n m : ℕ) (ts rest : List ℕ) (vs : List Value) (g : Program) → Ended ts → One counts p n m vs ts rest
      → ((b' : Before) → Ended rest → Next counts most p b' m rest g)
      → after_procedure (λ b' n' ts'. procedures_by counts most (suc p) b' n' ts') b ts (parsed vs m rest) ≡ plan g → Several counts p b n (suc most) ts g
  unfolding after_procedure
  after_read most p b n m ts rest vs g ended one ih e =
      let r = one.read.1 in
      either_way (λ (x : Reading). x ≡ plan g → Several counts p b n (suc most) ts g) (not (closed (λ x. ltb x one.parameters) r.body)) _ _
      (λ z. none_faulty Fault.slots ts g)
      (λ z. either_way (λ (x : Reading). x ≡ plan g → Several counts p b n (suc most) ts g) (eqb (ahead rest 0) text_end) _ _
      (λ y. last_one counts p b n most m ts rest g definition (definition_right z) r.sized one.counts_are
      (none_left rest (one.still_ended ended) (eqb-true (ahead rest 0) text_end y)))
      (λ y q. one_more_lem counts p b n most m ts rest g definition (definition_right z) r.sized one.counts_are
      (ih (behind b (definition ∷ [])) (one.still_ended ended) q)))
      (subst (λ (us : List Value). after_procedure (λ b' n' ts'. procedures_by counts most (suc p) b' n' ts') b ts (parsed us m rest) ≡ plan g) r.values e)
    where
      definition : Procedure
      definition = record { parameters = one.parameters; body = one.read.1.body }

      definition_right : not (closed (λ x. ltb x one.parameters) one.read.1.body) ≡ false → RightDefinition counts definition
      definition_right z = record { few_parameters = one.few; right_body = one.read.1.right; all_bound = not-false _ z }

  procedures_right : (most p : ℕ) (b : Before) (n : ℕ) (ts : List ℕ) (g : Program) → p + most ≤ 32 → Ended ts → procedures_by counts most p b n ts ≡ plan g
      → Several counts p b n most ts g
  unfolding procedures_by
  procedures_right zero p b n ts g few ended e = none_faulty Fault.end ts g e
  procedures_right (suc most) p b n ts g few ended e =
      by_parsed (λ b' m rest. procedures_right most (suc p) b' m rest g (omega arith)) (parse counts (procedure_goals p) (number 0 ∷ []) n ts) refl e
    where
      by_parsed : ((b' : Before) (m : ℕ) (rest : List ℕ) → Ended rest → Next counts most p b' m rest g) → (x : Parsed)
          → parse counts (procedure_goals p) (number 0 ∷ []) n ts ≡ x
          → after_procedure (λ b' n' ts'. procedures_by counts most (suc p) b' n' ts') b ts x ≡ plan g → Several counts p b n (suc most) ts g
      by_parsed ih (parsed vs m rest) q e = after_read most p b n m ts rest vs g ended (one_read counts n m vs ts rest p (omega arith) q) (λ b'. ih b' m rest) e
      by_parsed ih (stopped r rest) q e = none_faulty (Fault.reading r) rest g e

-- ---- the volatile fields

record Taken (f : ℕ) (ts : List ℕ) : Type 0 where
  fields : List ℕ
  ascending : Ascending f fields
  mask_is : (m : ℕ) → mask_from m f ts ≡ m + mask_of fields
  passed : Passed ts (behind_fields f ts)

taken : (ts : List ℕ) (f : ℕ) → Taken f ts
unfolding mask_from behind_fields mask_of
taken [] f = record { fields = []; ascending = tt; mask_is = λ m. omega arith; passed = passed_none [] }
taken (t ∷ ts) f = by_test (taken ts t) (ltb f t && ltb t 32) refl
  where
    by_test : Taken t ts → (x : Bool) → (ltb f t && ltb t 32) ≡ x → Taken f (t ∷ ts)
    by_test r true q =
        let b = both (ltb f t) (ltb t 32) q in
        let small = ltb-true t 32 b.1 in
        record {
          fields = t ∷ r.fields;
          ascending = (ltb-true f t b.0, small, r.ascending);
          mask_is = λ m. rw q (r.mask_is (m + 2 ^ (31 - t)) ∙ add_assoc m (2 ^ (31 - t)) (mask_of r.fields));
          passed = rw q (passed_both (t ∷ ts) ts (behind_fields t ts) (passed_token t ts (λ z. omega arith)) r.passed);
        }
    by_test r false q = record { fields = []; ascending = tt; mask_is = λ m. rw q (omega arith); passed = rw q (passed_none (t ∷ ts)) }

-- ---- the plan

-- procedures behind a version and volatile fields
record Whole (counts ts : List ℕ) (g : Program) : Type 0 where
  version : ℕ
  fields : List ℕ
  ascending : Ascending 0 fields
  tokens : List ℕ
  passed : Passed ts tokens
  several : Several counts 0 (before version (2 ^ 31 + mask_of fields) []) 1024 32 tokens g

module _ (counts : List ℕ) (g : Program) where
  bodies_read : (v : ℕ) (fs : List ℕ) (m : ℕ) (ts us : List ℕ) → Ascending 0 fs → m ≡ 2 ^ 31 + mask_of fs → Ended ts → Passed ts us
      → procedures_by counts 32 0 (before v m []) 1024 us ≡ plan g
      → Whole counts ts g
  bodies_read v fs m ts us up e ended p q =
      record {
        version = v;
        fields = fs;
        ascending = up;
        tokens = us;
        passed = p;
        several = procedures_right counts 32 0 (before v (2 ^ 31 + mask_of fs) []) 1024 us g (omega arith) (p.still_ended ended)
            (subst (λ (m : ℕ). procedures_by counts 32 0 (before v m []) 1024 us ≡ plan g) e q);
      }

  volatiles_read : (v : ℕ) (ts : List ℕ) → Ended ts → with_volatiles counts v ts ≡ plan g → Whole counts ts g
  unfolding with_volatiles mask_of
  volatiles_read v ts ended =
      either_way (λ (x : Reading). x ≡ plan g → Whole counts ts g) (eqb (ahead ts 0) volatile_word) _ _
      (λ z q. let r = taken (drop 1 ts) 0 in
      bodies_read v r.fields (mask_from (2 ^ 31) 0 (drop 1 ts)) ts (behind_fields 0 (drop 1 ts)) r.ascending (r.mask_is (2 ^ 31)) ended
      (passed_both ts (drop 1 ts) (behind_fields 0 (drop 1 ts)) (passed_one ts (λ y. omega (arith, eqb-true (ahead ts 0) volatile_word z))) r.passed) q)
      (λ z q. bodies_read v [] (2 ^ 31) ts ts tt refl ended (passed_none ts) q)

-- behind a version or none
whole_passed : (counts ts us : List ℕ) (g : Program) → Passed ts us → Whole counts us g → Whole counts ts g
whole_passed counts ts us g p w =
    record {
      version = w.version;
      fields = w.fields;
      ascending = w.ascending;
      tokens = w.tokens;
      passed = passed_both ts us w.tokens p w.passed;
      several = w.several;
    }

whole_read : (ts : List ℕ) (g : Program) → Ended ts → read_plan ts ≡ plan g → Whole (counts_of ts) ts g
unfolding read_plan
whole_read ts g ended =
    either_way (λ (x : Reading). x ≡ plan g → Whole (counts_of ts) ts g) (eqb (ahead ts 0) version_word) _ _
    (λ z. either_way (λ (x : Reading). x ≡ plan g → Whole (counts_of ts) ts g) (ltb (ahead ts 1) 2) _ _
    (λ y q. let p = passed_two ts (λ x. omega (arith, eqb-true (ahead ts 0) version_word z)) (λ x. omega (arith, ltb-true (ahead ts 1) 2 y)) in
    whole_passed (counts_of ts) ts (drop 2 ts) g p (volatiles_read (counts_of ts) g (ahead ts 1) (drop 2 ts) (p.still_ended ended) q))
    (λ y. none_faulty Fault.version (drop 1 ts) g))
    (λ z. volatiles_read (counts_of ts) g 1 ts ended)

-- the procedures that were read, as a program
module _ (ts : List ℕ) (v : ℕ) (fs : List ℕ) (up : Ascending 0 fs) (us : List ℕ) (p : Passed ts us) (g : Program)
    (s : Several (counts_of ts) 0 (before v (2 ^ 31 + mask_of fs) []) 1024 32 us g) where
  abbrev ds : List Procedure
  ds = s.definitions

  counts_same : counts_in ds ≡ counts_of ts
  unfolding counts_of
  counts_same = s.counts_are ∙ ap (λ (l : List ℕ). 0 ∷ l) p.same_counts

  main_bare : get_or (counts_in ds) 0 0 ≡ 0
  main_bare = ap (λ (l : List ℕ). get_or l 0 0) s.counts_are

  read_right : RightProgram (program_by (before v (2 ^ 31 + mask_of fs) ds))
  unfolding program_by
  read_right =
      record {
        some_procedure = s.some;
        few_procedures = s.few;
        few_terms = s.sized;
        main_bare = main_bare;
        monitor_volatile = ap (λ (gs : List ℕ). 2 ^ 31 + mask_of gs) (sym (fields_behind fs up));
        each_procedure = subst (λ (c : List ℕ). RightDefinitions c ds) (sym counts_same) s.right;
      }

-- a text, with nothing behind its end, that is read as a plan
pub program_right : (ts : List ℕ) (g : Program) → Ended ts → read_plan ts ≡ plan g → RightProgram g
program_right ts g ended e =
    let w = whole_read ts g ended e in
    subst RightProgram (sym w.several.program) (read_right ts w.version w.fields w.ascending w.tokens w.passed g w.several)

-- what is read passes the check, and its bytes are a plan of it
pub read_passes : (ts : List ℕ) (g : Program) → Ended ts → read_plan ts ≡ plan g → (refusal (written g) ≡ none) × (program_of (written g) ≡ g)
read_passes ts g ended e = let r = program_right ts g ended e in (right_passes g r, program_is g r)

pub text_passes : (text : List ℕ) (g : Program) → read_plan (codes_of text) ≡ plan g → (refusal (written g) ≡ none) × (program_of (written g) ≡ g)
text_passes text g e = read_passes (codes_of text) g (codes_ended text) e
