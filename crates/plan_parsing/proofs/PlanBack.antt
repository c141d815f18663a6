-- What is shown of a program that a plan can have is read back as that program. Assumes nothing.
use Prim.Native.Nat.{ℕ, zero, suc, ◌+◌, ◌-◌, ◌*◌, ◌^◌, ◌≤◌, ◌<◌}
use native.Mathlib.Nat.{add_assoc}
use native.Mathlib.Omega.{arith}
use mathlib.Core.Path.{◌≡◌, refl, sym, ap, ap₂, ◌∙◌}
use mathlib.Core.Bool.{false, cond, and-false}
use mathlib.Core.List.{List, [], ◌∷◌, ◌++◌, append_assoc}
use mathlib.Core.Option.{none}
use lib.Dec.{eqb, ltb}
use lib.ListN.{length, get_or}
use borrow.Author.Tests.{lt-ltb, le-ltb, ne_eqb}
use Rattle.plan_packed.specs.Syntax.{Procedure, Program}
use Rattle.plan_packed.specs.Format.{fields_from}
use Rattle.plan_packed.specs.Trees.{program_of}
use Rattle.plan_packed.specs.Check.{refusal}
use Rattle.plan_written.specs.Terms.{terms_of, size, mask_of}
use Rattle.plan_written.specs.Written.{size_of_all, version_number}
use Rattle.plan_notation.specs.Tokens.{version_word, volatile_word, procedure_word, closing, equals, text_end}
use Rattle.plan_notation.specs.Shown.{loose, shown, volatile_tokens, procedure_tokens, main_first, shown_plan}
use Rattle.plan_written.proofs.Right.{Ascending, counts_in, RightDefinition, RightDefinitions, RightProgram}
use Rattle.plan_written.proofs.ReadBack.{version_small}
use Rattle.plan_written.proofs.RightWritten.{version_again}
use Rattle.plan_written.proofs.RightPlans.{fields_ascend, right_program}
use Rattle.plan_notation.proofs.ShownTokens.{Starts, begins, starts, starts_append, NoProcedure, ends, token, none_fields, none_shown}
use Rattle.plan_parsing.specs.Goals.{expression, Goal, operand, Value, number, of_expression}
use Rattle.plan_parsing.specs.Parser.{ahead, step, parsed, parse_by, parse}
use Rattle.plan_parsing.specs.Plan.{Reading, plan, counts_from, counts_of, procedure_goals, Before, program_by, after_procedure, procedures_by, mask_from}
use Rattle.plan_parsing.specs.Plan.{behind_fields, with_volatiles, read_plan}
use Rattle.plan_parsing.proofs.Runs.{state, Leads, ◌thence◌, by_step, expects}
use Rattle.plan_parsing.proofs.Operands.{Follows, follows_token, whole}
use Rattle.plan_parsing.proofs.ReadBack.{reads}

-- reading that leads to no goal ends there
parse_ends : {counts : List ℕ} {gs : List Goal} {vs vs' : List Value} {n n' : ℕ} {ts ts' : List ℕ} → Leads counts (state gs vs n ts) (state [] vs' n' ts')
    → parse counts gs vs n ts ≡ parsed vs' n' ts'
unfolding parse
parse_ends {counts} {gs} {vs} {vs'} {n} {n'} {ts} {ts'} l =
    let c = l.leads (8 * length ts + suc (length gs)) (omega arith) in
    c.same ∙ last c.steps c.enough
  where
    last : (k : ℕ) → 8 * length ts' + 0 < k → parse_by counts k [] vs' n' ts' ≡ parsed vs' n' ts'
    last zero h = absurd (omega arith)
    last (suc k) h = refl

-- ---- a procedure

-- the tokens of procedure p and of those behind it
abbrev tokens_from : ℕ → List Procedure → List ℕ
tokens_from zero ds = main_first ds
tokens_from (suc p) ds = procedure_tokens (suc p) ds

-- procedures and the end of the text
abbrev to_end : ℕ → List Procedure → List ℕ
to_end p ds = procedure_tokens p ds ++ (text_end ∷ [])

-- behind a procedure there is another, or the end
behind_body : (p : ℕ) (ds : List Procedure) → Follows loose (to_end p ds)
unfolding procedure_tokens
behind_body p [] = follows_token text_end loose [] refl refl refl
behind_body p (d ∷ ds) = follows_token procedure_word loose _ refl refl refl

module _ (counts : List ℕ) (d : Procedure) (ds : List Procedure) (right : RightDefinition counts d) (n m : ℕ) (enough : n ≡ size (terms_of d.body) + m)
    (small : n ≤ 1024) where
  -- its body, up to the next procedure
  body_leads : (p : ℕ) (vs : List Value) → length vs ≤ 2
      → Leads counts (state (operand loose expression ∷ []) vs n (shown loose d.body ++ to_end p ds)) (state [] (of_expression d.body ∷ vs) m (to_end p ds))
  body_leads p vs h = whole (reads counts d.body loose (omega arith) right.right_body) m (omega arith) (behind_body p ds) (omega arith)

  main_parsed : d.parameters ≡ 0
      → parse counts (procedure_goals 0) (number 0 ∷ []) n (main_first (d ∷ ds) ++ (text_end ∷ []))
      ≡ parsed (of_expression d.body ∷ number d.parameters ∷ []) m (to_end 1 ds)
  unfolding procedure_goals main_first
  main_parsed bare = rw (append_assoc, bare) (parse_ends (body_leads 1 (number 0 ∷ []) (omega arith)))

  procedure_parsed : (p : ℕ)
      → parse counts (procedure_goals (suc p)) (number 0 ∷ []) n (to_end (suc p) (d ∷ ds))
      ≡ parsed (of_expression d.body ∷ number d.parameters ∷ number 0 ∷ []) m (to_end (suc (suc p)) ds)
  unfolding procedure_goals procedure_tokens step
  procedure_parsed p =
      let few = right.few_parameters in
      rw append_assoc
      (parse_ends
      (expects (omega arith)
      thence expects (omega arith)
      thence expects (omega arith)
      thence by_step [] (number d.parameters ∷ number 0 ∷ []) (closing ∷ equals ∷ shown loose d.body ++ to_end (suc (suc p)) ds)
      (rw (lt-ltb d.parameters 9 (omega arith))) (omega arith)
      thence expects (omega arith)
      thence expects (omega arith)
      thence body_leads (suc (suc p)) (number d.parameters ∷ number 0 ∷ []) (omega arith)))

-- procedures of a version and a mask
abbrev pub before : ℕ → ℕ → List Procedure → Before
before v m ds = record { version = v; mask = m; procedures = ds }

-- these procedures behind those before
abbrev pub behind : Before → List Procedure → Before
behind b ds = before b.version b.mask (b.procedures ++ ds)

module _ (counts : List ℕ) where
  -- a procedure that has been read, whose slots are bound
  after_procedure_lem : (d : Procedure) (next : Before → ℕ → List ℕ → Reading) (b : Before) (ts : List ℕ) (vs : List Value) (m : ℕ) (rest : List ℕ)
      → RightDefinition counts d
      → after_procedure next b ts (parsed (of_expression d.body ∷ number d.parameters ∷ vs) m rest)
      ≡ cond (eqb (ahead rest 0) text_end) (plan (program_by (behind b (d ∷ [])))) (next (behind b (d ∷ [])) m rest)
  unfolding after_procedure
  after_procedure_lem d next b ts vs m rest right = rw right.all_bound

  -- procedure p, and what follows it
  procedure_read : (d : Procedure) (ds : List Procedure) (most p : ℕ) (b : Before) (n m : ℕ) → RightDefinition counts d → n ≡ size (terms_of d.body) + m
      → n ≤ 1024 → (p ≡ 0 → d.parameters ≡ 0)
      → procedures_by counts (suc most) p b n (tokens_from p (d ∷ ds) ++ (text_end ∷ []))
      ≡ cond (eqb (ahead (to_end (suc p) ds) 0) text_end) (plan (program_by (behind b (d ∷ []))))
      (procedures_by counts most (suc p) (behind b (d ∷ [])) m (to_end (suc p) ds))
  unfolding procedures_by
  procedure_read d ds most zero b n m right e h bare =
      rw (main_parsed counts d ds right n m e h (bare refl))
      (after_procedure_lem d (λ b' n' ts'. procedures_by counts most 1 b' n' ts') b _ [] m (to_end 1 ds) right)
  procedure_read d ds most (suc p) b n m right e h bare =
      rw (procedure_parsed counts d ds right n m e h p)
      (after_procedure_lem d (λ b' n' ts'. procedures_by counts most (suc (suc p)) b' n' ts') b _ (number 0 ∷ []) m
      (to_end (suc (suc p)) ds) right)

  procedures_read : (ds : List Procedure) (d : Procedure) (most p : ℕ) (b : Before) (n : ℕ) → RightDefinitions counts (d ∷ ds) → length (d ∷ ds) ≤ most
      → size_of_all (d ∷ ds) ≤ n → n ≤ 1024
      → (p ≡ 0 → d.parameters ≡ 0) → procedures_by counts most p b n (tokens_from p (d ∷ ds) ++ (text_end ∷ [])) ≡ plan (program_by (behind b (d ∷ ds)))
  unfolding size_of_all procedure_tokens
  procedures_read ds d zero p b n right few sized h bare = absurd (omega arith)
  procedures_read [] d (suc most) p b n right few sized h bare = procedure_read d [] most p b n (n - size (terms_of d.body)) right.0 (omega arith) h bare
  procedures_read (d' ∷ ds) d (suc most) p b n right few sized h bare =
      procedure_read d (d' ∷ ds) most p b n (n - size (terms_of d.body)) right.0 (omega arith) h bare
      ∙ procedures_read ds d' most (suc p) (behind b (d ∷ [])) (n - size (terms_of d.body)) right.1 (omega arith) (omega arith) (omega arith)
      (λ z. omega arith)
      ∙ ap (λ (l : List Procedure). plan (program_by (before b.version b.mask l))) (append_assoc b.procedures (d ∷ []) (d' ∷ ds))

-- ---- the parameter counts

skip : {ts : List ℕ} (rest : List ℕ) → NoProcedure ts → counts_from (ts ++ rest) ≡ counts_from rest
unfolding counts_from
skip rest ends = refl
skip rest (token t h k) = rw (ne_eqb t procedure_word h) (skip rest k)

counts_back : (counts : List ℕ) (ds : List Procedure) (p : ℕ) → RightDefinitions counts ds → p + length ds ≤ 32
    → counts_from (procedure_tokens p ds ++ (text_end ∷ [])) ≡ counts_in ds
unfolding counts_from procedure_tokens
counts_back counts [] p right few = refl
counts_back counts (d ∷ ds) p right few =
    let e : d.parameters ≡ procedure_word → ⊥ = let s = right.0.few_parameters in omega arith in
    rw (ne_eqb p procedure_word (λ z. omega arith), ne_eqb d.parameters procedure_word e)
    (ap (λ (l : List ℕ). d.parameters ∷ l)
    (ap counts_from (append_assoc (shown loose d.body) (procedure_tokens (suc p) ds) (text_end ∷ []))
    ∙ skip _ (none_shown counts d.body loose right.0.right_body)
    ∙ counts_back counts ds (suc p) right.1 (omega arith)))

-- ---- the volatile fields

-- what is behind the fields
abbrev NoField : List ℕ → Type 0
NoField ts = 32 ≤ ahead ts 0

mask_read : (fs rest : List ℕ) (m f : ℕ) → Ascending f fs → NoField rest → mask_from m f (fs ++ rest) ≡ m + mask_of fs
unfolding mask_from mask_of
mask_read [] [] m f up h = omega arith
mask_read [] (t ∷ rest) m f up h = rw (le-ltb t 32 h, and-false (ltb f t)) (omega arith)
mask_read (g ∷ fs) rest m f up h = rw (lt-ltb f g up.0, lt-ltb g 32 up.1) (mask_read fs rest (m + 2 ^ (31 - g)) g up.2 h ∙ add_assoc _ _ _)

behind_read : (fs rest : List ℕ) (f : ℕ) → Ascending f fs → NoField rest → behind_fields f (fs ++ rest) ≡ rest
unfolding behind_fields
behind_read [] [] f up h = refl
behind_read [] (t ∷ rest) f up h = rw (le-ltb t 32 h, and-false (ltb f t))
behind_read (g ∷ fs) rest f up h = rw (lt-ltb f g up.0, lt-ltb g 32 up.1) (behind_read fs rest g up.2 h)

-- ---- the plan

program_is : (g : Program) (m : ℕ) → m ≡ g.volatiles → program_by (before (version_number g.version) m g.procedures) ≡ g
unfolding program_by
program_is g m e = λ i. record { version = version_again g.version i; volatiles = e i; procedures = g.procedures }

-- how tokens begin that begin as an expression
first_token : {ts : List ℕ} → Starts ts → NoField ts × (eqb (ahead ts 0) volatile_word ≡ false)
first_token (begins t h) = (h.0, ne_eqb t volatile_word h.1)

no_volatiles : (fs : List ℕ) → Ascending 0 fs → NoProcedure (volatile_tokens fs)
unfolding volatile_tokens
no_volatiles [] up = ends
no_volatiles (f ∷ fs) up = token volatile_word (omega arith) (none_fields (f ∷ fs) 0 up)

-- a program with main d, in its parts
module _ (d : Procedure) (ds : List Procedure) (right : RightDefinitions (counts_in (d ∷ ds)) (d ∷ ds)) (few : length (d ∷ ds) ≤ 32)
    (sized : size_of_all (d ∷ ds) ≤ 1024) (bare : d.parameters ≡ 0)
    (fs : List ℕ) (up : Ascending 0 fs) where
  -- its tokens behind the volatile fields
  abbrev bodies : List ℕ
  bodies = main_first (d ∷ ds) ++ (text_end ∷ [])

  bodies_start : Starts bodies
  unfolding main_first
  bodies_start =
      starts_append (text_end ∷ []) (starts_append (procedure_tokens 1 ds) (starts (counts_in (d ∷ ds)) d.body loose right.0.right_body))

  bodies_counts : counts_from bodies ≡ counts_in ds
  unfolding main_first
  bodies_counts =
      ap counts_from (append_assoc (shown loose d.body) (procedure_tokens 1 ds) (text_end ∷ []))
      ∙ skip _ (none_shown (counts_in (d ∷ ds)) d.body loose right.0.right_body)
      ∙ counts_back (counts_in (d ∷ ds)) ds 1 right.1 (omega arith)

  counts_are : (v : ℕ) → v < 2 → counts_of (version_word ∷ v ∷ volatile_tokens fs ++ bodies) ≡ counts_in (d ∷ ds)
  unfolding counts_of
  counts_are v h =
      rw (ne_eqb v procedure_word (λ z. omega arith)) (ap₂ (λ (n : ℕ) (l : List ℕ). n ∷ l) (sym bare)
      (skip bodies (no_volatiles fs up) ∙ bodies_counts))

  bodies_read : (v m : ℕ)
      → procedures_by (counts_in (d ∷ ds)) 32 0 (before v m []) 1024 bodies ≡ plan (program_by (before v m (d ∷ ds)))
  bodies_read v m =
      procedures_read (counts_in (d ∷ ds)) ds d 32 0 (before v m []) 1024 right few sized (omega arith) (λ z. bare)

  volatiles_read : (v : ℕ)
      → with_volatiles (counts_in (d ∷ ds)) v (volatile_tokens fs ++ bodies) ≡ plan (program_by (before v (2 ^ 31 + mask_of fs) (d ∷ ds)))
  unfolding with_volatiles volatile_tokens mask_of
  volatiles_read v = by_fields fs up
    where
      first : NoField bodies × (eqb (ahead bodies 0) volatile_word ≡ false)
      first = first_token bodies_start

      by_fields : (gs : List ℕ) → Ascending 0 gs
          → with_volatiles (counts_in (d ∷ ds)) v (volatile_tokens gs ++ bodies) ≡ plan (program_by (before v (2 ^ 31 + mask_of gs) (d ∷ ds)))
      by_fields [] q = rw first.1 (bodies_read v (2 ^ 31))
      by_fields (g ∷ gs) q =
          ap₂ (λ (m : ℕ) (l : List ℕ). procedures_by (counts_in (d ∷ ds)) 32 0 (before v m []) 1024 l) (mask_read (g ∷ gs) bodies (2 ^ 31) 0 q first.0)
          (behind_read (g ∷ gs) bodies 0 q first.0)
          ∙ bodies_read v (2 ^ 31 + mask_of (g ∷ gs))

  parts_read : (v : ℕ) → v < 2
      → read_plan (version_word ∷ v ∷ (volatile_tokens fs ++ main_first (d ∷ ds)) ++ (text_end ∷ [])) ≡ plan (program_by (before v (2 ^ 31 + mask_of fs) (d ∷ ds)))
  unfolding read_plan
  parts_read v h =
      ap (λ (l : List ℕ). read_plan (version_word ∷ v ∷ l)) (append_assoc (volatile_tokens fs) (main_first (d ∷ ds)) (text_end ∷ []))
      ∙ rw (lt-ltb v 2 h) (ap (λ (c : List ℕ). with_volatiles c v (volatile_tokens fs ++ bodies)) (counts_are v h) ∙ volatiles_read v)

-- the tokens of a program, in their parts
shown_is : (g : Program) → shown_plan g ≡ version_word ∷ version_number g.version ∷ volatile_tokens (fields_from g.volatiles 1 31) ++ main_first g.procedures
unfolding shown_plan
shown_is g = refl

-- a program that a plan can have is read back
pub program_back : (g : Program) → RightProgram g → read_plan (shown_plan g ++ (text_end ∷ [])) ≡ plan g
program_back g r =
    rw (shown_is g) (by_main g.procedures r.some_procedure r.few_procedures r.few_terms r.main_bare r.each_procedure ∙ ap plan back)
  where
    v : ℕ
    v = version_number g.version

    fs : List ℕ
    fs = fields_from g.volatiles 1 31

    by_main : (ds : List Procedure) → 1 ≤ length ds → length ds ≤ 32 → size_of_all ds ≤ 1024 → get_or (counts_in ds) 0 0 ≡ 0 → RightDefinitions (counts_in ds) ds
        → read_plan (version_word ∷ v ∷ (volatile_tokens fs ++ main_first ds) ++ (text_end ∷ [])) ≡ plan (program_by (before v (2 ^ 31 + mask_of fs) ds))
    by_main [] h few sized bare right = absurd (omega arith)
    by_main (d ∷ ds) h few sized bare right =
        parts_read d ds right few sized bare fs (fields_ascend g.volatiles 1 31 0 (omega arith) (omega arith)) v
        (let h = version_small g.version in omega arith)

    back : program_by (before v (2 ^ 31 + mask_of fs) g.procedures) ≡ g
    back = program_is g (2 ^ 31 + mask_of fs) (sym r.monitor_volatile)

-- what is shown of an accepted plan is read back as its program
pub plan_back : (b : List ℕ) → refusal b ≡ none → read_plan (shown_plan (program_of b) ++ (text_end ∷ [])) ≡ plan (program_of b)
plan_back b h = program_back (program_of b) (right_program b h)
