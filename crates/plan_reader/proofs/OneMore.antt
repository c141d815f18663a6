-- The procedures, read one after the other. Assumes nothing.
use Prim.Native.Nat.{ℕ, zero, suc, ◌+◌, ◌-◌, ◌≤◌, ◌<◌}
use native.Mathlib.Decide.{dec_lt}
use native.Mathlib.Omega.{arith}
use mathlib.Core.Path.{◌≡◌, refl, sym, ap, ap₂, ◌∙◌}
use mathlib.Core.Bool.{true, false}
use mathlib.Core.List.{List, [], ◌∷◌, ◌++◌}
use lib.Dec.{ltb}
use lib.ListN.{length, get_or, drop, set, length-set}
use lib.Seq.{get_or-set_same, get_or-set_other}
use borrow.Author.Tests.{ne_eqb}
use Rattle.plan_packed.specs.Syntax.{Expression, Procedure}
use Rattle.plan_packed.specs.Slots.{closed}
use Rattle.plan_packed.specs.Inner.Steps.{Ordered, tree_in}
use Rattle.plan_written.specs.Terms.{terms_of, size}
use Rattle.plan_written.specs.Written.{size_of_all}
use Rattle.plan_notation.specs.Tokens.{text_end}
use Rattle.plan_parsing.specs.Goals.{Value, number, number_in, expression_in, value_at}
use Rattle.plan_parsing.specs.Parser.{ahead, Reason, parse, Parsed, parsed, stopped}
use Rattle.plan_parsing.specs.Plan.{Reading, plan, fault, Fault, counts_of, procedure_goals, Before, program_by, with_procedure, after_procedure, procedures_by}
use Rattle.plan_parsing.specs.Plan.{read_plan}
use Rattle.plan_parsing.proofs.ReadRight.{ReadProcedure, main_read, procedure_read}
use Rattle.plan_writer.specs.Inner.Held.{held_procedure, held_from, held_program}
use Rattle.plan_parser.specs.Inner.Reading.{terms_left}
use Rattle.plan_reader.specs.Inner.Reading.{Going}
use Rattle.plan_reader.proofs.HeldLaws.{tree_stays, held_more, held_stay, sizes_append}

-- the procedures that have been read
abbrev before : ℕ → ℕ → List ℕ → List ℕ → List ℕ → ℕ → Before
before v m words roots counts p = record { version = v; mask = m; procedures = held_from words roots counts 0 p }

-- a procedure has been read into the arrays
pub record OneMore (words words' : List ℕ) (left : ℕ) (vs : List Value) (n root k left' : ℕ) : Type 0 where
  pub tree_is : tree_in words' root ≡ expression_in (value_at vs 0)
  pub count_is : k ≡ number_in (value_at vs 1)
  pub terms_are : terms_left words' left' ≡ n
  pub root_there : left' ≤ root
  pub root_below : root < 1024
  pub count_few : k < 9
  pub fewer : left' ≤ left
  pub ordered : Ordered words'
  pub words_long : length words' ≡ length words
  pub stay : (i : ℕ) → left ≤ i → get_or words' i 0 ≡ get_or words i 0

-- ---- what the definition says of one procedure more

unrolled : (counts : List ℕ) (most p : ℕ) (b : Before) (n : ℕ) (ts : List ℕ) → 0 < most
    → procedures_by counts most p b n ts
    ≡ after_procedure (λ (b' : Before) (n' : ℕ) (ts' : List ℕ). procedures_by counts (most - 1) (suc p) b' n' ts') b ts
    (parse counts (procedure_goals p) (number 0 ∷ []) n ts)
unfolding procedures_by
unrolled counts zero p b n ts h = absurd (omega arith)
unrolled counts (suc most) p b n ts h =
    ap (λ (k : ℕ). after_procedure (λ (b' : Before) (n' : ℕ) (ts' : List ℕ). procedures_by counts k (suc p) b' n' ts') b ts
    (parse counts (procedure_goals p) (number 0 ∷ []) n ts)) (one most)
  where
    one : (k : ℕ) → k ≡ suc k - 1
    one k = omega arith

module _ (next : Before → ℕ → List ℕ → Reading) (b : Before) (ts : List ℕ) where
  after_stop : (r : Reason) (rest : List ℕ) → after_procedure next b ts (stopped r rest) ≡ fault (Fault.reading r) rest
  unfolding after_procedure
  after_stop r rest = refl

  module _ (vs : List Value) (n : ℕ) (rest : List ℕ) where
    abbrev k : ℕ
    k = number_in (value_at vs 1)

    abbrev body : Expression
    body = expression_in (value_at vs 0)

    after_open : closed (λ x. ltb x k) body ≡ false → after_procedure next b ts (parsed vs n rest) ≡ fault Fault.slots ts
    unfolding after_procedure
    after_open e = rw e

    after_last : closed (λ x. ltb x k) body ≡ true → ahead rest 0 ≡ text_end
        → after_procedure next b ts (parsed vs n rest) ≡ plan (program_by (with_procedure b k vs))
    unfolding after_procedure
    after_last e f = rw (e, f)

    after_more : closed (λ x. ltb x k) body ≡ true → (ahead rest 0 ≡ text_end → ⊥)
        → after_procedure next b ts (parsed vs n rest) ≡ next (with_procedure b k vs) n rest
    unfolding after_procedure
    after_more e f = rw (e, ne_eqb (ahead rest 0) text_end f)

-- its size
body_size : (counts : List ℕ) (n m k : ℕ) (vs : List Value) (ts rest : List ℕ) → ReadProcedure counts n m k vs ts rest
    → size (terms_of (expression_in (value_at vs 0))) + m ≡ n
unfolding expression_in
body_size counts n m k vs ts rest r = ap (λ (us : List Value). size (terms_of (expression_in (value_at us 0))) + m) r.values ∙ r.sized

read_size : (counts : List ℕ) (p n m : ℕ) (vs : List Value) (ts rest : List ℕ) → p < 32
    → parse counts (procedure_goals p) (number 0 ∷ []) n ts ≡ parsed vs m rest
    → size (terms_of (expression_in (value_at vs 0))) + m ≡ n
read_size counts zero n m vs ts rest h e = let r = main_read counts n m vs rest ts e in body_size counts n m 0 vs ts rest r
read_size counts (suc p) n m vs ts rest h e =
    let r = procedure_read counts n m vs rest p ts h e in body_size counts n m r.parameters vs r.tokens rest r.read

-- ---- one procedure more

module _ {ts : List ℕ} {v m : ℕ} {words roots counts : List ℕ} {p at left : ℕ} (g : Going ts v m words roots counts p at left) (h : p < 32) where
  abbrev result : Parsed
  result = parse (counts_of ts) (procedure_goals p) (number 0 ∷ []) (terms_left words left) (drop at ts)

  abbrev further : Before → ℕ → List ℕ → Reading
  further b n us = procedures_by (counts_of ts) (32 - p - 1) (suc p) b n us

  after : read_plan ts ≡ after_procedure further (before v m words roots counts p) (drop at ts) result
  after = g.same ∙ unrolled (counts_of ts) (32 - p) p (before v m words roots counts p) (terms_left words left) (drop at ts) (omega arith)

  -- reading stops
  pub stops : (r : Reason) (rest : List ℕ) → result ≡ stopped r rest → read_plan ts ≡ fault (Fault.reading r) rest
  stops r rest e =
      after ∙ ap (after_procedure further (before v m words roots counts p) (drop at ts)) e
      ∙ after_stop further (before v m words roots counts p) (drop at ts) r rest

  module _ (vs : List Value) (n : ℕ) (rest : List ℕ) (e : result ≡ parsed vs n rest) where
    read : read_plan ts ≡ after_procedure further (before v m words roots counts p) (drop at ts) (parsed vs n rest)
    read = after ∙ ap (after_procedure further (before v m words roots counts p) (drop at ts)) e

    -- a slot is not bound
    pub opens : closed (λ x. ltb x (number_in (value_at vs 1))) (expression_in (value_at vs 0)) ≡ false → read_plan ts ≡ fault Fault.slots (drop at ts)
    opens c = read ∙ after_open further (before v m words roots counts p) (drop at ts) vs n rest c

    module _ {words' : List ℕ} {root k left' : ℕ} (o : OneMore words words' left vs n root k left') where
      abbrev roots' : List ℕ
      roots' = set roots p root

      abbrev counts' : List ℕ
      counts' = set counts p k

      abbrev one : Procedure
      one = record { parameters = number_in (value_at vs 1); body = expression_in (value_at vs 0) }

      earlier : held_from words' roots' counts' 0 p ≡ held_from words roots counts 0 p
      earlier =
          held_stay words words' roots roots' counts counts' 0 p
          (λ q a b. (
            ap (tree_in words') (get_or-set_other roots p q root 0 (λ z. absurd (omega (arith, z))))
                ∙ tree_stays words words' g.ordered left o.stay (get_or roots q 0) (g.there q (omega arith)).0,
            get_or-set_other counts p q k 0 (λ z. absurd (omega (arith, z))),
          ))

      this : held_procedure words' roots' counts' p ≡ one
      unfolding held_procedure
      this =
          ap₂ (λ (j : ℕ) (x : Expression). record { parameters = j; body = x }) (get_or-set_same counts p k 0 (omega (arith, g.counts_long)) ∙ o.count_is)
          (ap (tree_in words') (get_or-set_same roots p root 0 (omega (arith, g.roots_long))) ∙ o.tree_is)

      more : held_from words' roots' counts' 0 (suc p) ≡ held_from words roots counts 0 p ++ (one ∷ [])
      more =
          held_more words' roots' counts' 0 p
          ∙ ap₂ (λ (ds : List Procedure) (q : ℕ). ds ++ (held_procedure words' roots' counts' q ∷ [])) earlier (zero_plus p)
          ∙ ap (λ (d : Procedure). held_from words roots counts 0 p ++ (d ∷ [])) this
        where
          zero_plus : (p : ℕ) → 0 + p ≡ p
          zero_plus p = omega arith

      with_one : with_procedure (before v m words roots counts p) (number_in (value_at vs 1)) vs ≡ before v m words' roots' counts' (suc p)
      unfolding with_procedure
      with_one = ap (λ (ds : List Procedure). record { version = v; mask = m; procedures = ds }) (sym more)

      pub sized_more : size_of_all (held_from words' roots' counts' 0 (suc p)) + left' ≡ length words'
      unfolding size_of_all
      sized_more =
          by (size_of_all (held_from words roots counts 0 p)) (size (terms_of (expression_in (value_at vs 0)))) n left left' (length words) (length words') _
          (ap size_of_all more ∙ sizes_append (held_from words roots counts 0 p) (one ∷ [])) g.sized
          (read_size (counts_of ts) p (terms_left words left) n vs (drop at ts) rest h e) o.terms_are o.words_long
        where
          by : (a b n l l' w w' s : ℕ) → s ≡ a + (b + 0) → a + l ≡ w → b + n ≡ l + (1024 - w) → l' + (1024 - w') ≡ n → w' ≡ w → s + l' ≡ w'
          by a b n l l' w w' s x y z u v = omega arith

      pub there_more : (q : ℕ) → q < suc p → (left' ≤ get_or roots' q 0) × (get_or roots' q 0 < 1024) × (get_or counts' q 0 ≤ 8)
      there_more q l = go (dec_lt q p)
        where
          go : Dec (q < p) → (left' ≤ get_or roots' q 0) × (get_or roots' q 0 < 1024) × (get_or counts' q 0 ≤ 8)
          go (yes b) =
              let t = g.there q b in
              rw (get_or-set_other roots p q root 0 (λ z. absurd (omega (arith, z))), get_or-set_other counts p q k 0 (λ z. absurd (omega (arith, z))))
              (omega (arith, t.0, o.fewer), t.1, t.2)
          go (no b) =
              let z : q ≡ p = omega (arith, b) in
              rw (z, get_or-set_same roots p root 0 (omega (arith, g.roots_long)), get_or-set_same counts p k 0 (omega (arith, g.counts_long)))
              (o.root_there, o.root_below, omega (arith, o.count_few))

      -- it is the last
      pub lasts : closed (λ x. ltb x (number_in (value_at vs 1))) (expression_in (value_at vs 0)) ≡ true → ahead rest 0 ≡ text_end
          → read_plan ts ≡ plan (held_program v m (suc p) words' roots' counts')
      unfolding program_by held_program
      lasts c f = read ∙ after_last further (before v m words roots counts p) (drop at ts) vs n rest c f ∙ ap (λ (b : Before). plan (program_by b)) with_one

      -- it is not
      pub goes_on_lem : (at' : ℕ) → closed (λ x. ltb x (number_in (value_at vs 1))) (expression_in (value_at vs 0)) ≡ true → drop at' ts ≡ rest → at' ≤ length ts
          → (ahead rest 0 ≡ text_end → ⊥) → Going ts v m words' roots' counts' (suc p) at' left'
      goes_on_lem at' c d i f =
          record {
            same =
                read
                ∙ after_more further (before v m words roots counts p) (drop at ts) vs n rest c f
                ∙ ap₂ (λ (b : Before) (us : List ℕ). procedures_by (counts_of ts) (32 - p - 1) (suc p) b n us) with_one (sym d)
                ∙ ap₂ (λ (k j : ℕ). procedures_by (counts_of ts) k (suc p) (before v m words' roots' counts' (suc p)) j (drop at' ts)) (fewer p)
                (sym o.terms_are);
            ordered = o.ordered;
            few_words = omega (arith, o.words_long, g.few_words);
            roots_long = length-set roots p root ∙ g.roots_long;
            counts_long = length-set counts p k ∙ g.counts_long;
            there = there_more;
            sized = sized_more;
            inside = i;
            few = h;
          }
        where
          fewer : (p : ℕ) → 32 - p - 1 ≡ 32 - suc p
          fewer p = omega arith

-- at the start none has been read
pub starts : (ts : List ℕ) (v m : ℕ) (words roots counts : List ℕ) (at : ℕ)
    → read_plan ts ≡ procedures_by (counts_of ts) 32 0 (record { version = v; mask = m; procedures = [] }) 1024 (drop at ts)
    → Ordered words → length words ≤ 1024 → length roots ≡ 32 → length counts ≡ 32 → at ≤ length ts
    → Going ts v m words roots counts 0 at (length words)
unfolding held_from size_of_all
starts ts v m words roots counts at e o a b c i =
    record {
      same =
          let z : terms_left words (length words) ≡ 1024 = omega arith in
          e ∙ ap (λ (n : ℕ). procedures_by (counts_of ts) 32 0 (record { version = v; mask = m; procedures = [] }) n (drop at ts)) (sym z);
      ordered = o;
      few_words = a;
      roots_long = b;
      counts_long = c;
      there = λ q h. absurd (omega arith);
      sized = omega arith;
      inside = i;
      few = omega arith;
    }

-- there are too many
pub too_many_lem : {ts : List ℕ} {v m : ℕ} {words roots counts : List ℕ} {p at left : ℕ} → Going ts v m words roots counts p at left → 32 ≤ p
    → read_plan ts ≡ fault Fault.end (drop at ts)
unfolding procedures_by
too_many_lem {ts} {v} {m} {words} {roots} {counts} {p} {at} {left} g h =
    g.same ∙ ap (λ (k : ℕ). procedures_by (counts_of ts) k p (before v m words roots counts p) (terms_left words left) (drop at ts)) (none p h)
  where
    none : (p : ℕ) → 32 ≤ p → 32 - p ≡ 0
    none p h = omega arith
