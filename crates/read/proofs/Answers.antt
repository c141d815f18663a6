-- The answer and the area, by what is read. Assumes nothing.
use Prim.Native.Nat.{ℕ, zero, suc, ◌+◌, ◌-◌, ◌*◌, ◌^◌, ◌≤◌, ◌<◌}
use native.Mathlib.Decide.{dec_le}
use native.Mathlib.Omega.{arith}
use mathlib.Core.Path.{◌≡◌, refl, sym, ap, ap₂, subst, ◌∙◌}
use mathlib.Core.Logic.{◌⊎◌, inl, inr}
use mathlib.Core.Bool.{Bool, true, false, cond}
use mathlib.Core.List.{List, [], ◌∷◌}
use lib.Dec.{ltb}
use lib.ListN.{length, get_or, take, drop, replicate, length-replicate, length-append, length-drop, length-map}
use lib.Seq.{take-append_seam}
use borrow.Author.Tests.{lt-ltb, le-ltb, ne_eqb}
use Rattle.format.specs.Area.{overwrite}
use Rattle.format.proofs.Filled.{zeros}
use Rattle.format.proofs.AreaLaws.{overwrite_length}
use Rattle.plan_packed.specs.Syntax.{Program}
use Rattle.plan_packed.specs.Format.{table, layout}
use Rattle.plan_packed.specs.Trees.{ExpressionNode, Node, nodes, node_of}
use Rattle.plan_packed.specs.Inner.Steps.{Ordered, NamesLater, in_word, term_in, node_in}
use Rattle.plan_written.specs.Written as bytes
use Rattle.plan_written.specs.Written.{size_of_all}
use Rattle.plan_written.proofs.ReadBack.{whole_length}
use Rattle.plan_written.proofs.RightWritten.{fitted}
use Rattle.plan_notation.specs.Tokens.{text_end}
use Rattle.plan_notation.specs.Lexing.{Token, token, Begun, nothing, begun_after, ended_by, ended_at_end, tokens_from, tokens_of, Place, place_after, codes_of}
use Rattle.plan_notation.proofs.TextEnd.{codes_ended}
use Rattle.plan_lexer.specs.Kept.{Kept}
use Rattle.plan_lexer.specs.Place.{place_in, place_of}
use Rattle.plan_parsing.specs.Plan.{Reading, plan, fault, Fault, read_plan}
use Rattle.plan_parsing.proofs.PlanRight.{program_right}
use Rattle.plan_writer.specs.Inner.Held.{held_from, held_program, Writable}
use Rattle.plan_reader.specs.Inner.Reading.{fault_of, Outcome, ReadBy, ReadAs}
use Rattle.plan_reader.specs.declared.HeldPlan.{HeldPlan}
use Rattle.read.specs.Read as texts
use Rattle.read.specs.Read.{Failure, of_fault, too_many, short_for_plan, failed_at, answer_by, area_by, read_answer, read_area}
use Rattle.read.specs.Answer.{failure_of, known_kind, answered}
use Rattle.read.specs.Inner.Begun.{Held, told_answer, PlanTold, OfText, Lent, TokensPlan, TokensFault, TokensTold, Tried}
use Rattle.std.specs.Prelude.{Option, Some, None, Result, Ok, Err}
use Rattle.read.specs.declared.Stop.{Stop}
use Rattle.read.specs.declared.Stop.TheVariants as stop
use Rattle.read.specs.declared.ReadError.TheVariants.{Failed}

-- ---- a plan in arrays

held_length : (words roots counts : List ℕ) (p n : ℕ) → length (held_from words roots counts p n) ≡ n
unfolding held_from
held_length words roots counts p zero = refl
held_length words roots counts p (suc n) = ap suc (held_length words roots counts (suc p) n)

module _ {v m n left : ℕ} {words roots counts : List ℕ} (h : Held v m n left words roots counts) where
  pub left_few : left ≤ length words
  left_few = omega (arith, h.sized)

  pub plan_length_lem : length (bytes.written (held_program v m n words roots counts)) ≡ 8 + 2 * n + 5 * (length words - left)
  unfolding held_program
  plan_length_lem =
      whole_length (held_program v m n words roots counts)
      ∙ by (length (held_from words roots counts 0 n)) (size_of_all (held_from words roots counts 0 n)) n left (length words) (held_length words roots counts 0 n)
      h.sized
    where
      by : (a b n l w : ℕ) → a ≡ n → b + l ≡ w → 8 + 2 * a + 5 * b ≡ 8 + 2 * n + 5 * (w - l)
      by a b n l w e f = omega arith

  pub writable : {area : List ℕ} → 8 + 2 * n + 5 * (length words - left) ≤ length area → Writable v m n (length words - left) words roots counts area
  writable k =
      record {
        ordered = h.ordered;
        version_known = h.version_known;
        mask_fits = h.mask_fits;
        few_procedures = h.few_procedures;
        few_terms = omega (arith, h.few_words);
        root_inside = λ p l. (h.there p l).1;
        few_parameters = λ p l. (h.there p l).2;
        sized = omega (arith, h.sized);
        long = k;
      }

-- ---- the start

null_node : (w : ℕ) → w ≡ 0 → node_of (term_in w) ≡ Node.expression ExpressionNode.null
unfolding node_of term_in in_word layout table nodes
null_node w e = rw e refl

null_in : (n t : ℕ) → node_in (replicate n 0) t ≡ Node.expression ExpressionNode.null
unfolding node_in
null_in n t = null_node (get_or (replicate n 0) t 0) (zeros n t)

zeros_ordered : (n : ℕ) → Ordered (replicate n 0)
zeros_ordered n = record { past = λ t h. null_in n t; below = λ t. subst (NamesLater t) (sym (null_in n t)) tt }

-- arrays of these sizes
pub lent : (t c w g v : ℕ) → t ≤ 16384 → t < c → w ≤ 1024 → 16 ≤ g → g ≤ 8408 → 16 ≤ v → v ≤ 3108
    → (w ≡ 1024 → (g ≡ 8408) × (v ≡ 3108) × (t ≡ 16384))
    → Lent (replicate t 0) (replicate c 0) (replicate w 0) (replicate g 0) (replicate v 0)
lent t c w g v ht hc hw lg hg lv hv e =
    let a = length-replicate {A = ℕ} t 0 in
    let b = length-replicate {A = ℕ} c 0 in
    let d = length-replicate {A = ℕ} w 0 in
    let x = length-replicate {A = ℕ} g 0 in
    let y = length-replicate {A = ℕ} v 0 in
    record {
      ordered = zeros_ordered w;
      sized =
          record {
            some_goals = rw x lg;
            most_goals = rw x hg;
            some_values = rw y lv;
            most_values = rw y hv;
            most_words = rw d hw;
            whole = λ q. let z = e (sym d ∙ q) in (x ∙ z.0, y ∙ z.1);
          };
      few_tokens = rw a ht;
      more_counts = rw (a, b) hc;
      whole = λ q. a ∙ (e (sym d ∙ q)).2;
    }

-- every text has a token, its end
from_some : (cs : List ℕ) (b : Begun) (i : ℕ) → 0 < length (tokens_from b i cs)
unfolding tokens_from
from_some [] b i = omega (arith, length-append (ended_at_end b) (token text_end i ∷ []))
from_some (c ∷ cs) b i = omega (arith, length-append (ended_by b i c) (tokens_from (begun_after b i c) (suc i) cs), from_some cs (begun_after b i c) (suc i))

codes_length : (text : List ℕ) → length (codes_of text) ≡ length (tokens_of text)
unfolding codes_of
codes_length text = length-map (tokens_of text) (λ (t : Token). t.code)

pub some_token : (text : List ℕ) → 0 < length (codes_of text)
unfolding tokens_of
some_token text = omega (arith, codes_length text, from_some text nothing 0)

-- ---- the place of a failure

pub failed_is : (text : List ℕ) (i kind reason : ℕ) {l c : ℕ} → (l ≡ (place_of text i).line) × (c ≡ (place_of text i).column)
    → answered (Err (Failed l c kind reason)) ≡ failed_at text i (failure_of kind reason)
unfolding failed_at
failed_is text i kind reason e = ap₂ (λ (l c : ℕ). texts.Read.failed l c (failure_of kind reason)) e.0 e.1

-- beyond the last token there is the text's end
beyond : (ts : List Token) (n : ℕ) (d : Token) → length ts ≤ n → get_or ts n d ≡ d
beyond [] n d h = refl
beyond (t ∷ ts) zero d h = absurd (omega arith)
beyond (t ∷ ts) (suc n) d h = beyond ts n d (omega arith)

same_place : (text : List ℕ) (i j : ℕ) → i ≡ j ⊎ ((length (tokens_of text) ≤ i) × (length (tokens_of text) ≤ j)) → place_of text i ≡ place_of text j
unfolding place_of place_in
same_place text i j (inl e) = ap (place_of text) e
same_place text i j (inr h) =
    ap (λ (t : Token). place_after (take t.place text))
    (beyond (tokens_of text) i (token text_end (length text)) h.0 ∙ sym (beyond (tokens_of text) j (token text_end (length text)) h.1))

place_left : (text : List ℕ) (i : ℕ) → place_of text i ≡ place_of text (length (codes_of text) - length (drop i (codes_of text)))
place_left text i = same_place text i _ (go (dec_le i (length (codes_of text))))
  where
    go : Dec (i ≤ length (codes_of text))
        → i ≡ length (codes_of text) - length (drop i (codes_of text))
        ⊎ ((length (tokens_of text) ≤ i) × (length (tokens_of text) ≤ length (codes_of text) - length (drop i (codes_of text))))
    go (yes h) = inl (omega (arith, length-drop i (codes_of text)))
    go (no h) = inr (omega (arith, h, codes_length text), omega (arith, h, codes_length text, length-drop i (codes_of text)))

-- ---- a fault

known_fault : (kind reason : ℕ) → failure_of (known_kind kind) reason ≡ of_fault (fault_of kind reason)
unfolding failure_of known_kind fault_of
known_fault zero reason = refl
known_fault (suc zero) reason = refl
known_fault (suc (suc zero)) reason = refl
known_fault (suc (suc (suc k))) reason =
    rw (
      le-ltb (suc (suc (suc k))) 3 (omega arith),
      ne_eqb (suc (suc (suc k))) 0 (λ e. absurd (omega (arith, e))),
      ne_eqb (suc (suc (suc k))) 1 (λ e. absurd (omega (arith, e))),
      ne_eqb (suc (suc (suc k))) 2 (λ e. absurd (omega (arith, e))),
    ) refl

failed_same : (text : List ℕ) (i : ℕ) (f : Failure) → failed_at text i f ≡ failed_at text (length (codes_of text) - length (drop i (codes_of text))) f
unfolding failed_at
failed_same text i f = ap (λ (p : Place). texts.Read.failed p.line p.column f) (place_left text i)

by_fault : (text area : List ℕ) (f : Fault) (rest : List ℕ) → read_plan (codes_of text) ≡ fault f rest
    → (failed_at text (length (codes_of text) - length rest) (of_fault f) ≡ answer_by text area (read_plan (codes_of text)))
    × (area ≡ area_by area (read_plan (codes_of text)))
unfolding answer_by area_by
by_fault text area f rest e = (sym (ap (answer_by text area) e), sym (ap (area_by area) e))

pub fault_told : (text area area' : List ℕ) (told : Result ℕ Stop) {ts : List ℕ} → ts ≡ codes_of text → TokensFault ts area area' told
    → (told_answer text told ≡ answer_by text area (read_plan (codes_of text))) × (area' ≡ area_by area (read_plan (codes_of text)))
fault_told text area area' told {ts} e x =
    let f = fault_of x.kind x.reason in
    let says : read_plan (codes_of text) ≡ fault f (drop x.at (codes_of text)) = subst (λ (us : List ℕ). read_plan us ≡ fault f (drop x.at us)) e x.says in
    let b = by_fault text area f (drop x.at (codes_of text)) says in (
      ap (told_answer text) x.told_is ∙ ap (failed_at text x.at) (known_fault x.kind x.reason) ∙ failed_same text x.at (of_fault f) ∙ b.0,
      x.kept ∙ b.1,
    )

-- ---- a plan

small_mask : (v m n : ℕ) (words roots counts : List ℕ) → (held_program v m n words roots counts).volatiles < 2 ^ 32 → m < 2 ^ 32
unfolding held_program
small_mask v m n words roots counts h = h

pub plan_in_arrays : {ts words roots counts : List ℕ} {held : HeldPlan} {r : Outcome} → OfText ts → ReadAs ts words roots counts r
    → r ≡ Some (Ok held) → length words ≤ 1024
    → Held held.version held.mask held.procedures held.left words roots counts
plan_in_arrays {ts} {words} {roots} {counts} {held} o x f b =
    let v = held.version in
    let m = held.mask in
    let n = held.procedures in
    let text = o.text in
    let h = subst (ReadBy ts words roots counts) f x.so in
    let says : read_plan (codes_of text) ≡ plan (held_program v m n words roots counts) = subst
    (λ (us : List ℕ). read_plan us ≡ plan (held_program v m n words roots counts)) o.codes_are h.0.says in
    record {
      ordered = h.0.ordered;
      version_known = h.1;
      mask_fits = small_mask v m n words roots counts (fitted _ (program_right (codes_of text) _ (codes_ended text) says)).mask_fits;
      few_procedures = h.0.few;
      there = h.0.there;
      sized = h.0.sized;
      few_words = b;
    }

by_plan : (text area : List ℕ) (g : Program) → read_plan (codes_of text) ≡ plan g → (area' : List ℕ) (told : Result ℕ Stop) → PlanTold g area area' told
    → (told_answer text told ≡ answer_by text area (read_plan (codes_of text))) × (area' ≡ area_by area (read_plan (codes_of text)))
unfolding answer_by area_by short_for_plan
by_plan text area g e area' told (inl w) =
    let s = lt-ltb (length area) (length (bytes.written g)) w.short in
    (ap (told_answer text) w.told_is ∙ sym (ap (answer_by text area) e ∙ rw s refl), w.kept ∙ sym (ap (area_by area) e ∙ rw s refl))
by_plan text area g e area' told (inr w) =
    let s = le-ltb (length area) (length (bytes.written g)) w.long in
    (ap (told_answer text) w.told_is ∙ sym (ap (answer_by text area) e ∙ rw s refl), w.bytes ∙ sym (ap (area_by area) e ∙ rw s refl))

pub plan_told : (text area area' : List ℕ) (told : Result ℕ Stop) {ts : List ℕ} → ts ≡ codes_of text → TokensPlan ts area area' told
    → (told_answer text told ≡ answer_by text area (read_plan (codes_of text))) × (area' ≡ area_by area (read_plan (codes_of text)))
plan_told text area area' told e x =
    by_plan text area x.program (subst (λ (us : List ℕ). read_plan us ≡ plan x.program) e x.says) area' told x.plan_told

-- ---- lengths

pub written_length : {g : Program} {area area' : List ℕ} {told : Result ℕ Stop} → PlanTold g area area' told → length area' ≡ length area
written_length (inl w) = ap length w.kept
written_length {g} {area} (inr w) = ap length w.bytes ∙ overwrite_length (bytes.written g) area w.long

pub area_length : (area : List ℕ) (r : Reading) → length (area_by area r) ≡ length area
unfolding area_by short_for_plan
area_length area (fault f rest) = refl
area_length area (plan g) = go (dec_le (length (bytes.written g)) (length area))
  where
    go : Dec (length (bytes.written g) ≤ length area)
        → length (cond (ltb (length area) (length (bytes.written g))) area (overwrite (bytes.written g) area)) ≡ length area
    go (yes h) = rw (le-ltb (length area) (length (bytes.written g)) h) (overwrite_length (bytes.written g) area h)
    go (no h) = rw (lt-ltb (length area) (length (bytes.written g)) (omega (arith, h)))

pub read_length : (text area : List ℕ) → length (read_area text area) ≡ length area
unfolding read_area too_many
read_length text area = go (ltb 16384 (length (codes_of text)))
  where
    go : (b : Bool) → length (cond b area (area_by area (read_plan (codes_of text)))) ≡ length area
    go true = refl
    go false = area_length area (read_plan (codes_of text))

-- ---- too many tokens, or not

module _ (text area : List ℕ) {tokens after : List ℕ} {r : ℕ} (k : Kept tokens (codes_of text) after r) (n : length tokens ≤ 16384) where
  many : length tokens < r → length tokens < length (codes_of text)
  many h = go (dec_le (length (codes_of text)) (length tokens))
    where
      go : Dec (length (codes_of text) ≤ length tokens) → length tokens < length (codes_of text)
      go (yes l) = absurd (omega (arith, h, l, (k.fits l).0))
      go (no l) = omega (arith, l)

  pub many_told : length tokens ≡ 16384 → length tokens < r
      → (told_answer text (Err (stop.Token 16384 4 0)) ≡ read_answer text area) × (area ≡ read_area text area)
  unfolding read_answer read_area too_many failure_of
  many_told w h = let s = lt-ltb 16384 (length (codes_of text)) (omega (arith, many h, w)) in (sym (rw s refl), sym (rw s refl))

  few : r ≤ length tokens → length (codes_of text) ≤ length tokens
  few h = go (dec_le (length (codes_of text)) (length tokens))
    where
      go : Dec (length (codes_of text) ≤ length tokens) → length (codes_of text) ≤ length tokens
      go (yes l) = l
      go (no l) = absurd (omega (arith, h, k.full (omega (arith, l))))

  pub first_codes : r ≤ length tokens → (take (r - 0) after ≡ codes_of text) × (length (take (r - 0) after) ≤ length tokens)
  unfolding overwrite
  first_codes h =
      let f = k.fits (few h) in
      let e : take (r - 0) after ≡ codes_of text = ap₂ (λ (i : ℕ) (l : List ℕ). take i l) (whole r ∙ f.0) f.1
      ∙ take-append_seam (codes_of text) (drop (length (codes_of text)) tokens) in
      (e, omega (arith, ap length e, few h))
    where
      whole : (n : ℕ) → n - 0 ≡ n
      whole n = omega arith

  whole_answer : (told : Result ℕ Stop) (area' : List ℕ) → r ≤ length tokens
      → (told_answer text told ≡ answer_by text area (read_plan (codes_of text))) × (area' ≡ area_by area (read_plan (codes_of text)))
      → (told_answer text told ≡ read_answer text area) × (area' ≡ read_area text area)
  unfolding read_answer read_area too_many
  whole_answer told area' h e = let s = le-ltb 16384 (length (codes_of text)) (omega (arith, few h)) in (e.0 ∙ sym (rw s refl), e.1 ∙ sym (rw s refl))

  pub few_tried : (w : ℕ) (x : Option (Result ℕ Stop)) (area' ts : List ℕ) → r ≤ length tokens → ts ≡ codes_of text → TokensTold ts w area area' x
      → Tried text w area area' x
  few_tried w (Some told) area' ts h e (inl t) = whole_answer told area' h (plan_told text area area' told e t)
  few_tried w (Some told) area' ts h e (inr t) = whole_answer told area' h (fault_told text area area' told e t)
  few_tried w None area' ts h e t = t

-- ---- the area's length

pub tried_length : (text area area' : List ℕ) (w : ℕ) (x : Option (Result ℕ Stop)) → Tried text w area area' x → length area' ≡ length area
tried_length text area area' w (Some told) t = ap length t.1 ∙ read_length text area
tried_length text area area' w None t = ap length t.1
