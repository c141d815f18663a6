-- A turn that goes straight by its goal's number is the turn of the move of that goal. Assumes nothing.
use Prim.Native.Nat.{ℕ, ◌+◌, ◌-◌, ◌*◌, ◌/◌, ◌%◌, ◌≤◌, ◌<◌}
use native.Mathlib.Decide.{dec_lt, ℕ_discrete}
use native.Mathlib.Omega.{arith}
use mathlib.Core.Path.{◌≡◌, refl, sym, subst}
use mathlib.Core.Bool.{true, false}
use mathlib.Core.List.{List}
use lib.ListN.{length, get_or, drop, get_or-eq_default}
use lib.Dec.{eqb}
use borrow.Author.Tests.{eq-eqb, ne_eqb, lt-ltb, le-ltb}
use Rattle.plan_parsing.specs.Goals.{Goal, operand, make, Value}
use Rattle.plan_parsing.specs.Parser.{step, begun}
use Rattle.plan_parser_goals.specs.Inner.Encoded.{goal_of, sort_of}
use Rattle.plan_parser_goals.specs.Inner.Moves.{Calls, Does, Formed, PackedForm, Small, Sound, form_at, onto, pushed, done}
use Rattle.plan_parser_goals.specs.Inner.Moves.{Sight, Move, Go, Make, Stop}
use Rattle.plan_parser_goals.proofs.Numbers.{make_goal}
use Rattle.plan_parser_goals.proofs.MoveLaws.{make_is, moved, word_new, word_other, word_all, word_notify}
use Rattle.plan_parser_goals.proofs.MoveLaws.{form_loose, form_refused, form_taken, form_term}
use Rattle.plan_parser.specs.Inner.Stacks.{Entries, Looks, last_of}
use Rattle.plan_parser.specs.Inner.Making.{Makeable}
use Rattle.plan_parser.specs.Inner.Reading.{State, Going, NoneLeft, Found, Went, Turned}
use Rattle.plan_parser.specs.Inner.Turning.{number_of, sight_of, Ready, Turns, MadeOr, FormOf, TakenBy, ValueOf, Misplaced}
use Rattle.plan_parser.specs.declared.turns.Standing.{Standing}
use Rattle.plan_parser.specs.Inner.Reading.{Turn}
use Rattle.std.specs.Prelude.{Ok, Err}
use Rattle.plan_parser.proofs.StackLaws.{looks, last_small}
use Rattle.plan_parser.proofs.TurnLaws.{small_entries, sound, turned_on, turned_stop, turned_none, makeable, turned_made}

-- ---- what a step could see

-- a token is past the end, or inside
token_inside : (tokens : List ℕ) (i : ℕ) → 69 ≤ get_or tokens i 69 + 69 * (length tokens - i)
token_inside tokens i = choice (dec_lt i (length tokens))
  where
    choice : Dec (i < length tokens) → 69 ≤ get_or tokens i 69 + 69 * (length tokens - i)
    choice (yes h) = omega arith
    choice (no h) = let e = get_or-eq_default tokens 69 {n = i} (omega (arith, h)) in omega arith

sight_looks : (tokens words values : List ℕ) (s : Standing) → Entries 0 values s.values → Looks tokens s.at words values s.values
    (sight_of tokens words values s)
sight_looks tokens words values s small =
    looks tokens words values s.at s.values (last_of values s.values) (get_or tokens s.at 69) (get_or tokens (s.at + 1) 69)
    (get_or tokens (s.at + 2) 69) _ refl small (refl, token_inside tokens s.at) (refl, token_inside tokens (s.at + 1))
    (refl, token_inside tokens (s.at + 2)) refl (number_of (last_of values s.values)) refl

-- the number of the last value has room for a field's bit
pub mask_small : (values : List ℕ) (n v m : ℕ) → Entries 0 values n → v ≡ last_of values n → m ≡ number_of v → m < 4294967296
mask_small values n v m h e q = choice (dec_lt v 1024)
  where
    choice : Dec (v < 1024) → m < 4294967296
    choice (yes k) = let z : m ≡ 0 = rw (lt-ltb v 1024 k) at q in omega arith
    choice (no k) = let z : m ≡ v - 1024 = rw (le-ltb v 1024 (omega (arith, k))) at q in let l = last_small values n h in omega arith

-- ---- a turn

module _ (tokens goals values : List ℕ) (s : Standing) (code : ℕ) (d : Ready goals values s code) (words : List ℕ) where
  module _ (counts : List ℕ) (small : (i : ℕ) → get_or counts i 0 < 256) (st : State tokens goals values words s) (g : Goal) (e : goal_of code ≡ g) where
    found : (m : Move) → Calls counts g (sight_of tokens words values s) m → Found tokens counts goals values words s m
    found m p =
        record {
          sight = sight_of tokens words values s;
          looks = sight_looks tokens words values s (small_entries tokens counts goals values words s st d.going);
          calls = subst (λ (c : ℕ). Calls counts (goal_of c) (sight_of tokens words values s) m) d.on_top
              (moved counts g (goal_of code) (sight_of tokens words values s) m e p);
          counts_small = small;
        }

    pub called_on : (taken kept next digits popped value : ℕ) (goals' values' : List ℕ) (s' : Standing)
        → Went goals values s taken kept next digits popped value goals' values' s'
        → Calls counts g (sight_of tokens words values s) (Go taken kept next digits popped value)
        → Turned tokens counts goals values words goals' values' words s (Ok s')
    called_on taken kept next digits popped value goals' values' s' w p =
        turned_on tokens counts goals values words s st d.going taken kept next digits popped value
        (found (Go taken kept next digits popped value) p) goals' values' s' w

    pub called_stop : (reason : ℕ) (r : Turn) → r ≡ Err (record { reason = reason; at = s.at }) → Calls counts g (sight_of tokens words values s) (Stop 0 reason)
        → Turned tokens counts goals values words goals values words s r
    called_stop reason r q p =
        let z : s.at + 0 ≡ s.at = omega arith in
        rw q (rw z at (turned_stop tokens counts goals values words s st d.going 0 reason (found (Stop 0 reason) p)))

    pub called_past : (reason : ℕ) → Calls counts g (sight_of tokens words values s) (Stop 1 reason)
        → Turned tokens counts goals values words goals values words s (Err (record { reason = reason; at = s.at + 1 }))
    called_past reason p = turned_stop tokens counts goals values words s st d.going 1 reason (found (Stop 1 reason) p)

  module _ (g : Goal) (e : goal_of code ≡ g) where
    pub turns_on : (taken kept next digits popped value : ℕ) (goals' values' : List ℕ) (s' : Standing)
        → Went goals values s taken kept next digits popped value goals' values' s'
        → ((counts : List ℕ) → Calls counts g (sight_of tokens words values s) (Go taken kept next digits popped value))
        → Turns tokens goals values words goals' values' words s (Ok s')
    turns_on taken kept next digits popped value goals' values' s' w p counts small st = called_on counts small st g e taken kept next digits popped value
        goals' values' s' w (p counts)

    pub turns_stop : (reason : ℕ) (r : Turn) → r ≡ Err (record { reason = reason; at = s.at })
        → ((counts : List ℕ) → Calls counts g (sight_of tokens words values s) (Stop 0 reason)) → Turns tokens goals values words goals values words s r
    turns_stop reason r q p counts small st = called_stop counts small st g e reason r q (p counts)

    pub turns_past : (reason : ℕ) → ((counts : List ℕ) → Calls counts g (sight_of tokens words values s) (Stop 1 reason))
        → Turns tokens goals values words goals values words s (Err (record { reason = reason; at = s.at + 1 }))
    turns_past reason p counts small st = called_past counts small st g e reason (p counts)

-- ---- before a turn

module _ (tokens counts goals values words : List ℕ) (s : Standing) (st : State tokens goals values words s) (gg : Going goals values s) (code : ℕ)
    (e : code ≡ get_or goals (s.goals - 1) 0) where
  pub ready : Ready goals values s code
  ready =
      let i = st.inside in
      let k = st.tokens_few in
      record { going = gg; most_goals = st.sized.most_goals; most_values = st.sized.most_values; at_small = omega arith; on_top = e }

  pub code_sound : Sound code
  code_sound = subst Sound (sym e) (sound tokens counts goals values words s st gg)

-- ---- a term

module _ (tokens counts goals values words : List ℕ) (s : Standing) (st : State tokens goals values words s) (gg : Going goals values s)
    (small : (i : ℕ) → get_or counts i 0 < 256) (code : ℕ) (e : code ≡ get_or goals (s.goals - 1) 0) (l : 128 ≤ code) (b : code < 160) where
  make_found : Found tokens counts goals values words s (Make (code - 128))
  make_found =
      record {
        sight = sight_of tokens words values s;
        looks = sight_looks tokens words values s (small_entries tokens counts goals values words s st gg);
        calls = subst (λ (c : ℕ). Calls counts (goal_of c) (sight_of tokens words values s) (Make (code - 128))) e
            (moved counts (make (code - 128)) (goal_of code) _ _ (make_goal code l b) (record { does = make_is counts _ (code - 128); slight = refl }));
        counts_small = small;
      }

  pub may_make : 0 < s.left → Makeable words values s.values s.left (code - 128)
  may_make h = makeable tokens counts goals values words s st gg (code - 128) make_found (λ z. omega arith)

  pub turns_made : NoneLeft words s → (words' values' : List ℕ) (r : Turn) → MadeOr words values s (code - 128) words' values' r
      → Turned tokens counts goals values words goals values' words' s r
  turns_made none words' values' (Ok s') m = turned_made tokens counts goals values words s st gg (code - 128) make_found (λ z. let h = m.0 in omega arith) words'
      values' s' m.1
  turns_made none words' values' (Err z) m =
      rw (m.1, m.2, m.3) (turned_none tokens counts goals values words s st gg (code - 128) make_found none m.0)

-- ---- a word

-- its tokens are there, and its value is none or the number 0
module _ (first second form taken value : ℕ) (f : FormOf first second form) (t : TakenBy form taken) (v : ValueOf form value) where
  pub word_taken : (1 ≤ taken) × (taken ≤ 2) × (taken ≤ 1 + (69 - second)) × (1024 - value ≤ 1024 * (1 - value)) × (value ≤ 1024)
  word_taken = choice (ℕ_discrete form 13) (ℕ_discrete form 3)
    where
      choice : Dec (form ≡ 13) → Dec (form ≡ 3)
          → (1 ≤ taken) × (taken ≤ 2) × (taken ≤ 1 + (69 - second)) × (1024 - value ≤ 1024 * (1 - value)) × (value ≤ 1024)
      choice (yes a) (yes x) = absurd (omega arith)
      choice (yes a) (no x) = let p = t.0 a in let q = v.1 x in let k = f.all_is a in (omega arith, omega arith, omega arith, omega arith, omega arith)
      choice (no a) (yes x) = let p = t.1 a in let q = v.0 x in (omega arith, omega arith, omega arith, omega arith, omega arith)
      choice (no a) (no x) = let p = t.1 a in let q = v.1 x in (omega arith, omega arith, omega arith, omega arith, omega arith)

module _ (counts : List ℕ) (s : Sight) (c form : ℕ) (l : 160 ≤ c) (b : c < 176) (h : 49 ≤ s.first) (g : s.first < 62)
    (f : FormOf s.first s.second form) where
  abbrev here : Goal
  here = operand ((c - 160) / 3) (sort_of ((c - 160) % 3))

  word_does : (taken value : ℕ) → TakenBy form taken → ValueOf form value → (m : Move) → Formed c s form taken value m → Does (step counts here) here s m
  word_does taken value t v m p = choice (ℕ_discrete form 13) (ℕ_discrete form 3) (ℕ_discrete form 12)
    where
      choice : Dec (form ≡ 13) → Dec (form ≡ 3) → Dec (form ≡ 12) → Does (step counts here) here s m
      choice (yes a) (yes x) z = absurd (omega arith)
      choice (yes a) (no x) z =
          word_all counts s c l b m h g (f.all_is a).0 (f.all_is a).1
          (subst (λ (i : ℕ). Formed c s i 2 0 m) a
          (subst (λ (i : ℕ). Formed c s form i 0 m) (t.0 a) (subst (λ (i : ℕ). Formed c s form taken i m) (v.1 x) p)))
      choice (no a) (yes x) z =
          let k = f.other_is a in
          word_new counts s c l b m h g (omega arith)
          (subst (λ (i : ℕ). Formed c s i 1 1024 m) x
          (subst (λ (i : ℕ). Formed c s form i 1024 m) (t.1 a) (subst (λ (i : ℕ). Formed c s form taken i m) (v.0 x) p)))
      choice (no a) (no x) (yes z) =
          let k = f.other_is a in
          word_notify counts s c l b m h g (omega arith) (f.notify_is z)
          (subst (λ (i : ℕ). Formed c s i 1 0 m) z
          (subst (λ (i : ℕ). Formed c s form i 0 m) (t.1 a) (subst (λ (i : ℕ). Formed c s form taken i m) (v.1 x) p)))
      choice (no a) (no x) (no z) =
          let k = f.other_is a in
          let q : form ≡ s.first - 49 = omega arith in
          word_other counts s c l b m h g (λ i. x (omega arith)) (λ i. z (omega arith))
          (subst (λ (i : ℕ). Formed c s i 1 0 m) q
          (subst (λ (i : ℕ). Formed c s form i 0 m) (t.1 a) (subst (λ (i : ℕ). Formed c s form taken i m) (v.1 x) p)))

  -- a stop, whatever its tokens and its value are
  word_stops : ((taken value : ℕ) → Formed c s form taken value (Stop 0 c)) → Does (step counts here) here s (Stop 0 c)
  word_stops p = choice (ℕ_discrete form 13) (ℕ_discrete form 3)
    where
      choice : Dec (form ≡ 13) → Dec (form ≡ 3) → Does (step counts here) here s (Stop 0 c)
      choice (yes a) (yes x) = absurd (omega arith)
      choice (yes a) (no x) = word_does 2 0 (λ z. refl, λ z. absurd (z a)) (λ z. absurd (x z), λ z. refl) (Stop 0 c) (p 2 0)
      choice (no a) (yes x) = word_does 1 1024 (λ z. absurd (a z), λ z. refl) (λ z. refl, λ z. absurd (z x)) (Stop 0 c) (p 1 1024)
      choice (no a) (no x) = word_does 1 0 (λ z. absurd (a z), λ z. refl) (λ z. absurd (x z), λ z. refl) (Stop 0 c) (p 1 0)

  pub word_loose : (k : ℕ) → k ≡ (form_at form).binding → k < (c - 160) / 3 → Calls counts here s (Stop 0 c)
  word_loose k e q =
      record {
        does = word_stops (λ taken value. record {
          does = λ gs vs n ts. form_loose c form taken value l b gs vs n ts k e q;
          slight = omega arith;
        });
        slight = omega arith;
      }

  module _ (k : ℕ) (e : k ≡ (form_at form).binding) (q : (c - 160) / 3 ≤ k) where
    pub word_misplaced : Misplaced form c true → Calls counts here s (Stop 0 c)
    word_misplaced x =
        record {
          does = word_stops (λ taken value. record {
            does = λ gs vs n ts. form_refused c form taken value l b gs vs n ts k e q x.0 x.1;
            slight = omega arith;
          });
          slight = omega arith;
        }

    pub word_goes : Misplaced form c false → (taken value digits : ℕ) → TakenBy form taken → ValueOf form value
        → PackedForm form digits × (digits < 1152921504606846976) → Calls counts here s (Go taken (c + 16) 0 digits 0 value)
    word_goes x taken value digits t v p =
        record {
          does = word_does taken value t v (Go taken (c + 16) 0 digits 0 value) (record { does = done_by (dec_lt 1 form); slight = small });
          slight = small;
        }
      where
        done_by : Dec (1 < form) → (gs : List Goal) (vs : List Value) (n : ℕ) (ts : List ℕ) → done (Go taken (c + 16) 0 digits 0 value) gs vs n ts ≡ onto gs
            (begun (form_at form) ((c - 160) / 3) (sort_of ((c - 160) % 3)) (pushed value vs) n ts (drop taken ts))
        done_by (yes z) gs vs n ts = form_term c form taken value l b gs vs n ts k e q digits p.0 z f.known
        done_by (no z) gs vs n ts = form_taken c form taken value l b gs vs n ts k e q digits p.0 (omega (arith, z)) (x (omega (arith, z)))

        small : Small s taken (c + 16) 0 digits 0 value
        small =
            let w = word_taken s.first s.second form taken value f t v in
            let y = p.1 in
            record {
              taken_few = omega arith;
              to_first = omega arith;
              to_second = omega arith;
              to_third = omega arith;
              kept_taken = omega arith;
              next_taken = omega arith;
              goals_taken = omega arith;
              kept_small = omega arith;
              next_small = omega arith;
              goals_small = omega arith;
              popped_small = omega arith;
              value_large = omega arith;
              value_small = omega arith;
            }

pub misplaced_is : (form code : ℕ) → form ≤ 1 → Misplaced form code (eqb ((code - 160) % 3) 1)
misplaced_is form code h = choice (ℕ_discrete ((code - 160) % 3) 1)
  where
    choice : Dec ((code - 160) % 3 ≡ 1) → Misplaced form code (eqb ((code - 160) % 3) 1)
    choice (yes e) = rw (eq-eqb ((code - 160) % 3) 1 e) (h, e)
    choice (no d) = rw (ne_eqb ((code - 160) % 3) 1 d) (λ a. d)
