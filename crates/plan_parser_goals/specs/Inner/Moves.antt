-- What a step does with the stacks, as numbers, for inner contracts: no reader of an entry's promise needs them. Assumes nothing.
use Rattle.std.specs.Prelude.{ℕ, zero, suc, ◌+◌, ◌-◌, ◌*◌, ◌/◌, ◌%◌, ◌^◌, ◌≤◌, ◌<◌, ◌≡◌, Bool, true, false, cond, List, [], ◌∷◌, ◌++◌, eqb, get_or, drop}
use Rattle.plan_notation.specs.Tokens.{text_end}
use Rattle.plan_parsing.specs.Goals.{Goal, expect, operand, more, make, binder, fields, procedure, further, count, Value, number, of_expression, of_condition}
use Rattle.plan_parsing.specs.Goals.{of_arguments, number_in, value_at, operand_counts, made, Form, forms, notify_all_form}
use Rattle.plan_parsing.specs.Parser.{ahead, Reason, wanted, Step, go, stop, fits, begun, step}
use Rattle.plan_parser_goals.specs.Inner.Encoded.{sort_of, goal_of, reason_of, stacked, unpacked, value_sort}

-- ---- goals that have what they take

-- a value that is a term
abbrev pub IsTerm : Value → Type 0
IsTerm (number n) = ⊥
IsTerm (of_expression e) = Unit {0}
IsTerm (of_condition c) = Unit {0}
IsTerm (of_arguments es) = Unit {0}

-- a value that is a number below b
abbrev pub IsBelow : ℕ → Value → Type 0
IsBelow b (number n) = n < b
IsBelow b (of_expression e) = ⊥
IsBelow b (of_condition c) = ⊥
IsBelow b (of_arguments es) = ⊥

-- what an operand is: a term, by 0, or a number below a bound
abbrev pub IsOf : ℕ → Value → Type 0
IsOf zero v = IsTerm v
IsOf (suc b) v = IsBelow (suc b) v

-- the operands of the tags, the last first
unfoldable pub operand_kinds : List (List ℕ)
operand_kinds =
    []
    ∷ (16 ∷ [])
    ∷ (4294967296 ∷ [])
    ∷ (32 ∷ 0 ∷ [])
    ∷ (0 ∷ 32 ∷ 0 ∷ [])
    ∷ (0 ∷ 0 ∷ 16 ∷ [])
    ∷ (0 ∷ 0 ∷ 0 ∷ [])
    ∷ (0 ∷ 0 ∷ [])
    ∷ (0 ∷ 32 ∷ [])
    ∷ (0 ∷ [])
    ∷ (0 ∷ [])
    ∷ (0 ∷ 0 ∷ [])
    ∷ []
    ∷ (0 ∷ [])
    ∷ (0 ∷ 0 ∷ [])
    ∷ (0 ∷ 0 ∷ [])
    ∷ (0 ∷ 0 ∷ [])
    ∷ []
    ∷ (0 ∷ [])
    ∷ (0 ∷ [])
    ∷ (0 ∷ [])
    ∷ []

-- the values that were read last are these operands
abbrev pub Operands : List ℕ → List Value → Type 0
Operands [] vs = Unit {0}
Operands (k ∷ ks) [] = ⊥
Operands (k ∷ ks) (v ∷ vs) = IsOf k v × Operands ks vs

-- a mask of fields up to f was read last
abbrev pub MaskTo : ℕ → List Value → Type 0
MaskTo f [] = ⊥
MaskTo f (v ∷ vs) = IsBelow (suc (4294967296 - 2 ^ (31 - f))) v × (f < 32)

-- the goals find what they take, where each before them leaves what it makes; at the end an expression is on a number
abbrev pub Fits : List Goal → List Value → Type 0
Fits [] vs = Operands (0 ∷ 9 ∷ []) vs
Fits (expect t ∷ gs) vs = (t < text_end) × Fits gs vs
Fits (operand d s ∷ gs) vs = (v : Value) → IsTerm v → Fits gs (v ∷ vs)
Fits (more d s ∷ gs) vs = Operands (0 ∷ []) vs × ((v : Value) → IsTerm v → Fits gs (v ∷ drop 1 vs))
Fits (make k ∷ gs) vs = (k < 21) × Operands (get_or operand_kinds k []) vs × ((v : Value) → IsTerm v → Fits gs (v ∷ drop (get_or operand_counts k 0) vs))
Fits (binder ∷ gs) vs = (n : ℕ) → n < 16 → Fits gs (number n ∷ vs)
Fits (fields k f ∷ gs) vs = MaskTo f vs × ((m : ℕ) → m < 4294967296 → Fits gs (number m ∷ drop 1 vs))
Fits (procedure ∷ gs) vs = (n : ℕ) → n < 32 → (v : Value) → IsTerm v → Fits gs (v ∷ number n ∷ vs)
Fits (further k ∷ gs) vs = (k < 256) × ((v : Value) → IsTerm v → Fits gs (v ∷ vs))
Fits (count ∷ gs) vs = (n : ℕ) → n < 9 → Fits gs (number n ∷ vs)

-- ---- what a move does

-- the next three tokens, the sort of the value that was read last, and its number
pub record Sight : Type 0 where
  pub first : ℕ
  pub second : ℕ
  pub third : ℕ
  pub sort : ℕ
  pub number : ℕ

-- some tokens are taken; goals in place of the goal, kept at the bottom, then next, then the digits of goals; a value less, and one more; or a term of a tag
-- is made of the values; or reading stops, before a token
pub data Move : Type 0 where
  Go : (taken kept next goals popped value : ℕ) → Move
  Make : (tag : ℕ) → Move
  Stop : (before reason : ℕ) → Move

-- a step, with the goals that were below
unfoldable pub onto : List Goal → Step → Step
onto gs (go gs' vs n ts) = go (gs' ++ gs) vs n ts
onto gs (stop r ts) = stop r ts

-- a number on values; 0 is none
unfoldable pub pushed : ℕ → List Value → List Value
pushed v vs = cond (eqb v 0) vs (number (v - 1024) ∷ vs)

-- what comes of a move
unfoldable pub done : Move → List Goal → List Value → ℕ → List ℕ → Step
unfolding unpacked stacked pushed reason_of made
done (Go taken kept next goals popped value) gs vs n ts = go (unpacked goals (stacked next (stacked kept gs))) (pushed value (drop popped vs)) n
    (drop taken ts)
done (Make k) gs vs n ts = cond (eqb n 0) (stop Reason.terms ts) (go gs (made k vs) (n - 1) ts)
done (Stop before reason) gs vs n ts = stop (reason_of reason) (drop before ts)

-- what a step sees: the next three tokens, the sort of the value that was read last, and its number
pub record Seen (s : Sight) (vs : List Value) (ts : List ℕ) : Type 0 where
  pub first_is : ahead ts 0 ≡ s.first
  pub second_is : ahead ts 1 ≡ s.second
  pub third_is : ahead ts 2 ≡ s.third
  pub sort_is : value_sort (value_at vs 0) ≡ s.sort
  pub number_is : number_in (value_at vs 0) ≡ s.number

-- a move is a step of goal g, whatever else there is
abbrev pub Does : (List Value → ℕ → List ℕ → Step) → Goal → Sight → Move → Type 0
Does step g s m = (gs : List Goal) (vs : List Value) (n : ℕ) (ts : List ℕ) → Fits (g ∷ gs) vs → Seen s vs ts → done m gs vs n ts ≡ onto gs (step vs n ts)

-- a move that takes tokens takes no end of the text; without a token no goal is left; its numbers are small
pub record Small (s : Sight) (taken kept next goals popped value : ℕ) : Type 0 where
  pub taken_few : taken ≤ 3
  pub to_first : taken ≤ 3 * (69 - s.first)
  pub to_second : taken ≤ 1 + 2 * (69 - s.second)
  pub to_third : taken ≤ 2 + (69 - s.third)
  pub kept_taken : kept ≤ 1024 * taken
  pub next_taken : next ≤ 1024 * taken
  pub goals_taken : goals ≤ 1152921504606846976 * taken
  pub kept_small : kept < 1024
  pub next_small : next < 1024
  pub goals_small : goals < 1152921504606846976
  pub popped_small : popped ≤ 1
  pub value_large : 1024 - value ≤ 1024 * (1 - value)
  pub value_small : value < 1024 + 4294967296

abbrev pub Slight : Goal → Sight → Move → Type 0
Slight g s (Go taken kept next goals popped value) = Small s taken kept next goals popped value
Slight g s (Make k) = g ≡ make k
Slight g s (Stop before reason) = before ≤ 1

-- the move of a goal, where procedures have so many parameters
pub record Calls (counts : List ℕ) (g : Goal) (s : Sight) (m : Move) : Type 0 where
  pub does : Does (step counts g) g s m
  pub slight : Slight g s m

-- the same, of a goal that needs no counts
abbrev pub Moves : Goal → Sight → Move → Type 0
Moves g s m = (counts : List ℕ) → Calls counts g s m

-- the number of a goal that is not the end of the text, and is no more than the greatest
abbrev pub Sound : ℕ → Type 0
Sound c = (c < 128 → c < text_end) × (c < 896)

-- ---- the forms that begin with a word, and the last, `notify all`

abbrev pub form_at : ℕ → Form
form_at i = get_or forms i notify_all_form

-- their goals as one number
abbrev pub PackedForm : ℕ → ℕ → Type 0
PackedForm i p = (gs : List Goal) → unpacked p gs ≡ (form_at i).goals ++ gs

-- the move of a form, with so many tokens and a value
pub record Formed (c : ℕ) (s : Sight) (i taken value : ℕ) (m : Move) : Type 0 where
  pub does : (gs : List Goal) (vs : List Value) (n : ℕ) (ts : List ℕ) → done m gs vs n ts ≡ onto gs
      (begun (form_at i) ((c - 160) / 3) (sort_of ((c - 160) % 3)) (pushed value vs) n ts (drop taken ts))
  pub slight : Slight (operand ((c - 160) / 3) (sort_of ((c - 160) % 3))) s m

-- nothing follows a value
pub record Ends (c : ℕ) (s : Sight) (m : Move) : Type 0 where
  pub does : (gs : List Goal) (vs : List Value) (n : ℕ) (ts : List ℕ) → Seen s vs ts
      → done m gs vs n ts ≡ onto gs (cond (fits (sort_of ((c - 176) % 3)) (value_at vs 0)) (go [] vs n ts)
      (stop (wanted (more ((c - 176) / 3) (sort_of ((c - 176) % 3)))) ts))
  pub slight : Slight (more ((c - 176) / 3) (sort_of ((c - 176) % 3))) s m
