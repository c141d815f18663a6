-- What is left to write of a tree, as numbers on a stack. No reader of the entry's promise needs it. Assumes nothing.
use Rattle.std.specs.Prelude.{ℕ, zero, suc, ◌+◌, ◌-◌, ◌*◌, ◌/◌, ◌%◌, ◌^◌, ◌≤◌, ◌<◌, ◌≡◌, Bool, cond, ◌&&◌, List, [], ◌∷◌, ◌++◌, eqb, ltb, leb, length, get_or}
use Rattle.plan_packed.specs.Format.{fields_from}
use Rattle.plan_packed.specs.Inner.Operands.{slot_bits, field_bits, procedure_bits}
use Rattle.plan_packed.specs.Inner.Steps.{Ordered, tree_in, condition_in, list_in}
use Rattle.plan_notation.specs.Tokens.{in_word, then_word, else_word, do_word, all_word, and_word, true_word, not_word, null_word, new_word, let_word, if_word, while_word}
use Rattle.plan_notation.specs.Tokens.{call_word, fork_word, join_word, synch_word, wait_word, notify_word, opening, closing, comma, dot, equals, becomes, dash}
use Rattle.text.specs.Inner.Wrote.{Wrote}
use Rattle.plan_notation.specs.Shown.{loose, testing, prefix, tight, shown, shownᶜ, shownᵃ, shown_further}
use Rattle.plan_token_writer.specs.declared.Standing.{Standing}

-- ---- items

-- a token
abbrev pub token : ℕ → ℕ
token t = 16384 + t

-- the tree at a term, in a context: 0 to 3 an expression and 4 to 7 a condition at a place that asks for so much, 8 a call's arguments, 9 those behind one
abbrev pub child : ℕ → ℕ → ℕ
child c t = c * 1024 + t

-- the contexts
abbrev pub as_condition : ℕ → ℕ
as_condition d = 4 + d

abbrev pub as_arguments : ℕ
as_arguments = 8

abbrev pub as_further : ℕ
as_further = 9

-- the tokens of the tree at term t in a context
unfoldable pub shown_as : List ℕ → ℕ → ℕ → List ℕ
unfolding shown tree_in condition_in list_in
shown_as words c t =
    cond (ltb c 4) (shown c (tree_in words t))
    (cond (ltb c 8) (shownᶜ (c - 4) (condition_in words t)) (cond (eqb c 8) (shownᵃ (list_in words t)) (shown_further (list_in words t))))

-- the tokens of an item
unfoldable pub item_tokens : List ℕ → ℕ → List ℕ
unfolding shown_as
item_tokens words i = cond (leb 16384 i) (i % 256 ∷ []) (shown_as words (i / 1024) (i % 1024))

-- of items one after the other
unfoldable pub tokens_in : List ℕ → List ℕ → List ℕ
unfolding item_tokens
tokens_in words [] = []
tokens_in words (i ∷ is) = item_tokens words i ++ tokens_in words is

-- ---- rows

-- an item of a row before its term is known: a token; a slot, a binder, a field or a procedure's number; or a child in a context, by which operand it is
abbrev pub slot_item : ℕ
slot_item = 70

abbrev pub binder_item : ℕ
binder_item = 71

abbrev pub field_item : ℕ
field_item = 72

abbrev pub procedure_item : ℕ
procedure_item = 73

abbrev pub child_item : ℕ → ℕ → ℕ
child_item k c = 128 + 16 * k + c

-- how many bits stand behind the operands that are terms, by number: the first, second and third, both of a let, a write's second, a call's list
unfoldable pub bits_behind : ℕ → ℕ
bits_behind k = get_or (25 ∷ 15 ∷ 5 ∷ 21 ∷ 11 ∷ 10 ∷ 20 ∷ []) k 0

-- the operands that are terms, by number
unfoldable pub operand_by : ℕ → ℕ → ℕ
unfolding bits_behind
operand_by k w = w / 2 ^ bits_behind k % 1024

-- the slot of a let, or none
unfoldable pub binder_on : ℕ → ℕ
binder_on x = cond (eqb x 15) (token dash) (token x)

-- the item of a term with these 40 bits
unfoldable pub item_of : ℕ → ℕ → ℕ
unfolding operand_by binder_on
item_of w i =
    cond (ltb i slot_item) (token i)
    (cond (eqb i slot_item) (token (32 + slot_bits w))
    (cond (eqb i binder_item) (binder_on (slot_bits w))
    (cond (eqb i field_item) (token (field_bits w))
    (cond (eqb i procedure_item) (token (procedure_bits w)) (child (i % 16) (operand_by (i / 16 % 8) w))))))

-- a row of eight numbers: how tightly the term binds, how many items it has, and these
abbrev pub row : ℕ → ℕ → ℕ → ℕ → ℕ → ℕ → ℕ → ℕ → List ℕ
row l n a b c d e f = l ∷ n ∷ a ∷ b ∷ c ∷ d ∷ e ∷ f ∷ []

-- expressions by their tags, a condition or a list in place of one among them; conditions; a call's arguments; those behind one; the end of both
unfoldable pub item_rows : List (List ℕ)
item_rows =
    row tight 1 null_word 3 4 5 6 7
    ∷ row tight 1 slot_item 3 4 5 6 7
    ∷ row tight 1 null_word 3 4 5 6 7  -- new, which is written at once
    ∷ row tight 3 (child_item 0 tight) dot field_item 5 6 7
    ∷ row loose 5 (child_item 0 tight) dot field_item becomes (child_item 5 loose) 7
    ∷ row loose 6 let_word binder_item equals (child_item 3 loose) in_word (child_item 4 loose)
    ∷ row loose 6 if_word (child_item 0 (as_condition loose)) then_word (child_item 1 loose) else_word (child_item 2 loose)
    ∷ row loose 4 while_word (child_item 0 (as_condition loose)) do_word (child_item 1 loose) 6 7
    ∷ row tight 4 call_word procedure_item opening (child_item 6 as_arguments) 6 7
    ∷ row prefix 2 fork_word (child_item 0 prefix) 4 5 6 7
    ∷ row prefix 2 join_word (child_item 0 prefix) 4 5 6 7
    ∷ row loose 4 synch_word (child_item 0 loose) do_word (child_item 1 loose) 6 7
    ∷ row tight 1 null_word 3 4 5 6 7
    ∷ row tight 1 null_word 3 4 5 6 7
    ∷ row tight 1 null_word 3 4 5 6 7
    ∷ row tight 1 null_word 3 4 5 6 7
    ∷ row tight 1 null_word 3 4 5 6 7
    ∷ row tight 1 null_word 3 4 5 6 7
    ∷ row prefix 2 wait_word (child_item 0 prefix) 4 5 6 7
    ∷ row prefix 2 notify_word (child_item 0 prefix) 4 5 6 7
    ∷ row prefix 3 notify_word all_word (child_item 0 prefix) 5 6 7
    ∷ row tight 1 true_word 3 4 5 6 7
    ∷ row testing 2 not_word (child_item 0 (as_condition testing)) 4 5 6 7
    ∷ row loose 3 (child_item 0 (as_condition testing)) and_word (child_item 1 (as_condition loose)) 5 6 7
    ∷ row testing 3 (child_item 0 prefix) equals (child_item 1 prefix) 5 6 7
    ∷ row tight 2 (child_item 0 loose) (child_item 1 as_further) 4 5 6 7
    ∷ row tight 3 comma (child_item 0 loose) (child_item 1 as_further) 5 6 7
    ∷ row tight 1 closing 3 4 5 6 7
    ∷ []

-- the row of a condition
unfoldable pub condition_row : ℕ → ℕ
condition_row k = cond (ltb 12 k && ltb k 16) (9 + k) 21

-- the row of a tag in a context
unfoldable pub row_as : ℕ → ℕ → ℕ
unfolding condition_row
row_as c k = cond (ltb c 4) (cond (ltb k 21) k 0) (cond (ltb c 8) (condition_row k) (cond (eqb k 16) (cond (eqb c as_arguments) 25 26) 27))

-- a number of a row
unfoldable pub row_number : ℕ → ℕ → ℕ
unfolding item_rows
row_number r i = get_or (get_or item_rows r []) i 0

-- n items of row r from its number i on, of a term with these 40 bits
unfoldable pub items_from : ℕ → ℕ → ℕ → ℕ → List ℕ
unfolding item_of row_number
items_from w r i zero = []
items_from w r i (suc n) = item_of w (row_number r i) ∷ items_from w r (suc i) n

-- all its items, in parentheses where the place asks for d and the term binds less tightly
unfoldable pub row_items : ℕ → ℕ → ℕ → List ℕ
unfolding items_from row_number
row_items d w r =
    let is = items_from w r 2 (row_number r 1) in cond (ltb (row_number r 0) d) (token opening ∷ is ++ (token closing ∷ [])) is

-- `new(1 2)`
unfoldable pub new_tokens : ℕ → List ℕ
unfolding fields_from
new_tokens m = new_word ∷ opening ∷ fields_from m 0 32 ++ (closing ∷ [])

-- a `new` in an expression's context
unfoldable pub is_new : ℕ → ℕ → Bool
is_new c k = ltb c 4 && eqb k 2

-- ---- the stack

-- the first n items of an array as a stack, the last one on top
unfoldable pub stack_of : List ℕ → ℕ → List ℕ
stack_of a zero = []
stack_of a (suc n) = get_or a n 0 ∷ stack_of a n

-- each tree is in one of the ten contexts
abbrev pub InContext : List ℕ → Type 0
InContext [] = Unit {0}
InContext (i ∷ is) = (i < 16384 → i / 1024 < 10) × InContext is

-- these items were put on the first n of an array, which are now r
pub record Pushed (before : List ℕ) (n : ℕ) (is after : List ℕ) (r : ℕ) : Type 0 where
  pub top : r ≡ n + length is
  pub kept : length after ≡ length before
  pub items : stack_of after r ≡ is ++ stack_of before n

-- how much is left to do: by the tokens that are left, and the term on top
unfoldable pub key_of : List ℕ → ℕ
key_of [] = 0
key_of (i ∷ is) = cond (leb 16384 i) 0 (1024 - i % 1024)

unfoldable pub weight : List ℕ → List ℕ → ℕ
unfolding tokens_in key_of
weight words is = 1025 * length (tokens_in words is) + key_of is

-- what a step is given
pub record Running (words stack : List ℕ) (top : ℕ) (area : List ℕ) (at : ℕ) : Type 0 where
  pub ordered : Ordered words
  pub some : 0 < top
  pub size : length area + 8 ≤ length stack
  pub contexts : InContext (stack_of stack top)
  pub room : at + length (tokens_in words (stack_of stack top)) ≤ length area

-- a step: some tokens are written, the others are still on the stack, and less is left to do
pub record Stepped (words area : List ℕ) (at : ℕ) (stack : List ℕ) (top : ℕ) (area' stack' : List ℕ) (r : Standing) : Type 0 where
  pub tokens : List ℕ
  pub wrote : Wrote area at tokens area' r.at
  pub left : tokens ++ tokens_in words (stack_of stack' r.top) ≡ tokens_in words (stack_of stack top)
  pub contexts : InContext (stack_of stack' r.top)
  pub kept : length stack' ≡ length stack
  pub less : weight words (stack_of stack' r.top) < weight words (stack_of stack top)
