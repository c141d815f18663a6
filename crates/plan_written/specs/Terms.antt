-- The terms of a tree in the order in which they are written (document 02, E5). Assumes nothing.
use Rattle.std.specs.Prelude.{ℕ, suc, ◌+◌, ◌*◌, ◌-◌, ◌^◌, List, [], ◌∷◌, ◌++◌}
use Rattle.std.proofs.Math.Option.{Option, some, none}
use Rattle.plan_packed.specs.Syntax.{Signal, Expression, Condition, Arguments}
use Rattle.plan_packed.specs.Format.{width, Row, layout}

-- ---- a tree by document 01's table: whatever its sort, a tag with its operands

mutual
  -- a term with all that is below it: its tag, and its operands in the three places of the tag's row
  pub data TermTree : Type 0 where
    term : ℕ → Part → Part → Part → TermTree

  -- an operand: a value, or a child
  pub data Part : Type 0 where
    value : ℕ → Part
    child : TermTree → Part

-- a place without an operand: 0, in no bits
abbrev pub nothing : Part
nothing = value 0

-- "32-bit field mask, top bit field 0"
unfoldable pub mask_of : List ℕ → ℕ
mask_of [] = 0
mask_of (f ∷ fs) = 2 ^ (31 - f) + mask_of fs

-- "slot 0 to 7, or 15 binds nothing"
unfoldable pub slot_of : Option ℕ → ℕ
slot_of (some x) = x
slot_of none = 15

-- "tag 18 wait, 19 notify, 20 notify all"
unfoldable pub signal_tag : Signal → ℕ
signal_tag Signal.wait = 18
signal_tag Signal.notify = 19
signal_tag Signal.notify_all = 20

-- "| tag | term | operands |"; `hold` and `waiting`, which are in execution only, are read as null
unfoldable mutual
  unfolding mask_of slot_of signal_tag

  pub terms_of : Expression → TermTree
  terms_of (Expression.literal o) = term 0 nothing nothing nothing
  terms_of (Expression.variable x) = term 1 (value x) nothing nothing
  terms_of (Expression.new fs) = term 2 (value (mask_of fs)) nothing nothing
  terms_of (Expression.read e f) = term 3 (child (terms_of e)) (value f) nothing
  terms_of (Expression.write e f e') = term 4 (child (terms_of e)) (value f) (child (terms_of e'))
  terms_of (Expression.let_in x e e') = term 5 (value (slot_of x)) (child (terms_of e)) (child (terms_of e'))
  terms_of (Expression.if c e e') = term 6 (child (terms_ofᶜ c)) (child (terms_of e)) (child (terms_of e'))
  terms_of (Expression.while c e) = term 7 (child (terms_ofᶜ c)) (child (terms_of e)) nothing
  terms_of (Expression.call m es) = term 8 (value m) (child (terms_ofᵃ es)) nothing
  terms_of (Expression.fork e) = term 9 (child (terms_of e)) nothing nothing
  terms_of (Expression.join e) = term 10 (child (terms_of e)) nothing nothing
  terms_of (Expression.synch e e') = term 11 (child (terms_of e)) (child (terms_of e')) nothing
  terms_of (Expression.hold o e) = term 0 nothing nothing nothing
  terms_of (Expression.signal k e) = term (signal_tag k) (child (terms_of e)) nothing nothing
  terms_of (Expression.waiting o) = term 0 nothing nothing nothing

  pub terms_ofᶜ : Condition → TermTree
  terms_ofᶜ Condition.truth = term 12 nothing nothing nothing
  terms_ofᶜ (Condition.not c) = term 13 (child (terms_ofᶜ c)) nothing nothing
  terms_ofᶜ (Condition.and c c') = term 14 (child (terms_ofᶜ c)) (child (terms_ofᶜ c')) nothing
  terms_ofᶜ (Condition.equal e e') = term 15 (child (terms_of e)) (child (terms_of e')) nothing

  pub terms_ofᵃ : Arguments → TermTree
  terms_ofᵃ (Arguments.argument e es) = term 16 (child (terms_of e)) (child (terms_ofᵃ es)) nothing
  terms_ofᵃ Arguments.end = term 17 nothing nothing nothing

-- ---- "each root first and then its children left to right, each child followed by all that is below it before the next"

-- how many terms a tree has, and how many an operand brings
unfoldable mutual
  pub size : TermTree → ℕ
  size (term k p q r) = suc (size_of p + size_of q + size_of r)

  pub size_of : Part → ℕ
  size_of (value v) = 0
  size_of (child e) = size e

-- an operand's value, where the next term has number n
unfoldable pub value_at : ℕ → Part → ℕ
value_at n (value v) = v
value_at n (child e) = n

-- "Term, 40 bits: tag 5, operands in the order below, spare bits. All spare bits are zero.": a tag and its operands, by the tag's row
unfoldable pub word_by : Row → ℕ → ℕ → ℕ → ℕ → ℕ
word_by r k x y z =
    (((k * 2 ^ width r.first + x) * 2 ^ width r.second + y) * 2 ^ width r.third + z)
    * 2 ^ (35 - (width r.first + width r.second + width r.third))

-- the same by the table: "| tag | term | operands |"
unfoldable pub word_of : ℕ → ℕ → ℕ → ℕ → ℕ
unfolding word_by layout
word_of k x y z = word_by (layout k) k x y z

-- the terms of a tree, 40 bits each, where its root has number n
unfoldable mutual
  unfolding size value_at word_of

  pub words_from : ℕ → TermTree → List ℕ
  words_from n (term k p q r) =
      let second = suc n + size_of p in
      let third = second + size_of q in
      word_of k (value_at (suc n) p) (value_at second q) (value_at third r) ∷ words_below (suc n) p ++ words_below second q ++ words_below third r

  pub words_below : ℕ → Part → List ℕ
  words_below n (value v) = []
  words_below n (child e) = words_from n e
