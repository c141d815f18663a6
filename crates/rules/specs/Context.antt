-- Evaluation contexts (document 001, figure 7), the part of an expression that moves next, depth. A superscript c or a marks the same thing for
-- conditions or for a call's list. Assumes nothing.
use Rattle.std.specs.Prelude.{ℕ, suc, Bool, true, false, List, [], ◌∷◌, ◌++◌}
use Rattle.std.proofs.Math.Option.{Option, some, none}
use Rattle.plan_packed.specs.Syntax.{Signal, Expression, Condition, Arguments, literal, end, argument, bool}

-- T[•], from the hole outwards: `read K f` is the context T[•.f] where K is T[•]. "Operands are evaluated left to right."; "The source's list of
-- contexts leaves out the operand of `join`; it is evaluated first, as elsewhere."
mutual
  -- the hole is an expression
  pub data Context : Type 0 where
    top : Context  -- •
    read : Context → ℕ → Context  -- •.f
    write₁ : Context → ℕ → Expression → Context  -- •.f := e
    write₂ : Context → ℕ → ℕ → Context  -- o.f := •
    call : Context → ℕ → List ℕ → Arguments → Context  -- m(ō, •, ē)
    let_in : Context → Option ℕ → Expression → Context  -- let x = • in e
    synch : Context → Expression → Context  -- synch • do e
    hold : Context → ℕ → Context  -- hold o do •
    join : Context → Context  -- join •
    signal : Context → Signal → Context  -- wait •, notify •, notify all •
    equal₁ : Contextᶜ → Expression → Context  -- • == e
    equal₂ : Contextᶜ → ℕ → Context  -- o == •

  -- the hole is a condition
  pub data Contextᶜ : Type 0 where
    if : Context → Expression → Expression → Contextᶜ  -- if • then e else e
    and : Contextᶜ → Condition → Contextᶜ  -- • and c
    not : Contextᶜ → Contextᶜ  -- not •

-- ō, ē
unfoldable pub literals : List ℕ → Arguments → Arguments
literals [] es = es
literals (o ∷ os) es = argument (literal o) (literals os es)

-- T[t]
unfoldable mutual
  unfolding literals

  pub plug : Context → Expression → Expression
  plug top e = e
  plug (read K f) e = plug K (Expression.read e f)
  plug (write₁ K f e') e = plug K (Expression.write e f e')
  plug (write₂ K o f) e = plug K (Expression.write (literal o) f e)
  plug (call K m os es) e = plug K (Expression.call m (literals os (argument e es)))
  plug (let_in K x e') e = plug K (Expression.let_in x e e')
  plug (synch K e') e = plug K (Expression.synch e e')
  plug (hold K o) e = plug K (Expression.hold o e)
  plug (join K) e = plug K (Expression.join e)
  plug (signal K k) e = plug K (Expression.signal k e)
  plug (equal₁ K e') e = plugᶜ K (Condition.equal e e')
  plug (equal₂ K o) e = plugᶜ K (Condition.equal (literal o) e)

  pub plugᶜ : Contextᶜ → Condition → Expression
  plugᶜ (if K e e') c = plug K (Expression.if c e e')
  plugᶜ (and K c') c = plugᶜ K (Condition.and c c')
  plugᶜ (not K) c = plugᶜ K (Condition.not c)

-- the number of constructs around the hole, "a call with its whole list being one"
unfoldable mutual
  pub depth : Context → ℕ
  depth top = 0
  depth (read K f) = suc (depth K)
  depth (write₁ K f e') = suc (depth K)
  depth (write₂ K o f) = suc (depth K)
  depth (call K m os es) = suc (depth K)
  depth (let_in K x e') = suc (depth K)
  depth (synch K e') = suc (depth K)
  depth (hold K o) = suc (depth K)
  depth (join K) = suc (depth K)
  depth (signal K k) = suc (depth K)
  depth (equal₁ K e') = suc (depthᶜ K)
  depth (equal₂ K o) = suc (depthᶜ K)

  pub depthᶜ : Contextᶜ → ℕ
  depthᶜ (if K e e') = suc (depth K)
  depthᶜ (and K c') = suc (depthᶜ K)
  depthᶜ (not K) = suc (depthᶜ K)

-- ---- the part that moves next

-- an expression whose operands are values: the left side of a rule, or a variable, which no rule moves
pub data Redex : Type 0 where
  variable : ℕ → Redex
  new : List ℕ → Redex
  read : ℕ → ℕ → Redex
  write : ℕ → ℕ → ℕ → Redex
  let_in : Option ℕ → ℕ → Expression → Redex
  if : Bool → Expression → Expression → Redex
  while : Condition → Expression → Redex
  call : ℕ → List ℕ → Redex
  fork : Expression → Redex  -- "`fork e` does not evaluate e; the new thread does."
  join : ℕ → Redex
  synch : ℕ → Expression → Redex
  hold : ℕ → ℕ → Redex
  signal : Signal → ℕ → Redex
  waiting : ℕ → Redex

-- a condition whose operands are values. "`not true` is the value false, so it needs no move."
pub data Redexᶜ : Type 0 where
  not_false : Redexᶜ
  and : Bool → Condition → Redexᶜ
  equal : ℕ → ℕ → Redexᶜ

-- the expression that a redex is
unfoldable pub redex_expression : Redex → Expression
unfolding literals bool
redex_expression (variable x) = Expression.variable x
redex_expression (new fs) = Expression.new fs
redex_expression (read o f) = Expression.read (literal o) f
redex_expression (write o f v) = Expression.write (literal o) f (literal v)
redex_expression (let_in x o e) = Expression.let_in x (literal o) e
redex_expression (if b e e') = Expression.if (bool b) e e'
redex_expression (while c e) = Expression.while c e
redex_expression (call m os) = Expression.call m (literals os end)
redex_expression (fork e) = Expression.fork e
redex_expression (join o) = Expression.join (literal o)
redex_expression (synch o e) = Expression.synch (literal o) e
redex_expression (hold o v) = Expression.hold o (literal v)
redex_expression (signal k o) = Expression.signal k (literal o)
redex_expression (waiting o) = Expression.waiting o

-- the condition that a redex is
unfoldable pub redex_condition : Redexᶜ → Condition
unfolding bool
redex_condition not_false = Condition.not (bool false)
redex_condition (and b c) = Condition.and (bool b) c
redex_condition (equal o o') = Condition.equal (literal o) (literal o')

-- the value that an expression is
unfoldable pub as_literal : Expression → Option ℕ
as_literal (Expression.literal o) = some o
as_literal (Expression.variable x) = none
as_literal (Expression.new fs) = none
as_literal (Expression.read e f) = none
as_literal (Expression.write e f e') = none
as_literal (Expression.let_in x e e') = none
as_literal (Expression.if c e e') = none
as_literal (Expression.while c e) = none
as_literal (Expression.call m es) = none
as_literal (Expression.fork e) = none
as_literal (Expression.join e) = none
as_literal (Expression.synch e e') = none
as_literal (Expression.hold o e) = none
as_literal (Expression.signal k e) = none
as_literal (Expression.waiting o) = none

-- the condition is `true`
unfoldable pub is_truth : Condition → Bool
is_truth Condition.truth = true
is_truth (Condition.not c) = false
is_truth (Condition.and c c') = false
is_truth (Condition.equal e e') = false

-- "`not true` is the value false": what `not` is of a condition that is `true`, or is not
unfoldable pub false_when : Bool → Option Bool
false_when true = some false
false_when false = none

-- the value that a condition is: true, or `not true`
unfoldable pub as_bool : Condition → Option Bool
unfolding is_truth false_when
as_bool Condition.truth = some true
as_bool (Condition.not c) = false_when (is_truth c)
as_bool (Condition.and c c') = none
as_bool (Condition.equal e e') = none

-- where an expression moves next: it is a value, or a redex in a context
pub data Focus : Type 0 where
  value : ℕ → Focus
  here : Context → Redex → Focus
  hereᶜ : Contextᶜ → Redexᶜ → Focus

-- the first where the operand is a value, and else the second
abbrev pub on_literal : Option ℕ → (ℕ → Focus) → Focus → Focus
on_literal (some o) k r = k o
on_literal none k r = r

-- the same of an operand that is a condition
abbrev pub on_bool : Option Bool → (Bool → Focus) → Focus → Focus
on_bool (some b) k r = k b
on_bool none k r = r

-- `not true` is a value, and is never looked into: the answer there is of no use
abbrev pub on_not : Contextᶜ → Bool → Focus
on_not K true = value 0
on_not K false = hereᶜ K not_false

-- the part of e that moves next, where e stands in K
unfoldable mutual
  unfolding as_literal as_bool

  pub focus : Context → Expression → Focus
  focus K (Expression.literal o) = value o
  focus K (Expression.variable x) = here K (variable x)
  focus K (Expression.new fs) = here K (new fs)
  focus K (Expression.read e f) = on_literal (as_literal e) (λ o. here K (read o f)) (focus (read K f) e)
  focus K (Expression.write e f e') =
      on_literal (as_literal e) (λ o. on_literal (as_literal e') (λ v. here K (write o f v)) (focus (write₂ K o f) e')) (focus (write₁ K f e') e)
  focus K (Expression.let_in x e e') = on_literal (as_literal e) (λ o. here K (let_in x o e')) (focus (let_in K x e') e)
  focus K (Expression.if c e e') = on_bool (as_bool c) (λ b. here K (if b e e')) (focusᶜ (if K e e') c)
  focus K (Expression.while c e) = here K (while c e)
  focus K (Expression.call m es) = focusᵃ K m [] es
  focus K (Expression.fork e) = here K (fork e)
  focus K (Expression.join e) = on_literal (as_literal e) (λ o. here K (join o)) (focus (join K) e)
  focus K (Expression.synch e e') = on_literal (as_literal e) (λ o. here K (synch o e')) (focus (synch K e') e)
  focus K (Expression.hold o e) = on_literal (as_literal e) (λ v. here K (hold o v)) (focus (hold K o) e)
  focus K (Expression.signal k e) = on_literal (as_literal e) (λ o. here K (signal k o)) (focus (signal K k) e)
  focus K (Expression.waiting o) = here K (waiting o)

  pub focusᶜ : Contextᶜ → Condition → Focus
  focusᶜ K Condition.truth = value 0  -- never asked, as in `on_not`
  focusᶜ K (Condition.not c) = on_bool (as_bool c) (λ b. on_not K b) (focusᶜ (not K) c)
  focusᶜ K (Condition.and c c') = on_bool (as_bool c) (λ b. hereᶜ K (and b c')) (focusᶜ (and K c') c)
  focusᶜ K (Condition.equal e e') =
      on_literal (as_literal e) (λ o. on_literal (as_literal e') (λ o'. hereᶜ K (equal o o')) (focus (equal₂ K o) e')) (focus (equal₁ K e') e)

  -- the arguments that are left of a call of m, whose earlier ones are the values os
  pub focusᵃ : Context → ℕ → List ℕ → Arguments → Focus
  focusᵃ K m os Arguments.end = here K (call m os)
  focusᵃ K m os (Arguments.argument e es) = on_literal (as_literal e) (λ o. focusᵃ K m (os ++ (o ∷ [])) es) (focus (call K m os es) e)

-- "Depth is the number of constructs around the part that moves next, [..] and 0 for a value."
unfoldable pub depth_of : Focus → ℕ
unfolding depth
depth_of (value o) = 0
depth_of (here K r) = depth K
depth_of (hereᶜ K r) = depthᶜ K

-- the depth of a whole expression
unfoldable pub expression_depth : Expression → ℕ
unfolding focus depth_of
expression_depth e = depth_of (focus top e)
