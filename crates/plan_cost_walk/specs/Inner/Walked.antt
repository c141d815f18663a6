-- What the walk comes to, part after part. No reader of the entry's promise needs it. Assumes nothing.
use Rattle.std.specs.Prelude.{ℕ, ◌+◌, min, max, Bool, true, false, List, get_or}
use Rattle.std.specs.Int.Bits.{bit_or}
use Rattle.plan_packed.specs.Syntax.{Signal, Expression, Condition, Arguments}

-- moves, no further than 65,536
abbrev pub capped : ℕ → ℕ
capped n = min n 65536

-- so many moves more, where moves are counted
abbrev pub more : Bool → ℕ → ℕ → ℕ
more true n k = capped (n + k)
more false n k = n

-- a call of a procedure: what its body costs is added, or its bit is set
abbrev pub called : Bool → ℕ → ℕ → ℕ
called true n v = capped (n + v)
called false n v = bit_or n v

-- the dearer of two branches, or the calls of both
abbrev pub branches : Bool → ℕ → ℕ → ℕ
branches true n m = max n m
branches false n m = bit_or n m

-- the entry of a procedure in a table
abbrev pub entry_of : List ℕ → ℕ → ℕ
entry_of table q = get_or table q 0

-- once, or twice for a wait
abbrev pub signalled : Signal → Bool → ℕ → ℕ
signalled Signal.wait b n = more b (more b n 1) 1
signalled Signal.notify b n = more b n 1
signalled Signal.notify_all b n = more b n 1

-- what the earlier parts came to, and then this part
unfoldable mutual
  pub walked : Bool → (ℕ → ℕ) → ℕ → Expression → ℕ
  walked b T n (Expression.literal o) = n
  walked b T n (Expression.variable x) = n
  walked b T n (Expression.new fs) = more b n 1
  walked b T n (Expression.read e f) = walked b T (more b n 1) e
  walked b T n (Expression.write e f e') = walked b T (walked b T (more b n 1) e) e'
  walked b T n (Expression.let_in x e e') = walked b T (walked b T (more b n 1) e) e'
  walked b T n (Expression.if c e e') = branches b (walked b T (walkedᶜ b T (more b n 1) c) e) (walked b T (walkedᶜ b T (more b n 1) c) e')
  walked b T n (Expression.while c e) = walked b T (walkedᶜ b T (more b n 1) c) e
  walked b T n (Expression.call m es) = called b (walkedᵃ b T (more b n 1) es) (T m)
  walked b T n (Expression.fork e) = walked b T (more b n 1) e
  walked b T n (Expression.join e) = walked b T (more b n 1) e
  walked b T n (Expression.synch e e') = walked b T (walked b T (more b (more b n 1) 1) e) e'
  walked b T n (Expression.hold o e) = walked b T (more b n 1) e
  walked b T n (Expression.signal k e) = walked b T (signalled k b n) e
  walked b T n (Expression.waiting o) = more b n 1

  pub walkedᶜ : Bool → (ℕ → ℕ) → ℕ → Condition → ℕ
  walkedᶜ b T n Condition.truth = n
  walkedᶜ b T n (Condition.not c) = walkedᶜ b T (more b n 1) c
  walkedᶜ b T n (Condition.and c c') = walkedᶜ b T (walkedᶜ b T (more b n 1) c) c'
  walkedᶜ b T n (Condition.equal e e') = walked b T (walked b T (more b n 1) e) e'

  pub walkedᵃ : Bool → (ℕ → ℕ) → ℕ → Arguments → ℕ
  walkedᵃ b T n Arguments.end = n
  walkedᵃ b T n (Arguments.argument e es) = walkedᵃ b T (walked b T n e) es

-- two expressions, one after the other
abbrev pub in_turn : Bool → (ℕ → ℕ) → ℕ → Expression → Expression → ℕ
in_turn b T n e e' = walked b T (walked b T n e) e'

-- one of two expressions
abbrev pub either : Bool → (ℕ → ℕ) → ℕ → Expression → Expression → ℕ
either b T n e e' = branches b (walked b T n e) (walked b T n e')
