-- The numbers of places where each has its own, and where those that are kept count. Assumes nothing.
use Prim.Native.Nat.{ℕ, zero, suc, ◌+◌, ◌<◌, ◌≤◌}
use native.Mathlib.Omega.{arith}
use mathlib.Core.Path.{◌≡◌, refl, sym, ap, subst}
use mathlib.Core.List.{List}
use Rattle.std.proofs.Common.{Result, Ok}
use lib.ListN.{length, get_or}
use borrow.Author.Tests.{lt-ltb, le-ltb}
use Rattle.log_places.specs.declared.places.NoneLeft.{NoneLeft}
use Rattle.log_places.specs.Inner.Places.{numbers_from, numbers_of, given_of, Numbered, known}

-- numbers in a row: how many, each below their end, and none past it
pub from_long : (first n : ℕ) → length (numbers_from first n) ≡ n
unfolding numbers_from
from_long first zero = refl
from_long first (suc n) = ap suc (from_long (suc first) n)

pub from_at : (first n p : ℕ) → p < n → get_or (numbers_from first n) p 0 ≡ first + p
unfolding numbers_from
from_at first zero p h = absurd (omega arith)
from_at first (suc n) zero h = omega arith
from_at first (suc n) (suc p) h = omega (arith, from_at (suc first) n p (omega arith))

pub from_past : (first n p : ℕ) → n ≤ p → get_or (numbers_from first n) p 0 ≡ 0
unfolding numbers_from
from_past first zero p h = refl
from_past first (suc n) zero h = absurd (omega arith)
from_past first (suc n) (suc p) h = from_past (suc first) n p (omega arith)

-- a place has its own number
pub own_number : (N : List ℕ) (given p most : ℕ) → p < 1024 → 255 < most → Numbered (numbers_of most N) (given_of most given) p most (numbers_of most N)
    (given_of most given) (Ok (p + 1))
own_number N given p most h k =
    let e : get_or (numbers_from 1 1024) p 0 ≡ p + 1 = omega (arith, from_at 1 1024 p h) in
    rw (lt-ltb 255 most k)
    (subst (λ (n : ℕ). Numbered (numbers_from 1 1024) 1024 p most (numbers_from 1 1024) 1024 (Ok n)) e (known (omega (arith, e))))

-- a number that is kept
pub known_as : {N : List ℕ} {given p most n : ℕ} → n ≡ get_or N p 0 → 0 < n → Numbered N given p most N given (Ok n)
known_as {N} {given} {p} {most} e h = subst (λ (n : ℕ). Numbered N given p most N given (Ok n)) (sym e) (known (omega arith))

-- those that are kept count
pub kept_number : {N N' : List ℕ} {given given' p most : ℕ} {number : Result ℕ NoneLeft} → most ≤ 255 → Numbered N given p most N' given' number
    → Numbered (numbers_of most N) (given_of most given) p most (numbers_of most N') (given_of most given') number
kept_number {most = most} h P = rw (le-ltb 255 most h) P
