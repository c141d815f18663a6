-- The code's key sets, for inner contracts: the set that four words stand for, and the exact result of each method. No reader of the entries' promises
-- needs them. Assumes nothing.
use Rattle.std.specs.Prelude.{ℕ, ◌+◌, ◌*◌, ◌/◌, ◌%◌, ◌^◌, ◌≡◌, Bool, ◌&&◌, not, List, [], ◌∷◌, eqb, get_or, set}
use Rattle.run_keys.specs.declared.KeySet.{KeySet}
use Rattle.run_keys.specs.declared.Joined.{Joined}
use Rattle.run_keys.specs.Keys.{Keys, singleton, holds, union, count_below, count_new}

-- the set that the words stand for: key k is bit k % 64 of word k / 64
unfoldable pub keys_of : KeySet → Keys
keys_of s = ((s.w3 * 2 ^ 64 + s.w2) * 2 ^ 64 + s.w1) * 2 ^ 64 + s.w0

-- ---- the exact result of each method

abbrev pub empty_set : KeySet
empty_set = record { w0 = 0; w1 = 0; w2 = 0; w3 = 0 }

abbrev pub zero_set : KeySet
zero_set = record { w0 = 1; w1 = 0; w2 = 0; w3 = 0 }

-- the four words in order, and back
abbrev pub words : KeySet → List ℕ
words s = s.w0 ∷ s.w1 ∷ s.w2 ∷ s.w3 ∷ []

abbrev pub of_words : List ℕ → KeySet
of_words l = record { w0 = get_or l 0 0; w1 = get_or l 1 0; w2 = get_or l 2 0; w3 = get_or l 3 0 }

-- the word that has key k, itself a set of keys 0 to 63
abbrev pub word_of : KeySet → ℕ → Keys
word_of s k = get_or (words s) (k / 64) 0

unfoldable pub holds_of : KeySet → ℕ → Bool
unfolding holds
holds_of s k = holds (word_of s k) (k % 64)

unfoldable pub learn_of : KeySet → ℕ → KeySet
unfolding union
learn_of s k = of_words (set (words s) (k / 64) (union (word_of s k) (singleton (k % 64))))

unfoldable pub join_of : KeySet → KeySet → KeySet
unfolding union
join_of s t =
    record { w0 = union s.w0 t.w0; w1 = union s.w1 t.w1; w2 = union s.w2 t.w2; w3 = union s.w3 t.w3 }

-- how many keys of one word are new to another
unfoldable pub new_in : ℕ → ℕ → ℕ
unfolding count_below
new_in w v = count_below (λ k. holds w k && not (holds v k)) 64

unfoldable pub new_of : KeySet → KeySet → ℕ
unfolding new_in
new_of s t = new_in t.w0 s.w0 + new_in t.w1 s.w1 + new_in t.w2 s.w2 + new_in t.w3 s.w3

abbrev pub joined_of : KeySet → KeySet → Joined
joined_of s t = record { keys = join_of s t; new = new_of s t }

unfoldable pub is_empty_of : KeySet → Bool
is_empty_of s = eqb s.w0 0 && (eqb s.w1 0 && (eqb s.w2 0 && eqb s.w3 0))

-- ---- what a method answers: the exact result, and its meaning as sets

pub record Made (r s : KeySet) (K : Keys) : Type 0 where
  pub exact : r ≡ s
  pub keys : keys_of r ≡ K

pub record Joins (r : Joined) (s t : KeySet) : Type 0 where
  pub exact : r ≡ joined_of s t
  pub keys : keys_of r.keys ≡ union (keys_of s) (keys_of t)
  pub new : r.new ≡ count_new (keys_of t) (keys_of s)

pub record Told (r b h : Bool) : Type 0 where
  pub exact : r ≡ b
  pub keys : r ≡ h
