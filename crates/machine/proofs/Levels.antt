-- One level of refocusing, made in two ways: whatever holds between what the two go on with holds between what they come to. Assumes nothing.
use Prim.Native.Nat.{ℕ, suc, ◌<◌}
use mathlib.Core.Path.{◌≡◌, refl}
use mathlib.Core.Bool.{Bool, true, false}
use mathlib.Core.List.{List, [], ◌∷◌}
use mathlib.Core.Option.{Option, some, none}
use Rattle.plan_packed.specs.Trees.{null, variable, new, read, write, let_in, if, while, call, fork, join, synch, signal, truth, not, and, equal, list, list_end}
use Rattle.plan_packed.specs.Trees.{Node, expression, condition, arguments, unknown}
use Rattle.plan_packed.specs.Inner.Steps.{NamesLater}
use Rattle.machine.specs.Inner.Frames.{Slots, no_slots, put, Closure, closure, Frame, Found}
use Rattle.machine.specs.Inner.Refocusing.{given, value_in, bool_in, found_not, down_by, down_byᶜ, down_byᵃ, up_by}

module _ (h : ℕ → Node) {R R' : Type 0} (Related : R → R' → Type 0) (found : Found → R) (found' : Found → R') (hf : (F : Found) → Related (found F) (found' F))
    (d c : List Frame → Closure → R) (l : List Frame → ℕ → ℕ → Slots → Closure → R)
    (d' c' : List Frame → Closure → R') (l' : List Frame → ℕ → ℕ → Slots → Closure → R') where
  given_related : {A : Type 0} (v : Option A) (k : A → R) (k' : A → R') (r : R) (r' : R')
      → ((o : A) → Related (k o) (k' o)) → (v ≡ none → Related r r') → Related (given v k r) (given v k' r')
  given_related (some o) k k' r r' hk hr = hk o
  given_related none k k' r r' hk hr = hr refl

  not_related : (S : List Frame) (b : Bool) → Related (found_not h found S b) (found_not h found' S b)
  not_related S true = hf _
  not_related S false = hf _

  -- down, from term t
  module _ (S : List Frame) (t : ℕ) (hd : (F : Frame) (x : Closure) → t < x.at → value_in h x ≡ none → Related (d (F ∷ S) x) (d' (F ∷ S) x))
      (hc : (F : Frame) (x : Closure) → t < x.at → bool_in h x ≡ none → Related (c (F ∷ S) x) (c' (F ∷ S) x))
      (hl : (m n : ℕ) (σ : Slots) (x : Closure) → t < x.at → Related (l S m n σ x) (l' S m n σ x)) where
    pub level : (ρ : Slots) (x : Node) → NamesLater t x → Related (down_by h found d c l ρ S x) (down_by h found' d' c' l' ρ S x)
    unfolding down_by
    level ρ (expression null) b = hf _
    level ρ (expression (variable x)) b = hf _
    level ρ (expression (new fs)) b = hf _
    level ρ (expression (read i f)) b = given_related (value_in h (closure i ρ)) _ _ _ _ (λ o. hf _) (hd _ (closure i ρ) b)
    level ρ (expression (write i f j)) b =
        given_related (value_in h (closure i ρ)) _ _ _ _
        (λ o. given_related (value_in h (closure j ρ)) _ _ _ _ (λ v. hf _) (hd _ (closure j ρ) b.1)) (hd _ (closure i ρ) b.0)
    level ρ (expression (let_in x i j)) b = given_related (value_in h (closure i ρ)) _ _ _ _ (λ o. hf _) (hd _ (closure i ρ) b.0)
    level ρ (expression (if i j k)) b = given_related (bool_in h (closure i ρ)) _ _ _ _ (λ o. hf _) (hc _ (closure i ρ) b.0)
    level ρ (expression (while i j)) b = hf _
    level ρ (expression (call m i)) b = hl m 0 no_slots (closure i ρ) b
    level ρ (expression (fork i)) b = hf _
    level ρ (expression (join i)) b = given_related (value_in h (closure i ρ)) _ _ _ _ (λ o. hf _) (hd _ (closure i ρ) b)
    level ρ (expression (signal j i)) b = given_related (value_in h (closure i ρ)) _ _ _ _ (λ o. hf _) (hd _ (closure i ρ) b)
    level ρ (expression (synch i j)) b = given_related (value_in h (closure i ρ)) _ _ _ _ (λ o. hf _) (hd _ (closure i ρ) b.0)
    level ρ (condition x) b = hf _
    level ρ (arguments x) b = hf _
    level ρ unknown b = hf _

    pub levelᶜ : (ρ : Slots) (x : Node) → NamesLater t x → Related (down_byᶜ h found d c l ρ S x) (down_byᶜ h found' d' c' l' ρ S x)
    unfolding down_byᶜ
    levelᶜ ρ (expression x) b = hf _
    levelᶜ ρ (condition truth) b = hf _
    levelᶜ ρ (condition (not i)) b = given_related (bool_in h (closure i ρ)) _ _ _ _ (λ o. not_related S o) (hc _ (closure i ρ) b)
    levelᶜ ρ (condition (and i j)) b = given_related (bool_in h (closure i ρ)) _ _ _ _ (λ o. hf _) (hc _ (closure i ρ) b.0)
    levelᶜ ρ (condition (equal i j)) b =
        given_related (value_in h (closure i ρ)) _ _ _ _
        (λ o. given_related (value_in h (closure j ρ)) _ _ _ _ (λ v. hf _) (hd _ (closure j ρ) b.1)) (hd _ (closure i ρ) b.0)
    levelᶜ ρ (arguments x) b = hf _
    levelᶜ ρ unknown b = hf _

    pub levelᵃ : (ρ : Slots) (m n : ℕ) (σ : Slots) (x : Node) → NamesLater t x → Related (down_byᵃ h found d c l ρ S m n σ x)
        (down_byᵃ h found' d' c' l' ρ S m n σ x)
    unfolding down_byᵃ
    levelᵃ ρ m n σ (expression x) b = hf _
    levelᵃ ρ m n σ (condition x) b = hf _
    levelᵃ ρ m n σ (arguments (list i j)) b =
        given_related (value_in h (closure i ρ)) _ _ _ _ (λ o. hl m (suc n) (put σ n o) (closure j ρ) b.1) (hd _ (closure i ρ) b.0)
    levelᵃ ρ m n σ (arguments list_end) b = hf _
    levelᵃ ρ m n σ unknown b = hf _

  -- up
  module _ (hd : (S : List Frame) (x : Closure) → value_in h x ≡ none → Related (d S x) (d' S x))
      (hl : (S : List Frame) (m n : ℕ) (σ : Slots) (x : Closure) → Related (l S m n σ x) (l' S m n σ x)) where
    pub up_level : (S : List Frame) (v : ℕ) → Related (up_by h found d c l S v) (up_by h found' d' c' l' S v)
    unfolding up_by
    up_level [] v = hf _
    up_level (Frame.read f ∷ S) v = hf _
    up_level (Frame.write₁ f x ∷ S) v = given_related (value_in h x) _ _ _ _ (λ w. hf _) (hd _ x)
    up_level (Frame.write₂ o f ∷ S) v = hf _
    up_level (Frame.call m n σ x ∷ S) v = hl S m (suc n) (put σ n v) x
    up_level (Frame.let_in x y ∷ S) v = hf _
    up_level (Frame.synch x ∷ S) v = hf _
    up_level (Frame.hold o ∷ S) v = hf _
    up_level (Frame.join ∷ S) v = hf _
    up_level (Frame.signal j ∷ S) v = hf _
    up_level (Frame.equal₁ x ∷ S) v = given_related (value_in h x) _ _ _ _ (λ w. hf _) (hd _ x)
    up_level (Frame.equal₂ o ∷ S) v = hf _
    up_level (Frame.if x ∷ S) v = hf _
    up_level (Frame.and x ∷ S) v = hf _
    up_level (Frame.not ∷ S) v = hf _
    up_level (Frame.while_test x ∷ S) v = hf _
    up_level (Frame.while_body x ∷ S) v = hf _
