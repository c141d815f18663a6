-- Frames in the stack: what is stored in a place is read back, and the other places stay as they were. Assumes nothing.
use Prim.Native.Nat.{ℕ, ◌+◌, ◌*◌, ◌/◌, ◌%◌, ◌≤◌, ◌<◌}
use native.Mathlib.Omega.{arith}
use mathlib.Core.Path.{◌≡◌, refl, sym, ap, ◌∙◌, subst}
use mathlib.Core.Bool.{Bool, true, false, cond}
use mathlib.Core.List.{List, [], ◌∷◌}
use lib.Dec.{ltb}
use borrow.Author.Tests.{lt-ltb, le-ltb}
use lib.ListN.{length, get_or, set, length-set}
use lib.Seq.{get_or-set_same, get_or-set_other}
use Rattle.machine.specs.Inner.Frames as frames
use Rattle.run_frames.specs.declared.frame.Kind.{Kind}
use Rattle.run_frames.specs.declared.frame.Kind.TheVariants as kind
use Rattle.run_frames.specs.declared.frame.Frame.{Frame}
use Rattle.run_frames.specs.Inner.Frames.{code_of, kind_of, pack_of, unpack_of}
use Rattle.run_frames.specs.declared.refocusing.Refocusing.{Refocusing}
use Rattle.run_refocusing_step.specs.declared.Turn.{Turn}
use Rattle.run_refocusing_step.specs.Inner.Down.{stay_of, frame_at}
use Rattle.run_refocusing.specs.Inner.Refocusing.{Stack, store_at, stored}
use Rattle.refinement.proofs.Meant.{frame_of, Fine, Holds, Sized}

code_small : (k : Kind) → code_of k < 16
code_small kind.Read = omega arith
code_small kind.Write1 = omega arith
code_small kind.Write2 = omega arith
code_small kind.Call = omega arith
code_small kind.Let = omega arith
code_small kind.Synch = omega arith
code_small kind.Hold = omega arith
code_small kind.Join = omega arith
code_small kind.Equal1 = omega arith
code_small kind.Equal2 = omega arith
code_small kind.If = omega arith
code_small kind.And = omega arith
code_small kind.Not = omega arith
code_small kind.Test = omega arith
code_small kind.Body = omega arith
code_small kind.Signal = omega arith

code_kind : (k : Kind) → kind_of (code_of k) ≡ k
unfolding kind_of
code_kind kind.Read = refl
code_kind kind.Write1 = refl
code_kind kind.Write2 = refl
code_kind kind.Call = refl
code_kind kind.Let = refl
code_kind kind.Synch = refl
code_kind kind.Hold = refl
code_kind kind.Join = refl
code_kind kind.Equal1 = refl
code_kind kind.Equal2 = refl
code_kind kind.If = refl
code_kind kind.And = refl
code_kind kind.Not = refl
code_kind kind.Test = refl
code_kind kind.Body = refl
code_kind kind.Signal = refl

-- five fields in one number
top_of : ℕ → ℕ → ℕ → ℕ → ℕ → ℕ
top_of n m b a c = (((n % 16 * 32 + m % 32) * 1024 + b % 1024) * 1024 + a % 1024) * 16 + c

top_code : (n m b a c : ℕ) → c < 16 → top_of n m b a c % 16 ≡ c
unfolding top_of
top_code n m b a c h = omega arith

top_first : (n m b a c : ℕ) → c < 16 → a < 1024 → top_of n m b a c / 16 % 1024 ≡ a
unfolding top_of
top_first n m b a c h l = omega arith

top_second : (n m b a c : ℕ) → c < 16 → b < 1024 → top_of n m b a c / 16384 % 1024 ≡ b
unfolding top_of
top_second n m b a c h l = omega arith

top_member : (n m b a c : ℕ) → c < 16 → m < 32 → top_of n m b a c / 16777216 % 32 ≡ m
unfolding top_of
top_member n m b a c h l = omega arith

top_count : (n m b a c : ℕ) → c < 16 → n < 16 → top_of n m b a c / 536870912 % 16 ≡ n
unfolding top_of
top_count n m b a c h l = omega arith

unpacked : (f : Frame) → f.first < 1024 → f.second < 1024 → f.member < 32 → f.count < 16
    → unpack_of (pack_of f).top (pack_of f).environment (pack_of f).arguments ≡ f
unfolding unpack_of pack_of top_of
unpacked f ha hb hm hn =
    let c = code_of f.kind in
    let s = code_small f.kind in
    rw (
      top_code f.count f.member f.second f.first c s,
      code_kind f.kind,
      top_first f.count f.member f.second f.first c s ha,
      top_second f.count f.member f.second f.first c s hb,
      top_member f.count f.member f.second f.first c s hm,
      top_count f.count f.member f.second f.first c s hn,
    )

-- ---- a store

elsewhere : (k : Stack) (i : ℕ) (f : Frame) (j : ℕ) → (j ≡ i * 3 → ⊥) → (j ≡ i * 3 + 1 → ⊥) → (j ≡ i * 3 + 2 → ⊥) → get_or (store_at k i f) j 0 ≡ get_or k j 0
elsewhere k i f j p q r =
    get_or-set_other (set (set k (i * 3) (pack_of f).top) (i * 3 + 1) (pack_of f).environment) (i * 3 + 2) j (pack_of f).arguments 0 r
    ∙ get_or-set_other (set k (i * 3) (pack_of f).top) (i * 3 + 1) j (pack_of f).environment 0 q
    ∙ get_or-set_other k (i * 3) j (pack_of f).top 0 p

read_other : (k : Stack) (i : ℕ) (f : Frame) (j : ℕ) → (j ≡ i → ⊥) → frame_at (store_at k i f) j ≡ frame_at k j
unfolding unpack_of
read_other k i f j h =
    rw (
      elsewhere k i f (j * 3) (λ e. h (omega (arith, e))) (λ e. omega (arith, e)) (λ e. omega (arith, e)),
      elsewhere k i f (j * 3 + 1) (λ e. omega (arith, e)) (λ e. h (omega (arith, e))) (λ e. omega (arith, e)),
      elsewhere k i f (j * 3 + 2) (λ e. omega (arith, e)) (λ e. omega (arith, e)) (λ e. h (omega (arith, e))),
    )

module _ (b : List ℕ) where
  read_back : (k : Stack) (i : ℕ) (f : Frame) → Sized b k → i < 297 → Fine b f → frame_at (store_at k i f) i ≡ f
  read_back k i f s h n =
      let k₁ = set k (i * 3) (pack_of f).top in
      let k₂ = set k₁ (i * 3 + 1) (pack_of f).environment in
      let p : i * 3 < length k = omega (arith, s) in
      let q : i * 3 + 1 < length k₁ = omega (arith, s, length-set k (i * 3) (pack_of f).top) in
      let r : i * 3 + 2 < length k₂ = omega (arith, s, length-set k (i * 3) (pack_of f).top, length-set k₁ (i * 3 + 1) (pack_of f).environment) in
      let top : get_or (store_at k i f) (i * 3) 0 ≡ (pack_of f).top =
      get_or-set_other k₂ (i * 3 + 2) (i * 3) (pack_of f).arguments 0 (λ e. omega (arith, e))
      ∙ get_or-set_other k₁ (i * 3 + 1) (i * 3) (pack_of f).environment 0 (λ e. omega (arith, e))
      ∙ get_or-set_same k (i * 3) (pack_of f).top 0 p in
      let slots : get_or (store_at k i f) (i * 3 + 1) 0 ≡ (pack_of f).environment =
      get_or-set_other k₂ (i * 3 + 2) (i * 3 + 1) (pack_of f).arguments 0 (λ e. omega (arith, e)) ∙ get_or-set_same k₁ (i * 3 + 1) (pack_of f).environment 0 q in
      rw (top, slots, get_or-set_same k₂ (i * 3 + 2) (pack_of f).arguments 0 r) (unpacked f n.first_fits n.second_fits n.member_fits n.count_fits)

  still_sized : (k : Stack) (i : ℕ) (f : Frame) → Sized b k → Sized b (store_at k i f)
  still_sized k i f s =
      let k₁ = set k (i * 3) (pack_of f).top in
      let k₂ = set k₁ (i * 3 + 1) (pack_of f).environment in
      length-set k₂ (i * 3 + 2) (pack_of f).arguments ∙ length-set k₁ (i * 3 + 1) (pack_of f).environment ∙ length-set k (i * 3) (pack_of f).top ∙ s

  -- a store past the frames leaves them
  still_holds : (k : Stack) (base i : ℕ) (f : Frame) (S : List frames.Frame) → base + length S ≤ i → Holds b k base S → Holds b (store_at k i f) base S
  still_holds k base i f [] h p = tt
  still_holds k base i f (F ∷ S) h p =
      let l : base + length S ≡ i → ⊥ = λ e. omega arith in
      let e = read_other k i f (base + length S) l in
      (subst (λ (g : Frame). frame_of g ≡ F) (sym e) p.0, subst (Fine b) (sym e) p.1, still_holds k base i f S (omega arith) p.2)

  -- frames that lie elsewhere stay
  pub holds_same : (k k' : Stack) (base : ℕ) (S : List frames.Frame) → length S ≤ 33 → ((j : ℕ) → j < 33 → frame_at k' (base + j) ≡ frame_at k (base + j))
      → Holds b k base S
      → Holds b k' base S
  holds_same k k' base [] l e h = tt
  holds_same k k' base (F ∷ S) l e (x, y, z) =
      let q = e (length S) l in
      (ap frame_of q ∙ x, subst (λ (f : Frame). Fine b f) (sym q) y, holds_same k k' base S (omega arith) e z)

  -- a frame on top
  pub holds_more : (k : Stack) (base : ℕ) (f : Frame) (S : List frames.Frame) → Sized b k → base + length S < 297 → Fine b f → Holds b k base S
      → Holds b (store_at k (base + length S) f) base (frame_of f ∷ S)
  holds_more k base f S s h n p =
      let e = read_back k (base + length S) f s h n in
      (subst (λ (g : Frame). frame_of g ≡ frame_of f) (sym e) refl, subst (Fine b) (sym e) n, still_holds k base (base + length S) f S (omega arith) p)

-- ---- a step stores its frame where it goes deeper, and nothing else

pub stored_stay : (k : Stack) (base : ℕ) (g : Refocusing) (d : ℕ) → stored k base (stay_of g d) ≡ k
stored_stay k base g d = rw (le-ltb d d (omega arith))

pub stored_push : (k : Stack) (base : ℕ) (g : Refocusing) (d : ℕ) (f : Frame)
    → stored k base (record { go = g; depth = d + 1; at = d; frame = f }) ≡ store_at k (base + d) f
stored_push k base g d f = rw (lt-ltb d (d + 1) (omega arith))

pub stored_sized : (b : List ℕ) (k : Stack) (base : ℕ) (t : Turn) → Sized b k → Sized b (stored k base t)
stored_sized b k base t s = at (ltb t.at t.depth)
  where
    at : (x : Bool) → Sized b (cond x (store_at k (base + t.at) t.frame) k)
    at true = still_sized b k (base + t.at) t.frame s
    at false = s

pub stored_other : (k : Stack) (base : ℕ) (t : Turn) (j : ℕ) → (j ≡ base + t.at → ⊥) → frame_at (stored k base t) j ≡ frame_at k j
stored_other k base t j h = at (ltb t.at t.depth)
  where
    at : (x : Bool) → frame_at (cond x (store_at k (base + t.at) t.frame) k) j ≡ frame_at k j
    at true = read_other k (base + t.at) t.frame j h
    at false = refl
