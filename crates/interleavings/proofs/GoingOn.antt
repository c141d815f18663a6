-- Going on from the first picks of an area: by the lowest pick that can follow, until there are n or none can. Assumes nothing.
use Prim.Native.Nat.{ℕ, zero, suc, ◌+◌, ◌-◌, ◌/◌, ◌≤◌, ◌<◌}
use native.Mathlib.Decide.{ℕ_discrete, dec_lt}
use native.Mathlib.Nat.{sub-zero}
use native.Mathlib.Omega.{arith}
use mathlib.Core.Path.{◌≡◌, refl, sym, ap, ◌∙◌, subst as along}
use mathlib.Core.Bool.{true, false}
use mathlib.Core.List.{List, ◌++◌}
use mathlib.Core.Logic.{◌⊎◌, inl, inr}
use lib.ListN.{length, length-append, length-set, get_or, set, take, drop, get_or-append}
use lib.Seq.{length-take-le, take_all, take-append-le, take-take, take-suc, take-set-le, drop-set-lt, drop-drop}
use lib.Seq.{get_or-take, get_or-set_same, get_or-set_other, ext_get_or}
use Rattle.plan_packed.specs.Syntax.{Program}
use Rattle.plan_packed.specs.Trees.{program_of}
use Rattle.run_engine.specs.declared.Explored.{Explored}
use Rattle.run_engine.specs.Inner.Exploring.{all_picks}
use Rattle.run_engine.proofs.AllPicks.{length_all, given_at, noted_at}
use Rattle.listing.specs.Order.{AtMost}
use Rattle.listing.specs.Listed.{Listed}
use Rattle.listing.specs.Inner.CanFollow.{can_follow}
use Rattle.listing.specs.Inner.Ways.{Way}
use Rattle.listing.proofs.Ways.{go_on_lem}
use Rattle.listing.proofs.Listed.{complete_of, listed_by_lem}
use Rattle.run_place_notes.specs.Inner.Notes.{Puts, PutNoted}
use Rattle.run_replays.specs.Inner.Replay.{Replayable, Explores}
use Rattle.run_replays.proofs.Told.{goes_past}
use Rattle.interleavings.specs.Inner.Steps.{Begins, Reached}

-- the picks that are written
pub taken : {g : Program} {n from : ℕ} {before after : List ℕ} {at : ℕ} → Reached g n from before after at → n ≤ length before → length (take at after) ≡ at
taken {after = after} {at = at} x long = length-take-le at after (omega (arith, x.within, x.kept))

-- ---- by the run of the first picks

module _ {plan words : List ℕ} {n : ℕ} {before : List ℕ} {from : ℕ} (b : Begins plan words n before from) where
  pub first_is : take (from - 0) before ≡ take from before
  first_is = ap (λ (k : ℕ). take k before) (sub-zero from)

  pub can_explore : (empty : List ℕ) → length empty ≡ n → Replayable plan words (take (from - 0) before) empty
  can_explore empty long =
      along (λ (l : List ℕ). Replayable plan words l empty) (sym first_is)
      (record {
        accepted = b.accepted;
        of_eight = b.way.of_eight;
        room = omega (arith, length-take-le from before (omega (arith, b.within, b.long)), b.within, long);
        few = omega (arith, long, b.bound);
      })

module _ {plan words : List ℕ} {n : ℕ} {before : List ℕ} {from : ℕ} (b : Begins plan words n before from) {first empty notes : List ℕ} {r : Explored}
    (x : Explores plan first empty notes r) (f : first ≡ take from before) (long : length empty ≡ n) where
  abbrev g : Program
  g = program_of plan

  abbrev ps : List ℕ
  ps = all_picks first notes

  way : Way (can_follow g) first
  way = along (Way (can_follow g)) (sym f) b.way

  given : length first ≡ from
  given = ap length f ∙ length-take-le from before (omega (arith, b.within, b.long))

  all : length ps ≡ n
  all = omega (arith, length_all first notes, given, b.within, long, x.kept)

  behind : from ≤ r.made
  behind = omega (arith, given, goes_past x (omega (arith, given, b.within, long)) way)

  pub puts : (rest : List ℕ) → Puts (notes ++ rest) r.made before from
  puts rest =
      record { noted = omega (arith, x.within, x.kept, length-append notes rest); room = omega (arith, x.within, long, b.long); behind = behind }

  can : (i : ℕ) → i < r.made → can_follow g (take i ps) (get_or ps i 0) ≡ true
  can i h = by (dec_lt i (length first))
    where
      by : Dec (i < length first) → can_follow g (take i ps) (get_or ps i 0) ≡ true
      by (yes k) =
          ap (λ (l : List ℕ). can_follow g l (get_or ps i 0)) (take-append-le i first _ (omega arith))
          ∙ ap (can_follow g (take i first)) (given_at first notes i k) ∙ way.follows i k
      by (no k) = ((x.noted i h).lowest (omega (arith, k))).here (x.noted i h).of_eight

  -- no listed schedule that is not before the first picks is before the first j
  least_to : (rs : List ℕ) → Listed g n rs → AtMost first rs → (k j : ℕ) → from + k ≡ j → j ≤ r.made → AtMost (take j ps) rs
  least_to rs l a zero j e h =
      along (λ (qs : List ℕ). AtMost qs rs)
      (sym (take-append-le j first _ (omega (arith, given)) ∙ take_all j first (omega (arith, given)))) a
  least_to rs l a (suc k) zero e h = absurd (omega arith)
  least_to rs l a (suc k) (suc j) e h =
      let d = x.noted j (omega arith) in
      let c = d.lowest (omega (arith, given)) in
      along (λ (qs : List ℕ). AtMost qs rs) (sym (take-suc ps j 0 (omega (arith, all, x.within, long))))
      (go_on_lem (can_follow g) (take j ps) (get_or ps j 0) (omega (arith, length-take-le j ps (omega (arith, all, x.within, long)), x.within, long))
      d.of_eight (c.here d.of_eight) (λ i u. c.before i (omega arith) u)
      rs (complete_of g n rs l) (least_to rs l a k j (omega arith) (omega arith)))

  -- and then the noted picks are written
  module _ (rest after : List ℕ) (p : PutNoted (notes ++ rest) r.made from before after) where
    abbrev at : ℕ
    at = r.made

    fits : at ≤ length after
    fits = omega (arith, x.within, long, b.long, p.kept)

    its_length : length (take at ps) ≡ at
    its_length = length-take-le at ps (omega (arith, all, x.within, long))

    same : take at after ≡ take at ps
    same = ext_get_or 0 (take at after) (take at ps) (length-take-le at after fits ∙ sym its_length)
        (λ i h. let k : i < at = omega (arith, h, length-take-le at after fits) in
        get_or-take at after i 0 k ∙ each i k (dec_lt i from) ∙ sym (get_or-take at ps i 0 k))
      where
        each : (i : ℕ) → i < at → Dec (i < from) → get_or after i 0 ≡ get_or ps i 0
        each i h (yes k) =
            sym (get_or-take from after i 0 k) ∙ ap (λ (l : List ℕ). get_or l i 0) (p.front ∙ sym f) ∙ sym (given_at first notes i (omega (arith, given)))
        each i h (no k) =
            p.are i (omega (arith, k)) h ∙ ap (λ (y : ℕ). y / 16) (get_or-append notes rest 0 i (omega (arith, x.within, x.kept)))
            ∙ sym (noted_at first notes i (omega (arith, k, given)))

    at_most : at ≤ n
    at_most = omega (arith, x.within, long)

    ends : (length (take at ps) ≡ n) ⊎ ((q : ℕ) → q < 8 → can_follow g (take at ps) q ≡ false)
    ends = by (ℕ_discrete at n)
      where
        by : Dec (at ≡ n) → (length (take at ps) ≡ n) ⊎ ((q : ℕ) → q < 8 → can_follow g (take at ps) q ≡ false)
        by (yes e) = inl (its_length ∙ e)
        by (no e) = inr (x.shut (omega (arith, at_most, long, e)))

    listed : Listed g n (take at ps)
    listed =
        listed_by_lem g n (take at ps)
        (record {
          way = record {
            of_eight = λ i h. let k : i < at = omega (arith, h, its_length) in along (λ (q : ℕ). q < 8) (sym (get_or-take at ps i 0 k)) (x.noted i k).of_eight;
            follows = λ i h.
                let k : i < at = omega (arith, h, its_length) in
                ap (λ (l : List ℕ). can_follow g l (get_or (take at ps) i 0)) (take-take i at ps (omega arith))
                ∙ ap (can_follow g (take i ps)) (get_or-take at ps i 0 k) ∙ can i k;
          };
          at_most = omega (arith, its_length, at_most);
          ends = ends;
        })

    pub reached : Reached g n from before after at
    reached =
        record {
          within = at_most;
          reached = behind;
          kept = p.kept;
          front = p.front;
          rest = p.rest;
          listed = along (Listed g n) (sym same) listed;
          least = λ rs l a.
              along (λ (qs : List ℕ). AtMost qs rs) (sym same)
              (least_to rs l (along (λ (qs : List ℕ). AtMost qs rs) (sym f) a) (at - from) at (omega (arith, behind)) (omega arith));
        }
