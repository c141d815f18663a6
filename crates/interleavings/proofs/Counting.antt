-- Counting: the schedule at each place of the whole list, from the first on. Assumes nothing.
use Prim.Native.Nat.{ℕ, zero, suc, ◌+◌, ◌-◌, ◌≤◌, ◌<◌}
use native.Mathlib.Nat.{sub-zero}
use native.Mathlib.Numerals.{add-one}
use native.Mathlib.Omega.{arith}
use mathlib.Core.Path.{◌≡◌, refl, sym, ap, ◌∙◌, subst as along}
use mathlib.Core.Bool.{Bool, true, false, true≢false}
use mathlib.Core.List.{List, [], ◌∷◌}
use mathlib.Core.Option.{Option, some, none}
use lib.ListN.{length, get_elem?, take}
use Rattle.format.proofs.AreaLaws.{overwrite_first, overwrite_covers}
use Rattle.plan_packed.specs.Syntax.{Program}
use Rattle.plan_packed.specs.Trees.{program_of}
use Rattle.text.specs.Inner.Wrote.{Wrote}
use Rattle.listing.specs.Listed.{Listed, Following, Over}
use Rattle.listing.specs.WholeList.{WholeList}
use Rattle.listing.proofs.Order.{empty_lowest}
use Rattle.listing.proofs.WholeList.{at_first, at_next, at_last, whole_list}
use Rattle.run_replays.specs.Inner.Replay.{Accepted}
use Rattle.run_replays.specs.Inner.Told.{Tells, Listable, ListedBy}
use Rattle.std.specs.Prelude.{Ok, Some, None}
use Rattle.std.specs.Prelude as rust
use Rattle.interleavings.specs.Inner.Steps.{Reached, Listing, Followed, Stands, CountsOn}
use Rattle.interleavings.specs.Count.{count_refused, CountAnswer}

-- a place of a list
inside : (L : List (List ℕ)) (i : ℕ) (ps : List ℕ) → get_elem? L i ≡ some ps → i < length L
inside [] i ps e = absurd (true≢false cc)
inside (x ∷ L) zero ps e = omega arith
inside (x ∷ L) (suc i) ps e = let h = inside L i ps e in omega arith

module _ {plan words : List ℕ} {n : ℕ} {area : List ℕ} {picks place : ℕ} (s : Stands plan words n area picks place) where
  abbrev g : Program
  g = program_of plan

  same : take picks area ≡ take (picks - 0) area
  same = ap (λ (k : ℕ). take k area) (sym (sub-zero picks))

  still_listed : Listed g n (take (picks - 0) area)
  still_listed = along (Listed g n) same s.listed

  pub to_note : (notes : List ℕ) → n ≤ length notes → Listable plan words n (take (picks - 0) area) notes
  to_note notes h = record { accepted = s.accepted; of_eight = still_listed.of_eight; bound = s.bound; room = h }

  pub to_follow : (notes room : List ℕ) (r : Bool) → ListedBy g n (take (picks - 0) area) notes r → n ≤ length room
      → Listing plan words n (take (picks - 0) area) notes room
  to_follow notes room r l h =
      record { accepted = s.accepted; bound = s.bound; long = h; listed = still_listed; noted = l.noted (told r l.tells) }
    where
      told : (b : Bool) → Tells b (Listed g n (take (picks - 0) area)) → b ≡ true
      told true t = refl
      told false t = absurd (t.1 refl still_listed)

  pub longer : (L : List (List ℕ)) → WholeList g n L → place < length L
  longer L w = inside L place (take picks area) (s.at_place L w)

  -- the list is over
  pub at_end : (room after : List ℕ) → Followed g n (take (picks - 0) area) room after None → (L : List (List ℕ)) → WholeList g n L → length L ≡ place + 1
  at_end room after (o, e) L w = rw add-one (at_last g n place w.begins (s.at_place L w) (along (Over g n) (sym same) o))

  -- the following schedule
  module _ (room after : List ℕ) (m : ℕ) (f : Followed g n (take (picks - 0) area) room after (Some m)) where
    abbrev qs : List ℕ
    qs = f.0

    begins_so : take (m - 0) after ≡ qs
    begins_so = ap (λ (k : ℕ). take k after) (sub-zero m ∙ f.2) ∙ ap (take (length qs)) f.3 ∙ overwrite_first qs room

    pub written_fits : m ≤ length after
    written_fits = omega (arith, f.2, ap length f.3, overwrite_covers qs room)

    pub written_room : 0 + length (take (m - 0) after) ≤ length area
    written_room = omega (arith, ap length begins_so, f.1.has.at_most, s.bound, s.long)

    pub stands_next : (area' : List ℕ) (r : ℕ) → Wrote area 0 (take (m - 0) after) area' r → Stands plan words n area' r (place + 1)
    stands_next area' r w =
        record {
          accepted = s.accepted;
          bound = s.bound;
          long = omega (arith, w.kept, s.long);
          few = omega (arith, w.next, ap length begins_so, f.1.has.at_most, s.bound);
          listed = along (Listed g n) (sym now_is) f.1.has;
          at_place = λ L l.
              rw add-one
              (at_next g n place l.begins (s.at_place L l) (along (λ (ps : List ℕ). Following g n ps qs) (sym same) f.1)
              ∙ ap {B = Option (List ℕ)} some (sym now_is));
        }
      where
        now_is : take r area' ≡ qs
        now_is = w.text ∙ begins_so

-- the first
pub stands_first : (plan words : List ℕ) (n : ℕ) (room after : List ℕ) (at : ℕ) → Accepted plan words → n ≤ 64 → 64 ≤ length room
    → Reached (program_of plan) n 0 room after at → Stands plan words n after at 0
stands_first plan words n room after at a b h x =
    record {
      accepted = a;
      bound = b;
      long = omega (arith, h, x.kept);
      few = omega (arith, x.within, b);
      listed = x.listed;
      at_place = λ L l. at_first (program_of plan) n l.begins (record { has = x.listed; least = λ rs k. x.least rs k (empty_lowest rs) });
    }

-- the answer
pub count_answer : (plan : List ℕ) (n limit : ℕ) → count_refused plan n ≡ none → (r : rust.Option ℕ) → CountsOn plan n limit r → CountAnswer plan n limit (Ok r)
count_answer plan n limit e (Some r) (x, h) = let l = whole_list (program_of plan) n in (e, l.0, l.1, x l.0 l.1, h)
count_answer plan n limit e None x = let l = whole_list (program_of plan) n in (e, l.0, l.1, x l.0 l.1)
