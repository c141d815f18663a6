-- The abstract machine; no reader of the entries' promises needs it. Memory as the code holds it: a mask for each object, and a cell for each
-- object and field, field 0 its monitor; and the objects that it stands for. Assumes nothing.
use Rattle.std.specs.Prelude.{ℕ, zero, suc, cond, ◌&&◌, List, [], ◌∷◌, eqb}
use Rattle.plan_packed.specs.Format.{fields_from}
use Rattle.rules.specs.State.{Cell, Field, Object}

pub record Memory : Type 0 where
  pub count : ℕ  -- objects
  pub mask : ℕ → ℕ  -- an object's fields, 32 bits, the top one field 0, of which fields 1 to 31 count
  pub cells : ℕ → ℕ → Cell

unfoldable pub fields_at : (ℕ → Cell) → List ℕ → List Field
fields_at k [] = []
fields_at k (f ∷ fs) = record { name = f; cell = k f } ∷ fields_at k fs

unfoldable pub object_at : Memory → ℕ → Object
unfolding fields_at fields_from
object_at M o = record { monitor = M.cells o 0; fields = fields_at (M.cells o) (fields_from (M.mask o) 1 31) }

-- n objects from object o on
unfoldable pub objects_from : Memory → ℕ → ℕ → List Object
unfolding object_at
objects_from M o zero = []
objects_from M o (suc n) = object_at M o ∷ objects_from M (suc o) n

-- the objects that a memory stands for
unfoldable pub objects_of : Memory → List Object
unfolding objects_from
objects_of M = objects_from M 0 M.count

-- ---- what a move does to it

unfoldable pub store_cell : Memory → ℕ → ℕ → Cell → Memory
store_cell M o f c = record { count = M.count; mask = M.mask; cells = λ a g. cond (eqb o a && eqb f g) c (M.cells a g) }

-- one more object, whose cells are as they are
unfoldable pub add_mask : Memory → ℕ → Memory
add_mask M m = record { count = suc M.count; mask = λ a. cond (eqb M.count a) m (M.mask a); cells = M.cells }
