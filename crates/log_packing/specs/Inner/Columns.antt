-- A record of the log as the code takes it apart. No reader of the entries' promises needs it. Assumes nothing.
use Rattle.std.specs.Prelude.{ℕ, ◌<◌, ◌≡◌, List}
use Rattle.log_records.specs.Packed.{kind_at, spare_at, record_at}
use Rattle.log_packing.specs.declared.Columns.{Columns}

-- columns of so many bits: kind 4, thread 3, object 5, field 5, value 5
pub record Narrow (r : Columns) : Type 0 where
  pub kind_below : r.kind < 16
  pub thread_below : r.thread < 8
  pub object_below : r.object < 32
  pub field_below : r.field < 32
  pub value_below : r.value < 32

-- r has the columns of record i of the bytes b
pub record ReadAt (b : List ℕ) (i : ℕ) (r : Columns) : Type 0 where
  pub kind_is : r.kind ≡ kind_at b i
  pub thread_is : r.thread ≡ (record_at b i).thread
  pub object_is : r.object ≡ (record_at b i).object
  pub field_is : r.field ≡ (record_at b i).field
  pub value_is : r.value ≡ (record_at b i).value
  pub spare_is : r.spare ≡ spare_at b i
  pub narrow : Narrow r
