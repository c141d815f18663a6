-- The record that columns are, for inner contracts. No reader of the entry's promise needs it. Assumes nothing.
use Rattle.log_records.specs.Record.{Record}
use Rattle.log_records.specs.Packed.{kind_of}
use Rattle.log_packing.specs.declared.Columns.{Columns}

abbrev pub record_of : Columns → Record
record_of r = record { kind = kind_of r.kind; thread = r.thread; object = r.object; field = r.field; value = r.value }
