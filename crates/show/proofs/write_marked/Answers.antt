-- `write_marked` meets its contract. Assumes nothing.
use mathlib.Core.Path.{refl, ap, ◌∙◌}
use mathlib.Core.Logic.{inl, inr}
use lib.ListN as L
use Rattle.std.specs.Prelude.{Ok, Err}
use Rattle.format.proofs.AreaLaws.{overwrite_length}
use borrow.Author.Rules.{rules}
use Rattle.show.proofs.write_marked.Goals as goal

pub measure-length-requires : goal.measure-length-requires
measure-length-requires c = record { rows_value = c.requires.rows_value; tokens_len_bound = c.requires.tokens_len_bound }

pub returns-then-area-length : goal.returns-then-area-length
returns-then-area-length c = inl (record { short = rw c.measure-length.ensures.0 at c.if-area-length.true; kept = refl; refused = ap Err c.at.ensures })

pub lay_out-requires : goal.lay_out-requires
lay_out-requires c =
    let m = c.measure-length.ensures in record { rows_value = (c.requires.rows_value.0, c.requires.rows_value.2, m.1, c.requires.tokens_len_bound.0); tokens_in_bounds = (search (rules, c.requires.tokens_len_bound.1), m.0, c.if-area-length.false) }

pub shape_of-area : goal.shape_of-area
shape_of-area c = ap L.length c.lay_out.ensures ∙ overwrite_length _ _
    (rw c.measure-length.ensures.0 at
    c.if-area-length.false)

pub returns : goal.returns
returns c =
    let e = c.measure-length.ensures.0 in
    inr (record {
      long = rw e at c.if-area-length.false;
      text = c.lay_out.ensures;
      answer = ap Ok e;
    })
