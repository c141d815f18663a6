-- `text_diagram::put_diagram` meets its contract. Assumes nothing.
use native.Mathlib.Omega.{arith}
use mathlib.Core.Path.{◌∙◌, sym}
use Rattle.log_records.specs.Packed.{log_of}
use Rattle.log_records.proofs.RoundTrip.{length_log}
use Rattle.text.specs.Text.{ascii}
use Rattle.text.proofs.Added.{added_more, added_as}
use Rattle.text_diagram_elements.specs.Diagram.{arrows_of, race_of}
use Rattle.text_diagram.proofs.Whole.{whole_is}
use Rattle.text_diagram.proofs.put_diagram.Goals as goal

pub put_head-at-requires : goal.put_head-at-requires
put_head-at-requires c = (
  c.lane_count-lanes.ensures.1,
  omega (arith, c.requires.few),
  omega (arith, c.requires.long),
)

pub put_lanes-at-requires : goal.put_lanes-at-requires
put_lanes-at-requires c = (
  c.lane_count-lanes.ensures.1,
  omega (arith, c.requires.few),
  omega (arith, c.put_head-at.ensures.short, c.put_head-at.ensures.wrote.kept, c.requires.long),
)

pub put_rows-at-requires : goal.put_rows-at-requires
put_rows-at-requires c = (
  c.lane_count-lanes.ensures.1,
  c.requires.few,
  omega (
    arith,
    c.put_head-at.ensures.short,
    c.put_head-at.ensures.wrote.kept,
    c.put_lanes-at.ensures.short,
    c.put_lanes-at.ensures.wrote.kept,
    c.requires.long,
  ),
)

pub put_arrows-at-requires : goal.put_arrows-at-requires
put_arrows-at-requires c = (
  c.requires.few,
  c.requires.arrows,
  omega (
    arith,
    c.put_head-at.ensures.short,
    c.put_head-at.ensures.wrote.kept,
    c.put_lanes-at.ensures.short,
    c.put_lanes-at.ensures.wrote.kept,
    c.put_rows-at.ensures.short,
    c.put_rows-at.ensures.wrote.kept,
    c.requires.long,
  ),
)

pub put_race-at-requires : goal.put_race-at-requires
put_race-at-requires c = (
  c.requires.few,
  c.requires.between,
  omega (
    arith,
    c.put_head-at.ensures.short,
    c.put_head-at.ensures.wrote.kept,
    c.put_lanes-at.ensures.short,
    c.put_lanes-at.ensures.wrote.kept,
    c.put_rows-at.ensures.short,
    c.put_rows-at.ensures.wrote.kept,
    c.put_arrows-at.ensures.short,
    c.put_arrows-at.ensures.wrote.kept,
    c.requires.long,
  ),
)

pub put_word-requires : goal.put_word-requires
put_word-requires c =
    omega (
      arith,
      c.put_head-at.ensures.short,
      c.put_head-at.ensures.wrote.kept,
      c.put_lanes-at.ensures.short,
      c.put_lanes-at.ensures.wrote.kept,
      c.put_rows-at.ensures.short,
      c.put_rows-at.ensures.wrote.kept,
      c.put_arrows-at.ensures.short,
      c.put_arrows-at.ensures.wrote.kept,
      c.put_race-at.ensures.short,
      c.put_race-at.ensures.wrote.kept,
      c.requires.long,
    )

pub shape_of-area : goal.shape_of-area
shape_of-area c =
    c.put_word.ensures.kept ∙ c.put_race-at.ensures.wrote.kept ∙ c.put_arrows-at.ensures.wrote.kept ∙ c.put_rows-at.ensures.wrote.kept
    ∙ c.put_lanes-at.ensures.wrote.kept ∙ c.put_head-at.ensures.wrote.kept

pub returns : goal.returns
unfolding ascii
returns c =
    let a = c.args in
    let b = a.log.now in
    let same = whole_is (log_of b) (arrows_of a.starts.now a.ends.now a.count) (race_of a.race) _ _ c.lane_count-lanes.ensures.0
    (sym (length_log b)) in record {
      wrote = added_as same
          (added_more c.put_head-at.ensures.wrote
          (added_more c.put_lanes-at.ensures.wrote
          (added_more c.put_rows-at.ensures.wrote
          (added_more c.put_arrows-at.ensures.wrote (added_more c.put_race-at.ensures.wrote c.put_word.ensures)))));
      within = omega (
        arith,
        c.put_head-at.ensures.short,
        c.put_lanes-at.ensures.short,
        c.put_rows-at.ensures.short,
        c.put_arrows-at.ensures.short,
        c.put_race-at.ensures.short,
        c.put_word.ensures.next,
      );
    }
