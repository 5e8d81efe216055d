-- `permuted_fill::rank_rows` meets its contract: the words stand for the rows as they are, and they are sorted.
use mathlib.Core.Path.{◌≡◌, sym, ◌∙◌}
use lib.ListN.{length}
use Rattle.permuted_rows.specs.Seen.{rows_seen}
use Rattle.permuted_fill.proofs.Ranks.{rows_count, listed_all, ranked}
use Rattle.permuted_fill.proofs.rank_rows.Goals as goal

pub sort_numbers-requires : goal.sort_numbers-requires
sort_numbers-requires c = record { packed = c.pack_rows.ensures.packed }

pub returns : goal.returns
returns c =
    let d = c.sort_numbers in
    let f = c.pack_rows in
    let rows = c.args.rows.now in
    let l : length f.new.words ≡ rows.table.tuple_count = f.auto.words ∙ c.requires in
    ranked f.new.words (d.auto.numbers ∙ l) (listed_all (rows_seen rows) f.new.words (l ∙ sym (rows_count rows)) f.ensures.number) d.ensures.0 d.ensures.1
