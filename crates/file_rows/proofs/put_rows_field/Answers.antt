-- `file_rows::put_rows_field` meets its contract: tag and length, and behind them the rows.
use Rattle.file_rows.proofs.Fields.{field_laid}
use Rattle.file_rows.proofs.put_rows_field.Goals as goal

pub returns : goal.returns
returns c = field_laid c.args.rows.now.sound.whole c.args.rows.now.undamaged c.args.i c.args.n c.requires.0.there c.args.at c.args.bytes.now (rw c.byte.ensures at c.put_tag.ensures) c.put_rows.ensures
