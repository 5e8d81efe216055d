-- `file_bytes::per_field` meets its contract.
use mathlib.Core.Path.{refl}
use native.Mathlib.Omega.{arith}
use Rattle.table_file.specs.File.{per_field}
use Rattle.table_file.proofs.Fields.{per_some, per_fits}
use Rattle.file_bytes.proofs.per_field.Goals as goal

pub returns : goal.returns
unfolding per_field
returns c = (refl, per_some c.args.arity c.requires.0 c.requires.1, per_fits c.args.arity c.requires.0 (per_field c.args.arity) (omega arith))
