-- The goal of `write` that the check leaves.
use Rattle.file_write.proofs.Files.{accepted}
use Rattle.file_write.proofs.write.Goals as goal

pub returns-in-Ok : goal.returns-in-Ok
returns-in-Ok c = accepted c.args.pool.now c.args.table c.args.bytes.now c.in-Ok.ensures.number c.in-Ok.ensures.len.1 c.in-Ok.ensures.len.2 c.put_file.ensures
