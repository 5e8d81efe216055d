-- The goals of `put_kinds` that the check leaves.
use mathlib.Core.Path.{◌≡◌, ap, ◌∙◌}
use mathlib.Core.List.{map}
use native.Mathlib.Omega.{arith}
use lib.ListN.{length, take}
use Rattle.column_trie.proofs.Pool.{lay_length}
use Rattle.table_file.specs.File.{kind_byte}
use Rattle.file_write.proofs.Heads.{no_kinds, kind_more, byte_of}
use Rattle.file_write.proofs.put_kinds.Goals as goal
use Rattle.file_write.proofs.put_kinds.Goals.{At-loop-d}

kept : (l : At-loop-d) → length l.loop-d.bytes ≡ length l.args.bytes.now
kept l = ap length l.loop-d.invariant ∙ lay_length l.args.bytes.now l.args.at (map kind_byte (take l.loop-d.d l.args.kinds.now))

pub loop-d-init : goal.loop-d-init
loop-d-init c = no_kinds c.args.bytes.now c.args.at c.args.kinds.now

pub bounds-bytes-at : goal.bounds-bytes-at
bounds-bytes-at c = omega (arith, c.loop-d-test.true, c.requires, kept (goal.at.bounds-bytes-at c).At-loop-d)

pub loop-d-preserved : goal.loop-d-preserved
loop-d-preserved c = kind_more c.args.bytes.now c.args.at c.args.kinds.now c.loop-d.d c.loop-d-test.true c.loop-d.invariant (c.from.ensures ∙ byte_of _)

pub shape_of-bytes : goal.shape_of-bytes
shape_of-bytes c = kept (goal.at.shape_of-bytes c).At-loop-d
