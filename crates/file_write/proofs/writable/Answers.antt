-- `file_write::writable` meets its contract: the checks stand in the sequence of the definition's.
use Prim.Native.Nat.{◌-◌}
use mathlib.Core.Path.{◌≡◌, sym, ◌∙◌}
use mathlib.Core.Bool.{true}
use native.Mathlib.Omega.{arith}
use lib.ListN.{length}
use Rattle.column_trie.specs.Table.{Undamaged, undamaged}
use Rattle.column_trie.proofs.Damage.{undamaged_told}
use Rattle.column_trie.proofs.Layers.{Whole}
use Rattle.file_write.specs.Write.{file_in}
use Rattle.file_write.proofs.Files.{file_long, number_6, number_14, number_0}
use borrow.Author.Rules.{rules}
use Rattle.file_write.proofs.writable.Goals as goal
use Rattle.file_write.proofs.writable.Goals.{After-file_len-len, Else-not-undamaged}

sound : (e : Else-not-undamaged) → undamaged e.args.pool.now e.args.table ≡ true
sound e = sym e.undamaged.ensures ∙ e.if-not-undamaged.false

told : (e : Else-not-undamaged) → Undamaged e.args.pool.now e.args.table
told e = undamaged_told e.args.pool.now e.args.table (sound e)

-- the length that the header gives is the file's
long : (k : After-file_len-len) → k.file_len-len.result ≡ length (file_in k.args.pool.now k.args.table)
long k =
    let whole : Whole k.args.table = record { data_long = search rules; interval_long = search rules } in
    let sound_here = sym k.undamaged.ensures ∙ k.if-not-undamaged.false in
    k.file_len-len.ensures ∙ file_long k.args.pool.now k.args.table whole (undamaged_told k.args.pool.now k.args.table sound_here)

pub returns-then-not-undamaged-clause-number : goal.returns-then-not-undamaged-clause-number
returns-then-not-undamaged-clause-number c = sym (number_6 c.args.pool.now c.args.table c.args.room (sym c.undamaged.ensures ∙ c.if-not-undamaged.true))

pub file_len-len-requires : goal.file_len-len-requires
file_len-len-requires c =
    let u = told (goal.at.file_len-len-requires c).Else-not-undamaged in
    (u.arity.0, u.arity.1, omega (arith, u.layers.counted, (u.layers.room (c.args.table.arity - 1) (omega (arith, u.arity.0))).0, u.capacity.1))

pub returns-then-room-len-clause-number : goal.returns-then-room-len-clause-number
returns-then-room-len-clause-number c =
    sym (number_14 c.args.pool.now c.args.table c.args.room (sound (goal.at.returns-then-room-len-clause-number c).Else-not-undamaged) (omega (arith, long (goal.at.returns-then-room-len-clause-number c).After-file_len-len, c.if-room-len.true)))

pub returns-clause-number : goal.returns-clause-number
returns-clause-number c =
    sym (number_0 c.args.pool.now c.args.table c.args.room (sound (goal.at.returns-clause-number c).Else-not-undamaged) (omega (arith, long (goal.at.returns-clause-number c).After-file_len-len, c.if-room-len.false)))

pub returns-clause-len : goal.returns-clause-len
returns-clause-len c = (sound (goal.at.returns-clause-len c).Else-not-undamaged, long (goal.at.returns-clause-len c).After-file_len-len, c.if-room-len.false)
