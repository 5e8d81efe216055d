-- `column_trie_listing::list` meets its contract: each way out is one of Lists.antt.
use mathlib.Core.Path.{◌≡◌, sym, ap, subst}
use mathlib.Core.Bool.{true}
use mathlib.Core.List.{List, ◌++◌}
use Prim.Native.Nat.{ℕ}
use native.Mathlib.Omega.{arith}
use lib.ListN.{length}
use Rattle.relation.proofs.Tests.{passed, failed}
use Rattle.column_trie.specs.Table.{layers_in, undamaged}
use Rattle.column_trie.proofs.Damage.{undamaged_header}
use Rattle.layer_text.specs.Text.{text}
use Rattle.column_trie_listing.specs.List.{Lists}
use Rattle.layer_text.specs.Piece.{PieceWritten}
use Rattle.column_trie_listing.proofs.Lists.{none_before, damaged, too_long, listed}
use mathlib.Core.Bool.{not}
use Rattle.column_trie_listing.proofs.list.Goals as goal
use Rattle.column_trie_listing.proofs.list.Goals.{After-put_text-len, Start}

sound : (m : After-put_text-len) → undamaged m.args.pool.now m.args.table ≡ true
sound m = passed m.undamaged.ensures (ap not m.if-not-undamaged.false)

-- the call that asks for the length has no room to write
unwritten : (m : After-put_text-len) → m.put_text-len.new.bytes ++ m.args.buffer.now ≡ m.args.buffer.now
unwritten m = none_before m.put_text-len.new.bytes m.args.buffer.now m.put_text-len.ensures.room

long : (m : After-put_text-len) → length (m.put_text-len.new.bytes ++ m.args.buffer.now) ≡ length m.args.buffer.now
long m = ap length (unwritten m)

pub returns-then-not-undamaged : goal.returns-then-not-undamaged
returns-then-not-undamaged c =
    let a = c.args in
    rw c.number.ensures (damaged a.pool.now a.table a.buffer.now (failed c.undamaged.ensures (ap not c.if-not-undamaged.true)))

pub invariant_of-intact-clause-sound : goal.invariant_of-intact-clause-sound
invariant_of-intact-clause-sound c = undamaged_header c.args.pool.now c.args.table (passed c.undamaged.ensures (ap not c.if-not-undamaged.false))

pub returns-then-buffer-len : goal.returns-then-buffer-len
returns-then-buffer-len c =
    let a = c.args in
    rw c.number-number.ensures (subst (λ (b : List ℕ). Lists a.pool.now a.table a.buffer.now b (record { number = 14; len = 0 })) (sym (unwritten (goal.at.returns-then-buffer-len c).After-put_text-len)) (too_long a.pool.now a.table a.buffer.now (sound (goal.at.returns-then-buffer-len c).After-put_text-len) (omega (arith, c.put_text-len.ensures.ends, long (goal.at.returns-then-buffer-len c).After-put_text-len, c.if-buffer-len.true))))

pub returns : goal.returns
returns c =
    let a = c.args in
    let w = subst (λ (b : List ℕ). PieceWritten b c.put_text.new.bytes 0 (text (layers_in a.pool.now a.table)) c.put_text.result) (unwritten (goal.at.returns c).After-put_text-len) c.put_text.ensures in
    listed a.pool.now a.table a.buffer.now (sound (goal.at.returns c).After-put_text-len) (omega (arith, c.put_text-len.ensures.ends, long (goal.at.returns c).After-put_text-len, c.if-buffer-len.false)) c.put_text.new.bytes c.put_text-len.result (record { ends = c.put_text-len.ensures.ends; laid = w.laid; room = w.room })
