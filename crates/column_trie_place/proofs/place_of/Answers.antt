-- `column_trie_place::place_of` meets its contract: the tests stand in the sequence of the definition's (Places.antt).
use mathlib.Core.Path.{◌≡◌, sym, subst}
use mathlib.Core.Bool.{true}
use mathlib.Core.Logic.{inl, inr}
use native.Mathlib.Omega.{arith}
use lib.ListN.{length}
use Rattle.relation.proofs.Tests.{passed, failed}
use Rattle.column_trie.specs.Table.{header_sound}
use Rattle.column_trie_place.specs.Inside.{Placed}
use Rattle.column_trie_place.proofs.Places.{header_refused, root_refused, root_placed, below_placed}
use mathlib.Core.Path.{ap}
use mathlib.Core.Bool.{not}
use Rattle.column_trie_place.proofs.place_of.Goals as goal
use Rattle.column_trie_place.proofs.place_of.Goals.{then-iter-ne0-via-then-iter-ne0, then-iter-ne0-via-else-iter-ne0+then-iter-ne0-2}
use Rattle.column_trie_place.proofs.place_of.Goals.{Else-not-header_sound}

sound : (q : Else-not-header_sound) → header_sound (length q.args.pool.now) q.args.table ≡ true
sound q = passed q.header_sound.ensures (ap not q.if-not-header_sound.false)

pub returns-then-not-header_sound : goal.returns-then-not-header_sound
returns-then-not-header_sound c = header_refused c.args.pool.now c.args.table c.args.iter (failed c.header_sound.ensures (ap not c.if-not-header_sound.true))

pub returns-then-iter-gt0 : goal.returns-then-iter-gt0
returns-then-iter-gt0 c =
    subst (Placed c.args.pool.now c.args.table c.args.iter) (sym c.place_below.ensures)
    (below_placed c.args.pool.now c.args.table c.args.iter (sound (goal.at.returns-then-iter-gt0 c).Else-not-header_sound) c.if-iter-gt0.true)

pub returns-then-iter-ne0 : goal.returns-then-iter-ne0
returns-then-iter-ne0 c =
    root_refused c.args.pool.now c.args.table c.args.iter (sound (goal.at.returns-then-iter-ne0 c).Else-not-header_sound) (omega (arith, c.if-iter-gt0.false))
    (elim c.then-iter-ne0.branch [ then-iter-ne0-via-then-iter-ne0 w ↦ inl w.if-iter-ne0.true | then-iter-ne0-via-else-iter-ne0+then-iter-ne0-2 w ↦ inr w.if-iter-ne0-2.true ])

pub returns : goal.returns
returns c =
    root_placed c.args.pool.now c.args.table c.args.iter (sound (goal.at.returns c).Else-not-header_sound) (omega (arith, c.if-iter-gt0.false)) c.if-iter-ne0.false c.if-iter-ne0-2.false
