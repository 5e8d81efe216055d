-- The goals of `pack_rows` that the check leaves.
use Prim.Native.Nat.{ℕ, ◌+◌, ◌-◌}
use mathlib.Core.Path.{◌≡◌, sym, ap, ap₂, subst}
use mathlib.Core.List.{List}
use native.Mathlib.Omega.{arith}
use Rattle.column_trie.specs.Table.{layers_in}
use Rattle.column_trie.proofs.Damage.{undamaged_told}
use Rattle.row_path.specs.Path.{OnPath}
use Rattle.row_path.proofs.Keys.{start_path}
use Rattle.row_words.proofs.Walk.{none_packed, wordable, packing_on, all_packed, few_rows}
use Rattle.relation.specs.Layers.{Layer}
use Rattle.column_trie.specs.declared.ColumnTrie.{ColumnTrie}
use Rattle.row_words.proofs.pack_rows.Goals as goal
use Rattle.row_words.proofs.pack_rows.Goals.{After-next_path}

-- the table that the walk goes through is the old one
same : {p q : List ℕ} {t u : ColumnTrie} → (p ≡ q) × (t ≡ u) → layers_in p t ≡ layers_in q u
same e = ap₂ layers_in e.0 e.1

on_path : (c : After-next_path) → OnPath (layers_in c.args.rows.now.pool.now c.args.rows.now.table) c.loop-k.k c.next_path.new.path
on_path c = subst (λ (l : List Layer). OnPath l c.loop-k.k c.next_path.new.path) (same c.intact-table.ensures) c.next_path.ensures

pub loop-k-init : goal.loop-k-init
loop-k-init c =
    let rows = c.args.rows.now in
    (start_path rows.whole (undamaged_told rows.pool.now rows.table rows.legible.sound), none_packed rows c.args.words.now)

pub next_path-requires : goal.next_path-requires
next_path-requires c =
    (omega (arith, c.loop-k-test.true, c.requires, ap (λ (t : ColumnTrie). t.tuple_count) c.intact-table.ensures.1), subst (λ (l : List Layer). OnPath l (c.loop-k.k - 1) c.loop-k.path) (sym (same c.intact-table.ensures)) c.loop-k.invariant.0)

pub row_word-requires : goal.row_word-requires
row_word-requires c = wordable c.args.rows.now (on_path (goal.at.row_word-requires c).After-next_path) (omega (arith, c.loop-k-test.true, c.requires)) (few_rows c.args.rows.now)

pub loop-k-preserved : goal.loop-k-preserved
loop-k-preserved c =
    let rows = c.args.rows.now in
    let i = c.loop-k in
    let e : i.k + 1 - 1 ≡ i.k = omega arith in (
      subst (λ (m : ℕ). OnPath (layers_in rows.pool.now rows.table) m c.next_path.new.path) (sym e) (on_path (goal.at.loop-k-preserved c).After-next_path),
      packing_on rows (on_path (goal.at.loop-k-preserved c).After-next_path) (omega (arith, c.loop-k-test.true, c.requires)) i.invariant.1 (omega (arith, c.loop-k-test.true, i.auto.words)) c.row_word.ensures,
    )

pub returns : goal.returns
returns c = all_packed c.loop-k.invariant.1 (omega (arith, c.loop-k-test.false, c.loop-k.auto.words))
