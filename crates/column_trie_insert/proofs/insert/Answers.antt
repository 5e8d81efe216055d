-- `column_trie_insert::insert` meets its contract: each way out is one of Inserts.antt.
use mathlib.Core.Path.{◌≡◌, refl, sym, ap, subst, ◌∙◌}
use mathlib.Core.Bool.{true}
use native.Mathlib.Omega.{arith}
use lib.Arith.{lt_of_le-ne}
use lib.ListN.{length}
use Rattle.refusal.specs.Number.{number_of}
use Rattle.refusal.proofs.Numbers.{not_zero}
use Rattle.column_trie.specs.Table.{rows_in, undamaged}
use Rattle.column_trie.proofs.Damage.{undamaged_header}
use Rattle.column_trie.proofs.Layers.{Whole}
use Rattle.column_trie_path.specs.declared.Path.{Path}
use Rattle.column_trie_path.specs.Place.{PathOf}
use Rattle.column_trie_path.proofs.Checks.{accepted}
use Rattle.column_trie_insert.proofs.Inserts.{Located, refused, there_already, full, taken_in, addable}
use borrow.Author.Rules.{rules}
use Rattle.column_trie_insert.proofs.insert.Goals as goal
use Rattle.column_trie_insert.proofs.insert.Goals.{In_default, Joined-table-eq0, then-table-eq0, else-table-eq0}

-- past the checks
passed : (c : In_default) → (undamaged c.args.pool.now c.args.table ≡ true) × (length c.args.tuple.now ≡ c.args.table.arity)
passed c = accepted c.args.pool.now c.args.table c.args.tuple.now c.in_default.ensures

-- the path, once the arms meet
located : (c : Joined-table-eq0) → (undamaged c.args.pool.now c.args.table ≡ true) × (length c.args.tuple.now ≡ c.args.table.arity) → Located c.args.pool.now c.args.table c.args.tuple.now c.if-table-eq0.path
located c p =
    let a = c.args in
    let o : Whole a.table = record { data_long = search rules; interval_long = search rules } in
    elim c.if-table-eq0.branch [
      | else-table-eq0 w ↦ record {
        sound = p.0;
        long = p.1;
        whole = o;
        empty = λ e. absurd (w.if-table-eq0.false e);
        path = λ n. subst (λ (z : Path). PathOf a.table.arity (rows_in a.pool.now a.table) a.tuple.now z) (sym w.path-is) w.find_path-path.ensures;
      }
      | then-table-eq0 w ↦ record {
        sound = p.0;
        long = p.1;
        whole = o;
        empty = λ e. (ap (λ (z : Path). z.depth) w.path-is ∙ w.top-path.ensures.0, ap (λ (z : Path). z.interval) w.path-is ∙ w.top-path.ensures.1);
        path = λ n. absurd (n w.if-table-eq0.true);
      }
    ]

pub returns-in-Err : goal.returns-in-Err
returns-in-Err c =
    let a = c.args in
    let e = c.in-Err.refused in
    refused a.pool.now a.table a.tuple.now (number_of e) c.in-Err.ensures (not_zero e) c.unchanged.result (c.unchanged.ensures.0 ∙ c.number.ensures, c.unchanged.ensures.1, c.unchanged.ensures.2)

pub invariant_of-rows-clause-sound : goal.invariant_of-rows-clause-sound
invariant_of-rows-clause-sound c = undamaged_header c.args.pool.now c.args.table (passed (goal.at.invariant_of-rows-clause-sound c).In_default).0

pub invariant_of-rows-else-table-eq0 : goal.invariant_of-rows-else-table-eq0
invariant_of-rows-else-table-eq0 c = record { undamaged = (passed (goal.at.invariant_of-rows-else-table-eq0 c).In_default).0 }

pub find_path-path-requires : goal.find_path-path-requires
find_path-path-requires c =
    let p = passed (goal.at.find_path-path-requires c).In_default in
    (p.1, lt_of_le-ne (omega arith) (λ z. c.if-table-eq0.false (sym z)))

pub returns-then-path-table : goal.returns-then-path-table
returns-then-path-table c = there_already (located (goal.at.returns-then-path-table c).Joined-table-eq0 (passed (goal.at.returns-then-path-table c).In_default)) c.if-path-table.true c.unchanged-then-path-table.result c.unchanged-then-path-table.ensures

pub returns-then-table : goal.returns-then-table
returns-then-table c = full (located (goal.at.returns-then-table c).Joined-table-eq0 (passed (goal.at.returns-then-table c).In_default)) c.if-path-table.false c.if-table.true c.unchanged-then-table.result (c.unchanged-then-table.ensures.0 ∙ c.number-then-table.ensures, c.unchanged-then-table.ensures.1, c.unchanged-then-table.ensures.2)

pub add_row-grown-requires : goal.add_row-grown-requires
add_row-grown-requires c = addable (located (goal.at.add_row-grown-requires c).Joined-table-eq0 (passed (goal.at.add_row-grown-requires c).In_default)) c.if-path-table.false c.if-table.false

pub returns : goal.returns
returns c =
    taken_in (located (goal.at.returns c).Joined-table-eq0 (passed (goal.at.returns c).In_default)) c.if-path-table.false c.if-table.false c.add_row-grown.new.pool _ (refl, refl) c.add_row-grown.ensures
