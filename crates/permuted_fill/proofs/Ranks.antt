-- Words made and sorted: word j is that of row j of the sorted rows.
use Prim.Native.Nat.{ℕ, ◌+◌, ◌-◌, ◌≤◌, ◌<◌}
use mathlib.Core.Path.{◌≡◌, sym, ap, ◌∙◌}
use mathlib.Core.List.{List, [], ◌++◌, append_assoc}
use native.Mathlib.Omega.{arith}
use lib.ListN.{length, take, drop, get_or}
use lib.Seq.{drop-drop, ext_get_or, sets-eq}
use Rattle.relation.specs.Order.{Row}
use Rattle.relation.specs.Rows.{sort}
use Rattle.column_trie.specs.Pool.{lay}
use Rattle.column_trie.specs.Table.{rows_in}
use Rattle.column_trie.proofs.Damage.{undamaged_told}
use Rattle.column_trie.proofs.Tables.{holds}
use Rattle.permuted_rows.specs.Packed.{number_of}
use Rattle.permuted_rows.specs.Seen.{rows_seen}
use Rattle.permuted_rows.specs.declared.Permuted.{Permuted}
use Rattle.permuted_rows.proofs.Rows.{length_permuted}
use Rattle.number_sort.specs.Numbers.{listed, Sortable}
use Rattle.number_sort.proofs.Listed.{listed_long, listed_at}
use Rattle.permuted_fill.specs.Ranks.{Ranked}

-- as many rows as the table counts
pub rows_count : (rows : Permuted) → length (rows_seen rows) ≡ rows.table.tuple_count
rows_count rows =
    length_permuted (take rows.table.arity rows.columns) (rows_in rows.pool.now rows.table)
    ∙ sym (holds rows.whole (undamaged_told rows.pool.now rows.table rows.legible.sound)).counted

-- the words of the numbers 0, 1, .. stand for the rows as they are
pub listed_all : (rows : List Row) (ns : List ℕ) → length ns ≡ length rows → ((k : ℕ) → k < length ns → number_of (get_or ns k 0) ≡ k) → listed rows ns ≡ rows
listed_all rows ns l f = ext_get_or [] (listed rows ns) rows (listed_long rows ns ∙ l) (λ k h. let b : k < length ns = omega (arith, listed_long rows ns) in listed_at rows ns k b ∙ ap (λ (i : ℕ). get_or rows i []) (f k b))

pub ranked : {rows : Permuted} {ns : List ℕ} (ms : List ℕ) → length ns ≡ rows.table.tuple_count → listed (rows_seen rows) ms ≡ rows_seen rows → Sortable rows ns → listed (rows_seen rows) ns ≡ sort (listed (rows_seen rows) ms) → Ranked rows ns
ranked {rows} {ns} ms l a s e = record {
  long = l;
  many = sym l ∙ sym (listed_long (rows_seen rows) ns) ∙ ap length (e ∙ ap sort a);
  ranks = λ j h. record {
    packed = s.packed j (omega arith);
    row = sym (listed_at (rows_seen rows) ns j (omega arith)) ∙ ap (λ (rs : List Row). get_or rs j []) (e ∙ ap sort a);
  };
}

-- a part written back
pub put_back : (pool ys : List ℕ) (at end : ℕ) → length ys ≡ end - at → at ≤ end → end ≤ length pool → take at pool ++ (ys ++ drop (end - at) (drop at pool)) ≡ lay pool at ys
unfolding lay
put_back pool ys at end l h b = sym (sets-eq ys pool at (omega arith) ∙ append_assoc (take at pool) ys (drop (at + length ys) pool) ∙ ap (λ (zs : List ℕ). take at pool ++ (ys ++ zs)) rest)
  where
    rest : drop (at + length ys) pool ≡ drop (end - at) (drop at pool)
    rest = ap (λ (n : ℕ). drop n pool) (let e : at + length ys ≡ at + (end - at) = omega arith in e) ∙ sym (drop-drop (end - at) at pool)
