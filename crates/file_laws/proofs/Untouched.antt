-- A refused read gives no table, its header is all zeros, and it leaves the pool untouched.
use Prim.Native.Nat.{ℕ}
use mathlib.Core.Path.{◌≡◌, ap, ◌∙◌}
use mathlib.Core.List.{List}
use lib.ListN.{length}
use Rattle.column_trie.specs.Table.{empty_table}
use Rattle.from_sorted.specs.declared.Built.{Built}
use Rattle.from_sorted.proofs.Answer.{if_refused}
use Rattle.table_file.specs.File.{parse}
use Rattle.file_read.specs.Read.{read_number, table_read, pool_read, Reads}

pub record Untouched (lent lent' : List ℕ) (r : Built) : Type 0 where
  pub table : r.table ≡ empty_table 0 0 0
  pub words : lent' ≡ lent

pub a_refused_read_leaves_everything_untouched : (bytes lent : List ℕ) (start capacity : ℕ) {lent' : List ℕ} {r : Built} → Reads bytes lent start capacity lent' r → (r.number ≡ 0 → ⊥) → Untouched lent lent' r
a_refused_read_leaves_everything_untouched bytes lent start capacity b n =
    record {
      table = ap (λ (x : Built). x.table) b.answer ∙ if_refused k (table_read (parse bytes) start capacity) (empty_table 0 0 0) z;
      words = b.pool ∙ if_refused k (pool_read (parse bytes) lent start capacity) lent z;
    }
  where
    k : ℕ
    k = read_number (parse bytes) (length lent) start capacity

    z : k ≡ 0 → ⊥
    z e = n (ap (λ (x : Built). x.number) b.answer ∙ e)
