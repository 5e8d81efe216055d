-- The tie between tables in the pool and relations: an undamaged table is a relation's layers, stored, with their header; and a relation's layers, stored
-- within the limits, are an undamaged table that holds the relation.
use Prim.Native.Nat.{ℕ, ◌+◌, ◌*◌, ◌-◌, ◌≤◌, ◌<◌}
use mathlib.Core.Path.{◌≡◌, sym, ap, ap₂, ◌∙◌}
use mathlib.Core.Bool.{Bool}
use mathlib.Core.List.{List}
use native.Mathlib.Omega.{arith}
use lib.ListN.{length}
use Rattle.relation.specs.Order.{Row}
use Rattle.relation.specs.Rows.{Asc, Width}
use Rattle.relation.specs.Layers.{Layer, layers_of}
use Rattle.relation.specs.Paths.{rows_of}
use Rattle.relation.proofs.Tables.{every_undamaged_table_is_what_a_build_of_its_own_rows_leaves, layers_undamaged, layers_rows}
use Rattle.column_trie.specs.Limits.{max_arity, max_capacity}
use Rattle.column_trie.specs.Pool.{store}
use Rattle.column_trie.specs.Table.{header, table_of, refilled, layers_in, rows_in, Undamaged}
use Rattle.column_trie.specs.declared.ColumnTrie.{ColumnTrie}
use Rattle.column_trie.proofs.Layers.{Whole}
use Rattle.column_trie.proofs.Stored.{Plain, stored_layers, stored_undamaged, own_store, own_header}

-- the table in the pool holds the relation `rows`
pub record Holds (pool : List ℕ) (t : ColumnTrie) (rows : List Row) : Type 0 where
  pub asc : Asc rows
  pub width : Width t.arity rows
  pub room : length rows ≤ t.capacity
  pub counted : t.tuple_count ≡ length rows
  pub layers : layers_in pool t ≡ layers_of t.arity rows
  pub table : t ≡ refilled t rows
  pub words : store t.start t.capacity (layers_of t.arity rows) pool ≡ pool

pub holds : {pool : List ℕ} {t : ColumnTrie} → Whole t → Undamaged pool t → Holds pool t (rows_in pool t)
holds {pool} {t} o u =
    let r = every_undamaged_table_is_what_a_build_of_its_own_rows_leaves u.arity.0 u.layers in
    record {
      asc = r.asc;
      width = r.width;
      room = omega (arith, r.counted, u.layers.counted, (u.layers.room (t.arity - 1) (omega (arith, u.arity.0))).0);
      counted = r.counted;
      layers = r.built;
      table = own_header o u ∙ ap₂ (λ (ls : List Layer) (n : ℕ). header t.start t.arity t.capacity t.grade ls n) r.built r.counted;
      words = ap (λ (ls : List Layer). store t.start t.capacity ls pool) (sym r.built) ∙ own_store o u;
    }

-- what a build of the relation leaves, over any pool
pub record Stored (start a c : ℕ) (g : List Bool) (rows : List Row) (pool : List ℕ) : Type 0 where
  pub undamaged : Undamaged (store start c (layers_of a rows) pool) (table_of start a c g rows)
  pub layers_back : layers_in (store start c (layers_of a rows) pool) (table_of start a c g rows) ≡ layers_of a rows
  pub rows_back : rows_in (store start c (layers_of a rows) pool) (table_of start a c g rows) ≡ rows

pub stored :
    (start a c : ℕ) (g : List Bool) (rows : List Row) (pool : List ℕ) → 0 < a → a ≤ max_arity → 0 < c → c ≤ max_capacity → start + 2 * a * c ≤ length pool → Plain a g → Asc rows → Width a rows → length rows ≤ c →
    Stored start a c g rows pool
stored start a c g rows pool a₀ a₁ c₀ c₁ fits p s w r =
    let u = layers_undamaged c a₀ s w r in
    let back = stored_layers start a c g (layers_of a rows) (length rows) u.arity a₁ pool (λ d h. u.room d (omega (arith, u.arity))) fits in
    record {
      undamaged = stored_undamaged start a c g (layers_of a rows) (length rows) pool a₀ a₁ c₀ c₁ fits p u;
      layers_back = back;
      rows_back = ap rows_of back ∙ layers_rows a₀ s w;
    }
