-- Into the loop that adds a row: what is required says that the table has room and lacks the row, and that the loop starts where the row leaves the
-- stored ones, or at the top of a table without rows.
use Prim.Native.Nat.{ℕ, ◌<◌}
use mathlib.Core.Path.{◌≡◌, refl, sym, ap, subst}
use mathlib.Core.Bool.{true, false}
use mathlib.Core.List.{List, [], ◌∷◌}
use native.Mathlib.Omega.{arith}
use native.Mathlib.Decide.{ℕ_discrete}
use lib.ListN.{length, take}
use Rattle.relation.specs.Order.{Row}
use Rattle.relation.specs.Lists.{◌∈◌, not_in_nil}
use Rattle.relation.specs.Layers.{prefixes}
use Rattle.relation.proofs.Tests.{not_both}
use Rattle.relation.proofs.Rank.{rank_le}
use Rattle.relation.proofs.Relations.{length_prefixes}
use Rattle.relation.proofs.Insert.{PrefixStored, no_root}
use Rattle.column_trie.specs.Table.{rows_in}
use Rattle.column_trie.specs.declared.ColumnTrie.{ColumnTrie}
use Rattle.column_trie.proofs.Layers.{Whole}
use Rattle.column_trie.proofs.Stored.{in_pool}
use Rattle.column_trie.proofs.Damage.{undamaged_told}
use Rattle.column_trie.proofs.Tables.{Holds, holds}
use Rattle.column_trie_path.proofs.Paths.{path_absent}
use Rattle.column_trie_path.specs.Place.{PathOf}
use Rattle.column_trie_insert.specs.Grow.{Addable}
use Rattle.layer_by_layer.proofs.Changing.{changing_start}
use Rattle.layer_by_layer.proofs.Leaves.{kept_above}
use Rattle.column_trie_path.specs.declared.Path.{Path}
use Rattle.column_trie_insert.proofs.Rows.{Ready, Growing, change}

module _ {pool₀ : List ℕ} {t : ColumnTrie} {rows : List Row} {r : Row} (y : Ready pool₀ t rows r) where
  growing_start : {p : Path} → PathOf t.arity rows r p → p.depth < t.arity → Growing pool₀ t rows r pool₀ t p.depth p.interval p.at false
  growing_start {p} q h =
      record {
        layers = changing_start (change y) p.depth q.depth (λ k b. kept_above t.arity rows r y.held.width y.long k p.depth b q.stored);
        leaves = record { place = q.interval; old = λ f. (h, q.stored, q.leaves h, q.place h); new = λ f. not_both false f refl };
      }

  growing_empty : rows ≡ [] → Growing pool₀ t rows r pool₀ t 0 0 0 true
  growing_empty e =
      record {
        layers = changing_start (change y) 0 (omega arith) (λ k b. absurd (omega arith));
        leaves = record {
          place = omega (arith, rank_le (take 0 r) (prefixes 0 rows), length_prefixes 0 rows, ap length e);
          old = λ f. not_both true refl f;
          new = λ f m. no_root r 0 (subst (λ (qs : List Row). PrefixStored qs r 0) e m);
        };
      }

no_rows : (rows : List Row) → length rows ≡ 0 → rows ≡ []
no_rows [] e = refl
no_rows (q ∷ qs) e = absurd (omega arith)

-- a path that leaves the stored rows leads to no row
pub absent_row :
    {pool : List ℕ} {t : ColumnTrie} {r : Row} {p : Path} → Holds pool t (rows_in pool t) → length r ≡ t.arity → ((t.tuple_count ≡ 0 → ⊥) → PathOf t.arity (rows_in pool t) r p × (p.depth < t.arity)) → r ∈ rows_in pool t → ⊥
absent_row {pool} {t} {r} {p} h l q m = go (ℕ_discrete t.tuple_count 0)
  where
    go : Dec (t.tuple_count ≡ 0) → ⊥
    go (yes e) = not_in_nil (subst (λ (qs : List Row). r ∈ qs) (no_rows (rows_in pool t) (omega (arith, h.counted))) m)
    go (no n) = let z = q n in path_absent h.asc h.width l z.0 z.1 m

-- what the function requires says all that
module _ {pool : List ℕ} {t : ColumnTrie} {r : Row} {p : Path} (o : Whole t) (c : Addable pool t r p) where
  held : Holds pool t (rows_in pool t)
  held = holds o (undamaged_told pool t c.undamaged)

  pub ready : Ready pool t (rows_in pool t) r
  ready =
      record {
        whole = o;
        inside = in_pool (undamaged_told pool t c.undamaged);
        held = held;
        long = c.long;
        room = omega (arith, held.counted, c.room);
        absent = absent_row held c.long c.path;
      }

  pub growing_top : t.tuple_count ≡ 0 → Growing pool t (rows_in pool t) r pool t p.depth p.interval 0 true
  growing_top n =
      let z = c.empty n in
      subst (λ (x : ℕ). Growing pool t (rows_in pool t) r pool t x p.interval 0 true) (sym z.0)
      (subst (λ (x : ℕ). Growing pool t (rows_in pool t) r pool t 0 x 0 true) (sym z.1) (growing_empty ready (no_rows (rows_in pool t) (omega (arith, held.counted)))))

  pub growing_path : (t.tuple_count ≡ 0 → ⊥) → Growing pool t (rows_in pool t) r pool t p.depth p.interval p.at false
  growing_path n = let q = c.path n in growing_start ready q.0 q.1
