-- The keys of an atom's rows under a beginning, by its tables' keys, in a query that passed the checks: what an engine reads off the tables is what the query means.
use Prim.Native.Nat.{ℕ, suc, ◌<◌}
use mathlib.Core.Path.{◌≡◌, ap, ◌∙◌}
use mathlib.Core.Bool.{true, false}
use mathlib.Core.List.{List, [], ◌∷◌}
use lib.ListN.{length}
use Rattle.relation.specs.Order.{Row}
use Rattle.relation.specs.Rows.{Width}
use Rattle.relation.specs.Layers.{keys_under}
use Rattle.column_trie.specs.Table.{rows_in}
use Rattle.overlay.specs.Merge.{merge}
use Rattle.overlay.specs.Laid.{owns}
use Rattle.overlay.proofs.Laid.{laid_firsts, laid_school, laid_maker}
use Rattle.join_query.specs.Query.{atom_at, atom_table, atom_maker, rows_at, Accepted}
use Rattle.join_query.specs.declared.Query.{Query}
use Rattle.join_query.specs.declared.Tables.{Tables}
use Rattle.join_query.proofs.Accepted.{table_wide, rows_plain, rows_laid, sound, maker_wide}

module _ {pool : List ℕ} {ts : Tables} {q : Query} {len : ℕ} (z : Accepted pool ts q len) (i : ℕ) (h : i < q.atom_count) where
  -- a plain atom's are its table's
  pub plain_keys : (atom_at q i).laid_over ≡ false → (p : Row) → keys_under p (rows_at pool ts (atom_at q i)) ≡ keys_under p (rows_in pool (atom_table ts q i))
  plain_keys e p = ap (keys_under p) (rows_plain pool ts (atom_at q i) e)

  module _ (e : (atom_at q i).laid_over ≡ true) where
    abbrev school : List Row
    school = rows_in pool (atom_table ts q i)

    abbrev maker : List Row
    maker = rows_in pool (atom_maker ts q i)

    school_wide : Width (atom_table ts q i).arity school
    school_wide = table_wide (sound z i h)

    -- the first keys of one that is laid over: both tables', each once
    pub first_keys : keys_under [] (rows_at pool ts (atom_at q i)) ≡ merge (keys_under [] (rows_in pool (atom_table ts q i))) (keys_under [] (rows_in pool (atom_maker ts q i)))
    first_keys = ap (keys_under []) (rows_laid pool ts (atom_at q i) e) ∙ laid_firsts school_wide (maker_wide z i h e) (sound z i h).arity.0

    -- under a first key k: the school's where it has k, else the maker's
    module _ (k : ℕ) (p : Row) (b : suc (length p) < (atom_table ts q i).arity) where
      pub school_keys : owns (rows_in pool (atom_table ts q i)) k ≡ true → keys_under (k ∷ p) (rows_at pool ts (atom_at q i)) ≡ keys_under (k ∷ p) (rows_in pool (atom_table ts q i))
      school_keys o = ap (keys_under (k ∷ p)) (rows_laid pool ts (atom_at q i) e) ∙ laid_school school_wide (maker_wide z i h e) k p b o

      pub maker_keys : owns (rows_in pool (atom_table ts q i)) k ≡ false → keys_under (k ∷ p) (rows_at pool ts (atom_at q i)) ≡ keys_under (k ∷ p) (rows_in pool (atom_maker ts q i))
      maker_keys o = ap (keys_under (k ∷ p)) (rows_laid pool ts (atom_at q i) e) ∙ laid_maker school_wide (maker_wide z i h e) k p b o
