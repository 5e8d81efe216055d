-- Of theorems: inserts and removals one after another, and the set of rows that such a sequence means.
use Rattle.std.specs.Prelude.{ℕ, ◌+◌, ◌*◌, ◌≤◌, ◌<◌, ◌≡◌, List, [], ◌∷◌, length, get_or}
use Rattle.relation.specs.Order.{Row}
use Rattle.relation.specs.Rows.{put}
use Rattle.column_trie.specs.declared.ColumnTrie.{ColumnTrie}
use Rattle.column_trie_insert.specs.declared.Inserted.{Inserted}
use Rattle.column_trie_insert.specs.Insert.{Inserts}
use Rattle.column_trie_remove.specs.declared.Removed.{Removed}
use Rattle.column_trie_remove.specs.Remove.{without, Removes}

-- a row is put in, or taken out
pub data Step : Type 0 where
  puts : Row → Step
  takes : Row → Step

-- what the steps make of a set of rows, the first step first
unfoldable pub meant : List Step → List Row → List Row
meant [] rows = rows
meant (puts r ∷ steps) rows = meant steps (put r rows)
meant (takes r ∷ steps) rows = meant steps (without r rows)

-- from pool to pool' none of the table's own 2ac words changes, and the pool stays as long
pub record Apart (t : ColumnTrie) (pool pool' : List ℕ) : Type 0 where
  pub size : length pool' ≡ length pool
  pub own : (k : ℕ) → t.start ≤ k → k < t.start + 2 * t.arity * t.capacity → get_or pool' k 0 ≡ get_or pool k 0

-- The steps done one after another, each accepted. Before each, and at the end, other words of the pool may change, but none of the table's
pub data Done : List ℕ → ColumnTrie → List Step → List ℕ → ColumnTrie → Type 0 where
  no_more : {pool : List ℕ} {t : ColumnTrie} → Done pool t [] pool t
  elsewhere : {pool pool₁ pool₂ : List ℕ} {t t₂ : ColumnTrie} {steps : List Step} → Apart t pool pool₁ → Done pool₁ t steps pool₂ t₂ → Done pool t steps pool₂ t₂
  inserted : {pool pool₁ pool₂ : List ℕ} {t t₂ : ColumnTrie} {tuple : Row} {steps : List Step} {r : Inserted} → Inserts pool pool₁ t tuple r → r.number ≡ 0 → Done pool₁ r.table steps pool₂ t₂ → Done pool t (puts tuple ∷ steps) pool₂ t₂
  removed : {pool pool₁ pool₂ : List ℕ} {t t₂ : ColumnTrie} {tuple : Row} {steps : List Step} {r : Removed} → Removes pool pool₁ t tuple r → r.number ≡ 0 → Done pool₁ r.table steps pool₂ t₂ → Done pool t (takes tuple ∷ steps) pool₂ t₂
