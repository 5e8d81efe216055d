-- Public: what a listing answers, and what it leaves in the buffer.
use Rattle.std.specs.Prelude.{ℕ, ◌≡◌, List, ◌++◌, length, drop, leb, eqb}
use Rattle.relation.specs.Order.{pick}
use Rattle.column_trie.specs.Table.{layers_in, undamaged}
use Rattle.column_trie.specs.declared.ColumnTrie.{ColumnTrie}
use Rattle.column_trie_listing.specs.declared.Listed.{Listed}
use Rattle.layer_text.specs.Text.{text}

-- 6 for a damaged table, 14 for a text that is longer than the buffer
unfoldable pub list_number : List ℕ → ColumnTrie → ℕ → ℕ
list_number pool t room = pick (undamaged pool t) (pick (leb (length (text (layers_in pool t))) room) 0 14) 6

pub record Lists (pool : List ℕ) (t : ColumnTrie) (bytes bytes' : List ℕ) (r : Listed) : Type 0 where
  pub number : r.number ≡ list_number pool t (length bytes)
  -- the text's length; 0 where refused
  pub len : r.len ≡ pick (eqb (list_number pool t (length bytes)) 0) (length (text (layers_in pool t))) 0
  -- the text at the front, bytes behind it as they were; nothing changed where refused
  pub written : bytes' ≡ pick (eqb (list_number pool t (length bytes)) 0) (text (layers_in pool t) ++ drop (length (text (layers_in pool t))) bytes) bytes
