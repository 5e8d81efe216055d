-- `ColumnTrieIter::new` gives one cursor: any two that its contract allows are equal. The other calls are exported, and the crates that export them have theirs.
use mathlib.Core.Path.{◌≡◌, sym, ◌∙◌}
use contract.Lifetimes.{Lfts}
use Rattle.column_trie_place.specs.declared.ColumnTrieIter.{ColumnTrieIter}
use Rattle.column_trie_place.proofs.ColumnTrieIter.new.Reads.{Post}

pub new : (κs : Lfts 0) (r₁ r₂ : ColumnTrieIter) → Post κs tt r₁ tt → Post κs tt r₂ tt → r₁ ≡ r₂
new κs r₁ r₂ p q = p ∙ sym q
