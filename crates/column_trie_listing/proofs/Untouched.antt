-- A refused listing gives length 0 and leaves the buffer untouched.
use Prim.Native.Nat.{ℕ}
use mathlib.Core.Path.{◌≡◌, ap, ◌∙◌}
use mathlib.Core.Bool.{Bool, false}
use mathlib.Core.List.{List, ◌++◌}
use lib.ListN.{length, drop}
use lib.Dec.{eqb}
use borrow.Author.Tests.{ne_eqb}
use Rattle.relation.specs.Order.{pick}
use Rattle.column_trie.specs.Table.{layers_in}
use Rattle.column_trie.specs.declared.ColumnTrie.{ColumnTrie}
use Rattle.column_trie_listing.specs.declared.Listed.{Listed}
use Rattle.layer_text.specs.Text.{text}
use Rattle.column_trie_listing.specs.List.{list_number, Lists}

pub record Untouched (bytes bytes' : List ℕ) (r : Listed) : Type 0 where
  pub len : r.len ≡ 0
  pub written : bytes' ≡ bytes

pub a_refused_listing_leaves_everything_untouched : {pool bytes bytes' : List ℕ} {t : ColumnTrie} {r : Listed} → Lists pool t bytes bytes' r → (r.number ≡ 0 → ⊥) → Untouched bytes bytes' r
a_refused_listing_leaves_everything_untouched {pool} {bytes} {bytes'} {t} {r} l n =
    record {
      len = l.len ∙ ap (λ (b : Bool). pick b (length (text (layers_in pool t))) 0) z;
      written = l.written ∙ ap (λ (b : Bool). pick b (text (layers_in pool t) ++ drop (length (text (layers_in pool t))) bytes) bytes) z;
    }
  where
    z : eqb (list_number pool t (length bytes)) 0 ≡ false
    z = ne_eqb (list_number pool t (length bytes)) 0 (λ e. n (l.number ∙ e))
