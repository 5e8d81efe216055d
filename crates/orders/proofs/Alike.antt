-- Atoms that are the same up to rebuilding allow the same words for their variables. Idea: a row's part for the permuted list is its part for the list, permuted, and
-- a permutation of columns confuses no rows.
use Prim.Native.Nat.{ℕ, ◌<◌}
use native.Mathlib.Omega.{arith}
use mathlib.Core.Path.{◌≡◌, sym, ap, ◌∙◌, subst, subst₂}
use mathlib.Core.List.Memᴰ
use mathlib.Core.List.{List}
use lib.ListN.{length, take, get_or, length-map}
use lib.Seq.{ext_get_or}
use Rattle.relation.specs.Order.{Row}
use Rattle.relation.specs.Lists.{◌∈◌}
use Rattle.relation.specs.Exactly.{Exactly}
use Rattle.relation.proofs.Lists.{get_or_in}
use Rattle.relation.proofs.Sequence.{exactly_then}
use Rattle.query.specs.Meaning as meaning
use Rattle.query.specs.Meaning.{part, Permutation}
use Rattle.column_trie.specs.Table.{rows_in}
use Rattle.permuted_rows.specs.Permuted.{permuted, rows_permuted}
use Rattle.permuted_rows.proofs.Rows.{part_word}
use Rattle.column_trie_permute.proofs.Distinct.{same_row}
use Rattle.permute_laws.proofs.Leaves.{rebuild_accepted, old, a_rebuild_leaves_the_table_with_its_columns_permuted}
use Rattle.join_query.specs.Query.{rows_at}
use Rattle.join_query.proofs.Accepted.{rows_plain}
use Rattle.orders.specs.Orders.{Sited, table_in, list_in, meant, Rebuilt, Alike, equal, there, back, through}

-- the words that the row v gives to the atom's variables are one of its rows
abbrev pub Allows : Sited → Row → Type 0
Allows s v = part (meant s).vars v ∈ (meant s).rows

-- a part for a permuted list
part_part : (cs xs : List ℕ) (v : Row) → ((c : ℕ) → c ∈ cs → c < length xs) → part (part cs xs) v ≡ part cs (part xs v)
part_part cs xs v inside =
    ext_get_or 0 (part (part cs xs) v) (part cs (part xs v)) (many ∙ sym (length-map cs (λ (x : ℕ). get_or (part xs v) x 0))) (λ k h.
    let l : k < length cs = omega (arith, h, many) in
    part_word (part cs xs) v k (omega (arith, l, length-map cs (λ (x : ℕ). get_or xs x 0)))
    ∙ ap (λ (x : ℕ). get_or v x 0) (part_word cs xs k l)
    ∙ sym (part_word cs (part xs v) k l ∙ part_word xs v (get_or cs k 0) (inside (get_or cs k 0) (get_or_in cs k 0 l))))
  where
    many : length (part (part cs xs) v) ≡ length cs
    many = length-map (part cs xs) (λ (x : ℕ). get_or v x 0) ∙ length-map cs (λ (x : ℕ). get_or xs x 0)

module _ {a b : Sited} (e : Rebuilt a b) (v : Row) where
  abbrev cs : List ℕ
  cs = take (table_in a).arity e.columns

  permutation : Permutation (table_in a).arity cs
  permutation = (rebuild_accepted e.whole e.long e.permutes e.accepted).permutation

  abbrev mine : Row
  mine = part (list_in a) v

  long : length mine ≡ (table_in a).arity
  long = length-map (list_in a) (λ (x : ℕ). get_or v x 0) ∙ e.fits

  yours : part (list_in b) v ≡ part cs mine
  yours = ap (λ (l : List ℕ). part l v) e.list ∙ part_part cs (list_in a) v (λ c m. omega (arith, permutation.below c m, e.fits))

  abbrev old_rows : List Row
  old_rows = rows_in a.pool (table_in a)

  rows_of_a : rows_at a.pool a.tables a.atom ≡ old_rows
  rows_of_a = rows_plain a.pool a.tables a.atom e.plain

  rows_of_b : rows_at b.pool b.tables b.atom ≡ rows_in e.left e.answer.table
  rows_of_b = rows_plain b.pool b.tables b.atom e.plain' ∙ (e.kept ∙ ap (rows_in e.left) e.table)

  members : (w : Row) → Exactly (w ∈ rows_in e.left e.answer.table) (w ∈ rows_permuted a.pool (table_in a) e.columns)
  members = (a_rebuild_leaves_the_table_with_its_columns_permuted e.whole e.long e.permutes e.accepted).members

  pub rebuilt_allows : Exactly (Allows a v) (Allows b v)
  unfolding permuted
  rebuilt_allows = (forth, aback)
    where
      forth : Allows a v → Allows b v
      forth m = subst₂ (λ (w : Row) (rows : List Row). w ∈ rows) (sym yours) (sym rows_of_b) ((members (part cs mine)).1 (Memᴰ.map (part cs) (subst (λ (rows : List Row). mine ∈ rows) rows_of_a m)))

      aback : Allows b v → Allows a v
      aback m =
          let f = Memᴰ.of_map (part cs) old_rows ((members (part cs mine)).0 (subst₂ (λ (w : Row) (rows : List Row). w ∈ rows) yours rows_of_b m)) in
          let wide = (old e.whole e.long e.permutes e.accepted).width f.0 f.1 in
          subst₂ (λ (w : Row) (rows : List Row). w ∈ rows) (same_row permutation f.0 mine wide long f.2) (sym rows_of_a) f.1

pub alike_allows : {a b : Sited} → Alike a b → (v : Row) → Exactly (Allows a v) (Allows b v)
alike_allows (equal e) v = (subst (λ (x : meaning.Atom). part x.vars v ∈ x.rows) e, subst (λ (x : meaning.Atom). part x.vars v ∈ x.rows) (sym e))
alike_allows (there e) v = rebuilt_allows e v
alike_allows (back e) v = let f = rebuilt_allows e v in (f.1, f.0)
alike_allows (through d e) v = exactly_then (alike_allows d v) (alike_allows e v)
