-- What one more row of a sorted list does to the layers: the first row, a later one, and one that is equal to the row before it.
use Prim.Native.Nat.{ℕ, zero, suc, ◌+◌, ◌≤◌, ◌<◌}
use mathlib.Core.Path.{◌≡◌, sym, ap, ◌∙◌}
use mathlib.Core.List.{List, [], ◌∷◌, ◌++◌}
use native.Mathlib.Omega.{arith}
use lib.ListN.{length, take, get_or}
use lib.Seq.{take-suc, ext_get_or}
use Rattle.relation.specs.Order.{Row}
use Rattle.relation.specs.Lists.{◌∈◌, hd, tl, not_in_nil}
use Rattle.relation.specs.Rows.{Sorted, Width}
use Rattle.relation.specs.Layers.{Layer, layer, no_layer, layers_of}
use Rattle.relation.proofs.Order.{shared}
use Rattle.relation.proofs.Layers.{ranked_at, length_keys, length_intervals, build_one, build_none}
use Rattle.relation.proofs.Intervals.{layer_ranked}
use Rattle.relation.proofs.Relations.{length_prefixes}
use Rattle.relation.proofs.Words.{turn_known, turn_keys, turn_first, turn_new}
use Rattle.relation.proofs.Tables.{layers_count}
use Rattle.column_trie.specs.declared.ColumnTrie.{ColumnTrie}
use Rattle.from_sorted.specs.Push.{keyed, opened, Turn, Pushing}
use Rattle.from_sorted.proofs.Columns.{Setting}

in_rows : (n : ℕ) (rows : List Row) {q : Row} → q ∈ take n rows → q ∈ rows
in_rows zero rows m = absurd (not_in_nil m)
in_rows (suc n) [] m = absurd (not_in_nil m)
in_rows (suc n) (r ∷ rs) (hd e) = hd e
in_rows (suc n) (r ∷ rs) (tl m) = tl (in_rows n rs m)

pub width_take : {a : ℕ} {rows : List Row} (n : ℕ) → Width a rows → Width a (take n rows)
width_take {rows = rows} n w q m = w q (in_rows n rows m)

-- no list of a layer is longer than the rows. Layers are by ranks here, which is the form that the steps of a build are proved in
layers_room : {a : ℕ} {rows : List Row} → Width a rows → (d : ℕ) → d < a → (length (layer (layers_of a rows) d).keys ≤ length rows) × (length (layer (layers_of a rows) d).intervals ≤ length rows)
layers_room {rows = rows} w d h = (
  omega (arith, ap (λ (l : Layer). length l.keys) (layer_ranked w d h), length_keys d rows, length_prefixes (suc d) rows),
  omega (arith, ap (λ (l : Layer). length l.intervals) (layer_ranked w d h), length_intervals d rows, length_prefixes d rows),
)

pub setting : {len : ℕ} {t : ColumnTrie} {ks is : List ℕ} {old : List Row} {row : Row} {from opens : ℕ} → Pushing len t ks is old row from opens → Setting len t (layers_of t.arity old) (layers_of t.arity (old ++ (row ∷ []))) row from opens
setting {t = t} {old = old} {row = row} p =
    record {
      few = p.few;
      small = p.small;
      fits = p.fits;
      size = layers_count t.arity 0 old;
      size' = layers_count t.arity 0 (old ++ (row ∷ []));
      room = λ d h. (omega (arith, layers_room p.width d h, p.room), omega (arith, layers_room p.width d h, p.room));
      turn = p.turn;
    }

-- the first row
pub turn_one : {a : ℕ} {rows : List Row} → 0 < a → Width a rows → 0 < length rows → Turn a (layers_of a (take 0 rows)) (layers_of a (take 1 rows)) (get_or rows 0 []) 0 0
turn_one {a} {rows} pos w h = record {
  inside = pos;
  known = λ d b. absurd (omega arith);
  only = λ d b e. absurd (omega arith);
  under = λ d b e. layer_ranked (width_take 1 w) d e ∙ one d ∙ ap (λ (l : Layer). keyed (get_or (get_or rows 0 []) d 0) (opened l)) (sym (layer_ranked (width_take 0 w) d e ∙ none d));
}
  where
    none : (d : ℕ) → ranked_at d [] ≡ no_layer
    none d = let k = (build_none d).0 in let i = (build_none d).1 in cc

    front : take 1 rows ≡ get_or rows 0 [] ∷ []
    front = take-suc rows 0 [] h

    one : (d : ℕ) → ranked_at d (take 1 rows) ≡ record { keys = get_or (get_or rows 0 []) d 0 ∷ []; intervals = 0 ∷ [] }
    one d = ap (ranked_at d) front ∙ (let k = (build_one d (get_or rows 0 [])).0 in let i = (build_one d (get_or rows 0 [])).1 in cc)

-- a later row, by how many leading keys it shares with the row before it
module _ {a : ℕ} {rows : List Row} (w : Width a rows) (s : Sorted rows) (i : ℕ) (h : suc i < length rows) where
  old : Width a (take (suc i) rows)
  old = width_take (suc i) w

  new : Width a (take (suc (suc i)) rows)
  new = width_take (suc (suc i)) w

  same_layer : (d : ℕ) → d < shared (get_or rows i []) (get_or rows (suc i) []) → d < a → layer (layers_of a (take (suc (suc i)) rows)) d ≡ layer (layers_of a (take (suc i) rows)) d
  same_layer d k b =
      let v = turn_known a rows w s i h d k in
      let x = v.0 in
      let y = v.1 in
      layer_ranked new d b ∙ (let z : ranked_at d (take (suc (suc i)) rows) ≡ ranked_at d (take (suc i) rows) = cc in z) ∙ sym (layer_ranked old d b)

  pub turn_next : shared (get_or rows i []) (get_or rows (suc i) []) < a → Turn a (layers_of a (take (suc i) rows)) (layers_of a (take (suc (suc i)) rows)) (get_or rows (suc i) []) (shared (get_or rows i []) (get_or rows (suc i) [])) (shared (get_or rows i []) (get_or rows (suc i) []) + 1)
  turn_next c = record {
    inside = c;
    known = λ d k. same_layer d k (omega arith);
    only = λ d k l b. layer_ranked new d b ∙ first d k l b ∙ ap (keyed (get_or (get_or rows (suc i) []) d 0)) (sym (layer_ranked old d b));
    under = λ d k b. layer_ranked new d b ∙ later d k b ∙ ap (λ (l : Layer). keyed (get_or (get_or rows (suc i) []) d 0) (opened l)) (sym (layer_ranked old d b));
  }
    where
      first : (d : ℕ) → shared (get_or rows i []) (get_or rows (suc i) []) ≤ d → d < shared (get_or rows i []) (get_or rows (suc i) []) + 1 → d < a → ranked_at d (take (suc (suc i)) rows) ≡ keyed (get_or (get_or rows (suc i) []) d 0) (ranked_at d (take (suc i) rows))
      first d k l b = let x = turn_keys a rows w s i h d k b in let y = turn_first a rows w s i h d (omega arith) b in cc

      later : (d : ℕ) → shared (get_or rows i []) (get_or rows (suc i) []) + 1 ≤ d → d < a → ranked_at d (take (suc (suc i)) rows) ≡ keyed (get_or (get_or rows (suc i) []) d 0) (opened (ranked_at d (take (suc i) rows)))
      later d k b = let x = turn_keys a rows w s i h d (omega arith) b in let y = turn_new a rows w s i h d (omega arith) b in cc

  pub turn_equal : a ≤ shared (get_or rows i []) (get_or rows (suc i) []) → layers_of a (take (suc (suc i)) rows) ≡ layers_of a (take (suc i) rows)
  turn_equal c =
      ext_get_or no_layer (layers_of a (take (suc (suc i)) rows)) (layers_of a (take (suc i) rows)) (layers_count a 0 (take (suc (suc i)) rows) ∙ sym (layers_count a 0 (take (suc i) rows)))
      (λ d b. let e : d < a = omega (arith, layers_count a 0 (take (suc (suc i)) rows)) in same_layer d (omega arith) e)
