-- What a table is, in a few theorems: a relation's layers are undamaged and give it back, every undamaged table is what a build of its own rows
-- leaves, layers depend on the set of rows alone, and each group holds the keys under its prefix. They speak of the layers by groups, as specs/
-- has them; the proofs elsewhere go by ranks, and `ranked` carries each over.
use Prim.Native.Nat.{ℕ, zero, suc, ◌+◌, ◌≤◌, ◌<◌}
use mathlib.Core.Path.{◌≡◌, refl, sym, ap, ◌∙◌, subst}
use mathlib.Core.List.{List}
use native.Mathlib.Omega.{arith}
use lib.ListN.{length}
use Rattle.relation.specs.Order.{Row}
use Rattle.relation.specs.Rows.{Asc, Width, Members}
use Rattle.relation.specs.Layers.{Layer, joined, starts, groups_at, layer_at, layers_from, layers_of}
use Rattle.relation.specs.Undamaged.{Undamaged}
use Rattle.relation.specs.Paths.{rows_of}
use Rattle.relation.proofs.Layers.{keys_at, intervals_at, ranked_at}
use Rattle.relation.proofs.Paths.{ranked_from, undamaged_held, undamaged_count}
use Rattle.relation.proofs.Relations.{relation_rows, relation_undamaged}
use Rattle.relation.proofs.Groups.{layer_groups}
use Rattle.relation.proofs.Insert.{layers_cong}

pub layers_count : (n d : ℕ) (rows : List Row) → length (layers_from d n rows) ≡ n
unfolding layers_from
layers_count zero d rows = refl
layers_count (suc n) d rows = ap suc (layers_count n (suc d) rows)

-- the two forms of a layer
pub ranked_at_lem : {a : ℕ} {rows : List Row} (d : ℕ) → Width a rows → d < a → ranked_at d rows ≡ layer_at d rows
unfolding layer_at
ranked_at_lem {a} {rows} d w h =
    let g = layer_groups d w h in
    let k : keys_at d rows ≡ joined (groups_at d rows) = g.0 in
    let i : intervals_at d rows ≡ starts 0 (groups_at d rows) = g.1 in
    cc

ranked_from_lem : {a : ℕ} {rows : List Row} → Width a rows → (n d : ℕ) → d + n ≤ a → ranked_from d n rows ≡ layers_from d n rows
unfolding ranked_from layers_from
ranked_from_lem w zero d h = refl
ranked_from_lem {a} {rows} w (suc n) d h =
    let e : ranked_at d rows ≡ layer_at d rows = ranked_at_lem d w (omega arith) in
    let r : ranked_from (suc d) n rows ≡ layers_from (suc d) n rows = ranked_from_lem w n (suc d) (omega arith) in
    cc

pub ranked : {a : ℕ} {rows : List Row} → Width a rows → ranked_from 0 a rows ≡ layers_of a rows
ranked {a} w = ranked_from_lem w a 0 (omega arith)

-- a relation's layers are undamaged ..
pub layers_undamaged : {a : ℕ} (c : ℕ) {rows : List Row} → 0 < a → Asc rows → Width a rows → length rows ≤ c → Undamaged a c (layers_of a rows) (length rows)
layers_undamaged {a} c {rows} h s w l = subst (λ (ls : List Layer). Undamaged a c ls (length rows)) (ranked w) (relation_undamaged c h s w l)

-- .. and give it back
pub layers_rows : {a : ℕ} {rows : List Row} → 0 < a → Asc rows → Width a rows → rows_of (layers_of a rows) ≡ rows
layers_rows {a} {rows} h s w = ap rows_of (sym (ranked w)) ∙ relation_rows h s w

-- the rows of an undamaged table: a relation, and the table is its layers
pub record Relation (a : ℕ) (ls : List Layer) (count : ℕ) : Type 0 where
  pub asc : Asc (rows_of ls)
  pub width : Width a (rows_of ls)
  pub counted : count ≡ length (rows_of ls)
  pub built : ls ≡ layers_of a (rows_of ls)

-- "Every undamaged table is what a build of its own rows leaves."
pub every_undamaged_table_is_what_a_build_of_its_own_rows_leaves : {a c : ℕ} {ls : List Layer} {count : ℕ} → 0 < a → Undamaged a c ls count → Relation a ls count
every_undamaged_table_is_what_a_build_of_its_own_rows_leaves h u =
    let r = undamaged_held h u in
    record { asc = r.asc; width = r.width; counted = undamaged_count h u; built = sym r.layers ∙ ranked r.width }

-- equal rows, equal layers
pub equal_rows_equal_layers : {a c e : ℕ} {ls ms : List Layer} {m n : ℕ} → 0 < a → Undamaged a c ls m → Undamaged a e ms n → rows_of ls ≡ rows_of ms → ls ≡ ms
equal_rows_equal_layers {a} h u v e =
    (every_undamaged_table_is_what_a_build_of_its_own_rows_leaves h u).built
    ∙ ap (layers_of a) e
    ∙ sym (every_undamaged_table_is_what_a_build_of_its_own_rows_leaves h v).built

-- layers depend on the set of rows alone
pub layers_members : {a : ℕ} {xs ys : List Row} → Width a xs → Width a ys → Members xs ys → layers_of a xs ≡ layers_of a ys
layers_members {a} {xs} {ys} v w m = sym (ranked v) ∙ layers_cong 0 a xs ys m ∙ ranked w
