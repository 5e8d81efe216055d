-- "Permuting and permuting back, both accepted, gives the first table's layers": and its rows, its kinds, and its header where it is put in the same place with
-- the same capacity. Idea: each word of a row goes where it came from, so the rows come back, and a relation has one ascending list.
use Prim.Native.Nat.{ℕ, ◌-◌, ◌<◌}
use native.Mathlib.Omega.{arith}
use mathlib.Core.Path.{◌≡◌, sym, ap, ap₂, ◌∙◌, subst}
use mathlib.Core.Bool.{Bool, false}
use mathlib.Core.List.Memᴰ
use mathlib.Core.List.{List, ◌++◌, map}
use lib.ListN.{length, take, get_or, replicate, length-map, get_or-append}
use lib.Seq.{ext_get_or, get_or-take, length-take-le, take_all}
use Rattle.relation.specs.Order.{Row}
use Rattle.relation.specs.Lists.{◌∈◌}
use Rattle.relation.specs.Rows.{Members}
use Rattle.relation.specs.Layers.{layers_of}
use Rattle.relation.proofs.Sorting.{as_set_is}
use Rattle.query.specs.Meaning.{part}
use Rattle.column_trie.specs.Limits.{max_arity}
use Rattle.column_trie.specs.Table.{table_of, layers_in, rows_in, grade_at, Undamaged}
use Rattle.column_trie.specs.declared.ColumnTrie.{ColumnTrie}
use Rattle.column_trie.proofs.Layers.{Whole}
use Rattle.from_sorted.specs.Answer.{kept_kinds}
use Rattle.from_sorted.specs.declared.Built.{Built}
use Rattle.from_sorted.proofs.Taken.{kept_own}
use Rattle.permuted_rows.specs.Permuted.{permuted, rows_permuted}
use Rattle.permuted_rows.proofs.Rows.{part_word}
use Rattle.column_trie_permute.specs.Permute.{kinds_permuted, rows_left, Permutes}
use Rattle.column_trie_permute.proofs.Columns.{map_at}
use Rattle.permute_laws.proofs.Leaves.{PermutedTable, sound, old, size, rebuilt_table, rebuilt_whole, a_rebuild_leaves_the_table_with_its_columns_permuted}

-- `back` undoes `columns`: it names, for each old column, the place that it went to
abbrev pub Undoes : ℕ → List ℕ → List ℕ → Type 0
Undoes arity columns back = (k : ℕ) → k < arity → (get_or back k 0 < arity) × (get_or columns (get_or back k 0) 0 ≡ k)

-- the table that came back into `into` is t: its rows, its columns' kinds, the words of its layers; and its header, in the same place with the same capacity
pub record GivenBack (pool : List ℕ) (t : ColumnTrie) (start capacity : ℕ) (into : List ℕ) (r : ColumnTrie) : Type 0 where
  pub undamaged : Undamaged into r
  pub rows : rows_in into r ≡ rows_in pool t
  pub layers : layers_in into r ≡ layers_in pool t
  pub kinds : r.grade ≡ t.grade
  pub header : start ≡ t.start → capacity ≡ t.capacity → r ≡ t

module _ {pool : List ℕ} {t : ColumnTrie} {columns into : List ℕ} {start capacity : ℕ} {into' : List ℕ} {r : Built} (o : Whole t) (g : length t.grade ≡ max_arity) (long : length columns ≡ max_arity) (b : Permutes pool t columns into start capacity into' r) (z : r.number ≡ 0) where
  there : PermutedTable pool t columns into' r.table
  there = a_rebuild_leaves_the_table_with_its_columns_permuted o long b z

  arity : r.table.arity ≡ t.arity
  arity = ap (λ (x : ColumnTrie). x.arity) (rebuilt_table o long b z)

  -- a row permuted, and permuted back
  row_back : (back : List ℕ) → length back ≡ max_arity → Undoes t.arity columns back → (v : Row) → length v ≡ t.arity → part (take t.arity back) (part (take t.arity columns) v) ≡ v
  row_back back l u v w =
      let cs = take t.arity columns in
      let bs = take t.arity back in
      let few = (sound o long b z).arity.1 in
      let many : length bs ≡ t.arity = length-take-le t.arity back (omega (arith, few)) in
      ext_get_or 0 (part bs (part cs v)) v (length-map bs _ ∙ many ∙ sym w) (λ k h.
      let d : k < t.arity = omega (arith, length-map bs (λ (x : ℕ). get_or (part cs v) x 0), many) in
      let q = u k d in
      part_word bs (part cs v) k (omega (arith, many))
      ∙ ap (λ (x : ℕ). get_or (part cs v) x 0) (get_or-take t.arity back k 0 d)
      ∙ part_word cs v (get_or back k 0) (omega (arith, size o long b z, q.0))
      ∙ ap (λ (x : ℕ). get_or v x 0) (get_or-take t.arity columns (get_or back k 0) 0 q.0 ∙ q.1))

  module _ {back second : List ℕ} {start₂ capacity₂ : ℕ} {second' : List ℕ} {r₂ : Built} (l : length back ≡ max_arity) (undoes : Undoes t.arity columns back) (c : Permutes into' r.table back second start₂ capacity₂ second' r₂) (y : r₂.number ≡ 0) where
    new : Whole r.table
    new = rebuilt_whole o long b z

    here_again : PermutedTable into' r.table back second' r₂.table
    here_again = a_rebuild_leaves_the_table_with_its_columns_permuted new l c y

    -- the rows permuted back are the first ones
    again : Members (rows_permuted into' r.table back) (rows_in pool t)
    unfolding permuted
    again v = (from, to)
      where
        cs : List ℕ
        cs = take t.arity columns

        bs : List ℕ
        bs = take r.table.arity back

        same : (w : Row) → w ∈ rows_in pool t → part bs (part cs w) ≡ w
        same w m = ap (λ (a : ℕ). part (take a back) (part cs w)) arity ∙ row_back back l undoes w ((old o long b z).width w m)

        from : v ∈ rows_permuted into' r.table back → v ∈ rows_in pool t
        from m =
            let f = Memᴰ.of_map (part bs) (rows_in into' r.table) m in
            let h = Memᴰ.of_map (part cs) (rows_in pool t) ((there.members f.0).0 f.1) in
            subst (λ (w : Row). w ∈ rows_in pool t) (sym (same h.0 h.1) ∙ ap (part bs) h.2 ∙ f.2) h.1

        to : v ∈ rows_in pool t → v ∈ rows_permuted into' r.table back
        to m = subst (λ (w : Row). w ∈ rows_permuted into' r.table back) (same v m) (Memᴰ.map (part bs) ((there.members (part cs v)).1 (Memᴰ.map (part cs) m)))

    rows_again : rows_left into' r.table back ≡ rows_in pool t
    rows_again = as_set_is (old o long b z).asc again

    -- each kind goes where its column does, and comes back with it
    kind_there : (c : ℕ) → c < t.arity → grade_at r.table c ≡ grade_at t (get_or columns c 0)
    kind_there c h =
        let ks = kinds_permuted t columns in
        let many : length ks ≡ t.arity = length-map (take t.arity columns) (λ (x : ℕ). grade_at t x) ∙ size o long b z in
        ap (λ (gs : List Bool). get_or gs c false) there.kinds
        ∙ get_or-append (take t.arity ks) _ false c (omega (arith, h, length-take-le t.arity ks (omega (arith, many))))
        ∙ get_or-take t.arity ks c false h
        ∙ map_at (λ (x : ℕ). grade_at t x) (take t.arity columns) c (omega (arith, h, size o long b z))
        ∙ ap (grade_at t) (get_or-take t.arity columns c 0 h)

    kinds_list : map (λ (c : ℕ). grade_at r.table c) (take t.arity back) ≡ take t.arity t.grade
    kinds_list =
        let few = (sound o long b z).arity.1 in
        let bs = take t.arity back in
        let many : length bs ≡ t.arity = length-take-le t.arity back (omega (arith, few)) in
        let all : length (map (λ (c : ℕ). grade_at r.table c) bs) ≡ t.arity = length-map bs (λ (c : ℕ). grade_at r.table c) ∙ many in
        ext_get_or false (map (λ (c : ℕ). grade_at r.table c) bs) (take t.arity t.grade) (all ∙ sym (length-take-le t.arity t.grade (omega (arith, few, g)))) (λ k h.
        let d : k < t.arity = omega (arith, h, all) in
        map_at (λ (c : ℕ). grade_at r.table c) bs k (omega (arith, d, many))
        ∙ ap (grade_at r.table) (get_or-take t.arity back k 0 d)
        ∙ kind_there (get_or back k 0) (undoes k d).0
        ∙ ap (grade_at t) (undoes k d).1
        ∙ sym (get_or-take t.arity t.grade k false d))

    kinds_again : kept_kinds r.table.arity (kinds_permuted r.table back) ≡ t.grade
    kinds_again =
        let few = (sound o long b z).arity.1 in
        ap (λ (a : ℕ). kept_kinds a (map (λ (c : ℕ). grade_at r.table c) (take a back))) arity
        ∙ ap (kept_kinds t.arity) kinds_list
        ∙ ap (λ (ks : List Bool). ks ++ replicate (max_arity - t.arity) false) (take_all t.arity (take t.arity t.grade) (omega (arith, length-take-le t.arity t.grade (omega (arith, few, g)))))
        ∙ kept_own g few (sound o long b z).plain

    table_again : r₂.table ≡ table_of start₂ t.arity capacity₂ t.grade (rows_in pool t)
    table_again =
        rebuilt_table new l c y
        ∙ ap₂ (table_of start₂ r.table.arity capacity₂) kinds_again rows_again
        ∙ ap (λ (a : ℕ). table_of start₂ a capacity₂ t.grade (rows_in pool t)) arity

    pub permuting_and_permuting_back_gives_the_first_table : GivenBack pool t start₂ capacity₂ second' r₂.table
    permuting_and_permuting_back_gives_the_first_table = record {
      undamaged = here_again.undamaged;
      rows = here_again.rows ∙ rows_again;
      layers = here_again.layers ∙ ap₂ layers_of arity rows_again ∙ sym (old o long b z).layers;
      kinds = here_again.kinds ∙ kinds_again;
      header = λ s e. table_again ∙ ap₂ (λ (m k : ℕ). table_of m t.arity k t.grade (rows_in pool t)) s e ∙ sym (old o long b z).table;
    }
