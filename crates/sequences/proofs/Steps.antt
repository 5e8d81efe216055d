-- Inserts and removals one after another, each accepted, leave the layers of the set that the sequence means, whatever happens elsewhere in the pool; and
-- the kinds stay.
use Prim.Native.Nat.{ℕ, ◌+◌, ◌*◌, ◌≤◌, ◌<◌}
use mathlib.Core.Path.{◌≡◌, refl, sym, ap, ap₂, subst, subst₂, ◌∙◌}
use mathlib.Core.Bool.{Bool}
use mathlib.Core.Logic.{⊎_elim}
use mathlib.Core.List.Memᴰ
use mathlib.Core.List.{List, [], ◌∷◌, ◌++◌, map}
use native.Mathlib.Omega.{arith}
use lib.ListN.{length, take, drop}
use lib.Seq.{ext_get_or}
use Rattle.relation.specs.Order.{Row}
use Rattle.relation.specs.Lists.{◌∈◌, hd, tl, in_cons}
use Rattle.relation.specs.Rows.{Members, put, as_set}
use Rattle.relation.specs.Layers.{Layer, no_layer}
use Rattle.relation.specs.Paths.{rows_of}
use Rattle.relation.specs.Undamaged as layers
use Rattle.relation.proofs.Sorting.{as_set_cong}
use Rattle.column_trie.specs.Pool.{spot}
use Rattle.column_trie.specs.Table.{data_len_at, interval_len_at, layers_in, layer_in, Undamaged}
use Rattle.column_trie.specs.declared.ColumnTrie.{ColumnTrie}
use Rattle.column_trie.proofs.Header.{LayerFits, layer_fits, layer_inside, length_part}
use Rattle.column_trie.proofs.Layers.{Whole, layers_length, layers_at}
use Rattle.column_trie.proofs.Pool.{spot_is}
use Rattle.column_trie.proofs.Stored.{in_pool}
use Rattle.column_trie.proofs.Words.{part_at}
use Rattle.column_trie_remove.specs.Remove.{without}
use Rattle.insert_laws.proofs.Laws.{Table, an_insert_keeps_the_kinds, insert_leaves_the_layers_of_the_set_of_the_old_rows_and_the_new_one}
use Rattle.removal_laws.proofs.Laws.{a_removal_keeps_the_kinds, removal_leaves_the_layers_of_the_remaining_rows}
use Rattle.sequences.specs.Steps.{Step, puts, meant, Apart, Done, no_more, elsewhere, inserted, removed}

-- ---- what happens elsewhere

module _ {pool pool₁ : List ℕ} {t : ColumnTrie} (o : Whole t) (u : Undamaged pool t) (a : Apart t pool pool₁) where
  part_same : (b n : ℕ) → t.start ≤ b → b + n ≤ t.start + 2 * t.arity * t.capacity → take n (drop b pool₁) ≡ take n (drop b pool)
  part_same b n h k =
      let l = length_part pool₁ b n (omega (arith, a.size, u.fits)) in
      ext_get_or 0 (take n (drop b pool₁)) (take n (drop b pool)) (l ∙ sym (length_part pool b n (omega (arith, u.fits))))
      (λ j q. let m : j < n = omega (arith, l) in part_at pool₁ b n j m ∙ a.own (b + j) (omega arith) (omega arith) ∙ sym (part_at pool b n j m))

  layer_same : (d : ℕ) → d < t.arity → layer_in pool₁ t d ≡ layer_in pool t d
  layer_same d h =
      let f : LayerFits (length pool) t d = layer_fits (in_pool u) h in
      let i = layer_inside t.start t.arity t.capacity d h in
      let s = spot_is t.start t.capacity d in
      ap₂ {C = Layer} (λ ks is. record { keys = ks; intervals = is })
      (part_same (spot t.start t.capacity d) (data_len_at t d) (omega arith) (omega (arith, f)))
      (part_same (spot t.start t.capacity d + t.capacity) (interval_len_at t d) (omega arith) (omega (arith, f)))

  layers_same : layers_in pool₁ t ≡ layers_in pool t
  layers_same =
      let long = layers_length pool₁ t o u.arity.1 in
      ext_get_or no_layer (layers_in pool₁ t) (layers_in pool t) (long ∙ sym (layers_length pool t o u.arity.1))
      (λ d q. let h : d < t.arity = omega (arith, long) in layers_at pool₁ t o u.arity.1 d h ∙ layer_same d h ∙ sym (layers_at pool t o u.arity.1 d h))

  undamaged_same : Undamaged pool₁ t
  undamaged_same =
      record {
        arity = u.arity;
        capacity = u.capacity;
        fits = omega (arith, a.size, u.fits);
        within = u.within;
        past = u.past;
        plain = u.plain;
        layers = subst (λ (ls : List Layer). layers.Undamaged t.arity t.capacity ls t.tuple_count) (sym layers_same) u.layers;
      }

-- a table whose own words stay is the table that it was
pub a_table_is_its_own_words : {start arity capacity : ℕ} {kinds : List Bool} {rows : List Row} {pool pool₁ : List ℕ} {t : ColumnTrie} → Table start arity capacity kinds rows pool t → Apart t pool pool₁ → Table start arity capacity kinds rows pool₁ t
a_table_is_its_own_words h a =
    let e = layers_same h.whole h.undamaged a in
    record {
      whole = h.whole;
      undamaged = undamaged_same h.whole h.undamaged a;
      rows_are = ap rows_of e ∙ h.rows_are;
      layers_are = e ∙ h.layers_are;
      header_is = h.header_is;
    }

-- ---- one step after another

-- "Demand 2's layers now speak of any sequence of inserts and removals from a build, as long as nothing else changes the table's words between."
pub any_sequence_leaves_the_set_that_it_means :
    {start arity capacity : ℕ} {kinds : List Bool} {rows : List Row} {pool pool₂ : List ℕ} {t t₂ : ColumnTrie} {steps : List Step} → Table start arity capacity kinds rows pool t → Done pool t steps pool₂ t₂ → Table start arity capacity kinds (meant steps rows) pool₂ t₂
unfolding meant
any_sequence_leaves_the_set_that_it_means h no_more = h
any_sequence_leaves_the_set_that_it_means h (elsewhere a rest) = any_sequence_leaves_the_set_that_it_means (a_table_is_its_own_words h a) rest
any_sequence_leaves_the_set_that_it_means {rows = rows} h (inserted {pool₁ = pool₁} {tuple = tuple} {r = r} s z rest) =
    any_sequence_leaves_the_set_that_it_means {rows = put tuple rows}
    (subst₂ (λ (x : ColumnTrie) (qs : List Row). Table x.start x.arity x.capacity x.grade (put tuple qs) pool₁ r.table) h.header_is h.rows_are
    (insert_leaves_the_layers_of_the_set_of_the_old_rows_and_the_new_one h.whole s z))
    rest
any_sequence_leaves_the_set_that_it_means {rows = rows} h (removed {pool₁ = pool₁} {tuple = tuple} {r = r} s z rest) =
    any_sequence_leaves_the_set_that_it_means {rows = without tuple rows}
    (subst₂ (λ (x : ColumnTrie) (qs : List Row). Table x.start x.arity x.capacity x.grade (without tuple qs) pool₁ r.table) h.header_is h.rows_are
    (removal_leaves_the_layers_of_the_remaining_rows h.whole s z))
    rest

pub any_sequence_keeps_the_kinds : {pool pool₂ : List ℕ} {t t₂ : ColumnTrie} {steps : List Step} → Done pool t steps pool₂ t₂ → t₂.grade ≡ t.grade
any_sequence_keeps_the_kinds no_more = refl
any_sequence_keeps_the_kinds (elsewhere a rest) = any_sequence_keeps_the_kinds rest
any_sequence_keeps_the_kinds (inserted s z rest) = any_sequence_keeps_the_kinds rest ∙ an_insert_keeps_the_kinds s
any_sequence_keeps_the_kinds (removed s z rest) = any_sequence_keeps_the_kinds rest ∙ a_removal_keeps_the_kinds s

-- ---- inserts alone

-- the same members, whether a row stands before or behind others
moved : (x : Row) (xs ys : List Row) → Members (xs ++ (x ∷ ys)) ((x ∷ xs) ++ ys)
moved x xs ys q = (
  λ m. ⊎_elim (λ (a : q ∈ xs). tl (Memᴰ.append_left ys a)) (λ (a : q ∈ (x ∷ ys)). ⊎_elim (λ (e : q ≡ x). hd e) (λ (b : q ∈ ys). tl (Memᴰ.append_right xs b)) (in_cons a)) (Memᴰ.append_cases xs m),
  λ m. ⊎_elim (λ (e : q ≡ x). Memᴰ.append_right xs (hd e)) (λ (a : q ∈ (xs ++ ys)). ⊎_elim (λ (b : q ∈ xs). Memᴰ.append_left (x ∷ ys) b) (λ (b : q ∈ ys). Memᴰ.append_right xs (tl b)) (Memᴰ.append_cases xs a)) (in_cons m),
)

-- they mean the set of all rows: those that were given before, and those inserted
pub inserts_mean_the_set_of_all_rows_given : (tuples given : List Row) → meant (map puts tuples) (as_set given) ≡ as_set (tuples ++ given)
unfolding meant as_set
inserts_mean_the_set_of_all_rows_given [] given = refl
inserts_mean_the_set_of_all_rows_given (tuple ∷ tuples) given =
    inserts_mean_the_set_of_all_rows_given tuples (tuple ∷ given) ∙ as_set_cong (tuples ++ (tuple ∷ given)) ((tuple ∷ tuples) ++ given) (moved tuple tuples given)
