-- Layers stored in the pool under the header that describes them: they are read back, the table is undamaged if they are, and every undamaged table
-- is of this kind: its own layers stored over its own pool.
use Prim.Native.Nat.{ℕ, ◌+◌, ◌*◌, ◌≤◌, ◌<◌}
use mathlib.Core.Path.{◌≡◌, refl, sym, ap, ap₂, ◌∙◌, subst}
use mathlib.Core.Bool.{Bool, false}
use mathlib.Core.List.{List, map}
use native.Mathlib.Omega.{arith}
use native.Mathlib.Decide.{dec_lt}
use native.Mathlib.Nat.{mul_comm, mul_assoc}
use lib.ListN.{length, take, drop, get_or, length-map, get_or-map}
use lib.Seq.{get_or-take, ext_get_or, length-take-le}
use Rattle.relation.specs.Layers.{Layer, layer, no_layer}
use Rattle.relation.specs.Undamaged as layers
use Rattle.column_trie.specs.Limits.{max_arity, max_capacity}
use Rattle.column_trie.specs.Pool.{store, spot}
use Rattle.column_trie.specs.Table.{relengthed, data_len_at, interval_len_at, padded, header, layers_in, layer_in, Undamaged}
use Rattle.column_trie.specs.declared.ColumnTrie.{ColumnTrie}
use Rattle.column_trie.proofs.Pool.{Room, spot_is, store_length, store_keys, store_intervals, store_own}
use Rattle.column_trie.proofs.Header.{InPool}
use Rattle.column_trie.proofs.Layers.{Whole, layers_length, layers_at}
use Rattle.column_trie.proofs.Lengths.{padded_long, padded_past, padded_own, keys_at_lem, intervals_at}
use Rattle.column_trie.proofs.Damage.{keys_length, intervals_length}

-- where the table ends
pub spot_end : (start a c : ℕ) → spot start c a ≡ start + 2 * a * c
spot_end start a c =
    let e : c + c ≡ 2 * c = omega arith in
    spot_is start c a ∙ ap (λ (n : ℕ). start + n) (ap (λ (n : ℕ). a * n) e ∙ sym (mul_assoc a 2 c) ∙ ap (λ (n : ℕ). n * c) (mul_comm a 2))

module _ (start a c : ℕ) (g : List Bool) (ls : List Layer) (n : ℕ) (long : length ls ≡ a) (few : a ≤ max_arity) where
  pub header_whole : Whole (header start a c g ls n)
  header_whole =
      record {
        data_long = padded_long (map (λ l. length l.keys) ls) (omega (arith, length-map ls (λ l. length l.keys)));
        interval_long = padded_long (map (λ l. length l.intervals) ls) (omega (arith, length-map ls (λ l. length l.intervals)));
      }

  pub header_keys : (d : ℕ) → d < a → data_len_at (header start a c g ls n) d ≡ length (layer ls d).keys
  header_keys d h = keys_at_lem ls d (omega arith)

  pub header_intervals : (d : ℕ) → d < a → interval_len_at (header start a c g ls n) d ≡ length (layer ls d).intervals
  header_intervals d h = intervals_at ls d (omega arith)

  pub header_past : (d : ℕ) → a ≤ d → (data_len_at (header start a c g ls n) d ≡ 0) × (interval_len_at (header start a c g ls n) d ≡ 0)
  header_past d h = (
    padded_past (map (λ l. length l.keys) ls) d (omega (arith, length-map ls (λ l. length l.keys))),
    padded_past (map (λ l. length l.intervals) ls) d (omega (arith, length-map ls (λ l. length l.intervals))),
  )

  -- what is stored is read back
  module _ (pool : List ℕ) (room : Room c ls) (fits : start + 2 * a * c ≤ length pool) where
    end : spot start c (length ls) ≤ length pool
    end = subst (λ (m : ℕ). spot start c m ≤ length pool) (sym long) (let e = spot_end start a c in omega arith)

    pub stored_layers : layers_in (store start c ls pool) (header start a c g ls n) ≡ ls
    stored_layers =
        ext_get_or no_layer (layers_in (store start c ls pool) (header start a c g ls n)) ls (count ∙ sym long)
        (λ d h. let b : d < a = omega (arith, count) in layers_at (store start c ls pool) (header start a c g ls n) header_whole few d b ∙ at d b)
      where
        count : length (layers_in (store start c ls pool) (header start a c g ls n)) ≡ a
        count = layers_length (store start c ls pool) (header start a c g ls n) header_whole few

        at : (d : ℕ) → d < a → layer_in (store start c ls pool) (header start a c g ls n) d ≡ layer ls d
        at d b =
            ap₂ {C = Layer} (λ ks is. record { keys = ks; intervals = is })
            (ap (λ (m : ℕ). take m (drop (spot start c d) (store start c ls pool))) (header_keys d b) ∙ store_keys start c ls pool d (omega arith) room end)
            (ap (λ (m : ℕ). take m (drop (spot start c d + c) (store start c ls pool))) (header_intervals d b) ∙ store_intervals start c ls pool d (omega arith) room end)

-- no column from a on is a grade
abbrev pub Plain : ℕ → List Bool → Type 0
Plain a g = (d : ℕ) → a ≤ d → d < max_arity → get_or g d false ≡ false

-- layers that are undamaged, stored within the limits, are an undamaged table
pub stored_undamaged :
    (start a c : ℕ) (g : List Bool) (ls : List Layer) (n : ℕ) (pool : List ℕ) → 0 < a → a ≤ max_arity → 0 < c → c ≤ max_capacity → start + 2 * a * c ≤ length pool → Plain a g →
    layers.Undamaged a c ls n →
    Undamaged (store start c ls pool) (header start a c g ls n)
stored_undamaged start a c g ls n pool a₀ a₁ c₀ c₁ fits p u =
    record {
      arity = (a₀, a₁);
      capacity = (c₀, c₁);
      fits = omega (arith, store_length start c ls pool);
      within = λ d h. go d (dec_lt d a);
      past = λ d h b. header_past start a c g ls n u.arity a₁ d h;
      plain = p;
      layers = subst (λ (l : List Layer). layers.Undamaged a c l n) (sym (stored_layers start a c g ls n u.arity a₁ pool room fits)) u;
    }
  where
    room : Room c ls
    room d h = u.room d (omega (arith, u.arity))

    go : (d : ℕ) → Dec (d < a) → (data_len_at (header start a c g ls n) d ≤ c) × (interval_len_at (header start a c g ls n) d ≤ c)
    go d (yes h) = (omega (arith, header_keys start a c g ls n u.arity a₁ d h, (u.room d h).0), omega (arith, header_intervals start a c g ls n u.arity a₁ d h, (u.room d h).1))
    go d (no h) = let z = header_past start a c g ls n u.arity a₁ d (omega arith) in (omega (arith, z.0), omega (arith, z.1))

-- ---- an undamaged table is its own layers, stored over its own pool, with the header that describes them

pub in_pool : {pool : List ℕ} {t : ColumnTrie} → Undamaged pool t → InPool (length pool) t
in_pool u = record { positive = u.arity.0; few = u.arity.1; roomy = u.capacity.0; small = u.capacity.1; fits = u.fits; within = u.within }

module _ {pool : List ℕ} {t : ColumnTrie} (o : Whole t) (u : Undamaged pool t) where
  pub own_store : store t.start t.capacity (layers_in pool t) pool ≡ pool
  own_store =
      store_own t.start t.capacity (take t.arity t.data_len) (take t.arity t.interval_len) pool (k ∙ sym i)
      (λ d h. let b : d < t.arity = omega (arith, k) in (
        omega (arith, get_or-take t.arity t.data_len d 0 b, (u.within d (omega (arith, u.arity))).0),
        omega (arith, get_or-take t.arity t.interval_len d 0 b, (u.within d (omega (arith, u.arity))).1),
      ))
      (subst (λ (m : ℕ). spot t.start t.capacity m ≤ length pool) (sym k) (omega (arith, spot_end t.start t.arity t.capacity, u.fits)))
    where
      k : length (take t.arity t.data_len) ≡ t.arity
      k = length-take-le t.arity t.data_len (omega (arith, o, u.arity))

      i : length (take t.arity t.interval_len) ≡ t.arity
      i = length-take-le t.arity t.interval_len (omega (arith, o, u.arity))

  pub own_header : t ≡ header t.start t.arity t.capacity t.grade (layers_in pool t) t.tuple_count
  own_header =
      ap₂ {C = ColumnTrie}
      (λ ds is. relengthed t ds is t.tuple_count)
      (padded_own t.data_len t.arity o.data_long u.arity.1 (λ d h b. (u.past d h b).0)
      ∙ ap padded (lens (λ l. length l.keys) refl t.data_len o.data_long (λ d h. keys_length pool o (in_pool u) d h)))
      (padded_own t.interval_len t.arity o.interval_long u.arity.1 (λ d h b. (u.past d h b).1)
      ∙ ap padded (lens (λ l. length l.intervals) refl t.interval_len o.interval_long (λ d h. intervals_length pool o (in_pool u) d h)))
    where
      -- the header's first lengths are those of its layers
      lens : (f : Layer → ℕ) → f no_layer ≡ 0 → (ns : List ℕ) → length ns ≡ max_arity → ((d : ℕ) → d < t.arity → f (layer (layers_in pool t) d) ≡ get_or ns d 0) → take t.arity ns ≡ map f (layers_in pool t)
      lens f z ns e g =
          ext_get_or 0 (take t.arity ns) (map f (layers_in pool t)) (l ∙ sym (layers_length pool t o u.arity.1) ∙ sym (length-map (layers_in pool t) f))
          (λ d h. let b : d < t.arity = omega (arith, l) in
          get_or-take t.arity ns d 0 b ∙ sym (g d b) ∙ sym (get_or-map f (layers_in pool t) d no_layer) ∙ ap (λ (x : ℕ). get_or (map f (layers_in pool t)) d x) z)
        where
          l : length (take t.arity ns) ≡ t.arity
          l = length-take-le t.arity ns (omega (arith, u.arity))
