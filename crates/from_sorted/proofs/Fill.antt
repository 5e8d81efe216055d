-- A table filled row by row with sorted rows: what holds before each row, and that all rows leave the layers of their set.
use Prim.Native.Nat.{ℕ, zero, suc, ◌+◌, ◌-◌, ◌≤◌, ◌<◌}
use mathlib.Core.Path.{◌≡◌, refl, sym, ap, ap₂, ◌∙◌, subst}
use mathlib.Core.List.{List, [], ◌∷◌, ◌++◌, map}
use native.Mathlib.Omega.{arith}
use native.Mathlib.Numerals.{add-one}
use lib.ListN.{length, take, get_or, replicate, length-replicate, replicate-append-replicate}
use lib.Seq.{take_all, take-suc, length-take-le}
use Rattle.relation.specs.Order.{Row}
use Rattle.relation.specs.Rows.{as_set, Width}
use Rattle.relation.specs.Layers.{Layer, no_layer, prefixes, groups_at, joined, starts, layer_at, layers_from, layers_of}
use Rattle.relation.proofs.Lists.{get_or_in}
use Rattle.relation.proofs.Order.{shared}
use Rattle.relation.proofs.Sorting.{as_set_members, as_set_asc}
use Rattle.relation.proofs.Tables.{layers_count, layers_members, layers_undamaged}
use Rattle.column_trie.specs.Limits.{max_arity}
use Rattle.column_trie.specs.Pool.{lay, store}
use Rattle.column_trie.specs.Table.{relengthed, padded, key_counts, interval_counts, refilled}
use Rattle.column_trie.specs.declared.ColumnTrie.{ColumnTrie}
use Rattle.column_trie.proofs.Lengths.{keys_at_lem}
use Rattle.from_sorted.specs.Push.{Turn, Pushing, Pushes, CanPush, Pushed, Filled, Filling, Fills}
use Rattle.from_sorted.proofs.Turns.{width_take, turn_one, turn_next, turn_equal}

-- ---- no rows

no_layers : (d n : ℕ) → layers_from d n [] ≡ replicate n no_layer
unfolding layers_from layer_at groups_at joined starts prefixes as_set
no_layers d zero = refl
no_layers d (suc n) = ap {B = List Layer} (λ ls. no_layer ∷ ls) (no_layers (suc d) n)

no_lengths : (f : Layer → ℕ) → f no_layer ≡ 0 → (n : ℕ) → n ≤ max_arity → padded (map f (replicate n no_layer)) ≡ replicate max_arity 0
no_lengths f e n h =
    ap padded (zeros n)
    ∙ ap (λ (m : ℕ). replicate n 0 ++ replicate (max_arity - m) 0) (length-replicate n 0)
    ∙ replicate-append-replicate n (max_arity - n) 0
    ∙ ap (λ (m : ℕ). replicate m 0) (let q : n + (max_arity - n) ≡ max_arity = omega arith in q)
  where
    zeros : (m : ℕ) → map f (replicate m no_layer) ≡ replicate m 0
    zeros zero = refl
    zeros (suc m) = ap₂ {C = List ℕ} (λ x xs. x ∷ xs) e (zeros m)

store_none : (at c n : ℕ) (pool : List ℕ) → store at c (replicate n no_layer) pool ≡ pool
unfolding store lay
store_none at c zero pool = refl
store_none at c (suc n) pool = store_none (at + c + c) c n pool

stored_none : (s a c : ℕ) (pool : List ℕ) → pool ≡ store s c (layers_of a []) pool
stored_none s a c pool = sym (ap (λ (ls : List Layer). store s c ls pool) (no_layers 0 a) ∙ store_none s c a pool)

keys_none : (a : ℕ) → a ≤ max_arity → key_counts (layers_of a []) ≡ replicate max_arity 0
keys_none a h = ap key_counts (no_layers 0 a) ∙ no_lengths (λ l. length l.keys) refl a h

intervals_none : (a : ℕ) → a ≤ max_arity → interval_counts (layers_of a []) ≡ replicate max_arity 0
intervals_none a h = ap interval_counts (no_layers 0 a) ∙ no_lengths (λ l. length l.intervals) refl a h

-- the layers of rows are those of their set
module _ {a : ℕ} {rows : List Row} (w : Width a rows) where
  width_set : Width a (as_set rows)
  width_set q m = w q ((as_set_members rows q).0 m)

  layers_set : layers_of a rows ≡ layers_of a (as_set rows)
  layers_set = layers_members w width_set (λ q. let v = as_set_members rows q in (v.1, v.0))

  store_all : (at c : ℕ) (pool : List ℕ) → store at c (layers_of a rows) pool ≡ store at c (layers_of a (as_set rows)) pool
  store_all at c pool = ap (λ (ls : List Layer). store at c ls pool) layers_set

lengths_all :
    (t : ColumnTrie) {rows : List Row} {ks is : List ℕ} → Width t.arity rows → 0 < t.arity → ks ≡ key_counts (layers_of t.arity rows) → is ≡ interval_counts (layers_of t.arity rows) →
    relengthed t ks is (get_or ks (t.arity - 1) 0) ≡ refilled t (as_set rows)
lengths_all t {rows} {ks} {is} w h e g =
    let a = t.arity in
    let ls = layers_of a (as_set rows) in
    let x : ks ≡ key_counts ls = e ∙ ap key_counts (layers_set w) in
    let y : is ≡ interval_counts ls = g ∙ ap interval_counts (layers_set w) in
    let n : get_or ks (a - 1) 0 ≡ length (as_set rows) = ap (λ (ns : List ℕ). get_or ns (a - 1) 0) x ∙ keys_at_lem ls (a - 1) (omega (arith, layers_count a 0 (as_set rows))) ∙ sym (layers_undamaged (length (as_set rows)) h (as_set_asc rows) (width_set w) (omega arith)).counted in
    cc

-- ---- row by row

-- row i is the next one
next_row : (rows : List Row) (i : ℕ) → i < length rows → take (suc i) rows ≡ take i rows ++ (get_or rows i [] ∷ [])
next_row rows i h = take-suc rows i [] h

module _ {len : ℕ} {t : ColumnTrie} {rows : List Row} (f : Filling len t rows) (w : Width t.arity rows) where
  pushing : {ks is : List ℕ} {i from opens : ℕ} → i < length rows → ks ≡ key_counts (layers_of t.arity (take i rows)) → is ≡ interval_counts (layers_of t.arity (take i rows)) →
      Turn t.arity (layers_of t.arity (take i rows)) (layers_of t.arity (take (suc i) rows)) (get_or rows i []) from opens → Pushing len t ks is (take i rows) (get_or rows i []) from opens
  pushing {i = i} {from} {opens} h k n r =
      record {
        few = f.few;
        small = f.small;
        fits = f.fits;
        width = width_take i w;
        wide = w (get_or rows i []) (get_or_in rows i [] h);
        room = omega (arith, length-take-le i rows (omega arith), f.room);
        keys = k;
        intervals = n;
        turn = subst (λ (rs : List Row). Turn t.arity (layers_of t.arity (take i rows)) (layers_of t.arity rs) (get_or rows i []) from opens) (next_row rows i h) r;
      }

  pub pushing_first : {ks is : List ℕ} → (ks ≡ t.data_len) × (is ≡ t.interval_len) → 0 < length rows → Pushing len t ks is (take 0 rows) (get_or rows 0 []) 0 0
  pushing_first e h =
      pushing {i = 0} h (e.0 ∙ ap (λ (u : ColumnTrie). u.data_len) f.empty ∙ sym (keys_none t.arity f.few)) (e.1 ∙ ap (λ (u : ColumnTrie). u.interval_len) f.empty ∙ sym (intervals_none t.arity f.few))
      (turn_one f.positive w h)

  pub filled_first : {pool pool' ks is : List ℕ} → 0 < length rows → Pushes pool t (take 0 rows) (get_or rows 0 []) pool' ks is → Filled t rows pool' pool' ks is 1
  filled_first h p =
      let e = next_row rows 0 h in
      record {
        low = omega arith;
        high = h;
        long = refl;
        keys = p.keys ∙ ap (λ (rs : List Row). key_counts (layers_of t.arity rs)) (sym e);
        intervals = p.intervals ∙ ap (λ (rs : List Row). interval_counts (layers_of t.arity rs)) (sym e);
        words = λ q e. e;
      }

  -- a row that is not equal to the one before it
  pub pushing_next : {pool₀ pool ks is : List ℕ} {i : ℕ} (d : ℕ) → Filled t rows pool₀ pool ks is i → i < length rows → d ≡ shared (get_or rows (i - 1) []) (get_or rows i []) → d < t.arity → Pushing len t ks is (take i rows) (get_or rows i []) d (d + 1)
  pushing_next {i = zero} d g h e b = absurd (omega (arith, g.low))
  pushing_next {i = suc i} d g h e b =
      let q : suc i - 1 ≡ i = omega arith in
      let k : d ≡ shared (get_or rows i []) (get_or rows (suc i) []) = e ∙ ap (λ (n : ℕ). shared (get_or rows n []) (get_or rows (suc i) [])) q in
      pushing h g.keys g.intervals (rw k (turn_next w f.sorted i h (rw (← k) b)))

  pub filled_next : {pool₀ pool ks is : List ℕ} {i : ℕ} {pool' ks' is' : List ℕ} → Filled t rows pool₀ pool ks is i → i < length rows → length pool' ≡ length pool → Pushes pool t (take i rows) (get_or rows i []) pool' ks' is' → Filled t rows pool₀ pool' ks' is' (i + 1)
  filled_next {i = i} g h l p =
      let e = next_row rows i h in
      rw add-one
      (record {
        low = omega arith;
        high = omega arith;
        long = l ∙ g.long;
        keys = p.keys ∙ ap (λ (rs : List Row). key_counts (layers_of t.arity rs)) (sym e);
        intervals = p.intervals ∙ ap (λ (rs : List Row). interval_counts (layers_of t.arity rs)) (sym e);
        words = λ o x. p.words o (g.words o x) ∙ ap (λ (rs : List Row). store t.start t.capacity (layers_of t.arity rs) o) (sym e);
      })

  -- one that is equal to it
  pub filled_equal : {pool₀ pool ks is : List ℕ} {i : ℕ} → Filled t rows pool₀ pool ks is i → i < length rows → t.arity ≤ shared (get_or rows (i - 1) []) (get_or rows i []) → Filled t rows pool₀ pool ks is (i + 1)
  filled_equal {i = zero} g h b = absurd (omega (arith, g.low))
  filled_equal {i = suc i} g h b =
      let q : suc i - 1 ≡ i = omega arith in
      let e = turn_equal w f.sorted i h (rw q at b) in
      rw add-one
      (record {
        low = omega arith;
        high = omega arith;
        long = g.long;
        keys = g.keys ∙ ap key_counts (sym e);
        intervals = g.intervals ∙ ap interval_counts (sym e);
        words = λ o x. g.words o x ∙ ap (λ (ls : List Layer). store t.start t.capacity ls o) (sym e);
      })

  pub fills_none : {pool : List ℕ} → length rows ≡ 0 → Fills pool t rows pool t
  unfolding as_set
  fills_none {pool} h =
      let e : rows ≡ [] = none rows h in
      let k = keys_none t.arity f.few in
      let i = intervals_none t.arity f.few in
      rw e (record { header = f.empty ∙ (let z : relengthed t (replicate max_arity 0) (replicate max_arity 0) 0 ≡ refilled t [] = cc in z); words = stored_none t.start t.arity t.capacity pool })
    where
      none : (xs : List Row) → length xs ≡ 0 → xs ≡ []
      none [] h = refl
      none (x ∷ xs) h = absurd (omega arith)

  pub fills_all : {pool pool₀ pool' ks₀ is₀ ks is : List ℕ} {i : ℕ} → 0 < length rows → Pushes pool t (take 0 rows) (get_or rows 0 []) pool₀ ks₀ is₀ → Filled t rows pool₀ pool' ks is i → length rows ≤ i → Fills pool t rows pool' (relengthed t ks is (get_or ks (t.arity - 1) 0))
  fills_all {pool} {i = i} s p g h =
      let e : take i rows ≡ rows = take_all i rows h in
      record {
        header = lengths_all t w f.positive (g.keys ∙ ap (λ (rs : List Row). key_counts (layers_of t.arity rs)) e) (g.intervals ∙ ap (λ (rs : List Row). interval_counts (layers_of t.arity rs)) e);
        words =
            g.words pool (p.words pool (stored_none t.start t.arity t.capacity pool) ∙ ap (λ (rs : List Row). store t.start t.capacity (layers_of t.arity rs) pool) (sym (next_row rows 0 s)))
            ∙ ap (λ (rs : List Row). store t.start t.capacity (layers_of t.arity rs) pool) e
            ∙ store_all w t.start t.capacity pool;
      }

-- ---- the row as it is lent

module _ {t : ColumnTrie} {ks is : List ℕ} {old : List Row} {row lent : Row} {from opens : ℕ} (e : lent ≡ row) where
  pub can_push : {len : ℕ} → Pushing len t ks is old row from opens → CanPush len t ks is lent from opens
  can_push {len} p = (old, subst (λ (r : Row). Pushing len t ks is old r from opens) (sym e) p)

  pub pushed : {pool pool' ks' is' : List ℕ} → Pushing (length pool) t ks is old row from opens → Pushed pool t ks is lent from opens pool' ks' is' → Pushes pool t old row pool' ks' is'
  pushed {pool} {pool'} {ks'} {is'} p d = subst (λ (r : Row). Pushes pool t old r pool' ks' is') e (d old (subst (λ (r : Row). Pushing (length pool) t ks is old r from opens) (sym e) p))
