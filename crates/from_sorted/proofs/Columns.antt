-- A row pushed column by column: the layers passed are the new ones, those ahead the old ones; one key or interval more is one word more in the
-- pool and one more in a length.
use Prim.Native.Nat.{ℕ, suc, ◌+◌, ◌*◌, ◌≤◌, ◌<◌}
use mathlib.Core.Path.{◌≡◌, refl, sym, ap, ap₂, ◌∙◌, subst}
use mathlib.Core.List.{List, [], ◌∷◌, ◌++◌, append-nil}
use native.Mathlib.Omega.{arith}
use native.Mathlib.Numerals.{add-one}
use native.Mathlib.Decide.{ℕ_discrete}
use lib.ListN.{length, take, drop, get_or, set, length-set, length-append, take-append-drop, drop_of_length-le}
use lib.Seq.{drop-cons, take-suc, take_all, length-take-le, get_or-take, get_or_at, set_at, set-set, get_or-set_same, get_or-set_other, append_snoc, ext_get_or}
use Rattle.relation.specs.Order.{Row}
use Rattle.relation.specs.Layers.{Layer, layer, no_layer}
use Rattle.column_trie.specs.Limits.{max_arity, max_capacity}
use Rattle.column_trie.specs.Pool.{spot, store}
use Rattle.column_trie.specs.declared.ColumnTrie.{ColumnTrie}
use Rattle.column_trie.proofs.Header.{layer_inside}
use Rattle.column_trie.proofs.Pool.{Room, store_key, store_interval}
use Rattle.column_trie.specs.Table.{key_counts, interval_counts}
use Rattle.column_trie.proofs.Lengths.{keys_at_lem, intervals_at}
use Rattle.from_sorted.specs.Push.{Appends, keyed, opened, Turn}
use Rattle.from_sorted.proofs.Counts.{keys_keyed, intervals_keyed, keys_opened, intervals_opened}

-- ---- layers passed and layers ahead

abbrev pub mid : ℕ → List Layer → List Layer → List Layer
mid d old new = take d new ++ drop d old

module _ (a : ℕ) (old new : List Layer) (m : length old ≡ a) (n : length new ≡ a) where
  mid_start : (d : ℕ) → d ≤ a → ((e : ℕ) → e < d → layer new e ≡ layer old e) → mid d old new ≡ old
  mid_start d h f =
      ap (λ (ls : List Layer). ls ++ drop d old)
      (ext_get_or no_layer (take d new) (take d old) (front new n ∙ sym (front old m)) (λ e k. let b : e < d = omega (arith, front new n) in get_or-take d new e no_layer b ∙ f e b ∙ sym (get_or-take d old e no_layer b)))
      ∙ take-append-drop d old
    where
      front : (ls : List Layer) → length ls ≡ a → length (take d ls) ≡ d
      front ls e = length-take-le d ls (omega arith)

  mid_end : mid a old new ≡ new
  mid_end = ap₂ (λ (xs ys : List Layer). xs ++ ys) (take_all a new (omega arith)) (drop_of_length-le old {i = a} (omega arith)) ∙ append-nil new

  module _ (d : ℕ) (h : d < a) where
    ahead : mid d old new ≡ take d new ++ (layer old d ∷ drop (suc d) old)
    ahead = ap (λ (ls : List Layer). take d new ++ ls) (drop-cons old d no_layer (omega arith))

    mid_at : layer (mid d old new) d ≡ layer old d
    mid_at = ap (λ (ls : List Layer). layer ls d) ahead ∙ get_or_at (take d new) (layer old d) (drop (suc d) old) no_layer d (length-take-le d new (omega arith))

    mid_next : set (mid d old new) d (layer new d) ≡ mid (suc d) old new
    mid_next =
        ap (λ (ls : List Layer). set ls d (layer new d)) ahead
        ∙ set_at (take d new) (layer old d) (drop (suc d) old) (layer new d) d (length-take-le d new (omega arith))
        ∙ sym (append_snoc (take d new) (layer new d) (drop (suc d) old))
        ∙ ap (λ (ls : List Layer). ls ++ drop (suc d) old) (sym (take-suc new d no_layer (omega arith)))

-- ---- one key or interval more

room_set : (c : ℕ) (ls : List Layer) (d : ℕ) (l : Layer) → Room c ls → length l.keys ≤ c → length l.intervals ≤ c → Room c (set ls d l)
room_set c ls d l r k i e h = go (ℕ_discrete e d)
  where
    b : e < length ls
    b = omega (arith, length-set ls d l)

    go : Dec (e ≡ d) → (length (layer (set ls d l) e).keys ≤ c) × (length (layer (set ls d l) e).intervals ≤ c)
    go (yes q) = subst (λ (x : Layer). (length x.keys ≤ c) × (length x.intervals ≤ c)) (sym (ap (layer (set ls d l)) q ∙ get_or-set_same ls d l no_layer (omega (arith, b)))) (k, i)
    go (no q) = subst (λ (x : Layer). (length x.keys ≤ c) × (length x.intervals ≤ c)) (sym (get_or-set_other ls d e l no_layer q)) (r e b)

-- from a pool `pool₀` that holds the layers old in the place of t: pool and lengths are those of the layers ls now
pub record Held (t : ColumnTrie) (pool₀ : List ℕ) (old : List Layer) (pool ks is : List ℕ) (ls : List Layer) : Type 0 where
  pub long : length pool ≡ length pool₀
  pub size : length ls ≡ t.arity
  pub room : Room t.capacity ls
  pub keys : ks ≡ key_counts ls
  pub intervals : is ≡ interval_counts ls
  pub words : (p : List ℕ) → pool₀ ≡ store t.start t.capacity old p → pool ≡ store t.start t.capacity ls p

module _ {t : ColumnTrie} {pool₀ : List ℕ} {old : List Layer} {pool ks is : List ℕ} {ls : List Layer} (s : Held t pool₀ old pool ks is ls) {d : ℕ} (h : d < t.arity) where
  inside : d < length ls
  inside = omega (arith, s.size)

  keys_held : get_or ks d 0 ≡ length (layer ls d).keys
  keys_held = ap (λ (ns : List ℕ). get_or ns d 0) s.keys ∙ keys_at_lem ls d inside

  intervals_held : get_or is d 0 ≡ length (layer ls d).intervals
  intervals_held = ap (λ (ns : List ℕ). get_or ns d 0) s.intervals ∙ intervals_at ls d inside

  held_key : (k : ℕ) {pool' ks' : List ℕ} → length (layer ls d).keys < t.capacity → Appends pool (spot t.start t.capacity d) ks d k pool' ks' → Held t pool₀ old pool' ks' is (set ls d (keyed k (layer ls d)))
  held_key k b x = record {
    long = ap length x.words ∙ length-set pool (spot t.start t.capacity d + get_or ks d 0) k ∙ s.long;
    size = length-set ls d (keyed k (layer ls d)) ∙ s.size;
    room = room_set t.capacity ls d (keyed k (layer ls d)) s.room (omega (arith, length-append (layer ls d).keys (k ∷ []))) (s.room d inside).1;
    keys = x.count ∙ ap (λ (ns : List ℕ). set ns d (get_or ns d 0 + 1)) s.keys ∙ sym (keys_keyed ls d inside k);
    intervals = s.intervals ∙ sym (intervals_keyed ls d inside k);
    words = λ p e.
        x.words
        ∙ ap₂ (λ (q : List ℕ) (m : ℕ). set q (spot t.start t.capacity d + m) k) (s.words p e) keys_held
        ∙ sym (store_key t.start t.capacity ls p d k inside s.room b);
  }

  held_interval : {pool' is' : List ℕ} → length (layer ls d).intervals < t.capacity → Appends pool (spot t.start t.capacity d + t.capacity) is d (get_or ks d 0) pool' is' → Held t pool₀ old pool' ks is' (set ls d (opened (layer ls d)))
  held_interval b x = record {
    long = ap length x.words ∙ length-set pool (spot t.start t.capacity d + t.capacity + get_or is d 0) (get_or ks d 0) ∙ s.long;
    size = length-set ls d (opened (layer ls d)) ∙ s.size;
    room = room_set t.capacity ls d (opened (layer ls d)) s.room (s.room d inside).0 (omega (arith, length-append (layer ls d).intervals (length (layer ls d).keys ∷ [])));
    keys = s.keys ∙ sym (keys_opened ls d inside);
    intervals = x.count ∙ ap (λ (ns : List ℕ). set ns d (get_or ns d 0 + 1)) s.intervals ∙ sym (intervals_opened ls d inside);
    words = λ p e.
        x.words
        ∙ ap₂ (λ (m k : ℕ). set pool (spot t.start t.capacity d + t.capacity + m) k) intervals_held keys_held
        ∙ ap (λ (q : List ℕ). set q (spot t.start t.capacity d + t.capacity + length (layer ls d).intervals) (length (layer ls d).keys)) (s.words p e)
        ∙ sym (store_interval t.start t.capacity ls p d (length (layer ls d).keys) inside s.room b);
  }

-- ---- a turn

-- what pushing a row goes by: the table's place, the layers before and after, room for one key and one interval more in each
pub record Setting (len : ℕ) (t : ColumnTrie) (old new : List Layer) (row : Row) (from opens : ℕ) : Type 0 where
  pub few : t.arity ≤ max_arity
  pub small : t.capacity ≤ max_capacity
  pub fits : t.start + 2 * t.arity * t.capacity ≤ len
  pub size : length old ≡ t.arity
  pub size' : length new ≡ t.arity
  pub room : (d : ℕ) → d < t.arity → (length (layer old d).keys < t.capacity) × (length (layer old d).intervals < t.capacity)
  pub turn : Turn t.arity old new row from opens

-- before the key k of column d is pushed: once it is, the column is done
pub record Ready (t : ColumnTrie) (pool₀ : List ℕ) (old new : List Layer) (d k : ℕ) (pool ks is : List ℕ) : Type 0 where
  pub layers : List Layer
  pub held : Held t pool₀ old pool ks is layers
  pub spare : length (layer layers d).keys < t.capacity
  pub next : set layers d (keyed k (layer layers d)) ≡ mid (suc d) old new

module _ {t : ColumnTrie} {pool₀ : List ℕ} {old new : List Layer} {row : Row} {from opens : ℕ} (g : Setting (length pool₀) t old new row from opens) where
  -- layer d lies in the pool
  pub layer_fits : {pool ks is : List ℕ} {ls : List Layer} {d : ℕ} → Held t pool₀ old pool ks is ls → d < t.arity → spot t.start t.capacity d + t.capacity + t.capacity ≤ length pool
  layer_fits {d = d} s h = omega (arith, layer_inside t.start t.arity t.capacity d h, g.fits, s.long)

  module _ {pool ks is : List ℕ} {d : ℕ} (s : Held t pool₀ old pool ks is (mid d old new)) (h : d < t.arity) where
    ahead_is : layer (mid d old new) d ≡ layer old d
    ahead_is = mid_at t.arity old new g.size g.size' d h

    -- the column's interval, if there is one, can be opened
    pub turn_interval : get_or is d 0 < t.capacity
    turn_interval = omega (arith, intervals_held s h, ap (λ (l : Layer). length l.intervals) ahead_is, (g.room d h).1)

    pub ready_only : from ≤ d → d < opens → Ready t pool₀ old new d (get_or row d 0) pool ks is
    ready_only f o = record {
      layers = mid d old new;
      held = s;
      spare = omega (arith, ap (λ (l : Layer). length l.keys) ahead_is, (g.room d h).0);
      next =
          ap (λ (l : Layer). set (mid d old new) d (keyed (get_or row d 0) l)) ahead_is
          ∙ ap (set (mid d old new) d) (sym (g.turn.only d f o h))
          ∙ mid_next t.arity old new g.size g.size' d h;
    }

    pub ready_under : {pool' is' : List ℕ} → opens ≤ d → Appends pool (spot t.start t.capacity d + t.capacity) is d (get_or ks d 0) pool' is' → Ready t pool₀ old new d (get_or row d 0) pool' ks is'
    ready_under o x =
        let l = layer (mid d old new) d in
        let ls = set (mid d old new) d (opened l) in
        let e : layer ls d ≡ opened l = get_or-set_same (mid d old new) d (opened l) no_layer (omega (arith, s.size)) in
        record {
          layers = ls;
          held = held_interval s h (omega (arith, ap (λ (l : Layer). length l.intervals) ahead_is, (g.room d h).1)) x;
          spare = omega (arith, ap (λ (l : Layer). length l.keys) e, ap (λ (l : Layer). length l.keys) ahead_is, (g.room d h).0);
          next =
              ap (λ (l : Layer). set ls d (keyed (get_or row d 0) l)) (e ∙ ap opened ahead_is)
              ∙ set-set (mid d old new) d (opened l) (keyed (get_or row d 0) (opened (layer old d)))
              ∙ ap (set (mid d old new) d) (sym (g.turn.under d o h))
              ∙ mid_next t.arity old new g.size g.size' d h;
        }

  module _ {pool ks is : List ℕ} {d k : ℕ} (s : Ready t pool₀ old new d k pool ks is) (h : d < t.arity) where
    pub turn_key : get_or ks d 0 < t.capacity
    turn_key = omega (arith, keys_held s.held h, s.spare)

    pub turn_done : {pool' ks' : List ℕ} → Appends pool (spot t.start t.capacity d) ks d k pool' ks' → Held t pool₀ old pool' ks' is (mid (d + 1) old new)
    turn_done {pool'} {ks'} x = subst (λ (ls : List Layer). Held t pool₀ old pool' ks' is ls) (s.next ∙ ap (λ (n : ℕ). mid n old new) (sym (add-one d))) (held_key s.held h k s.spare x)

  pub held_start : {ks is : List ℕ} → ks ≡ key_counts old → is ≡ interval_counts old → Held t pool₀ old pool₀ ks is (mid from old new)
  held_start {ks} {is} k i =
      let m : mid from old new ≡ old = mid_start t.arity old new g.size g.size' from (omega (arith, g.turn.inside)) g.turn.known in
      subst (λ (ls : List Layer). Held t pool₀ old pool₀ ks is ls) (sym m)
      (record {
        long = refl;
        size = g.size;
        room = λ d h. let b : d < t.arity = omega (arith, g.size) in (omega (arith, g.room d b), omega (arith, g.room d b));
        keys = k;
        intervals = i;
        words = λ p q. q;
      })

  -- past the last column: the new layers
  pub held_end : {pool ks is : List ℕ} (d : ℕ) → t.arity ≤ d → d ≤ t.arity → Held t pool₀ old pool ks is (mid d old new) → Held t pool₀ old pool ks is new
  held_end {pool} {ks} {is} d h k s = subst (λ (ls : List Layer). Held t pool₀ old pool ks is ls) (ap (λ (n : ℕ). mid n old new) (let e : d ≡ t.arity = omega arith in e) ∙ mid_end t.arity old new g.size g.size') s
