-- The lengths of layers, as a header has them: an entry for each depth, 0 past the last layer, and one layer written anew.
use Prim.Native.Nat.{ℕ, zero, suc, ◌+◌, ◌-◌, ◌≤◌, ◌<◌}
use mathlib.Core.Path.{◌≡◌, refl, sym, ap, ◌∙◌}
use mathlib.Core.List.{List, [], ◌∷◌, ◌++◌, map}
use native.Mathlib.Omega.{arith}
use native.Mathlib.Decide.{dec_lt}
use lib.ListN.{length, take, get_or, set, replicate, length-set, length-append, length-replicate, length-map, get_or-replicate, get_or-eq_default, get_or-append, get_or-map}
use lib.Seq.{get_or-append-add, get_or-take, ext_get_or, length-take-le, set-append_left}
use Rattle.relation.specs.Layers.{Layer, layer, no_layer}
use Rattle.column_trie.specs.Limits.{max_arity}
use Rattle.column_trie.specs.Table.{padded, key_counts, interval_counts}

zeros_long : (n : ℕ) → length {A = ℕ} (replicate n 0) ≡ n
zeros_long n = length-replicate n 0

zeros_at : (n i : ℕ) → get_or {A = ℕ} (replicate n 0) i 0 ≡ 0
zeros_at n i = go (dec_lt i n)
  where
    go : Dec (i < n) → get_or {A = ℕ} (replicate n 0) i 0 ≡ 0
    go (yes l) = get_or-replicate n i 0 0 l
    go (no l) = get_or-eq_default (replicate n 0) 0 {n = i} (omega (arith, zeros_long n))

pub padded_long : (ns : List ℕ) → length ns ≤ max_arity → length (padded ns) ≡ max_arity
padded_long ns h = omega (arith, length-append ns (replicate (max_arity - length ns) 0), zeros_long (max_arity - length ns))

padded_at : (ns : List ℕ) (d : ℕ) → d < length ns → get_or (padded ns) d 0 ≡ get_or ns d 0
padded_at ns d h = get_or-append ns (replicate (max_arity - length ns) 0) 0 d h

pub padded_past : (ns : List ℕ) (d : ℕ) → length ns ≤ d → get_or (padded ns) d 0 ≡ 0
padded_past ns d h =
    let e : length ns + (d - length ns) ≡ d = omega arith in
    ap (λ (n : ℕ). get_or (padded ns) n 0) (sym e) ∙ get_or-append-add ns (replicate (max_arity - length ns) 0) (d - length ns) 0 ∙ zeros_at (max_arity - length ns) (d - length ns)

-- a list of max_arity lengths whose entries from a on are 0 is its first a entries, padded
pub padded_own : (ns : List ℕ) (a : ℕ) → length ns ≡ max_arity → a ≤ max_arity → ((d : ℕ) → a ≤ d → d < max_arity → get_or ns d 0 ≡ 0) → ns ≡ padded (take a ns)
padded_own ns a e h z =
    ext_get_or 0 ns (padded (take a ns)) (e ∙ sym (padded_long (take a ns) (omega (arith, l)))) (λ d k. go d k (dec_lt d a))
  where
    l : length (take a ns) ≡ a
    l = length-take-le a ns (omega arith)

    go : (d : ℕ) → d < length ns → Dec (d < a) → get_or ns d 0 ≡ get_or (padded (take a ns)) d 0
    go d k (yes b) = sym (padded_at (take a ns) d (omega (arith, l)) ∙ get_or-take a ns d 0 b)
    go d k (no b) = z d (omega arith) (omega arith) ∙ sym (padded_past (take a ns) d (omega (arith, l)))

-- ---- the lengths of layers

module _ (ls : List Layer) (d : ℕ) (h : d < length ls) where
  pub keys_at_lem : get_or (key_counts ls) d 0 ≡ length (layer ls d).keys
  keys_at_lem = padded_at (map (λ l. length l.keys) ls) d (omega (arith, length-map ls (λ l. length l.keys))) ∙ get_or-map (λ l. length l.keys) ls d no_layer

  pub intervals_at : get_or (interval_counts ls) d 0 ≡ length (layer ls d).intervals
  intervals_at = padded_at (map (λ l. length l.intervals) ls) d (omega (arith, length-map ls (λ l. length l.intervals))) ∙ get_or-map (λ l. length l.intervals) ls d no_layer

-- one layer changed
map_set : (f : Layer → ℕ) (ls : List Layer) (d : ℕ) (l : Layer) → map f (set ls d l) ≡ set (map f ls) d (f l)
map_set f [] d l = refl
map_set f (m ∷ ls) zero l = refl
map_set f (m ∷ ls) (suc d) l = ap (λ (ns : List ℕ). f m ∷ ns) (map_set f ls d l)

pub padded_set : (f : Layer → ℕ) (ls : List Layer) (d : ℕ) (l : Layer) → d < length ls → padded (map f (set ls d l)) ≡ set (padded (map f ls)) d (f l)
padded_set f ls d l h =
    ap padded (map_set f ls d l)
    ∙ ap (λ (n : ℕ). set (map f ls) d (f l) ++ replicate (max_arity - n) 0) (length-set (map f ls) d (f l))
    ∙ sym (set-append_left (map f ls) (replicate (max_arity - length (map f ls)) 0) d (f l) (omega (arith, length-map ls f)))
