-- The answers of key, next, seek and at_end, each way out of the code: what is left of the run decides (Rests.antt).
use Prim.Native.Nat.{ℕ, suc, ◌+◌, ◌-◌, ◌≤◌, ◌<◌}
use mathlib.Core.Path.{◌≡◌, refl, sym, ap, ◌∙◌}
use mathlib.Core.Bool.{Bool, true, false}
use mathlib.Core.List.{List, [], ◌∷◌}
use native.Mathlib.Omega.{arith}
use native.Mathlib.Numerals.{add-one}
use lib.ListN.{length, get_or, take, drop}
use lib.Dec.{ltb, leb}
use borrow.Author.Tests.{leb-true, leb-false}
use Rattle.std.proofs.Common.{Result, Ok, Err}
use Rattle.refusal.specs.Number.{number_of}
use Rattle.refusal.specs.declared.Refusal.{Refusal}
use Rattle.relation.specs.Lists.{nonempty}
use Rattle.seek.specs.Seek.{seek_of}
use Rattle.seek.specs.declared.Sought.{Sought}
use Rattle.seek.specs.declared.SeekStrategy.{SeekStrategy}
use Rattle.column_trie.specs.declared.ColumnTrie.{ColumnTrie}
use Rattle.column_trie.proofs.Header.{length_part}
use Rattle.column_trie_place.specs.Checks.{past, refusal, remaining}
use Rattle.column_trie_iter.specs.Cursor.{no_key, key_in, key_of, unmoved, next_in, next_of, unsought, seek_in, sought_of, no_end, end_in, end_of}
use Rattle.column_trie_place.specs.Inside.{Placed, PlacedAt}
use Rattle.column_trie_place.specs.declared.ColumnTrieIter.{ColumnTrieIter}
use Rattle.column_trie_place.specs.declared.Place.{Place}
use Rattle.column_trie_place.proofs.Rests.{part_none, part_more, refused, by_rest, nothing, something, not_refused}
use Rattle.column_trie_iter.proofs.Seeks.{seek_within, nonempty_drop}

module _ {pool : List ℕ} {t : ColumnTrie} {it : ColumnTrieIter} {x : Result Place Refusal} (w : Placed pool t it x) where
  -- ---- refused
  module _ {r : Refusal} (e : x ≡ Err r) where
    pub key_refused : no_key (number_of r) ≡ key_of pool t it
    unfolding key_of
    key_refused = refused no_key (key_in (remaining pool t it)) e w

    pub next_refused : unmoved it (number_of r) ≡ next_of pool t it
    unfolding next_of
    next_refused = refused (unmoved it) (next_in it (remaining pool t it)) e w

    pub sought_refused : (s : SeekStrategy) (target : ℕ) → unsought it (number_of r) ≡ sought_of pool t it s target
    unfolding sought_of
    sought_refused s target = refused (unsought it) (seek_in s target it (remaining pool t it)) e w

    pub end_refused : no_end (number_of r) ≡ end_of pool t it
    unfolding end_of
    end_refused = refused no_end (end_in (remaining pool t it)) e w

  -- ---- a place
  module _ {p : Place} (e : x ≡ Ok p) where
    clear : refusal pool t it ≡ 0
    clear = (not_refused e w).0

    pub stood : PlacedAt pool t it p
    stood = (not_refused e w).1

    pub key_none : p.end ≤ p.at → no_key 0 ≡ key_of pool t it
    unfolding key_of
    key_none = nothing no_key key_in clear stood

    pub key_some : p.at < p.end → record { number = 0; found = true; key = get_or pool p.at 0 } ≡ key_of pool t it
    unfolding key_of
    key_some = something no_key key_in clear stood

    pub next_none : p.end ≤ p.at → unmoved it 0 ≡ next_of pool t it
    unfolding next_of
    next_none = nothing (unmoved it) (next_in it) clear stood

    module _ (h : p.at < p.end) where
      -- what a next finds, by what is behind the present key
      behind : {ks : List ℕ} → take (p.end - suc p.at) (drop (suc p.at) pool) ≡ ks → next_in it (get_or pool p.at 0 ∷ ks) ≡ next_of pool t it
      unfolding next_of
      behind q = ap (λ ks. next_in it (get_or pool p.at 0 ∷ ks)) (sym q) ∙ something (unmoved it) (next_in it) clear stood h

      module _ {it' : ColumnTrieIter} (q : it' ≡ past it 1) where
        pub next_last : p.end ≤ p.at + 1 → unmoved it' 0 ≡ next_of pool t it
        next_last k = ap (λ (y : ColumnTrieIter). unmoved y 0) q ∙ behind (part_none pool (suc p.at) p.end (omega arith))

        pub next_more : p.at + 1 < p.end → record { number = 0; found = true; key = get_or pool (p.at + 1) 0; iter = it' } ≡ next_of pool t it
        next_more k =
            ap (λ (y : ColumnTrieIter). record { number = 0; found = true; key = get_or pool (p.at + 1) 0; iter = y }) q ∙
            ap (λ (n : ℕ). record { number = 0; found = true; key = get_or pool n 0; iter = past it 1 }) (add-one p.at) ∙
            behind (part_more pool (suc p.at) p.end (omega arith) stood.inside)

    module _ (s : SeekStrategy) (target : ℕ) where
      pub sought_none : p.end ≤ p.at → unsought it 0 ≡ sought_of pool t it s target
      unfolding sought_of
      sought_none = nothing (unsought it) (seek_in s target it) clear stood

      -- a run with keys is searched
      searched : (run : List ℕ) → 0 < length run → {a : Sought} → a ≡ seek_of s run target → {it' : ColumnTrieIter} → it' ≡ past it a.offset
          → record { number = 0; found = ltb a.offset (length run); hit = a.hit; probes = a.probes; iter = it' } ≡ seek_in s target it run
      searched [] h q i = absurd (omega arith)
      searched (k ∷ ks) h {a} q {it'} i =
          let f : ltb a.offset (length (k ∷ ks)) ≡ nonempty (drop (seek_of s (k ∷ ks) target).offset (k ∷ ks)) =
          nonempty_drop (k ∷ ks) a.offset ∙ ap (λ (y : Sought). nonempty (drop y.offset (k ∷ ks))) q in
          let j : it' ≡ past it (seek_of s (k ∷ ks) target).offset = i ∙ ap (λ (y : Sought). past it y.offset) q in
          let r : a.probes ≡ (seek_of s (k ∷ ks) target).probes = ap (λ (y : Sought). y.probes) q in
          let b : a.hit ≡ (seek_of s (k ∷ ks) target).hit = ap (λ (y : Sought). y.hit) q in
          cc

      -- what is left, and how long that is
      abbrev left : List ℕ
      left = take (p.end - p.at) (drop p.at pool)

      left_long : length left ≡ p.end - p.at
      left_long = length_part pool p.at (p.end - p.at) (omega (arith, stood.ordered, stood.inside))

      pub sought_some : p.at < p.end → {a : Sought} → a ≡ seek_of s left target → {it' : ColumnTrieIter} → it' ≡ past it a.offset
          → record { number = 0; found = ltb a.offset (length left); hit = a.hit; probes = a.probes; iter = it' } ≡ sought_of pool t it s target
      unfolding sought_of
      sought_some h q i = searched left (omega (arith, left_long)) q i ∙ by_rest (unsought it) (seek_in s target it) clear stood

      -- and its offset lies within what is left
      pub sought_within : {a : Sought} → a ≡ seek_of s left target → a.offset ≤ p.end - p.at
      sought_within {a} q = omega (arith, ap (λ (y : Sought). y.offset) q, seek_within left target s, left_long)

    pub end_said : record { number = 0; at_end = leb p.end p.at } ≡ end_of pool t it
    unfolding end_of
    end_said = go (leb p.end p.at) refl
      where
        go : (b : Bool) → leb p.end p.at ≡ b → record { number = 0; at_end = leb p.end p.at } ≡ end_of pool t it
        go true q = ap (λ (b : Bool). record { number = 0; at_end = b }) q ∙ nothing no_end end_in clear stood (leb-true p.end p.at q)
        go false q = ap (λ (b : Bool). record { number = 0; at_end = b }) q ∙ something no_end end_in clear stood (leb-false p.end p.at q)
