-- A search for a first key in one table that holds a relation: it finds the key exactly where some row has it, and the run it names is the keys under it.
use Prim.Native.Nat.{ℕ, ◌+◌, ◌-◌, ◌≤◌, ◌<◌}
use mathlib.Core.Path.{◌≡◌, refl, sym, ap, ◌∙◌, subst}
use mathlib.Core.Bool.{Bool, true, false}
use Rattle.std.specs.Prelude.{Option, Some, None}
use mathlib.Core.List.{List, [], ◌∷◌}
use native.Mathlib.Omega.{arith}
use lib.ListN.{length, get_or, take, drop}
use lib.Seq.{slice, take-take, drop-drop}
use Rattle.relation.specs.Order.{Row}
use Rattle.relation.specs.Lists.{◌∈◌, hd}
use Rattle.relation.specs.Layers.{keys_under}
use Rattle.relation.proofs.Lists.{get_or_in, in_get_or}
use Rattle.relation.proofs.Intervals.{prefix_root, root_there}
use Rattle.relation.proofs.Tests.{not_both}
use Rattle.query.proofs.Beyond.{in_keys}
use Rattle.seek.specs.Seek.{seek_of}
use Rattle.seek.specs.Offset.{NonFalling}
use Rattle.seek.specs.declared.SeekStrategy.TheVariants.{Binary}
use Rattle.seek.specs.declared.Sought.{Sought}
use Rattle.seek.proofs.Laws.{hit_means, a_key_is_hit}
use Rattle.column_trie.specs.Groups.{group_from, group_to}
use Rattle.column_trie.specs.Pool.{spot}
use Rattle.column_trie.specs.Table.{data_len_at, layer_in}
use Rattle.column_trie.specs.declared.ColumnTrie.{ColumnTrie}
use Rattle.column_trie.proofs.Header.{header_told, layer_fits}
use Rattle.column_trie.proofs.Groups.{keys_long}
use Rattle.column_trie_place.proofs.Groups.{lies_told}
use Rattle.column_trie_place.proofs.Places.{drop_take}
use Rattle.trie_iterator.specs.Cursor.{Layered}
use Rattle.trie_iterator.proofs.Held.{GroupHolds, held_group, no_firsts, first_keys, first_child}
use Rattle.overlay.specs.Laid.{owns}
use Rattle.overlay.proofs.Laid.{owns_row, row_owns, key_first, first_key}
use Rattle.overlay_lookup.specs.Lookup.{found_in}
use Rattle.overlay_lookup.specs.declared.Run.{Run}
use Rattle.overlay_lookup.proofs.Runs.{found_missed, found_there}

-- a list without members
no_members : (ks : List ℕ) → ((x : ℕ) → x ∈ ks → ⊥) → ks ≡ []
no_members [] f = refl
no_members (k ∷ ks) f = absurd (f k (hd refl))

-- a group's words, read from the pool
group_words : (pool : List ℕ) (s n from to : ℕ) → to ≤ n → take (to - from) (drop (s + from) pool) ≡ slice from to (take n (drop s pool))
group_words pool s n from to h =
    sym (ap (drop from) (take-take to n (drop s pool) h) ∙ drop_take from to (drop s pool) ∙ ap (take (to - from)) (drop-drop from s pool))

-- whether the search found a run, and the run's words, none without one
abbrev pub found : Option Run → Bool
found (Some r) = true
found None = false

abbrev pub words : List ℕ → Option Run → List ℕ
words pool (Some r) = take r.len (drop r.from pool)
words pool None = []

-- what the search tells of the rows
pub record Tells (pool : List ℕ) (rows : List Row) (k : ℕ) (f : Option Run) : Type 0 where
  pub has : found f ≡ owns rows k
  pub run : words pool f ≡ keys_under (k ∷ []) rows

module _ {pool : List ℕ} {t : ColumnTrie} {rows : List Row} (H : Layered pool t rows) (h : 1 < t.arity) (k : ℕ) where
  abbrev sought : Sought
  sought = seek_of Binary (layer_in pool t 0).keys k

  some : 0 < t.arity
  some = omega arith

  keys : (layer_in pool t 0).keys ≡ keys_under [] rows
  keys = first_keys H some

  rises : NonFalling (layer_in pool t 0).keys
  rises = subst NonFalling (sym keys) (go rows refl)
    where
      go : (rs : List Row) → rows ≡ rs → NonFalling (keys_under [] rows)
      go [] e = λ a b i l. absurd (omega (arith, l, ap length (sym keys), ap (λ (rs : List Row). length (keys_under [] rs)) e, no_firsts))
      go (r ∷ rs) e = (held_group H some (root_there {rows = rows} {r = r} (subst (λ (xs : List Row). r ∈ xs) (sym e) (hd refl))) (prefix_root rows)).rises 0

  -- the row of a key, and the key of a row
  hit_first : sought.hit ≡ true → (sought.offset < length (keys_under [] rows)) × (get_or (keys_under [] rows) sought.offset 0 ≡ k)
  hit_first e = let p = hit_means (layer_in pool t 0).keys k sought.offset e in subst (λ (ks : List ℕ). (sought.offset < length ks) × (get_or ks sought.offset 0 ≡ k)) keys p

  first_hit : k ∈ keys_under [] rows → sought.hit ≡ true
  first_hit i =
      let p = in_get_or 0 (subst (λ (ks : List ℕ). k ∈ ks) (sym keys) i) in
      a_key_is_hit Binary (layer_in pool t 0).keys k rises (record { place = p.0; inside = p.1; there = p.2 })

  hit_owns : sought.hit ≡ true → owns rows k ≡ true
  hit_owns e =
      let p = hit_first e in
      let q = key_first {s = rows} {m = rows} H.width H.width H.width some (subst (λ (x : ℕ). x ∈ keys_under [] rows) p.1 (get_or_in (keys_under [] rows) sought.offset 0 p.0)) in
      subst (λ (x : ℕ). owns rows x ≡ true) q.2 (row_owns q.1)

  owned_hit : owns rows k ≡ true → sought.hit ≡ true
  owned_hit e =
      let q = owns_row rows k e in
      first_hit (subst (λ (x : ℕ). x ∈ keys_under [] rows) q.2 (first_key {s = rows} {m = rows} H.width H.width H.width some q.1))

  -- its children
  under : sought.hit ≡ true → GroupHolds (layer_in pool t 1) rows 1 sought.offset (k ∷ [])
  under e =
      let p = hit_first e in
      let c = first_child H some sought.offset p.0 in
      held_group H h c.0 (c.1 ∙ ap (λ (x : ℕ). x ∷ []) p.1)

  -- a key under k has a row
  child_hit : (x : ℕ) → x ∈ keys_under (k ∷ []) rows → sought.hit ≡ true
  child_hit x i = let r = in_keys (k ∷ []) H.width h i in owned_hit (row_owns r.1)

  pub found_tells : Tells pool rows k (found_in pool t k)
  found_tells = go sought.hit refl
    where
      go : (b : Bool) → sought.hit ≡ b → Tells pool rows k (found_in pool t k)
      go true e =
          let g = under e in
          let l = lies_told (layer_in pool t 1) sought.offset g.lies in
          let f = layer_fits (header_told (length pool) t H.sound) h in
          let n : group_to (layer_in pool t 1) sought.offset ≤ data_len_at t 1 = omega (arith, l.2, keys_long pool f) in
          subst (Tells pool rows k) (found_there pool t k e g.lies)
          (record {
            has = sym (hit_owns e);
            run = group_words pool (spot t.start t.capacity 1) (data_len_at t 1) (group_from (layer_in pool t 1) sought.offset) (group_to (layer_in pool t 1) sought.offset) n ∙ g.keys;
          })
      go false e =
          subst (Tells pool rows k) (found_missed pool t k e)
          (record { has = sym (unowned (owns rows k) refl); run = sym (no_members (keys_under (k ∷ []) rows) (λ x i. not_both sought.hit (child_hit x i) e)) })
        where
          unowned : (b : Bool) → owns rows k ≡ b → owns rows k ≡ false
          unowned true o = not_both sought.hit (owned_hit o) e
          unowned false o = o
