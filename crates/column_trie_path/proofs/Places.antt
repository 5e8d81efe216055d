-- A key's place in its group: the group's words are those of its layer that the code cuts out, and ascend, so the offset that a seek finds in them leads
-- there, and is the key's place once the group's start is added.
use Prim.Native.Nat.{ℕ, suc, ◌+◌, ◌-◌, ◌≤◌, ◌<◌}
use mathlib.Core.Path.{◌≡◌, sym, ap, ap₂, subst, ◌∙◌}
use mathlib.Core.Bool.{true, false}
use mathlib.Core.Logic.{◌⊎◌, inl, inr, ⊎_elim}
use mathlib.Core.List.{List}
use native.Mathlib.Omega.{arith}
use native.Mathlib.Numerals.{add-one}
use lib.Arith.{lt_of_le-ne}
use lib.Dec.{ltb}
use lib.ListN.{length, take, drop, get_or}
use Rattle.std.specs.Prelude.{Result, Ok, Err}
use Rattle.relation.specs.Layers.{Layer}
use Rattle.relation.proofs.Tests.{not_both}
use Rattle.seek.specs.Offset.{NonFalling, Leading}
use Rattle.seek.specs.Probes.{digits}
use Rattle.seek.specs.Seek.{hit_at}
use Rattle.seek.proofs.Laws.{hit_means, hit_given}
use Rattle.column_trie.specs.Groups.{group_from, group_to}
use Rattle.column_trie.proofs.Header.{length_part}
use Rattle.column_trie.proofs.Words.{part_at}
use Rattle.sound_table.proofs.Groups.{starts_group, ends_group}
use Rattle.column_trie_path.specs.Place.{Grouped, KeyPlaceOf, either}

-- a group of a layer, and where the code reads that it starts and ends
pub record GroupAt (l : Layer) (i from to : ℕ) : Type 0 where
  pub grouped : Grouped l i
  pub from_is : from ≡ get_or l.intervals i (length l.keys)
  pub to_is : to ≡ get_or l.intervals (i + 1) (length l.keys)

-- the group's words, as the seek is handed them
abbrev pub run : List ℕ → ℕ → ℕ → List ℕ
run keys from to = take (to - from) (drop from keys)

module _ {l : Layer} {i from to : ℕ} (u : GroupAt l i from to) where
  starts : from ≡ group_from l i
  starts = starts_group l i u.grouped.there u.from_is

  ends : to ≡ group_to l i
  ends = ends_group l i u.to_is

  -- the group's words lie in the layer
  pub record GroupFits : Type 0 where
    pub order : from ≤ to
    pub end : to ≤ length l.keys

  pub group_fits : GroupFits
  group_fits =
      record {
        order = omega (arith, starts, ends, u.grouped);
        end = omega (arith, ends, u.grouped);
      }

  pub run_long : length (run l.keys from to) ≡ to - from
  run_long = length_part l.keys from (to - from) (omega (arith, group_fits))

  run_at_lem : (j : ℕ) → j < to - from → get_or (run l.keys from to) j 0 ≡ get_or l.keys (from + j) 0
  run_at_lem j h = part_at l.keys from (to - from) j h

  pub run_rises : NonFalling (run l.keys from to)
  run_rises a b h k =
      omega (arith, run_at_lem a (omega (arith, run_long)), run_at_lem b (omega (arith, run_long)), u.grouped.rises (from + a) (from + b) (omega (arith, starts)) (omega arith) (omega (arith, ends, run_long)))

  -- the bound on the probes, in the layer's terms
  probes_few : {probes : ℕ} → probes ≤ digits (length (run l.keys from to)) → probes ≤ digits (group_to l i - group_from l i)
  probes_few {probes} h =
      let e : length (run l.keys from to) ≡ group_to l i - group_from l i = omega (arith, run_long, starts, ends) in
      subst (λ (n : ℕ). probes ≤ digits n) e h

  module _ {key offset probes : ℕ} (leads : Leading (run l.keys from to) key offset) (c : probes ≤ digits (length (run l.keys from to))) where
    before : (j : ℕ) → group_from l i ≤ j → j < from + offset → get_or l.keys j 0 < key
    before j h k =
        let e : from + (j - from) ≡ j = omega (arith, starts) in
        subst (λ (n : ℕ). get_or l.keys n 0 < key) e (omega (arith, leads.before (j - from) (omega (arith, starts)), run_at_lem (j - from) (omega (arith, starts, leads.inside, run_long))))

    -- the place told is the seek's, there if it hits
    pub place_sought :
        (place : Result ℕ ℕ) → ((hit_at (run l.keys from to) key offset ≡ true) × (place ≡ Ok (from + offset))) ⊎ ((hit_at (run l.keys from to) key offset ≡ false) × (place ≡ Err (from + offset))) →
        KeyPlaceOf l i key (record { place = place; several = ltb (from + 1) to; probes = probes })
    place_sought place s =
        record {
          from = omega (arith, starts, same);
          to = omega (arith, ends, run_long, leads.inside, group_fits, same);
          below = λ j h k. before j h (subst (λ (n : ℕ). j < n) same k);
          found = there s;
          absent = elsewhere s;
          several = ap₂ ltb (add-one from ∙ ap suc starts) ends;
          few = probes_few c;
        }
      where
        words : List ℕ
        words = run l.keys from to

        same : either place ≡ from + offset
        same = ⊎_elim (λ (x : (hit_at words key offset ≡ true) × (place ≡ Ok (from + offset))). ap either x.1) (λ (x : (hit_at words key offset ≡ false) × (place ≡ Err (from + offset))). ap either x.1) s

        there : ((hit_at words key offset ≡ true) × (place ≡ Ok (from + offset))) ⊎ ((hit_at words key offset ≡ false) × (place ≡ Err (from + offset))) → (at : ℕ) → place ≡ Ok at → (at < group_to l i) × (get_or l.keys at 0 ≡ key)
        there (inl x) at e =
            let h = hit_means words key offset x.0 in
            let q : from + offset ≡ at = cc in
            subst (λ (n : ℕ). (n < group_to l i) × (get_or l.keys n 0 ≡ key)) q (omega (arith, ends, run_long, h.0), sym (run_at_lem offset (omega (arith, run_long, h.0))) ∙ h.1)
        there (inr x) at e = cc

        elsewhere : ((hit_at words key offset ≡ true) × (place ≡ Ok (from + offset))) ⊎ ((hit_at words key offset ≡ false) × (place ≡ Err (from + offset))) → (at : ℕ) → place ≡ Err at → at < group_to l i → key < get_or l.keys at 0
        elsewhere (inl x) at e k = cc
        elsewhere (inr x) at e k =
            let q : from + offset ≡ at = cc in
            let h : offset < length words = omega (arith, ends, run_long) in
            subst (λ (n : ℕ). key < get_or l.keys n 0) q (omega (arith, run_at_lem offset (omega (arith, run_long)), lt_of_le-ne (leads.stops h) (λ z. not_both (hit_at words key offset) (hit_given words key offset h (sym z)) x.0)))
