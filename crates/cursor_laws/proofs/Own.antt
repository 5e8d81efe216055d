-- Every answer depends on the table's own words alone: in a pool that differs elsewhere it is the same. Idea: the answers go by the header and by
-- layers, a refusal asks for no other layer than those of the table, and each layer lies within the table's words.
use Prim.Native.Nat.{ℕ, ◌+◌, ◌*◌, ◌-◌, ◌≤◌, ◌<◌}
use mathlib.Core.Path.{◌≡◌, refl, sym, ap, ap₂, ◌∙◌}
use mathlib.Core.Bool.{Bool, true, false, ◌&&◌}
use mathlib.Core.List.{List, []}
use native.Mathlib.Omega.{arith}
use native.Mathlib.Decide.{dec_lt}
use lib.ListN.{length, take, drop}
use lib.Seq.{take-take, drop-drop}
use lib.Dec.{ltb, leb, eqb}
use borrow.Author.Tests.{ltb-true, eqb-true, eqb-false, eq-eqb, ne_eqb}
use Rattle.relation.specs.Lists.{nonempty}
use Rattle.relation.specs.Order.{pick}
use Rattle.relation.specs.Layers.{Layer}
use Rattle.relation.proofs.Tests.{and_left}
use Rattle.seek.specs.declared.SeekStrategy.{SeekStrategy}
use Rattle.column_trie.specs.Groups.{lies, keys_of, group_from}
use Rattle.column_trie.specs.Pool.{spot}
use Rattle.column_trie.specs.Table.{data_len_at, interval_len_at, layer_in, header_sound}
use Rattle.column_trie.specs.declared.ColumnTrie.{ColumnTrie}
use Rattle.column_trie.proofs.Pool.{spot_is}
use Rattle.column_trie.proofs.Header.{layer_fits, header_told, layer_inside}
use Rattle.column_trie_place.specs.Checks.{layer_of, stands_below, stands, refusal, remaining, unless, child, cursor, at_root}
use Rattle.column_trie_iter.specs.Cursor.{no_key, key_in, key_of, unmoved, next_in, next_of, unsought, seek_in, sought_of, no_end, end_in, end_of, unopened, opens, open_at, open_of, unrisen, rises_in, up_of}
use Rattle.cursor_laws.specs.Own.{SameTable, SameAnswers}
use Rattle.column_trie_place.specs.declared.ColumnTrieIter.{ColumnTrieIter}
use Rattle.column_trie_iter.specs.declared.OpenAnswer.{OpenAnswer}
use Rattle.column_trie_iter.specs.declared.UpAnswer.{UpAnswer}
use Rattle.column_trie_place.proofs.Places.{drop_take, unrefused, standing, stands_below_lem, too_deep}
use Rattle.column_trie_place.proofs.Rests.{refuses, answers}

-- words within a part, read from the part
within : (pool : List ℕ) (s o n m : ℕ) → o + n ≤ m → take n (drop (s + o) pool) ≡ take n (drop o (take m (drop s pool)))
within pool s o n m h =
    sym (ap (take n) (drop_take o m (drop s pool)) ∙ take-take n (m - o) (drop o (drop s pool)) (omega arith) ∙ ap (take n) (drop-drop o s pool))

module _ {t : ColumnTrie} {pool pool' : List ℕ} (q : SameTable t pool pool') where
  same_part : (o n : ℕ) → o + n ≤ 2 * t.arity * t.capacity → take n (drop (t.start + o) pool) ≡ take n (drop (t.start + o) pool')
  same_part o n h =
      within pool t.start o n (2 * t.arity * t.capacity) h ∙ ap (λ (l : List ℕ). take n (drop o l)) q.words ∙ sym (within pool' t.start o n (2 * t.arity * t.capacity) h)

  same_header : header_sound (length pool) t ≡ header_sound (length pool') t
  same_header = ap (λ (n : ℕ). header_sound n t) q.long

  same_layer : header_sound (length pool) t ≡ true → (d : ℕ) → d < t.arity → layer_in pool t d ≡ layer_in pool' t d
  same_layer e d h =
      let c = t.capacity in
      let f = layer_fits {d = d} (header_told (length pool) t e) h in
      let i = layer_inside t.start t.arity c d h in
      let s = spot_is t.start c d in
      let o = d * (c + c) in
      let a = same_part o (data_len_at t d) (omega (arith, f.keys)) in
      let b = same_part (o + c) (interval_len_at t d) (omega (arith, f.intervals)) in
      ap₂ {C = Layer} (λ ks is. record { keys = ks; intervals = is })
      (ap (λ (n : ℕ). take (data_len_at t d) (drop n pool)) s ∙ a ∙ ap (λ (n : ℕ). take (data_len_at t d) (drop n pool')) (sym s))
      (ap (λ (n : ℕ). take (interval_len_at t d) (drop n pool)) (let x : spot t.start c d + c ≡ t.start + (o + c) = omega arith in x) ∙ b ∙
      ap (λ (n : ℕ). take (interval_len_at t d) (drop n pool')) (let x : t.start + (o + c) ≡ spot t.start c d + c = omega arith in x))

  module _ (it : ColumnTrieIter) where
    same_below : header_sound (length pool) t ≡ true → 0 < it.depth → it.depth ≤ t.arity → layer_of pool t it ≡ layer_of pool' t it
    same_below e p h = same_layer e (it.depth - 1) (omega arith)

    same_stands : header_sound (length pool) t ≡ true → stands pool t it ≡ stands pool' t it
    unfolding stands stands_below
    same_stands e = go (dec_lt 0 it.depth) (dec_lt t.arity it.depth)
      where
        go : Dec (0 < it.depth) → Dec (t.arity < it.depth) → stands pool t it ≡ stands pool' t it
        go (no z) x = simp (eq-eqb it.depth 0 (omega arith))
        go (yes p) (yes x) = stands_below_lem pool t it p ∙ too_deep pool t it x ∙ sym (stands_below_lem pool' t it p ∙ too_deep pool' t it x)
        go (yes p) (no x) =
            stands_below_lem pool t it p ∙
            ap (λ (l : Layer). leb it.depth t.arity && (lies l it.interval_i && leb it.slice_offset (length (keys_of l it.interval_i)))) (same_below e p (omega arith)) ∙
            sym (stands_below_lem pool' t it p)

    same_refusal : refusal pool t it ≡ refusal pool' t it
    unfolding refusal
    same_refusal = go (header_sound (length pool) t) refl
      where
        go : (b : Bool) → header_sound (length pool) t ≡ b → refusal pool t it ≡ refusal pool' t it
        go true e = simp (e, sym same_header ∙ e) (ap (λ (x : Bool). pick x 0 7) (same_stands e))
        go false e = simp (e, sym same_header ∙ e)

    -- a call is refused alike, so its answers are the same if they are where it is not refused
    same_unless : {A : Type 0} (deny : ℕ → A) (x y : A) → (refusal pool t it ≡ 0 → x ≡ y) → unless (refusal pool t it) deny x ≡ unless (refusal pool' t it) deny y
    same_unless deny x y f = go (eqb (refusal pool t it) 0) refl
      where
        go : (b : Bool) → eqb (refusal pool t it) 0 ≡ b → unless (refusal pool t it) deny x ≡ unless (refusal pool' t it) deny y
        go true e = let z = eqb-true (refusal pool t it) 0 e in sym (answers deny x z) ∙ f z ∙ answers deny y (sym same_refusal ∙ z)
        go false e = sym (refuses deny x refl (eqb-false (refusal pool t it) 0 e)) ∙ refuses deny y same_refusal (eqb-false (refusal pool t it) 0 e)

    -- by what is left
    same_remaining : refusal pool t it ≡ 0 → remaining pool t it ≡ remaining pool' t it
    unfolding remaining
    same_remaining z = go (dec_lt 0 it.depth)
      where
        go : Dec (0 < it.depth) → remaining pool t it ≡ remaining pool' t it
        go (no n) = simp (eq-eqb it.depth 0 (omega arith))
        go (yes p) =
            ap (λ (l : Layer). pick (eqb it.depth 0) [] (drop it.slice_offset (keys_of l it.interval_i))) (same_below (unrefused pool t it z).0 p (standing pool t it z p).deep)

    by_remaining : {A : Type 0} (deny : ℕ → A) (f : List ℕ → A) → unless (refusal pool t it) deny (f (remaining pool t it)) ≡ unless (refusal pool' t it) deny (f (remaining pool' t it))
    by_remaining deny f = same_unless deny (f (remaining pool t it)) (f (remaining pool' t it)) (λ z. ap f (same_remaining z))

    -- ---- the calls

    same_key : key_of pool t it ≡ key_of pool' t it
    unfolding key_of
    same_key = by_remaining no_key key_in

    same_next : next_of pool t it ≡ next_of pool' t it
    unfolding next_of
    same_next = by_remaining (unmoved it) (next_in it)

    same_seek : (s : SeekStrategy) (target : ℕ) → sought_of pool t it s target ≡ sought_of pool' t it s target
    unfolding sought_of
    same_seek s target = by_remaining (unsought it) (seek_in s target it)

    same_end : end_of pool t it ≡ end_of pool' t it
    unfolding end_of
    same_end = by_remaining no_end end_in

    same_opens : refusal pool t it ≡ 0 → opens pool t it ≡ opens pool' t it
    unfolding opens
    same_opens z =
        let e = (unrefused pool t it z).0 in
        ap₂ {C = Bool} (λ l ks. ltb it.depth t.arity && pick (eqb it.depth 0) (ltb 0 (length l.keys)) (nonempty ks)) (same_layer e 0 (header_told (length pool) t e).positive) (same_remaining z)

    same_child : refusal pool t it ≡ 0 → child pool t it ≡ child pool' t it
    unfolding child
    same_child z = go (dec_lt 0 it.depth)
      where
        go : Dec (0 < it.depth) → child pool t it ≡ child pool' t it
        go (no n) = simp (eq-eqb it.depth 0 (omega arith))
        go (yes p) =
            ap (λ (l : Layer). pick (eqb it.depth 0) 0 (group_from l it.interval_i + it.slice_offset)) (same_below (unrefused pool t it z).0 p (standing pool t it z p).deep)

    opens_deep : opens pool t it ≡ true → it.depth < t.arity
    unfolding opens
    opens_deep e = ltb-true it.depth t.arity (and_left (ltb it.depth t.arity) (pick (eqb it.depth 0) (ltb 0 (length (layer_in pool t 0).keys)) (nonempty (remaining pool t it))) e)

    abbrev opening : List ℕ → OpenAnswer
    opening p = pick (opens p t it) (open_at p t it (child p t it)) (unopened it 0)

    same_open : open_of pool t it ≡ open_of pool' t it
    unfolding open_of
    same_open = same_unless (unopened it) (opening pool) (opening pool') (λ z. go z (opens pool t it) refl)
      where
        go : refusal pool t it ≡ 0 → (b : Bool) → opens pool t it ≡ b → opening pool ≡ opening pool'
        go z true e =
            ap₂ {C = OpenAnswer} (λ l i. pick (opens pool t it) (pick (lies l i) (record { number = 0; opened = true; iter = cursor (it.depth + 1) i 0 }) (unopened it 6)) (unopened it 0))
            (same_layer (unrefused pool t it z).0 it.depth (opens_deep e)) (same_child z) ∙
            ap (λ (b : Bool). pick b (open_at pool' t it (child pool' t it)) (unopened it 0)) (same_opens z)
        go z false e =
            ap (λ (b : Bool). pick b (open_at pool t it (child pool t it)) (unopened it 0)) e ∙
            sym (ap (λ (b : Bool). pick b (open_at pool' t it (child pool' t it)) (unopened it 0)) (sym (same_opens z) ∙ e))

    abbrev rising : List ℕ → UpAnswer
    rising p = pick (eqb it.depth 0) (unrisen it 0) (pick (eqb it.depth 1) (record { number = 0; risen = true; iter = at_root }) (rises_in (layer_in p t (it.depth - 2)) it))

    same_up : up_of pool t it ≡ up_of pool' t it
    unfolding up_of
    same_up = same_unless (unrisen it) (rising pool) (rising pool') (λ z. go z (dec_lt 0 it.depth) (dec_lt 1 it.depth))
      where
        go : refusal pool t it ≡ 0 → Dec (0 < it.depth) → Dec (1 < it.depth) → rising pool ≡ rising pool'
        go z (no n) x = simp (eq-eqb it.depth 0 (omega arith))
        go z (yes p) (no n) = simp (ne_eqb it.depth 0 (λ e. omega arith), eq-eqb it.depth 1 (omega arith))
        go z (yes p) (yes x) =
            ap (λ (l : Layer). pick (eqb it.depth 0) (unrisen it 0) (pick (eqb it.depth 1) (record { number = 0; risen = true; iter = at_root }) (rises_in l it)))
            (same_layer (unrefused pool t it z).0 (it.depth - 2) (omega (arith, (standing pool t it z p).deep)))

    pub no_call_reads_outside_the_table : SameAnswers t it pool pool'
    no_call_reads_outside_the_table = record { key = same_key; next = same_next; seek = same_seek; end = same_end; opened = same_open; up = same_up }
