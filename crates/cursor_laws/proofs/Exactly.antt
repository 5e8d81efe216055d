-- Each number of a cursor's call is given exactly when document 01 says, and open and up say yes exactly when they move: from facts, and not from the
-- tests that the code makes.
use Prim.Native.Nat.{ℕ, ◌+◌, ◌-◌, ◌≤◌, ◌<◌}
use mathlib.Core.Path.{◌≡◌, refl, sym, ap, ◌∙◌}
use mathlib.Core.Bool.{Bool, true, false, not, ◌&&◌, false≢true}
use mathlib.Core.Logic.{◌⊎◌, inl, inr}
use mathlib.Core.List.{List, [], ◌∷◌}
use native.Mathlib.Omega.{arith}
use lib.ListN.{length, drop, length-drop}
use lib.Seq.{length-slice}
use lib.Dec.{ltb, leb, eqb}
use borrow.Author.Tests.{ltb-true, leb-true, eqb-true, eqb-false, lt-ltb, le-ltb, le-leb, eq-eqb, ne_eqb, not-true}
use Rattle.relation.specs.Lists.{nonempty}
use Rattle.relation.specs.Order.{pick}
use Rattle.relation.specs.Layers.{Layer}
use Rattle.relation.specs.Exactly.{Exactly}
use Rattle.relation.proofs.Tests.{and_left, and_right, and_true, not_both}
use Rattle.relation.proofs.Sequence.{exactly_then, exactly_same, here, later, here_or_later, neither}
use Rattle.seek.specs.declared.SeekStrategy.{SeekStrategy}
use Rattle.column_trie.specs.Groups.{group_from, group_to, keys_of, lies}
use Rattle.column_trie.specs.Table.{layer_in, header_sound}
use Rattle.column_trie.specs.declared.ColumnTrie.{ColumnTrie}
use Rattle.column_trie.proofs.Header.{InPool, header_told, told_header}
use Rattle.column_trie_place.specs.Checks.{cursor, at_root, layer_of, stands, refusal, remaining, unless, child, count_up_to, owns}
use Rattle.column_trie_iter.specs.Cursor.{no_key, key_in, key_of, unmoved, next_in, next_of, unsought, seek_in, sought_of, no_end, end_in, end_of, opens, unopened, open_of, unrisen, risen_to, rises_in, up_of}
use Rattle.column_trie_place.specs.declared.ColumnTrieIter.{ColumnTrieIter}
use Rattle.column_trie_iter.specs.declared.UpAnswer.{UpAnswer}
use Rattle.column_trie_place.proofs.Groups.{lies_told}
use Rattle.column_trie_place.proofs.Places.{Standing, stands_there, stands_told, stands_below_lem}

-- ---- the facts

-- "interval index or group outside its list": not so
pub record GroupInside (l : Layer) (i : ℕ) : Type 0 where
  pub listed : i < length l.intervals
  pub ordered : group_from l i ≤ group_to l i
  pub inside : group_to l i ≤ length l.keys

-- not 7: at depth 0 the other numbers are 0; below it the depth is not over the arity, interval index and group are in their lists, and the offset is not
-- over the run's length
pub record Stands (pool : List ℕ) (t : ColumnTrie) (it : ColumnTrieIter) : Type 0 where
  pub root : it.depth ≡ 0 → (it.interval_i ≡ 0) × (it.slice_offset ≡ 0)
  pub below : 0 < it.depth → Standing pool t it

-- there is something to open: above full depth, at the root over data in layer 0, below it on a key
pub record Opens (pool : List ℕ) (t : ColumnTrie) (it : ColumnTrieIter) : Type 0 where
  pub above : it.depth < t.arity
  pub root : it.depth ≡ 0 → 0 < length (layer_in pool t 0).keys
  pub below : 0 < it.depth → it.slice_offset < group_to (layer_of pool t it) it.interval_i - group_from (layer_of pool t it) it.interval_i

-- up finds its key: some interval is counted, the group of the last one counted lies in its list, and has the key at place i
pub record Owned (l : Layer) (i : ℕ) : Type 0 where
  pub counted : 0 < count_up_to i l.intervals
  pub group : GroupInside l (count_up_to i l.intervals - 1)
  pub from : group_from l (count_up_to i l.intervals - 1) ≤ i
  pub to : i < group_to l (count_up_to i l.intervals - 1)

-- ---- the tests decide them

yes_exactly : (b : Bool) {P : Type 0} → Exactly (b ≡ true) P → Exactly (pick b true false ≡ true) P
yes_exactly true f = f
yes_exactly false f = f

header_decides : (len : ℕ) (t : ColumnTrie) → Exactly (header_sound len t ≡ true) (InPool len t)
header_decides len t = (header_told len t, told_header len t)

lies_decides : (l : Layer) (i : ℕ) → Exactly (lies l i ≡ true) (GroupInside l i)
unfolding lies
lies_decides l i = (
  λ e. let q = lies_told l i e in record { listed = q.0; ordered = q.1; inside = q.2 },
  λ g.
      and_true (ltb i (length l.intervals)) (leb (group_from l i) (group_to l i) && leb (group_to l i) (length l.keys)) (lt-ltb i (length l.intervals) g.listed)
      (and_true (leb (group_from l i) (group_to l i)) (leb (group_to l i) (length l.keys)) (le-leb (group_from l i) (group_to l i) g.ordered) (le-leb (group_to l i) (length l.keys) g.inside)),
)

-- 6 for a fact Q that is asked only where P holds
asked : (b c : Bool) {P Q : Type 0} → Exactly (b ≡ true) P → Exactly (c ≡ true) Q → Exactly (◌≡◌ {A = ℕ} (pick b (pick c 0 6) 0) 0) (P → Q)
asked true true f g = (λ e p. g.0 refl, λ w. refl)
asked true false f g = (λ e. absurd (omega arith), λ w. not_both false (g.1 (w (f.0 refl))) refl)
asked false c f g = (λ e p. not_both false (f.1 p) refl, λ w. refl)

run_long : (l : Layer) (i : ℕ) → group_to l i ≤ length l.keys → length (keys_of l i) ≡ group_to l i - group_from l i
run_long l i h = length-slice (group_from l i) (group_to l i) l.keys h

module _ (pool : List ℕ) (t : ColumnTrie) (it : ColumnTrieIter) where
  abbrev group : Layer
  group = layer_of pool t it

  stands_decides : Exactly (stands pool t it ≡ true) (Stands pool t it)
  unfolding stands
  stands_decides = (tells, back (eqb it.depth 0) refl)
    where
      tells : stands pool t it ≡ true → Stands pool t it
      tells e = record {
        root = λ z.
            let r : (eqb it.interval_i 0 && eqb it.slice_offset 0) ≡ true = simp (eq-eqb it.depth 0 z) at e in
            (eqb-true it.interval_i 0 (and_left (eqb it.interval_i 0) (eqb it.slice_offset 0) r), eqb-true it.slice_offset 0 (and_right (eqb it.interval_i 0) (eqb it.slice_offset 0) r));
        below = λ h. stands_told pool t it (sym (stands_below_lem pool t it h) ∙ e);
      }

      back : (b : Bool) → eqb it.depth 0 ≡ b → Stands pool t it → stands pool t it ≡ true
      back true e s =
          let z = s.root (eqb-true it.depth 0 e) in
          simp (e, eq-eqb it.interval_i 0 z.0, eq-eqb it.slice_offset 0 z.1)
      back false e s =
          let n = eqb-false it.depth 0 e in
          let b = s.below (omega (arith, n)) in
          stands_below_lem pool t it (omega (arith, n))
          ∙ stands_there pool t it b.deep ((lies_decides group it.interval_i).1 (record { listed = b.listed; ordered = b.ordered; inside = b.inside }))
          (omega (arith, b.offset, run_long group it.interval_i b.inside))

  -- ---- what every call asks first

  -- the numbers of a call that has none of its own
  pub record Numbers (n : ℕ) : Type 0 where
    -- "for a cursor only: arity, capacity or pool range broken, any length over c"
    pub header : Exactly (n ≡ 6) (InPool (length pool) t → ⊥)
    -- "depth over arity; depth 0 with other numbers not 0; interval index or group outside its list, or offset over the run's length"
    pub cursor : Exactly (n ≡ 7) (InPool (length pool) t × (Stands pool t it → ⊥))
    pub none : Exactly (n ≡ 0) (InPool (length pool) t × Stands pool t it)

  abbrev sound : Bool
  sound = header_sound (length pool) t

  abbrev there : Bool
  there = stands pool t it

  by_sound : Exactly (sound ≡ true) (InPool (length pool) t)
  by_sound = header_decides (length pool) t

  pub refusal_exactly : Numbers (refusal pool t it)
  unfolding refusal
  refusal_exactly = record {
    header = here sound by_sound 6 (pick there 0 7) (neither there 7 0 6 (λ e. omega arith) (λ e. omega arith));
    cursor = later sound by_sound 6 (pick there 0 7) 7 (λ e. omega arith) (λ p. here there stands_decides 7 0 (λ e. omega arith));
    none =
        later sound by_sound 6 (pick there 0 7) 0 (λ e. omega arith) (λ p.
        exactly_then (later there stands_decides 7 0 0 (λ e. omega arith) (λ s. exactly_same refl)) (λ t. t.0, λ s. (s, refl)));
  }

  same_numbers : {n : ℕ} → n ≡ refusal pool t it → Numbers n
  same_numbers e = record {
    header = exactly_then (exactly_same e) refusal_exactly.header;
    cursor = exactly_then (exactly_same e) refusal_exactly.cursor;
    none = exactly_then (exactly_same e) refusal_exactly.none;
  }

  abbrev first_number : ℕ
  first_number = refusal pool t it

  -- an answer without a number of its own gives the refusal
  pub key_exactly : Numbers (key_of pool t it).number
  unfolding key_of
  key_exactly = same_numbers (go (remaining pool t it) (eqb first_number 0) refl)
    where
      go : (ks : List ℕ) (b : Bool) → eqb first_number 0 ≡ b → (pick b (key_in ks) (no_key first_number)).number ≡ first_number
      go [] true e = sym (eqb-true first_number 0 e)
      go (k ∷ ks) true e = sym (eqb-true first_number 0 e)
      go ks false e = refl

  pub next_exactly : Numbers (next_of pool t it).number
  unfolding next_of
  next_exactly = same_numbers (go (remaining pool t it) (eqb first_number 0) refl)
    where
      go : (ks : List ℕ) (b : Bool) → eqb first_number 0 ≡ b → (pick b (next_in it ks) (unmoved it first_number)).number ≡ first_number
      go [] true e = sym (eqb-true first_number 0 e)
      go (k ∷ ks) true e = sym (eqb-true first_number 0 e)
      go ks false e = refl

  pub seek_exactly : (s : SeekStrategy) (target : ℕ) → Numbers (sought_of pool t it s target).number
  unfolding sought_of
  seek_exactly s target = same_numbers (go (remaining pool t it) (eqb first_number 0) refl)
    where
      go : (ks : List ℕ) (b : Bool) → eqb first_number 0 ≡ b → (pick b (seek_in s target it ks) (unsought it first_number)).number ≡ first_number
      go [] true e = sym (eqb-true first_number 0 e)
      go (k ∷ ks) true e = sym (eqb-true first_number 0 e)
      go ks false e = refl

  pub end_exactly : Numbers (end_of pool t it).number
  unfolding end_of
  end_exactly = same_numbers (go (remaining pool t it) (eqb first_number 0) refl)
    where
      go : (ks : List ℕ) (b : Bool) → eqb first_number 0 ≡ b → (pick b (end_in ks) (no_end first_number)).number ≡ first_number
      go [] true e = sym (eqb-true first_number 0 e)
      go (k ∷ ks) true e = sym (eqb-true first_number 0 e)
      go ks false e = refl

  -- ---- open

  nonempty_left : (ks : List ℕ) → Exactly (nonempty ks ≡ true) (0 < length ks)
  nonempty_left [] = (λ e. absurd (false≢true e), λ h. absurd (omega arith))
  nonempty_left (k ∷ ks) = (λ e. omega arith, λ h. refl)

  opens_decides : Stands pool t it → Exactly (opens pool t it ≡ true) (Opens pool t it)
  unfolding opens remaining
  opens_decides s = (tells, back (eqb it.depth 0) refl)
    where
      over : Bool
      over = pick (eqb it.depth 0) (ltb 0 (length (layer_in pool t 0).keys)) (nonempty (remaining pool t it))

      run : List ℕ
      run = drop it.slice_offset (keys_of group it.interval_i)

      long : 0 < it.depth → length run ≡ group_to group it.interval_i - group_from group it.interval_i - it.slice_offset
      long h =
          length-drop it.slice_offset (keys_of group it.interval_i)
          ∙ ap (λ (n : ℕ). n - it.slice_offset) (run_long group it.interval_i (s.below h).inside)

      tells : opens pool t it ≡ true → Opens pool t it
      tells e =
          let r = and_right (ltb it.depth t.arity) over e in
          record {
            above = ltb-true it.depth t.arity (and_left (ltb it.depth t.arity) over e);
            root = λ z. ltb-true 0 (length (layer_in pool t 0).keys) (simp (eq-eqb it.depth 0 z) at r);
            below = λ h. omega (arith, long h, (nonempty_left run).0 (simp (ne_eqb it.depth 0 (λ z. omega arith)) at r));
          }

      back : (b : Bool) → eqb it.depth 0 ≡ b → Opens pool t it → opens pool t it ≡ true
      back true e o =
          and_true (ltb it.depth t.arity) over (lt-ltb it.depth t.arity o.above)
          (simp e (lt-ltb 0 (length (layer_in pool t 0).keys) (o.root (eqb-true it.depth 0 e))))
      back false e o =
          let n = eqb-false it.depth 0 e in
          and_true (ltb it.depth t.arity) over (lt-ltb it.depth t.arity o.above)
          (simp e ((nonempty_left run).1 (omega (arith, long (omega (arith, n)), o.below (omega (arith, n))))))

  -- the interval of the children and its group lie in the layer below
  abbrev pub Below : Type 0
  Below = GroupInside (layer_in pool t it.depth) (child pool t it)

  abbrev lie : Bool
  lie = lies (layer_in pool t it.depth) (child pool t it)

  abbrev may : Bool
  may = opens pool t it

  open_number : (open_of pool t it).number ≡ pick sound (pick there (pick may (pick lie 0 6) 0) 7) 6
  unfolding open_of refusal
  open_number = go sound there may lie
    where
      go : (h s o g : Bool) → (unless (pick h (pick s 0 7) 6) (unopened it) (pick o (pick g (record { number = 0; opened = true; iter = cursor (it.depth + 1) (child pool t it) 0 }) (unopened it 6)) (unopened it 0))).number ≡ pick h (pick s (pick o (pick g 0 6) 0) 7) 6
      go false s o g = refl
      go true false o g = refl
      go true true false g = refl
      go true true true false = refl
      go true true true true = refl

  open_yes : (open_of pool t it).opened ≡ pick sound (pick there (pick may (pick lie true false) false) false) false
  unfolding open_of refusal
  open_yes = go sound there may lie
    where
      go : (h s o g : Bool) → (unless (pick h (pick s 0 7) 6) (unopened it) (pick o (pick g (record { number = 0; opened = true; iter = cursor (it.depth + 1) (child pool t it) 0 }) (unopened it 6)) (unopened it 0))).opened ≡ pick h (pick s (pick o (pick g true false) false) false) false
      go false s o g = refl
      go true false o g = refl
      go true true false g = refl
      go true true true false = refl
      go true true true true = refl

  pub record OpenNumbers : Type 0 where
    -- the header, or "open .. needs an interval or group outside its list"
    pub broken : Exactly ((open_of pool t it).number ≡ 6) ((InPool (length pool) t → ⊥) ⊎ (InPool (length pool) t × (Stands pool t it × (Opens pool t it × (Below → ⊥)))))
    pub cursor : Exactly ((open_of pool t it).number ≡ 7) (InPool (length pool) t × (Stands pool t it → ⊥))
    pub none : Exactly ((open_of pool t it).number ≡ 0) (InPool (length pool) t × (Stands pool t it × (Opens pool t it → Below)))
    pub yes : Exactly ((open_of pool t it).opened ≡ true) (InPool (length pool) t × (Stands pool t it × (Opens pool t it × Below)))

  pub open_exactly : OpenNumbers
  open_exactly = record {
    broken =
        exactly_then (exactly_same open_number)
        (here_or_later sound by_sound 6 (pick there (pick may (pick lie 0 6) 0) 7) λ p.
        later there stands_decides 7 (pick may (pick lie 0 6) 0) 6 (λ e. omega arith) λ s.
        later may (opens_decides s) 0 (pick lie 0 6) 6 (λ e. omega arith) λ o.
        here lie (lies_decides (layer_in pool t it.depth) (child pool t it)) 6 0 (λ e. omega arith));
    cursor =
        exactly_then (exactly_same open_number)
        (later sound by_sound 6 (pick there (pick may (pick lie 0 6) 0) 7) 7 (λ e. omega arith) λ p.
        here there stands_decides 7 (pick may (pick lie 0 6) 0) (neither may 0 (pick lie 0 6) 7 (λ e. omega arith) (neither lie 6 0 7 (λ e. omega arith) (λ e. omega arith))));
    none =
        exactly_then (exactly_same open_number)
        (later sound by_sound 6 (pick there (pick may (pick lie 0 6) 0) 7) 0 (λ e. omega arith) λ p.
        later there stands_decides 7 (pick may (pick lie 0 6) 0) 0 (λ e. omega arith) λ s.
        asked may lie (opens_decides s) (lies_decides (layer_in pool t it.depth) (child pool t it)));
    yes =
        exactly_then (exactly_same open_yes)
        (later sound by_sound false (pick there (pick may (pick lie true false) false) false) true false≢true λ p.
        later there stands_decides false (pick may (pick lie true false) false) true false≢true λ s.
        later may (opens_decides s) false (pick lie true false) true false≢true λ o.
        yes_exactly lie (lies_decides (layer_in pool t it.depth) (child pool t it)));
  }

  -- ---- up

  -- the layer above
  abbrev above : Layer
  above = layer_in pool t (it.depth - 2)

  abbrev counted : ℕ
  counted = count_up_to it.interval_i above.intervals

  abbrev has : Bool
  has = not (eqb counted 0) && owns above (counted - 1) it.interval_i

  owned_decides : Exactly (has ≡ true) (Owned above it.interval_i)
  unfolding owns
  owned_decides = (tells, back)
    where
      g : Bool
      g = lies above (counted - 1)

      f : Bool
      f = leb (group_from above (counted - 1)) it.interval_i

      u : Bool
      u = ltb it.interval_i (group_to above (counted - 1))

      tells : has ≡ true → Owned above it.interval_i
      tells e =
          let n : counted ≡ 0 → ⊥ = eqb-false counted 0 (not-true (eqb counted 0) (and_left (not (eqb counted 0)) (g && (f && u)) e)) in
          let r = and_right (not (eqb counted 0)) (g && (f && u)) e in
          let q = and_right g (f && u) r in
          record {
            counted = omega (arith, n);
            group = (lies_decides above (counted - 1)).0 (and_left g (f && u) r);
            from = leb-true (group_from above (counted - 1)) it.interval_i (and_left f u q);
            to = ltb-true it.interval_i (group_to above (counted - 1)) (and_right f u q);
          }

      back : Owned above it.interval_i → has ≡ true
      back o =
          and_true (not (eqb counted 0)) (g && (f && u)) (ap not (ne_eqb counted 0 (λ z. omega (arith, o.counted))))
          (and_true g (f && u) ((lies_decides above (counted - 1)).1 o.group)
          (and_true f u (le-leb (group_from above (counted - 1)) it.interval_i o.from) (lt-ltb it.interval_i (group_to above (counted - 1)) o.to)))

  deep_decides : Exactly (ltb 1 it.depth ≡ true) (1 < it.depth)
  deep_decides = (ltb-true 1 it.depth, lt-ltb 1 it.depth)

  -- from the root and from depth 1 there is no number
  by_depth : (x : ℕ) → pick (eqb it.depth 0) 0 (pick (eqb it.depth 1) 0 x) ≡ pick (ltb 1 it.depth) x 0
  by_depth x = go (eqb it.depth 0) (eqb it.depth 1) refl refl
    where
      go : (z o : Bool) → eqb it.depth 0 ≡ z → eqb it.depth 1 ≡ o → pick z 0 (pick o 0 x) ≡ pick (ltb 1 it.depth) x 0
      go true o e f = sym (ap (λ (b : Bool). pick b x 0) (le-ltb 1 it.depth (omega (arith, eqb-true it.depth 0 e))))
      go false true e f = sym (ap (λ (b : Bool). pick b x 0) (le-ltb 1 it.depth (omega (arith, eqb-true it.depth 1 f))))
      go false false e f = sym (ap (λ (b : Bool). pick b x 0) (lt-ltb 1 it.depth (let n = eqb-false it.depth 0 e in let m = eqb-false it.depth 1 f in omega (arith, n, m))))

  -- up's answer, by the tests
  abbrev answer : Bool → Bool → Bool → Bool → Bool → Bool → UpAnswer
  answer h s z o c w =
      unless (pick h (pick s 0 7) 6) (unrisen it)
      (pick z (unrisen it 0) (pick o (record { number = 0; risen = true; iter = at_root }) (pick c (unrisen it 6) (pick w (risen_to above it (counted - 1)) (unrisen it 6)))))

  up_number : (up_of pool t it).number ≡ pick sound (pick there (pick (ltb 1 it.depth) (pick has 0 6) 0) 7) 6
  unfolding up_of refusal rises_in
  up_number = go sound there (eqb it.depth 0) (eqb it.depth 1) (eqb counted 0) (owns above (counted - 1) it.interval_i) ∙ ap (λ (n : ℕ). pick sound (pick there n 7) 6) (by_depth (pick has 0 6))
    where
      go : (h s z o c w : Bool) → (answer h s z o c w).number ≡ pick h (pick s (pick z 0 (pick o 0 (pick (not c && w) 0 6))) 7) 6
      go false s z o c w = refl
      go true false z o c w = refl
      go true true true o c w = refl
      go true true false true c w = refl
      go true true false false true w = refl
      go true true false false false true = refl
      go true true false false false false = refl

  -- it rises from depth 1, or to the key that it finds
  abbrev rises : Bool
  rises = pick (eqb it.depth 0) false (pick (eqb it.depth 1) true has)

  up_yes : (up_of pool t it).risen ≡ pick sound (pick there rises false) false
  unfolding up_of refusal rises_in
  up_yes = go sound there (eqb it.depth 0) (eqb it.depth 1) (eqb counted 0) (owns above (counted - 1) it.interval_i)
    where
      go : (h s z o c w : Bool) → (answer h s z o c w).risen ≡ pick h (pick s (pick z false (pick o true (not c && w))) false) false
      go false s z o c w = refl
      go true false z o c w = refl
      go true true true o c w = refl
      go true true false true c w = refl
      go true true false false true w = refl
      go true true false false false true = refl
      go true true false false false false = refl

  abbrev pub Rises : Type 0
  Rises = (it.depth ≡ 1) ⊎ ((1 < it.depth) × Owned above it.interval_i)

  rises_decides : Exactly (rises ≡ true) Rises
  rises_decides = (tells (eqb it.depth 0) (eqb it.depth 1) refl refl, back)
    where
      tells : (z o : Bool) → eqb it.depth 0 ≡ z → eqb it.depth 1 ≡ o → pick z false (pick o true has) ≡ true → Rises
      tells true o e f y = absurd (false≢true y)
      tells false true e f y = inl (eqb-true it.depth 1 f)
      tells false false e f y = inr (let n = eqb-false it.depth 0 e in let m = eqb-false it.depth 1 f in omega (arith, n, m), owned_decides.0 y)

      back : Rises → rises ≡ true
      back (inl e) = simp (ne_eqb it.depth 0 (λ z. omega arith), eq-eqb it.depth 1 e)
      back (inr d) = let h = d.0 in simp (ne_eqb it.depth 0 (λ z. omega arith), ne_eqb it.depth 1 (λ z. omega arith)) (owned_decides.1 d.1)

  pub record UpNumbers : Type 0 where
    -- the header, or "up needs an interval or group outside its list, or up counts none, or its offset isn't inside the owner's group"
    pub broken : Exactly ((up_of pool t it).number ≡ 6) ((InPool (length pool) t → ⊥) ⊎ (InPool (length pool) t × (Stands pool t it × ((1 < it.depth) × (Owned (layer_in pool t (it.depth - 2)) it.interval_i → ⊥)))))
    pub cursor : Exactly ((up_of pool t it).number ≡ 7) (InPool (length pool) t × (Stands pool t it → ⊥))
    pub none : Exactly ((up_of pool t it).number ≡ 0) (InPool (length pool) t × (Stands pool t it × (1 < it.depth → Owned (layer_in pool t (it.depth - 2)) it.interval_i)))
    pub yes : Exactly ((up_of pool t it).risen ≡ true) (InPool (length pool) t × (Stands pool t it × Rises))

  pub up_exactly : UpNumbers
  up_exactly = record {
    broken =
        exactly_then (exactly_same up_number)
        (here_or_later sound by_sound 6 (pick there (pick (ltb 1 it.depth) (pick has 0 6) 0) 7) λ p.
        later there stands_decides 7 (pick (ltb 1 it.depth) (pick has 0 6) 0) 6 (λ e. omega arith) λ s.
        later (ltb 1 it.depth) deep_decides 0 (pick has 0 6) 6 (λ e. omega arith) λ d.
        here has owned_decides 6 0 (λ e. omega arith));
    cursor =
        exactly_then (exactly_same up_number)
        (later sound by_sound 6 (pick there (pick (ltb 1 it.depth) (pick has 0 6) 0) 7) 7 (λ e. omega arith) λ p.
        here there stands_decides 7 (pick (ltb 1 it.depth) (pick has 0 6) 0)
        (neither (ltb 1 it.depth) 0 (pick has 0 6) 7 (λ e. omega arith) (neither has 6 0 7 (λ e. omega arith) (λ e. omega arith))));
    none =
        exactly_then (exactly_same up_number)
        (later sound by_sound 6 (pick there (pick (ltb 1 it.depth) (pick has 0 6) 0) 7) 0 (λ e. omega arith) λ p.
        later there stands_decides 7 (pick (ltb 1 it.depth) (pick has 0 6) 0) 0 (λ e. omega arith) λ s.
        asked (ltb 1 it.depth) has deep_decides owned_decides);
    yes =
        exactly_then (exactly_same up_yes)
        (later sound by_sound false (pick there rises false) true false≢true λ p.
        later there stands_decides false rises true false≢true λ s.
        rises_decides);
  }
