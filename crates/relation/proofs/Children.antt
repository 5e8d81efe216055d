-- The children of a parent in a layer: its group, its owner, and where a word stands or would stand in it.
use Prim.Native.Nat.{ℕ, zero, suc, ◌≤◌, ◌<◌}
use mathlib.Core.Path.{◌≡◌, refl, sym, ap, ◌∙◌, subst}
use mathlib.Core.Logic.{◌⊎◌, inl, inr, ⊎_elim}
use mathlib.Core.List.{List, [], ◌∷◌, ◌++◌, map}
use native.Mathlib.Omega.{arith}
use native.Mathlib.Decide.{dec_lt}
use lib.ListN.{length, take, get_or, length-map, get_or-eq_default}
use lib.Dec.{T}
use lib.Seq.{take_at, get_or_at, slice, drop-nil}
use Rattle.relation.specs.Order.{Row, ◌≺◌}
use Rattle.relation.specs.Lists.{◌∈◌, hd, tl, not_in_nil, in_cons, anone, amore}
use Rattle.relation.specs.Rows.{Asc, same, Width}
use Rattle.relation.specs.Layers.{prefixes, under, keys_under}
use Rattle.relation.proofs.Order.{pick_true, pick_false, test, irrefl, trans, Tri, lt, eq, gt, tri, asym, le_lt, lt_le, dec≺, snoc_after, take_not_after, take_before}
use Rattle.relation.proofs.Sorting.{same→eq, same_refl}
use Rattle.relation.proofs.Rank.{rank, rank_lt, rank_not, rank_le, rank_at, starts_in, length_starts}
use Rattle.relation.proofs.Layers.{keys_at, intervals_at, prefixes_asc, prefixes_width, length_keys, parent_in}
use Rattle.relation.proofs.Paths.{word_snoc, word_snoc_inv, snoc_mono}
use Rattle.relation.proofs.Relations.{snoc_form}
use Rattle.relation.proofs.Lists.{get_or_in}

-- in ascending rows, place j is before p's place exactly where its row is before p
rank_index : {qs : List Row} → Asc qs → (p : Row) (j : ℕ) → j < length qs → (get_or qs j [] ≺ p → j < rank p qs) × (j < rank p qs → get_or qs j [] ≺ p)
rank_index anone p j h = absurd (omega arith)
rank_index (amore {r = q} {rs = qs} f s) p zero h = (λ l. omega (arith, rank_lt p q qs l), λ l. ⊎_elim (λ (x : q ≺ p). x) (λ (n : q ≺ p → ⊥). absurd (omega (arith, l, rank_not p q qs n))) (dec≺ q p))
rank_index (amore {r = q} {rs = qs} f s) p (suc j) h = go (rank_index s p j (omega arith)) (dec≺ q p)
  where
    go : (get_or qs j [] ≺ p → j < rank p qs) × (j < rank p qs → get_or qs j [] ≺ p) → (q ≺ p) ⊎ (q ≺ p → ⊥) → (get_or qs j [] ≺ p → suc j < rank p (q ∷ qs)) × (suc j < rank p (q ∷ qs) → get_or qs j [] ≺ p)
    go ih (inl l) = (λ x. omega (arith, rank_lt p q qs l, ih.0 x), λ x. ih.1 (omega (arith, rank_lt p q qs l, x)))
    go ih (inr n) = (λ x. absurd (n (trans (f (get_or qs j []) (get_or_in qs j [] (omega arith))) x)), λ x. absurd (omega (arith, rank_not p q qs n, x)))

-- ascending, by places
asc_get_or : {qs : List Row} → Asc qs → (i j : ℕ) → i < j → j < length qs → get_or qs i [] ≺ get_or qs j []
asc_get_or anone i j l h = absurd (omega arith)
asc_get_or (amore {rs = qs} f s) zero zero l h = absurd (omega arith)
asc_get_or (amore {rs = qs} f s) zero (suc j) l h = f (get_or qs j []) (get_or_in qs j [] (omega arith))
asc_get_or (amore f s) (suc i) zero l h = absurd (omega arith)
asc_get_or (amore f s) (suc i) (suc j) l h = asc_get_or s i j (omega arith) (omega arith)

-- the row at place i has place i
pub rank_of_lem : {qs : List Row} → Asc qs → (i : ℕ) → i < length qs → rank (get_or qs i []) qs ≡ i
rank_of_lem {qs} s i h = go (dec_lt i (rank (get_or qs i []) qs)) (dec_lt (rank (get_or qs i []) qs) i)
  where
    r : Row
    r = get_or qs i []

    go : Dec (i < rank r qs) → Dec (rank r qs < i) → rank r qs ≡ i
    go (yes l) x = absurd (irrefl ((rank_index s r i h).1 l))
    go (no l) (no g) = omega arith
    go (no l) (yes g) = absurd (omega (arith, (rank_index s r (rank r qs) (omega arith)).0 (asc_get_or s (rank r qs) i g h)))

-- the start of parent i, or the end
start_at : (ps qs : List Row) (i z : ℕ) → i < length ps → get_or (starts_in ps qs) i z ≡ rank (get_or ps i []) qs
unfolding starts_in
start_at [] qs i z h = absurd (omega arith)
start_at (p ∷ ps) qs zero z h = refl
start_at (p ∷ ps) qs (suc i) z h = start_at ps qs i z (omega arith)

start_end : (ps qs : List Row) (i z : ℕ) → length ps ≤ i → get_or (starts_in ps qs) i z ≡ z
start_end ps qs i z h = get_or-eq_default (starts_in ps qs) z (omega (arith, length_starts ps qs))

-- a later parent is not before the next one
next_le : {ps : List Row} → Asc ps → (i : ℕ) (t : Row) → i < length ps → t ∈ ps → get_or ps i [] ≺ t → (suc i < length ps) × (t ≺ get_or ps (suc i) [] → ⊥)
next_le {ps} s i t h m l =
    let a : i < rank t ps = (rank_index s t i h).0 l in
    let b : rank t ps < length ps = (rank_at s m).0 in
    (omega arith, λ g. ⊎_elim (λ (x : get_or ps (suc i) [] ≺ t). asym x g) (λ (x : get_or ps (suc i) [] ≡ t). irrefl (rw x at g)) (near (dec_lt (suc i) (rank t ps)) a b))
  where
    near : Dec (suc i < rank t ps) → i < rank t ps → rank t ps < length ps → (get_or ps (suc i) [] ≺ t) ⊎ (get_or ps (suc i) [] ≡ t)
    near (yes x) a b = inl ((rank_index s t (suc i) (omega arith)).1 x)
    near (no x) a b = inr (ap (λ (k : ℕ). get_or ps k []) (let e : suc i ≡ rank t ps = omega arith in e) ∙ (rank_at s m).1)

-- parents ps and the rows qs one word longer, each with its parent among ps
module _ (d : ℕ) (ps qs : List Row) (sp : Asc ps) (wp : Width d ps) (sq : Asc qs) (wq : Width (suc d) qs) (par : (q : Row) → q ∈ qs → take d q ∈ ps) where
  -- the group of parent i is where its row begins the rows
  pub group_in : (i j : ℕ) → i < length ps → j < length qs → rank (get_or ps i []) qs ≤ j → j < get_or (starts_in ps qs) (suc i) (length qs) → take d (get_or qs j []) ≡ get_or ps i []
  group_in i j h k lo hi = go (tri t p)
    where
      q : Row
      q = get_or qs j []

      p : Row
      p = get_or ps i []

      t : Row
      t = take d q

      go : Tri t p → t ≡ p
      go (eq e) = e
      go (lt l) = absurd (omega (arith, lo, (rank_index sq p j k).0 (take_before d q p (omega (arith, wp p (get_or_in ps i [] h))) l)))
      go (gt g) =
          let n = next_le sp i t h (par q (get_or_in qs j [] k)) g in
          absurd (n.1 (beyond ((rank_index sq (get_or ps (suc i) []) j k).1 (omega (arith, hi, start_at ps qs (suc i) (length qs) n.0)))))
        where
          beyond : q ≺ get_or ps (suc i) [] → t ≺ get_or ps (suc i) []
          beyond l = le_lt (take_not_after d q) l

  pub group_of : (i j : ℕ) → i < length ps → j < length qs → take d (get_or qs j []) ≡ get_or ps i [] → (rank (get_or ps i []) qs ≤ j) × (j < get_or (starts_in ps qs) (suc i) (length qs))
  group_of i j h k e = (low (dec_lt j (rank p qs)), high (dec_lt (suc i) (length ps)))
    where
      q : Row
      q = get_or qs j []

      p : Row
      p = get_or ps i []

      low : Dec (j < rank p qs) → rank p qs ≤ j
      low (yes l) = absurd (take_not_after d q (subst (λ (z : Row). q ≺ z) (sym e) ((rank_index sq p j k).1 l)))
      low (no n) = omega arith

      high : Dec (suc i < length ps) → j < get_or (starts_in ps qs) (suc i) (length qs)
      high (yes l) =
          omega (
            arith,
            start_at ps qs (suc i) (length qs) l,
            (rank_index sq (get_or ps (suc i) []) j k).0
                (take_before d q (get_or ps (suc i) []) (omega (arith, wp (get_or ps (suc i) []) (get_or_in ps (suc i) [] l))) (subst (λ (z : Row). z ≺ get_or ps (suc i) []) (sym e) (asc_get_or sp i (suc i) (omega arith) l))),
          )
      high (no n) = omega (arith, k, start_end ps qs (suc i) (length qs) (omega arith))

  pub group_end : (i : ℕ) → i < length ps → get_or (starts_in ps qs) (suc i) (length qs) ≤ length qs
  group_end i h = go (dec_lt (suc i) (length ps))
    where
      go : Dec (suc i < length ps) → get_or (starts_in ps qs) (suc i) (length qs) ≤ length qs
      go (yes l) = omega (arith, start_at ps qs (suc i) (length qs) l, rank_le (get_or ps (suc i) []) qs)
      go (no n) = omega (arith, start_end ps qs (suc i) (length qs) (omega arith))

  -- a row of the group is the parent's row and its key
  pub group_row : (i j : ℕ) → i < length ps → j < length qs → rank (get_or ps i []) qs ≤ j → j < get_or (starts_in ps qs) (suc i) (length qs) → get_or qs j [] ≡ get_or ps i [] ++ (get_or (get_or qs j []) d 0 ∷ [])
  group_row i j h k lo hi =
      snoc_form d (get_or qs j []) (wq (get_or qs j []) (get_or_in qs j [] k)) ∙ ap (λ (z : Row). z ++ (get_or (get_or qs j []) d 0 ∷ [])) (group_in i j h k lo hi)

  -- the keys of a group ascend
  pub group_rises : (i j : ℕ) → i < length ps → rank (get_or ps i []) qs ≤ j → suc j < get_or (starts_in ps qs) (suc i) (length qs) → get_or (get_or qs j []) d 0 < get_or (get_or qs (suc j) []) d 0
  group_rises i j h lo hi =
      let k : suc j < length qs = omega (arith, hi, group_end i h) in
      let a = group_row i j h (omega arith) lo (omega arith) in
      let b = group_row i (suc j) h k (omega arith) hi in
      word_snoc_inv (get_or ps i []) (subst (λ (z : Row). z ≺ (get_or ps i [] ++ (get_or (get_or qs (suc j) []) d 0 ∷ []))) a (subst (λ (z : Row). get_or qs j [] ≺ z) b (asc_get_or sq j (suc j) (omega arith) k)))

  -- a word that a group holds: the longer row is stored, at that place
  pub found_place : (i j x : ℕ) → i < length ps → j < length qs → rank (get_or ps i []) qs ≤ j → j < get_or (starts_in ps qs) (suc i) (length qs) → get_or (get_or qs j []) d 0 ≡ x → ((get_or ps i [] ++ (x ∷ [])) ∈ qs) × (rank (get_or ps i [] ++ (x ∷ [])) qs ≡ j)
  found_place i j x h k lo hi e =
      let f : get_or qs j [] ≡ get_or ps i [] ++ (x ∷ []) = group_row i j h k lo hi ∙ ap (λ (z : ℕ). get_or ps i [] ++ (z ∷ [])) e in
      (subst (λ (z : Row). z ∈ qs) f (get_or_in qs j [] k), ap (λ (z : Row). rank z qs) (sym f) ∙ rank_of_lem sq j k)

  -- a word that it does not hold: between the smaller keys and the greater ones
  pub new_at : (i pos x : ℕ) → i < length ps → rank (get_or ps i []) qs ≤ pos → pos ≤ get_or (starts_in ps qs) (suc i) (length qs) → ((j : ℕ) → rank (get_or ps i []) qs ≤ j → j < pos → get_or (get_or qs j []) d 0 < x) → (pos < get_or (starts_in ps qs) (suc i) (length qs) → x < get_or (get_or qs pos []) d 0) → (((get_or ps i [] ++ (x ∷ [])) ∈ qs) → ⊥) × (rank (get_or ps i [] ++ (x ∷ [])) qs ≡ pos)
  new_at i pos x h lo hi less more = (absent, place)
    where
      p : Row
      p = get_or ps i []

      u : Row
      u = p ++ (x ∷ [])

      top : ℕ
      top = get_or (starts_in ps qs) (suc i) (length qs)

      small : (j : ℕ) → j < pos → j < length qs → get_or qs j [] ≺ u
      small j l k = go (dec_lt j (rank p qs))
        where
          go : Dec (j < rank p qs) → get_or qs j [] ≺ u
          go (yes b) = trans ((rank_index sq p j k).1 b) (snoc_after p x)
          go (no n) = subst (λ (z : Row). z ≺ u) (sym (group_row i j h k (omega arith) (omega arith))) (word_snoc p (less j (omega arith) l))

      great : pos < length qs → u ≺ get_or qs pos []
      great k = go (dec_lt pos top)
        where
          go : Dec (pos < top) → u ≺ get_or qs pos []
          go (yes b) = subst (λ (z : Row). u ≺ z) (sym (group_row i pos h k lo b)) (word_snoc p (more b))
          go (no n) = over (dec_lt (suc i) (length ps))
            where
              over : Dec (suc i < length ps) → u ≺ get_or qs pos []
              over (no m) = absurd (omega (arith, n, start_end ps qs (suc i) (length qs) (omega arith)))
              over (yes m) =
                  lt_le (snoc_mono x (asc_get_or sp i (suc i) (omega arith) m) (wp p (get_or_in ps i [] h) ∙ sym (wp (get_or ps (suc i) []) (get_or_in ps (suc i) [] m))))
                  (λ (l : get_or qs pos [] ≺ get_or ps (suc i) []). n (omega (arith, (rank_index sq (get_or ps (suc i) []) pos k).0 l, start_at ps qs (suc i) (length qs) m)))

      place : rank u qs ≡ pos
      place = go (dec_lt (rank u qs) pos) (dec_lt pos (rank u qs))
        where
          go : Dec (rank u qs < pos) → Dec (pos < rank u qs) → rank u qs ≡ pos
          go (yes l) b =
              let k : rank u qs < length qs = omega (arith, l, hi, group_end i h) in
              absurd (omega (arith, (rank_index sq u (rank u qs) k).0 (small (rank u qs) l k)))
          go (no l) (yes g) =
              let k : pos < length qs = omega (arith, g, rank_le u qs) in
              absurd (asym (great k) ((rank_index sq u pos k).1 g))
          go (no l) (no g) = omega arith

      absent : u ∈ qs → ⊥
      absent m =
          let a = rank_at sq m in
          let k : pos < length qs = omega (arith, a.0, place) in
          irrefl (subst (λ (z : Row). u ≺ z) (ap (λ (n : ℕ). get_or qs n []) (sym place) ∙ a.1) (great k))

under_slice : (p : Row) (qs : List Row) (lo hi : ℕ) → hi ≤ length qs → ((j : ℕ) → lo ≤ j → j < hi → p ≡ take (length p) (get_or qs j [])) → ((j : ℕ) → j < length qs → p ≡ take (length p) (get_or qs j []) → (lo ≤ j) × (j < hi)) → under p qs ≡ slice lo hi qs
unfolding under
under_slice p [] lo zero h f g = sym (drop-nil lo)
under_slice p [] lo (suc hi) h f g = absurd (omega arith)
under_slice p (q ∷ qs) lo zero h f g =
    pick_false (same p (take (length p) q)) (q ∷ under p qs) (under p qs) (λ t. omega (arith, g 0 (omega arith) (same→eq p (take (length p) q) t))) ∙
    under_slice p qs zero zero (omega arith) (λ j a b. absurd (omega arith)) (λ j a b. absurd (omega (arith, g (suc j) (omega arith) b))) ∙
    sym (drop-nil lo)
under_slice p (q ∷ qs) zero (suc hi) h f g =
    pick_true (same p (take (length p) q)) (q ∷ under p qs) (under p qs) (subst (λ (z : Row). T (same p z)) (f 0 (omega arith) (omega arith)) (same_refl p)) ∙
    ap (λ (l : List Row). q ∷ l) (under_slice p qs zero hi (omega arith) (λ j a b. f (suc j) (omega arith) (omega arith)) (λ j a b. (omega arith, omega (arith, g (suc j) (omega arith) b))))
under_slice p (q ∷ qs) (suc lo) (suc hi) h f g =
    pick_false (same p (take (length p) q)) (q ∷ under p qs) (under p qs) (λ t. omega (arith, g 0 (omega arith) (same→eq p (take (length p) q) t))) ∙
    under_slice p qs lo hi (omega arith) (λ j a b. f (suc j) (omega arith) (omega arith)) (λ j a b. (omega (arith, g (suc j) (omega arith) b), omega (arith, g (suc j) (omega arith) b)))

map_slice {ℓ κ} : {A : Type ℓ} {B : Type κ} (f : A → B) (lo hi : ℕ) (l : List A) → map f (slice lo hi l) ≡ slice lo hi (map f l)
map_slice f lo zero l = ap (map f) (drop-nil lo) ∙ sym (drop-nil lo)
map_slice f lo (suc hi) [] = ap (map f) (drop-nil lo) ∙ sym (drop-nil lo)
map_slice {B = B} f zero (suc hi) (x ∷ l) = ap {B = List B} (λ z. f x ∷ z) (map_slice f zero hi l)
map_slice f (suc lo) (suc hi) (x ∷ l) = map_slice f lo hi l

-- the same in a layer of rows
module _ (a d : ℕ) (rows : List Row) (w : Width a rows) (h : d < a) where
  pub key_at : (j : ℕ) → j < length (keys_at d rows) → get_or (keys_at d rows) j 0 ≡ get_or (get_or (prefixes (suc d) rows) j []) d 0
  unfolding keys_at
  key_at j l = get_or_map_lt (λ (q : Row). get_or q d 0) (prefixes (suc d) rows) j 0 [] (omega (arith, length-map (prefixes (suc d) rows) (λ q. get_or q d 0)))
    where
      get_or_map_lt : (f : Row → ℕ) (l : List Row) (j x : ℕ) (z : Row) → j < length l → get_or (map f l) j x ≡ f (get_or l j z)
      get_or_map_lt f [] j x z k = absurd (omega arith)
      get_or_map_lt f (q ∷ qs) zero x z k = refl
      get_or_map_lt f (q ∷ qs) (suc j) x z k = get_or_map_lt f qs j x z (omega arith)

  -- where parent i's keys start and end
  pub begin_is : (i : ℕ) → i < length (prefixes d rows) → get_or (intervals_at d rows) i 0 ≡ rank (get_or (prefixes d rows) i []) (prefixes (suc d) rows)
  unfolding intervals_at
  begin_is i k = start_at (prefixes d rows) (prefixes (suc d) rows) i 0 k

  pub end_is : (i : ℕ) → get_or (intervals_at d rows) (suc i) (length (keys_at d rows)) ≡ get_or (starts_in (prefixes d rows) (prefixes (suc d) rows)) (suc i) (length (prefixes (suc d) rows))
  unfolding intervals_at
  end_is i = ap (get_or (starts_in (prefixes d rows) (prefixes (suc d) rows)) (suc i)) (length_keys d rows)

  pub end_le : (i : ℕ) → i < length (prefixes d rows) → get_or (intervals_at d rows) (suc i) (length (keys_at d rows)) ≤ length (keys_at d rows)
  end_le i k =
      omega (
        arith,
        end_is i,
        length_keys d rows,
        group_end d (prefixes d rows) (prefixes (suc d) rows) (prefixes_asc d rows) (prefixes_width d w (omega arith)) (prefixes_asc (suc d) rows) (prefixes_width (suc d) w h) (λ q m. parent_in d rows m) i k,
      )

  -- the group of parent i is the keys under its row
  pub group_keys : (i : ℕ) → i < length (prefixes d rows) → slice (get_or (intervals_at d rows) i 0) (get_or (intervals_at d rows) (suc i) (length (keys_at d rows))) (keys_at d rows) ≡ keys_under (get_or (prefixes d rows) i []) rows
  unfolding keys_at keys_under
  group_keys i k =
      ap (λ (n : ℕ). slice n hi (keys_at d rows)) (begin_is i k) ∙
      sym (map_slice (λ (q : Row). get_or q d 0) (rank p qs) hi qs) ∙
      ap (map (λ q. get_or q d 0)) (sym whole) ∙
      ap (λ (n : ℕ). map (λ q. get_or q n 0) (under p (prefixes (suc n) rows))) (sym wide)
    where
      qs : List Row
      qs = prefixes (suc d) rows

      p : Row
      p = get_or (prefixes d rows) i []

      hi : ℕ
      hi = get_or (intervals_at d rows) (suc i) (length (keys_at d rows))

      wide : length p ≡ d
      wide = prefixes_width d w (omega arith) p (get_or_in (prefixes d rows) i [] k)

      whole : under p qs ≡ slice (rank p qs) hi qs
      whole =
          under_slice p qs (rank p qs) hi (omega (arith, end_le i k, length_keys d rows))
          (λ j lo l. sym (ap (λ (n : ℕ). take n (get_or qs j [])) wide ∙ group_in d (prefixes d rows) qs (prefixes_asc d rows) (prefixes_width d w (omega arith)) (prefixes_asc (suc d) rows) (prefixes_width (suc d) w h) (λ q m. parent_in d rows m) i j k (omega (arith, l, end_le i k, length_keys d rows)) lo (omega (arith, l, end_is i))))
          (λ j l e.
          let g = group_of d (prefixes d rows) qs (prefixes_asc d rows) (prefixes_width d w (omega arith)) (prefixes_asc (suc d) rows) (prefixes_width (suc d) w h) (λ q m. parent_in d rows m) i j k l (ap (λ (n : ℕ). take n (get_or qs j [])) (sym wide) ∙ sym e) in
          (g.0, omega (arith, g.1, end_is i)))

pub in_under : (p : Row) (qs : List Row) (q : Row) → (q ∈ under p qs → (q ∈ qs) × (take (length p) q ≡ p)) × (q ∈ qs → take (length p) q ≡ p → q ∈ under p qs)
unfolding under
in_under p [] q = (λ m. absurd (not_in_nil m), λ m e. absurd (not_in_nil m))
in_under p (x ∷ xs) q = go (test (same p (take (length p) x))) (in_under p xs q)
  where
    go : T (same p (take (length p) x)) ⊎ (T (same p (take (length p) x)) → ⊥) → (q ∈ under p xs → (q ∈ xs) × (take (length p) q ≡ p)) × (q ∈ xs → take (length p) q ≡ p → q ∈ under p xs) → (q ∈ under p (x ∷ xs) → (q ∈ (x ∷ xs)) × (take (length p) q ≡ p)) × (q ∈ (x ∷ xs) → take (length p) q ≡ p → q ∈ under p (x ∷ xs))
    go (inl t) ih =
        rw (pick_true (same p (take (length p) x)) (x ∷ under p xs) (under p xs) t) (
          λ m. ⊎_elim (λ (e : q ≡ x). (hd e, ap (take (length p)) e ∙ sym (same→eq p (take (length p) x) t))) (λ (w : q ∈ under p xs). (tl (ih.0 w).0, (ih.0 w).1)) (in_cons m),
          λ m e. ⊎_elim (λ (f : q ≡ x). hd f) (λ (w : q ∈ xs). tl (ih.1 w e)) (in_cons m),
        )
    go (inr n) ih =
        rw (pick_false (same p (take (length p) x)) (x ∷ under p xs) (under p xs) n) (
          λ m. (tl (ih.0 m).0, (ih.0 m).1),
          λ m e. ⊎_elim (λ (f : q ≡ x). absurd (n (subst (λ (z : Row). T (same p z)) (sym (sym (ap (take (length p)) f) ∙ e)) (same_refl p)))) (λ (w : q ∈ xs). ih.1 w e) (in_cons m),
        )

in_map : (f : Row → ℕ) {q : Row} {qs : List Row} → q ∈ qs → f q ∈ map f qs
in_map f (hd e) = hd (ap f e)
in_map f (tl m) = tl (in_map f m)

map_in : (f : Row → ℕ) (qs : List Row) {k : ℕ} → k ∈ map f qs → (q : Row) × (q ∈ qs) × (k ≡ f q)
map_in f [] m = elim m [ ]
map_in f (q ∷ qs) (hd e) = (q, hd refl, e)
map_in f (q ∷ qs) (tl m) = let v = map_in f qs m in (v.0, tl v.1, v.2)

-- the keys under p are the words that go on from it to a stored beginning
pub key_under : {a : ℕ} {rows : List Row} (p : Row) (k : ℕ) → Width a rows → length p < a → (k ∈ keys_under p rows → (p ++ (k ∷ [])) ∈ prefixes (suc (length p)) rows) × ((p ++ (k ∷ [])) ∈ prefixes (suc (length p)) rows → k ∈ keys_under p rows)
unfolding keys_under
key_under {a} {rows} p k w h = (out, back)
  where
    d : ℕ
    d = length p

    qs : List Row
    qs = prefixes (suc d) rows

    out : k ∈ keys_under p rows → (p ++ (k ∷ [])) ∈ qs
    out m =
        let v = map_in (λ (q : Row). get_or q d 0) (under p qs) m in
        let u = (in_under p qs v.0).0 v.1 in
        subst (λ (z : Row). z ∈ qs)
        (snoc_form d v.0 (prefixes_width (suc d) w h v.0 u.0) ∙ ap (λ (z : Row). z ++ (get_or v.0 d 0 ∷ [])) u.1 ∙ ap (λ (n : ℕ). p ++ (n ∷ [])) (sym v.2))
        u.0

    back : (p ++ (k ∷ [])) ∈ qs → k ∈ keys_under p rows
    back m = subst (λ (n : ℕ). n ∈ keys_under p rows) (get_or_at p k [] 0 d refl) (in_map (λ (q : Row). get_or q d 0) ((in_under p qs (p ++ (k ∷ []))).1 m (take_at p (k ∷ []) d refl)))
