-- The rows that layers hold, read from the top: an undamaged table's layers are those of its own rows.
-- Idea: one walk over a layer's keys puts each behind its parent's row; the rows that come ascend, and their layers are those that were walked.
use Prim.Native.Nat.{ℕ, zero, suc, ◌+◌, ◌-◌, ◌≤◌, ◌<◌}
use mathlib.Core.Path.{◌≡◌, refl, sym, ap, ◌∙◌, subst}
use mathlib.Core.Logic.{◌⊎◌, inl, inr, ⊎_elim}
use mathlib.Core.List.{List, [], ◌∷◌, ◌++◌, map}
use native.Mathlib.Omega.{arith}
use lib.ListN.{length, take, get_or, length-map, length-append}
use lib.Seq.{take_at, get_or_at}
use lib.Dec.{leb, leb→le, le→leb}
use Rattle.relation.specs.Order.{Row, ◌≺◌, nil≺, word≺, rest≺}
use Rattle.relation.specs.Lists.{◌∈◌, hd, tl, not_in_nil, in_cons, anone, amore}
use Rattle.relation.specs.Rows.{Asc, Width}
use Rattle.relation.specs.Layers.{prefixes, Layer, layer}
use Rattle.relation.specs.Undamaged.{Undamaged}
use Rattle.relation.specs.Paths.{upto, owner, grow, rows_from, rows_of}
use Rattle.relation.proofs.Lists.{ascends_head, ascends_tail}
use Rattle.relation.proofs.Order.{pick_true, pick_false, trans, asym, snoc_after}
use Rattle.relation.proofs.Rank.{rank, rank_lt, rank_not, starts_in}
use Rattle.relation.proofs.Layers.{keys_at, intervals_at, prefixes_are, prefixes_prefixes, prefixes_full, ranked_at}
use Rattle.relation.proofs.Undamaged.{Chain, cend, cnext, undamaged_chain}
use Rattle.relation.proofs.Walks.{Walk, done, open', step, Sound, bare, full, walk_starts}

unfoldable pub ranked_from : ℕ → ℕ → List Row → List Layer
unfolding keys_at intervals_at
ranked_from d zero rows = []
ranked_from d (suc n) rows = ranked_at d rows ∷ ranked_from (suc d) n rows

pub word_snoc : (p : Row) {j k : ℕ} → j < k → (p ++ (j ∷ [])) ≺ (p ++ (k ∷ []))
word_snoc [] h = word≺ h
word_snoc (x ∷ xs) h = rest≺ refl (word_snoc xs h)

pub word_snoc_inv : (p : Row) {j k : ℕ} → (p ++ (j ∷ [])) ≺ (p ++ (k ∷ [])) → j < k
word_snoc_inv [] (word≺ h) = h
word_snoc_inv [] (rest≺ e h) = absurd (elim h [ ])
word_snoc_inv (x ∷ xs) (word≺ h) = absurd (omega arith)
word_snoc_inv (x ∷ xs) (rest≺ e h) = word_snoc_inv xs h

pub snoc_mono : {p q : Row} (k : ℕ) → p ≺ q → length p ≡ length q → (p ++ (k ∷ [])) ≺ q
snoc_mono k nil≺ e = absurd (omega arith)
snoc_mono k (word≺ h) e = word≺ h
snoc_mono k (rest≺ d h) e = rest≺ d (snoc_mono k h (omega arith))

-- the rows of a walk, under the parent p and the parents ps still to come
unfoldable pub spread : {at prev : ℕ} {ss ks : List ℕ} → Walk at prev ss ks → Row → List Row → List Row
spread done p ps = []
spread (open' e w) p [] = []
spread (open' {k = k} e w) p (q ∷ ps) = (q ++ (k ∷ [])) ∷ spread w q ps
spread (step {k = k} l w) p ps = (p ++ (k ∷ [])) ∷ spread w p ps

module _ (d : ℕ) where
  wide : {p : Row} {ps : List Row} → Width d (p ∷ ps) → length p ≡ d
  wide v = v _ (hd refl)

  pub width_tail : {p : Row} {ps : List Row} → Width d (p ∷ ps) → Width d ps
  width_tail v q m = v q (tl m)

  snoc_length : (p : Row) (k : ℕ) → length p ≡ d → length (p ++ (k ∷ [])) ≡ suc d
  snoc_length p k e = omega (arith, length-append p (k ∷ []))

  spread_width : {at prev : ℕ} {ss ks : List ℕ} (w : Walk at prev ss ks) (p : Row) (ps : List Row) → Width d (p ∷ ps) → (q : Row) → q ∈ spread w p ps → length q ≡ suc d
  unfolding spread
  spread_width done p ps v q m = absurd (not_in_nil m)
  spread_width (open' e w) p [] v q m = absurd (not_in_nil m)
  spread_width (open' {k = k} e w) p (p' ∷ ps) v q (hd f) = ap length f ∙ snoc_length p' k (v p' (tl (hd refl)))
  spread_width (open' e w) p (p' ∷ ps) v q (tl m) = spread_width w p' ps (width_tail v) q m
  spread_width (step {k = k} l w) p ps v q (hd f) = ap length f ∙ snoc_length p k (wide v)
  spread_width (step l w) p ps v q (tl m) = spread_width w p ps v q m

  spread_parent : {at prev : ℕ} {ss ks : List ℕ} (w : Walk at prev ss ks) (p : Row) (ps : List Row) → Width d (p ∷ ps) → (q : Row) → q ∈ spread w p ps → take d q ∈ (p ∷ ps)
  unfolding spread
  spread_parent done p ps v q m = absurd (not_in_nil m)
  spread_parent (open' e w) p [] v q m = absurd (not_in_nil m)
  spread_parent (open' {k = k} e w) p (p' ∷ ps) v q (hd f) = tl (hd (ap (take d) f ∙ take_at p' (k ∷ []) d (v p' (tl (hd refl)))))
  spread_parent (open' e w) p (p' ∷ ps) v q (tl m) = tl (spread_parent w p' ps (width_tail v) q m)
  spread_parent (step {k = k} l w) p ps v q (hd f) = hd (ap (take d) f ∙ take_at p (k ∷ []) d (wide v))
  spread_parent (step l w) p ps v q (tl m) = spread_parent w p ps v q m

  spread_child : {at prev : ℕ} {ss ks : List ℕ} (w : Walk at prev ss ks) (p : Row) (ps : List Row) → Width d (p ∷ ps) → length ss ≡ length ps → (x : Row) → x ∈ ps → (q : Row) × (q ∈ spread w p ps) × (x ≡ take d q)
  unfolding spread
  spread_child done p [] v n x m = absurd (not_in_nil m)
  spread_child done p (p' ∷ ps) v n x m = absurd (omega arith)
  spread_child (open' e w) p [] v n x m = absurd (not_in_nil m)
  spread_child (open' {k = k} e w) p (p' ∷ ps) v n x (hd f) = (p' ++ (k ∷ []), hd refl, f ∙ sym (take_at p' (k ∷ []) d (v p' (tl (hd refl)))))
  spread_child (open' e w) p (p' ∷ ps) v n x (tl m) = let c = spread_child w p' ps (width_tail v) (omega arith) x m in (c.0, tl c.1, c.2)
  spread_child (step l w) p ps v n x m = let c = spread_child w p ps v n x m in (c.0, tl c.1, c.2)

  spread_keys : {at prev : ℕ} {ss ks : List ℕ} (w : Walk at prev ss ks) (p : Row) (ps : List Row) → Width d (p ∷ ps) → length ss ≡ length ps → map (λ q. get_or q d 0) (spread w p ps) ≡ ks
  unfolding spread
  spread_keys done p ps v n = refl
  spread_keys (open' e w) p [] v n = absurd (omega arith)
  spread_keys (open' {k = k} {ks = ks} e w) p (p' ∷ ps) v n =
      let a : get_or (p' ++ (k ∷ [])) d 0 ≡ k = get_or_at p' k [] 0 d (v p' (tl (hd refl))) in
      let b : map (λ q. get_or q d 0) (spread w p' ps) ≡ ks = spread_keys w p' ps (width_tail v) (omega arith) in
      cc
  spread_keys (step {k = k} {ks = ks} l w) p ps v n =
      let a : get_or (p ++ (k ∷ [])) d 0 ≡ k = get_or_at p k [] 0 d (wide v) in
      let b : map (λ q. get_or q d 0) (spread w p ps) ≡ ks = spread_keys w p ps v n in
      cc

  pair : {p p' : Row} {ps : List Row} → Width d (p ∷ (p' ∷ ps)) → length p ≡ length p'
  pair v = v _ (hd refl) ∙ sym (v _ (tl (hd refl)))

  spread_above : {at prev : ℕ} {ss ks : List ℕ} (w : Walk at prev ss ks) (p : Row) (ps : List Row) → Width d (p ∷ ps) → Asc (p ∷ ps) → (q : Row) → q ∈ spread w p ps → (p ++ (prev ∷ [])) ≺ q
  unfolding spread
  spread_above done p ps v s q m = absurd (not_in_nil m)
  spread_above (open' e w) p [] v s q m = absurd (not_in_nil m)
  spread_above (open' {prev = prev} {k = k} e w) p (p' ∷ ps) v s q (hd f) = rw f (trans (snoc_mono prev (ascends_head s p' (hd refl)) (pair v)) (snoc_after p' k))
  spread_above (open' {prev = prev} {k = k} e w) p (p' ∷ ps) v s q (tl m) =
      trans (trans (snoc_mono prev (ascends_head s p' (hd refl)) (pair v)) (snoc_after p' k)) (spread_above w p' ps (width_tail v) (ascends_tail s) q m)
  spread_above (step l w) p ps v s q (hd f) = rw f (word_snoc p l)
  spread_above (step l w) p ps v s q (tl m) = trans (word_snoc p l) (spread_above w p ps v s q m)

  spread_asc : {at prev : ℕ} {ss ks : List ℕ} (w : Walk at prev ss ks) (p : Row) (ps : List Row) → Width d (p ∷ ps) → Asc (p ∷ ps) → Asc (spread w p ps)
  unfolding spread
  spread_asc done p ps v s = anone
  spread_asc (open' e w) p [] v s = anone
  spread_asc (open' e w) p (p' ∷ ps) v s = amore (spread_above w p' ps (width_tail v) (ascends_tail s)) (spread_asc w p' ps (width_tail v) (ascends_tail s))
  spread_asc (step l w) p ps v s = amore (spread_above w p ps v s) (spread_asc w p ps v s)

  -- a child of an earlier parent counts before every later one
  pub shift : (at : ℕ) (p : Row) (k : ℕ) (qs us : List Row) → length p ≡ d → ((x : Row) → x ∈ us → p ≺ x) → Width d us → map (λ x. at + rank x ((p ++ (k ∷ [])) ∷ qs)) us ≡ map (λ x. suc at + rank x qs) us
  shift at p k qs [] e f v = refl
  shift at p k qs (x ∷ us) e f v =
      let a : rank x ((p ++ (k ∷ [])) ∷ qs) ≡ suc (rank x qs) = rank_lt x (p ++ (k ∷ [])) qs (snoc_mono k (f x (hd refl)) (e ∙ sym (v x (hd refl)))) in
      let b : at + rank x ((p ++ (k ∷ [])) ∷ qs) ≡ suc at + rank x qs = omega arith in
      let c = shift at p k qs us e (λ y m. f y (tl m)) (λ y m. v y (tl m)) in
      cc

  pub own_start : (p : Row) (k : ℕ) (qs : List Row) → rank p ((p ++ (k ∷ [])) ∷ qs) ≡ 0
  own_start p k qs = rank_not p (p ++ (k ∷ [])) qs (λ l. asym l (snoc_after p k))

  spread_starts : {at prev : ℕ} {ss ks : List ℕ} (w : Walk at prev ss ks) (p : Row) (ps : List Row) → Width d (p ∷ ps) → Asc (p ∷ ps) → length ss ≡ length ps → map (λ x. at + rank x (spread w p ps)) ps ≡ ss
  unfolding spread
  spread_starts done p [] v s n = refl
  spread_starts done p (p' ∷ ps) v s n = absurd (omega arith)
  spread_starts (open' e w) p [] v s n = absurd (omega arith)
  spread_starts (open' {at} {s = t} {k = k} {ss = ss} e w) p (p' ∷ ps) v s n =
      let a : at + rank p' ((p' ++ (k ∷ [])) ∷ spread w p' ps) ≡ t = omega (arith, own_start p' k (spread w p' ps), e) in
      let b : map (λ x. at + rank x ((p' ++ (k ∷ [])) ∷ spread w p' ps)) ps ≡ ss =
      shift at p' k (spread w p' ps) ps (v p' (tl (hd refl))) (ascends_head (ascends_tail s)) (width_tail (width_tail v)) ∙ spread_starts w p' ps (width_tail v) (ascends_tail s) (omega arith) in
      cc
  spread_starts (step {at} {k = k} l w) p ps v s n =
      shift at p k (spread w p ps) ps (wide v) (ascends_head s) (width_tail v) ∙ spread_starts w p ps v s n

upto_le : (j t : ℕ) (ss : List ℕ) → t ≤ j → upto j (t ∷ ss) ≡ suc (upto j ss)
unfolding upto
upto_le j t ss h = pick_true (leb t j) (suc (upto j ss)) 0 (le→leb t j h)

upto_zero : (j : ℕ) (ss : List ℕ) → (0 < length ss → j < get_or ss 0 0) → upto j ss ≡ 0
unfolding upto
upto_zero j [] f = refl
upto_zero j (t ∷ ss) f = pick_false (leb t j) (suc (upto j ss)) 0 (λ b. omega (arith, leb→le t j b, f (omega arith)))

-- the walk's rows are those that the owners give
grow_walk : {at prev : ℕ} {ss ks : List ℕ} (w : Walk at prev ss ks) (us : List Row) (ints : List ℕ) (p : Row) (ps : List Row) → length ss ≡ length ps → ((j : ℕ) → at ≤ j → get_or us (owner ints j) [] ≡ get_or (p ∷ ps) (upto j ss) []) → grow us ints at ks ≡ spread w p ps
unfolding grow spread
grow_walk done us ints p ps n f = refl
grow_walk (open' e w) us ints p [] n f = absurd (omega arith)
grow_walk (open' {at} {s = t} {k = k} {ss = ss} {ks = ks} e w) us ints p (p' ∷ ps) n f =
    let z : upto at ss ≡ 0 = upto_zero at ss (walk_starts w) in
    let a : get_or us (owner ints at) [] ≡ p' = f at (omega arith) ∙ ap (λ (i : ℕ). get_or (p ∷ (p' ∷ ps)) i []) (upto_le at t ss (omega arith) ∙ ap suc z) in
    let b : grow us ints (suc at) ks ≡ spread w p' ps = grow_walk w us ints p' ps (omega arith) (λ j h. f j (omega arith) ∙ ap (λ (i : ℕ). get_or (p ∷ (p' ∷ ps)) i []) (upto_le j t ss (omega arith))) in
    cc
grow_walk (step {at} {k = k} {ss = ss} {ks = ks} l w) us ints p ps n f =
    let a : get_or us (owner ints at) [] ≡ p = f at (omega arith) ∙ ap (λ (i : ℕ). get_or (p ∷ ps) i []) (upto_zero at ss (walk_starts w)) in
    let b : grow us ints (suc at) ks ≡ spread w p ps = grow_walk w us ints p ps n (λ j h. f j (omega arith)) in
    cc

-- the rows qs lie one word below ps, and the layer is what lies between
pub record Deeper (d : ℕ) (ps : List Row) (ints keys : List ℕ) (qs : List Row) : Type 0 where
  pub asc : Asc qs
  pub width : Width (suc d) qs
  pub above : prefixes d qs ≡ ps
  pub keyed : map (λ q. get_or q d 0) qs ≡ keys
  pub starts : starts_in ps qs ≡ ints

pub grow_full : {s k : ℕ} {ss ks : List ℕ} (e : s ≡ 0) (w : Walk 1 k ss ks) (p : Row) (ps : List Row) → length ss ≡ length ps → grow (p ∷ ps) (s ∷ ss) 0 (k ∷ ks) ≡ (p ++ (k ∷ [])) ∷ spread w p ps
unfolding grow owner
grow_full {s} {k} {ss} {ks} e w p ps n =
    let z : upto 0 (s ∷ ss) - 1 ≡ 0 = omega (arith, upto_le 0 s ss (omega arith), upto_zero 0 ss (walk_starts w)) in
    let a : get_or (p ∷ ps) (upto 0 (s ∷ ss) - 1) [] ≡ p = ap (λ (i : ℕ). get_or (p ∷ ps) i []) z in
    let b : grow (p ∷ ps) (s ∷ ss) 1 ks ≡ spread w p ps =
    grow_walk w (p ∷ ps) (s ∷ ss) p ps n (λ j h. ap (λ (i : ℕ). get_or (p ∷ ps) i []) (let x : upto j (s ∷ ss) - 1 ≡ upto j ss = omega (arith, upto_le j s ss (omega arith)) in x)) in
    cc

pub deeper : {ints keys : List ℕ} → Sound ints keys → (d : ℕ) (ps : List Row) → Asc ps → Width d ps → length ints ≡ length ps → Deeper d ps ints keys (grow ps ints 0 keys)
unfolding grow starts_in
deeper bare d [] s v n = record { asc = anone; width = λ q m. absurd (not_in_nil m); above = prefixes_are d [] anone (λ q m. absurd (not_in_nil m)) (λ q m. absurd (not_in_nil m)); keyed = refl; starts = refl }
deeper bare d (p ∷ ps) s v n = absurd (omega arith)
deeper (full e w) d [] s v n = absurd (omega arith)
deeper (full {s = t} {k} {ss} {ks} e w) d (p ∷ ps) s v n = subst (Deeper d (p ∷ ps) (t ∷ ss) (k ∷ ks)) (sym (grow_full e w p ps (omega arith))) go
  where
    qs : List Row
    qs = (p ++ (k ∷ [])) ∷ spread w p ps

    parent : (q : Row) → q ∈ qs → take d q ∈ (p ∷ ps)
    parent q (hd f) = hd (ap (take d) f ∙ take_at p (k ∷ []) d (v p (hd refl)))
    parent q (tl m) = spread_parent d w p ps v q m

    child : (x : Row) → x ∈ (p ∷ ps) → (q : Row) × (q ∈ qs) × (x ≡ take d q)
    child x (hd f) = (p ++ (k ∷ []), hd refl, f ∙ sym (take_at p (k ∷ []) d (v p (hd refl))))
    child x (tl m) = let c = spread_child d w p ps v (omega arith) x m in (c.0, tl c.1, c.2)

    wid : (q : Row) → q ∈ qs → length q ≡ suc d
    wid q (hd f) = ap length f ∙ snoc_length d p k (v p (hd refl))
    wid q (tl m) = spread_width d w p ps v q m

    plus : (us : List Row) → map (λ x. 0 + rank x qs) us ≡ map (λ x. rank x qs) us
    plus [] = refl
    plus (x ∷ us) = let a : 0 + rank x qs ≡ rank x qs = omega arith in let b = plus us in cc

    go : Deeper d (p ∷ ps) (t ∷ ss) (k ∷ ks) qs
    go = record {
      asc = amore (spread_above d w p ps v s) (spread_asc d w p ps v s);
      width = wid;
      above = prefixes_are d qs s parent child;
      keyed = (let a : get_or (p ++ (k ∷ [])) d 0 ≡ k = get_or_at p k [] 0 d (v p (hd refl)) in let b : map (λ q. get_or q d 0) (spread w p ps) ≡ ks = spread_keys d w p ps v (omega arith) in cc);
      starts =
          (let a : rank p qs ≡ t = own_start d p k (spread w p ps) ∙ sym e in
          let b : map (λ x. rank x qs) ps ≡ ss = sym (plus ps) ∙ shift d 0 p k (spread w p ps) ps (v p (hd refl)) (ascends_head s) (width_tail d v) ∙ spread_starts d w p ps v s (omega arith) in
          cc);
    }

-- layers that hang together under ps are the layers of the rows that they hold
pub record Back (d : ℕ) (ps : List Row) (ls : List Layer) : Type 0 where
  pub asc : Asc (rows_from ps ls)
  pub width : Width (d + length ls) (rows_from ps ls)
  pub above : prefixes d (rows_from ps ls) ≡ ps
  pub layers : ranked_from d (length ls) (rows_from ps ls) ≡ ls

read_back : {n : ℕ} {ls : List Layer} → Chain n ls → (d : ℕ) (ps : List Row) → Asc ps → Width d ps → length ps ≡ n → Back d ps ls
unfolding rows_from ranked_from keys_at intervals_at
read_back cend d ps s v n =
    record { asc = s; width = λ q m. omega (arith, v q m); above = prefixes_full s v; layers = refl }
read_back (cnext {l = l} {ls = ls} e t c) d ps s v n = go (deeper t d ps s v (omega arith)) (λ D. read_back c (suc d) (grow ps l.intervals 0 l.keys) D.asc D.width (count D))
  where
    count : Deeper d ps l.intervals l.keys (grow ps l.intervals 0 l.keys) → length (grow ps l.intervals 0 l.keys) ≡ length l.keys
    count D = sym (length-map (grow ps l.intervals 0 l.keys) (λ q. get_or q d 0)) ∙ ap length D.keyed

    go : (D : Deeper d ps l.intervals l.keys (grow ps l.intervals 0 l.keys)) → (Deeper d ps l.intervals l.keys (grow ps l.intervals 0 l.keys) → Back (suc d) (grow ps l.intervals 0 l.keys) ls) → Back d ps (l ∷ ls)
    go D ih = under (ih D)
      where
        qs : List Row
        qs = grow ps l.intervals 0 l.keys

        rows : List Row
        rows = rows_from qs ls

        under : Back (suc d) qs ls → Back d ps (l ∷ ls)
        under B = record {
          asc = B.asc;
          width = λ q m. omega (arith, B.width q m);
          above = up;
          layers = (let f = B.layers in let k : keys_at d rows ≡ l.keys = keys in let i : intervals_at d rows ≡ l.intervals = ints in
              let a : ranked_at d rows ≡ l = λ j. record { keys = k j; intervals = i j } in cc);
        }
          where
            up : prefixes d rows ≡ ps
            up = sym (prefixes_prefixes d (suc d) rows (omega arith)) ∙ ap (prefixes d) B.above ∙ D.above

            keys : keys_at d rows ≡ l.keys
            keys = ap (map (λ q. get_or q d 0)) B.above ∙ D.keyed

            ints : intervals_at d rows ≡ l.intervals
            ints = ap (starts_in (prefixes d rows)) B.above ∙ ap (λ (us : List Row). starts_in us qs) up ∙ D.starts

pub layer_from : (d n : ℕ) (rows : List Row) (i : ℕ) → i < n → layer (ranked_from d n rows) i ≡ ranked_at (d + i) rows
unfolding ranked_from
layer_from d zero rows i h = absurd (omega arith)
layer_from d (suc n) rows zero h = ap (λ (k : ℕ). ranked_at k rows) (let e : d ≡ d + 0 = omega arith in e)
layer_from d (suc n) rows (suc i) h = layer_from (suc d) n rows i (omega arith) ∙ ap (λ (k : ℕ). ranked_at k rows) (let e : suc d + i ≡ d + suc i = omega arith in e)

-- what an undamaged table's rows are
pub record Held (a : ℕ) (ls : List Layer) : Type 0 where
  pub asc : Asc (rows_of ls)
  pub width : Width a (rows_of ls)
  pub layers : ranked_from 0 a (rows_of ls) ≡ ls

pub no_keys : {n : ℕ} {l : Layer} {ls : List Layer} → Chain n (l ∷ ls) → n ≡ 0 → l.keys ≡ []
no_keys {l = l} (cnext e s c) z = go s (e ∙ z)
  where
    go : {ints keys : List ℕ} → Sound ints keys → length ints ≡ 0 → keys ≡ []
    go bare h = refl
    go (full e w) h = absurd (omega arith)

pub held : (a : ℕ) (ls : List Layer) → 0 < a → length ls ≡ a → Chain 0 ls ⊎ Chain 1 ls → Held a ls
unfolding rows_of rows_from grow
held a [] h e c = absurd (omega arith)
held a (l ∷ ls) h e (inr c) =
    let B = read_back c 0 ([] ∷ []) (amore (λ q m. absurd (not_in_nil m)) anone) (λ q m. ⊎_elim (λ (f : q ≡ []). ap length f) (λ (f : q ∈ []). absurd (not_in_nil f)) (in_cons m)) refl in
    record { asc = B.asc; width = λ q m. omega (arith, B.width q m); layers = ap (λ (n : ℕ). ranked_from 0 n (rows_of (l ∷ ls))) (sym e) ∙ B.layers }
held a (l ∷ ls) h e (inl c) =
    record {
      asc = subst Asc same B.asc;
      width = subst (Width a) same (λ q m. omega (arith, B.width q m));
      layers = ap (λ (n : ℕ). ranked_from 0 n (rows_of (l ∷ ls))) (sym e) ∙ subst (λ (rows : List Row). ranked_from 0 (suc (length ls)) rows ≡ l ∷ ls) same B.layers;
    }
  where
    B : Back 0 [] (l ∷ ls)
    B = read_back c 0 [] anone (λ q m. absurd (not_in_nil m)) refl

    bare_grow : (us vs : List Row) (ints keys : List ℕ) → keys ≡ [] → grow us ints 0 keys ≡ grow vs ints 0 keys
    bare_grow us vs ints keys z = rw z

    same : rows_from [] (l ∷ ls) ≡ rows_of (l ∷ ls)
    same = ap (λ (us : List Row). rows_from us ls) (bare_grow [] ([] ∷ []) l.intervals l.keys (no_keys c refl))

-- every undamaged table is what a build of its own rows leaves
pub undamaged_held : {a c : ℕ} {ls : List Layer} {count : ℕ} → 0 < a → Undamaged a c ls count → Held a ls
undamaged_held {a} {c} {ls} h u = held a ls h u.arity (undamaged_chain u)

pub undamaged_count : {a c : ℕ} {ls : List Layer} {count : ℕ} → 0 < a → Undamaged a c ls count → count ≡ length (rows_of ls)
unfolding keys_at
undamaged_count {a = zero} {c} {ls} {count} h u = absurd (omega arith)
undamaged_count {a = suc a} {c} {ls} {count} h u =
    let H = undamaged_held h u in
    u.counted ∙
    ap (λ (n : ℕ). length (layer ls n).keys) (let e : suc a - 1 ≡ a = omega arith in e) ∙
    ap (λ (ms : List Layer). length (layer ms a).keys) (sym H.layers) ∙
    ap (λ (x : Layer). length x.keys) (layer_from 0 (suc a) (rows_of ls) a (omega arith)) ∙
    ap (λ (n : ℕ). length (keys_at n (rows_of ls))) (let e : 0 + a ≡ a = omega arith in e) ∙
    length-map (prefixes (suc a) (rows_of ls)) (λ q. get_or q a 0) ∙
    ap length (prefixes_full H.asc H.width)
