-- The keys that go on from a row, the rows beyond it, and lists made key by key.
-- Idea: k is among the keys under p exactly when p, k and something more is a row; r is beyond p exactly when p and r is a row. Ascending lists with
-- the same members are equal.
use Prim.Native.Nat.{ℕ, suc, ◌-◌, ◌<◌}
use native.Mathlib.Omega.{arith}
use mathlib.Core.Path.{◌≡◌, refl, sym, subst, ap, ◌∙◌}
use mathlib.Core.Logic.{⊎_elim}
use mathlib.Core.Bool.{Bool, true, false}
use mathlib.Core.List.Memᴰ
use mathlib.Core.List.{List, [], ◌∷◌, ◌++◌, map, flat_map, append_assoc}
use lib.ListN.{length, take, drop, get_or, length-append, take-append-drop}
use lib.Seq.{take_at, drop_at}
use Rattle.relation.specs.Order.{Row, pick, ◌≺◌, word≺, rest≺}
use Rattle.relation.specs.Lists.{◌∈◌, hd, tl, not_in_nil, Ascends, anone, amore}
use Rattle.relation.specs.Rows.{Asc, Width, same}
use Rattle.relation.specs.Layers.{prefixes, under, keys_under}
use Rattle.relation.proofs.Lists.{ascends_append, ascends_map}
use Rattle.relation.proofs.Sorting.{asc_unique}
use Rattle.relation.proofs.Layers.{prefix_of, prefix_in, prefixes_asc, prefixes_width}
use Rattle.relation.proofs.Children.{in_under, key_under}
use Rattle.query.specs.Solve.{beyond}
use Rattle.query.proofs.Meet.{same_keys}

pub no_words : (r : Row) → length r ≡ 0 → r ≡ []
no_words [] e = refl
no_words (x ∷ r) e = absurd (omega arith)

-- ---- rows that begin with p

under_asc : (p : Row) {rows : List Row} → Asc rows → Asc (under p rows)
unfolding under
under_asc p anone = anone
under_asc p (amore {r = q} {rs = qs} f s) = go (same p (take (length p) q)) (under_asc p s)
  where
    go : (b : Bool) → Asc (under p qs) → Asc (pick b (q ∷ under p qs) (under p qs))
    go true ih = amore (λ x m. f x ((in_under p qs x).0 m).0) ih
    go false ih = ih

-- of two rows that begin with p, the order is that of what follows p
drop_before : (p q s : Row) → take (length p) q ≡ p → take (length p) s ≡ p → q ≺ s → drop (length p) q ≺ drop (length p) s
drop_before [] q s d e h = h
drop_before (z ∷ p) [] s d e h = absurd (let f : ◌≡◌ {A = ℕ} 0 1 = cc in omega arith)
drop_before (z ∷ p) (x ∷ q) [] d e h = absurd (let f : ◌≡◌ {A = ℕ} 0 1 = cc in omega arith)
drop_before (z ∷ p) (x ∷ q) (y ∷ s) d e (word≺ h) =
    let f : x ≡ z = cc in
    let g : y ≡ z = cc in
    absurd (omega arith)
drop_before (z ∷ p) (x ∷ q) (y ∷ s) d e (rest≺ f h) =
    let a : take (length p) q ≡ p = cc in
    let b : take (length p) s ≡ p = cc in
    drop_before p q s a b h

split : (p q : Row) → take (length p) q ≡ p → q ≡ p ++ drop (length p) q
split p q e = sym (take-append-drop (length p) q) ∙ ap (λ (r : Row). r ++ drop (length p) q) e

pub in_beyond : (p : Row) (rows : List Row) {r : Row} → r ∈ beyond p rows → (p ++ r) ∈ rows
unfolding beyond
in_beyond p rows {r} m =
    let t = Memᴰ.of_map (drop (length p)) (under p rows) m in
    let u = (in_under p rows t.0).0 t.1 in
    subst (λ (q : Row). q ∈ rows) (split p t.0 u.1 ∙ ap (λ (s : Row). p ++ s) t.2) u.0

pub beyond_in : (p : Row) (rows : List Row) {r : Row} → (p ++ r) ∈ rows → r ∈ beyond p rows
unfolding beyond
beyond_in p rows {r} m =
    subst (λ (s : Row). s ∈ map (drop (length p)) (under p rows)) (drop_at p r (length p) refl)
    (Memᴰ.map (drop (length p)) ((in_under p rows (p ++ r)).1 m (take_at p r (length p) refl)))

pub beyond_asc : (p : Row) {rows : List Row} → Asc rows → Asc (beyond p rows)
unfolding beyond
beyond_asc p {rows} s =
    ascends_map (drop (length p)) (λ a b i j h. drop_before p a b ((in_under p rows a).0 i).1 ((in_under p rows b).0 j).1 h) (under_asc p s)

pub beyond_width : (p : Row) {a : ℕ} {rows : List Row} → Width a rows → Width (a - length p) (beyond p rows)
beyond_width p {a} {rows} w r m = omega (arith, w (p ++ r) (in_beyond p rows m), length-append p r)

-- nothing given yet, and one word after another
pub beyond_none : {rows : List Row} → Asc rows → beyond [] rows ≡ rows
beyond_none {rows} s = asc_unique (beyond_asc [] s) s (λ r. (λ m. in_beyond [] rows m, λ m. beyond_in [] rows m))

pub beyond_append : (p q : Row) {rows : List Row} → Asc rows → beyond (p ++ q) rows ≡ beyond q (beyond p rows)
beyond_append p q {rows} s =
    asc_unique (beyond_asc (p ++ q) s) (beyond_asc q (beyond_asc p s))
    (λ r. (
      λ m. beyond_in q (beyond p rows) (beyond_in p rows (rw append_assoc at (in_beyond (p ++ q) rows m))),
      λ m. beyond_in (p ++ q) rows (rw append_assoc (in_beyond p rows (in_beyond q (beyond p rows) m))),
    ))

-- ---- the keys that go on from p

module _ (p : Row) {a : ℕ} {rows : List Row} (w : Width a rows) (h : length p < a) where
  pub in_keys : {k : ℕ} → k ∈ keys_under p rows → (r : Row) × ((p ++ k ∷ r) ∈ rows)
  in_keys {k} m =
      let t = prefix_of (suc (length p)) rows ((key_under p k w h).0 m) in
      let r = drop (suc (length p)) t.0 in
      let e : t.0 ≡ p ++ k ∷ r = sym (take-append-drop (suc (length p)) t.0) ∙ ap (λ (q : Row). q ++ r) (sym t.2) ∙ append_assoc p (k ∷ []) r in
      (r, subst (λ (q : Row). q ∈ rows) e t.1)

  pub keys_in : {k : ℕ} (r : Row) → (p ++ k ∷ r) ∈ rows → k ∈ keys_under p rows
  keys_in {k} r m =
      (key_under p k w h).1
      (subst (λ (q : Row). q ∈ prefixes (suc (length p)) rows)
      (ap (take (suc (length p))) (sym (append_assoc p (k ∷ []) r)) ∙ take_at (p ++ k ∷ []) r (suc (length p)) (omega (arith, length-append p (k ∷ []))))
      (prefix_in (suc (length p)) m))

-- of two rows one word longer than p that begin with p, the later has the greater last word
last_less : (p q s : Row) → take (length p) q ≡ p → take (length p) s ≡ p → length q ≡ suc (length p) → length s ≡ suc (length p) → q ≺ s → get_or q (length p) 0 < get_or s (length p) 0
last_less [] [] s d e m n h = absurd (omega arith)
last_less [] (x ∷ q) [] d e m n h = absurd (omega arith)
last_less [] (x ∷ q) (y ∷ s) d e m n (word≺ h) = h
last_less [] (x ∷ []) (y ∷ []) d e m n (rest≺ f h) = elim h [ ]
last_less [] (x ∷ []) (y ∷ (z ∷ s)) d e m n (rest≺ f h) = absurd (omega arith)
last_less [] (x ∷ (z ∷ q)) (y ∷ s) d e m n (rest≺ f h) = absurd (omega arith)
last_less (z ∷ p) [] s d e m n h = absurd (omega arith)
last_less (z ∷ p) (x ∷ q) [] d e m n h = absurd (omega arith)
last_less (z ∷ p) (x ∷ q) (y ∷ s) d e m n (word≺ h) =
    let f : x ≡ z = cc in
    let g : y ≡ z = cc in
    absurd (omega arith)
last_less (z ∷ p) (x ∷ q) (y ∷ s) d e m n (rest≺ f h) =
    let a : take (length p) q ≡ p = cc in
    let b : take (length p) s ≡ p = cc in
    last_less p q s a b (omega arith) (omega arith) h

pub keys_ascend : (p : Row) {a : ℕ} {rows : List Row} → Width a rows → length p < a → Ascends ◌<◌ (keys_under p rows)
unfolding keys_under
keys_ascend p {a} {rows} w h =
    ascends_map (λ (q : Row). get_or q (length p) 0)
    (λ q s i j l.
    let t = (in_under p qs q).0 i in
    let u = (in_under p qs s).0 j in
    last_less p q s t.1 u.1 (wide q t.0) (wide s u.0) l)
    (under_asc p (prefixes_asc (suc (length p)) rows))
  where
    qs : List Row
    qs = prefixes (suc (length p)) rows

    wide : Width (suc (length p)) qs
    wide = prefixes_width (suc (length p)) w h

-- the keys under p are the first keys beyond p
pub keys_beyond : (p : Row) {a : ℕ} {rows : List Row} → Width a rows → length p < a → keys_under [] (beyond p rows) ≡ keys_under p rows
keys_beyond p {a} {rows} w h =
    same_keys (keys_ascend [] v l) (keys_ascend p w h)
    (λ k m. let t = in_keys [] v l m in keys_in p w h t.0 (in_beyond p rows t.1))
    (λ k m. let t = in_keys p w h m in keys_in [] v l t.0 (beyond_in p rows t.1))
  where
    v : Width (a - length p) (beyond p rows)
    v = beyond_width p w

    l : 0 < a - length p
    l = omega arith

-- ---- lists made key by key

module _ {A : Type 0} (f : ℕ → List A) where
  pub in_flat_map : (ks : List ℕ) {w : A} → w ∈ flat_map f ks → (k : ℕ) × (k ∈ ks) × (w ∈ f k)
  unfolding flat_map
  in_flat_map [] m = absurd (not_in_nil m)
  in_flat_map (k ∷ ks) {w} m =
      ⊎_elim {C = (j : ℕ) × (j ∈ (k ∷ ks)) × (w ∈ f j)}
      (λ (m' : w ∈ f k). (k, hd refl, m'))
      (λ (m' : w ∈ flat_map f ks). let t = in_flat_map ks m' in (t.0, tl t.1, t.2))
      (Memᴰ.append_cases (f k) m)

  pub flat_map_in : {k : ℕ} {ks : List ℕ} {w : A} → k ∈ ks → w ∈ f k → w ∈ flat_map f ks
  unfolding flat_map
  flat_map_in {w = w} (hd {x = x} {xs = ks} e) m = Memᴰ.append_left (flat_map f ks) (subst (λ (j : ℕ). w ∈ f j) e m)
  flat_map_in (tl {x = x} i) m = Memᴰ.append_right (f x) (flat_map_in i m)

-- each key before its rows
abbrev pub headed_by : (ℕ → List Row) → ℕ → List Row
headed_by f k = map (λ (r : Row). k ∷ r) (f k)

pub flat_map_asc : (f : ℕ → List Row) {ks : List ℕ} → Ascends ◌<◌ ks → ((k : ℕ) → k ∈ ks → Asc (f k)) → Asc (flat_map (headed_by f) ks)
unfolding flat_map
flat_map_asc f anone g = anone
flat_map_asc f (amore {r = k} {rs = ks} l s) g =
    ascends_append
    (ascends_map (λ (r : Row). k ∷ r) (λ a b i j p. rest≺ refl p) (g k (hd refl)))
    (flat_map_asc f s (λ j m. g j (tl m)))
    (λ a b m m'.
    let u = Memᴰ.of_map (λ (r : Row). k ∷ r) (f k) m in
    let t = in_flat_map (headed_by f) ks m' in
    let v = Memᴰ.of_map (λ (r : Row). t.0 ∷ r) (f t.0) t.2 in
    let p : (k ∷ u.0) ≺ (t.0 ∷ v.0) = word≺ (l t.0 t.1) in
    rw (← u.2, ← v.2) p)
