-- Rows as words one behind the other, and the bulk build over the rows of a sorted list.
use Prim.Native.Nat.{ℕ, zero, suc, ◌+◌, ◌≤◌, ◌<◌, ◌*◌}
use mathlib.Core.Path.{◌≡◌, refl, sym, ap, ◌∙◌, subst}
use mathlib.Core.List.{List, [], ◌∷◌, ◌++◌, append_assoc}
use native.Mathlib.Omega.{arith}
use lib.ListN.{length, take, get_or, drop, length-drop}
use lib.Seq.{take-suc, length-take-le, get_or-take, take_at, take-add, drop_at, drop-drop, get_or-drop}
use native.Mathlib.Nat.{suc-mul, zero-mul}
use Rattle.relation.specs.Order.{Row, ◌≺◌}
use Rattle.relation.specs.Lists.{◌∈◌, hd, tl, not_in_nil, anone, amore}
use Rattle.relation.specs.Rows.{Sorted, Width, cut, flat}
use Rattle.relation.proofs.Order.{irrefl, shared}
use Rattle.relation.proofs.Layers.{keys_at, intervals_at, build_known, build_keys, build_first, build_new}
use Rattle.relation.proofs.Lists.{get_or_in}

pub length_cut : (n a : ℕ) (ws : List ℕ) → length (cut n a ws) ≡ n
unfolding cut
length_cut zero a ws = refl
length_cut (suc n) a ws = ap suc (length_cut n a (drop a ws))

pub cut_width : (n a : ℕ) (ws : List ℕ) → n * a ≤ length ws → Width a (cut n a ws)
unfolding cut
cut_width zero a ws h q m = absurd (not_in_nil m)
cut_width (suc n) a ws h q (hd e) = ap length e ∙ length-take-le a ws (omega (arith, h, suc-mul n a))
cut_width (suc n) a ws h q (tl m) = cut_width n a (drop a ws) (omega (arith, h, suc-mul n a, length-drop a ws)) q m

pub cut_at : (n a : ℕ) (ws : List ℕ) (i : ℕ) → i < n → get_or (cut n a ws) i [] ≡ take a (drop (i * a) ws)
unfolding cut
cut_at zero a ws i h = absurd (omega arith)
cut_at (suc n) a ws zero h = ap (λ (k : ℕ). take a (drop k ws)) (sym (zero-mul a))
cut_at (suc n) a ws (suc i) h =
    cut_at n a (drop a ws) i (omega arith) ∙ ap (take a) (drop-drop (i * a) a ws ∙ ap (λ (k : ℕ). drop k ws) (let e : a + i * a ≡ suc i * a = omega (arith, suc-mul i a) in e))

pub word_at : (n a : ℕ) (ws : List ℕ) (i j : ℕ) → i < n → j < a → get_or (get_or (cut n a ws) i []) j 0 ≡ get_or ws (i * a + j) 0
word_at n a ws i j h k = ap (λ (r : Row). get_or r j 0) (cut_at n a ws i h) ∙ get_or-take a (drop (i * a) ws) j 0 k ∙ get_or-drop (i * a) ws j 0

pub cut_flat : (a : ℕ) (rows : List Row) (rest : List ℕ) → Width a rows → cut (length rows) a (flat rows ++ rest) ≡ rows
unfolding cut flat
cut_flat a [] rest w = refl
cut_flat a (r ∷ rs) rest w =
    let e : (r ++ flat rs) ++ rest ≡ r ++ (flat rs ++ rest) = append_assoc r (flat rs) rest in
    let x : take a ((r ++ flat rs) ++ rest) ≡ r = ap (take a) e ∙ take_at r (flat rs ++ rest) a (w r (hd refl)) in
    let y : cut (length rs) a (drop a ((r ++ flat rs) ++ rest)) ≡ rs = ap (λ (l : List ℕ). cut (length rs) a l) (ap (drop a) e ∙ drop_at r (flat rs ++ rest) a (w r (hd refl))) ∙ cut_flat a rs rest (λ q m. w q (tl m)) in
    cc

pub flat_cut : (n a : ℕ) (ws : List ℕ) → n * a ≤ length ws → flat (cut n a ws) ≡ take (n * a) ws
unfolding cut flat
flat_cut zero a ws h = ap (λ (k : ℕ). take k ws) (sym (zero-mul a))
flat_cut (suc n) a ws h =
    ap (λ (l : List ℕ). take a ws ++ l) (flat_cut n a (drop a ws) (omega (arith, h, suc-mul n a, length-drop a ws))) ∙
    sym (take-add a (n * a) ws) ∙
    ap (λ (k : ℕ). take k ws) (let e : a + n * a ≡ suc n * a = omega (arith, suc-mul n a) in e)

sorted_get_or : {rows : List Row} → Sorted rows → (i j : ℕ) → i ≤ j → j < length rows → get_or rows j [] ≺ get_or rows i [] → ⊥
sorted_get_or anone i j h k l = omega arith
sorted_get_or (amore f s) zero zero h k l = irrefl l
sorted_get_or (amore {rs = rs} f s) zero (suc j) h k l = f (get_or rs j []) (get_or_in rs j [] (omega arith)) l
sorted_get_or (amore f s) (suc i) zero h k l = omega arith
sorted_get_or (amore f s) (suc i) (suc j) h k l = sorted_get_or s i j (omega arith) (omega arith) l

pub in_front : (rows : List Row) (n : ℕ) (q : Row) → q ∈ take n rows → (i : ℕ) × (i < n) × (i < length rows) × (q ≡ get_or rows i [])
in_front rows zero q m = absurd (not_in_nil m)
in_front [] (suc n) q m = absurd (not_in_nil m)
in_front (r ∷ rs) (suc n) q (hd e) = (0, omega arith, omega arith, e)
in_front (r ∷ rs) (suc n) q (tl m) = let v = in_front rs n q m in (suc v.0, omega (arith, v.1), omega (arith, v.2), v.3)

front_in : (rows : List Row) (n i : ℕ) → i < n → i < length rows → get_or rows i [] ∈ take n rows
front_in [] n i h k = absurd (omega arith)
front_in (r ∷ rs) zero i h k = absurd (omega arith)
front_in (r ∷ rs) (suc n) zero h k = hd refl
front_in (r ∷ rs) (suc n) (suc i) h k = tl (front_in rs n i (omega arith) (omega arith))

-- the build's turn at row i + 1 of a sorted list, duplicates kept: what each layer gains
module _ (a : ℕ) (rows : List Row) (w : Width a rows) (s : Sorted rows) (i : ℕ) (h : suc i < length rows) where
  wd : Width a (take (suc i) rows)
  wd q m = let v = in_front rows (suc i) q m in ap length v.3 ∙ w (get_or rows v.0 []) (get_or_in rows v.0 [] v.2)

  top : (q : Row) → q ∈ take (suc i) rows → get_or rows i [] ≺ q → ⊥
  top q m x = let v = in_front rows (suc i) q m in sorted_get_or s v.0 i (omega (arith, v.1)) (omega arith) (subst (λ (z : Row). get_or rows i [] ≺ z) v.3 x)

  more_rows : take (suc (suc i)) rows ≡ take (suc i) rows ++ (get_or rows (suc i) [] ∷ [])
  more_rows = take-suc rows (suc i) [] h

  pub turn_known : (d : ℕ) → d < shared (get_or rows i []) (get_or rows (suc i) []) → (keys_at d (take (suc (suc i)) rows) ≡ keys_at d (take (suc i) rows)) × (intervals_at d (take (suc (suc i)) rows) ≡ intervals_at d (take (suc i) rows))
  turn_known d k = rw more_rows (build_known a (take (suc i) rows) (get_or rows i []) (get_or rows (suc i) []) wd (w (get_or rows (suc i) []) (get_or_in rows (suc i) [] h)) (front_in rows (suc i) i (omega arith) (omega arith)) top (sorted_get_or s i (suc i) (omega arith) h) d k)

  pub turn_keys : (d : ℕ) → shared (get_or rows i []) (get_or rows (suc i) []) ≤ d → d < a → keys_at d (take (suc (suc i)) rows) ≡ keys_at d (take (suc i) rows) ++ (get_or (get_or rows (suc i) []) d 0 ∷ [])
  turn_keys d k g = rw more_rows (build_keys a (take (suc i) rows) (get_or rows i []) (get_or rows (suc i) []) wd (w (get_or rows (suc i) []) (get_or_in rows (suc i) [] h)) (front_in rows (suc i) i (omega arith) (omega arith)) top (sorted_get_or s i (suc i) (omega arith) h) d k g)

  pub turn_first : (d : ℕ) → d ≡ shared (get_or rows i []) (get_or rows (suc i) []) → d < a → intervals_at d (take (suc (suc i)) rows) ≡ intervals_at d (take (suc i) rows)
  turn_first d k g = rw more_rows (build_first a (take (suc i) rows) (get_or rows i []) (get_or rows (suc i) []) wd (w (get_or rows (suc i) []) (get_or_in rows (suc i) [] h)) (front_in rows (suc i) i (omega arith) (omega arith)) top (sorted_get_or s i (suc i) (omega arith) h) d k g)

  pub turn_new : (d : ℕ) → shared (get_or rows i []) (get_or rows (suc i) []) < d → d < a → intervals_at d (take (suc (suc i)) rows) ≡ intervals_at d (take (suc i) rows) ++ (length (keys_at d (take (suc i) rows)) ∷ [])
  turn_new d k g = rw more_rows (build_new a (take (suc i) rows) (get_or rows i []) (get_or rows (suc i) []) wd (w (get_or rows (suc i) []) (get_or_in rows (suc i) [] h)) (front_in rows (suc i) i (omega arith) (omega arith)) top (sorted_get_or s i (suc i) (omega arith) h) d k g)
