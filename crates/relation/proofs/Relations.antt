-- A relation's layers: they are undamaged, and hold the relation's rows.
-- Idea: parents and their children, both ascending, make one walk, and reading it gives the children back.
use Prim.Native.Nat.{ℕ, zero, suc, ◌+◌, ◌-◌, ◌≤◌, ◌<◌}
use mathlib.Core.Path.{◌≡◌, refl, sym, ap, ◌∙◌, subst}
use mathlib.Core.Logic.{◌⊎◌, inl, inr, ⊎_elim}
use mathlib.Core.List.{List, [], ◌∷◌, ◌++◌, map}
use native.Mathlib.Omega.{arith}
use lib.ListN.{length, take, get_or, length-map}
use lib.Seq.{take-take, take-suc, take_all}
use Rattle.relation.specs.Order.{Row, ◌≺◌}
use Rattle.relation.specs.Lists.{◌∈◌, hd, tl, not_in_nil, in_cons, anone, amore}
use Rattle.relation.specs.Rows.{Asc, Width}
use Rattle.relation.specs.Layers.{prefixes, Layer, layer}
use Rattle.relation.specs.Undamaged.{Undamaged}
use Rattle.relation.specs.Paths.{grow, rows_from, rows_of}
use Rattle.relation.proofs.Lists.{ascends_head, ascends_tail}
use Rattle.relation.proofs.Order.{irrefl, asym, take_le}
use Rattle.relation.proofs.Sorting.{length_as_set}
use Rattle.relation.proofs.Rank.{rank, starts_in}
use Rattle.relation.proofs.Layers.{keys_at, intervals_at, prefix_of, prefix_in, prefixes_asc, prefixes_are, prefixes_width, prefixes_full, length_keys, length_intervals, parent_in}
use Rattle.relation.proofs.Undamaged.{Chain, cend, cnext, chain_undamaged}
use Rattle.relation.proofs.Walks.{Walk, done, open', step, Sound, bare, full}
use Rattle.relation.proofs.Paths.{own_start, shift, width_tail, ranked_from, word_snoc_inv, spread, grow_full, layer_from, no_keys}

-- parents p, ps and children qs, each child of one of them, each of ps with a child, and the children behind p's key prev
record Given (d prev : ℕ) (p : Row) (ps qs : List Row) : Type 0 where
  parents : Asc (p ∷ ps)
  pwidth : Width d (p ∷ ps)
  kids : Asc qs
  kwidth : Width (suc d) qs
  later : (q : Row) → q ∈ qs → (p ++ (prev ∷ [])) ≺ q
  parent : (q : Row) → q ∈ qs → take d q ∈ (p ∷ ps)
  child : (x : Row) → x ∈ ps → (q : Row) × (q ∈ qs) × (x ≡ take d q)

-- the walk that they make
record Made (d at prev : ℕ) (p : Row) (ps qs : List Row) : Type 0 where
  ss : List ℕ
  walked : Walk at prev ss (map (λ q. get_or q d 0) qs)
  begun : ss ≡ map (λ x. at + rank x qs) ps
  spreads : spread walked p ps ≡ qs

pub snoc_form : (d : ℕ) (q : Row) → length q ≡ suc d → q ≡ take d q ++ (get_or q d 0 ∷ [])
snoc_form d q e = sym (take_all (suc d) q (omega arith)) ∙ take-suc q d 0 (omega arith)

make : (qs : List Row) (d at prev : ℕ) (p : Row) (ps : List Row) → Given d prev p ps qs → Made d at prev p ps qs
unfolding spread
make [] d at prev p [] g = record { ss = []; walked = done; begun = refl; spreads = refl }
make [] d at prev p (x ∷ ps) g = absurd (not_in_nil (g.child x (hd refl)).1)
make (q ∷ qs) d at prev p ps g = go ps g (in_cons (g.parent q (hd refl))) (λ (a : ℕ) (p : Row) (ps : List Row). make qs d a (get_or q d 0) p ps)
  where
    k : ℕ
    k = get_or q d 0

    Ih : Type 0
    Ih = (a : ℕ) (p : Row) (ps : List Row) → Given d k p ps qs → Made d a k p ps qs

    -- a child that comes later has no earlier parent
    order : (x : Row) → x ∈ qs → take d x ≺ take d q → ⊥
    order x m l = take_le d (λ (h : x ≺ q). asym h (ascends_head g.kids x m)) l

    form : (r : Row) → take d q ≡ r → q ≡ r ++ (k ∷ [])
    form r e = snoc_form d q (g.kwidth q (hd refl)) ∙ ap (λ (z : Row). z ++ (k ∷ [])) e

    behind : (r : Row) → take d q ≡ r → (x : Row) → x ∈ qs → (r ++ (k ∷ [])) ≺ x
    behind r e x m = subst (λ (z : Row). z ≺ x) (form r e) (ascends_head g.kids x m)

    stay : (ps : List Row) → Given d prev p ps (q ∷ qs) → take d q ≡ p → Ih → Made d at prev p ps (q ∷ qs)
    stay ps g e ih = under (ih (suc at) p ps next)
      where
        next : Given d k p ps qs
        next = record {
          parents = g.parents;
          pwidth = g.pwidth;
          kids = ascends_tail g.kids;
          kwidth = λ x m. g.kwidth x (tl m);
          later = behind p e;
          parent = λ x m. g.parent x (tl m);
          child = λ x m. other x m (g.child x m);
        }
          where
            other : (x : Row) → x ∈ ps → (y : Row) × (y ∈ (q ∷ qs)) × (x ≡ take d y) → (y : Row) × (y ∈ qs) × (x ≡ take d y)
            other x m c = ⊎_elim (λ (f : c.0 ≡ q). absurd (irrefl (rw (c.2 ∙ ap (take d) f ∙ e) at (ascends_head g.parents x m)))) (λ (f : c.0 ∈ qs). (c.0, f, c.2)) (in_cons c.1)

        rises : prev < k
        rises = word_snoc_inv p (subst (λ (z : Row). (p ++ (prev ∷ [])) ≺ z) (form p e) (g.later q (hd refl)))

        under : Made d (suc at) k p ps qs → Made d at prev p ps (q ∷ qs)
        under M = record {
          ss = M.ss;
          walked = step rises M.walked;
          begun = M.begun ∙ sym (shift d at p k qs ps (g.pwidth p (hd refl)) (ascends_head g.parents) (width_tail d g.pwidth)) ∙ ap (λ (z : Row). map (λ x. at + rank x (z ∷ qs)) ps) (sym (form p e));
          spreads = (let a = sym (form p e) in let b = M.spreads in cc);
        }

    move : (p' : Row) (ps : List Row) → Given d prev p (p' ∷ ps) (q ∷ qs) → take d q ≡ p' → Ih → Made d at prev p (p' ∷ ps) (q ∷ qs)
    move p' ps g e ih = under (ih (suc at) p' ps next)
      where
        next : Given d k p' ps qs
        next = record {
          parents = ascends_tail g.parents;
          pwidth = width_tail d g.pwidth;
          kids = ascends_tail g.kids;
          kwidth = λ x m. g.kwidth x (tl m);
          later = behind p' e;
          parent = λ x m. ⊎_elim (λ (f : take d x ≡ p). absurd (order x m (rw (f, e) (ascends_head g.parents p' (hd refl))))) (λ (f : take d x ∈ (p' ∷ ps)). f) (in_cons (g.parent x (tl m)));
          child = λ x m. other x m (g.child x (tl m));
        }
          where
            other : (x : Row) → x ∈ ps → (y : Row) × (y ∈ (q ∷ qs)) × (x ≡ take d y) → (y : Row) × (y ∈ qs) × (x ≡ take d y)
            other x m c = ⊎_elim (λ (f : c.0 ≡ q). absurd (irrefl (rw (c.2 ∙ ap (take d) f ∙ e) at (ascends_head (ascends_tail g.parents) x m)))) (λ (f : c.0 ∈ qs). (c.0, f, c.2)) (in_cons c.1)

        under : Made d (suc at) k p' ps qs → Made d at prev p (p' ∷ ps) (q ∷ qs)
        under M = record {
          ss = at ∷ M.ss;
          walked = open' refl M.walked;
          begun =
              (let z : rank p' (q ∷ qs) ≡ 0 = ap (λ (y : Row). rank p' (y ∷ qs)) (form p' e) ∙ own_start d p' k qs in
              let a : at ≡ at + rank p' (q ∷ qs) = omega arith in
              let b : M.ss ≡ map (λ x. at + rank x (q ∷ qs)) ps =
              M.begun ∙ sym (shift d at p' k qs ps (g.pwidth p' (tl (hd refl))) (ascends_head (ascends_tail g.parents)) (width_tail d (width_tail d g.pwidth))) ∙ ap (λ (z : Row). map (λ x. at + rank x (z ∷ qs)) ps) (sym (form p' e)) in
              cc);
          spreads = (let a = sym (form p' e) in let b = M.spreads in cc);
        }

    go : (ps : List Row) → Given d prev p ps (q ∷ qs) → (take d q ≡ p) ⊎ (take d q ∈ ps) → Ih → Made d at prev p ps (q ∷ qs)
    go ps g (inl e) ih = stay ps g e ih
    go [] g (inr m) ih = absurd (not_in_nil m)
    go (p' ∷ ps) g (inr m) ih = move p' ps g (first (in_cons m) (g.child p' (hd refl))) ih
      where
        first : (take d q ≡ p') ⊎ (take d q ∈ ps) → (y : Row) × (y ∈ (q ∷ qs)) × (p' ≡ take d y) → take d q ≡ p'
        first (inl e) c = e
        first (inr m) c =
            let l : p' ≺ take d q = ascends_head (ascends_tail g.parents) (take d q) m in
            ⊎_elim (λ (f : c.0 ≡ q). absurd (irrefl (rw (c.2 ∙ ap (take d) f) at l))) (λ (f : c.0 ∈ qs). absurd (order c.0 f (rw c.2 at l))) (in_cons c.1)

-- the layer between parents and children is sound, and growing by it gives the children
pub between : (d : ℕ) (ps qs : List Row) → Asc ps → Width d ps → Asc qs → Width (suc d) qs → ((q : Row) → q ∈ qs → take d q ∈ ps) → ((x : Row) → x ∈ ps → (q : Row) × (q ∈ qs) × (x ≡ take d q)) → Sound (starts_in ps qs) (map (λ q. get_or q d 0) qs) × (grow ps (starts_in ps qs) 0 (map (λ q. get_or q d 0) qs) ≡ qs)
unfolding starts_in grow
between d [] [] s v t u f g = (bare, refl)
between d [] (q ∷ qs) s v t u f g = absurd (not_in_nil (f q (hd refl)))
between d (p ∷ ps) [] s v t u f g = absurd (not_in_nil (g p (hd refl)).1)
between d (p ∷ ps) (q ∷ qs) s v t u f g = under (make qs d 1 k p ps next)
  where
    k : ℕ
    k = get_or q d 0

    first : (take d q ≡ p) ⊎ (take d q ∈ ps) → (y : Row) × (y ∈ (q ∷ qs)) × (p ≡ take d y) → take d q ≡ p
    first (inl e) c = e
    first (inr m) c =
        let l : p ≺ take d q = ascends_head s (take d q) m in
        ⊎_elim (λ (f : c.0 ≡ q). absurd (irrefl (rw (c.2 ∙ ap (take d) f) at l))) (λ (f : c.0 ∈ qs). absurd (take_le d (λ (h : c.0 ≺ q). asym h (ascends_head t c.0 f)) (rw c.2 at l))) (in_cons c.1)

    e : take d q ≡ p
    e = first (in_cons (f q (hd refl))) (g p (hd refl))

    form : q ≡ p ++ (k ∷ [])
    form = snoc_form d q (u q (hd refl)) ∙ ap (λ (z : Row). z ++ (k ∷ [])) e

    next : Given d k p ps qs
    next = record {
      parents = s;
      pwidth = v;
      kids = ascends_tail t;
      kwidth = λ x m. u x (tl m);
      later = λ x m. subst (λ (z : Row). z ≺ x) form (ascends_head t x m);
      parent = λ x m. f x (tl m);
      child = λ x m. other x m (g x (tl m));
    }
      where
        other : (x : Row) → x ∈ ps → (y : Row) × (y ∈ (q ∷ qs)) × (x ≡ take d y) → (y : Row) × (y ∈ qs) × (x ≡ take d y)
        other x m c = ⊎_elim (λ (f : c.0 ≡ q). absurd (irrefl (rw (c.2 ∙ ap (take d) f ∙ e) at (ascends_head s x m)))) (λ (f : c.0 ∈ qs). (c.0, f, c.2)) (in_cons c.1)

    under : Made d 1 k p ps qs → Sound (starts_in (p ∷ ps) (q ∷ qs)) (map (λ q. get_or q d 0) (q ∷ qs)) × (grow (p ∷ ps) (starts_in (p ∷ ps) (q ∷ qs)) 0 (map (λ q. get_or q d 0) (q ∷ qs)) ≡ q ∷ qs)
    under M = (subst (λ (z : List ℕ). Sound z (k ∷ map (λ q. get_or q d 0) qs)) ints (full refl M.walked), subst (λ (z : List ℕ). grow (p ∷ ps) z 0 (k ∷ map (λ q. get_or q d 0) qs) ≡ q ∷ qs) ints grown)
      where
        many : length M.ss ≡ length ps
        many = ap length M.begun ∙ length-map ps (λ x. 1 + rank x qs)

        plus : (us : List Row) → map (λ x. 0 + rank x (q ∷ qs)) us ≡ map (λ x. rank x (q ∷ qs)) us
        plus [] = refl
        plus (x ∷ us) = let a : 0 + rank x (q ∷ qs) ≡ rank x (q ∷ qs) = omega arith in let b = plus us in cc

        ints : ◌≡◌ {A = List ℕ} (0 ∷ M.ss) (starts_in (p ∷ ps) (q ∷ qs))
        ints =
            let a : rank p (q ∷ qs) ≡ 0 = ap (λ (y : Row). rank p (y ∷ qs)) form ∙ own_start d p k qs in
            let b : M.ss ≡ map (λ x. rank x (q ∷ qs)) ps =
            M.begun ∙ sym (shift d 0 p k qs ps (v p (hd refl)) (ascends_head s) (width_tail d v)) ∙ ap (λ (z : Row). map (λ x. 0 + rank x (z ∷ qs)) ps) (sym form) ∙ plus ps in
            cc

        grown : grow (p ∷ ps) (0 ∷ M.ss) 0 (k ∷ map (λ q. get_or q d 0) qs) ≡ q ∷ qs
        grown = grow_full refl M.walked p ps many ∙ (let a = sym form in let b = M.spreads in cc)

pub between_prefixes : {a : ℕ} {rows : List Row} (d : ℕ) → Width a rows → d < a → Sound (intervals_at d rows) (keys_at d rows) × (grow (prefixes d rows) (intervals_at d rows) 0 (keys_at d rows) ≡ prefixes (suc d) rows)
unfolding keys_at intervals_at
between_prefixes {a} {rows} d w h =
    between d (prefixes d rows) (prefixes (suc d) rows) (prefixes_asc d rows) (prefixes_width d w (omega arith)) (prefixes_asc (suc d) rows) (prefixes_width (suc d) w h)
    (λ q m. parent_in d rows m)
    (λ x m. let v = prefix_of d rows m in (take (suc d) v.0, prefix_in (suc d) v.1, v.2 ∙ sym (take-take d (suc d) v.0 (omega arith))))

layers_chain : {a : ℕ} {rows : List Row} → Width a rows → (n d : ℕ) → d + n ≤ a → Chain (length (prefixes d rows)) (ranked_from d n rows) × (rows_from (prefixes d rows) (ranked_from d n rows) ≡ prefixes (d + n) rows)
unfolding ranked_from rows_from
layers_chain {a} {rows} w zero d h = (cend, ap (λ (k : ℕ). prefixes k rows) (let e : d ≡ d + 0 = omega arith in e))
layers_chain {a} {rows} w (suc n) d h =
    let b = between_prefixes d w (omega arith) in
    let r = layers_chain w n (suc d) (omega arith) in (
      cnext (length_intervals d rows) b.0 (subst (λ (k : ℕ). Chain k (ranked_from (suc d) n rows)) (sym (length_keys d rows)) r.0),
      ap (λ (us : List Row). rows_from us (ranked_from (suc d) n rows)) b.1 ∙ r.1 ∙ ap (λ (k : ℕ). prefixes k rows) (let e : suc d + n ≡ d + suc n = omega arith in e),
    )

pub length_layers : (d n : ℕ) (rows : List Row) → length (ranked_from d n rows) ≡ n
unfolding ranked_from
length_layers d zero rows = refl
length_layers d (suc n) rows = ap suc (length_layers (suc d) n rows)

-- the beginnings of no words: none, or the empty one
pub roots : (rows : List Row) → (prefixes 0 rows ≡ []) ⊎ (prefixes 0 rows ≡ ([] ∷ []))
roots [] = inl (prefixes_are 0 [] anone (λ q m. absurd (not_in_nil m)) (λ q m. absurd (not_in_nil m)))
roots (r ∷ rs) = inr (prefixes_are 0 (r ∷ rs) (amore (λ q m. absurd (not_in_nil m)) anone) (λ q m. hd refl) (λ p m. ⊎_elim (λ (e : p ≡ []). (r, hd refl, e)) (λ (w : p ∈ []). absurd (not_in_nil w)) (in_cons m)))

relation_chain : {a : ℕ} {rows : List Row} → Width a rows → Chain 0 (ranked_from 0 a rows) ⊎ Chain 1 (ranked_from 0 a rows)
relation_chain {a} {rows} w =
    let c : Chain (length (prefixes 0 rows)) (ranked_from 0 a rows) = (layers_chain w a 0 (omega arith)).0 in
    ⊎_elim (λ (e : prefixes 0 rows ≡ []). inl (subst (λ (k : ℕ). Chain k (ranked_from 0 a rows)) (ap length e) c)) (λ (e : prefixes 0 rows ≡ ([] ∷ [])). inr (subst (λ (k : ℕ). Chain k (ranked_from 0 a rows)) (ap length e) c)) (roots rows)

-- a relation's layers hold its rows
pub relation_rows : {a : ℕ} {rows : List Row} → 0 < a → Asc rows → Width a rows → rows_of (ranked_from 0 a rows) ≡ rows
unfolding rows_of rows_from ranked_from grow
relation_rows {a = zero} {rows} h s w = absurd (omega arith)
relation_rows {a = suc a} {rows} h s w =
    ⊎_elim
    (λ (e : prefixes 0 rows ≡ []). ap (λ (us : List Row). rows_from us (ranked_from 1 a rows)) (bare_grow (intervals_at 0 rows) (keys_at 0 rows) (none e)) ∙ ap (λ (us : List Row). rows_from us (ranked_from 0 (suc a) rows)) (sym e) ∙ whole)
    (λ (e : prefixes 0 rows ≡ ([] ∷ [])). ap (λ (us : List Row). rows_from us (ranked_from 0 (suc a) rows)) (sym e) ∙ whole)
    (roots rows)
  where
    whole : rows_from (prefixes 0 rows) (ranked_from 0 (suc a) rows) ≡ rows
    whole = (layers_chain w (suc a) 0 (omega arith)).1 ∙ ap (λ (k : ℕ). prefixes k rows) (let e : 0 + suc a ≡ suc a = omega arith in e) ∙ prefixes_full s w

    bare_grow : (ints keys : List ℕ) → keys ≡ [] → grow ([] ∷ []) ints 0 keys ≡ grow [] ints 0 keys
    bare_grow ints keys z = rw z

    none : prefixes 0 rows ≡ [] → keys_at 0 rows ≡ []
    none e = no_keys (layers_chain w (suc a) 0 (omega arith)).0 (ap length e)

pub length_prefixes : (d : ℕ) (rows : List Row) → length (prefixes d rows) ≤ length rows
unfolding prefixes
length_prefixes d rows = omega (arith, length_as_set (map (take d) rows), length-map rows (take d))

-- a relation's layers are undamaged
pub relation_undamaged : {a : ℕ} (c : ℕ) {rows : List Row} → 0 < a → Asc rows → Width a rows → length rows ≤ c → Undamaged a c (ranked_from 0 a rows) (length rows)
relation_undamaged {a} c {rows} h s w r =
    chain_undamaged a c (ranked_from 0 a rows) (length rows) (length_layers 0 a rows) room count (relation_chain w)
  where
    keys_at_lem : (d : ℕ) → d < a → length (layer (ranked_from 0 a rows) d).keys ≡ length (prefixes (suc d) rows)
    keys_at_lem d l = ap (λ (x : Layer). length x.keys) (layer_from 0 a rows d l) ∙ ap (λ (k : ℕ). length (keys_at k rows)) (let e : 0 + d ≡ d = omega arith in e) ∙ length_keys d rows

    ints_at : (d : ℕ) → d < a → length (layer (ranked_from 0 a rows) d).intervals ≡ length (prefixes d rows)
    ints_at d l = ap (λ (x : Layer). length x.intervals) (layer_from 0 a rows d l) ∙ ap (λ (k : ℕ). length (intervals_at k rows)) (let e : 0 + d ≡ d = omega arith in e) ∙ length_intervals d rows

    room : (d : ℕ) → d < a → (length (layer (ranked_from 0 a rows) d).keys ≤ c) × (length (layer (ranked_from 0 a rows) d).intervals ≤ c)
    room d l = (omega (arith, keys_at_lem d l, length_prefixes (suc d) rows), omega (arith, ints_at d l, length_prefixes d rows))

    count : length rows ≡ length (layer (ranked_from 0 a rows) (a - 1)).keys
    count =
        sym
        (keys_at_lem (a - 1) (omega arith) ∙
        ap (λ (k : ℕ). length (prefixes k rows)) (let e : suc (a - 1) ≡ a = omega arith in e) ∙
        ap length (prefixes_full s w))
