-- The rows that a plain engine finds are the query's listing. Idea: of the order's variables us have words and vs are left; what is found keeps the words of us, and its part
-- of each atom with a variable left is a row, since the last of its variables comes among vs and is tested there. Nothing is missed, since an answer's word is among the keys
-- to try. And a query has one listing.
use Prim.Native.Nat.{ℕ, zero, suc, ◌≤◌, ◌<◌}
use native.Mathlib.Omega.{arith}
use mathlib.Core.Path.{◌≡◌, refl, sym, subst, ap, ap₂, ◌∙◌}
use mathlib.Core.Logic.{⊎_elim}
use mathlib.Core.Bool.{Bool, true, false}
use mathlib.Core.List.Memᴰ
use mathlib.Core.List.{List, [], ◌∷◌, ◌++◌, map, flat_map, map-append, append_assoc}
use lib.ListN.{length, get_or, set, take, drop, length-set, length-map, length-append}
use lib.Seq.{get_or-set_same, get_or-set_other, get_or-take, length-take-le, ext_get_or}
use lib.Dec.{eqb}
use borrow.Author.Tests.{eqb-true, eq-eqb}
use Rattle.relation.specs.Order.{Row, pick, ◌≺◌, word≺, rest≺}
use Rattle.relation.specs.Lists.{◌∈◌, hd, tl, not_in_nil, in_cons, Ascends, anone, amore}
use Rattle.relation.specs.Layers.{keys_under}
use Rattle.relation.proofs.Lists.{get_or_in, in_get_or, ascends_append}
use Rattle.relation.proofs.Tests.{every_at, every_all}
use Rattle.query.specs.Meaning.{Atom, part, Answer, Distinct, follows, Listing, Passes}
use Rattle.query.specs.Descend.{nobody}
use Rattle.query.specs.Meet.{has}
use Rattle.query.specs.Solve.{listing}
use Rattle.query.proofs.Beyond.{no_words, in_keys, keys_in, keys_ascend, in_flat_map, flat_map_in}
use Rattle.query.proofs.Listed.{listing_listing}
use Rattle.query.proofs.Meet.{has_in, in_has}
use Rattle.query.proofs.Perm.{cover}
use Rattle.query.proofs.Solved.{follow_in}
use Rattle.query.proofs.Unique.{unique}
use Rattle.plain.specs.Plain.{column, holder, keys_at, tried, holds, all_hold, plainly}
use Rattle.plain.proofs.Columns.{column_in, column_split, around, holder_in}

-- ---- lists

take_map : (f : ℕ → ℕ) (n : ℕ) (xs : List ℕ) → take n (map f xs) ≡ map f (take n xs)
take_map f zero xs = refl
take_map f (suc n) [] = refl
take_map f (suc n) (x ∷ xs) = ap (λ (l : List ℕ). f x ∷ l) (take_map f n xs)

pub part_same : (xs : List ℕ) (u v : Row) → ((x : ℕ) → x ∈ xs → get_or u x 0 ≡ get_or v x 0) → part xs u ≡ part xs v
part_same [] u v f = refl
part_same (x ∷ xs) u v f = ap₂ {C = Row} (λ k l. k ∷ l) (f x (hd refl)) (part_same xs u v (λ y m. f y (tl m)))

apart : (us : List ℕ) {vs : List ℕ} → Distinct (us ++ vs) → {x : ℕ} → x ∈ us → x ∈ vs → ⊥
apart [] s i j = not_in_nil i
apart (u ∷ us) {vs} (amore f s) {x} i j = ⊎_elim {C = ⊥} (λ (e : x ≡ u). f x (Memᴰ.append_right us j) (sym e)) (λ (m : x ∈ us). apart us s m j) (in_cons i)

picked : {A : Type 0} (b : Bool) (l : List A) {w : A} → w ∈ pick b l [] → (b ≡ true) × (w ∈ l)
picked true l m = (refl, m)
picked false l m = absurd (not_in_nil m)

-- rows as read in some variables
abbrev InOrder : List ℕ → List Row → Type 0
InOrder vs l = Ascends (λ (r s : Row). part vs r ≺ part vs s) l

-- each key's rows behind the former key's
spread : (v : ℕ) (vs : List ℕ) (f : ℕ → List Row) {ks : List ℕ} → Ascends ◌<◌ ks → ((k : ℕ) → InOrder vs (f k)) → ((k : ℕ) (r : Row) → r ∈ f k → get_or r v 0 ≡ k) → InOrder (v ∷ vs) (flat_map f ks)
unfolding flat_map
spread v vs f anone g h = anone
spread v vs f (amore {r = k} {rs = ks} l s) g h =
    ascends_append (longer (f k) (g k) (λ r m. h k r m)) (spread v vs f s g h)
    (λ a b i j.
    let t = in_flat_map f ks j in
    word≺ (omega (arith, h k a i, h t.0 b t.2, l t.0 t.1)))
  where
    longer : (l : List Row) → InOrder vs l → ((r : Row) → r ∈ l → get_or r v 0 ≡ k) → InOrder (v ∷ vs) l
    longer [] anone e = anone
    longer (r ∷ l) (amore p s) e = amore (λ q m. rest≺ (e r (hd refl) ∙ sym (e q (tl m))) (p q m)) (longer l s (λ q m. e q (tl m)))

-- ---- what is found keeps the words given

module _ (n : ℕ) (atoms : List Atom) where
  abbrev under : ℕ → List ℕ → Row → ℕ → List Row
  under v vs row k = pick (all_hold v (set row v k) atoms) (plainly n vs atoms (set row v k)) []

  pub keeps : (vs : List ℕ) (row : Row) → n ≤ length row → {w : Row} → w ∈ plainly n vs atoms row → (length w ≡ n) × ((x : ℕ) → x < n → (x ∈ vs → ⊥) → get_or w x 0 ≡ get_or row x 0)
  unfolding plainly
  keeps [] row h {w} m =
      let e = Memᴰ.eq_of_singleton m in
      (ap (length {A = ℕ}) e ∙ length-take-le n row h, λ x l f. ap (λ (r : Row). get_or r x 0) e ∙ get_or-take n row x 0 l)
  keeps (v ∷ vs) row h {w} m =
      let t = in_flat_map (under v vs row) (tried v row atoms) m in
      let u = picked (all_hold v (set row v t.0) atoms) (plainly n vs atoms (set row v t.0)) t.2 in
      let ih = keeps vs (set row v t.0) (rw (length-set row v t.0) h) u.1 in
      (ih.0, λ x l f. ih.1 x l (λ i. f (tl i)) ∙ get_or-set_other row v x t.0 0 (λ e. f (hd e)))

-- ---- a query that passes

module _ {n : ℕ} {order : List ℕ} {atoms : List Atom} (q : Passes n order atoms) where
  -- a variable of an atom's list is one of the order, and below n
  in_order : (a : Atom) → a ∈ atoms → {x : ℕ} → x ∈ a.vars → x ∈ order
  in_order a i m = follow_in order a.vars (q.follow a i) m

  -- the variables us have words, v is next, and vs are left
  module _ (us : List ℕ) (v : ℕ) (vs : List ℕ) (o : order ≡ us ++ v ∷ vs) where
    distinct : Distinct (us ++ v ∷ vs)
    distinct = subst Distinct o q.permutation.single

    below : {x : ℕ} → x ∈ (us ++ v ∷ vs) → x < n
    below {x} m = q.permutation.below x (rw o m)

    pub further : order ≡ (us ++ v ∷ []) ++ vs
    further = o ∙ sym (append_assoc us (v ∷ []) vs)

    given : (x : ℕ) → x ∈ us → (x < n) × (x ∈ vs → ⊥) × (x ≡ v → ⊥)
    given x m = (below (Memᴰ.append_left (v ∷ vs) m), (λ i. apart us distinct m (tl i)), λ e. apart us distinct m (hd e))

    -- the next: it is below n, and not among those left
    next : (v < n) × (v ∈ vs → ⊥)
    next = (below (Memᴰ.append_right us (hd refl)), λ i. apart (us ++ v ∷ []) (subst Distinct (sym (append_assoc us (v ∷ []) vs)) distinct) (Memᴰ.append_right us (hd refl)) i)

    -- an atom that holds v: the variables before it are given, those behind it left
    module _ (a : Atom) (i : a ∈ atoms) (h : column v a.vars < length a.vars) where
      abbrev c : ℕ
      c = column v a.vars

      abbrev front : List ℕ
      front = take c a.vars

      abbrev back : List ℕ
      back = drop (suc c) a.vars

      split : a.vars ≡ front ++ v ∷ back
      split = column_split v a.vars h

      sides : ((x : ℕ) → x ∈ front → x ∈ us) × ((x : ℕ) → x ∈ back → x ∈ vs)
      sides = around us vs v front back distinct (subst (λ (l : List ℕ). follows l (front ++ v ∷ back) ≡ true) o (subst (λ (l : List ℕ). follows order l ≡ true) split (q.follow a i)))

      words : (row : Row) → take c (part a.vars row) ≡ part front row
      words row = take_map (λ (x : ℕ). get_or row x 0) c a.vars

      short : (row : Row) → length (part front row) < length a.vars
      short row = omega (arith, length-map front (λ (x : ℕ). get_or row x 0), length-take-le c a.vars (omega arith))

      keys_are : (row : Row) → keys_at v row a ≡ keys_under (part front row) a.rows
      unfolding keys_at
      keys_are row = ap (λ (p : Row). keys_under p a.rows) (words row)

      -- an answer that keeps the words given has one of the keys
      pub key_of : (row w : Row) → ((x : ℕ) → x ∈ us → get_or w x 0 ≡ get_or row x 0) → part a.vars w ∈ a.rows → get_or w v 0 ∈ keys_at v row a
      key_of row w f m =
          rw (keys_are row)
          (keys_in (part front row) (q.tables a i).wide (short row) (part back w)
          (subst (λ (p : Row). p ∈ a.rows)
          (ap (λ (l : List ℕ). part l w) split ∙ map-append (λ (x : ℕ). get_or w x 0) front (v ∷ back) ∙ ap (λ (p : Row). p ++ get_or w v 0 ∷ part back w) (part_same front w row (λ x j. f x (sides.0 x j)))) m))

      -- where v is its last variable, a key makes it complete
      whole : back ≡ [] → (row : Row) → get_or row v 0 ∈ keys_at v row a → part a.vars row ∈ a.rows
      whole e row m =
          let t = in_keys (part front row) (q.tables a i).wide (short row) (rw (keys_are row) at m) in
          let z : length t.0 ≡ 0 = omega (arith, (q.tables a i).wide (part front row ++ get_or row v 0 ∷ t.0) t.1, length-append (part front row) (get_or row v 0 ∷ t.0), length-map front (λ (x : ℕ). get_or row x 0), length-take-le c a.vars (omega arith), ap (length {A = ℕ}) split, length-append front (v ∷ back), ap (length {A = ℕ}) e) in
          subst (λ (p : Row). p ∈ a.rows)
          (ap (λ (r : Row). part front row ++ get_or row v 0 ∷ r) (no_words t.0 z)
          ∙ sym (ap (λ (l : List ℕ). part l row) (split ∙ ap (λ (l : List ℕ). front ++ v ∷ l) e) ∙ map-append (λ (x : ℕ). get_or row x 0) front (v ∷ [])))
          t.1

      last : back ≡ [] → suc c ≡ length a.vars
      last e = omega (arith, length-take-le c a.vars (omega arith), ap (length {A = ℕ}) split, length-append front (v ∷ back), ap (length {A = ℕ}) e)

    -- what a test says of an atom that is complete
    tested : (row : Row) → all_hold v row atoms ≡ true → (a : Atom) → a ∈ atoms → suc (column v a.vars) ≡ length a.vars → get_or row v 0 ∈ keys_at v row a
    unfolding all_hold holds
    tested row e a i l =
        let t = in_get_or nobody i in
        let h : holds v row a ≡ true = subst (λ (b : Atom). holds v row b ≡ true) t.2 (every_at (λ (j : ℕ). holds v row (get_or atoms j nobody)) (length atoms) e t.0 t.1) in
        has_in (keys_at v row a) (get_or row v 0) (sym (ap (λ (b : Bool). pick b (has (keys_at v row a) (get_or row v 0)) true) (eq-eqb (suc (column v a.vars)) (length a.vars) l)) ∙ h)

    pub passing : (row : Row) → ((a : Atom) → a ∈ atoms → column v a.vars < length a.vars → get_or row v 0 ∈ keys_at v row a) → all_hold v row atoms ≡ true
    unfolding all_hold holds
    passing row f = every_all (λ (j : ℕ). holds v row (get_or atoms j nobody)) (length atoms) (λ j h. one (get_or atoms j nobody) (get_or_in atoms j nobody h))
      where
        one : (a : Atom) → a ∈ atoms → holds v row a ≡ true
        one a i = go (eqb (suc (column v a.vars)) (length a.vars)) refl
          where
            go : (b : Bool) → eqb (suc (column v a.vars)) (length a.vars) ≡ b → pick b (has (keys_at v row a) (get_or row v 0)) true ≡ true
            go true e = in_has (f a i (omega (arith, eqb-true (suc (column v a.vars)) (length a.vars) e)))
            go false e = refl

    -- of what is found once v has a word and the tests are made, an atom that holds v has its part among its rows: one with variables left later, any other now
    pub at_next : (row : Row) → all_hold v row atoms ≡ true → (w : Row) → ((x : ℕ) → x < n → (x ∈ vs → ⊥) → get_or w x 0 ≡ get_or row x 0) → (a : Atom) → a ∈ atoms → column v a.vars < length a.vars → ((y : ℕ) → y ∈ a.vars → y ∈ vs → part a.vars w ∈ a.rows) → part a.vars w ∈ a.rows
    at_next row g w k a i c later = go (drop (suc (column v a.vars)) a.vars) refl
      where
        now_given : (y : ℕ) → y ∈ a.vars → drop (suc (column v a.vars)) a.vars ≡ [] → (y < n) × (y ∈ vs → ⊥)
        now_given y m e =
            ⊎_elim {C = (y < n) × (y ∈ vs → ⊥)}
            (λ (f : y ∈ take (column v a.vars) a.vars). let s = given y ((sides a i c).0 y f) in (s.0, s.1))
            (λ (f : y ∈ (v ∷ drop (suc (column v a.vars)) a.vars)). subst (λ (z : ℕ). (z < n) × (z ∈ vs → ⊥)) (sym (Memᴰ.eq_of_singleton (subst (λ (l : List ℕ). y ∈ (v ∷ l)) e f))) next)
            (Memᴰ.append_cases (take (column v a.vars) a.vars) (subst (λ (l : List ℕ). y ∈ l) (split a i c) m))

        go : (b : List ℕ) → drop (suc (column v a.vars)) a.vars ≡ b → part a.vars w ∈ a.rows
        go (y ∷ b) e =
            let z : y ∈ drop (suc (column v a.vars)) a.vars = rw e (hd refl) in
            later y (subst (λ (l : List ℕ). y ∈ l) (sym (split a i c)) (Memᴰ.append_right (take (column v a.vars) a.vars) (tl z))) ((sides a i c).1 y z)
        go [] e =
            rw (part_same a.vars w row (λ y m. let s = now_given y m e in k y s.0 s.1))
            (whole a i c e row (tested row g a i (last a i c e)))

    -- the atom whose keys are tried
    chosen : (get_or atoms (holder v atoms) nobody ∈ atoms) × (column v (get_or atoms (holder v atoms) nobody).vars < length (get_or atoms (holder v atoms) nobody).vars)
    chosen = let t = q.covered v next.0 in let h = holder_in v atoms t.1 t.2 in (get_or_in atoms (holder v atoms) nobody h.0, h.1)

    pub tried_ascend : (row : Row) → Ascends ◌<◌ (tried v row atoms)
    unfolding tried
    tried_ascend row = let a = get_or atoms (holder v atoms) nobody in rw (keys_are a chosen.0 chosen.1 row) (keys_ascend (part (take (column v a.vars) a.vars) row) (q.tables a chosen.0).wide (short a chosen.0 chosen.1 row))

    -- an answer that keeps the words given has one of the keys to try
    tried_key : (row w : Row) → ((x : ℕ) → x ∈ us → get_or w x 0 ≡ get_or row x 0) → Answer atoms w → get_or w v 0 ∈ tried v row atoms
    unfolding tried
    tried_key row w f g = let a = get_or atoms (holder v atoms) nobody in key_of a chosen.0 chosen.1 row w f (g a chosen.0)

  -- ---- sound, complete, ascending

  sound : (us vs : List ℕ) → order ≡ us ++ vs → (row : Row) → n ≤ length row → {w : Row} → w ∈ plainly n vs atoms row → (a : Atom) → a ∈ atoms → {x : ℕ} → x ∈ a.vars → x ∈ vs → part a.vars w ∈ a.rows
  unfolding plainly
  sound us [] o row h m a i j l = absurd (not_in_nil l)
  sound us (v ∷ vs) o row h {w} m a i {x} j l =
      let t = in_flat_map (under n atoms v vs row) (tried v row atoms) m in
      let u = picked (all_hold v (set row v t.0) atoms) (plainly n vs atoms (set row v t.0)) t.2 in
      let long : n ≤ length (set row v t.0) = rw (length-set row v t.0) h in
      let later : (y : ℕ) → y ∈ a.vars → y ∈ vs → part a.vars w ∈ a.rows = λ y p k. sound (us ++ v ∷ []) vs (further us v vs o) (set row v t.0) long u.1 a i p k in
      ⊎_elim {C = part a.vars w ∈ a.rows}
      (λ (e : x ≡ v). at_next us v vs o (set row v t.0) u.0 w (keeps n atoms vs (set row v t.0) long u.1).1 a i (column_in v a.vars (subst (λ (y : ℕ). y ∈ a.vars) e j)) later)
      (λ (k : x ∈ vs). later x j k)
      (in_cons l)

  complete : (us vs : List ℕ) → order ≡ us ++ vs → (row : Row) → n ≤ length row → (w : Row) → length w ≡ n → ((x : ℕ) → x ∈ us → get_or w x 0 ≡ get_or row x 0) → Answer atoms w → w ∈ plainly n vs atoms row
  unfolding plainly
  complete us [] o row h w e f g =
      hd (ext_get_or 0 w (take n row) (e ∙ sym (length-take-le n row h))
      (λ i l.
      let m : i ∈ (us ++ []) = subst (λ (z : List ℕ). i ∈ z) o (cover q.permutation i (omega arith)) in
      let b : i ∈ us = ⊎_elim (λ (j : i ∈ us). j) (λ (j : i ∈ []). absurd (not_in_nil j)) (Memᴰ.append_cases us m) in
      f i b ∙ sym (get_or-take n row i 0 (omega arith))))
  complete us (v ∷ vs) o row h w e f g =
      flat_map_in (under n atoms v vs row) (tried_key us v vs o row w f g)
      (subst (λ (b : Bool). w ∈ pick b (plainly n vs atoms (set row v (get_or w v 0))) []) (sym good)
      (complete (us ++ v ∷ []) vs (further us v vs o) (set row v (get_or w v 0)) (rw (length-set row v (get_or w v 0)) h) w e agrees g))
    where
      here : get_or (set row v (get_or w v 0)) v 0 ≡ get_or w v 0
      here = get_or-set_same row v (get_or w v 0) 0 (omega (arith, (next us v vs o).0))

      before : (x : ℕ) → x ∈ us → get_or w x 0 ≡ get_or (set row v (get_or w v 0)) x 0
      before x m = f x m ∙ sym (get_or-set_other row v x (get_or w v 0) 0 (given us v vs o x m).2)

      agrees : (x : ℕ) → x ∈ (us ++ v ∷ []) → get_or w x 0 ≡ get_or (set row v (get_or w v 0)) x 0
      agrees x m =
          ⊎_elim {C = get_or w x 0 ≡ get_or (set row v (get_or w v 0)) x 0}
          (before x)
          (λ (j : x ∈ (v ∷ [])). let d = Memᴰ.eq_of_singleton j in ap (λ (y : ℕ). get_or w y 0) d ∙ sym here ∙ ap (λ (y : ℕ). get_or (set row v (get_or w v 0)) y 0) (sym d))
          (Memᴰ.append_cases us m)

      good : all_hold v (set row v (get_or w v 0)) atoms ≡ true
      good = passing us v vs o (set row v (get_or w v 0)) (λ a i c. rw here (key_of us v vs o a i c (set row v (get_or w v 0)) w before (g a i)))

  ascends : (us vs : List ℕ) → order ≡ us ++ vs → (row : Row) → n ≤ length row → InOrder vs (plainly n vs atoms row)
  unfolding plainly
  ascends us [] o row h = amore (λ y m. absurd (not_in_nil m)) anone
  ascends us (v ∷ vs) o row h =
      spread v vs (under n atoms v vs row) (tried_ascend us v vs o row)
      (λ k. go k (all_hold v (set row v k) atoms) (ascends (us ++ v ∷ []) vs (further us v vs o) (set row v k) (long k)))
      (λ k r m.
      let u = picked (all_hold v (set row v k) atoms) (plainly n vs atoms (set row v k)) m in
      (keeps n atoms vs (set row v k) (long k) u.1).1 v (next us v vs o).0 (next us v vs o).1 ∙ get_or-set_same row v k 0 (omega (arith, (next us v vs o).0)))
    where
      long : (k : ℕ) → n ≤ length (set row v k)
      long k = rw (length-set row v k) h

      go : (k : ℕ) (b : Bool) → InOrder vs (plainly n vs atoms (set row v k)) → InOrder vs (pick b (plainly n vs atoms (set row v k)) [])
      go k true s = s
      go k false s = anone

  plain_listing : (row : Row) → n ≤ length row → Listing n order atoms (plainly n order atoms row)
  plain_listing row h = record {
    wide = λ v m. (keeps n atoms order row h m).0;
    sound = λ v m a i.
        let x = get_or a.vars 0 0 in
        let j = get_or_in a.vars 0 0 (q.tables a i).positive in
        sound [] order refl row h m a i j (in_order a i j);
    complete = λ v e f. complete [] order refl row h v e (λ x m. absurd (not_in_nil m)) f;
    ascending = ascends [] order refl row h;
  }

  -- whatever stood in the row at the start
  pub plainly_is : (row : Row) → n ≤ length row → plainly n order atoms row ≡ listing n order atoms
  plainly_is row h = unique (plain_listing row h) (listing_listing q)
