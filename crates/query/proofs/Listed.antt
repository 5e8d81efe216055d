-- The computed listing is the listing of every query that passes the checks.
-- Idea: the descent's rows are the words found, laid over a row by variable number; read in the order they are the words found again, and a row of
-- n words is determined by how it reads in a permutation of its places.
use Prim.Native.Nat.{ℕ, ◌≤◌, ◌<◌}
use native.Mathlib.Omega.{arith}
use mathlib.Core.Path.{◌≡◌, refl, sym, subst, ap, ap₂, ◌∙◌}
use mathlib.Core.List.Memᴰ
use mathlib.Core.List.{List, [], ◌∷◌, ◌++◌, map, flat_map, map-append, map-map}
use lib.ListN.{length, get_or, set, take, replicate, length-set, length-take, length-map, length-replicate}
use lib.Seq.{get_or-set_same, get_or-set_other, get_or-take, ext_get_or}
use Rattle.relation.specs.Order.{Row}
use Rattle.relation.specs.Lists.{◌∈◌, hd, tl, anone, amore}
use Rattle.relation.specs.Rows.{Width}
use Rattle.relation.proofs.Lists.{ascends_map}
use Rattle.query.specs.Meaning.{Atom, part, Distinct, Listing, Permutation, Passes}
use Rattle.query.specs.Meet.{meet}
use Rattle.query.specs.Solve.{bind, runs, extend, listing}
use Rattle.query.specs.Descend.{Joinable}
use Rattle.query.proofs.Beyond.{headed_by}
use Rattle.query.proofs.Perm.{cover}
use Rattle.query.proofs.Unique.{unique}
use Rattle.query.proofs.Solved.{solve, along, along_part, solve_sound, solve_complete, solve_ascends}

-- ---- words laid over a row

-- the words w of the variables vs, laid over a row by variable number
unfoldable pub lay : Row → List ℕ → Row → Row
lay row [] w = row
lay row (v ∷ vs) [] = row
lay row (v ∷ vs) (k ∷ w) = lay (set row v k) vs w

lay_length : (row : Row) (vs : List ℕ) (w : Row) → length (lay row vs w) ≡ length row
unfolding lay
lay_length row [] w = refl
lay_length row (v ∷ vs) [] = refl
lay_length row (v ∷ vs) (k ∷ w) = lay_length (set row v k) vs w ∙ length-set row v k

lay_other : (row : Row) (vs : List ℕ) (w : Row) (x : ℕ) → (x ∈ vs → ⊥) → get_or (lay row vs w) x 0 ≡ get_or row x 0
unfolding lay
lay_other row [] w x n = refl
lay_other row (v ∷ vs) [] x n = refl
lay_other row (v ∷ vs) (k ∷ w) x n = lay_other (set row v k) vs w x (λ m. n (tl m)) ∙ get_or-set_other row v x k 0 (λ e. n (hd e))

lay_part : (row : Row) {vs : List ℕ} (w : Row) → Distinct vs → ((x : ℕ) → x ∈ vs → x < length row) → length w ≡ length vs → part vs (lay row vs w) ≡ w
unfolding lay
lay_part row [] anone b e = refl
lay_part row (k ∷ w) anone b e = absurd (omega arith)
lay_part row [] (amore f s) b e = absurd (omega arith)
lay_part row (k ∷ w) (amore {r = v} {rs = vs} f s) b e =
    ap₂ {C = Row} (λ k l. k ∷ l)
    (lay_other (set row v k) vs w v (λ m. f v m refl) ∙ get_or-set_same row v k 0 (b v (hd refl)))
    (lay_part (set row v k) w s (λ x m. rw (length-set row v k) (b x (tl m))) (omega arith))

-- the descent's rows are the words found, laid out
extend_lay : (n : ℕ) (vs : List ℕ) (atoms : List Atom) (row : Row) → extend n vs atoms row ≡ map (λ (w : Row). take n (lay row vs w)) (solve vs atoms)
unfolding extend solve lay
extend_lay n [] atoms row = refl
extend_lay n (v ∷ vs) atoms row = keys (meet (runs v atoms)) (λ k. extend_lay n vs (map (bind v k) atoms) (set row v k))
  where
    rest : ℕ → List Row
    rest k = solve vs (map (bind v k) atoms)

    keys : (ks : List ℕ) → ((k : ℕ) → extend n vs (map (bind v k) atoms) (set row v k) ≡ map (λ (w : Row). take n (lay (set row v k) vs w)) (rest k)) → flat_map (λ (k : ℕ). extend n vs (map (bind v k) atoms) (set row v k)) ks ≡ map (λ (w : Row). take n (lay row (v ∷ vs) w)) (flat_map (headed_by rest) ks)
    keys [] ih = refl
    keys (k ∷ ks) ih =
        ap₂ (λ (a b : List Row). a ++ b) (ih k ∙ sym (map-map (λ (w : Row). take n (lay row (v ∷ vs) w)) (λ (r : Row). k ∷ r) (rest k))) (keys ks ih) ∙
        sym (map-append (λ (w : Row). take n (lay row (v ∷ vs) w)) (headed_by rest k) (flat_map (headed_by rest) ks))

-- every row is n words
pub extend_wide : (n : ℕ) (vs : List ℕ) (atoms : List Atom) (row : Row) → n ≤ length row → Width n (extend n vs atoms row)
extend_wide n vs atoms row h r m =
    let t = Memᴰ.of_map (λ (w : Row). take n (lay row vs w)) (solve vs atoms) (rw (extend_lay n vs atoms row) at m) in
    ap (length {A = ℕ}) (sym t.2) ∙ simp (length-take, lay_length) (omega arith)

-- ---- rows as read in the order

part_cong : (xs : List ℕ) (u v : Row) → ((x : ℕ) → x ∈ xs → get_or u x 0 ≡ get_or v x 0) → part xs u ≡ part xs v
part_cong [] u v f = refl
part_cong (x ∷ xs) u v f = ap₂ {C = Row} (λ k l. k ∷ l) (f x (hd refl)) (part_cong xs u v (λ y m. f y (tl m)))

part_at : {x : ℕ} {xs : List ℕ} (u v : Row) → part xs u ≡ part xs v → x ∈ xs → get_or u x 0 ≡ get_or v x 0
part_at {x} u v e (hd {x = y} {xs = ys} d) =
    let p : get_or u y 0 ≡ get_or v y 0 = cc in
    ap (λ (z : ℕ). get_or u z 0) d ∙ p ∙ ap (λ (z : ℕ). get_or v z 0) (sym d)
part_at u v e (tl {x = y} {xs = ys} m) = let p : part ys u ≡ part ys v = cc in part_at u v p m

-- n words are determined by how they read in a permutation of their places
same_row : {n : ℕ} {order : List ℕ} → Permutation n order → (u v : Row) → length u ≡ n → length v ≡ n → part order u ≡ part order v → u ≡ v
same_row q u v d e p = ext_get_or 0 u v (omega arith) (λ i lt. part_at u v p (cover q i (omega arith)))

-- ---- the theorem, from any row of n words or more

module _ {n : ℕ} {order : List ℕ} {atoms : List Atom} (q : Passes n order atoms) where
  pub joinable : Joinable order atoms
  joinable = record {
    partway = λ a i. record {
      follow = q.follow a i;
      wide = (q.tables a i).wide;
      ascending = (q.tables a i).ascending;
      filled = λ e. absurd (omega (arith, (q.tables a i).positive, ap (length {A = ℕ}) e));
    };
    covered = λ x m. q.covered x (q.permutation.below x m);
    single = q.permutation.single;
  }

  module _ (row : Row) (h : n ≤ length row) where
    abbrev found : Row → Row
    found w = take n (lay row order w)

    found_length : (w : Row) → length (found w) ≡ n
    found_length w = simp (length-take, lay_length) (omega arith)

    found_part : (w : Row) → length w ≡ length order → part order (found w) ≡ w
    found_part w e =
        let b = q.permutation.below in
        part_cong order (found w) (lay row order w) (λ x m. get_or-take n (lay row order w) x 0 (b x m)) ∙
        lay_part row w q.permutation.single (λ x m. omega (arith, b x m)) e

    long : (v : Row) → length (part order v) ≡ length order
    long v = length-map order (λ (x : ℕ). get_or v x 0)

    laid_listing : Listing n order atoms (map found (solve order atoms))
    laid_listing = record {
      wide = λ v m. let t = Memᴰ.of_map found (solve order atoms) m in subst (λ (v : Row). length v ≡ n) t.2 (found_length t.0);
      sound = λ v m a i.
          let t = Memᴰ.of_map found (solve order atoms) m in
          let s = solve_sound order atoms joinable t.1 in
          let e : part order v ≡ t.0 = ap (part order) (sym t.2) ∙ found_part t.0 s.0 in
          Memᴰ.cast (sym (along_part order a.vars v (q.follow a i)) ∙ ap (λ (w : Row). along order w a.vars) e) (s.1 a i);
      complete = λ v e f.
          let m : part order v ∈ solve order atoms = solve_complete order atoms joinable (part order v) (long v) (λ a i. Memᴰ.cast (along_part order a.vars v (q.follow a i)) (f a i)) in
          Memᴰ.cast (same_row q.permutation v (found (part order v)) e (found_length (part order v)) (sym (found_part (part order v) (long v)))) (Memᴰ.map found m);
      ascending =
          ascends_map found
          (λ a b i j p. rw (found_part a (solve_sound order atoms joinable i).0, found_part b (solve_sound order atoms joinable j).0) p)
          (solve_ascends order atoms joinable);
    }

    extend_listing : Listing n order atoms (extend n order atoms row)
    extend_listing = rw (extend_lay n order atoms row) laid_listing

  pub listing_listing : Listing n order atoms (listing n order atoms)
  unfolding listing
  listing_listing = extend_listing (replicate n 0) (omega (arith, length-replicate {A = ℕ} n 0))

  -- any listing is this one
  listing_only : {l : List Row} → Listing n order atoms l → l ≡ listing n order atoms
  listing_only p = unique p listing_listing

  -- so what stood in the row at the start does not matter
  pub extend_root : (row : Row) → n ≤ length row → extend n order atoms row ≡ listing n order atoms
  extend_root row h = listing_only (extend_listing row h)
