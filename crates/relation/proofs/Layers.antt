-- The layers of a list of rows, and what one more row does to each.
use Prim.Native.Nat.{ℕ, suc, ◌≤◌, ◌<◌}
use mathlib.Core.Path.{◌≡◌, refl, sym, ap, ◌∙◌, subst}
use mathlib.Core.Logic.{inr, ⊎_elim}
use mathlib.Core.List.{List, [], ◌∷◌, ◌++◌, map}
use native.Mathlib.Omega.{arith}
use lib.ListN.{length, take, get_or, length-map}
use lib.Seq.{take-take, take-suc, take_all, length-take-le, get_or-take}
use Rattle.relation.specs.Order.{Row, ◌≺◌}
use Rattle.relation.specs.Lists.{◌∈◌, hd, tl, not_in_nil, in_cons}
use Rattle.relation.specs.Rows.{Asc, Members, put, as_set, Width}
use Rattle.relation.specs.Layers.{prefixes, Layer}
use Rattle.relation.proofs.Order.{Tri, lt, eq, gt, tri, asym, le_lt, le_le, pick_not, snoc_after, take_le, take_not_after, shared, shared_take, shared_apart}
use Rattle.relation.proofs.Sorting.{in_put, put_self, put_old, put_known, as_set_asc, as_set_members, as_set_is}
use Rattle.relation.proofs.Rank.{rank, ins, bump, rank_end, put_ins, rank_put, starts_in, starts_put, map_ins, ins_end, bump_end, length_starts, rank_snoc_in, rank_snoc_out, rank_snoc_gap, start_place}

-- the keys at depth d: the last word of each beginning of d + 1 words
unfoldable pub keys_at : ℕ → List Row → List ℕ
unfolding prefixes
keys_at d rows = map (λ q. get_or q d 0) (prefixes (suc d) rows)

-- where each parent's children start: as many longer beginnings come before it
unfoldable pub intervals_at : ℕ → List Row → List ℕ
unfolding prefixes starts_in
intervals_at d rows = starts_in (prefixes d rows) (prefixes (suc d) rows)

abbrev pub ranked_at : ℕ → List Row → Layer
ranked_at d rows = record { keys = keys_at d rows; intervals = intervals_at d rows }

in_take : (d : ℕ) (rows : List Row) {x : Row} → x ∈ map (take d) rows → (q : Row) × (q ∈ rows) × (x ≡ take d q)
in_take d [] m = absurd (not_in_nil m)
in_take d (r ∷ rs) (hd e) = (r, hd refl, e)
in_take d (r ∷ rs) (tl m) = let w = in_take d rs m in (w.0, tl w.1, w.2)

take_in : (d : ℕ) {q : Row} {rows : List Row} → q ∈ rows → take d q ∈ map (take d) rows
take_in d (hd e) = hd (ap (take d) e)
take_in d (tl m) = tl (take_in d m)

pub prefix_of : (d : ℕ) (rows : List Row) {x : Row} → x ∈ prefixes d rows → (q : Row) × (q ∈ rows) × (x ≡ take d q)
unfolding prefixes
prefix_of d rows {x} m = in_take d rows ((as_set_members (map (take d) rows) x).0 m)

pub prefix_in : (d : ℕ) {rows : List Row} {q : Row} → q ∈ rows → take d q ∈ prefixes d rows
unfolding prefixes
prefix_in d {rows} {q} m = (as_set_members (map (take d) rows) (take d q)).1 (take_in d m)

pub prefixes_asc : (d : ℕ) (rows : List Row) → Asc (prefixes d rows)
unfolding prefixes
prefixes_asc d rows = as_set_asc (map (take d) rows)

-- what decides a list of beginnings
pub prefixes_are : (d : ℕ) (rows : List Row) {ps : List Row} → Asc ps → ((q : Row) → q ∈ rows → take d q ∈ ps) → ((p : Row) → p ∈ ps → (q : Row) × (q ∈ rows) × (p ≡ take d q)) → prefixes d rows ≡ ps
unfolding prefixes
prefixes_are d rows {ps} s f g =
    as_set_is s
    (λ x. (
      λ m. let w = in_take d rows m in subst (λ (z : Row). z ∈ ps) (sym w.2) (f w.0 w.1),
      λ m. let w = g x m in subst (λ (z : Row). z ∈ map (take d) rows) (sym w.2) (take_in d w.1),
    ))

prefixes_cong : (d : ℕ) (xs ys : List Row) → Members xs ys → prefixes d xs ≡ prefixes d ys
prefixes_cong d xs ys p =
    prefixes_are d xs (prefixes_asc d ys) (λ q m. prefix_in d ((p q).0 m)) (λ x m. let w = prefix_of d ys m in (w.0, (p w.0).1 w.1, w.2))

pub prefixes_prefixes : (d e : ℕ) (rows : List Row) → d ≤ e → prefixes d (prefixes e rows) ≡ prefixes d rows
prefixes_prefixes d e rows h =
    prefixes_are d (prefixes e rows) (prefixes_asc d rows)
    (λ q m. let w = prefix_of e rows m in subst (λ (z : Row). z ∈ prefixes d rows) (sym (ap (take d) w.2 ∙ take-take d e w.0 h)) (prefix_in d w.1))
    (λ p m. let w = prefix_of d rows m in (take e w.0, prefix_in e w.1, w.2 ∙ sym (take-take d e w.0 h)))

pub prefixes_width : {a : ℕ} {rows : List Row} (d : ℕ) → Width a rows → d ≤ a → Width d (prefixes d rows)
prefixes_width {a} {rows} d w h p m = let v = prefix_of d rows m in ap length v.2 ∙ length-take-le d v.0 (omega (arith, w v.0 v.1))

pub prefixes_full : {a : ℕ} {rows : List Row} → Asc rows → Width a rows → prefixes a rows ≡ rows
prefixes_full {a} {rows} s w =
    prefixes_are a rows s
    (λ q m. subst (λ (z : Row). z ∈ rows) (sym (take_all a q (omega (arith, w q m)))) m)
    (λ q m. (q, m, sym (take_all a q (omega (arith, w q m)))))

pub layer_cong : (d : ℕ) (xs ys : List Row) → Members xs ys → (keys_at d xs ≡ keys_at d ys) × (intervals_at d xs ≡ intervals_at d ys)
unfolding keys_at intervals_at
layer_cong d xs ys p = (rw (prefixes_cong (suc d) xs ys p), rw (prefixes_cong (suc d) xs ys p, prefixes_cong d xs ys p))

pub length_keys : (d : ℕ) (rows : List Row) → length (keys_at d rows) ≡ length (prefixes (suc d) rows)
unfolding keys_at
length_keys d rows = length-map (prefixes (suc d) rows) (λ q. get_or q d 0)

pub length_intervals : (d : ℕ) (rows : List Row) → length (intervals_at d rows) ≡ length (prefixes d rows)
unfolding intervals_at
length_intervals d rows = length_starts (prefixes d rows) (prefixes (suc d) rows)

-- a stored beginning's shorter one is stored
pub parent_in : (d : ℕ) (rows : List Row) {q : Row} → q ∈ prefixes (suc d) rows → take d q ∈ prefixes d rows
parent_in d rows m =
    let v = prefix_of (suc d) rows m in
    subst (λ (z : Row). z ∈ prefixes d rows) (sym (ap (take d) v.2 ∙ take-take d (suc d) v.0 (omega arith))) (prefix_in d v.1)

-- xs has the rows of `rows`, and r
abbrev Grown : List Row → Row → List Row → Type 0
Grown rows r xs = Members xs (r ∷ rows)

pub grown_put : (rows : List Row) (r : Row) → Grown rows r (put r rows)
grown_put rows r x = (
  λ m. ⊎_elim (λ (e : x ≡ r). hd e) (λ (w : x ∈ rows). tl w) (in_put r rows m),
  λ m. ⊎_elim (λ (e : x ≡ r). rw e (put_self r rows)) (λ (w : x ∈ rows). put_old r rows w) (in_cons m),
)

grown_end : (rows : List Row) (r : Row) → Grown rows r (rows ++ (r ∷ []))
grown_end [] r x = (λ m. m, λ m. m)
grown_end (q ∷ qs) r x = go (grown_end qs r x)
  where
    go : (x ∈ (qs ++ (r ∷ [])) → x ∈ (r ∷ qs)) × (x ∈ (r ∷ qs) → x ∈ (qs ++ (r ∷ []))) → (x ∈ (q ∷ (qs ++ (r ∷ []))) → x ∈ (r ∷ (q ∷ qs))) × (x ∈ (r ∷ (q ∷ qs)) → x ∈ (q ∷ (qs ++ (r ∷ []))))
    go ih = (
      λ m. ⊎_elim (λ (e : x ≡ q). tl (hd e)) (λ (w : x ∈ (qs ++ (r ∷ []))). ⊎_elim (λ (e : x ≡ r). hd e) (λ (v : x ∈ qs). tl (tl v)) (in_cons (ih.0 w))) (in_cons m),
      λ m. ⊎_elim (λ (e : x ≡ r). tl (ih.1 (hd e))) (λ (w : x ∈ (q ∷ qs)). ⊎_elim (λ (e : x ≡ q). hd e) (λ (v : x ∈ qs). tl (ih.1 (tl v))) (in_cons w)) (in_cons m),
    )

module _ (a : ℕ) (rows : List Row) (r : Row) (xs : List Row) (w : Width a rows) (lr : length r ≡ a) (g : Grown rows r xs) where
  -- the beginnings of d words gain r's
  pub prefixes_grown : (d : ℕ) → prefixes d xs ≡ put (take d r) (prefixes d rows)
  unfolding prefixes as_set
  prefixes_grown d = prefixes_cong d xs (r ∷ rows) g

  -- a longer beginning that is stored has its shorter ones stored
  pub known_shorter : (d : ℕ) → take (suc d) r ∈ prefixes (suc d) rows → take d r ∈ prefixes d rows
  known_shorter d m =
      let v = prefix_of (suc d) rows m in
      subst (λ (z : Row). z ∈ prefixes d rows)
      (sym (sym (take-take d (suc d) r (omega arith)) ∙ ap (take d) v.2 ∙ take-take d (suc d) v.0 (omega arith)))
      (prefix_in d v.1)

  pub snoc_take : (d : ℕ) → d < a → take (suc d) r ≡ take d r ++ (get_or r d 0 ∷ [])
  snoc_take d h = take-suc r d 0 (omega arith)

  -- r's beginning of d + 1 words is stored: the layer stays
  pub step_known : (d : ℕ) → take (suc d) r ∈ prefixes (suc d) rows → (keys_at d xs ≡ keys_at d rows) × (intervals_at d xs ≡ intervals_at d rows)
  unfolding keys_at intervals_at
  step_known d m =
      let e : prefixes (suc d) xs ≡ prefixes (suc d) rows = prefixes_grown (suc d) ∙ put_known (prefixes_asc (suc d) rows) m in
      let f : prefixes d xs ≡ prefixes d rows = prefixes_grown d ∙ put_known (prefixes_asc d rows) (known_shorter d m) in
      (rw e, rw (e, f))

  -- it is not: the keys gain r's word at its place
  pub step_keys : (d : ℕ) → d < a → (take (suc d) r ∈ prefixes (suc d) rows → ⊥) → keys_at d xs ≡ ins (rank (take (suc d) r) (prefixes (suc d) rows)) (get_or r d 0) (keys_at d rows)
  unfolding keys_at
  step_keys d h n =
      ap (map (λ q. get_or q d 0)) (prefixes_grown (suc d) ∙ put_ins (take (suc d) r) (prefixes (suc d) rows) n) ∙
      map_ins (λ (q : Row). get_or q d 0) (rank (take (suc d) r) (prefixes (suc d) rows)) (take (suc d) r) (prefixes (suc d) rows) ∙
      ap (λ (k : ℕ). ins (rank (take (suc d) r) (prefixes (suc d) rows)) k (map (λ q. get_or q d 0) (prefixes (suc d) rows))) (get_or-take (suc d) r d 0 (omega arith))

  longer : (d : ℕ) → d < a → take (suc d) r ∈ prefixes d rows → ⊥
  longer d h m = omega (arith, prefixes_width d w (omega arith) (take (suc d) r) m, length-take-le (suc d) r (omega arith))

  bumped : (d : ℕ) → d < a → (take (suc d) r ∈ prefixes (suc d) rows → ⊥) → starts_in (prefixes d rows) (prefixes (suc d) xs) ≡ bump (rank (take (suc d) r) (prefixes d rows)) (intervals_at d rows)
  unfolding intervals_at
  bumped d h n = ap (starts_in (prefixes d rows)) (prefixes_grown (suc d)) ∙ starts_put (take (suc d) r) (prefixes_asc d rows) (prefixes_asc (suc d) rows) (longer d h) n

  same_length : (d : ℕ) → d < a → (p : Row) → p ∈ prefixes d rows → length p ≡ length (take d r)
  same_length d h p m = prefixes_width d w (omega arith) p m ∙ sym (length-take-le d r (omega arith))

  -- the first word that is new: no new interval, the later ones are one amore
  pub step_first : (d : ℕ) → d < a → take d r ∈ prefixes d rows → (take (suc d) r ∈ prefixes (suc d) rows → ⊥) → intervals_at d xs ≡ bump (suc (rank (take d r) (prefixes d rows))) (intervals_at d rows)
  unfolding intervals_at
  step_first d h m n =
      ap (λ (ps : List Row). starts_in ps (prefixes (suc d) xs)) (prefixes_grown d ∙ put_known (prefixes_asc d rows) m) ∙
      bumped d h n ∙
      ap (λ (k : ℕ). bump k (starts_in (prefixes d rows) (prefixes (suc d) rows)))
      (ap (λ (u : Row). rank u (prefixes d rows)) (snoc_take d h) ∙ rank_snoc_in (take d r) (get_or r d 0) (prefixes_asc d rows) (same_length d h) m)

  -- no stored beginning goes on from one that is not stored
  gap : (d : ℕ) → d < a → (take d r ∈ prefixes d rows → ⊥) → (q : Row) → q ∈ prefixes (suc d) rows → take (length (take d r)) q ≡ take d r → ⊥
  gap d h n q m e =
      let v = prefix_of (suc d) rows m in
      n (subst (λ (z : Row). z ∈ prefixes d rows)
      (sym (ap (take d) v.2 ∙ take-take d (suc d) v.0 (omega arith)) ∙ ap (λ (k : ℕ). take k q) (sym (length-take-le d r (omega arith))) ∙ e)
      (prefix_in d v.1))

  place_gap : (d : ℕ) → d < a → (take d r ∈ prefixes d rows → ⊥) → rank (take (suc d) r) (prefixes (suc d) rows) ≡ rank (take d r) (prefixes (suc d) rows)
  place_gap d h n = ap (λ (u : Row). rank u (prefixes (suc d) rows)) (snoc_take d h) ∙ rank_snoc_gap (take d r) (get_or r d 0) (prefixes (suc d) rows) (gap d h n)

  -- below: a new interval at the place of the new parent, starting at the new key's place, the later ones one amore
  pub step_new : (d : ℕ) → d < a → (take d r ∈ prefixes d rows → ⊥) → intervals_at d xs ≡ ins (rank (take d r) (prefixes d rows)) (rank (take (suc d) r) (prefixes (suc d) rows)) (bump (rank (take d r) (prefixes d rows)) (intervals_at d rows))
  unfolding intervals_at starts_in
  step_new d h n =
      ap (λ (ps : List Row). starts_in ps (prefixes (suc d) xs)) (prefixes_grown d ∙ put_ins (take d r) (prefixes d rows) n) ∙
      map_ins (λ (p : Row). rank p (prefixes (suc d) xs)) (rank (take d r) (prefixes d rows)) (take d r) (prefixes d rows) ∙
      ap (λ (k : ℕ). ins (rank (take d r) (prefixes d rows)) k (starts_in (prefixes d rows) (prefixes (suc d) xs))) start ∙
      ap (ins (rank (take d r) (prefixes d rows)) (rank (take (suc d) r) (prefixes (suc d) rows))) later
    where
      new : take (suc d) r ∈ prefixes (suc d) rows → ⊥
      new m = n (known_shorter d m)

      start : rank (take d r) (prefixes (suc d) xs) ≡ rank (take (suc d) r) (prefixes (suc d) rows)
      start =
          ap (rank (take d r)) (prefixes_grown (suc d)) ∙
          rank_put (take d r) (take (suc d) r) (prefixes_asc (suc d) rows) new ∙
          pick_not _ _ (λ l. asym l (subst (λ (u : Row). take d r ≺ u) (sym (snoc_take d h)) (snoc_after (take d r) (get_or r d 0)))) ∙
          sym (place_gap d h n)

      later : starts_in (prefixes d rows) (prefixes (suc d) xs) ≡ bump (rank (take d r) (prefixes d rows)) (intervals_at d rows)
      later =
          bumped d h new ∙
          ap (λ (k : ℕ). bump k (intervals_at d rows))
          (ap (λ (u : Row). rank u (prefixes d rows)) (snoc_take d h) ∙ rank_snoc_out (take d r) (get_or r d 0) (prefixes d rows) (same_length d h) n)

  -- where the new key stands below a new parent: at the start that stands at the parent's place, or at the end
  pub new_place : (d : ℕ) → d < a → (take d r ∈ prefixes d rows → ⊥) → rank (take (suc d) r) (prefixes (suc d) rows) ≡ get_or (intervals_at d rows) (rank (take d r) (prefixes d rows)) (length (keys_at d rows))
  unfolding intervals_at starts_in
  new_place d h n =
      place_gap d h n ∙
      start_place d (take d r) (prefixes (suc d) rows) (prefixes d rows) (omega (arith, length-take-le d r (omega arith))) (prefixes_asc d rows) n (λ q m. inr (parent_in d rows m)) ∙
      ap (get_or (starts_in (prefixes d rows) (prefixes (suc d) rows)) (rank (take d r) (prefixes d rows))) (sym (length_keys d rows))

-- what a bulk build does: r comes after all rows, whose last one is l; the row is stored at the end of the layers from the first word on that l does not share
module _ (a : ℕ) (rows : List Row) (l r : Row) (w : Width a rows) (lr : length r ≡ a) (known : l ∈ rows) (top : (q : Row) → q ∈ rows → l ≺ q → ⊥) (after : r ≺ l → ⊥) where
  -- r's beginning is stored exactly where l shares it
  share_known : (d : ℕ) → d ≤ shared l r → take d r ∈ prefixes d rows
  share_known d h = subst (λ (z : Row). z ∈ prefixes d rows) (shared_take l r d h) (prefix_in d known)

  share_new : (d : ℕ) → shared l r < d → d ≤ a → take d r ∈ prefixes d rows → ⊥
  share_new d h g m =
      let v = prefix_of d rows m in
      shared_apart l r d h (omega (arith, w l known)) (omega arith) (between v.0 v.2 (tri (take d l) (take d r)) (take_le d (top v.0 v.1)))
    where
      between : (q : Row) → take d r ≡ take d q → Tri (take d l) (take d r) → (take d l ≺ take d q → ⊥) → take d l ≡ take d r
      between q e (eq f) n = f
      between q e (lt k) n = absurd (n (rw e at k))
      between q e (gt k) n = absurd (take_le d after k)

  -- a new beginning of r comes after all stored ones
  ends : (d : ℕ) → (take d r ∈ prefixes d rows → ⊥) → rank (take d r) (prefixes d rows) ≡ length (prefixes d rows)
  ends d n = rank_end (take d r) (prefixes d rows) (λ q m. go q m (tri q (take d r)))
    where
      go : (q : Row) → q ∈ prefixes d rows → Tri q (take d r) → q ≺ take d r
      go q m (lt k) = k
      go q m (eq e) = absurd (n (subst (λ (z : Row). z ∈ prefixes d rows) e m))
      go q m (gt k) = let v = prefix_of d rows m in absurd (take_le d (le_le (top v.0 v.1) after) (rw v.2 at k))

  pub build_known : (d : ℕ) → d < shared l r → (keys_at d (rows ++ (r ∷ [])) ≡ keys_at d rows) × (intervals_at d (rows ++ (r ∷ [])) ≡ intervals_at d rows)
  build_known d h = step_known a rows r (rows ++ (r ∷ [])) w lr (grown_end rows r) d (share_known (suc d) h)

  pub build_keys : (d : ℕ) → shared l r ≤ d → d < a → keys_at d (rows ++ (r ∷ [])) ≡ keys_at d rows ++ (get_or r d 0 ∷ [])
  build_keys d h g =
      step_keys a rows r (rows ++ (r ∷ [])) w lr (grown_end rows r) d g (share_new (suc d) (omega arith) g) ∙
      ap (λ (n : ℕ). ins n (get_or r d 0) (keys_at d rows)) (ends (suc d) (share_new (suc d) (omega arith) g) ∙ sym (length_keys d rows)) ∙
      ins_end (get_or r d 0) (keys_at d rows)

  pub build_first : (d : ℕ) → d ≡ shared l r → d < a → intervals_at d (rows ++ (r ∷ [])) ≡ intervals_at d rows
  build_first d h g =
      step_first a rows r (rows ++ (r ∷ [])) w lr (grown_end rows r) d g (share_known d (omega arith)) (share_new (suc d) (omega arith) g) ∙
      ap (λ (n : ℕ). bump n (intervals_at d rows)) last ∙
      bump_end (intervals_at d rows)
    where
      last : suc (rank (take d r) (prefixes d rows)) ≡ length (intervals_at d rows)
      last =
          sym (rank_snoc_in (take d r) (get_or r d 0) (prefixes_asc d rows) (same_length a rows r (r ∷ rows) w lr (λ x. (λ m. m, λ m. m)) d g) (share_known d (omega arith))) ∙
          rank_end (take d r ++ (get_or r d 0 ∷ [])) (prefixes d rows)
          (λ p m. let v = prefix_of d rows m in le_lt (λ k. take_le d (le_le (top v.0 v.1) after) (rw v.2 at k)) (snoc_after (take d r) (get_or r d 0))) ∙
          sym (length_intervals d rows)

  pub build_new : (d : ℕ) → shared l r < d → d < a → intervals_at d (rows ++ (r ∷ [])) ≡ intervals_at d rows ++ (length (keys_at d rows) ∷ [])
  build_new d h g =
      step_new a rows r (rows ++ (r ∷ [])) w lr (grown_end rows r) d g (share_new d h (omega arith)) ∙
      ap (λ (n : ℕ). ins n (rank (take (suc d) r) (prefixes (suc d) rows)) (bump n (intervals_at d rows))) (ends d (share_new d h (omega arith)) ∙ sym (length_intervals d rows)) ∙
      ap (ins (length (intervals_at d rows)) (rank (take (suc d) r) (prefixes (suc d) rows))) (bump_end (intervals_at d rows)) ∙
      ins_end (rank (take (suc d) r) (prefixes (suc d) rows)) (intervals_at d rows) ∙
      ap (λ (n : ℕ). intervals_at d rows ++ (n ∷ [])) (ends (suc d) (share_new (suc d) (omega arith) g) ∙ sym (length_keys d rows))

-- the first row
pub build_one : (d : ℕ) (r : Row) → (keys_at d (r ∷ []) ≡ get_or r d 0 ∷ []) × (intervals_at d (r ∷ []) ≡ 0 ∷ [])
unfolding keys_at intervals_at prefixes as_set put starts_in rank
build_one d r = (
  ap {B = List ℕ} (λ (k : ℕ). k ∷ []) (get_or-take (suc d) r d 0 (omega arith)),
  ap {B = List ℕ} (λ (k : ℕ). k ∷ []) (pick_not {A = ℕ} 1 0 (λ (l : take (suc d) r ≺ take d r). take_not_after d (take (suc d) r) (rw (take-take d (suc d) r (omega arith)) l))),
)

pub build_none : (d : ℕ) → (keys_at d [] ≡ []) × (intervals_at d [] ≡ [])
unfolding keys_at intervals_at prefixes as_set starts_in
build_none d = (refl, refl)
