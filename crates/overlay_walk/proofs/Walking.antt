-- Each call takes a pair of cursors that stands at a state of the iterator over the rows that count to one that stands where the call takes the state, with the
-- state's answer.
use Prim.Native.Nat.{ℕ, suc}
use mathlib.Core.Path.{◌≡◌, refl, sym, ap, ap₂, ◌∙◌, subst}
use mathlib.Core.Bool.{Bool, true, false, not, ◌&&◌, ◌||◌, false≢true}
use mathlib.Core.List.{List, [], ◌∷◌}
use native.Mathlib.Omega.{arith}
use lib.Dec.{eqb, ltb}
use borrow.Author.Tests.{eq-eqb, ne_eqb}
use Rattle.relation.specs.Order.{Row, pick}
use Rattle.relation.specs.Lists.{nonempty}
use Rattle.relation.specs.Runs.{from}
use Rattle.relation.specs.Layers.{keys_under}
use Rattle.relation.proofs.Runs.{from_ascends}
use Rattle.relation.proofs.Tests.{and_false_left, and_false_right}
use Rattle.seek.specs.declared.SeekStrategy.{SeekStrategy}
use Rattle.column_trie.specs.declared.ColumnTrie.{ColumnTrie}
use Rattle.column_trie_place.specs.Checks.{unless}
use Rattle.column_trie_place.specs.declared.ColumnTrieIter.{ColumnTrieIter}
use Rattle.column_trie_iter.specs.Cursor.{no_key, key_in, key_of, next_of, sought_of, open_of, up_of}
use Rattle.column_trie_iter.specs.declared.KeyAnswer.{KeyAnswer}
use Rattle.trie_iterator.specs.TrieIterator.{State, root, level, left, path, go_next, go_seek, opens, go_down, rises, Call, Key, Next, AtEnd, Open, Up, Seek, Answer, shown, says, refused, answer, after}
use Rattle.trie_iterator.specs.Cursor.{Layered, Stands, of_key, of_end}
use Rattle.trie_iterator.proofs.Standing.{key_is}
use Rattle.trie_iterator.proofs.Moving.{next_answers, next_stands, seek_stands, open_stands, up_stands}
use Rattle.overlay.specs.Laid.{owns, laid}
use Rattle.overlay.proofs.Merge.{merge_from}
use Rattle.overlay_checks.specs.Tables.{tables_number}
use Rattle.overlay_checks.specs.declared.Side.TheVariants.{School, Maker}
use Rattle.laid_iter.specs.Cursors.{pair, pair_at_root}
use Rattle.overlay_place.specs.Pairs.{leads, least, pair_refusal}
use Rattle.laid_iter.specs.declared.LaidIter.{LaidIter}
use Rattle.overlay_place.proofs.Tests.{unrefused}
use Rattle.overlay_iter.specs.Calls.{pass_if, next_at, next_pair, end_by, laid_key_of, laid_end_of, laid_unmoved, one_next, both_next, laid_next_of, laid_unsought, one_sought, both_sought, laid_sought_of, laid_unopened, one_opened, first_opened, laid_open_of, laid_unrisen, one_risen, both_risen, laid_up_of}
use Rattle.overlay_iter.proofs.Outcomes.{when_school, when_maker, when_both, opens_both, opens_school, opens_maker}
use Rattle.overlay_walk.specs.Pair as spec
use Rattle.overlay_walk.specs.Pair.{Walker, on, go_pass, next_by, seek_by, up_by, open_by, opener, stands_at, Above, one, more, StandsFor, at_top, at_first, in_school, in_maker}
use Rattle.overlay_walk.specs.Walk.{of_laid_next, of_laid_seek, of_laid_open, of_laid_up, LaidStands}
use Rattle.overlay_walk.proofs.Pair as pairs
use Rattle.overlay_walk.proofs.Leads.{told}
use Rattle.overlay_walk.proofs.Plain.{depth_at, seek_at, open_at, up_at}
use Rattle.overlay_walk.proofs.States.{deep_depth, first_depth, first_key, positive, maker_width, firsts_told, a_state_passes}

-- ---- small facts

pass_on : (k : ℕ) (p : State) (b : Bool) → on k (left p) ≡ b → go_pass k p ≡ pick b (go_next p) p
pass_on k root true e = absurd (false≢true e)
pass_on k root false e = refl
pass_on k (level [] above) true e = absurd (false≢true e)
pass_on k (level [] above) false e = refl
pass_on k (level (x ∷ xs) above) true e = ap (λ (b : Bool). level (pick b xs (x ∷ xs)) above) e
pass_on k (level (x ∷ xs) above) false e = ap (λ (b : Bool). level (pick b xs (x ∷ xs)) above) e

of_key_lem : (zs : List ℕ) → of_key (key_in zs) ≡ shown zs
of_key_lem [] = refl
of_key_lem (k ∷ ks) = refl

of_end_lem : (zs : List ℕ) → of_end (end_by (key_in zs)) ≡ says (not (nonempty zs))
of_end_lem [] = refl
of_end_lem (k ∷ ks) = refl

of_next : (it : LaidIter) (zs : List ℕ) → of_laid_next (next_at it (key_in zs)) ≡ shown zs
of_next it [] = refl
of_next it (k ∷ ks) = refl

sought_left : (rows : List Row) (n x : ℕ) → left (go_seek x (stands_at rows n)) ≡ from x (from n (keys_under [] rows))
unfolding from
sought_left [] n x = sym (ap (λ (zs : List ℕ). from x (from n zs)) pairs.keys_nil)
sought_left (q ∷ qs) n x = refl

risen : {b c u p : State} → Above b c u p → rises p ≡ rises u
risen one = refl
risen (more r) = refl

-- what a call leaves, and what it answers
pub record Goes (s m : ColumnTrie) (school maker : List Row) (u : State) (c : Call) (heard : Answer) (it : LaidIter) : Type 0 where
  pub answers : heard ≡ answer s.arity (laid school maker) u c
  pub stands : LaidStands s m school maker (after s.arity (laid school maker) u c) it

module _ {sp : List ℕ} {s : ColumnTrie} {mp : List ℕ} {m : ColumnTrie} {school maker : List Row} (H : Layered sp s school) (G : Layered mp m maker) (same : s.arity ≡ m.arity) (clear : tables_number sp s mp m ≡ 0) where
  abbrev L : List Row
  L = laid school maker

  abbrev OfSchool : State → ColumnTrieIter → Type 0
  OfSchool p i = Stands s.arity school p i

  abbrev OfMaker : State → ColumnTrieIter → Type 0
  OfMaker p i = Stands m.arity maker p i

  pub accepted : {u : State} {it : LaidIter} → LaidStands s m school maker u it → 0 ≡ pair_refusal sp s mp m it
  accepted {u} {it} l = unrefused sp s mp m it clear (a_state_passes H G same l)

  both_of : {u p q : State} {i j : ColumnTrieIter} → OfSchool p i → OfMaker q j → StandsFor s.arity school maker u (spec.pair p q) → LaidStands s m school maker u (pair i j)
  both_of {p = p} {q = q} w v d = record { states = spec.pair p q; of_school = w; of_maker = v; together = d }

  -- the key of two cursors among the first keys
  first_least : (n : ℕ) (i j : ColumnTrieIter) → OfSchool (stands_at school n) i → OfMaker (stands_at maker n) j → least (key_of sp s i) (key_of mp m j) ≡ key_in (from n (keys_under [] L))
  first_least n i j w v = ap₂ {C = KeyAnswer} least (first_key H n i w) (first_key G n j v) ∙ (firsts_told H G same n).least_is

  first_leads : (n : ℕ) (i j : ColumnTrieIter) → OfSchool (stands_at school n) i → OfMaker (stands_at maker n) j → (k : ℕ) (ks : List ℕ) → from n (keys_under [] L) ≡ k ∷ ks
      → (leads (key_of sp s i) (key_of mp m j) ≡ on k (left (stands_at school n))) × (leads (key_of mp m j) (key_of sp s i) ≡ on k (left (stands_at maker n)))
  first_leads n i j w v k ks e =
      let t = (firsts_told H G same n).first k ks e in (
        ap₂ {C = Bool} leads (first_key H n i w) (first_key G n j v) ∙ t.0 ∙ ap (on k) (sym (pairs.left_at school n)),
        ap₂ {C = Bool} leads (first_key G n j v) (first_key H n i w) ∙ t.1 ∙ ap (on k) (sym (pairs.left_at maker n)),
      )

  -- neither leads where no key is left
  first_none : (n : ℕ) (i j : ColumnTrieIter) → OfSchool (stands_at school n) i → OfMaker (stands_at maker n) j → from n (keys_under [] L) ≡ []
      → (leads (key_of sp s i) (key_of mp m j) ≡ false) × (leads (key_of mp m j) (key_of sp s i) ≡ false)
  first_none n i j w v e =
      let t = (firsts_told H G same n).none e in
      let a = first_key H n i w ∙ ap key_in t.0 in
      let b = first_key G n j v ∙ ap key_in t.1 in
      (ap₂ {C = Bool} leads a b, ap₂ {C = Bool} leads b a)

  module _ (it : LaidIter) where
    abbrev i : ColumnTrieIter
    i = it.school

    abbrev j : ColumnTrieIter
    j = it.maker

    -- ---- key and at_end

    pub laid_key_is : {u : State} → LaidStands s m school maker u it → laid_key_of sp s mp m it ≡ key_in (left u)
    unfolding laid_key_of
    laid_key_is {u} l = go l.together l.of_school l.of_maker
      where
        ok : 0 ≡ pair_refusal sp s mp m it
        ok = accepted l

        go : {u p q : State} → StandsFor s.arity school maker u (spec.pair p q) → OfSchool p i → OfMaker q j → laid_key_of sp s mp m it ≡ key_in (left u)
        go at_top w v =
            sym (when_both sp s mp m it no_key (key_of sp s i) (key_of mp m j) (least (key_of sp s i) (key_of mp m j)) ok refl (omega (arith, depth_at H w)) (omega (arith, depth_at G v))) ∙
            ap₂ {C = KeyAnswer} least (key_is H w) (key_is G v)
        go (at_first n e) w v =
            sym (when_both sp s mp m it no_key (key_of sp s i) (key_of mp m j) (least (key_of sp s i) (key_of mp m j)) ok refl (first_depth H n i w) (first_depth G n j v)) ∙ first_least n i j w v
        go (in_school n k e o r) w v =
            let c = pairs.c_school H.width (maker_width H G same) (positive H G same) n k e o r in
            sym (when_school sp s mp m it no_key (key_of sp s i) (key_of mp m j) (least (key_of sp s i) (key_of mp m j)) ok refl (deep_depth H n i c r w)) ∙ key_is H w ∙ ap key_in (sym (pairs.above_left r))
        go (in_maker n k e o r) w v =
            let c = pairs.c_maker H.width (maker_width H G same) (positive H G same) n k e o r in
            sym (when_maker sp s mp m it no_key (key_of sp s i) (key_of mp m j) (least (key_of sp s i) (key_of mp m j)) ok refl (first_depth H n i w) (deep_depth G n j c r v)) ∙ key_is G v ∙ ap key_in (sym (pairs.above_left r))

    pub key_goes : {u : State} → LaidStands s m school maker u it → Goes s m school maker u Key (of_key (laid_key_of sp s mp m it)) it
    key_goes {u} l = record { answers = ap of_key (laid_key_is l) ∙ of_key_lem (left u); stands = l }

    pub end_goes : {u : State} → LaidStands s m school maker u it → Goes s m school maker u AtEnd (of_end (laid_end_of sp s mp m it)) it
    unfolding laid_end_of
    end_goes {u} l = record { answers = ap (λ (k : KeyAnswer). of_end (end_by k)) (laid_key_is l) ∙ of_end_lem (left u); stands = l }

    -- ---- up

    some_rises : (n : ℕ) → nonempty L ≡ true → (rises (stands_at school n) || rises (stands_at maker n)) ≡ true
    some_rises n e = go school maker e
      where
        go : (x y : List Row) → nonempty (laid x y) ≡ true → (rises (stands_at x n) || rises (stands_at y n)) ≡ true
        go [] [] f = absurd (false≢true (ap nonempty (sym pairs.none_none) ∙ f))
        go [] (r ∷ y) f = refl
        go (q ∷ x) y f = refl

    rise_school : (n k : ℕ) {ks : List ℕ} {u p : State} (e : from n (keys_under [] L) ≡ k ∷ ks) (o : owns school k ≡ true) → Above (level (from n (keys_under [] L)) root) (stands_at school n) u p → OfSchool p i → OfMaker (stands_at maker n) j → Goes s m school maker u Up (of_laid_up (one_risen School it (up_of sp s i))) (one_risen School it (up_of sp s i)).iter
    rise_school n k {ks} {u} {p} e o r w v =
        record {
          answers = ap₂ {C = Answer} (λ (c : ℕ) (b : Bool). unless c refused (says b)) (up_at H w).0 (up_at H w).1 ∙ ap says (risen r);
          stands = both_of (up_stands H w) v (subst (λ (h : Walker). StandsFor s.arity school maker (after s.arity L u Up) (up_by h (spec.pair p (stands_at maker n)))) (pairs.walks_school H.width (maker_width H G same) (positive H G same) n k e o r) (pairs.same_place H.width (maker_width H G same) (positive H G same) (in_school n k e o r) Up));
        }

    rise_maker : (n k : ℕ) {ks : List ℕ} {u p : State} (e : from n (keys_under [] L) ≡ k ∷ ks) (o : owns school k ≡ false) → Above (level (from n (keys_under [] L)) root) (stands_at maker n) u p → OfSchool (stands_at school n) i → OfMaker p j → Goes s m school maker u Up (of_laid_up (one_risen Maker it (up_of mp m j))) (one_risen Maker it (up_of mp m j)).iter
    rise_maker n k {ks} {u} {p} e o r w v =
        record {
          answers = ap₂ {C = Answer} (λ (c : ℕ) (b : Bool). unless c refused (says b)) (up_at G v).0 (up_at G v).1 ∙ ap says (risen r);
          stands = both_of w (up_stands G v) (subst (λ (h : Walker). StandsFor s.arity school maker (after s.arity L u Up) (up_by h (spec.pair (stands_at school n) p))) (pairs.walks_maker H.width (maker_width H G same) (positive H G same) n k e o r) (pairs.same_place H.width (maker_width H G same) (positive H G same) (in_maker n k e o r) Up));
        }

    pub up_goes : {u : State} → LaidStands s m school maker u it → Goes s m school maker u Up (of_laid_up (laid_up_of sp s mp m it)) (laid_up_of sp s mp m it).iter
    unfolding laid_up_of
    up_goes {u} l = go u l.together l.of_school l.of_maker
      where
        ok : 0 ≡ pair_refusal sp s mp m it
        ok = accepted l

        go : (u : State) {p q : State} → StandsFor s.arity school maker u (spec.pair p q) → OfSchool p i → OfMaker q j → Goes s m school maker u Up (of_laid_up (laid_up_of sp s mp m it)) (laid_up_of sp s mp m it).iter
        go u at_top w v =
            subst (λ z. Goes s m school maker u Up (of_laid_up z) z.iter)
            (when_both sp s mp m it (laid_unrisen it) (one_risen School it (up_of sp s i)) (one_risen Maker it (up_of mp m j)) (both_risen (up_of sp s i) (up_of mp m j)) ok refl (omega (arith, depth_at H w)) (omega (arith, depth_at G v)))
            (record { answers = ap₂ {C = Answer} (λ (b c : Bool). says (b || c)) (up_at H w).1 (up_at G v).1; stands = both_of (up_stands H w) (up_stands G v) at_top })
        go u (at_first n e) w v =
            subst (λ z. Goes s m school maker u Up (of_laid_up z) z.iter)
            (when_both sp s mp m it (laid_unrisen it) (one_risen School it (up_of sp s i)) (one_risen Maker it (up_of mp m j)) (both_risen (up_of sp s i) (up_of mp m j)) ok refl (first_depth H n i w) (first_depth G n j v))
            (record { answers = ap₂ {C = Answer} (λ (b c : Bool). says (b || c)) (up_at H w).1 (up_at G v).1 ∙ ap says (some_rises n e); stands = both_of (subst (λ (p : State). OfSchool p (up_of sp s i).iter) (pairs.up_at school n) (up_stands H w)) (subst (λ (p : State). OfMaker p (up_of mp m j).iter) (pairs.up_at maker n) (up_stands G v)) at_top })
        go u (in_school n k e o r) w v =
            let c = pairs.c_school H.width (maker_width H G same) (positive H G same) n k e o r in
            subst (λ z. Goes s m school maker u Up (of_laid_up z) z.iter)
            (when_school sp s mp m it (laid_unrisen it) (one_risen School it (up_of sp s i)) (one_risen Maker it (up_of mp m j)) (both_risen (up_of sp s i) (up_of mp m j)) ok refl (deep_depth H n i c r w))
            (rise_school n k e o r w v)
        go u (in_maker n k e o r) w v =
            let c = pairs.c_maker H.width (maker_width H G same) (positive H G same) n k e o r in
            subst (λ z. Goes s m school maker u Up (of_laid_up z) z.iter)
            (when_maker sp s mp m it (laid_unrisen it) (one_risen School it (up_of sp s i)) (one_risen Maker it (up_of mp m j)) (both_risen (up_of sp s i) (up_of mp m j)) ok refl (first_depth H n i w) (deep_depth G n j c r v))
            (rise_maker n k e o r w v)

    -- ---- seek

    seek_school : (x : SeekStrategy) (t : ℕ) → (n k : ℕ) {ks : List ℕ} {u p : State} (e : from n (keys_under [] L) ≡ k ∷ ks) (o : owns school k ≡ true) → Above (level (from n (keys_under [] L)) root) (stands_at school n) u p → OfSchool p i → OfMaker (stands_at maker n) j → Goes s m school maker u (Seek x t) (of_laid_seek (one_sought School it (sought_of sp s i x t))) (one_sought School it (sought_of sp s i x t)).iter
    seek_school x t n k {ks} {u} {p} e o r w v =
        record {
          answers = ap₂ {C = Answer} (λ (c : ℕ) (b : Bool). unless c refused (says b)) (seek_at H w x t).0 (seek_at H w x t).1 ∙ ap (λ (zs : List ℕ). says (nonempty zs)) (sym (pairs.above_left (pairs.above_seek H.width (maker_width H G same) (positive H G same) t r)));
          stands = both_of (seek_stands H w x t) v (subst (λ (h : Walker). StandsFor s.arity school maker (after s.arity L u (Seek x t)) (seek_by t h (spec.pair p (stands_at maker n)))) (pairs.walks_school H.width (maker_width H G same) (positive H G same) n k e o r) (pairs.same_place H.width (maker_width H G same) (positive H G same) (in_school n k e o r) (Seek x t)));
        }

    seek_maker : (x : SeekStrategy) (t : ℕ) → (n k : ℕ) {ks : List ℕ} {u p : State} (e : from n (keys_under [] L) ≡ k ∷ ks) (o : owns school k ≡ false) → Above (level (from n (keys_under [] L)) root) (stands_at maker n) u p → OfSchool (stands_at school n) i → OfMaker p j → Goes s m school maker u (Seek x t) (of_laid_seek (one_sought Maker it (sought_of mp m j x t))) (one_sought Maker it (sought_of mp m j x t)).iter
    seek_maker x t n k {ks} {u} {p} e o r w v =
        record {
          answers = ap₂ {C = Answer} (λ (c : ℕ) (b : Bool). unless c refused (says b)) (seek_at G v x t).0 (seek_at G v x t).1 ∙ ap (λ (zs : List ℕ). says (nonempty zs)) (sym (pairs.above_left (pairs.above_seek H.width (maker_width H G same) (positive H G same) t r)));
          stands = both_of w (seek_stands G v x t) (subst (λ (h : Walker). StandsFor s.arity school maker (after s.arity L u (Seek x t)) (seek_by t h (spec.pair (stands_at school n) p))) (pairs.walks_maker H.width (maker_width H G same) (positive H G same) n k e o r) (pairs.same_place H.width (maker_width H G same) (positive H G same) (in_maker n k e o r) (Seek x t)));
        }

    some_sought : (n t : ℕ) → (nonempty (left (go_seek t (stands_at school n))) || nonempty (left (go_seek t (stands_at maker n)))) ≡ nonempty (from t (from n (keys_under [] L)))
    some_sought n t =
        let xs = from n (keys_under [] school) in
        let ys = from n (keys_under [] maker) in
        let up = from_ascends n (pairs.up_s H.width (maker_width H G same) (positive H G same)) in
        let vp = from_ascends n (pairs.up_m H.width (maker_width H G same) (positive H G same)) in
        ap₂ {C = Bool} (λ (f g : List ℕ). nonempty f || nonempty g) (sought_left school n t) (sought_left maker n t) ∙
        (told (from t xs) (from t ys) (from_ascends t up) (from_ascends t vp)).some ∙
        ap nonempty (merge_from t up vp ∙ ap (from t) (pairs.both_at H.width (maker_width H G same) (positive H G same) n))

    pub seek_goes : (x : SeekStrategy) (t : ℕ) → {u : State} → LaidStands s m school maker u it → Goes s m school maker u (Seek x t) (of_laid_seek (laid_sought_of sp s mp m it x t)) (laid_sought_of sp s mp m it x t).iter
    unfolding laid_sought_of
    seek_goes x t {u} l = go u l.together l.of_school l.of_maker
      where
        ok : 0 ≡ pair_refusal sp s mp m it
        ok = accepted l

        go : (u : State) {p q : State} → StandsFor s.arity school maker u (spec.pair p q) → OfSchool p i → OfMaker q j → Goes s m school maker u (Seek x t) (of_laid_seek (laid_sought_of sp s mp m it x t)) (laid_sought_of sp s mp m it x t).iter
        go u at_top w v =
            subst (λ z. Goes s m school maker u (Seek x t) (of_laid_seek z) z.iter)
            (when_both sp s mp m it (laid_unsought it) (one_sought School it (sought_of sp s i x t)) (one_sought Maker it (sought_of mp m j x t)) (both_sought (sought_of sp s i x t) (sought_of mp m j x t)) ok refl (omega (arith, depth_at H w)) (omega (arith, depth_at G v)))
            (record { answers = ap₂ {C = Answer} (λ (b c : Bool). says (b || c)) (seek_at H w x t).1 (seek_at G v x t).1; stands = both_of (seek_stands H w x t) (seek_stands G v x t) at_top })
        go u (at_first n e) w v =
            subst (λ z. Goes s m school maker u (Seek x t) (of_laid_seek z) z.iter)
            (when_both sp s mp m it (laid_unsought it) (one_sought School it (sought_of sp s i x t)) (one_sought Maker it (sought_of mp m j x t)) (both_sought (sought_of sp s i x t) (sought_of mp m j x t)) ok refl (first_depth H n i w) (first_depth G n j v))
            (record { answers = ap₂ {C = Answer} (λ (b c : Bool). says (b || c)) (seek_at H w x t).1 (seek_at G v x t).1 ∙ ap says (some_sought n t); stands = both_of (seek_stands H w x t) (seek_stands G v x t) (subst (λ (h : Walker). StandsFor s.arity school maker (go_seek t (level (from n (keys_under [] L)) root)) (seek_by t h (spec.pair (stands_at school n) (stands_at maker n)))) (pairs.walks_first school maker n e) (pairs.seek_first H.width (maker_width H G same) (positive H G same) t n e)) })
        go u (in_school n k e o r) w v =
            let c = pairs.c_school H.width (maker_width H G same) (positive H G same) n k e o r in
            subst (λ z. Goes s m school maker u (Seek x t) (of_laid_seek z) z.iter)
            (when_school sp s mp m it (laid_unsought it) (one_sought School it (sought_of sp s i x t)) (one_sought Maker it (sought_of mp m j x t)) (both_sought (sought_of sp s i x t) (sought_of mp m j x t)) ok refl (deep_depth H n i c r w))
            (seek_school x t n k e o r w v)
        go u (in_maker n k e o r) w v =
            let c = pairs.c_maker H.width (maker_width H G same) (positive H G same) n k e o r in
            subst (λ z. Goes s m school maker u (Seek x t) (of_laid_seek z) z.iter)
            (when_maker sp s mp m it (laid_unsought it) (one_sought School it (sought_of sp s i x t)) (one_sought Maker it (sought_of mp m j x t)) (both_sought (sought_of sp s i x t) (sought_of mp m j x t)) ok refl (first_depth H n i w) (deep_depth G n j c r v))
            (seek_maker x t n k e o r w v)

    -- ---- next

    next_school : (n k : ℕ) {ks : List ℕ} {u p : State} (e : from n (keys_under [] L) ≡ k ∷ ks) (o : owns school k ≡ true) → Above (level (from n (keys_under [] L)) root) (stands_at school n) u p → OfSchool p i → OfMaker (stands_at maker n) j → Goes s m school maker u Next (of_laid_next (one_next School it (next_of sp s i))) (one_next School it (next_of sp s i)).iter
    next_school n k {ks} {u} {p} e o r w v =
        record {
          answers = next_answers H w ∙ ap shown (sym (pairs.above_left (pairs.above_next H.width (maker_width H G same) (positive H G same) r)));
          stands = both_of (next_stands H w) v (subst (λ (h : Walker). StandsFor s.arity school maker (after s.arity L u Next) (next_by h (spec.pair p (stands_at maker n)))) (pairs.walks_school H.width (maker_width H G same) (positive H G same) n k e o r) (pairs.same_place H.width (maker_width H G same) (positive H G same) (in_school n k e o r) Next));
        }

    next_maker : (n k : ℕ) {ks : List ℕ} {u p : State} (e : from n (keys_under [] L) ≡ k ∷ ks) (o : owns school k ≡ false) → Above (level (from n (keys_under [] L)) root) (stands_at maker n) u p → OfSchool (stands_at school n) i → OfMaker p j → Goes s m school maker u Next (of_laid_next (one_next Maker it (next_of mp m j))) (one_next Maker it (next_of mp m j)).iter
    next_maker n k {ks} {u} {p} e o r w v =
        record {
          answers = next_answers G v ∙ ap shown (sym (pairs.above_left (pairs.above_next H.width (maker_width H G same) (positive H G same) r)));
          stands = both_of w (next_stands G v) (subst (λ (h : Walker). StandsFor s.arity school maker (after s.arity L u Next) (next_by h (spec.pair (stands_at school n) p))) (pairs.walks_maker H.width (maker_width H G same) (positive H G same) n k e o r) (pairs.same_place H.width (maker_width H G same) (positive H G same) (in_maker n k e o r) Next));
        }

    -- each passes the present key, where it is its own
    passes_school : (n k : ℕ) {ks : List ℕ} → from n (keys_under [] L) ≡ k ∷ ks → OfSchool (stands_at school n) i → {b : Bool} → b ≡ on k (left (stands_at school n)) → OfSchool (stands_at school (suc k)) (pass_if b sp s i)
    passes_school n k e w {b} f =
        subst (λ (p : State). OfSchool p (pass_if b sp s i)) (sym (pass_on k (stands_at school n) b (sym f)) ∙ pairs.passes H.width (maker_width H G same) (positive H G same) n k e school (pairs.up_s H.width (maker_width H G same) (positive H G same)) (pairs.least_s H.width (maker_width H G same) (positive H G same) n k e)) (go b)
      where
        go : (c : Bool) → OfSchool (pick c (go_next (stands_at school n)) (stands_at school n)) (pass_if c sp s i)
        go true = next_stands H w
        go false = w

    passes_maker : (n k : ℕ) {ks : List ℕ} → from n (keys_under [] L) ≡ k ∷ ks → OfMaker (stands_at maker n) j → {b : Bool} → b ≡ on k (left (stands_at maker n)) → OfMaker (stands_at maker (suc k)) (pass_if b mp m j)
    passes_maker n k e v {b} f =
        subst (λ (p : State). OfMaker p (pass_if b mp m j)) (sym (pass_on k (stands_at maker n) b (sym f)) ∙ pairs.passes H.width (maker_width H G same) (positive H G same) n k e maker (pairs.up_m H.width (maker_width H G same) (positive H G same)) (pairs.least_m H.width (maker_width H G same) (positive H G same) n k e)) (go b)
      where
        go : (c : Bool) → OfMaker (pick c (go_next (stands_at maker n)) (stands_at maker n)) (pass_if c mp m j)
        go true = next_stands G v
        go false = v

    next_first : (n : ℕ) → nonempty L ≡ true → OfSchool (stands_at school n) i → OfMaker (stands_at maker n) j → Goes s m school maker (level (from n (keys_under [] L)) root) Next (of_laid_next (both_next sp s mp m it)) (both_next sp s mp m it).iter
    unfolding both_next
    next_first n e w v = go (from n (keys_under [] L)) refl
      where
        go : (zs : List ℕ) → from n (keys_under [] L) ≡ zs → Goes s m school maker (level zs root) Next (of_laid_next (both_next sp s mp m it)) (both_next sp s mp m it).iter
        go [] q =
            let z = first_none n i j w v q in
            let same_pair : pair i j ≡ next_pair sp s mp m it = sym (ap₂ {C = LaidIter} (λ (b c : Bool). pair (pass_if b sp s i) (pass_if c mp m j)) z.0 z.1) in
            subst (λ (x : LaidIter). Goes s m school maker (level [] root) Next (of_laid_next (next_at x (least (key_of sp s x.school) (key_of mp m x.maker)))) x) same_pair
            (record {
              answers = ap (λ (x : KeyAnswer). of_laid_next (next_at (pair i j) x)) (first_least n i j w v ∙ ap key_in q);
              stands = both_of w v (subst (λ (zs : List ℕ). StandsFor s.arity school maker (level zs root) (spec.pair (stands_at school n) (stands_at maker n))) q (at_first n e));
            })
        go (k ∷ ks) q =
            let f = first_leads n i j w v k ks q in
            let a = passes_school n k q w f.0 in
            let b = passes_maker n k q v f.1 in
            let x = next_pair sp s mp m it in
            let r : ks ≡ from (suc k) (keys_under [] L) = pairs.rest_is H.width (maker_width H G same) (positive H G same) n k q in
            record {
              answers = ap (λ (y : KeyAnswer). of_laid_next (next_at x y)) (first_least (suc k) x.school x.maker a b) ∙ of_next x (from (suc k) (keys_under [] L)) ∙ ap shown (sym r);
              stands = both_of a b (subst (λ (zs : List ℕ). StandsFor s.arity school maker (level zs root) (spec.pair (stands_at school (suc k)) (stands_at maker (suc k)))) (sym r) (at_first (suc k) e));
            }

    next_top : OfSchool root i → OfMaker root j → Goes s m school maker root Next (of_laid_next (both_next sp s mp m it)) (both_next sp s mp m it).iter
    unfolding both_next
    next_top w v =
        let a = key_is H w in
        let b = key_is G v in
        let same_pair : pair i j ≡ next_pair sp s mp m it = sym (ap₂ {C = LaidIter} (λ (y z : KeyAnswer). pair (pass_if (leads y z) sp s i) (pass_if (leads z y) mp m j)) a b) in
        subst (λ (x : LaidIter). Goes s m school maker root Next (of_laid_next (next_at x (least (key_of sp s x.school) (key_of mp m x.maker)))) x) same_pair
        (record { answers = ap₂ {C = Answer} (λ (y z : KeyAnswer). of_laid_next (next_at (pair i j) (least y z))) a b; stands = both_of w v at_top })

    pub next_goes : {u : State} → LaidStands s m school maker u it → Goes s m school maker u Next (of_laid_next (laid_next_of sp s mp m it)) (laid_next_of sp s mp m it).iter
    unfolding laid_next_of
    next_goes {u} l = go u l.together l.of_school l.of_maker
      where
        ok : 0 ≡ pair_refusal sp s mp m it
        ok = accepted l

        go : (u : State) {p q : State} → StandsFor s.arity school maker u (spec.pair p q) → OfSchool p i → OfMaker q j → Goes s m school maker u Next (of_laid_next (laid_next_of sp s mp m it)) (laid_next_of sp s mp m it).iter
        go u at_top w v =
            subst (λ z. Goes s m school maker u Next (of_laid_next z) z.iter)
            (when_both sp s mp m it (laid_unmoved it) (one_next School it (next_of sp s i)) (one_next Maker it (next_of mp m j)) (both_next sp s mp m it) ok refl (omega (arith, depth_at H w)) (omega (arith, depth_at G v)))
            (next_top w v)
        go u (at_first n e) w v =
            subst (λ z. Goes s m school maker u Next (of_laid_next z) z.iter)
            (when_both sp s mp m it (laid_unmoved it) (one_next School it (next_of sp s i)) (one_next Maker it (next_of mp m j)) (both_next sp s mp m it) ok refl (first_depth H n i w) (first_depth G n j v))
            (next_first n e w v)
        go u (in_school n k e o r) w v =
            let c = pairs.c_school H.width (maker_width H G same) (positive H G same) n k e o r in
            subst (λ z. Goes s m school maker u Next (of_laid_next z) z.iter)
            (when_school sp s mp m it (laid_unmoved it) (one_next School it (next_of sp s i)) (one_next Maker it (next_of mp m j)) (both_next sp s mp m it) ok refl (deep_depth H n i c r w))
            (next_school n k e o r w v)
        go u (in_maker n k e o r) w v =
            let c = pairs.c_maker H.width (maker_width H G same) (positive H G same) n k e o r in
            subst (λ z. Goes s m school maker u Next (of_laid_next z) z.iter)
            (when_maker sp s mp m it (laid_unmoved it) (one_next School it (next_of sp s i)) (one_next Maker it (next_of mp m j)) (both_next sp s mp m it) ok refl (first_depth H n i w) (deep_depth G n j c r v))
            (next_maker n k e o r w v)

    -- ---- open

    -- the maker's open, by the arity that both have
    maker_opens : {p : State} → OfMaker p j → (open_of mp m j).opened ≡ opens s.arity maker p
    maker_opens {p} v = (open_at G v).1 ∙ ap (λ (a : ℕ). opens a maker p) (sym same)

    maker_down : {p : State} → OfMaker p j → OfMaker (go_down s.arity maker p) (open_of mp m j).iter
    maker_down {p} v = subst (λ (a : ℕ). OfMaker (go_down a maker p) (open_of mp m j).iter) (sym same) (open_stands G v)

    open_school : (n k : ℕ) {ks : List ℕ} {u p : State} (e : from n (keys_under [] L) ≡ k ∷ ks) (o : owns school k ≡ true) → Above (level (from n (keys_under [] L)) root) (stands_at school n) u p → OfSchool p i → OfMaker (stands_at maker n) j → Goes s m school maker u Open (of_laid_open (one_opened School it (open_of sp s i))) (one_opened School it (open_of sp s i)).iter
    open_school n k {ks} {u} {p} e o r w v =
        record {
          answers = ap₂ {C = Answer} (λ (c : ℕ) (b : Bool). unless c refused (says b)) (open_at H w).0 (open_at H w).1 ∙ ap says (pairs.opens_school H.width (maker_width H G same) (positive H G same) n k e o r);
          stands = both_of (open_stands H w) v (subst (λ (h : Walker). StandsFor s.arity school maker (after s.arity L u Open) (open_by s.arity school maker (opener h (spec.pair p (stands_at maker n))) (spec.pair p (stands_at maker n)))) (pairs.walks_school H.width (maker_width H G same) (positive H G same) n k e o r) (pairs.same_place H.width (maker_width H G same) (positive H G same) (in_school n k e o r) Open));
        }

    open_maker : (n k : ℕ) {ks : List ℕ} {u p : State} (e : from n (keys_under [] L) ≡ k ∷ ks) (o : owns school k ≡ false) → Above (level (from n (keys_under [] L)) root) (stands_at maker n) u p → OfSchool (stands_at school n) i → OfMaker p j → Goes s m school maker u Open (of_laid_open (one_opened Maker it (open_of mp m j))) (one_opened Maker it (open_of mp m j)).iter
    open_maker n k {ks} {u} {p} e o r w v =
        record {
          answers = ap₂ {C = Answer} (λ (c : ℕ) (b : Bool). unless c refused (says b)) (open_at G v).0 (maker_opens v) ∙ ap says (pairs.opens_maker H.width (maker_width H G same) (positive H G same) n k e o r);
          stands = both_of w (maker_down v) (subst (λ (h : Walker). StandsFor s.arity school maker (after s.arity L u Open) (open_by s.arity school maker (opener h (spec.pair (stands_at school n) p)) (spec.pair (stands_at school n) p))) (pairs.walks_maker H.width (maker_width H G same) (positive H G same) n k e o r) (pairs.same_place H.width (maker_width H G same) (positive H G same) (in_maker n k e o r) Open));
        }

    open_top : OfSchool root i → OfMaker root j → Goes s m school maker root Open (of_laid_open (first_opened sp s mp m it)) (first_opened sp s mp m it).iter
    open_top w v =
        subst (λ z. Goes s m school maker root Open (of_laid_open z) z.iter)
        (opens_both sp s mp m it (ap₂ {C = Bool} (λ (b c : Bool). b && c) (eq-eqb i.depth 0 (depth_at H w)) (eq-eqb j.depth 0 (depth_at G v))))
        (record {
          answers = ap₂ {C = Answer} (λ (b c : Bool). says (b || c)) (open_at H w).1 (maker_opens v) ∙ ap says (sym (pairs.opens_top H.width (maker_width H G same) (positive H G same)));
          stands = both_of (open_stands H w) (maker_down v) (pairs.open_top H.width (maker_width H G same) (positive H G same));
        })

    -- among the first keys one of the two is below the root
    unrooted : (n : ℕ) → nonempty L ≡ true → OfSchool (stands_at school n) i → OfMaker (stands_at maker n) j → pair_at_root it ≡ false
    unrooted n e w v = go school maker e w v
      where
        go : (x y : List Row) → nonempty (laid x y) ≡ true → OfSchool (stands_at x n) i → OfMaker (stands_at y n) j → pair_at_root it ≡ false
        go [] [] f w v = absurd (false≢true (ap nonempty (sym pairs.none_none) ∙ f))
        go [] (r ∷ y) f w v = and_false_right (eqb i.depth 0) (eqb j.depth 0) (ne_eqb j.depth 0 (λ z. omega (arith, depth_at G v)))
        go (q ∷ x) y f w v = and_false_left (eqb i.depth 0) (eqb j.depth 0) (ne_eqb i.depth 0 (λ z. omega (arith, depth_at H w)))

    -- at its end a table's iterator opens nothing
    ended : (a : ℕ) (rows : List Row) (n : ℕ) → from n (keys_under [] rows) ≡ [] → opens a rows (stands_at rows n) ≡ false
    ended a [] n e = and_false_right (ltb 0 a) false refl
    ended a (q ∷ qs) n e = ap (λ (zs : List ℕ). ltb 1 a && nonempty zs) e ∙ and_false_right (ltb 1 a) false refl

    open_first : (n : ℕ) → nonempty L ≡ true → OfSchool (stands_at school n) i → OfMaker (stands_at maker n) j → Goes s m school maker (level (from n (keys_under [] L)) root) Open (of_laid_open (first_opened sp s mp m it)) (first_opened sp s mp m it).iter
    open_first n e w v = go (from n (keys_under [] L)) refl
      where
        by : (k : ℕ) (ks : List ℕ) → from n (keys_under [] L) ≡ k ∷ ks → (b : Bool) → owns school k ≡ b → Goes s m school maker (level (from n (keys_under [] L)) root) Open (of_laid_open (first_opened sp s mp m it)) (first_opened sp s mp m it).iter
        by k ks q true o =
            let l = (first_leads n i j w v k ks q).0 ∙ pairs.on_owns H.width (maker_width H G same) (positive H G same) n k q ∙ o in
            let d = pairs.on_school H.width (maker_width H G same) (positive H G same) n k q o in
            subst (λ z. Goes s m school maker (level (from n (keys_under [] L)) root) Open (of_laid_open z) z.iter) (opens_school sp s mp m it (unrooted n e w v) l)
            (record {
              answers =
                  ap₂ {C = Answer} (λ (c : ℕ) (b : Bool). unless c refused (says b)) (open_at H w).0 (open_at H w).1 ∙
                  ap says (ap (opens s.arity school) (pairs.at_level school n k d) ∙ pairs.opens_level s.arity school k (from n (keys_under [] school)) d ∙ sym (pairs.opens_level s.arity L k (from n (keys_under [] L)) (pairs.on_laid H.width (maker_width H G same) (positive H G same) n k q)));
              stands = both_of (open_stands H w) v (pairs.down_school H.width (maker_width H G same) (positive H G same) n k q o);
            })
        by k ks q false o =
            let l = (first_leads n i j w v k ks q).0 ∙ pairs.on_owns H.width (maker_width H G same) (positive H G same) n k q ∙ o in
            let d = pairs.on_maker H.width (maker_width H G same) (positive H G same) n k q o in
            subst (λ z. Goes s m school maker (level (from n (keys_under [] L)) root) Open (of_laid_open z) z.iter) (opens_maker sp s mp m it (unrooted n e w v) l)
            (record {
              answers =
                  ap₂ {C = Answer} (λ (c : ℕ) (b : Bool). unless c refused (says b)) (open_at G v).0 (maker_opens v) ∙
                  ap says (ap (opens s.arity maker) (pairs.at_level maker n k d) ∙ pairs.opens_level s.arity maker k (from n (keys_under [] maker)) d ∙ sym (pairs.opens_level s.arity L k (from n (keys_under [] L)) (pairs.on_laid H.width (maker_width H G same) (positive H G same) n k q)));
              stands = both_of w (maker_down v) (pairs.down_maker H.width (maker_width H G same) (positive H G same) n k q o);
            })

        go : (zs : List ℕ) → from n (keys_under [] L) ≡ zs → Goes s m school maker (level (from n (keys_under [] L)) root) Open (of_laid_open (first_opened sp s mp m it)) (first_opened sp s mp m it).iter
        go [] q =
            let z = (firsts_told H G same n).none q in
            let f : opens s.arity maker (stands_at maker n) ≡ false = ended s.arity maker n z.1 in
            let g : opens s.arity L (level (from n (keys_under [] L)) root) ≡ false = ap (λ (zs : List ℕ). ltb 1 s.arity && nonempty zs) q ∙ and_false_right (ltb 1 s.arity) false refl in
            subst (λ z. Goes s m school maker (level (from n (keys_under [] L)) root) Open (of_laid_open z) z.iter) (opens_maker sp s mp m it (unrooted n e w v) (first_none n i j w v q).0)
            (record {
              answers = ap₂ {C = Answer} (λ (c : ℕ) (b : Bool). unless c refused (says b)) (open_at G v).0 (maker_opens v) ∙ ap says (f ∙ sym g);
              stands =
                  both_of w (subst (λ (b : Bool). OfMaker (pick b (level (keys_under (path (stands_at maker n)) maker) (stands_at maker n)) (stands_at maker n)) (open_of mp m j).iter) f (maker_down v))
                  (subst (λ (b : Bool). StandsFor s.arity school maker (pick b (level (keys_under (path (level (from n (keys_under [] L)) root)) L) (level (from n (keys_under [] L)) root)) (level (from n (keys_under [] L)) root)) (spec.pair (stands_at school n) (stands_at maker n))) (sym g) (at_first n e));
            })
        go (k ∷ ks) q = by k ks q (owns school k) refl

    pub open_goes : {u : State} → LaidStands s m school maker u it → Goes s m school maker u Open (of_laid_open (laid_open_of sp s mp m it)) (laid_open_of sp s mp m it).iter
    unfolding laid_open_of
    open_goes {u} l = go u l.together l.of_school l.of_maker
      where
        ok : 0 ≡ pair_refusal sp s mp m it
        ok = accepted l

        go : (u : State) {p q : State} → StandsFor s.arity school maker u (spec.pair p q) → OfSchool p i → OfMaker q j → Goes s m school maker u Open (of_laid_open (laid_open_of sp s mp m it)) (laid_open_of sp s mp m it).iter
        go u at_top w v =
            subst (λ z. Goes s m school maker u Open (of_laid_open z) z.iter)
            (when_both sp s mp m it (laid_unopened it) (one_opened School it (open_of sp s i)) (one_opened Maker it (open_of mp m j)) (first_opened sp s mp m it) ok refl (omega (arith, depth_at H w)) (omega (arith, depth_at G v)))
            (open_top w v)
        go u (at_first n e) w v =
            subst (λ z. Goes s m school maker u Open (of_laid_open z) z.iter)
            (when_both sp s mp m it (laid_unopened it) (one_opened School it (open_of sp s i)) (one_opened Maker it (open_of mp m j)) (first_opened sp s mp m it) ok refl (first_depth H n i w) (first_depth G n j v))
            (open_first n e w v)
        go u (in_school n k e o r) w v =
            let c = pairs.c_school H.width (maker_width H G same) (positive H G same) n k e o r in
            subst (λ z. Goes s m school maker u Open (of_laid_open z) z.iter)
            (when_school sp s mp m it (laid_unopened it) (one_opened School it (open_of sp s i)) (one_opened Maker it (open_of mp m j)) (first_opened sp s mp m it) ok refl (deep_depth H n i c r w))
            (open_school n k e o r w v)
        go u (in_maker n k e o r) w v =
            let c = pairs.c_maker H.width (maker_width H G same) (positive H G same) n k e o r in
            subst (λ z. Goes s m school maker u Open (of_laid_open z) z.iter)
            (when_maker sp s mp m it (laid_unopened it) (one_opened School it (open_of sp s i)) (one_opened Maker it (open_of mp m j)) (first_opened sp s mp m it) ok refl (first_depth H n i w) (deep_depth G n j c r v))
            (open_maker n k e o r w v)
