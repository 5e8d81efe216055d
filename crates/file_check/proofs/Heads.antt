-- The head of a file, by its bytes.
use Prim.Native.Nat.{ℕ, zero, suc, ◌+◌, ◌<◌, ◌≤◌}
use mathlib.Core.Path.{◌≡◌, refl, sym, ap, ap₂, ◌∙◌, subst}
use mathlib.Core.Bool.{Bool, true, false, ◌&&◌, ◌||◌, not}
use mathlib.Core.List.{List, [], ◌∷◌, ◌++◌, map, append_assoc}
use native.Mathlib.Omega.{arith}
use lib.ListN.{length, take, drop, get_or, replicate, length-append, length-drop, length-map, length-replicate, take-append-drop}
use lib.Dec.{eqb, leb}
use lib.Seq.{drop-drop, drop-cons, length-take-le, take_at, drop_at}
use borrow.Author.Tests.{eq-eqb, ne_eqb, lt-leb}
use Rattle.std.specs.Prelude.{Some, None}
use Rattle.std.specs.List.{list_all, list_any}
use Rattle.relation.specs.Order.{pick}
use Rattle.relation.specs.Rows.{same}
use Rattle.relation.proofs.Tests.{and_left, and_right, and_true, and_false_left, or_right, not_both}
use Rattle.column_trie.specs.Table.{arity_ok}
use Rattle.table_file.specs.Bytes.{bytes_of, number, begins, Bytes}
use Rattle.table_file.specs.File.{kind_byte, graded, head, kinds_read, head_ok}
use Rattle.file_check.specs.Checks.{kinds_ok, head_len}
use Rattle.table_file.proofs.Numbers.{top, length_bytes_of, number_bytes, bytes_number, bytes_drop, begins_append, begins_true}
use Rattle.table_file.proofs.Fields.{same_true, same_is}
use Rattle.table_file.proofs.Laws.{head_graded, head_plain, kinds_graded, kinds_plain, head_ok_lem, head_tests}

abbrev pub ones : List ℕ → List Bool
ones bs = map (λ b. eqb b 1) bs

-- ---- kinds, byte by byte

low_is : (b : ℕ) (x : Bool) → (leb b 1 && x) ≡ pick (eqb b (kind_byte (eqb b 1))) x false
low_is zero x = refl
low_is (suc zero) x = refl
low_is (suc (suc b)) x =
    let n : eqb (suc (suc b)) 1 ≡ false = ne_eqb (suc (suc b)) 1 (λ e. omega arith) in
    let z : eqb (suc (suc b)) 0 ≡ false = ne_eqb (suc (suc b)) 0 (λ e. omega arith) in
    ap (λ (y : Bool). y && x) (lt-leb (suc (suc b)) 1 (omega arith)) ∙ sym (ap (λ (y : Bool). pick (eqb (suc (suc b)) (kind_byte y)) x false) n ∙ ap (λ (y : Bool). pick y x false) z)

-- each is 0 or 1, and some is 1: as the library tests it
pub all_low : (bs : List ℕ) → list_all (λ b. leb b 1) bs ≡ same bs (map kind_byte (ones bs))
unfolding same
all_low [] = refl
all_low (b ∷ bs) = ap (λ (x : Bool). leb b 1 && x) (all_low bs) ∙ low_is b (same bs (map kind_byte (ones bs)))

pub some_one : (bs : List ℕ) → list_any (λ b. eqb b 1) bs ≡ graded (ones bs)
unfolding graded
some_one [] = refl
some_one (b ∷ bs) = ap (λ (x : Bool). eqb b 1 || x) (some_one bs)

module _ (bs : List ℕ) {low : Bool} (h : low ≡ list_all (λ b. leb b 1) bs) where
  pub kinds_low : {one : Bool} → low ≡ true → one ≡ list_any (λ b. eqb b 1) bs → one ≡ kinds_ok bs
  unfolding kinds_ok
  kinds_low t e = e ∙ some_one bs ∙ sym (ap (λ (x : Bool). x && graded (ones bs)) (sym (all_low bs) ∙ sym h ∙ t))

  pub kinds_high : low ≡ false → low ≡ kinds_ok bs
  unfolding kinds_ok
  kinds_high f = f ∙ sym (and_false_left (same bs (map kind_byte (ones bs))) (graded (ones bs)) (sym (all_low bs) ∙ sym h ∙ f))

-- ---- the head

no_grades : (a : ℕ) → graded (replicate a false) ≡ false
unfolding graded
no_grades zero = refl
no_grades (suc a) = no_grades a

small : {a : ℕ} → a ≤ 8 → a < top 2
unfolding top
small h = omega arith

module _ (bs : List ℕ) (b : Bytes bs) where
  abbrev arity : ℕ
  arity = get_or bs 3 0

  abbrev kinds : List Bool
  kinds = kinds_read (get_or bs 3 0) bs

  len_some : head_ok arity kinds bs ≡ true → head_len bs ≡ Some (length (head arity kinds))
  unfolding head_len
  len_some h = simp (head_len, h)

  pub len_none : (head_ok arity kinds bs ≡ true → ⊥) → head_len bs ≡ None
  unfolding head_len
  len_none n = go (head_ok arity kinds bs) refl
    where
      go : (x : Bool) → head_ok arity kinds bs ≡ x → head_len bs ≡ None
      go true h = absurd (n h)
      go false h = simp (head_len, h)

  -- what a head's bytes are
  head_long : head_ok arity kinds bs ≡ true → 4 ≤ length bs
  unfolding head bytes_of
  head_long h = omega (arith, ap length (begins_true (head arity kinds) bs (head_tests arity kinds bs h).3))

  head_first : head_ok arity kinds bs ≡ true → take 3 bs ≡ 1 ∷ (0 ∷ (1 ∷ []))
  unfolding head bytes_of
  head_first h = ap (take 3) (begins_true (head arity kinds) bs (head_tests arity kinds bs h).3)

  pub no_short : length bs < 4 → head_len bs ≡ None
  no_short h = len_none (λ k. omega (arith, head_long k))

  pub no_first : (take 3 bs ≡ 1 ∷ (0 ∷ (1 ∷ [])) → ⊥) → head_len bs ≡ None
  no_first n = len_none (λ k. n (head_first k))

  pub no_arity : arity_ok arity ≡ false → head_len bs ≡ None
  no_arity h = len_none (λ k. not_both (arity_ok arity) (head_tests arity kinds bs k).0 h)

  front : 4 ≤ length bs → take 3 bs ≡ 1 ∷ (0 ∷ (1 ∷ [])) → bs ≡ 1 ∷ (0 ∷ (1 ∷ (arity ∷ drop 4 bs)))
  front l h = sym (take-append-drop 3 bs) ∙ ap₂ {C = List ℕ} ◌++◌ h (drop-cons bs 3 0 (omega arith))

  pub plain_head : 4 ≤ length bs → take 3 bs ≡ 1 ∷ (0 ∷ (1 ∷ [])) → arity_ok arity ≡ true → (get_or bs 4 0 ≡ 4 → ⊥) → head_len bs ≡ Some 4
  plain_head l h p n =
      let e : kinds ≡ replicate arity false = kinds_plain arity bs n in
      let g : graded kinds ≡ false = ap graded e ∙ no_grades arity in
      let q : head arity kinds ≡ 1 ∷ (0 ∷ (1 ∷ (arity ∷ []))) = head_plain arity kinds g in
      let k : begins (head arity kinds) bs ≡ true = subst (λ (z : List ℕ). begins z bs ≡ true) (sym q) (subst (λ (z : List ℕ). begins (1 ∷ (0 ∷ (1 ∷ (arity ∷ [])))) z ≡ true) (sym (front l h)) (begins_append (1 ∷ (0 ∷ (1 ∷ (arity ∷ [])))) (drop 4 bs))) in
      let o = head_ok_lem arity kinds bs p (ap length e ∙ length-replicate arity false) (or_right (graded kinds) (not (eqb (get_or bs 4 0) 4)) (ap not (ne_eqb (get_or bs 4 0) 4 n))) k in
      len_some o ∙ ap (λ (z : List ℕ). Some (length z)) q

  module _ (four : get_or bs 4 0 ≡ 4) where
    abbrev kb : List ℕ
    kb = take arity (drop 7 bs)

    is_kinds : kinds ≡ ones kb
    is_kinds = kinds_graded arity bs four

    -- a head with kinds
    record Graded : Type 0 where
      pub long : 7 + arity ≤ length bs
      pub size : number 2 (drop 5 bs) ≡ arity
      pub good : kinds_ok kb ≡ true

    ok_graded : arity ≤ 8 → head_ok arity kinds bs ≡ true → Graded
    unfolding kinds_ok
    ok_graded few h =
        let t = head_tests arity kinds bs h in
        let g : graded kinds ≡ true = go (graded kinds) (eqb (get_or bs 4 0) 4) t.2 (eq-eqb (get_or bs 4 0) 4 four) in
        let v = map kind_byte kinds in
        let rest = drop (length (head arity kinds)) bs in
        let l : length v ≡ arity = length-map kinds kind_byte ∙ t.1 in
        let e : bs ≡ 1 ∷ (0 ∷ (1 ∷ (arity ∷ (4 ∷ ((bytes_of 2 (length v) ++ v) ++ rest))))) = begins_true (head arity kinds) bs t.3 ∙ ap (λ (z : List ℕ). z ++ rest) (head_graded arity kinds g) in
        let p = append_assoc (bytes_of 2 (length v)) v rest in
        let d : drop 7 bs ≡ v ++ rest = ap (drop 7) e ∙ ap (drop 2) p ∙ drop_at (bytes_of 2 (length v)) (v ++ rest) 2 (length_bytes_of 2 (length v)) in
        let k : kb ≡ v = ap (take arity) d ∙ take_at v rest arity l in
        record {
          long = omega (arith, ap length e, length-append (bytes_of 2 (length v) ++ v) rest, length-append (bytes_of 2 (length v)) v, length_bytes_of 2 (length v));
          size = ap (λ (z : List ℕ). number 2 (drop 5 z)) e ∙ ap (number 2) p ∙ number_bytes 2 (length v) (v ++ rest) (small (omega arith)) ∙ l;
          good = and_true (same kb (map kind_byte (ones kb))) (graded (ones kb)) (same_true (k ∙ ap (map kind_byte) is_kinds)) (ap graded (sym is_kinds) ∙ g);
        }
      where
        go : (x y : Bool) → (x || not y) ≡ true → y ≡ true → x ≡ true
        go true y h e = refl
        go false true h e = h
        go false false h e = e

    pub graded_head : take 3 bs ≡ 1 ∷ (0 ∷ (1 ∷ [])) → arity_ok arity ≡ true → 7 + arity ≤ length bs → number 2 (drop 5 bs) ≡ arity → kinds_ok kb ≡ true → head_len bs ≡ Some (7 + arity)
    unfolding kinds_ok
    graded_head h p l s k =
        let m : kb ≡ map kind_byte (ones kb) = same_is kb (map kind_byte (ones kb)) (and_left (same kb (map kind_byte (ones kb))) (graded (ones kb)) k) in
        let g : graded kinds ≡ true = ap graded is_kinds ∙ and_right (same kb (map kind_byte (ones kb))) (graded (ones kb)) k in
        let v = map kind_byte kinds in
        let w : kb ≡ v = m ∙ ap (map kind_byte) (sym is_kinds) in
        let n : length kinds ≡ arity = ap length is_kinds ∙ length-map kb (λ b. eqb b 1) ∙ length-take-le arity (drop 7 bs) (omega (arith, length-drop 7 bs)) in
        let o : length v ≡ arity = length-map kinds kind_byte ∙ n in
        let q : head arity kinds ≡ 1 ∷ (0 ∷ (1 ∷ (arity ∷ (4 ∷ (bytes_of 2 (length v) ++ v))))) = head_graded arity kinds g in
        let x : drop 4 bs ≡ 4 ∷ drop 5 bs = drop-cons bs 4 0 (omega arith) ∙ ap (λ (z : ℕ). z ∷ drop 5 bs) four in
        let y : drop 5 bs ≡ bytes_of 2 (length v) ++ drop 7 bs =
        sym (take-append-drop 2 (drop 5 bs)) ∙ ap₂ {C = List ℕ} ◌++◌ (sym (bytes_number 2 (drop 5 bs) (bytes_drop 5 bs b) (omega (arith, length-drop 5 bs))) ∙ ap (bytes_of 2) (s ∙ sym o)) (drop-drop 2 5 bs) in
        let z : drop 7 bs ≡ v ++ drop arity (drop 7 bs) = sym (take-append-drop arity (drop 7 bs)) ∙ ap (λ (u : List ℕ). u ++ drop arity (drop 7 bs)) w in
        let e : bs ≡ (1 ∷ (0 ∷ (1 ∷ (arity ∷ (4 ∷ (bytes_of 2 (length v) ++ v)))))) ++ drop arity (drop 7 bs) =
        front (omega arith) h ∙
        ap (λ (u : List ℕ). 1 ∷ (0 ∷ (1 ∷ (arity ∷ u)))) (x ∙ ap (λ (u : List ℕ). 4 ∷ u) (y ∙ ap (λ (u : List ℕ). bytes_of 2 (length v) ++ u) z ∙ sym (append_assoc (bytes_of 2 (length v)) v (drop arity (drop 7 bs))))) in
        let f : begins (head arity kinds) bs ≡ true = subst (λ (u : List ℕ). begins u bs ≡ true) (sym q) (subst (λ (u : List ℕ). begins (1 ∷ (0 ∷ (1 ∷ (arity ∷ (4 ∷ (bytes_of 2 (length v) ++ v)))))) u ≡ true) (sym e) (begins_append (1 ∷ (0 ∷ (1 ∷ (arity ∷ (4 ∷ (bytes_of 2 (length v) ++ v)))))) (drop arity (drop 7 bs)))) in
        len_some (head_ok_lem arity kinds bs p n (ap (λ (u : Bool). u || not (eqb (get_or bs 4 0) 4)) g) f) ∙ ap Some (ap length q ∙ omega (arith, length-append (bytes_of 2 (length v)) v, length_bytes_of 2 (length v)))

    pub no_long : arity ≤ 8 → length bs < 7 + arity → head_len bs ≡ None
    no_long few h = len_none (λ k. omega (arith, (ok_graded few k).long))

    pub no_size : arity ≤ 8 → (number 2 (drop 5 bs) ≡ arity → ⊥) → head_len bs ≡ None
    no_size few n = len_none (λ k. n (ok_graded few k).size)

    pub no_kinds : arity ≤ 8 → kinds_ok kb ≡ false → head_len bs ≡ None
    no_kinds few h = len_none (λ k. not_both (kinds_ok kb) (ok_graded few k).good h)
