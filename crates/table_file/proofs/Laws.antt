-- One table, one file: what is written is read back, and what is read was written.
use Prim.Native.Nat.{ℕ, zero, suc, ◌+◌, ◌-◌, ◌<◌, ◌≤◌}
use mathlib.Core.Path.{◌≡◌, refl, sym, ap, ◌∙◌, subst}
use mathlib.Core.Bool.{Bool, true, false, ◌&&◌, ◌||◌, not}
use mathlib.Core.List.{List, [], ◌∷◌, ◌++◌, map, append_assoc}
use native.Mathlib.Omega.{arith}
use lib.ListN.{length, take, drop, get_or, replicate, length-append, length-map}
use lib.Dec.{eqb, ltb, leb}
use lib.Seq.{drop_at, take_at}
use borrow.Author.Tests.{eqb-true, eq-eqb, ne_eqb, ltb-true, lt-ltb, leb-true, le-leb}
use Rattle.std.proofs.lemmas.Option.{none-some}
use Rattle.std.specs.Prelude.{Option, Some, None}
use Rattle.relation.specs.Order.{Row, before, ◌≺◌}
use Rattle.relation.specs.Lists.{◌∈◌, hd, tl, not_in_nil, anone, amore}
use Rattle.relation.specs.Rows.{Asc}
use Rattle.relation.proofs.Tests.{and_left, and_right, and_true, or_right, T_true, true_T, not_both, every_all, every_at}
use Rattle.relation.proofs.Order.{≺→before, before→≺, trans}
use Rattle.column_trie.specs.Table.{arity_ok}
use Rattle.table_file.specs.Bytes.{bytes_of, begins, Bytes}
use Rattle.table_file.specs.File.{field, kind_byte, graded, kinds_field, head, per_field, rows_field, rows_fields, end, file_of, File, rows_read, kinds_read, ascending, if_ascending, head_ok, parse_as, parse, Table}
use Rattle.table_file.proofs.Numbers.{length_bytes_of, bytes_drop, begins_append, begins_true}
use Rattle.table_file.proofs.Fields.{read_fields, Written, written, end_length}

-- ---- rows that ascend

asc_neighbours : (rs : List Row) → ((i : ℕ) → suc i < length rs → get_or rs i [] ≺ get_or rs (suc i) []) → Asc rs
asc_neighbours [] f = anone
asc_neighbours (r ∷ rs) f = amore (low r rs f) (asc_neighbours rs (λ i h. f (suc i) (omega arith)))
  where
    low : (r : Row) (rs : List Row) → ((i : ℕ) → suc i < length (r ∷ rs) → get_or (r ∷ rs) i [] ≺ get_or (r ∷ rs) (suc i) []) → (q : Row) → q ∈ rs → r ≺ q
    low r [] f q m = absurd (not_in_nil m)
    low r (x ∷ xs) f q (hd e) = subst (λ (z : Row). r ≺ z) (sym e) (f 0 (omega arith))
    low r (x ∷ xs) f q (tl m) = trans (f 0 (omega arith)) (low x xs (λ i h. f (suc i) (omega arith)) q m)

pub neighbours_asc : {rs : List Row} → Asc rs → (i : ℕ) → suc i < length rs → get_or rs i [] ≺ get_or rs (suc i) []
neighbours_asc anone i h = absurd (omega arith)
neighbours_asc (amore {rs = []} f s) zero h = absurd (omega arith)
neighbours_asc (amore {rs = x ∷ xs} f s) zero h = f x (hd refl)
neighbours_asc (amore f s) (suc i) h = neighbours_asc s i (omega arith)

pub asc_ascending : {rows : List Row} → Asc rows → ascending rows ≡ true
unfolding ascending
asc_ascending {rows} s = every_all _ (length rows - 1) (λ i h. T_true _ (≺→before (neighbours_asc s i (omega arith))))

pub ascending_asc : (rows : List Row) → ascending rows ≡ true → Asc rows
unfolding ascending
ascending_asc rows h = asc_neighbours rows (λ i k. before→≺ (get_or rows i []) (get_or rows (suc i) []) (true_T _ (every_at (λ j. before (get_or rows j []) (get_or rows (suc j) [])) (length rows - 1) h i (omega arith))))

-- ---- heads

kinds_back : (ks : List Bool) → map (λ b. eqb b 1) (map kind_byte ks) ≡ ks
kinds_back [] = refl
kinds_back (true ∷ ks) = ap (λ (l : List Bool). true ∷ l) (kinds_back ks)
kinds_back (false ∷ ks) = ap (λ (l : List Bool). false ∷ l) (kinds_back ks)

all_plain : (ks : List Bool) → graded ks ≡ false → ks ≡ replicate (length ks) false
unfolding graded
all_plain [] h = refl
all_plain (true ∷ ks) h = not_both true refl h
all_plain (false ∷ ks) h = ap (λ (l : List Bool). false ∷ l) (all_plain ks h)

pub head_arity : (a : ℕ) (ks : List Bool) (rest : List ℕ) → get_or (head a ks ++ rest) 3 0 ≡ a
unfolding head bytes_of
head_arity a ks rest = refl

pub head_long : (a : ℕ) (ks : List Bool) → 4 ≤ length (head a ks)
unfolding head bytes_of
head_long a ks = omega arith

pub head_graded : (a : ℕ) (ks : List Bool) → graded ks ≡ true → head a ks ≡ 1 ∷ (0 ∷ (1 ∷ (a ∷ field 4 (map kind_byte ks))))
unfolding head kinds_field bytes_of
head_graded a ks h = simp (kinds_field, h)

pub head_plain : (a : ℕ) (ks : List Bool) → graded ks ≡ false → head a ks ≡ 1 ∷ (0 ∷ (1 ∷ (a ∷ [])))
unfolding head kinds_field bytes_of
head_plain a ks h = simp (kinds_field, h)

pub kinds_graded : (a : ℕ) (bs : List ℕ) → get_or bs 4 0 ≡ 4 → kinds_read a bs ≡ map (λ b. eqb b 1) (take a (drop 7 bs))
unfolding kinds_read
kinds_graded a bs h = simp (kinds_read, eq-eqb (get_or bs 4 0) 4 h)

pub kinds_plain : (a : ℕ) (bs : List ℕ) → (get_or bs 4 0 ≡ 4 → ⊥) → kinds_read a bs ≡ replicate a false
unfolding kinds_read
kinds_plain a bs h = simp (kinds_read, ne_eqb (get_or bs 4 0) 4 h)

pub head_kinds : (a : ℕ) (ks : List Bool) (rest : List ℕ) → length ks ≡ a → (get_or rest 0 0 ≡ 4 → ⊥) → kinds_read a (head a ks ++ rest) ≡ ks
head_kinds a ks rest l n = go (graded ks) refl
  where
    v : List ℕ
    v = map kind_byte ks

    go : (b : Bool) → graded ks ≡ b → kinds_read a (head a ks ++ rest) ≡ ks
    go true h =
        let bs : List ℕ = 1 ∷ (0 ∷ (1 ∷ (a ∷ (4 ∷ ((bytes_of 2 (length v) ++ v) ++ rest))))) in
        let e : (bytes_of 2 (length v) ++ v) ++ rest ≡ bytes_of 2 (length v) ++ (v ++ rest) = append_assoc (bytes_of 2 (length v)) v rest in
        let d : drop 7 bs ≡ v ++ rest = ap (drop 2) e ∙ drop_at (bytes_of 2 (length v)) (v ++ rest) 2 (length_bytes_of 2 (length v)) in
        let t : take a (drop 7 bs) ≡ v = ap (take a) d ∙ take_at v rest a (length-map ks kind_byte ∙ l) in
        ap (λ (x : List ℕ). kinds_read a (x ++ rest)) (head_graded a ks h) ∙ kinds_graded a bs refl ∙ ap (map (λ b. eqb b 1)) t ∙ kinds_back ks
    go false h =
        ap (λ (x : List ℕ). kinds_read a (x ++ rest)) (head_plain a ks h) ∙ kinds_plain a (1 ∷ (0 ∷ (1 ∷ (a ∷ rest)))) n ∙
        sym (all_plain ks h ∙ ap (λ (n : ℕ). replicate n false) l)

body_first : (n m : ℕ) (rows : List Row) → get_or (rows_fields n m rows ++ end) 0 0 ≡ 4 → ⊥
unfolding rows_fields rows_field end
body_first zero m rows h = omega arith
body_first (suc n) m [] h = omega arith
body_first (suc n) m (r ∷ rs) h = omega arith

-- ---- parse, by what it tests

pub parse_as_lem : (bs : List ℕ) (a : ℕ) (ks : List Bool) → get_or bs 3 0 ≡ a → kinds_read a bs ≡ ks → parse bs ≡ parse_as a ks bs
unfolding parse
parse_as_lem bs a ks x y = ap (λ (n : ℕ). parse_as n (kinds_read n bs) bs) x ∙ ap (λ (l : List Bool). parse_as a l bs) y

module _ (a : ℕ) (ks : List Bool) (bs : List ℕ) where
  pub parse_open : head_ok a ks bs ≡ true → parse_as a ks bs ≡ if_ascending a ks (rows_read (length bs) a (drop (length (head a ks)) bs))
  unfolding parse_as
  parse_open h = simp (parse_as, h)

  pub parse_shut : head_ok a ks bs ≡ false → parse_as a ks bs ≡ None
  unfolding parse_as
  parse_shut h = simp (parse_as, h)

module _ (a : ℕ) (ks : List Bool) (rows : List Row) where
  pub keeps : ascending rows ≡ true → if_ascending a ks (Some rows) ≡ Some (record { arity = a; kinds = ks; rows = rows })
  keeps h = simp (if_ascending, h)

  pub drops : ascending rows ≡ false → if_ascending a ks (Some rows) ≡ None
  drops h = simp (if_ascending, h)

pub arity_ok_lem : (a : ℕ) → 0 < a → a ≤ 8 → arity_ok a ≡ true
arity_ok_lem a p h = and_true (ltb 0 a) (leb a 8) (lt-ltb 0 a p) (le-leb a 8 h)

-- ---- the laws

-- the tests of a head, in its sequence
module _ (a : ℕ) (ks : List Bool) (bs : List ℕ) where
  abbrev four_ok : Bool
  four_ok = graded ks || not (eqb (get_or bs 4 0) 4)

  pub head_ok_lem : arity_ok a ≡ true → length ks ≡ a → four_ok ≡ true → begins (head a ks) bs ≡ true → head_ok a ks bs ≡ true
  unfolding head_ok
  head_ok_lem p l f h =
      and_true (arity_ok a) (eqb (length ks) a && (four_ok && begins (head a ks) bs)) p
      (and_true (eqb (length ks) a) (four_ok && begins (head a ks) bs) (eq-eqb (length ks) a l) (and_true four_ok (begins (head a ks) bs) f h))

  pub head_tests : head_ok a ks bs ≡ true → (arity_ok a ≡ true) × (length ks ≡ a) × (four_ok ≡ true) × (begins (head a ks) bs ≡ true)
  unfolding head_ok
  head_tests h =
      let q = and_right (arity_ok a) (eqb (length ks) a && (four_ok && begins (head a ks) bs)) h in
      let r = and_right (eqb (length ks) a) (four_ok && begins (head a ks) bs) q in (
        and_left (arity_ok a) (eqb (length ks) a && (four_ok && begins (head a ks) bs)) h,
        eqb-true (length ks) a (and_left (eqb (length ks) a) (four_ok && begins (head a ks) bs) q),
        and_left four_ok (begins (head a ks) bs) r,
        and_right four_ok (begins (head a ks) bs) r,
      )

head_four : (a : ℕ) (ks : List Bool) (rest : List ℕ) → (get_or rest 0 0 ≡ 4 → ⊥) → four_ok a ks (head a ks ++ rest) ≡ true
head_four a ks rest n = go (graded ks) refl
  where
    go : (b : Bool) → graded ks ≡ b → four_ok a ks (head a ks ++ rest) ≡ true
    go true h = ap (λ (b : Bool). b || not (eqb (get_or (head a ks ++ rest) 4 0) 4)) h
    go false h = or_right (graded ks) (not (eqb (get_or (head a ks ++ rest) 4 0) 4)) (ap (λ (l : List ℕ). not (eqb (get_or (l ++ rest) 4 0) 4)) (head_plain a ks h) ∙ ap not (ne_eqb (get_or rest 0 0) 4 n))

pub file_is : (a : ℕ) (ks : List Bool) (rows : List Row) → file_of a ks rows ≡ head a ks ++ (rows_fields (length rows) (per_field a) rows ++ end)
unfolding file_of
file_is a ks rows = refl

pub what_is_written_is_read : (a : ℕ) (ks : List Bool) (rows : List Row) → Table a ks rows → parse (file_of a ks rows) ≡ Some (record { arity = a; kinds = ks; rows = rows })
what_is_written_is_read a ks rows t =
    let body : List ℕ = rows_fields (length rows) (per_field a) rows ++ end in
    let bs : List ℕ = head a ks ++ body in
    let y : kinds_read a bs ≡ ks = head_kinds a ks body t.kinds (body_first (length rows) (per_field a) rows) in
    let d : drop (length (head a ks)) bs ≡ body = drop_at (head a ks) body (length (head a ks)) refl in
    let r : rows_read (length bs) a body ≡ Some rows = read_fields a t.some t.few (length bs) (length rows) rows t.width t.words (omega arith) (omega (arith, length-append (head a ks) body)) in
    ap parse (file_is a ks rows) ∙
    parse_as_lem bs a ks (head_arity a ks body) y ∙
    parse_open a ks bs (head_ok_lem a ks bs (arity_ok_lem a t.some t.few) t.kinds (head_four a ks body (body_first (length rows) (per_field a) rows)) (begins_append (head a ks) body)) ∙
    ap (if_ascending a ks) (ap (rows_read (length bs) a) d ∙ r) ∙
    keeps a ks rows (asc_ascending t.asc)

-- the kinds of a written file, and that they are there
module _ (a : ℕ) (ks : List Bool) (rows : List Row) (t : Table a ks rows) where
  abbrev body : List ℕ
  body = rows_fields (length rows) (per_field a) rows ++ end

  pub file_kinds : kinds_read a (file_of a ks rows) ≡ ks
  file_kinds = ap (kinds_read a) (file_is a ks rows) ∙ head_kinds a ks body t.kinds (body_first (length rows) (per_field a) rows)

  pub kinds_inside : get_or (file_of a ks rows) 4 0 ≡ 4 → 7 + a ≤ length (file_of a ks rows)
  kinds_inside h = go (graded ks) refl
    where
      go : (b : Bool) → graded ks ≡ b → 7 + a ≤ length (file_of a ks rows)
      go true g =
          let e : length (head a ks) ≡ suc (suc (suc (suc (suc (length (bytes_of 2 (length (map kind_byte ks)) ++ map kind_byte ks)))))) = ap length (head_graded a ks g) in
          omega (arith, ap length (file_is a ks rows), length-append (head a ks) body, e, length-append (bytes_of 2 (length (map kind_byte ks))) (map kind_byte ks), length_bytes_of 2 (length (map kind_byte ks)), length-map ks kind_byte, t.kinds)
      go false g =
          absurd (body_first (length rows) (per_field a) rows (sym (ap (λ (x : List ℕ). get_or x 4 0) (file_is a ks rows ∙ ap (λ (x : List ℕ). x ++ body) (head_plain a ks g))) ∙ h))

  pub file_long : 7 ≤ length (file_of a ks rows)
  file_long =
      omega (arith, ap length (file_is a ks rows), length-append (head a ks) body, length-append (rows_fields (length rows) (per_field a) rows) end, end_length, head_long a ks)

-- what the head's tests say
pub record Headed (a : ℕ) (ks : List Bool) (bs : List ℕ) : Type 0 where
  pub some : 0 < a
  pub few : a ≤ 8
  pub kinds : length ks ≡ a
  pub front : bs ≡ head a ks ++ drop (length (head a ks)) bs

pub headed : (a : ℕ) (ks : List Bool) (bs : List ℕ) → head_ok a ks bs ≡ true → Headed a ks bs
headed a ks bs h =
    let t = head_tests a ks bs h in
    record { some = ltb-true 0 a (and_left (ltb 0 a) (leb a 8) t.0); few = leb-true a 8 (and_right (ltb 0 a) (leb a 8) t.0); kinds = t.1; front = begins_true (head a ks) bs t.3 }

module _ (a : ℕ) (ks : List Bool) (bs : List ℕ) (b : Bytes bs) where
  read_as : (t : File) → parse_as a ks bs ≡ Some t → (bs ≡ file_of t.arity t.kinds t.rows) × Table t.arity t.kinds t.rows
  read_as t h = go (head_ok a ks bs) refl
    where
      body : List ℕ
      body = drop (length (head a ks)) bs

      is : (rows : List Row) → Headed a ks bs → rows_read (length bs) a body ≡ Some rows → ascending rows ≡ true → t ≡ record { arity = a; kinds = ks; rows = rows } →
          (bs ≡ file_of t.arity t.kinds t.rows) × Table t.arity t.kinds t.rows
      is rows k r s e =
          let w : Written a body rows = written a k.some (length bs) body rows (bytes_drop (length (head a ks)) bs b) r in
          subst (λ (t : File). (bs ≡ file_of t.arity t.kinds t.rows) × Table t.arity t.kinds t.rows) (sym e) (
            k.front ∙ ap (λ (l : List ℕ). head a ks ++ l) (w.fields (length rows) (omega arith)) ∙ sym (file_is a ks rows),
            record { some = k.some; few = k.few; kinds = k.kinds; width = w.width; words = w.words; asc = ascending_asc rows s },
          )

      rise : (rows : List Row) → Headed a ks bs → rows_read (length bs) a body ≡ Some rows → if_ascending a ks (Some rows) ≡ Some t → (x : Bool) → ascending rows ≡ x →
          (bs ≡ file_of t.arity t.kinds t.rows) × Table t.arity t.kinds t.rows
      rise rows k r q true s = is rows k r s (let z : if_ascending a ks (Some rows) ≡ Some (record { arity = a; kinds = ks; rows = rows }) = keeps a ks rows s in let y : t ≡ record { arity = a; kinds = ks; rows = rows } = cc in y)
      rise rows k r q false s = absurd (none-some _ (sym (drops a ks rows s) ∙ q))

      some_rows : (x : Option (List Row)) → Headed a ks bs → rows_read (length bs) a body ≡ x → if_ascending a ks x ≡ Some t → (bs ≡ file_of t.arity t.kinds t.rows) × Table t.arity t.kinds t.rows
      some_rows None k r q = absurd (none-some _ q)
      some_rows (Some rows) k r q = rise rows k r q (ascending rows) refl

      go : (x : Bool) → head_ok a ks bs ≡ x → (bs ≡ file_of t.arity t.kinds t.rows) × Table t.arity t.kinds t.rows
      go true k = some_rows (rows_read (length bs) a body) (headed a ks bs k) refl (sym (parse_open a ks bs k) ∙ h)
      go false k = absurd (none-some _ (sym (parse_shut a ks bs k) ∙ h))

pub what_is_read_was_written : (bs : List ℕ) (t : File) → Bytes bs → parse bs ≡ Some t → (bs ≡ file_of t.arity t.kinds t.rows) × Table t.arity t.kinds t.rows
unfolding parse
what_is_read_was_written bs t b h = read_as (get_or bs 3 0) (kinds_read (get_or bs 3 0) bs) bs b t h

-- so one table has one file: two files of which the same is read are the same bytes
pub one_table_one_file : (bs cs : List ℕ) (t : File) → Bytes bs → Bytes cs → parse bs ≡ Some t → parse cs ≡ Some t → bs ≡ cs
one_table_one_file bs cs t b c h k = (what_is_read_was_written bs t b h).0 ∙ sym (what_is_read_was_written cs t c k).0
