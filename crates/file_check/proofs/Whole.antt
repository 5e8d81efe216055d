-- The rows of a file where they lie, and the check of a whole file.
use Prim.Native.Nat.{ℕ, suc, ◌+◌, ◌*◌, ◌-◌, ◌<◌, ◌≤◌}
use mathlib.Core.Path.{◌≡◌, refl, sym, ap, ap₂, ◌∙◌, subst}
use mathlib.Core.Bool.{Bool, true, false}
use mathlib.Core.List.{List, []}
use native.Mathlib.Omega.{arith}
use lib.ListN.{length, drop, get_or, length-drop, length-append}
use lib.Seq.{drop-drop}
use Rattle.std.specs.Prelude.{Option, Some, None}
use Rattle.std.proofs.lemmas.Option.{none-some, same_Some}
use Rattle.relation.specs.Tests.{every}
use Rattle.relation.specs.Order.{Row, before}
use Rattle.relation.specs.Lists.{◌∈◌}
use Rattle.relation.proofs.Lists.{get_or_in}
use Rattle.relation.proofs.Tests.{every_none, every_more, every_fails, every_fewer}
use Rattle.table_file.specs.Bytes.{decode, Bytes}
use Rattle.table_file.specs.File.{end, head, kinds_read, head_ok, ascending, if_ascending, parse_as, parse}
use Rattle.table_file.specs.Places.{place}
use Rattle.file_check.specs.Checks.{counted, head_len, given, rows_from, HasRows, checked}
use Rattle.table_file.proofs.Numbers.{bytes_drop}
use Rattle.table_file.proofs.Fields.{Written, written, per_some}
use Rattle.table_file.proofs.Laws.{head_long, headed, parse_open, parse_shut, keeps, drops}
use Rattle.table_file.proofs.Places.{At, row_at, row_read}

-- ---- neighbours in order

abbrev pub in_order : List Row → ℕ → Bool
in_order rows i = before (get_or rows i []) (get_or rows (suc i) [])

pub record Ascended (rows : List Row) (i : ℕ) : Type 0 where
  pub some : 0 < i
  pub upto : every (i - 1) (in_order rows) ≡ true

pub ascended_none : (rows : List Row) → Ascended rows 1
ascended_none rows = record { some = omega arith; upto = every_none (in_order rows) }

-- ---- the rows where they lie

counted_found : (r : Option (List Row)) (n : ℕ) → counted r ≡ Some n → (r ≡ Some (given r)) × (n ≡ length (given r))
counted_found None n h = absurd (none-some n h)
counted_found (Some rows) n h = (refl, sym (same_Some (length rows) n h))

module _ {bytes : List ℕ} {at a n : ℕ} (b : Bytes bytes) (h : HasRows bytes at a n) where
  abbrev rows : List Row
  rows = given (rows_from bytes at a)

  pub how_many : n ≡ length (given (rows_from bytes at a))
  how_many = (counted_found (rows_from bytes at a) n h.rows).1

  w : Written a (drop at bytes) (given (rows_from bytes at a))
  w = written a h.some (length bytes) (drop at bytes) rows (bytes_drop at bytes b) (counted_found (rows_from bytes at a) n h.rows).0

  lies : (i : ℕ) → i < n → At a (get_or (given (rows_from bytes at a)) i []) (drop at bytes) (place a i)
  lies i k =
      subst (λ (z : List ℕ). At a (get_or rows i []) z (place a i)) (sym (w.fields (length rows) (omega arith)))
      (row_at a h.some (per_some a h.some h.few) (length rows) rows end w.width (omega arith) i (omega (arith, how_many)))

  pub row_inside : (i : ℕ) → i < n → at + place a i + 8 * a ≤ length bytes
  row_inside i k = omega (arith, (lies i k).inside, length-drop at bytes, h.inside)

  pub row_is : (i : ℕ) → i < n → decode a (drop (at + place a i) bytes) ≡ get_or (given (rows_from bytes at a)) i []
  row_is i k =
      let m : get_or rows i [] ∈ rows = get_or_in rows i [] (omega (arith, how_many)) in
      ap (decode a) (sym (drop-drop (place a i) at bytes)) ∙ row_read a h.some (per_some a h.some h.few) (lies i k) (w.width (get_or rows i []) m) (w.words (get_or rows i []) m)

  module _ {i : ℕ} {x y : Row} {r : Bool} (s : Ascended (given (rows_from bytes at a)) i) (k : i < n) (p : x ≡ get_or (given (rows_from bytes at a)) (i - 1) []) (q : y ≡ get_or (given (rows_from bytes at a)) i []) (e : r ≡ before x y) where
    test_is : r ≡ in_order (given (rows_from bytes at a)) (i - 1)
    test_is = e ∙ ap₂ before p (q ∙ ap (λ (j : ℕ). get_or rows j []) (let z : i ≡ suc (i - 1) = omega (arith, s.some) in z))

    pub ascended_next : r ≡ true → Ascended (given (rows_from bytes at a)) (i + 1)
    ascended_next t =
        record {
          some = omega arith;
          upto = ap (λ (j : ℕ). every j (in_order rows)) (let z : i + 1 - 1 ≡ i - 1 + 1 = omega (arith, s.some) in z) ∙ every_more (in_order rows) (i - 1) s.upto (sym test_is ∙ t);
        }

    pub ascended_falls : r ≡ false → ascending (given (rows_from bytes at a)) ≡ false
    unfolding ascending
    ascended_falls t = every_fails (in_order rows) (length rows - 1) (i - 1) (omega (arith, how_many, s.some)) (sym test_is ∙ t)

  pub ascended_no_rows : n ≡ 0 → ascending (given (rows_from bytes at a)) ≡ true
  unfolding ascending
  ascended_no_rows z = every_fewer (in_order rows) (length rows - 1) 0 (omega (arith, how_many)) (every_none (in_order rows))

  pub ascended_all : {i : ℕ} → Ascended (given (rows_from bytes at a)) i → n ≤ i → ascending (given (rows_from bytes at a)) ≡ true
  unfolding ascending
  ascended_all {i} s k = every_fewer (in_order rows) (length rows - 1) (i - 1) (omega (arith, how_many)) s.upto

-- ---- the whole file

module _ (bytes : List ℕ) where
  abbrev arity : ℕ
  arity = get_or bytes 3 0

  abbrev kinds : List Bool
  kinds = kinds_read (get_or bytes 3 0) bytes

  -- what a head that is there says
  pub record Begun (body : ℕ) : Type 0 where
    pub some : 0 < arity
    pub few : arity ≤ 8
    pub size : body ≡ length (head arity kinds)
    pub inside : body ≤ length bytes
    pub long : 4 ≤ length bytes
    pub opens : parse bytes ≡ if_ascending arity kinds (rows_from bytes body arity)

  len_true : head_ok arity kinds bytes ≡ true → head_len bytes ≡ Some (length (head arity kinds))
  unfolding head_len
  len_true h = simp (head_len, h)

  len_false : head_ok arity kinds bytes ≡ false → head_len bytes ≡ None
  unfolding head_len
  len_false h = simp (head_len, h)

  pub not_begun : None ≡ head_len bytes → checked (parse bytes) ≡ None
  unfolding parse
  not_begun e = go (head_ok arity kinds bytes) refl
    where
      go : (x : Bool) → head_ok arity kinds bytes ≡ x → checked (parse_as arity kinds bytes) ≡ None
      go true h = absurd (none-some _ (e ∙ len_true h))
      go false h = ap checked (parse_shut arity kinds bytes h)

  pub begun : {body : ℕ} → Some body ≡ head_len bytes → Begun body
  unfolding parse
  begun {body} e = go (head_ok arity kinds bytes) refl
    where
      go : (x : Bool) → head_ok arity kinds bytes ≡ x → Begun body
      go true h =
          let k = headed arity kinds bytes h in
          let l = same_Some body (length (head arity kinds)) (e ∙ len_true h) in
          let m = ap length k.front ∙ length-append (head arity kinds) (drop (length (head arity kinds)) bytes) in
          record {
            some = k.some;
            few = k.few;
            size = l;
            inside = omega arith;
            long = omega (arith, head_long arity kinds);
            opens = parse_open arity kinds bytes h ∙ ap (λ (j : ℕ). if_ascending arity kinds (rows_from bytes j arity)) (sym l);
          }
      go false h = absurd (none-some body (sym (e ∙ len_false h)))

  module _ {body : ℕ} (g : Begun body) where
    not_counted : (r : Option (List Row)) → None ≡ counted r → if_ascending arity kinds r ≡ None
    not_counted None e = refl
    not_counted (Some rows) e = absurd (none-some (length rows) e)

    pub check_rows : None ≡ counted (rows_from bytes body arity) → checked (parse bytes) ≡ None
    check_rows e = ap checked (g.opens ∙ not_counted (rows_from bytes body arity) e)

    module _ {n : ℕ} (e : Some n ≡ counted (rows_from bytes body arity)) where
      pub has_rows : HasRows bytes body arity n
      has_rows = record { some = g.some; few = g.few; inside = g.inside; rows = sym e }

      pub check_falls : ascending (given (rows_from bytes body arity)) ≡ false → checked (parse bytes) ≡ None
      check_falls f =
          let q = counted_found (rows_from bytes body arity) n (sym e) in
          ap checked (g.opens ∙ ap (if_ascending arity kinds) q.0 ∙ drops arity kinds (given (rows_from bytes body arity)) f)

      pub check_good : ascending (given (rows_from bytes body arity)) ≡ true → checked (parse bytes) ≡ Some (record { arity = arity; body = body; rows = n })
      check_good f =
          let q = counted_found (rows_from bytes body arity) n (sym e) in
          ap checked (g.opens ∙ ap (if_ascending arity kinds) q.0 ∙ keeps arity kinds (given (rows_from bytes body arity)) f) ∙
          ap₂ (λ (j k : ℕ). Some (record { arity = arity; body = j; rows = k })) (sym g.size) (sym q.1)
