-- The keys of an atom's rows, by its tables: a plain atom's are its table's; of one that is laid over the first keys are both tables', and under a first key they are its
-- owner's, the school's exactly where a search finds the key in its first column.
use Prim.Native.Nat.{ℕ, suc, ◌≤◌, ◌<◌}
use native.Mathlib.Omega.{arith}
use mathlib.Core.Path.{◌≡◌, refl, sym, subst, ap, ◌∙◌}
use mathlib.Core.Bool.{Bool, true, false, false≢true}
use mathlib.Core.List.{List, [], ◌∷◌}
use lib.ListN.{length, get_or, take, drop, length-drop}
use Rattle.std.specs.Prelude.{Option, Some, is_some, nat_eq}
use Rattle.std.specs.Option.{option_eq}
use borrow.Author.Tests.{eq-eqb, ne_eqb}
use lib.Seq.{drop-cons, get_or-take, length-take-le}
use Rattle.relation.specs.Order.{Row}
use Rattle.relation.specs.Lists.{◌∈◌, hd, not_in_nil, Ascends}
use Rattle.relation.specs.Rows.{Width}
use Rattle.relation.specs.Layers.{keys_under}
use Rattle.relation.specs.Runs.{from}
use Rattle.relation.proofs.Runs.{in_from, from_in, from_ascends, from_least, head_least}
use Rattle.query.specs.Meet.{has}
use Rattle.query.proofs.Beyond.{keys_ascend}
use Rattle.query.proofs.Meet.{has_in, in_has}
use Rattle.column_trie.specs.Table.{rows_in}
use Rattle.overlay.specs.Laid.{owns, laid}
use Rattle.overlay.proofs.Laid.{row_owns, owns_row, key_first, first_key, laid_width, laid_firsts, laid_school, laid_maker}
use Rattle.join_query.specs.Query.{table_at, rows_at}
use Rattle.join_query.specs.declared.Atom.{Atom}
use Rattle.join_query.specs.declared.Tables.{Tables}
use Rattle.join_query.proofs.Accepted.{table_wide, rows_plain, rows_laid}
use Rattle.plain_keys.specs.Keys.{head_of, Readable}
use Rattle.plain_keys.proofs.Heads.{lesser, lesser_merge}
use Rattle.plain_keys.proofs.Found.{missing}

-- ---- a key sought and found

-- a search for k says whether it is one of them
pub asked_has : (k : ℕ) (xs : List ℕ) → Ascends ◌<◌ xs → {x : Option ℕ} → x ≡ head_of (from k xs) → option_eq nat_eq x (Some k) ≡ has xs k
unfolding head_of
asked_has k xs s p = ap (λ (y : Option ℕ). option_eq nat_eq y (Some k)) p ∙ go (from k xs) refl (has xs k) refl
  where
    there : {l : List ℕ} → from k xs ≡ l → k ∈ xs → k ∈ l
    there e m = subst (λ (l : List ℕ). k ∈ l) e (from_in k xs (omega arith) m)

    go : (l : List ℕ) → from k xs ≡ l → (c : Bool) → has xs k ≡ c → option_eq nat_eq (head_of l) (Some k) ≡ has xs k
    go [] e true g = absurd (not_in_nil (there e (has_in xs k g)))
    go [] e false g = sym g
    go (y ∷ l) e true g = eq-eqb y k (omega (arith, head_least (subst (Ascends ◌<◌) e (from_ascends k s)) k (there e (has_in xs k g)), from_least k s (subst (λ (l : List ℕ). y ∈ l) (sym e) (hd refl)))) ∙ sym g
    go (y ∷ l) e false g = ne_eqb y k (λ q. absurd (false≢true (sym g ∙ in_has (subst (λ (z : ℕ). z ∈ xs) q (in_from k xs (subst (λ (l : List ℕ). y ∈ l) (sym e) (hd refl))))))) ∙ sym g

-- ---- an atom

module _ {pool : List ℕ} {ts : Tables} {a : Atom} {len : ℕ} (r : Readable pool ts a len) where
  abbrev school : List Row
  school = rows_in pool (table_at ts a.table)

  abbrev maker : List Row
  maker = rows_in pool (table_at ts a.maker)

  abbrev width : ℕ
  width = (table_at ts a.table).arity

  schools : Width width school
  schools = table_wide r.sound

  module _ (e : a.laid_over ≡ true) where
    makers : Width width maker
    makers = subst (λ (n : ℕ). Width n maker) (sym (r.shape e).arity) (table_wide (r.made e))

    rows_are : rows_at pool ts a ≡ laid school maker
    rows_are = rows_laid pool ts a e

    pub first_heads : (bound : ℕ) {s m : Option ℕ} → s ≡ head_of (from bound (keys_under [] (rows_in pool (table_at ts a.table)))) → m ≡ head_of (from bound (keys_under [] (rows_in pool (table_at ts a.maker)))) → lesser s m ≡ head_of (from bound (keys_under [] (rows_at pool ts a)))
    first_heads bound {s} {m} p q =
        let h : 0 < width = omega (arith, r.short) in
        ap (λ (x : Option ℕ). lesser x m) p
        ∙ ap (lesser (head_of (from bound (keys_under [] school)))) q
        ∙ lesser_merge bound (keys_ascend [] schools h) (keys_ascend [] makers h)
        ∙ ap (λ (l : List ℕ). head_of (from bound l)) (sym (laid_firsts schools makers h) ∙ ap (keys_under []) (sym rows_are))

    -- under some words, the first of them k
    module _ (words : Row) (h : 0 < len) (l : len ≤ length words) where
      abbrev k : ℕ
      k = get_or words 0 0

      split : take len words ≡ k ∷ drop 1 (take len words)
      split = drop-cons (take len words) 0 0 (omega (arith, length-take-le len words l)) ∙ ap (λ (x : ℕ). x ∷ drop 1 (take len words)) (get_or-take len words 0 0 h)

      shorter : suc (length (drop 1 (take len words))) < width
      shorter = omega (arith, r.short, length-take-le len words l, length-drop 1 (take len words))

      owner : (b : Bool) → owns school k ≡ b → k ∈ keys_under [] school → b ≡ true
      owner true o m = refl
      owner false o m =
          let t = key_first schools makers schools (omega (arith, r.short)) m in
          absurd (false≢true (sym o ∙ ap (owns school) (sym t.2) ∙ row_owns t.1))

      other : (b : Bool) → owns school k ≡ b → has (keys_under [] school) k ≡ false → b ≡ false
      other false o z = refl
      other true o z =
          let t = owns_row school k o in
          absurd (false≢true (sym z ∙ in_has (subst (λ (x : ℕ). x ∈ keys_under [] school) t.2 (first_key schools makers schools (omega (arith, r.short)) t.1))))

      keys_split : (rows : List Row) → keys_under (take len words) rows ≡ keys_under (k ∷ drop 1 (take len words)) rows
      keys_split rows = ap (λ (p : Row). keys_under p rows) split

      pub school_owns : has (keys_under [] (rows_in pool (table_at ts a.table))) (get_or words 0 0) ≡ true → keys_under (take len words) (rows_in pool (table_at ts a.table)) ≡ keys_under (take len words) (rows_at pool ts a)
      school_owns z =
          keys_split school
          ∙ sym (laid_school schools makers k (drop 1 (take len words)) shorter (owner (owns school k) refl (has_in (keys_under [] school) k z)))
          ∙ ap (keys_under (k ∷ drop 1 (take len words))) (sym rows_are)
          ∙ sym (keys_split (rows_at pool ts a))

      pub maker_owns : has (keys_under [] (rows_in pool (table_at ts a.table))) (get_or words 0 0) ≡ false → keys_under (take len words) (rows_in pool (table_at ts a.maker)) ≡ keys_under (take len words) (rows_at pool ts a)
      maker_owns z =
          keys_split maker
          ∙ sym (laid_maker schools makers k (drop 1 (take len words)) shorter (other (owns school k) refl z))
          ∙ ap (keys_under (k ∷ drop 1 (take len words))) (sym rows_are)
          ∙ sym (keys_split (rows_at pool ts a))

      -- a key that the school's table has under these words says that it has the first of them
      pub school_found : (bound : ℕ) {x : Option ℕ} → x ≡ head_of (from bound (keys_under (take len words) (rows_in pool (table_at ts a.table)))) → is_some x ≡ true → has (keys_under [] (rows_in pool (table_at ts a.table))) (get_or words 0 0) ≡ true
      unfolding head_of from
      school_found bound {x} p f = go (has (keys_under [] school) k) refl
        where
          go : (b : Bool) → has (keys_under [] school) k ≡ b → b ≡ true
          go true z = refl
          go false z =
              let n = missing words 0 len schools h l r.short (λ m. false≢true (sym z ∙ in_has m)) in
              absurd (false≢true (ap is_some (sym (p ∙ ap (λ (ks : List ℕ). head_of (from bound ks)) n)) ∙ f))

  -- whichever they are, its rows are as wide as its table's
  pub readable_wide : Width (table_at ts a.table).arity (rows_at pool ts a)
  readable_wide = go a.laid_over refl
    where
      go : (b : Bool) → a.laid_over ≡ b → Width width (rows_at pool ts a)
      go true e = subst (Width width) (sym (rows_are e)) (laid_width schools (makers e))
      go false e = subst (Width width) (sym (rows_plain pool ts a e)) schools
