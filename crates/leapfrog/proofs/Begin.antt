-- Algorithm 1 where a run has no key: nothing is sought.
use mathlib.Core.Path.{◌≡◌, refl, sym, ◌∙◌}
use mathlib.Core.Logic.{⊎_elim}
use mathlib.Core.Bool.{Bool, true, false, false≢true}
use mathlib.Core.List.{List, [], ◌∷◌}
use Prim.Native.Nat.{ℕ}
use Rattle.relation.specs.Order.{pick}
use Rattle.relation.specs.Lists.{◌∈◌, not_in_nil, in_cons}
use Rattle.leapfrog.specs.Search.{out, none, stopped, some_none, init_of}
use Rattle.leapfrog.proofs.Steps.{none_is}

pub some_none_lem : (rs : List (List ℕ)) → [] ∈ rs → some_none rs ≡ true
unfolding some_none
some_none_lem [] m = absurd (not_in_nil m)
some_none_lem (r ∷ rs) m = go (λ i. some_none_lem rs i) (none r) refl
  where
    go : ([] ∈ rs → some_none rs ≡ true) → (b : Bool) → none r ≡ b → pick b true (some_none rs) ≡ true
    go ih true q = refl
    go ih false q = ih (⊎_elim (λ (e : [] ≡ r). absurd (false≢true (sym q ∙ none_is r (sym e)))) (λ (i : [] ∈ rs). i) (in_cons m))

pub init_none : (rs : List (List ℕ)) → [] ∈ rs → init_of rs ≡ stopped rs 0 out
unfolding init_of
init_none rs m = simp (some_none_lem rs m)
