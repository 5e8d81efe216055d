-- Public: membership in a list, lists that have an element, and lists that ascend: what rows, keys and listings share.
use Rattle.std.specs.Prelude.{Bool, true, false}
use mathlib.Core.List.{List, [], ◌∷◌, Memᴰ}
pub use mathlib.Core.List.Memᴰ.{cases_cons as in_cons}
pub use mathlib.Core.List.Memᴰ.{head as hd}
pub use mathlib.Core.List.Memᴰ.{not-nil as not_in_nil}
pub use mathlib.Core.List.Memᴰ.{tail as tl}

-- x is one of xs: the library's membership
infix 50 ◌∈◌
abbrev pub ◌∈◌ : {A : Type 0} → A → List A → Type 0
x ∈ xs = Memᴰ x xs

-- xs has an element
abbrev pub nonempty : {A : Type 0} → List A → Bool
nonempty [] = false
nonempty (x ∷ xs) = true

-- each element stands in R to every later one
pub data Ascends {A : Type 0} (R : A → A → Type 0) : List A → Type 0 where
  anone : Ascends R []
  amore : {r : A} {rs : List A} → ((q : A) → q ∈ rs → R r q) → Ascends R rs → Ascends R (r ∷ rs)
