-- Of theorems: one outcome for each list of arguments, by what a contract promises alone. `Post` is of the arguments, the answer, and the arguments as they are at the return.
use Rattle.std.specs.Prelude.{◌≡◌}

-- of a call that writes nothing: one answer
abbrev pub OneAnswer : {A R E : Type 0} → (A → R → E → Type 0) → Type 0
OneAnswer {A} {R} {E} Post = (args : A) (r₁ r₂ : R) (e₁ e₂ : E) → Post args r₁ e₁ → Post args r₂ e₂ → r₁ ≡ r₂

-- of a call that writes: one answer, and what it leaves of the words lent, which `left` finds among the arguments at the return
abbrev pub OneOutcome : {A R E W : Type 0} → (A → R → E → Type 0) → (E → W) → Type 0
OneOutcome {A} {R} {E} Post left = (args : A) (r₁ r₂ : R) (e₁ e₂ : E) → Post args r₁ e₁ → Post args r₂ e₂ → (r₁ ≡ r₂) × (left e₁ ≡ left e₂)
