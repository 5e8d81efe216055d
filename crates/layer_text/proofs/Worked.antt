-- The digits at both ends of a word, and the text of a layer without keys, by computation.
use mathlib.Core.Path.{◌≡◌, refl}
use mathlib.Core.List.{[], ◌∷◌}
use Rattle.layer_text.specs.Text.{decimal_in, decimal, others, numbers, lists, layer_text, text_from, text}

pub ends_of_a_word : (decimal 0 ≡ 48 ∷ []) × (decimal 18446744073709551615 ≡ 49 ∷ 56 ∷ 52 ∷ 52 ∷ 54 ∷ 55 ∷ 52 ∷ 52 ∷ 48 ∷ 55 ∷ 51 ∷ 55 ∷ 48 ∷ 57 ∷ 53 ∷ 53 ∷ 49 ∷ 54 ∷ 49 ∷ 53 ∷ [])
unfolding decimal_in
ends_of_a_word = (refl, refl)

pub an_empty_layer : text (lists [] [] ∷ []) ≡ 76 ∷ 65 ∷ 89 ∷ 69 ∷ 82 ∷ 32 ∷ 48 ∷ 10 ∷ 68 ∷ 97 ∷ 116 ∷ 97 ∷ 58 ∷ 32 ∷ 91 ∷ 93 ∷ 10 ∷ 73 ∷ 110 ∷ 116 ∷ 101 ∷ 114 ∷ 118 ∷ 97 ∷ 108 ∷ 58 ∷ 32 ∷ 91 ∷ 93 ∷ 10 ∷ []
unfolding decimal_in others numbers layer_text text_from
an_empty_layer = refl
