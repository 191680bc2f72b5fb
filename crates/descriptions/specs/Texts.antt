-- Texts of 32 characters in four places: the merging of lists of them, and each function's result for every input.
use Rattle.std.specs.Prelude.{ℕ, zero, suc, ◌*◌, min, List, [], ◌∷◌, ◌++◌, length, take, drop, ltb}
use Rattle.machine.specs.Lists.{pick, spaces}
use Rattle.field.specs.Filled.{filled_to}
use Rattle.descriptions.specs.declared.Descriptions.{Descriptions}

-- THE MERGING of lists of texts: 'the fixed ones, then the item's own, cut to the first four, or three with a reference'
abbrev pub merge_of : ℕ → List (List ℕ) → List (List ℕ) → List (List ℕ)
merge_of limit fixed own = take limit (fixed ++ own)

-- ## In places

abbrev pub places : ℕ
places = 4

-- the first n texts of these bytes
abbrev pub texts_in : ℕ → List ℕ → List (List ℕ)
texts_in zero l = []
texts_in (suc n) l = take 32 l ∷ texts_in n (drop 32 l)

-- a count above the places counts as they do
abbrev pub texts_of : Descriptions → List (List ℕ)
texts_of d = texts_in (min d.count places) d.text

abbrev pub joined : List (List ℕ) → List ℕ
joined [] = []
joined (t ∷ ts) = t ++ joined ts

-- texts in the first places of a room, and what stands in its other places
abbrev pub in_places : List ℕ → List (List ℕ) → Descriptions
in_places room ts = record { text = joined ts ++ drop (32 * length ts) room; count = length ts }

-- 'unused places with spaces'
abbrev pub no_texts : Descriptions
no_texts = record { text = spaces 128; count = 0 }

-- a limit above the places counts as they do
unfoldable pub merged : Descriptions → Descriptions → ℕ → Descriptions
merged fixed own limit = in_places (spaces 128) (merge_of (min limit places) (texts_of fixed) (texts_of own))

-- the first 32 characters, filled with spaces
abbrev pub text_from : List ℕ → List ℕ
text_from t = filled_to 32 t

-- one more text, where a place is left
unfoldable pub with_text : Descriptions → List ℕ → Descriptions
with_text d t = pick (ltb d.count places) (in_places d.text (texts_of d ++ (text_from t ∷ []))) d
