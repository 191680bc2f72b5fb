-- Key=value lines on a page: its bytes, and how far it is filled.
use Rattle.std.specs.Prelude.{ℕ, zero, suc, ◌+◌, ◌-◌, ◌/◌, ◌%◌, List, [], ◌∷◌, ◌++◌, Bool, length, leb, eqb}
use Rattle.machine.specs.Lists.{pick, pasted}
use Rattle.machine.specs.Digits.{decimal}
use Rattle.format.specs.declared.Answer.{Answer}

-- 'Each line ends in byte 10'
abbrev pub line_of : List ℕ → List ℕ → List ℕ
line_of key text = key ++ (text ++ (10 ∷ []))

-- A TEXT ON A PAGE: after what it is filled with; where it has no room it is left out whole
unfoldable pub with_text : List ℕ × ℕ → List ℕ → List ℕ × ℕ
with_text (page, at) line = pick (leb (at + length line) (length page)) (pasted page at line, at + length line) (page, at)

-- without the zeros in front, of which so many may be left out
unfoldable pub without_zeros : ℕ → List ℕ → List ℕ
without_zeros zero l = l
without_zeros (suc k) [] = []
without_zeros (suc k) (c ∷ l) = pick (eqb c 48) (without_zeros k l) (c ∷ l)

-- A NUMBER of at least so many digits: one at any rate, and no more than twenty
unfoldable pub number_text : ℕ → ℕ → List ℕ
number_text least n = without_zeros (19 - (least - 1)) (decimal 20 n)

-- AN AMOUNT OF CENTS as euros: a point before its last two digits
unfoldable pub with_euros : List ℕ × ℕ → ℕ → List ℕ × ℕ
with_euros page cents = with_text (with_text (with_text page (number_text 1 (cents / 100))) (46 ∷ [])) (number_text 2 (cents % 100))

-- answer=, line= and column=
abbrev pub answer_key : List ℕ
answer_key = 97 ∷ 110 ∷ 115 ∷ 119 ∷ 101 ∷ 114 ∷ 61 ∷ []

abbrev pub line_key : List ℕ
line_key = 108 ∷ 105 ∷ 110 ∷ 101 ∷ 61 ∷ []

abbrev pub column_key : List ℕ
column_key = 99 ∷ 111 ∷ 108 ∷ 117 ∷ 109 ∷ 110 ∷ 61 ∷ []

-- THE LAST THREE LINES: 'the last three have no leading zeros'
unfoldable pub with_answer : List ℕ × ℕ → Answer → List ℕ × ℕ
with_answer page a =
    with_text (with_text (with_text page
    (line_of answer_key (number_text 1 a.number)))
    (line_of line_key (number_text 1 a.line)))
    (line_of column_key (number_text 1 a.column))

-- input=
abbrev pub input_key : List ℕ
input_key = 105 ∷ 110 ∷ 112 ∷ 117 ∷ 116 ∷ 61 ∷ []

-- THE NAME OF AN INPUT, where there are several
abbrev pub with_input : List ℕ → List ℕ → Bool → List ℕ × ℕ
with_input page name several = pick several (with_text (page, 0) (line_of input_key name)) (page, 0)
