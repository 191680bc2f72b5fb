-- 01's example: its nine lines, and the file that they are.
use Rattle.std.specs.Prelude.{List, [], ◌∷◌, ◌++◌, ℕ, take}
use Rattle.std.proofs.Math.Option.{none, some}
use Prim.Native.String.{String}
use Rattle.machine.specs.Lists.{spaces}
use Rattle.machine.specs.Texts.{characters}
use Rattle.format.specs.Language.{Item, Batch, File}
use Rattle.format.specs.declared.Group.TheVariants.{Payments}

-- so many characters of a text, filled with spaces
abbrev pub padded_to : ℕ → String → List ℕ
padded_to w t = take w (characters t ++ spaces w)

-- lines of 50 characters, each with that end
abbrev pub text_lines : List ℕ → List String → List ℕ
text_lines end [] = []
text_lines end (t ∷ ts) = padded_to 50 t ++ (end ++ text_lines end ts)

-- 'either 13, 10 or 10 alone'
abbrev pub end1310 : List ℕ
end1310 = 13 ∷ 10 ∷ []

abbrev pub end10 : List ℕ
end10 = 10 ∷ []

abbrev pub example : List ℕ → List ℕ
example end =
    text_lines end
    ("0001A150309CLIEOP03NACHT15011"
    ∷ "0010B0001234567890001EUR"
    ∷ "0020ASALARIS MAART"
    ∷ "0030B1000000                                   P"
    ∷ "0100A000800000015000001234567890111111110"
    ∷ "0100A000300000000255001234567890000001234"
    ∷ "0170BJ DE VRIES"
    ∷ "9990A00000000000015255003580259220000002"
    ∷ "9999A"
    ∷ [])

abbrev pub salary : Item
salary = record { type = characters "0008"; amount = 150000; payer = 123456789; beneficiary = 111111110; reference = none; descriptions = []; name = none }

abbrev pub unchecked_salary : Item
unchecked_salary =
    record {
      type = characters "0003";
      amount = 2550;
      payer = 123456789;
      beneficiary = 1234;
      reference = none;
      descriptions = [];
      name = some (record { text = padded_to 35 "J DE VRIES"; city = none });
    }

abbrev pub example_batch : Batch
example_batch =
    record {
      account = 123456789;
      sequence = 1;
      identification = none;
      fixed = padded_to 32 "SALARIS MAART" ∷ [];
      name_code = 1;
      desired = 0;
      party = spaces 35;
      test_code = characters "P";
      items = salary ∷ unchecked_salary ∷ [];
    }

abbrev pub example_file : File
example_file = record { created = 150309; sender = characters "NACHT"; identification = characters "1501"; duplicate = 1; group = Payments; batches = example_batch ∷ [] }
