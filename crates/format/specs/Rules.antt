-- The rules of single values (01, 'Field rules').
use Rattle.std.specs.Prelude.{Bool, true, false, not, ◌&&◌, ◌||◌, List, [], ◌∷◌, ℕ, zero, suc, ◌+◌, ◌*◌, ◌/◌, ◌%◌, take, drop, leb, eqb, Some, None, Option}
use Rattle.machine.specs.Lists.{pick, all, same, is_digit, in_range}
use Rattle.machine.specs.Digits.{value_of}
use Rattle.format.specs.declared.Group.{Group}
use Rattle.format.specs.declared.Group.TheVariants.{Payments, Debits}
use Rattle.format.specs.declared.TransactionType.{TransactionType}
use Rattle.format.specs.declared.TransactionType.TheVariants.{UncheckedCreditor, UncheckedSalary, Creditor, Salary, Debit, UncheckedDebit}

-- ## Maxima

abbrev pub max_amount : ℕ
max_amount = 45378021608

abbrev pub max_total : ℕ
max_total = 4537802160901

abbrev pub max_items : ℕ
max_items = 100000

-- of all batches of a file (02): 'The largest total is 45,373,483,806,849,099 cents', and 999,900,000 items
abbrev pub max_file_amount : ℕ
max_file_amount = 45373483806849099

abbrev pub max_file_items : ℕ
max_file_items = 999900000

-- the largest number of ten digits
abbrev pub max_account : ℕ
max_account = 9999999999

abbrev pub max_sequence : ℕ
max_sequence = 9999

-- the fixed descriptions of a batch
abbrev pub max_fixed : ℕ
max_fixed = 4

-- the descriptions of an item without a reference
abbrev pub max_descriptions : ℕ
max_descriptions = 4

-- by whether there is a reference: 'at most four 0160s, or three if it has a 0150'
abbrev pub most_descriptions : Bool → ℕ
most_descriptions true = 3
most_descriptions false = max_descriptions

-- ## Fixed texts

abbrev pub CLIEOP03 : List ℕ
CLIEOP03 = 67 ∷ 76 ∷ 73 ∷ 69 ∷ 79 ∷ 80 ∷ 48 ∷ 51 ∷ []

abbrev pub EUR : List ℕ
EUR = 69 ∷ 85 ∷ 82 ∷ []

-- P, or T for a test
abbrev pub test_text : Bool → List ℕ
test_text false = 80 ∷ []
test_text true = 84 ∷ []

unfoldable pub is_test_code : List ℕ → Bool
is_test_code t = same t (test_text false) || same t (test_text true)

-- ## Dates: ddmmyy, year 20yy, where every fourth year is a leap year

unfoldable pub days_in : ℕ → ℕ → ℕ
days_in month year =
    pick (eqb month 2) (pick (eqb (year % 4) 0) 29 28)
    (pick (eqb month 4 || (eqb month 6 || (eqb month 9 || eqb month 11))) 30
    31)

unfoldable pub is_date : ℕ → Bool
is_date d = in_range 1 12 (d / 100 % 100) && in_range 1 (days_in (d / 100 % 100) (d % 100)) (d / 10000)

-- 'The desired date may be zeros'
unfoldable pub is_desired_date : ℕ → Bool
is_desired_date d = eqb d 0 || is_date d

-- '21, fewer than zero or more than 30 days' (02), which no file is answered yet
abbrev pub untimely_date : ℕ
untimely_date = 21

-- ## Identification: the creation day, then a counter 01 to 99

unfoldable pub is_identification : List ℕ → Bool
is_identification t = all is_digit t && not (same (drop 2 t) (48 ∷ 48 ∷ []))

unfoldable pub is_of_day : ℕ → List ℕ → Bool
is_of_day date t = eqb (value_of (take 2 t)) (date / 10000)

-- ## Accounts

-- the last k digits of n, the last with weight w, each before it with one more
unfoldable pub weighted : ℕ → ℕ → ℕ → ℕ
weighted zero w n = 0
weighted (suc k) w n = w * (n % 10) + weighted k (suc w) (n / 10)

-- 'as ten digits with weights 10 down to 1, the weighted sum divides by 11'
unfoldable pub is_eleven : ℕ → Bool
is_eleven n = eqb (weighted 10 1 n % 11) 0

-- nine or ten digits
unfoldable pub is_ordering_account : ℕ → Bool
is_ordering_account n = leb 100000000 n && is_eleven n

-- '1 to 9,999,999 is a seven-digit account'; zero is refused before it
abbrev pub is_seven_digits : ℕ → Bool
is_seven_digits n = leb n 9999999

-- seven digits, 'untested', or nine or ten that pass
unfoldable pub is_account : ℕ → Bool
is_account n = is_seven_digits n || is_ordering_account n

-- 'Payer (group 00) or beneficiary (group 10) equals the ordering account': the own account, where it has to be
unfoldable pub is_own_if : Bool → ℕ → ℕ → Bool
is_own_if true own n = eqb n own
is_own_if false own n = true

-- 'gives 0000, 0003 and 1002 to seven-digit accounts only' (02): the other party, where the type is unchecked
unfoldable pub is_seven_if : Bool → ℕ → Bool
is_seven_if true n = is_seven_digits n
is_seven_if false n = true

-- ## Groups and types

abbrev pub group_text : Group → List ℕ
group_text Payments = 48 ∷ 48 ∷ []
group_text Debits = 49 ∷ 48 ∷ []

abbrev pub is_group : List ℕ → Bool
is_group t = same t (group_text Payments) || same t (group_text Debits)

abbrev pub group_of : List ℕ → Group
group_of t = pick (same t (group_text Payments)) Payments Debits

-- 'Name code is 1 or 2, and 1 in group 10'
unfoldable pub is_name_code_in : Group → ℕ → Bool
is_name_code_in Payments n = true
is_name_code_in Debits n = eqb n 1

abbrev pub type_text : TransactionType → List ℕ
type_text UncheckedCreditor = 48 ∷ 48 ∷ 48 ∷ 48 ∷ []
type_text UncheckedSalary = 48 ∷ 48 ∷ 48 ∷ 51 ∷ []
type_text Creditor = 48 ∷ 48 ∷ 48 ∷ 53 ∷ []
type_text Salary = 48 ∷ 48 ∷ 48 ∷ 56 ∷ []
type_text Debit = 49 ∷ 48 ∷ 48 ∷ 49 ∷ []
type_text UncheckedDebit = 49 ∷ 48 ∷ 48 ∷ 50 ∷ []

-- what the four characters of a type stand for: one of the six, or none
abbrev pub TypeRead : Type 0
TypeRead = Option TransactionType

unfoldable pub type_of : List ℕ → TypeRead
type_of t =
    pick (same t (type_text UncheckedCreditor)) (Some UncheckedCreditor)
    (pick (same t (type_text UncheckedSalary)) (Some UncheckedSalary)
    (pick (same t (type_text Creditor)) (Some Creditor)
    (pick (same t (type_text Salary)) (Some Salary)
    (pick (same t (type_text Debit)) (Some Debit)
    (pick (same t (type_text UncheckedDebit)) (Some UncheckedDebit)
    None)))))

abbrev pub is_type : TypeRead → Bool
is_type (Some y) = true
is_type None = false

-- group 00 for the first four, 10 for the others
abbrev pub type_group : TransactionType → Group
type_group UncheckedCreditor = Payments
type_group UncheckedSalary = Payments
type_group Creditor = Payments
type_group Salary = Payments
type_group Debit = Debits
type_group UncheckedDebit = Debits

abbrev pub same_group : Group → Group → Bool
same_group Payments Payments = true
same_group Payments Debits = false
same_group Debits Payments = false
same_group Debits Debits = true

abbrev pub is_type_in : Group → TypeRead → Bool
is_type_in g (Some y) = same_group g (type_group y)
is_type_in g None = false

-- 'Types 0000, 0003 (group 00) and 1002 (group 10) are unchecked'
abbrev pub is_unchecked : TransactionType → Bool
is_unchecked UncheckedCreditor = true
is_unchecked UncheckedSalary = true
is_unchecked Creditor = false
is_unchecked Salary = false
is_unchecked Debit = false
is_unchecked UncheckedDebit = true

abbrev pub is_unchecked_type : TypeRead → Bool
is_unchecked_type (Some y) = is_unchecked y
is_unchecked_type None = false
