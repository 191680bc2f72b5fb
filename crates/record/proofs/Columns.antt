-- A chain of columns, each read and handed on by `?`, against the rows of a line. Assumes nothing.
use Prim.Native.Nat.{ℕ}
use mathlib.Core.Path.{◌≡◌, refl, sym, ap, ◌∙◌}
use mathlib.Core.List.{List, [], ◌∷◌}
use mathlib.Core.Bool.{true}
use lib.ListN.{take}
use lib.Dec.{eqb, leb}
use Rattle.machine.specs.Lists.{pick}
use Rattle.std.specs.Prelude.{Result, Ok, Err}
use Rattle.machine.specs.Digits.{value_of}
use Rattle.format.specs.Fields.{numeric}
use Rattle.format.specs.Answers.{number_of, number_in}
use Rattle.format.specs.Tests.{Test}
use Rattle.format.specs.declared.Refusal.{Refusal}
use Rattle.format.specs.declared.Refusal.TheVariants.{BrokenLine, UnknownRecord, MisplacedRecord, WrongForm, WrongValue, WrongAccount, Differs, AboveMaximum, WrongTrailer, EndsEarly, AfterTrailer, NoRoom, NoSuchItem, OrdinaryAccount, UntimelyDate, BeyondLimits}
use Rattle.field.specs.Rows.{Row, row, field_answer, first_or}
use Rattle.field.specs.Leaf.{numeric_of, numeric_read}
use Rattle.field.proofs.Results.{HandedOn, handed, refused}
use Rattle.field.proofs.Rows.{row_this, row_next, no_row, of_row, of_value}
use Rattle.record.specs.Faults.{Fault, fault_at, no_fault, fault_read, at_column}
use Rattle.record.specs.Read.{TransactionRead, refused_transaction, fields_read}
use Rattle.record.specs.declared.Fault as code
use Rattle.record.specs.declared.TransactionFields.{TransactionFields}

pub at_number : {A : Type 0} (c : ℕ) (g : Result A Refusal) → (fault_read (at_column c g)).number ≡ number_in g
at_number c (Ok x) = refl
at_number c (Err r) = refl

pub at_fault : {A : Type 0} (c : ℕ) (g : Result A Refusal) → (number_in g ≡ 0 → ⊥) → fault_read (at_column c g) ≡ fault_at c (number_in g)
at_fault c (Ok x) z = absurd (z refl)
at_fault c (Err r) z = refl

abbrev value_in : {E : Type 0} → Result ℕ E → ℕ
value_in (Ok v) = v
value_in (Err e) = 0

at_value : (c : ℕ) (g : Result ℕ Refusal) → value_in (at_column c g) ≡ (numeric_read g).value
at_value c (Ok v) = refl
at_value c (Err r) = refl

-- ## A column and the rows after it

module _ {A : Type 0} (c n : ℕ) (g : Result A Refusal) (h : Result A code.Fault) (e : h ≡ at_column c g) (s : number_in g ≡ n) where
  is_number : (fault_read h).number ≡ number_in g
  is_number = ap (λ (r : Result A code.Fault). (fault_read r).number) e ∙ at_number c g

  module _ {B : Type 0} (f : ℕ → ℕ → B) (rs : List Row) (a : B) {x : A} (w : h ≡ Ok x) where
    pub passed : {y : B} → y ≡ first_or f rs a → y ≡ first_or f (row c n ∷ rs) a
    passed k = row_next f c rs a n s (sym is_number ∙ ap (λ (r : Result A code.Fault). (fault_read r).number) w) k

  module _ {k : code.Fault} (w : h ≡ Err k) where
    stops : number_in g ≡ 0 → ⊥
    stops z = refused k.refusal (sym (sym is_number ∙ ap (λ (r : Result A code.Fault). (fault_read r).number) w) ∙ z)

    there : fault_at k.column (number_of k.refusal) ≡ fault_at c (number_in g)
    there = sym (ap fault_read w) ∙ ap fault_read e ∙ at_fault c g stops

    module _ (rs : List Row) where
      pub fault_handed : {C : Type 0} (r : Result C code.Fault) → HandedOn r k → fault_read r ≡ first_or fault_at (row c n ∷ rs) no_fault
      fault_handed r i = row_this fault_at c rs no_fault n s stops (ap fault_read (handed r i) ∙ there)

      pub transaction_handed : (a : TransactionRead) (r : Result TransactionFields code.Fault) → HandedOn r k → fields_read r ≡ first_or refused_transaction (row c n ∷ rs) a
      transaction_handed a r i = row_this refused_transaction c rs a n s stops (ap fields_read (handed r i) ∙ ap (λ (t : Fault). refused_transaction t.column t.number) there)

  -- the last column
  pub last_column : (r : Result A code.Fault) → r ≡ h → fault_read r ≡ first_or fault_at (row c n ∷ []) no_fault
  unfolding first_or pick
  last_column r i = ap fault_read (i ∙ e) ∙ by g ∙ ap (λ m. first_or fault_at (row c m ∷ []) no_fault) s
    where
      by : (g : Result A Refusal) → fault_read (at_column c g) ≡ pick (eqb (number_in g) 0) no_fault (fault_at c (number_in g))
      by (Ok x) = refl
      by (Err BrokenLine) = refl
      by (Err UnknownRecord) = refl
      by (Err MisplacedRecord) = refl
      by (Err WrongForm) = refl
      by (Err WrongValue) = refl
      by (Err WrongAccount) = refl
      by (Err Differs) = refl
      by (Err AboveMaximum) = refl
      by (Err WrongTrailer) = refl
      by (Err EndsEarly) = refl
      by (Err AfterTrailer) = refl
      by (Err NoRoom) = refl
      by (Err NoSuchItem) = refl
      by (Err OrdinaryAccount) = refl
      by (Err UntimelyDate) = refl
      by (Err BeyondLimits) = refl

-- the same for any column and any rows after it
pub past : {A : Type 0} {n : ℕ} {h : Result A code.Fault} {x : A} (g : Result A Refusal) → number_in g ≡ n → h ≡ Ok x
    → (c : ℕ) {B : Type 0} (f : ℕ → ℕ → B) (rs : List Row) (a : B) {y : B} → h ≡ at_column c g → y ≡ first_or f rs a → y ≡ first_or f (row c n ∷ rs) a
past g s w c f rs a e k = passed c _ g _ e s f rs a w k

-- ## Numeric columns

numeric_number : (g : Result ℕ Refusal) → number_in g ≡ (numeric_read g).number
numeric_number (Ok v) = refl
numeric_number (Err r) = refl

pub number_row : {ts : List Test} (g : Result ℕ Refusal) (tests : ℕ → List Test) (w : ℕ) (m : List ℕ) → numeric_read g ≡ numeric_of tests (take w m) → leb w 18 ≡ true → tests (value_of (take w m)) ≡ ts → number_in g ≡ field_answer (numeric w) ts (take w m)
number_row g tests w m e h k = numeric_number g ∙ of_row tests w m e h k

pub value_row : (g : Result ℕ Refusal) (tests : ℕ → List Test) (w : ℕ) (m : List ℕ) → numeric_read g ≡ numeric_of tests (take w m) → leb w 18 ≡ true → number_in g ≡ field_answer (numeric w) (tests (value_of (take w m))) (take w m)
value_row g tests w m e h = number_row g tests w m e h refl

-- the value that a column handed on
pub value_handed : {v : ℕ} (g : Result ℕ Refusal) (h : Result ℕ code.Fault) (c : ℕ) (tests : ℕ → List Test) (l : List ℕ) → numeric_read g ≡ numeric_of tests l → h ≡ at_column c g → h ≡ Ok v → v ≡ value_of l
value_handed g h c tests l e i w =
    sym (ap value_in w) ∙ ap value_in i ∙ at_value c g ∙ of_value tests l e (sym (numeric_number g) ∙ sym (is_number c (number_in g) g h i refl) ∙ ap (λ (r : Result ℕ code.Fault). (fault_read r).number) w)

pub ruleset columns = (passed, fault_handed, number_row, no_row)

pub ruleset ends = (passed, last_column, number_row, no_row)
