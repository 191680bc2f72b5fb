-- The order of records (01, 'Order of records'): which kind may stand in a state.
use Rattle.std.specs.Prelude.{ℕ, Bool, not, ◌&&◌, ◌||◌, ltb, eqb}
use Rattle.format.specs.Rules.{max_fixed, most_descriptions, same_group}
use Rattle.format.specs.declared.Kind.{Kind}
use Rattle.format.specs.declared.Kind.TheVariants.{FileHeader, BatchHeaderB, BatchHeaderC, FixedDescription, OrderingParty, Transaction, NamePayer, CityPayer, PaymentReference, Description, NameBeneficiary, CityBeneficiary, BatchTrailer, FileTrailer}
use Rattle.format.specs.declared.Group.{Group}
use Rattle.format.specs.declared.Group.TheVariants.{Payments, Debits}
use Rattle.reading.specs.declared.Stage.{Stage}
use Rattle.reading.specs.declared.Stage.TheVariants.{Start, Headed, Opened, Ordered, Item, Closed, Done}
use Rattle.reading.specs.declared.Name.{Name}
use Rattle.reading.specs.declared.Name.TheVariants.{Unwanted, Due, Read, Past}
use Rattle.reading.specs.declared.State.{State}

abbrev pub stage_number : Stage → ℕ
stage_number Start = 0
stage_number Headed = 1
stage_number Opened = 2
stage_number Ordered = 3
stage_number Item = 4
stage_number Closed = 5
stage_number Done = 6

abbrev pub is_stage : Stage → Stage → Bool
is_stage a b = eqb (stage_number a) (stage_number b)

abbrev pub name_number : Name → ℕ
name_number Unwanted = 0
name_number Due = 1
name_number Read = 2
name_number Past = 3

abbrev pub is_name : Name → Name → Bool
is_name a b = eqb (name_number a) (name_number b)

-- a batch header: after the file header or a batch
unfoldable pub may_open : Stage → Bool
may_open p = is_stage p Headed || is_stage p Closed

-- '0 to 4 fixed descriptions'
unfoldable pub may_fix : Stage → ℕ → Bool
may_fix p fixed = is_stage p Opened && ltb fixed max_fixed

-- an item that lacks no name may end
unfoldable pub may_end : Stage → Name → Bool
may_end p n = is_stage p Item && not (is_name n Due)

-- a transaction: after the ordering party or an item
unfoldable pub may_pay : Stage → Name → Bool
may_pay p n = is_stage p Ordered || may_end p n

-- a name where it is due, a city where the name was just read, each of its group
unfoldable pub may_name : Group → Name → Stage → Group → Name → Bool
may_name mine wanted p g n = is_stage p Item && (same_group g mine && is_name n wanted)

-- reference and descriptions: before the name in payments, after it in debits
unfoldable pub texts_by : Group → Name → Bool
texts_by Payments n = is_name n Unwanted || is_name n Due
texts_by Debits n = not (is_name n Due)

unfoldable pub may_text : Stage → Group → Name → Bool
may_text p g n = is_stage p Item && texts_by g n

-- '0150 at most once', before the 0160s
unfoldable pub may_refer : Stage → Group → Name → Bool → ℕ → Bool
may_refer p g n reference descriptions = may_text p g n && (not reference && eqb descriptions 0)

unfoldable pub may_describe : Stage → Group → Name → Bool → ℕ → Bool
may_describe p g n reference descriptions = may_text p g n && ltb descriptions (most_descriptions reference)

abbrev pub allowed_by : State → Kind → Bool
allowed_by s FileHeader = is_stage s.stage Start
allowed_by s BatchHeaderB = may_open s.stage
allowed_by s BatchHeaderC = may_open s.stage
allowed_by s FixedDescription = may_fix s.stage s.batch.fixed
allowed_by s OrderingParty = is_stage s.stage Opened
allowed_by s Transaction = may_pay s.stage s.item.name
allowed_by s NamePayer = may_name Debits Due s.stage s.before.group s.item.name
allowed_by s CityPayer = may_name Debits Read s.stage s.before.group s.item.name
allowed_by s PaymentReference = may_refer s.stage s.before.group s.item.name s.item.reference s.item.descriptions
allowed_by s Description = may_describe s.stage s.before.group s.item.name s.item.reference s.item.descriptions
allowed_by s NameBeneficiary = may_name Payments Due s.stage s.before.group s.item.name
allowed_by s CityBeneficiary = may_name Payments Read s.stage s.before.group s.item.name
allowed_by s BatchTrailer = may_end s.stage s.item.name
allowed_by s FileTrailer = is_stage s.stage Closed

unfoldable pub allowed : State → Kind → Bool
allowed s k = allowed_by s k
