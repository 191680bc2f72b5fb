-- HOW THE ANSWER IS FOUND: the search for item k of batch b, each from 1, through a file's lines. What to believe of the answer is said in Promises.antt.
use Rattle.std.specs.Prelude.{ℕ, ◌-◌, List, Bool, true, false, take, drop, fold, eqb, None}
use Rattle.machine.specs.Lists.{pick, spaces}
use Rattle.format.specs.declared.Kind.{Kind}
use Rattle.format.specs.declared.Kind.TheVariants.{FixedDescription, Transaction, NamePayer, PaymentReference, Description}
pub use Rattle.field.specs.Filled.{filled_to}
use Rattle.record.specs.Kinds.{begins, is_name, is_header}
use Rattle.record.specs.Read.{transaction_for, text_part, values_of}
use Rattle.record.specs.declared.TransactionFields.{TransactionFields}
use Rattle.descriptions.specs.Texts.{no_texts, with_text}
use Rattle.items.specs.declared.ItemFields.{ItemFields}
use Rattle.items.specs.declared.Found.{Found}
use Rattle.items.specs.declared.Search.{Search}

-- ## What is found

-- 'With a refusal no fields are handed out: numbers are zero, texts spaces'
abbrev pub no_fields : ItemFields
no_fields = record { kind = None; amount = 0; payer = 0; beneficiary = 0; reference = spaces 16; name = spaces 24 }

abbrev pub nothing_found : Found
nothing_found = record { fixed = no_texts; own = no_texts; referred = false; fields = no_fields }

abbrev pub with_item : Found → TransactionFields → Found
with_item f t =
    record {
      fixed = f.fixed;
      own = f.own;
      referred = f.referred;
      fields = record { kind = t.kind; amount = t.amount; payer = t.payer; beneficiary = t.beneficiary; reference = f.fields.reference; name = f.fields.name };
    }

abbrev pub with_fixed : Found → List ℕ → Found
with_fixed f t = record { fixed = with_text f.fixed t; own = f.own; referred = f.referred; fields = f.fields }

abbrev pub with_own : Found → List ℕ → Found
with_own f t = record { fixed = f.fixed; own = with_text f.own t; referred = f.referred; fields = f.fields }

abbrev pub reference_in : ItemFields → List ℕ → ItemFields
reference_in x t = record { kind = x.kind; amount = x.amount; payer = x.payer; beneficiary = x.beneficiary; reference = t; name = x.name }

abbrev pub with_reference : Found → List ℕ → Found
with_reference f t = record { fixed = f.fixed; own = f.own; referred = true; fields = reference_in f.fields (filled_to 16 t) }

abbrev pub name_in : ItemFields → List ℕ → ItemFields
name_in x t = record { kind = x.kind; amount = x.amount; payer = x.payer; beneficiary = x.beneficiary; reference = x.reference; name = t }

-- 'the name's first 24 characters'
abbrev pub with_name : Found → List ℕ → Found
with_name f t = record { fixed = f.fixed; own = f.own; referred = f.referred; fields = name_in f.fields (filled_to 24 t) }

-- the text of a line of that kind
abbrev pub text_of : Kind → List ℕ → List ℕ
text_of k line = take (text_part k).width (drop (text_part k).at line)

-- ## The search

abbrev pub searching : ℕ → ℕ → Bool → Bool → Found → Search
searching batches items inside here f = record { batches = batches; items = items; inside = inside; here = here; found = f }

abbrev pub started : ℕ → ℕ → Search
started batch item = searching batch item false false nothing_found

-- a batch header: the wanted batch is the one with which one was left
abbrev pub headed : Search → Search
headed s = searching (s.batches - 1) s.items (eqb s.batches 1) false s.found

-- a transaction: only those of the wanted batch count
unfoldable pub opened : Search → TransactionFields → Search
opened s t =
    pick s.inside
    (pick (eqb s.items 1) (searching s.batches 0 true true (with_item s.found t))
    (searching s.batches (s.items - 1) true false s.found))
    s

abbrev pub finding : Search → Found → Search
finding s f = searching s.batches s.items s.inside s.here f

-- a fixed description of the wanted batch
unfoldable pub fixed : Search → List ℕ → Search
fixed s t = pick s.inside (finding s (with_fixed s.found t)) s

-- a description, reference or name of the wanted item
unfoldable pub described : Search → List ℕ → Search
described s t = pick s.here (finding s (with_own s.found t)) s

unfoldable pub referred : Search → List ℕ → Search
referred s t = pick s.here (finding s (with_reference s.found t)) s

unfoldable pub named : Search → List ℕ → Search
named s t = pick s.here (finding s (with_name s.found t)) s

-- a line; one of another kind changes nothing
unfoldable pub after_line : Search → List ℕ → Search
after_line s line =
    pick (begins Transaction line) (opened s (transaction_for (values_of Transaction line)))
    (pick (begins PaymentReference line) (referred s (values_of PaymentReference line).0)
    (pick (begins Description line) (described s (values_of Description line).0)
    (pick (is_name line) (named s (values_of NamePayer line).0)
    (pick (begins FixedDescription line) (fixed s (values_of FixedDescription line).0)
    (pick (is_header line) (headed s)
    s)))))

-- lines one after the other
unfoldable pub after_lines : Search → List (List ℕ) → Search
after_lines s lines = fold after_line s lines
