-- What Search::line ensures, by the laws of Searching and of field's Picks.
use Rattle.std.proofs.Common.{rules}
use Rattle.format.specs.declared.Kind.TheVariants.{PaymentReference, Description, NamePayer, FixedDescription}
use Rattle.field.proofs.Picks.{pick_yes, pick_no, by_call}
use Rattle.items.specs.Search.{text_of, with_reference, with_own, with_name, with_fixed, referred, described, named, fixed, after_line}
use Rattle.items.proofs.Searching.{told_is}
use Rattle.items.proofs.Search.line.Goals as goal

pub returns-then-begins : goal.returns-then-begins
unfolding after_line
returns-then-begins c = search (pick_yes, pick_no, by_call) depth 20 fits 10000

pub returns-then-begins-2 : goal.returns-then-begins-2
unfolding after_line referred
returns-then-begins-2 c =
    let told = told_is c.args.self (with_reference c.args.self.found (text_of PaymentReference c.args.line.now)) (λ h. let x = c.told.ensures.on h in search rules) c.told.ensures.off in
    search (pick_yes, pick_no, by_call) depth 20 fits 10000

pub returns-then-begins-3 : goal.returns-then-begins-3
unfolding after_line described
returns-then-begins-3 c =
    let told = told_is c.args.self (with_own c.args.self.found (text_of Description c.args.line.now)) (λ h. let x = c.told-then-begins-3.ensures.on h in search rules) c.told-then-begins-3.ensures.off in
    search (pick_yes, pick_no, by_call) depth 20 fits 10000

pub returns-then-is_name : goal.returns-then-is_name
unfolding after_line named
returns-then-is_name c =
    let told = told_is c.args.self (with_name c.args.self.found (text_of NamePayer c.args.line.now)) (λ h. let x = c.told-then-is_name.ensures.on h in search rules) c.told-then-is_name.ensures.off in
    search (pick_yes, pick_no, by_call) depth 20 fits 10000

pub returns-then-begins-4 : goal.returns-then-begins-4
unfolding after_line fixed
returns-then-begins-4 c =
    let told = told_is c.args.self (with_fixed c.args.self.found (text_of FixedDescription c.args.line.now)) (λ h. let x = c.told-then-begins-4.ensures.on h in search rules) c.told-then-begins-4.ensures.off in
    search (pick_yes, pick_no, by_call) depth 20 fits 10000

pub returns-then-is_header : goal.returns-then-is_header
unfolding after_line
returns-then-is_header c = search (pick_yes, pick_no, by_call) depth 20 fits 10000

pub returns : goal.returns
unfolding after_line
returns c = search (pick_yes, pick_no, by_call) depth 20 fits 10000
