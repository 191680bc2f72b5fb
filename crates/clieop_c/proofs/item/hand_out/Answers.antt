-- What item::hand_out ensures, by the laws of Handing.
use Rattle.clieop_c.proofs.Handing.{lacking_asked, lacking_numbers, lacking_texts, lacking_held, lacking_promised, asked, numbers_kept, numbers_handed, texts_handed, texts_refused, held_handed, held_refused, promised_handed, promised_refused}
use Rattle.clieop_c.proofs.item.hand_out.Goals as goal

pub returns-then-numbers-lt4-clause-answer : goal.returns-then-numbers-lt4-clause-answer
returns-then-numbers-lt4-clause-answer c = search lacking_asked depth 2

pub returns-then-numbers-lt4-clause-numbers : goal.returns-then-numbers-lt4-clause-numbers
returns-then-numbers-lt4-clause-numbers c = search lacking_numbers depth 2

pub returns-then-numbers-lt4-clause-texts : goal.returns-then-numbers-lt4-clause-texts
returns-then-numbers-lt4-clause-texts c = search lacking_texts depth 2

pub returns-then-numbers-lt4-clause-held : goal.returns-then-numbers-lt4-clause-held
returns-then-numbers-lt4-clause-held c = search lacking_held depth 2

pub returns-then-numbers-lt4-clause-meaning : goal.returns-then-numbers-lt4-clause-meaning
returns-then-numbers-lt4-clause-meaning c = search lacking_promised depth 2

pub returns-then-r-eq0-clause-answer : goal.returns-then-r-eq0-clause-answer
returns-then-r-eq0-clause-answer c = search asked depth 2

pub returns-then-r-eq0-clause-numbers : goal.returns-then-r-eq0-clause-numbers
returns-then-r-eq0-clause-numbers c = search numbers_handed depth 2

pub returns-then-r-eq0-clause-texts : goal.returns-then-r-eq0-clause-texts
returns-then-r-eq0-clause-texts c = search texts_handed depth 2

pub returns-then-r-eq0-clause-held : goal.returns-then-r-eq0-clause-held
returns-then-r-eq0-clause-held c = search held_handed depth 2

pub returns-then-r-eq0-clause-meaning : goal.returns-then-r-eq0-clause-meaning
returns-then-r-eq0-clause-meaning c = search promised_handed depth 2

pub returns-else-r-eq0-clause-answer : goal.returns-else-r-eq0-clause-answer
returns-else-r-eq0-clause-answer c = search asked depth 2

pub returns-else-r-eq0-clause-numbers : goal.returns-else-r-eq0-clause-numbers
returns-else-r-eq0-clause-numbers c = search numbers_kept depth 2

pub returns-else-r-eq0-clause-texts : goal.returns-else-r-eq0-clause-texts
returns-else-r-eq0-clause-texts c = search texts_refused depth 2

pub returns-else-r-eq0-clause-held : goal.returns-else-r-eq0-clause-held
returns-else-r-eq0-clause-held c = search held_refused depth 2

pub returns-else-r-eq0-clause-meaning : goal.returns-else-r-eq0-clause-meaning
returns-else-r-eq0-clause-meaning c = search promised_refused depth 2
