-- What the answer of a whole file means: the language's theorem, of an answer.
use Rattle.std.specs.Prelude.{◌≡◌, ◌↔◌, ◌≢◌, true, List, ℕ}
use Rattle.format.specs.Language.{File, file_recs, Reads}
use Rattle.format.specs.Answers.{accepted, is_of_file}
use Rattle.format.specs.Cutting.{AreLines}
use Rattle.format.specs.Statements.{InLanguage, RefusalTells}
use Rattle.format.specs.declared.Answer.{Answer}
use Rattle.file.specs.Counted.{EachCounted}

pub record Means (b : List ℕ) (a : Answer) : Type 0 where
  -- ACCEPTED exactly when the bytes are those of a file of the language
  pub accepted_exactly : (a.number ≡ accepted) ↔ InLanguage b
  -- an acceptance names the number of lines, and no column
  pub accepted_lines : a.number ≡ accepted → AreLines a.line b × (a.column ≡ 0)
  -- ONE READING: no two files have these bytes
  pub one_reading : (f g : File) → Reads b f → Reads b g → f ≡ g
  -- EACH ITEM IS COUNTED IN ONE TRAILER, the next after it
  pub each_counted : (f : File) → Reads b f → EachCounted (file_recs f)
  -- WHAT A REFUSAL TELLS: the lines before the one named can be completed, and with it they cannot, unless it is broken or lacking
  pub refusal : a.number ≢ accepted → RefusalTells b a.number a.line
  -- the answers of a file are 0 to 11, and 14
  pub numbers : is_of_file a.number ≡ true
