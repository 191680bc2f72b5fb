-- What a refusal tells of a file, in words that know no reader.
use Rattle.std.specs.Prelude.{◌≢◌, List, ◌++◌, ℕ, ◌-◌, ◌≤◌}
use Rattle.format.specs.Language.{File, Reads}
use Rattle.format.specs.Answers.{broken_line, ends_early}
use Rattle.format.specs.Cutting.{first_lines, AreLines}

-- bytes that are some file's
abbrev pub InLanguage : List ℕ → Type 0
InLanguage b = (f : File) × Reads b f

-- bytes that some others make a file's
abbrev pub Completable : List ℕ → Type 0
Completable p = (q : List ℕ) × InLanguage (p ++ q)

-- a refusal with this number, at this line
pub record RefusalTells (b : List ℕ) (number line : ℕ) : Type 0 where
  pub some_line : 1 ≤ line
  -- the lines before the one named are whole lines
  pub lines_before : AreLines (line - 1) (first_lines (line - 1) b)
  -- and can be completed
  pub completable : Completable (first_lines (line - 1) b)
  -- with it they cannot, unless it is broken or lacking
  pub no_further : number ≢ broken_line → number ≢ ends_early → Completable (first_lines line b) → ⊥
