-- The text of a line of the log.
use Rattle.std.specs.Prelude.{ℕ, List, [], ◌∷◌, ◌++◌, Option, Some, None, codes}

-- the moment, if there is one, and then what the record says
abbrev pub log_line : Option (List ℕ) → List ℕ → List ℕ
log_line (Some moment) text = moment ++ (codes " " ++ (text ++ codes "\n"))
log_line None text = text ++ codes "\n"
